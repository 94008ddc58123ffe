use Rattle.std.proofs.Common.{◌≡◌, ◌∙◌, ap, ◌++◌, ◌∷◌, [], rules}
use Rattle.hol_terms.specs.Named.{named_type}
use Rattle.hol_terms.specs.Nameless.{nameless}
use Rattle.hol_steps.proofs.AssumptionLaws.{search_next, formula_here, formulas_after, formulas_both, formulas_push}
use Rattle.hol_steps.proofs.assumptions.take_out.Goals as goal

pub search-preserved : goal.search-preserved
search-preserved c =
    let newer = c.search.newer.items in
    let left = c.search.left.now in
    let older = c.in-Some.older.now in
    let p = c.in-Some.p.now in
    let is = c.in-Some.ensures.cases.0 in
    let more : c.push.new.self.items ≡ newer ++ (p ∷ []) = search rules in
    record {
      all = search_next (nameless [] c.args.t.now) c.args.terms.now newer left older p is c.search.invariant.all c.push.new.self.items c.if-alpha_equivalent.ensures.test more;
      formulas = formulas_push newer c.push.new.self.items p more c.search.invariant.formulas (formula_here left older p is c.search.invariant.rest);
      rest = formulas_after left older p is c.search.invariant.rest;
    }

pub returns-then-alpha_equivalent-clause-formula :
    goal.returns-then-alpha_equivalent-clause-formula
returns-then-alpha_equivalent-clause-formula c =
    ap named_type c.in_ok-copy.ensures ∙ formula_here c.search.left.now c.in-Some.older.now c.in-Some.p.now c.in-Some.ensures.cases.0 c.search.invariant.rest

pub returns-then-alpha_equivalent-clause-formulas :
    goal.returns-then-alpha_equivalent-clause-formulas
returns-then-alpha_equivalent-clause-formulas c =
    let newer = c.search.invariant.formulas in
    let older = formulas_after c.search.left.now c.in-Some.older.now c.in-Some.p.now c.in-Some.ensures.cases.0 c.search.invariant.rest in
    let left = c.search.invariant.rest in
    let all = c.in_ok-add_copies.ensures in
    search (formulas_both)
