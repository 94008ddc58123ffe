use Rattle.std.proofs.Common.{◌∙◌, ap, [], Some, None, if◌then◌else◌}
use Rattle.hol_terms.specs.Nameless.{free, nameless}
use Rattle.hol_match.proofs.Lookups.{taken_fixed, taken_earlier, taken_new}
use Rattle.hol_match.proofs.matching.take.Goals as goal

pub returns-then-has_variable : goal.returns-then-has_variable
returns-then-has_variable c =
    taken_fixed c.args.fixed.now c.args.found.now c.args.u.now c.args.t.now c.is_variable.result
    (c.has_variable.ensures.lookup ∙ ap (λ b. if b then Some (free c.args.u.now) else None) c.if-has_variable.true) c.is_variable.ensures

pub returns-in-Some : goal.returns-in-Some
returns-in-Some c =
    taken_earlier c.args.fixed.now c.args.found.now c.args.u.now (nameless [] c.in-Some.earlier.now) (nameless [] c.args.t.now) c.alpha_equivalent.result
    (c.has_variable.ensures.lookup ∙ ap (λ b. if b then Some (free c.args.u.now) else None) c.if-has_variable.false) c.in-Some.ensures c.alpha_equivalent.ensures.test

pub returns-in_ok-add_term-in-None : goal.returns-in_ok-add_term-in-None
returns-in_ok-add_term-in-None c =
    taken_new c.args.fixed.now c.args.found.now c.add_term.new.self c.args.u.now (nameless [] c.args.t.now)
    (c.has_variable.ensures.lookup ∙ ap (λ b. if b then Some (free c.args.u.now) else None) c.if-has_variable.false) c.in-None.ensures c.in_ok-add_term-in-None.ensures
