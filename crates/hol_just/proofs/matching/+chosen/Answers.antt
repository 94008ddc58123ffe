use Rattle.std.proofs.Common.{[], ◌∷◌, ◌≡◌, ap, sym, ◌∙◌, subst, rules}
use Rattle.std.specs.Prelude.{List, ℕ, IfOk}
use Rattle.std.proofs.lemmas.List.{nil_from_length}
use Rattle.hol_types.specs.Tree.{TypeTree}
use Rattle.hol_terms.specs.Nameless.{Nameless, nameless}
use Rattle.hol_formulas.specs.Formula.{implication}
use Rattle.hol_kernel.specs.Given.{Given, assumed}
use Rattle.hol_just.specs.MatchMp.{existentials}
use Rattle.hol_just.specs.Justifies.{LeavesChosen, ClosesByInstance, ClosesByPremise}
use Rattle.hol_just.proofs.MatchChain.{exists_made, closes_next}
use Rattle.hol_just.proofs.matching.+chosen.Goals as goal

pub returns-clause-whole : goal.returns-clause-whole
returns-clause-whole t c =
    let v = c.in-Some.v.now in
    let rest = c.in-Some.rest.now in
    let p = nameless [] c.args.p.now in
    let is : c.args.variables.now ≡ v ∷ rest = search rules in
    subst (λ (vs : List (List ℕ × TypeTree)). nameless [] c.in_ok-whole.whole ≡ existentials vs p) (sym is)
    (ap (nameless []) c.in_ok-whole.ensures.is ∙ exists_made v c.in_ok-inner.inner.whole rest p c.in_ok-inner.ensures.whole)

pub returns-clause-just : goal.returns-clause-just
returns-clause-just t c = λ th own w closes.
    let v = c.in-Some.v.now in
    let rest = c.in-Some.rest.now in
    let p = nameless [] c.args.p.now in
    let is : c.args.variables.now ≡ v ∷ rest = search rules in
    let whole : nameless [] c.in_ok-whole.whole ≡ existentials (v ∷ rest) p = ap (nameless []) c.in_ok-whole.ensures.is ∙ exists_made v c.in_ok-inner.inner.whole rest p c.in_ok-inner.ensures.whole in
    subst (λ (vs : List (List ℕ × TypeTree)). ClosesByPremise th own vs p w c.then_at.new.self) (sym is)
    (closes_next th own p w v rest c.in_ok-just.just c.in_ok-inner.inner.just c.then_at.new.self
    (subst (λ (g : Given). LeavesChosen v g c.in_ok-just.just) (c.in_ok-assumption.ensures ∙ ap assumed whole) c.in_ok-just.ensures) (c.in_ok-inner.ensures.just th own w closes)
    c.in_ok-then_at.ensures)

pub returns-in_default-clause-just : goal.returns-in_default-clause-just
returns-in_default-clause-just t c =
    let none : c.args.variables.now ≡ [] = nil_from_length c.args.variables.now c.in_default.ensures.cases in
    subst
    (λ (vs : List (List ℕ × TypeTree)).
    IfOk c.used.result
    (λ r. (th : Given) (own : List (List ℕ × TypeTree)) (w : Nameless) → ClosesByInstance th own (implication (nameless [] c.args.p.now) w) c.args.closing →
    ClosesByPremise th own vs (nameless [] c.args.p.now) w r.just))
    (sym none) c.used.ensures.just
