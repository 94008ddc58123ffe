use Rattle.std.proofs.Common.{◌≡◌, [], refl, ap, sym, ◌∙◌, subst}
use Rattle.std.specs.FinSet as set
use Rattle.hol_terms.specs.Nameless.{nameless}
use Rattle.hol_kernel.specs.Item.{Item, declared_axiom}
use Rattle.hol_formulas.specs.Equation.{bool_type}
use Rattle.hol_kernel.specs.Legal.{HasNewKeys, IsSound}
use Rattle.hol_kernel.proofs.Declared.{axiom_new, axiom_taken, no_formula, has_type_is}
use Rattle.hol_kernel.proofs.basis.Basis.declare_axiom.Goals as goal

pub returns-then-not-is_new-clause-made : goal.returns-then-not-is_new-clause-made
returns-then-not-is_new-clause-made c = (refl, λ t d. axiom_taken c.args.self.now c.args.name.now (nameless [] c.args.p.now) t (sym c.is_new.ensures ∙ c.if-not-is_new.true) d)

pub returns-then-not-fits-clause-made : goal.returns-then-not-fits-clause-made
returns-then-not-fits-clause-made c = (refl, λ t d. no_formula c.args.self.now c.args.name.now (nameless [] c.args.p.now) t (sym c.in_ok-fits.ensures ∙ c.if-not-fits.true) d)

pub extended-requires-clause-new : goal.extended-requires-clause-new
extended-requires-clause-new c =
    let is : c.in_ok-item.item ≡ declared_axiom c.args.name.now (nameless [] c.args.p.now) = c.in_ok-item.ensures in
    subst (λ (x : Item). HasNewKeys c.args.self.now x) (sym is) (axiom_new c.args.self.now c.args.name.now (nameless [] c.args.p.now) (sym c.is_new.ensures ∙ c.if-not-is_new.false))

pub extended-requires-clause-sound : goal.extended-requires-clause-sound
extended-requires-clause-sound c =
    let is : c.in_ok-item.item ≡ declared_axiom c.args.name.now (nameless [] c.args.p.now) = c.in_ok-item.ensures in
    subst (λ (x : Item). IsSound c.args.self.now x) (sym is) (has_type_is c.args.self.now (nameless [] c.args.p.now) bool_type (sym c.in_ok-fits.ensures ∙ c.if-not-fits.false))

pub returns-clause-made : goal.returns-clause-made
returns-clause-made c =
    let is : c.in_ok-item.item ≡ declared_axiom c.args.name.now (nameless [] c.args.p.now) = c.in_ok-item.ensures in (
      axiom_new c.args.self.now c.args.name.now (nameless [] c.args.p.now) (sym c.is_new.ensures ∙ c.if-not-is_new.false),
      has_type_is c.args.self.now (nameless [] c.args.p.now) bool_type (sym c.in_ok-fits.ensures ∙ c.if-not-fits.false),
      c.in_ok-extended.ensures.is ∙ ap (set.insert c.args.self.now) is,
    )
