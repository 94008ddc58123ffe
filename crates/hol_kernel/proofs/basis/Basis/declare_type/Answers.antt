use Rattle.std.proofs.Common.{◌≡◌, refl, ap, sym, ◌∙◌, subst}
use Rattle.std.specs.FinSet as set
use Rattle.hol_kernel.specs.Item.{Item, declared_type}
use Rattle.hol_kernel.specs.Legal.{HasNewKeys}
use Rattle.hol_kernel.proofs.Declared.{type_new, type_taken}
use Rattle.hol_kernel.proofs.basis.Basis.declare_type.Goals as goal

pub returns-then-not-is_new-clause-made : goal.returns-then-not-is_new-clause-made
returns-then-not-is_new-clause-made c = (refl, λ t d. type_taken c.args.self.now c.args.name.now c.args.arity t (sym c.is_new.ensures ∙ c.if-not-is_new.true) d)

pub extended-requires-clause-new : goal.extended-requires-clause-new
extended-requires-clause-new c =
    let is : c.in_ok-item.item ≡ declared_type c.args.name.now c.args.arity = c.in_ok-item.ensures ∙ (λ i. declared_type (c.in_ok-copy.ensures i) c.args.arity) in
    subst (λ (x : Item). HasNewKeys c.args.self.now x) (sym is) (type_new c.args.self.now c.args.name.now c.args.arity (sym c.is_new.ensures ∙ c.if-not-is_new.false))

pub returns-clause-made : goal.returns-clause-made
returns-clause-made c =
    let is : c.in_ok-item.item ≡ declared_type c.args.name.now c.args.arity = c.in_ok-item.ensures ∙ (λ i. declared_type (c.in_ok-copy.ensures i) c.args.arity) in
    (type_new c.args.self.now c.args.name.now c.args.arity (sym c.is_new.ensures ∙ c.if-not-is_new.false), tt, c.in_ok-extended.ensures.is ∙ ap (set.insert c.args.self.now) is)
