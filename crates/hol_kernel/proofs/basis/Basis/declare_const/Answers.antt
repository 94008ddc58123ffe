use Rattle.std.proofs.Common.{◌≡◌, refl, ap, sym, ◌∙◌, subst}
use Rattle.std.specs.FinSet as set
use Rattle.hol_kernel.specs.Item.{Item, declared_constant}
use Rattle.hol_kernel.specs.Legal.{HasNewKeys, IsSound}
use Rattle.hol_kernel.proofs.Declared.{constant_new, constant_taken, no_type}
use Rattle.hol_kernel.proofs.basis.Basis.declare_const.Goals as goal

pub returns-then-not-is_new-clause-made : goal.returns-then-not-is_new-clause-made
returns-then-not-is_new-clause-made c = (refl, λ t d. constant_taken c.args.self.now c.args.name.now c.args.ty.now t (sym c.is_new.ensures ∙ c.if-not-is_new.true) d)

pub returns-then-not-is_type-clause-made : goal.returns-then-not-is_type-clause-made
returns-then-not-is_type-clause-made c = (refl, λ t d. no_type c.args.self.now c.args.name.now c.args.ty.now t (sym c.is_type.ensures ∙ c.if-not-is_type.true) d)

pub extended-requires-clause-new : goal.extended-requires-clause-new
extended-requires-clause-new c =
    let is : c.in_ok-item.item ≡ declared_constant c.args.name.now c.args.ty.now = c.in_ok-item.ensures in
    subst (λ (x : Item). HasNewKeys c.args.self.now x) (sym is) (constant_new c.args.self.now c.args.name.now c.args.ty.now (sym c.is_new.ensures ∙ c.if-not-is_new.false))

pub extended-requires-clause-sound : goal.extended-requires-clause-sound
extended-requires-clause-sound c =
    let is : c.in_ok-item.item ≡ declared_constant c.args.name.now c.args.ty.now = c.in_ok-item.ensures in
    subst (λ (x : Item). IsSound c.args.self.now x) (sym is) (sym c.is_type.ensures ∙ c.if-not-is_type.false)

pub returns-clause-made : goal.returns-clause-made
returns-clause-made c =
    let is : c.in_ok-item.item ≡ declared_constant c.args.name.now c.args.ty.now = c.in_ok-item.ensures in (
      constant_new c.args.self.now c.args.name.now c.args.ty.now (sym c.is_new.ensures ∙ c.if-not-is_new.false),
      sym c.is_type.ensures ∙ c.if-not-is_type.false,
      c.in_ok-extended.ensures.is ∙ ap (set.insert c.args.self.now) is,
    )
