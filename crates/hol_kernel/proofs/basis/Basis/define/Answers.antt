use Rattle.std.proofs.Common.{◌≡◌, true, [], refl, ap, sym, ◌∙◌, subst}
use Rattle.std.specs.FinSet as set
use Rattle.hol_terms.specs.Nameless.{nameless}
use Rattle.hol_kernel.specs.Item.{Item, defined_constant}
use Rattle.hol_kernel.specs.Legal.{HasNewKeys, IsSound}
use Rattle.hol_kernel.specs.Defining.{is_definable}
use Rattle.hol_kernel.proofs.Definable.{definable_of, not_definable, definition_new, definition_taken, definition_held, definition_typed}
use Rattle.hol_kernel.proofs.basis.Basis.define.Goals as goal

pub returns-then-not-is_new-clause-made : goal.returns-then-not-is_new-clause-made
returns-then-not-is_new-clause-made c = (refl, λ t d. definition_taken c.args.self.now c.args.name.now (nameless [] c.args.right.now) t.0 t.1 (sym c.is_new.ensures ∙ c.if-not-is_new.true) d)

pub returns-then-not-fits-clause-made : goal.returns-then-not-fits-clause-made
returns-then-not-fits-clause-made c =
    (refl, λ t d. not_definable c.args.self.now c.args.right.now c.type_of-ty.result.now c.type_of-ty.ensures.named c.args.name.now t.0 t.1 (sym c.in_ok-fits.ensures ∙ c.if-not-fits.true) d)

pub extended-requires-clause-new : goal.extended-requires-clause-new
extended-requires-clause-new c =
    let is : c.in_ok-item.item ≡ defined_constant c.args.name.now (nameless [] c.args.right.now) = c.in_ok-item.ensures in
    subst (λ (x : Item). HasNewKeys c.args.self.now x) (sym is) (definition_new c.args.self.now c.args.name.now (nameless [] c.args.right.now) (sym c.is_new.ensures ∙ c.if-not-is_new.false))

pub extended-requires-clause-sound : goal.extended-requires-clause-sound
extended-requires-clause-sound c =
    let is : c.in_ok-item.item ≡ defined_constant c.args.name.now (nameless [] c.args.right.now) = c.in_ok-item.ensures in
    let yes : is_definable c.args.self.now (nameless [] c.args.right.now) c.type_of-ty.result.now ≡ true = sym c.in_ok-fits.ensures ∙ c.if-not-fits.false in
    subst (λ (x : Item). IsSound c.args.self.now x) (sym is) (c.type_of-ty.result.now, definable_of c.args.self.now c.args.right.now c.type_of-ty.result.now c.type_of-ty.ensures.named yes)

pub definition-requires-clause-holds : goal.definition-requires-clause-holds
definition-requires-clause-holds c =
    let is : c.in_ok-item.item ≡ defined_constant c.args.name.now (nameless [] c.args.right.now) = c.in_ok-item.ensures in
    definition_held c.args.self.now c.in_ok-basis.basis c.args.name.now (nameless [] c.args.right.now) (c.in_ok-basis.ensures.is ∙ ap (set.insert c.args.self.now) is)

pub definition-requires-clause-known : goal.definition-requires-clause-known
definition-requires-clause-known c =
    let is : c.in_ok-item.item ≡ defined_constant c.args.name.now (nameless [] c.args.right.now) = c.in_ok-item.ensures in
    let yes : is_definable c.args.self.now (nameless [] c.args.right.now) c.type_of-ty.result.now ≡ true = sym c.in_ok-fits.ensures ∙ c.if-not-fits.false in
    definition_typed c.args.self.now c.in_ok-basis.basis c.args.name.now (nameless [] c.args.right.now) (c.in_ok-basis.ensures.is ∙ ap (set.insert c.args.self.now) is) c.type_of-ty.result.now
    (definable_of c.args.self.now c.args.right.now c.type_of-ty.result.now c.type_of-ty.ensures.named yes).typed

pub returns-clause-made : goal.returns-clause-made
returns-clause-made c =
    let is : c.in_ok-item.item ≡ defined_constant c.args.name.now (nameless [] c.args.right.now) = c.in_ok-item.ensures in
    let yes : is_definable c.args.self.now (nameless [] c.args.right.now) c.type_of-ty.result.now ≡ true = sym c.in_ok-fits.ensures ∙ c.if-not-fits.false in
    record {
      of_type = c.type_of-ty.result.now;
      new = definition_new c.args.self.now c.args.name.now (nameless [] c.args.right.now) (sym c.is_new.ensures ∙ c.if-not-is_new.false);
      definable = definable_of c.args.self.now c.args.right.now c.type_of-ty.result.now c.type_of-ty.ensures.named yes;
      larger = c.in_ok-basis.ensures.is ∙ ap (set.insert c.args.self.now) is;
      gives = c.in_ok-th.ensures;
    }
