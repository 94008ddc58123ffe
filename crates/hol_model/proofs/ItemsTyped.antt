-- The items of a legal set are well typed over it, in the words of the simple theory of types.
use Rattle.hol_types.specs.Fun.{fun_type}
use Rattle.hol_formulas.specs.Equation.{bool_type}
use Rattle.hol_kernel.specs.Item.{Item, declared_type, declared_constant, defined_constant, defined_type, declared_axiom}
use Rattle.hol_kernel.specs.Items.{Items, Holds}
use Rattle.hol_kernel.specs.Legal.{IsSound, IsLegalSet}
use Rattle.hol_kernel.proofs.Held.{sound_held}
use Rattle.hol_model.specs.WellTyped.{IsItemTyped}
use Rattle.hol_model.proofs.WellTyped.{stands, typed_is}

module _ (items : Items) where
  item_typed : (x : Item) → IsSound items x → IsItemTyped items x
  item_typed (declared_type c n) sound = tt
  item_typed (declared_constant c a) sound = stands items a sound
  item_typed (defined_constant c r) sound = (sound.0, typed_is items r sound.0 sound.1.typed)
  item_typed (defined_type c abs rep p) sound = (sound.1.0, typed_is items p (fun_type sound.1.0 bool_type) sound.1.1.typed)
  item_typed (declared_axiom n p) sound = typed_is items p bool_type sound

pub legal_typed : (items : Items) → IsLegalSet items → (x : Item) → Holds items x → IsItemTyped items x
legal_typed items legal x h = item_typed items x (sound_held items legal x h)
