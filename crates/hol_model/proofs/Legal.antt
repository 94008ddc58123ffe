-- A legal list of items without axioms has a model in each universe, so that F has no derivation over it which uses what is accepted.
use Rattle.std.proofs.Common.{List, [], ◌∷◌, refl}
use Rattle.std.specs.FinSet as set
use Rattle.hol_formulas.specs.Formula.{falsity}
use Rattle.hol_kernel.specs.Item.{Item, declared_type, declared_constant, defined_constant, defined_type, declared_axiom}
use Rattle.hol_kernel.specs.Items.{Items, item_set}
use Rattle.hol_kernel.specs.Sequent.{no_hyps}
use Rattle.hol_kernel.specs.Legal.{HasNewKeys, IsSound, IsLegal}
use Rattle.hol_kernel.specs.Derivation.{Derives}
use Rattle.hol_kernel.proofs.Held.{sound_held}
use Rattle.hol_kernel.proofs.Members.{in_insert_here, in_insert_old}
use Rattle.hol_kernel.proofs.ItemOrder.{total, only}
use Rattle.hol_model.specs.Infinity.{uses_infinity, member_uses_infinity, members_use_infinity, HasNoAxiom}
use Rattle.hol_model.proofs.Modelled.{HasModel, model_consistent}
use Rattle.hol_model.proofs.Standard.{standard}
use Rattle.hol_model.proofs.Prelude.{standard_model}
use Rattle.hol_model.proofs.NewConstants.{AllSound, declared_type_model, declared_constant_model, defined_constant_model}
use Rattle.hol_model.proofs.NewTypes.{defined_type_model}
use Rattle.hol_model.proofs.Universes.{Universe, Accepts, both_accept}

module _ (U : Universe) where
  -- one item more
  extended_has_model :
      (items : Items) → HasModel U items → AllSound U items → (x : Item) → HasNewKeys items x → (sound : IsSound items x) → HasNoAxiom (set.insert items x) →
      Accepts U (member_uses_infinity items x sound) → HasModel U (set.insert items x)
  extended_has_model items m all (declared_type c n) new sound none avoids = (m.0, declared_type_model U items m.0 m.1 all c n)
  extended_has_model items m all (declared_constant c a) new sound none avoids = (_, declared_constant_model U items m.0 m.1 all c a new sound)
  extended_has_model items m all (defined_constant c r) new sound none avoids = (_, defined_constant_model U items m.0 m.1 all c r sound.0 new sound.1)
  extended_has_model items m all (defined_type c abs rep p) new sound none avoids = (_, defined_type_model U items m.0 m.1 all c abs rep p sound.0 sound.1.0 new sound.1.1 avoids)
  extended_has_model items m all (declared_axiom n p) new sound none avoids = absurd (none n p (in_insert_here total only items (declared_axiom n p)))

  legal_has_model : (order : List Item) (legal : IsLegal order) → HasNoAxiom (item_set order) → Accepts U (members_use_infinity order legal) → HasModel U (item_set order)
  legal_has_model [] legal none avoids = (standard U, standard_model U)
  legal_has_model (x ∷ earlier) legal none avoids =
      let items : Items = item_set earlier in
      let both = both_accept U (member_uses_infinity items x legal.1) (members_use_infinity earlier legal.2) avoids in
      let rest : HasModel U items = legal_has_model earlier legal.2 (λ n p h. none n p (in_insert_old total only items x (declared_axiom n p) h)) both.1 in
      extended_has_model items rest (sound_held items (earlier, legal.2, refl)) x legal.0 legal.1 none both.0

  -- F has no derivation over a legal list of items without axioms that uses what is accepted
  pub never_derived :
      (order : List Item) (legal : IsLegal order) → HasNoAxiom (item_set order) → Accepts U (members_use_infinity order legal) → (t : Derives (item_set order) no_hyps falsity) →
      Accepts U (uses_infinity (item_set order) no_hyps falsity t) → ⊥
  never_derived order legal none avoids t accepted = model_consistent U (item_set order) (legal_has_model order legal none avoids) t accepted
