-- Declared types, declared constants and constant definitions: each has a model over that of the items before it.
use Rattle.std.proofs.Common.{◌≡◌, ℕ, List, [], refl, ap, sym, ◌∙◌, subst, Bool, true, false, cond, ◌||◌, Option, bytes_eq}
use Rattle.std.specs.FinSet as set
use Rattle.std.specs.List.{list_any}
use mathlib.Core.Bool.{true≢false}
use Rattle.std.proofs.lemmas.Bool.{and_parts, or_left}
use Rattle.std.proofs.lemmas.Slice.Eq.{bytes_eq-Decides}
use Rattle.hol_types.specs.Tree.{TypeTree}
use Rattle.hol_terms.specs.Nameless.{Nameless, fixed}
use Rattle.hol_formulas.specs.Equation.{bool_type, equation}
use Rattle.hol_formulas.specs.Constants.{is_instance, is_constant_at}
use Rattle.hol_kernel.specs.Item.{Item, declared_type, declared_constant, defined_constant}
use Rattle.hol_kernel.specs.Items.{Items, Holds}
use Rattle.hol_kernel.specs.Sequent.{no_hyps}
use Rattle.hol_kernel.specs.Signature.{constant_key, has_constant, makes_constant, constant_of}
use Rattle.hol_kernel.specs.Typing.{is_type, HasType}
use Rattle.hol_kernel.specs.Legal.{IsNew, HasNewKeys, IsSound, IsDefinable}
use Rattle.hol_kernel.specs.Theorem.{theorem_over}
use Rattle.hol_kernel.specs.Derivation.{by_definition}
use Rattle.hol_kernel.proofs.Members.{in_insert_here, in_insert_old}
use Rattle.hol_kernel.proofs.ItemOrder.{total, only}
use Rattle.hol_kernel.proofs.Variables.{known_typed}
use Rattle.hol_kernel.proofs.Weaken.{is_type_more, typed_wider}
use Rattle.hol_kernel.proofs.WellTyped.{own_type_stands, theorem_typed}
use Rattle.hol_model.proofs.Interpretations.{Assignment, Interpretation, Valuation, elements, instance_values, constant_value, eval, some_values, value_of, with_constant, with_defined}
use Rattle.hol_model.proofs.Types.{inhabited, instance_itself}
use Rattle.hol_model.proofs.TypeNames.{reflected_among, closed_value}
use Rattle.hol_model.proofs.Models.{HasMeaning, IsFrame, IsTrueIn, IsModel}
use Rattle.hol_model.proofs.Meanings.{IsOfType, meanings_more, defined_fits}
use Rattle.hol_model.proofs.Soundness.{from_equal, typed_passes}
use Rattle.hol_model.proofs.Kept.{KeepsMeanings, eval_kept}
use Rattle.hol_model.proofs.Names.{other_constant}
use Rattle.hol_model.proofs.Extended.{typed_once, extended_frame, extended_model}
use Rattle.hol_model.proofs.Universes.{Universe}

module _ (U : Universe) where
  open U use {Value}
  open U.laws use {first}

  -- each item meets its condition
  abbrev pub AllSound : Items → Type 0
  AllSound items = (y : Item) → Holds items y → IsSound items y

  own_key : (c : List ℕ) → (bytes_eq c c || false) ≡ true
  own_key c = or_left (bytes_eq c c) false ((bytes_eq-Decides c c).1 refl)

  or_none : (a : Bool) → (a || false) ≡ true → a ≡ true
  or_none true e = refl
  or_none false e = e

  -- a constant of one entry, at an instance
  pub meaning_alone :
      (items : Items) (m : Interpretation U) (c : List ℕ) (generic : TypeTree) (value : Assignment U → Value) → is_type items generic ≡ true → IsOfType U m generic value →
      (e : List ℕ) (s : TypeTree) → (is_constant_at e s (c, generic) || false) ≡ true →
      HasMeaning U items m.constructors ((with_constant U c generic value m).generics e) ((with_constant U c generic value m).constants e) s
  meaning_alone items m c generic value stands fits e s h =
      let p = and_parts (bytes_eq e c) (is_instance generic s) (or_none (is_constant_at e s (c, generic)) h) in
      meanings_more U items m (λ d t. false) c generic value (λ d t i. absurd (true≢false (sym i))) stands fits e s (ap (λ b. cond b (is_instance generic s) false) p.0 ∙ p.1)

  module _ (items : Items) (m : Interpretation U) (model : IsModel U items m) (sound : AllSound items) where
    -- ---- one constant more

    module _ (c : List ℕ) (generic : TypeTree) (value : Assignment U → Value) (new : IsNew items (constant_key c)) where
      abbrev Larger : Interpretation U
      Larger = with_constant U c generic value m

      pub constant_keeps : KeepsMeanings U items m Larger
      constant_keeps = record {
        constructors = λ e count h vs. refl;
        generics = λ e s h. ap (λ b. cond b generic (m.generics e)) (other_constant items c e s new h);
        constants = λ e s h d. ap (λ b. cond b (value d) (m.constants e d)) (other_constant items c e s new h);
      }

    -- ---- declared types and constants

    pub declared_type_model : (c : List ℕ) (n : ℕ) → IsModel U (set.insert items (declared_type c n)) m
    declared_type_model c n =
        let x : Item = declared_type c n in
        let keeps : KeepsMeanings U items m m = record { constructors = λ e count h vs. refl; generics = λ e s h. refl; constants = λ e s h d. refl } in
        let frame : IsFrame U (set.insert items x) m = extended_frame U items x m m model keeps model.frame.inhabited (λ e s h. absurd (true≢false (sym h))) in
        extended_model U items x m m model keeps sound frame tt

    abbrev with_declared : List ℕ → TypeTree → Interpretation U
    with_declared c a = with_constant U c a (λ d. first (elements U m.constructors d a)) m

    pub declared_constant_model : (c : List ℕ) (a : TypeTree) → HasNewKeys items (declared_constant c a) → is_type items a ≡ true → IsModel U (set.insert items (declared_constant c a)) (with_declared c a)
    declared_constant_model c a new stands =
        let x : Item = declared_constant c a in
        let more : Items = set.insert items x in
        let value : Assignment U → Value = λ d. first (elements U m.constructors d a) in
        let keeps : KeepsMeanings U items m (with_declared c a) = constant_keeps c a value (new (constant_key c) (own_key c)) in
        let stands_more : is_type more a ≡ true = is_type_more items more (λ y h. in_insert_old total only items x y h) a stands in
        let frame : IsFrame U more (with_declared c a) =
        extended_frame U items x m (with_declared c a) model keeps model.frame.inhabited (meaning_alone more m c a value stands_more (λ d full. inhabited U m.constructors model.frame.inhabited d full a)) in
        extended_model U items x m (with_declared c a) model keeps sound frame tt

    -- ---- constant definitions

    module _ (c : List ℕ) (r : Nameless) (a : TypeTree) (new : HasNewKeys items (defined_constant c r)) (definable : IsDefinable items r a) where
      abbrev X : Item
      X = defined_constant c r

      abbrev More : Items
      More = set.insert items X

      abbrev pub Defined : Interpretation U
      Defined = with_defined U c a r m

      defined_keeps : KeepsMeanings U items m Defined
      defined_keeps = constant_keeps c a (value_of U m r) (new (constant_key c) (own_key c))

      made : (e : List ℕ) (s : TypeTree) → makes_constant e s X ≡ true → (is_constant_at e s (c, a) || false) ≡ true
      made e s h = sym (ap (λ (o : Option TypeTree). list_any (is_constant_at e s) (constant_of c o)) (known_typed items r a definable.typed).1) ∙ h

      defined_frame : IsFrame U More Defined
      defined_frame =
          let stands : is_type More a ≡ true = is_type_more items More (λ y h. in_insert_old total only items X y h) a (own_type_stands items r a definable.typed) in
          let fits : IsOfType U m a (value_of U m r) =
          defined_fits U items m model.frame.inhabited (has_constant items) model.frame.meanings r a (typed_passes U items m model.frame r a definable.typed) (known_typed items r a definable.typed).1 in
          extended_frame U items X m Defined model defined_keeps model.frame.inhabited (λ e s h. meaning_alone More m c a (value_of U m r) stands fits e s (made e s h))

      -- the constant has the value of the term
      defined_value : (d : Assignment U) (f : Valuation U) → constant_value U Defined d c a ≡ eval U Defined d f [] r
      defined_value d f =
          let own : bytes_eq c c ≡ true = (bytes_eq-Decides c c).1 refl in
          let at : Assignment U = instance_values U m.constructors d a a in
          ap (λ b. cond b (value_of U m r (instance_values U m.constructors d (cond b a (m.generics c)) a)) (m.constants c (instance_values U m.constructors d (cond b a (m.generics c)) a))) own
          ∙ closed_value U m at d (some_values U m.constructors at) f r definable.closed (λ b h. instance_itself U m.constructors d a b (reflected_among U r a definable.reflected b h))
          ∙ sym (eval_kept U items m Defined defined_keeps d f f (λ v h. refl) [] r (known_typed items r a definable.typed).0)

      defined_valid : IsTrueIn U Defined (equation a (fixed c a) r)
      defined_valid d full f fit =
          let held : Holds More X = in_insert_here total only items X in
          let typed : HasType More r a = typed_wider items More (λ y h. in_insert_old total only items X y h) r a definable.typed in
          let whole : HasType More (equation a (fixed c a) r) bool_type = (theorem_typed (theorem_over More no_hyps (equation a (fixed c a) r)) (by_definition c r a held typed)).conclusion in
          from_equal U More Defined defined_frame d full f fit a (fixed c a) r whole (defined_value d f)

      pub defined_constant_model : IsModel U More Defined
      defined_constant_model =
          extended_model U items X m Defined model defined_keeps sound defined_frame
          (λ b typed. subst (λ (t : TypeTree). IsTrueIn U Defined (equation t (fixed c t) r)) (typed_once U items More r a b definable.typed typed) defined_valid)
