-- Models: interpretations in which constants have values of their types, and in which the prelude's statements, but INFINITY_AX, and those of the items hold.
use Rattle.std.proofs.Common.{◌≡◌, ℕ, List, [], ap, ◌∙◌, subst, Bool, true, false, codes}
use Rattle.hol_types.specs.Tree.{TypeTree}
use Rattle.hol_types.specs.Fun.{fun_type}
use Rattle.hol_types.specs.Subst.{type_subst}
use Rattle.hol_terms.specs.Nameless.{Nameless, fixed}
use Rattle.hol_formulas.specs.Equation.{bool_type, equality_type, equation}
use Rattle.hol_formulas.specs.Constants.{var_a, is_instance}
use Rattle.hol_formulas.specs.Prelude.{statement_of}
use Rattle.hol_formulas.specs.declared.postulate.Postulate.{Postulate}
use Rattle.hol_formulas.specs.declared.postulate.Postulate.TheVariants.{InfinityAx}
use Rattle.hol_formulas.proofs.Instance.{subst_of_instance}
use Rattle.hol_kernel.specs.Item.{Item, declared_type, declared_constant, defined_constant, defined_type, declared_axiom}
use Rattle.hol_kernel.specs.Items.{Items, Holds}
use Rattle.hol_kernel.specs.Signature.{has_constant, term_tyvars, new_type}
use Rattle.hol_kernel.specs.Typing.{is_type, HasType}
use Rattle.hol_kernel.specs.Bijections.{abs_rep, rep_abs}
use Rattle.hol_model.specs.Infinity.{is_infinity}
use Rattle.hol_model.proofs.Interpretations.{Assignment, Interpretation, Constructors, Valuation, elements, instance_values, constant_value, eval, equality_value}
use Rattle.hol_model.proofs.Types.{IsInhabited, AreInhabited, instance_inhabited, assignment_inst, elements_instance, instance_steady}
use Rattle.hol_model.proofs.Evaluation.{IsFitting, ConstantsFit, AreSteady}
use Rattle.hol_model.proofs.Universes.{Universe, HasInfinity}

module _ (U : Universe) where
  open U use {Value, Set}
  open U.laws use {is_in, same, off, on}

  abbrev In : Value → Set → Type 0
  In x xs = is_in x xs ≡ true

  -- s is an instance of a generic type that stands, and the value is of this type
  pub record HasMeaning (items : Items) (k : Constructors U) (generic : TypeTree) (value : Assignment U → Value) (s : TypeTree) : Type 0 where
    pub instance : is_instance generic s ≡ true
    pub stands : is_type items generic ≡ true
    pub fitting : (d : Assignment U) → IsInhabited U d → In (value d) (elements U k d generic)

  -- each constant that passes the test is so at its instances
  abbrev pub HaveMeanings : Items → Interpretation U → (List ℕ → TypeTree → Bool) → Type 0
  HaveMeanings items m has = (c : List ℕ) (s : TypeTree) → has c s ≡ true → HasMeaning items m.constructors (m.generics c) (m.constants c) s

  pub record IsFrame (items : Items) (m : Interpretation U) : Type 0 where
    pub inhabited : AreInhabited U m.constructors
    pub meanings : HaveMeanings items m (has_constant items)
    pub equality_generic : m.generics (codes "=") ≡ equality_type var_a
    pub equality : (d : Assignment U) → m.constants (codes "=") d ≡ equality_value U (d (codes "A"))

  -- p has the value on in each way
  abbrev pub IsTrueIn : Interpretation U → Nameless → Type 0
  IsTrueIn m p = (d : Assignment U) → IsInhabited U d → (f : Valuation U) → IsFitting U m.constructors d f → eval U m d f [] p ≡ on

  -- what the item says is valid
  abbrev pub Satisfies : Items → Interpretation U → Item → Type 0
  Satisfies items m (declared_type c n) = Unit {0}
  Satisfies items m (declared_constant c a) = Unit {0}
  Satisfies items m (defined_constant c r) = (a : TypeTree) → HasType items r a → IsTrueIn m (equation a (fixed c a) r)
  Satisfies items m (defined_type c abs rep p) =
      (s : TypeTree) → HasType items p (fun_type s bool_type) → IsTrueIn m (abs_rep abs rep s (new_type c (term_tyvars p))) × IsTrueIn m (rep_abs abs rep p s (new_type c (term_tyvars p)))
  Satisfies items m (declared_axiom n p) = IsTrueIn m p

  -- What makes an interpretation a model of the prelude, but for INFINITY_AX, and of the items.
  pub record IsModel (items : Items) (m : Interpretation U) : Type 0 where
    pub frame : IsFrame items m
    pub falsity : (d : Assignment U) → m.constants (codes "F") d ≡ off
    pub infinity : HasInfinity U → IsTrueIn m (statement_of InfinityAx)
    pub postulates : (which : Postulate) → is_infinity which ≡ false → IsTrueIn m (statement_of which)
    pub satisfied : (x : Item) → Holds items x → Satisfies items m x

  -- ---- the constants have values of their types, which instances of types keep

  module _ (items : Items) (m : Interpretation U) (full : AreInhabited U m.constructors) (has : List ℕ → TypeTree → Bool) (meanings : HaveMeanings items m has) where
    pub meanings_fit : (d : Assignment U) → IsInhabited U d → ConstantsFit U m has d
    meanings_fit d h c s e =
        let p = meanings c s e in
        let q = subst_of_instance (m.generics c) s p.instance in
        let own : Assignment U = instance_values U m.constructors d (m.generics c) s in
        let same : elements U m.constructors own (m.generics c) ≡ elements U m.constructors d s =
        subst (λ (t : TypeTree). elements U m.constructors (instance_values U m.constructors d (m.generics c) t) (m.generics c) ≡ elements U m.constructors d t) q.1
        (elements_instance U m.constructors d q.0 (m.generics c)) in
        subst (λ (xs : Set). In (m.constants c own) xs) same (p.fitting own (instance_inhabited U m.constructors full d h (m.generics c) s))

    pub meanings_steady : AreSteady U m has
    meanings_steady pairs d c s e =
        let q = subst_of_instance (m.generics c) s (meanings c s e).instance in
        subst (λ (t : TypeTree). constant_value U m d c (type_subst pairs t) ≡ constant_value U m (assignment_inst U m.constructors pairs d) c t) q.1
        (ap (m.constants c) (instance_steady U m.constructors d pairs q.0 (m.generics c)))

  pub equality_is : (items : Items) (m : Interpretation U) → IsFrame items m → (d : Assignment U) (a : TypeTree) → constant_value U m d (codes "=") (equality_type a) ≡ equality_value U (elements U m.constructors d a)
  equality_is items m frame d a =
      frame.equality (instance_values U m.constructors d (m.generics (codes "=")) (equality_type a))
      ∙ ap (λ generic. equality_value U (instance_values U m.constructors d generic (equality_type a) (codes "A"))) frame.equality_generic
