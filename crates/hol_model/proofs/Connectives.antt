-- Values of equality, connectives and quantifiers: as truth values say.
use Rattle.std.proofs.Common.{◌≡◌, inl, inr, refl, ap, sym, ◌∙◌, subst, Bool, true, false, not, ◌&&◌, ◌||◌, codes}
use Rattle.std.proofs.lemmas.Bool.{false_from_ne_true}
use Rattle.hol_types.specs.Tree.{TypeTree}
use Rattle.hol_formulas.specs.Equation.{bool_type}
use Rattle.hol_formulas.specs.Formula.{quantifier_type}
use Rattle.hol_model.proofs.Interpretations.{Assignment, truth_value, elements, constant_value, equality_value}
use Rattle.hol_model.proofs.Standard.{connective, imp_value, not_value, standard}
use Rattle.hol_model.proofs.Universes.{Universe}

-- whether two truth values are one
abbrev pub agree : Bool → Bool → Bool
agree true c = c
agree false c = not c

module _ (U : Universe) where
  open U use {Value, Set}
  open U.laws use {is_in, same, same_is, same_self, off, on, off_is_not_on, booleans, off_in, on_in, two, apply, table, tables, apply_table, table_same, table_in}

  abbrev In : Value → Set → Type 0
  In x xs = is_in x xs ≡ true

  -- ---- truth values

  abbrev truth : Bool → Value
  truth = truth_value U

  pub off_is_false : same off on ≡ false
  off_is_false = false_from_ne_true (same off on) (λ q. off_is_not_on (same_is off on q))

  on_is_false : same on off ≡ false
  on_is_false = false_from_ne_true (same on off) (λ q. off_is_not_on (sym (same_is on off q)))

  pub truth_in : (b : Bool) → In (truth_value U b) booleans
  truth_in true = on_in
  truth_in false = off_in

  pub on_test : (b : Bool) → same (truth_value U b) on ≡ b
  on_test true = same_self on
  on_test false = off_is_false

  same_truth : (b c : Bool) → same (truth_value U b) (truth_value U c) ≡ agree b c
  same_truth true true = same_self on
  same_truth true false = on_is_false
  same_truth false true = off_is_false
  same_truth false false = same_self off

  truth_is : (x : Value) → In x booleans → x ≡ truth_value U (same x on)
  truth_is x i = elim (two x i) [
    | inl e ↦ e ∙ sym (ap (truth_value U) (ap (λ z. same z on) e ∙ off_is_false))
    | inr e ↦ e ∙ sym (ap (truth_value U) (ap (λ z. same z on) e ∙ same_self on))
  ]

  -- what holds of both truth values holds of each boolean
  pub by_truth : (P : Value → Type 0) → ((b : Bool) → P (truth_value U b)) → (x : Value) → In x booleans → P x
  by_truth P h x i = subst P (sym (truth_is x i)) (h (same x on))

  pub table_booleans : (f g : Value → Value) → ((b : Bool) → f (truth_value U b) ≡ g (truth_value U b)) → table f booleans ≡ table g booleans
  table_booleans f g h = table_same f g booleans (by_truth (λ x. f x ≡ g x) h)

  -- ---- equality and connectives

  pub eq_apply : (x y : Value) (xs : Set) → In x xs → In y xs → apply (apply (equality_value U xs) x) y ≡ truth_value U (same x y)
  eq_apply x y xs i j = ap (λ (e : Value). apply e y) (apply_table (λ z. table (λ w. truth_value U (same z w)) xs) x xs i) ∙ apply_table (λ w. truth_value U (same x w)) y xs j

  pub equal_truths : (b c : Bool) → apply (apply (equality_value U booleans) (truth_value U b)) (truth_value U c) ≡ truth_value U (agree b c)
  equal_truths b c = eq_apply (truth b) (truth c) booleans (truth_in b) (truth_in c) ∙ ap (truth_value U) (same_truth b c)

  pub connective_is : (f : Bool → Bool → Bool) (b c : Bool) → apply (apply (connective U f) (truth_value U b)) (truth_value U c) ≡ truth_value U (f b c)
  connective_is f b c =
      ap (λ (e : Value). apply e (truth c)) (apply_table (λ x. table (λ y. truth_value U (f (same x on) (same y on))) booleans) (truth b) booleans (truth_in b))
      ∙ apply_table (λ y. truth_value U (f (same (truth b) on) (same y on))) (truth c) booleans (truth_in c)
      ∙ (λ i. truth_value U (f (on_test b i) (on_test c i)))

  pub not_is : (b : Bool) → apply (not_value U) (truth_value U b) ≡ truth_value U (not b)
  not_is b = apply_table (λ x. truth_value U (not (same x on))) (truth b) booleans (truth_in b) ∙ (λ i. truth_value U (not (on_test b i)))

  pub implied : (x y : Value) → In x booleans → In y booleans → (x ≡ on → y ≡ on) → apply (apply (imp_value U) x) y ≡ on
  implied x y i j h = elim (two x i) [
    | inl e ↦ ap (λ (z : Value). apply (apply (imp_value U) z) y) e
        ∙ by_truth (λ z. apply (apply (imp_value U) off) z ≡ on) (λ c. connective_is (λ p q. not p || q) false c) y j
    | inr e ↦ (λ k. apply (apply (imp_value U) (e k)) (h e k)) ∙ connective_is (λ p q. not p || q) true true
  ]

  -- where an implication and its premise are on
  pub detached : (x y : Value) → In y booleans → x ≡ on → apply (apply (imp_value U) x) y ≡ on → y ≡ on
  detached x y j e h = elim (two y j) [
    | inl g ↦ absurd (off_is_not_on (sym (connective_is (λ p q. not p || q) true false) ∙ sym (λ k. apply (apply (imp_value U) (e k)) (g k)) ∙ h))
    | inr g ↦ g
  ]

  -- ---- the universal quantifier

  module _ (d : Assignment U) (a : TypeTree) where
    abbrev Elements : Set
    Elements = elements U (standard U).constructors d a

    abbrev pub forall_at : Value
    forall_at = constant_value U (standard U) d (codes "!") (quantifier_type a)

    -- whether a predicate is that which always holds
    abbrev is_always : Value → Value
    is_always p = apply (apply (equality_value U (tables Elements booleans)) p) (table (λ x. on) Elements)

    forall_is : forall_at ≡ table is_always (tables Elements booleans)
    forall_is = refl

    always_in : In (table (λ x. on) Elements) (tables Elements booleans)
    always_in = table_in (λ x. on) Elements booleans (λ x m. on_in)

    module _ (p : Value → Value) (maps : (x : Value) → In x Elements → In (p x) booleans) where
      p_in : In (table p Elements) (tables Elements booleans)
      p_in = table_in p Elements booleans maps

      forall_test : apply forall_at (table p Elements) ≡ truth_value U (same (table p Elements) (table (λ x. on) Elements))
      forall_test = ap (λ (q : Value). apply q (table p Elements)) forall_is ∙ apply_table is_always (table p Elements) (tables Elements booleans) p_in ∙ eq_apply (table p Elements) (table (λ x. on) Elements) (tables Elements booleans) p_in always_in

      pub forall_in : In (apply forall_at (table p Elements)) booleans
      forall_in = subst (λ (z : Value). In z booleans) (sym forall_test) (truth_in (same (table p Elements) (table (λ x. on) Elements)))

      pub forall_elim : apply forall_at (table p Elements) ≡ on → (x : Value) → In x Elements → p x ≡ on
      forall_elim h x m =
          let is : table p Elements ≡ table (λ y. on) Elements = same_is (table p Elements) (table (λ y. on) Elements) (sym (on_test _) ∙ ap (λ z. same z on) (sym forall_test ∙ h) ∙ same_self on) in
          sym (apply_table p x Elements m) ∙ ap (λ (t : Value). apply t x) is ∙ apply_table (λ y. on) x Elements m

    pub forall_value : (p : Value → Value) → ((x : Value) → In x Elements → p x ≡ on) → apply forall_at (table p Elements) ≡ on
    forall_value p h =
        forall_test p (λ x m. subst (λ (z : Value). In z booleans) (sym (h x m)) on_in)
        ∙ ap (truth_value U) (ap (λ (z : Value). same z (table (λ x. on) Elements)) (table_same p (λ x. on) Elements h) ∙ same_self (table (λ x. on) Elements))

  -- over the booleans it is a conjunction
  pub forall_booleans :
      (d : Assignment U) (p : Value → Value) (f : Bool → Bool) → ((b : Bool) → p (truth_value U b) ≡ truth_value U (f b)) →
      apply (constant_value U (standard U) d (codes "!") (quantifier_type bool_type)) (table p booleans) ≡ truth_value U (f false && f true)
  forall_booleans d p f h = by (f false) refl (f true) refl
    where
      maps : (x : Value) → In x booleans → In (p x) booleans
      maps = by_truth (λ x. In (p x) booleans) (λ b. subst (λ (z : Value). In z booleans) (sym (h b)) (truth_in (f b)))

      -- where it isn't on at one of the two
      fails : (b : Bool) → f b ≡ false → apply (constant_value U (standard U) d (codes "!") (quantifier_type bool_type)) (table p booleans) ≡ off
      fails b e = elim (two _ (forall_in d bool_type p maps)) [
        | inl g ↦ g
        | inr g ↦ absurd (off_is_not_on (sym (h b ∙ ap (truth_value U) e) ∙ forall_elim d bool_type p maps g (truth_value U b) (truth_in b)))
      ]

      holds : f false ≡ true → f true ≡ true → (b : Bool) → p (truth_value U b) ≡ on
      holds e g true = h true ∙ ap (truth_value U) g
      holds e g false = h false ∙ ap (truth_value U) e

      by : (b : Bool) → f false ≡ b → (c : Bool) → f true ≡ c → apply (constant_value U (standard U) d (codes "!") (quantifier_type bool_type)) (table p booleans) ≡ truth_value U (f false && f true)
      by true e true g = forall_value d bool_type p (by_truth (λ x. p x ≡ on) (holds e g)) ∙ sym (λ i. truth_value U (e i && g i))
      by true e false g = fails true g ∙ sym (λ i. truth_value U (e i && g i))
      by false e c g = fails false e ∙ sym (λ i. truth_value U (e i && f true))
