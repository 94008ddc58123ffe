-- INFINITY_AX holds where the universe's individuals are infinite.
use Rattle.std.proofs.Common.{◌≡◌, ℕ, inl, inr, List, refl, ap, sym, ◌∙◌, subst, Bool, true, false, not, ◌&&◌, ◌||◌, codes}
use Rattle.std.proofs.lemmas.Bool.{false_from_ne_true}
use Rattle.hol_types.specs.Tree.{TypeTree}
use Rattle.hol_types.specs.Fun.{fun_type}
use Rattle.hol_formulas.specs.Equation.{bool_type}
use Rattle.hol_formulas.specs.Formula.{quantifier_type}
use Rattle.hol_formulas.specs.Prelude.{statement_of, ind_type}
use Rattle.hol_formulas.specs.declared.postulate.Postulate.TheVariants.{InfinityAx}
use Rattle.hol_model.proofs.Universes.{Universe, HasInfinity}
use Rattle.hol_model.proofs.Interpretations.{Assignment, truth_value, elements, constant_value, equality_value}
use Rattle.hol_model.proofs.Standard.{and_value, imp_value, not_value, standard}
use Rattle.hol_model.proofs.Models.{IsTrueIn}
use Rattle.hol_model.proofs.Connectives.{truth_in, by_truth, eq_apply, connective_is, not_is, implied, detached, forall_at, forall_in, forall_elim, forall_value}

module _ (U : Universe) where
  open U use {Value, Set}
  open U.laws use {is_in, same, same_is, same_self, off, on, off_is_not_on, booleans, off_in, two, apply, table, tables, apply_table, table_in, apply_in, individuals}

  abbrev In : Value → Set → Type 0
  In x xs = is_in x xs ≡ true

  abbrev imp : Value → Value → Value
  imp x y = apply (apply (imp_value U) x) y

  imp_in : (x y : Value) → In x booleans → In y booleans → In (imp x y) booleans
  imp_in x y i j =
      by_truth U (λ z. In (imp z y) booleans)
      (λ b. by_truth U (λ z. In (imp (truth_value U b) z) booleans) (λ c. subst (λ (z : Value). In z booleans) (sym (connective_is U (λ p q. not p || q) b c)) (truth_in U (not b || c))) y j) x i

  not_in : (x : Value) → In x booleans → In (apply (not_value U) x) booleans
  not_in = by_truth U (λ z. In (apply (not_value U) z) booleans) (λ b. subst (λ (z : Value). In z booleans) (sym (not_is U b)) (truth_in U (not b)))

  and_in : (x y : Value) → In x booleans → In y booleans → In (apply (apply (and_value U) x) y) booleans
  and_in x y i j =
      by_truth U (λ z. In (apply (apply (and_value U) z) y) booleans)
      (λ b. by_truth U (λ z. In (apply (apply (and_value U) (truth_value U b)) z) booleans) (λ c. subst (λ (z : Value). In z booleans) (sym (connective_is U (λ p q. p && q) b c)) (truth_in U (b && c))) y j) x i

  truth_on : (b : Bool) → truth_value U b ≡ on → b ≡ true
  truth_on true e = refl
  truth_on false e = absurd (off_is_not_on e)

  abbrev equal : Set → Value → Value → Value
  equal xs x y = apply (apply (equality_value U xs) x) y

  equal_in : (xs : Set) (x y : Value) → In x xs → In y xs → In (equal xs x y) booleans
  equal_in xs x y i j = subst (λ (z : Value). In z booleans) (sym (eq_apply U x y xs i j)) (truth_in U (same x y))

  -- ---- the existential quantifier

  module _ (d : Assignment U) (a : TypeTree) where
    abbrev Elements : Set
    Elements = elements U (standard U).constructors d a

    abbrev exists_at : Value
    exists_at = constant_value U (standard U) d (codes "?") (quantifier_type a)

    -- !x. P x ==> q
    abbrev premise : Value → Value → Value
    premise p q = apply (forall_at U d a) (table (λ x. imp (apply p x) q) Elements)

    -- (!x. P x ==> q) ==> q
    abbrev body : Value → Value → Value
    body p q = imp (premise p q) q

    exists_is : exists_at ≡ table (λ p. apply (forall_at U d bool_type) (table (body p) booleans)) (tables Elements booleans)
    exists_is = refl

    module _ (p : Value → Value) (maps : (x : Value) → In x Elements → In (p x) booleans) where
      abbrev predicate : Value
      predicate = table p Elements

      unfolded : apply exists_at predicate ≡ apply (forall_at U d bool_type) (table (body predicate) booleans)
      unfolded =
          ap (λ (t : Value). apply t predicate) exists_is
          ∙ apply_table (λ q. apply (forall_at U d bool_type) (table (body q) booleans)) predicate (tables Elements booleans) (table_in p Elements booleans maps)

      at_in : (x : Value) → In x Elements → In (apply predicate x) booleans
      at_in x i = subst (λ (z : Value). In z booleans) (sym (apply_table p x Elements i)) (maps x i)

      implies_in : (q : Value) → In q booleans → (x : Value) → In x Elements → In (imp (apply predicate x) q) booleans
      implies_in q j x i = imp_in (apply predicate x) q (at_in x i) j

      premise_in : (q : Value) → In q booleans → In (premise predicate q) booleans
      premise_in q j = forall_in U d a (λ x. imp (apply predicate x) q) (implies_in q j)

      body_in : (q : Value) → In q booleans → In (body predicate q) booleans
      body_in q j = imp_in (premise predicate q) q (premise_in q j) j

      exists_in : In (apply exists_at predicate) booleans
      exists_in = subst (λ (z : Value). In z booleans) (sym unfolded) (forall_in U d bool_type (body predicate) body_in)

      exists_value : (x : Value) → In x Elements → p x ≡ on → apply exists_at predicate ≡ on
      exists_value x i e =
          unfolded
          ∙ forall_value U d bool_type (body predicate)
          (λ q j. implied U (premise predicate q) q (premise_in q j) j
          (λ h. detached U (apply predicate x) q j (apply_table p x Elements i ∙ e) (forall_elim U d a (λ y. imp (apply predicate y) q) (implies_in q j) h x i)))

      exists_none : ((x : Value) → In x Elements → p x ≡ off) → apply exists_at predicate ≡ on → ⊥
      exists_none none h =
          let all : premise predicate off ≡ on =
          forall_value U d a (λ x. imp (apply predicate x) off)
          (λ x i. implied U (apply predicate x) off (at_in x i) off_in (λ e. absurd (off_is_not_on (sym (apply_table p x Elements i ∙ none x i) ∙ e)))) in
          off_is_not_on (detached U (premise predicate off) off off_in all (forall_elim U d bool_type (body predicate) body_in (sym unfolded ∙ h) off off_in))

  -- ---- ONE_ONE and ONTO of functions on the individuals

  module _ (d : Assignment U) where
    abbrev functions : Set
    functions = tables individuals individuals

    abbrev property_at : List ℕ → Value
    property_at c = constant_value U (standard U) d c (fun_type (fun_type ind_type ind_type) bool_type)

    abbrev forall_ind : (Value → Value) → Value
    forall_ind p = apply (forall_at U d ind_type) (table p individuals)

    abbrev keeps_apart : Value → Value → Value → Value
    keeps_apart f x y = imp (equal individuals (apply f x) (apply f y)) (equal individuals x y)

    abbrev reaches : Value → Value → Value → Value
    reaches f y x = equal individuals y (apply f x)

    one_one_is : property_at (codes "ONE_ONE") ≡ table (λ f. forall_ind (λ x. forall_ind (keeps_apart f x))) functions
    one_one_is = refl

    onto_is : property_at (codes "ONTO") ≡ table (λ f. forall_ind (λ y. apply (exists_at d ind_type) (table (reaches f y) individuals))) functions
    onto_is = refl

    module _ (f : Value) (i : In f functions) where
      at : (x : Value) → In x individuals → In (apply f x) individuals
      at x j = apply_in f x individuals individuals i j

      one_one_unfolded : apply (property_at (codes "ONE_ONE")) f ≡ forall_ind (λ x. forall_ind (keeps_apart f x))
      one_one_unfolded = ap (λ (t : Value). apply t f) one_one_is ∙ apply_table (λ g. forall_ind (λ x. forall_ind (keeps_apart g x))) f functions i

      onto_unfolded : apply (property_at (codes "ONTO")) f ≡ forall_ind (λ y. apply (exists_at d ind_type) (table (reaches f y) individuals))
      onto_unfolded = ap (λ (t : Value). apply t f) onto_is ∙ apply_table (λ g. forall_ind (λ y. apply (exists_at d ind_type) (table (reaches g y) individuals))) f functions i

      keeps_in : (x : Value) → In x individuals → (y : Value) → In y individuals → In (keeps_apart f x y) booleans
      keeps_in x j y k = imp_in (equal individuals (apply f x) (apply f y)) (equal individuals x y) (equal_in individuals (apply f x) (apply f y) (at x j) (at y k)) (equal_in individuals x y j k)

      one_one_in : In (apply (property_at (codes "ONE_ONE")) f) booleans
      one_one_in = subst (λ (z : Value). In z booleans) (sym one_one_unfolded) (forall_in U d ind_type (λ x. forall_ind (keeps_apart f x)) (λ x j. forall_in U d ind_type (keeps_apart f x) (keeps_in x j)))

      reaches_in : (y : Value) → In y individuals → (x : Value) → In x individuals → In (reaches f y x) booleans
      reaches_in y j x k = equal_in individuals y (apply f x) j (at x k)

      reached_in : (y : Value) → In y individuals → In (apply (exists_at d ind_type) (table (reaches f y) individuals)) booleans
      reached_in y j = exists_in d ind_type (reaches f y) (reaches_in y j)

      onto_in : In (apply (property_at (codes "ONTO")) f) booleans
      onto_in = subst (λ (z : Value). In z booleans) (sym onto_unfolded) (forall_in U d ind_type (λ y. apply (exists_at d ind_type) (table (reaches f y) individuals)) reached_in)

    -- ---- the axiom

    abbrev both_hold : Value → Value
    both_hold f = apply (apply (and_value U) (apply (property_at (codes "ONE_ONE")) f)) (apply (not_value U) (apply (property_at (codes "ONTO")) f))

    both_in : (f : Value) → In f functions → In (both_hold f) booleans
    both_in f i =
        and_in (apply (property_at (codes "ONE_ONE")) f) (apply (not_value U) (apply (property_at (codes "ONTO")) f)) (one_one_in f i) (not_in (apply (property_at (codes "ONTO")) f) (onto_in f i))

    module _ (infinite : HasInfinity U) where
      open infinite use {step, step_in, one_to_one, missed, missed_in, not_reached}

      step_one_one : apply (property_at (codes "ONE_ONE")) step ≡ on
      step_one_one =
          one_one_unfolded step step_in
          ∙ forall_value U d ind_type (λ x. forall_ind (keeps_apart step x))
          (λ x j. forall_value U d ind_type (keeps_apart step x)
          (λ y k.
          let there : In (apply step x) individuals = at step step_in x j in
          let other : In (apply step y) individuals = at step step_in y k in
          implied U (equal individuals (apply step x) (apply step y)) (equal individuals x y) (equal_in individuals (apply step x) (apply step y) there other) (equal_in individuals x y j k)
          (λ e.
          let is : x ≡ y = one_to_one x y j k (same_is (apply step x) (apply step y) (truth_on _ (sym (eq_apply U (apply step x) (apply step y) individuals there other) ∙ e))) in
          eq_apply U x y individuals j k ∙ ap (truth_value U) (ap (λ (z : Value). same z y) is ∙ same_self y))))

      step_not_onto : apply (property_at (codes "ONTO")) step ≡ off
      step_not_onto = elim (two (apply (property_at (codes "ONTO")) step) (onto_in step step_in)) [
        | inl e ↦ e
        | inr e ↦ absurd (
            exists_none d ind_type (reaches step missed) (reaches_in step step_in missed missed_in)
            (λ x k.
            eq_apply U missed (apply step x) individuals missed_in (at step step_in x k)
            ∙ ap (truth_value U) (false_from_ne_true (same missed (apply step x)) (λ q. not_reached x k (sym (same_is missed (apply step x) q)))))
            (forall_elim U d ind_type (λ y. apply (exists_at d ind_type) (table (reaches step y) individuals)) (reached_in step step_in) (sym (onto_unfolded step step_in) ∙ e) missed missed_in)
            )
      ]

      step_fits : both_hold step ≡ on
      step_fits =
          (λ i. apply (apply (and_value U) (step_one_one i)) (apply (not_value U) (step_not_onto i)))
          ∙ ap (apply (apply (and_value U) on)) (not_is U false)
          ∙ connective_is U (λ p q. p && q) true true

  pub infinity_valid : HasInfinity U → IsTrueIn U (standard U) (statement_of InfinityAx)
  infinity_valid infinite d full f fit = exists_value d (fun_type ind_type ind_type) (both_hold d) (both_in d) infinite.step infinite.step_in (step_fits d infinite)
