-- The prelude's definitions and axioms hold in its interpretation, all but INFINITY_AX.
use Rattle.std.proofs.lemmas.Bool.{false_from_ne_true}
use Rattle.std.proofs.Common.{◌≡◌, ℕ, List, [], refl, ap, sym, ◌∙◌, subst, Bool, true, false, not, ◌&&◌, ◌||◌, codes}
use mathlib.Core.Bool.{true≢false}
use Rattle.hol_types.specs.Tree.{TypeTree}
use Rattle.hol_types.specs.Fun.{fun_type}
use Rattle.hol_terms.specs.Named.{Named, var, abs}
use Rattle.hol_terms.specs.Nameless.{fixed, nameless}
use Rattle.hol_formulas.specs.Equation.{bool_type, equation, mk_eq}
use Rattle.hol_formulas.specs.Making.{mk_falsity, mk_conj, mk_imp, mk_iff, mk_forall}
use Rattle.hol_formulas.specs.Formula.{connective_type, negation_type, quantifier_type}
use Rattle.hol_formulas.specs.Constants.{var_a, var_b, binder_type, choice_type, function_property_type}
use Rattle.hol_formulas.specs.Prelude.{statement_of, boolean, identity, both, of_two, either, everywhere, somewhere, once, injective, surjective}
use Rattle.hol_formulas.specs.declared.postulate.Postulate.{Postulate}
use Rattle.hol_formulas.specs.declared.postulate.Postulate.TheVariants.{TDef, AndDef, ImpDef, ForallDef, ExistsDef, OrDef, FDef, NotDef, ExistsUniqueDef, EtaAx, SelectAx, OneOne, Onto, InfinityAx}
use Rattle.hol_kernel.specs.Items.{no_items, Holds}
use Rattle.hol_kernel.specs.Item.{Item}
use Rattle.hol_kernel.specs.Sequent.{no_hyps}
use Rattle.hol_kernel.specs.Theorem.{theorem_over}
use Rattle.hol_kernel.specs.Typing.{HasType}
use Rattle.hol_kernel.specs.Derivation.{by_postulate}
use Rattle.hol_kernel.proofs.Members.{not_in_empty}
use Rattle.hol_kernel.proofs.ItemOrder.{total, only}
use Rattle.hol_kernel.proofs.WellTyped.{theorem_typed}
use Rattle.hol_model.proofs.Connectives.{agree, truth_in, on_test, table_booleans, eq_apply, equal_truths, connective_is, implied, forall_value, forall_booleans}
use Rattle.hol_model.proofs.Interpretations.{truth_value, Assignment, Valuation, elements, constant_value, eval, equality_value}
use Rattle.hol_model.proofs.Standard.{and_value, imp_value, standard}
use Rattle.hol_model.specs.Infinity.{is_infinity}
use Rattle.hol_model.proofs.Types.{IsInhabited, inhabited}
use Rattle.hol_model.proofs.Evaluation.{IsFitting}
use Rattle.hol_model.proofs.Models.{IsTrueIn, IsModel}
use Rattle.hol_model.proofs.Soundness.{from_equal}
use Rattle.hol_model.proofs.Meanings.{standard_frame}
use Rattle.hol_model.proofs.Individuals.{infinity_valid}
use Rattle.hol_model.proofs.Universes.{Universe}

module _ (U : Universe) where
  open U use {Value, Set}
  open U.laws use {is_in, same, same_is, same_self, off, on, on_in, off_is_not_on, booleans, apply, table, tables, apply_table, table_in, apply_in, table_eta, chosen, chosen_in, chosen_holds}

  abbrev In : Value → Set → Type 0
  In x xs = is_in x xs ≡ true

  statement_typed : (which : Postulate) → HasType no_items (statement_of which) bool_type
  statement_typed which = (theorem_typed (theorem_over no_items no_hyps (statement_of which)) (by_postulate which)).conclusion

  -- ---- right sides of definitions

  abbrev truth_term : Named
  truth_term = mk_eq negation_type identity identity

  abbrev and_term : Named
  and_term = of_two both

  abbrev imp_term : Named
  imp_term = of_two (λ p q. mk_iff (mk_conj p q) p)

  abbrev or_term : Named
  or_term = of_two either

  abbrev falsity_term : Named
  falsity_term = mk_forall (boolean (codes "p")) (var (boolean (codes "p")))

  abbrev not_term : Named
  not_term = abs (boolean (codes "p")) (mk_imp (var (boolean (codes "p"))) mk_falsity)

  abbrev Elements : Assignment U → TypeTree → Set
  Elements d a = elements U (standard U).constructors d a

  abbrev truth : Bool → Value
  truth = truth_value U

  abbrev imp : Value → Value → Value
  imp x y = apply (apply (imp_value U) x) y

  abbrev forall_of : Assignment U → TypeTree → Value
  forall_of d a = constant_value U (standard U) d (codes "!") (quantifier_type a)

  -- ---- definitions

  -- a constant that has the value of a term
  defined :
      (d : Assignment U) → IsInhabited U d → (f : Valuation U) → IsFitting U (standard U).constructors d f → (c : List ℕ) (g : TypeTree) (r : Named) →
      HasType no_items (equation g (fixed c g) (nameless [] r)) bool_type → constant_value U (standard U) d c g ≡ eval U (standard U) d f [] (nameless [] r) →
      eval U (standard U) d f [] (equation g (fixed c g) (nameless [] r)) ≡ on
  defined d full f fit c g r typed is = from_equal U no_items (standard U) (standard_frame U) d full f fit g (fixed c g) (nameless [] r) typed is

  truth_valid : IsTrueIn U (standard U) (statement_of TDef)
  truth_valid d full f fit =
      let own : Value = table (λ x. x) booleans in
      let i : In own (tables booleans booleans) = table_in (λ x. x) booleans booleans (λ x m. m) in
      defined d full f fit (codes "T") bool_type truth_term (statement_typed TDef) (sym (eq_apply U own own (tables booleans booleans) i i ∙ ap (truth_value U) (same_self own)))

  -- p /\ q = p
  abbrev conj_is : Value → Value → Value
  conj_is x y = apply (apply (equality_value U booleans) (apply (apply (and_value U) x) y)) x

  imp_valid : IsTrueIn U (standard U) (statement_of ImpDef)
  imp_valid d full f fit =
      defined d full f fit (codes "==>") connective_type imp_term (statement_typed ImpDef)
      (table_booleans U (λ x. table (λ y. truth_value U (not (same x on) || same y on)) booleans) (λ x. table (λ y. conj_is x y) booleans)
      (λ b. table_booleans U (λ y. truth_value U (not (same (truth b) on) || same y on)) (λ y. conj_is (truth b) y)
      (λ c. (λ i. truth_value U (not (on_test U b i) || on_test U c i)) ∙ ap (truth_value U) (tests b c) ∙ sym (equal_truths U (b && c) b) ∙ sym (ap (λ (v : Value). apply (apply (equality_value U booleans) v) (truth b)) (connective_is U (λ p q. p && q) b c)))))
    where
      tests : (b c : Bool) → (not b || c) ≡ agree (b && c) b
      tests true true = refl
      tests true false = refl
      tests false c = refl

  forall_valid : IsTrueIn U (standard U) (statement_of ForallDef)
  forall_valid d full f fit = defined d full f fit (codes "!") binder_type everywhere (statement_typed ForallDef) refl

  exists_valid : IsTrueIn U (standard U) (statement_of ExistsDef)
  exists_valid d full f fit = defined d full f fit (codes "?") binder_type somewhere (statement_typed ExistsDef) refl

  falsity_valid : IsTrueIn U (standard U) (statement_of FDef)
  falsity_valid d full f fit = defined d full f fit (codes "F") bool_type falsity_term (statement_typed FDef) (sym (forall_booleans U d (λ x. x) (λ b. b) (λ b. refl)))

  not_valid : IsTrueIn U (standard U) (statement_of NotDef)
  not_valid d full f fit =
      defined d full f fit (codes "~") negation_type not_term (statement_typed NotDef)
      (table_booleans U (λ x. truth_value U (not (same x on))) (λ x. imp x off)
      (λ b. ap (λ e. truth_value U (not e)) (on_test U b) ∙ ap (truth_value U) (tests b) ∙ sym (connective_is U (λ p q. not p || q) b false)))
    where
      tests : (b : Bool) → not b ≡ (not b || false)
      tests true = refl
      tests false = refl

  -- ---- axioms

  eta_valid : IsTrueIn U (standard U) (statement_of EtaAx)
  eta_valid d full f fit =
      let xs : Set = Elements d var_a in
      let ys : Set = Elements d var_b in
      forall_value U d (fun_type var_a var_b) (λ t. apply (apply (equality_value U (tables xs ys)) (table (λ x. apply t x) xs)) t)
      (λ t i.
      eq_apply U (table (apply t) xs) t (tables xs ys) (table_in (apply t) xs ys (λ x m. apply_in t x xs ys i m)) i
      ∙ ap (truth_value U) (ap (λ (z : Value). same z t) (table_eta t xs ys i) ∙ same_self t))

  choice_is : (d : Assignment U) (p : Value) → In p (tables (Elements d var_a) booleans) → apply (constant_value U (standard U) d (codes "@") choice_type) p ≡ chosen p (Elements d var_a)
  choice_is d p i = apply_table (λ q. chosen q (Elements d var_a)) p (tables (Elements d var_a) booleans) i

  select_valid : IsTrueIn U (standard U) (statement_of SelectAx)
  select_valid d full f fit =
      let xs : Set = Elements d var_a in
      let pick : Value → Value = apply (constant_value U (standard U) d (codes "@") choice_type) in
      forall_value U d (fun_type var_a bool_type) (λ p. apply (forall_of d var_a) (table (λ x. imp (apply p x) (apply p (pick p))) xs))
      (λ p i.
      let there : In (pick p) xs = subst (λ (z : Value). In z xs) (sym (choice_is d p i)) (chosen_in p xs (inhabited U (standard U).constructors (standard_frame U).inhabited d full var_a)) in
      forall_value U d var_a (λ x. imp (apply p x) (apply p (pick p)))
      (λ x j.
      implied U (apply p x) (apply p (pick p)) (apply_in p x xs booleans i j) (apply_in p (pick p) xs booleans i there)
      (λ e. ap (apply p) (choice_is d p i) ∙ chosen_holds p x xs j e)))

  -- ---- conjunction

  -- \f:bool->bool->bool. f x y
  abbrev operations : Set
  operations = tables booleans (tables booleans booleans)

  abbrev of_pair : Value → Value → Value
  of_pair x y = table (λ g. apply (apply g x) y) operations

  of_pair_in : (x y : Value) → In x booleans → In y booleans → In (of_pair x y) (tables operations booleans)
  of_pair_in x y i j = table_in (λ g. apply (apply g x) y) operations booleans (λ g m. apply_in (apply g x) y booleans booleans (apply_in g x booleans (tables booleans booleans) m i) j)

  -- a projection tells a pair's parts
  projected : (h : Value → Value → Value) → ((x y : Value) → In x booleans → In y booleans → In (h x y) booleans) → (x y : Value) → In x booleans → In y booleans → apply (of_pair x y) (table (λ p. table (h p) booleans) booleans) ≡ h x y
  projected h maps x y i j =
      apply_table (λ g. apply (apply g x) y) (table (λ p. table (h p) booleans) booleans) operations
      (table_in (λ p. table (h p) booleans) booleans (tables booleans booleans) (λ p k. table_in (h p) booleans booleans (λ q l. maps p q k l)))
      ∙ ap (λ (t : Value). apply t y) (apply_table (λ p. table (h p) booleans) x booleans i)
      ∙ apply_table (h x) y booleans j

  pairs_differ : (b c : Bool) → (h : Value → Value → Value) → ((x y : Value) → In x booleans → In y booleans → In (h x y) booleans) → h (truth b) (truth c) ≡ off → h on on ≡ on → same (of_pair (truth b) (truth c)) (of_pair on on) ≡ false
  pairs_differ b c h maps low high =
      false_from_ne_true (same (of_pair (truth b) (truth c)) (of_pair on on))
      (λ q. off_is_not_on (sym (projected h maps (truth b) (truth c) (truth_in U b) (truth_in U c) ∙ low)
      ∙ ap (λ (t : Value). apply t (table (λ p. table (h p) booleans) booleans)) (same_is (of_pair (truth b) (truth c)) (of_pair on on) q)
      ∙ projected h maps on on on_in on_in ∙ high))

  pairs_same : (b c : Bool) → truth_value U (b && c) ≡ truth_value U (same (of_pair (truth b) (truth c)) (of_pair on on))
  pairs_same true true = ap (truth_value U) (sym (same_self (of_pair on on)))
  pairs_same true false = ap (truth_value U) (sym (pairs_differ true false (λ x y. y) (λ x y i j. j) refl refl))
  pairs_same false c = ap (truth_value U) (sym (pairs_differ false c (λ x y. x) (λ x y i j. i) refl refl))

  abbrev pairs_equal : Value → Value → Value
  pairs_equal x y = apply (apply (equality_value U (tables operations booleans)) (of_pair x y)) (of_pair on on)

  and_valid : IsTrueIn U (standard U) (statement_of AndDef)
  and_valid d full f fit =
      defined d full f fit (codes "/\\") connective_type and_term (statement_typed AndDef)
      (table_booleans U (λ x. table (λ y. truth_value U (same x on && same y on)) booleans) (λ x. table (λ y. pairs_equal x y) booleans)
      (λ b. table_booleans U (λ y. truth_value U (same (truth b) on && same y on)) (λ y. pairs_equal (truth b) y)
      (λ c. (λ i. truth_value U (on_test U b i && on_test U c i)) ∙ pairs_same b c
      ∙ sym (eq_apply U (of_pair (truth b) (truth c)) (of_pair on on) (tables operations booleans) (of_pair_in (truth b) (truth c) (truth_in U b) (truth_in U c)) (of_pair_in on on on_in on_in)))))

  -- (p ==> r) ==> (q ==> r) ==> r
  abbrev body : Value → Value → Value → Value
  body x y r = imp (imp x r) (imp (imp y r) r)

  abbrev folded : Bool → Bool → Bool → Bool
  folded b c r = not (not b || r) || (not (not c || r) || r)

  or_valid : IsTrueIn U (standard U) (statement_of OrDef)
  or_valid d full f fit =
      defined d full f fit (codes "\\/") connective_type or_term (statement_typed OrDef)
      (table_booleans U (λ x. table (λ y. truth_value U (same x on || same y on)) booleans) (λ x. table (λ y. apply (forall_of d bool_type) (table (body x y) booleans)) booleans)
      (λ b. table_booleans U (λ y. truth_value U (same (truth b) on || same y on)) (λ y. apply (forall_of d bool_type) (table (body (truth b) y) booleans))
      (λ c. (λ i. truth_value U (on_test U b i || on_test U c i)) ∙ ap (truth_value U) (tests b c) ∙ sym (forall_booleans U d (body (truth b) (truth c)) (folded b c) (body_is b c)))))
    where
      implies : (b c : Bool) → imp (truth b) (truth c) ≡ truth_value U (not b || c)
      implies = connective_is U (λ p q. not p || q)

      body_is : (b c r : Bool) → body (truth b) (truth c) (truth_value U r) ≡ truth_value U (folded b c r)
      body_is b c r =
          (λ i. imp (implies b r i) (imp (implies c r i) (truth r)))
          ∙ ap (imp (truth (not b || r))) (implies (not c || r) r)
          ∙ implies (not b || r) (not (not c || r) || r)

      tests : (b c : Bool) → (b || c) ≡ (folded b c false && folded b c true)
      tests true true = refl
      tests true false = refl
      tests false true = refl
      tests false false = refl

  unique_valid : IsTrueIn U (standard U) (statement_of ExistsUniqueDef)
  unique_valid d full f fit = defined d full f fit (codes "?!") binder_type once (statement_typed ExistsUniqueDef) refl

  one_one_valid : IsTrueIn U (standard U) (statement_of OneOne)
  one_one_valid d full f fit = defined d full f fit (codes "ONE_ONE") function_property_type injective (statement_typed OneOne) refl

  onto_valid : IsTrueIn U (standard U) (statement_of Onto)
  onto_valid d full f fit = defined d full f fit (codes "ONTO") function_property_type surjective (statement_typed Onto) refl

  postulates_valid : (which : Postulate) → is_infinity which ≡ false → IsTrueIn U (standard U) (statement_of which)
  postulates_valid TDef e = truth_valid
  postulates_valid AndDef e = and_valid
  postulates_valid ImpDef e = imp_valid
  postulates_valid ForallDef e = forall_valid
  postulates_valid ExistsDef e = exists_valid
  postulates_valid OrDef e = or_valid
  postulates_valid FDef e = falsity_valid
  postulates_valid NotDef e = not_valid
  postulates_valid ExistsUniqueDef e = unique_valid
  postulates_valid EtaAx e = eta_valid
  postulates_valid SelectAx e = select_valid
  postulates_valid OneOne e = one_one_valid
  postulates_valid Onto e = onto_valid
  postulates_valid InfinityAx e = absurd (true≢false e)

  nothing_held : (x : Item) → Holds no_items x → ⊥
  nothing_held x h = not_in_empty total only x h

  pub standard_model : IsModel U no_items (standard U)
  standard_model = record {
    frame = standard_frame U;
    falsity = λ d. refl;
    infinity = infinity_valid U;
    postulates = postulates_valid;
    satisfied = λ x h. absurd (nothing_held x h);
  }
