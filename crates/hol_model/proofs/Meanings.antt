-- One constant more, of a value of its type; and that the prelude's constants have values of theirs.
use Rattle.std.proofs.Common.{◌≡◌, ℕ, List, [], ◌∷◌, refl, ap, sym, ◌∙◌, Bool, true, false, cond, not, ◌&&◌, ◌||◌, Option, Some, None, codes, bytes_eq}
use mathlib.Core.Bool.{true≢false}
use Rattle.std.specs.List.{list_all, list_any}
use Rattle.std.proofs.lemmas.Bool.{and_parts}
use Rattle.std.proofs.lemmas.Slice.Eq.{bytes_eq-Decides}
use Rattle.hol_types.specs.Tree.{TypeTree}
use Rattle.hol_types.proofs.OrderLaws.{type_cmp_decides}
use Rattle.hol_terms.specs.Nameless.{Nameless, nameless, nameless_type}
use Rattle.hol_formulas.specs.Equation.{bool_type, equality_type}
use Rattle.hol_formulas.specs.Formula.{connective_type, negation_type}
use Rattle.hol_formulas.specs.Constants.{var_a, binder_type, choice_type, function_property_type, is_instance, is_instance_of, generic_in, prelude_constants}
use Rattle.hol_formulas.specs.Prelude.{everywhere, somewhere, once, injective, surjective}
use Rattle.hol_kernel.specs.Items.{Items, no_items, in_order_of}
use Rattle.hol_kernel.specs.Signature.{has_constant, makes_constant}
use Rattle.hol_kernel.specs.Typing.{is_type, is_type_at}
use Rattle.hol_kernel.proofs.Sets.{items_empty}
use Rattle.hol_kernel.proofs.ItemOrder.{total}
use Rattle.hol_model.proofs.Interpretations.{truth_value, Assignment, Interpretation, elements, value_of, some_values, with_constant, with_defined}
use Rattle.hol_model.proofs.Standard.{connective, and_value, or_value, imp_value, not_value, of_nothing, of_equality, of_choice, of_truth, of_falsity, of_and, of_or, of_imp, of_not, of_forall, of_exists, of_unique, of_one_one, standard, equality_types, choice_types, truth_types, falsity_types, and_types, or_types, imp_types, not_types, forall_types, exists_types, unique_types, one_one_types, standard_types}
use Rattle.hol_model.proofs.Types.{IsInhabited, AreInhabited, inhabited}
use Rattle.hol_model.proofs.Evaluation.{passes, eval_in}
use Rattle.hol_model.proofs.Models.{HasMeaning, HaveMeanings, IsFrame, meanings_fit}
use Rattle.hol_model.proofs.Universes.{Universe}

module _ (U : Universe) where
  open U use {Value, Set}
  open U.laws use {first_in, off_in, on_in, individuals, individual, is_in, same, first, off, on, booleans, table, tables, table_in, chosen, chosen_in}

  abbrev In : Value → Set → Type 0
  In x xs = is_in x xs ≡ true

  -- ---- one constant more

  -- the value is of the type
  abbrev pub IsOfType : Interpretation U → TypeTree → (Assignment U → Value) → Type 0
  IsOfType m generic value = (d : Assignment U) → IsInhabited U d → In (value d) (elements U m.constructors d generic)

  -- what (passes U) with one constant more
  abbrev pub with_one : List ℕ → TypeTree → (List ℕ → TypeTree → Bool) → List ℕ → TypeTree → Bool
  with_one c generic has e s = cond (bytes_eq e c) (is_instance generic s) (has e s)

  module _ (items : Items) (m : Interpretation U) (has : List ℕ → TypeTree → Bool) (c : List ℕ) (generic : TypeTree) (value : Assignment U → Value) where
    pub meanings_more : HaveMeanings U items m has → is_type items generic ≡ true → IsOfType m generic value → HaveMeanings U items (with_constant U c generic value m) (with_one c generic has)
    meanings_more meanings stands fits e s h = by (bytes_eq e c) h
      where
        by : (b : Bool) → cond b (is_instance generic s) (has e s) ≡ true → HasMeaning U items m.constructors (cond b generic (m.generics e)) (λ d. cond b (value d) (m.constants e d)) s
        by true i = record { instance = i; stands = stands; fitting = fits }
        by false i = let p = meanings e s i in record { instance = p.instance; stands = p.stands; fitting = p.fitting }

  -- the value of a closed term is of its type
  module _ (items : Items) (m : Interpretation U) (full : AreInhabited U m.constructors) (has : List ℕ → TypeTree → Bool) (meanings : HaveMeanings U items m has) where
    pub defined_fits : (r : Nameless) (a : TypeTree) → passes U has r ≡ true → nameless_type [] r ≡ Some a → IsOfType m a (value_of U m r)
    defined_fits r a p e d h = eval_in U m d has (meanings_fit U items m full has meanings d h) (some_values U m.constructors d) (λ v. inhabited U m.constructors full d h v.1) r a p e

  -- ---- the prelude's constants

  abbrev in_table : List (List ℕ × TypeTree) → List ℕ → TypeTree → Bool
  in_table cs c s = is_instance_of (generic_in cs c) s

  abbrev AllHaveMeanings : Interpretation U → List (List ℕ × TypeTree) → Type 0
  AllHaveMeanings m cs = HaveMeanings U no_items m (in_table cs)

  one_more :
      (c : List ℕ) (generic : TypeTree) (value : Assignment U → Value) (m : Interpretation U) (cs : List (List ℕ × TypeTree)) → AllHaveMeanings m cs → is_type no_items generic ≡ true →
      IsOfType m generic value → AllHaveMeanings (with_constant U c generic value m) ((c, generic) ∷ cs)
  one_more c generic value m cs meanings stands fits e s h = meanings_more no_items m (in_table cs) c generic value meanings stands fits e s (by (bytes_eq e c) h)
    where
      by : (b : Bool) → is_instance_of (cond b (Some generic) (generic_in cs e)) s ≡ true → cond b (is_instance generic s) (in_table cs e s) ≡ true
      by true i = i
      by false i = i

  one_defined :
      (c : List ℕ) (generic : TypeTree) (r : Nameless) (m : Interpretation U) (cs : List (List ℕ × TypeTree)) → AreInhabited U m.constructors → AllHaveMeanings m cs → is_type no_items generic ≡ true →
      passes U (in_table cs) r ≡ true → nameless_type [] r ≡ Some generic → AllHaveMeanings (with_defined U c generic r m) ((c, generic) ∷ cs)
  one_defined c generic r m cs full meanings stands known typed = one_more c generic (value_of U m r) m cs meanings stands (defined_fits no_items m full (in_table cs) meanings r generic known typed)

  one_value : AreInhabited U (of_nothing U).constructors
  one_value c vs h = by (bytes_eq c (codes "ind"))
    where
      by : (b : Bool) → In (first (cond b individuals booleans)) (cond b individuals booleans)
      by true = individual
      by false = first_in off booleans off_in

  truth_in : (b : Bool) → In (truth_value U b) booleans
  truth_in true = on_in
  truth_in false = off_in

  connective_in : (f : Bool → Bool → Bool) → In (connective U f) (tables booleans (tables booleans booleans))
  connective_in f =
      table_in (λ x. table (λ y. truth_value U (f (same x on) (same y on))) booleans) booleans (tables booleans booleans)
      (λ x i. table_in (λ y. truth_value U (f (same x on) (same y on))) booleans booleans (λ y j. truth_in (f (same x on) (same y on))))

  meanings_equality : AllHaveMeanings (of_equality U) (equality_types U)
  meanings_equality =
      one_more (codes "=") (equality_type var_a) (λ d. _) (of_nothing U) [] (λ c s h. absurd (true≢false (sym h))) refl
      (λ d full.
      let xs : Set = d (codes "A") in
      table_in (λ x. table (λ y. truth_value U (same x y)) xs) xs (tables xs booleans) (λ x i. table_in (λ y. truth_value U (same x y)) xs booleans (λ y j. truth_in (same x y))))

  meanings_choice : AllHaveMeanings (of_choice U) (choice_types U)
  meanings_choice =
      one_more (codes "@") choice_type (λ d. _) (of_equality U) (equality_types U) meanings_equality refl
      (λ d full.
      let xs : Set = d (codes "A") in
      table_in (λ p. chosen p xs) (tables xs booleans) xs (λ p i. chosen_in p xs (full (codes "A"))))

  meanings_truth : AllHaveMeanings (of_truth U) (truth_types U)
  meanings_truth = one_more (codes "T") bool_type (λ d. on) (of_choice U) (choice_types U) meanings_choice refl (λ d full. on_in)

  meanings_falsity : AllHaveMeanings (of_falsity U) (falsity_types U)
  meanings_falsity = one_more (codes "F") bool_type (λ d. off) (of_truth U) (truth_types U) meanings_truth refl (λ d full. off_in)

  meanings_and : AllHaveMeanings (of_and U) (and_types U)
  meanings_and = one_more (codes "/\\") connective_type (λ d. and_value U) (of_falsity U) (falsity_types U) meanings_falsity refl (λ d full. connective_in (λ p q. p && q))

  meanings_or : AllHaveMeanings (of_or U) (or_types U)
  meanings_or = one_more (codes "\\/") connective_type (λ d. or_value U) (of_and U) (and_types U) meanings_and refl (λ d full. connective_in (λ p q. p || q))

  meanings_imp : AllHaveMeanings (of_imp U) (imp_types U)
  meanings_imp = one_more (codes "==>") connective_type (λ d. imp_value U) (of_or U) (or_types U) meanings_or refl (λ d full. connective_in (λ p q. not p || q))

  meanings_not : AllHaveMeanings (of_not U) (not_types U)
  meanings_not =
      one_more (codes "~") negation_type (λ d. not_value U) (of_imp U) (imp_types U) meanings_imp refl (λ d full. table_in (λ x. truth_value U (not (same x on))) booleans booleans (λ x i. truth_in (not (same x on))))

  meanings_forall : AllHaveMeanings (of_forall U) (forall_types U)
  meanings_forall = one_defined (codes "!") binder_type (nameless [] everywhere) (of_not U) (not_types U) one_value meanings_not refl refl refl

  meanings_exists : AllHaveMeanings (of_exists U) (exists_types U)
  meanings_exists = one_defined (codes "?") binder_type (nameless [] somewhere) (of_forall U) (forall_types U) one_value meanings_forall refl refl refl

  meanings_unique : AllHaveMeanings (of_unique U) (unique_types U)
  meanings_unique = one_defined (codes "?!") binder_type (nameless [] once) (of_exists U) (exists_types U) one_value meanings_exists refl refl refl

  meanings_one_one : AllHaveMeanings (of_one_one U) (one_one_types U)
  meanings_one_one = one_defined (codes "ONE_ONE") function_property_type (nameless [] injective) (of_unique U) (unique_types U) one_value meanings_unique refl refl refl

  meanings_standard : AllHaveMeanings (standard U) (standard_types U)
  meanings_standard = one_defined (codes "ONTO") function_property_type (nameless [] surjective) (of_one_one U) (one_one_types U) one_value meanings_one_one refl refl refl

  -- ---- and no others

  type_there : (o : Option TypeTree) (a : TypeTree) → is_type_at o a ≡ true → o ≡ Some a
  type_there None a e = absurd (true≢false (sym e))
  type_there (Some s) a e = ap Some ((type_cmp_decides s a).0 e)

  -- what each entry of a table has in a second one
  in_second : (cs ds : List (List ℕ × TypeTree)) → list_all (λ p. is_type_at (generic_in ds p.0) p.1) cs ≡ true → (c : List ℕ) (s : TypeTree) → in_table cs c s ≡ true → in_table ds c s ≡ true
  in_second [] ds h c s e = absurd (true≢false (sym e))
  in_second (p ∷ cs) ds h c s e =
      let q = and_parts (is_type_at (generic_in ds p.0) p.1) (list_all (λ p. is_type_at (generic_in ds p.0) p.1) cs) h in
      by (in_second cs ds q.1 c s) (bytes_eq c p.0) refl (type_there (generic_in ds p.0) p.1 q.0) e
    where
      by : (in_table cs c s ≡ true → in_table ds c s ≡ true) → (b : Bool) → bytes_eq c p.0 ≡ b → generic_in ds p.0 ≡ Some p.1 → is_instance_of (cond b (Some p.1) (generic_in cs c)) s ≡ true → in_table ds c s ≡ true
      by rest true is there i = ap (λ o. is_instance_of o s) (ap (generic_in ds) ((bytes_eq-Decides c p.0).0 is) ∙ there) ∙ i
      by rest false is there i = rest i

  -- over no items a constant is one of the prelude's
  prelude_only : (c : List ℕ) (s : TypeTree) → has_constant no_items c s ≡ true → in_table prelude_constants c s ≡ true
  prelude_only c s e = by (in_table prelude_constants c s) (sym none ∙ e)
    where
      none : has_constant no_items c s ≡ (in_table prelude_constants c s || false)
      none = ap (λ (xs : List _). in_table prelude_constants c s || list_any (makes_constant c s) (in_order_of xs)) (items_empty total)

      by : (b : Bool) → (b || false) ≡ true → b ≡ true
      by true e = refl
      by false e = e

  pub standard_frame : IsFrame U no_items (standard U)
  standard_frame = record {
    inhabited = one_value;
    meanings = λ c s h. meanings_standard c s (in_second prelude_constants (standard_types U) refl c s (prelude_only c s h));
    equality_generic = refl;
    equality = λ d. refl;
  }
