-- Type definitions: the values of the new type are those of the old one on which the predicate is on. It has one, where the derivation of its member avoids INFINITY_AX.
use Rattle.std.proofs.Common.{◌≡◌, ℕ, inl, inr, List, [], ◌∷◌, ◌++◌, map, refl, ap, sym, ◌∙◌, subst, Bool, true, false, cond, ◌||◌, Option, Some, bytes_eq, codes}
use Rattle.std.specs.FinSet as set
use Rattle.std.specs.List.{list_any}
use Rattle.std.specs.Option.{option_and_then}
use mathlib.Core.Bool.{true≢false}
use Rattle.std.proofs.lemmas.Bool.{and_parts, or_cases, or_parts, or_left, or_right, false_from_ne_true}
use Rattle.std.proofs.lemmas.Slice.Eq.{bytes_eq-Decides}
use Rattle.hol_types.specs.Tree.{TypeTree, TyVar, type_list}
use Rattle.hol_types.specs.Names.{type_names, is_among}
use Rattle.hol_types.specs.Fun.{fun_type, fun_parts}
use Rattle.hol_terms.specs.Nameless.{Nameless, free, app, nameless_type}
use Rattle.hol_subst.specs.TermTyvars.{type_names_in}
use Rattle.hol_formulas.specs.Equation.{bool_type, equation}
use Rattle.hol_formulas.specs.Constants.{is_instance, is_constant_at}
use Rattle.hol_kernel.specs.Item.{Item, defined_type}
use Rattle.hol_kernel.specs.Items.{Items}
use Rattle.hol_kernel.specs.Sequent.{no_hyps}
use Rattle.hol_kernel.specs.Signature.{type_key, constant_key, makes_constant, term_tyvars, new_type, bijections}
use Rattle.hol_kernel.specs.Typing.{is_type, HasType}
use Rattle.hol_kernel.specs.Bijections.{to_new, from_new, abs_rep, rep_abs}
use Rattle.hol_kernel.specs.Legal.{IsNew, HasNewKeys, IsTypeDefinable}
use Rattle.hol_kernel.specs.Theorem.{theorem_over}
use Rattle.hol_kernel.specs.Derivation.{by_abs_rep, by_rep_abs}
use Rattle.hol_kernel.proofs.Members.{in_insert_here, in_insert_old, not_in_empty}
use Rattle.hol_kernel.proofs.ItemOrder.{total, only}
use Rattle.hol_kernel.proofs.HypothesisLists.{hyps_total, hyps_same}
use Rattle.hol_kernel.proofs.Stands.{fun_stands, fun_parts_stand}
use Rattle.hol_kernel.proofs.TypedParts.{parts_typed}
use Rattle.hol_kernel.proofs.Variables.{known_typed}
use Rattle.hol_kernel.proofs.Weaken.{is_type_more, typed_wider}
use Rattle.hol_kernel.proofs.WellTyped.{own_type_stands, new_stands, sides_typed, theorem_typed}
use Rattle.hol_model.specs.Infinity.{uses_infinity}
use Rattle.hol_model.proofs.Interpretations.{truth_value, Assignment, Constructors, Interpretation, Valuation, constructed, elements, elements_of, instance_values, constant_value, eval, some_values, value_of, with_constant}
use Rattle.hol_model.proofs.Types.{IsInhabited, AllInhabited, AreInhabited, inhabited, elements_agree, instance_itself, among_left, among_right}
use Rattle.hol_model.proofs.TypeNames.{variables_named, term_tyvars_among, type_within, closed_value}
use Rattle.hol_model.proofs.Evaluation.{IsFitting}
use Rattle.hol_model.proofs.Models.{HaveMeanings, IsFrame, IsTrueIn, IsModel}
use Rattle.hol_model.proofs.Meanings.{IsOfType, with_one, meanings_more}
use Rattle.hol_model.proofs.Soundness.{value_in, from_equal, derived_follows, equation_value}
use Rattle.hol_model.proofs.Kept.{KeepsMeanings, elements_kept, eval_kept}
use Rattle.hol_model.proofs.Names.{other_constant, other_type}
use Rattle.hol_model.proofs.Extended.{typed_once, extended_frame, extended_model}
use Rattle.hol_model.proofs.NewConstants.{AllSound}
use Rattle.hol_model.proofs.Connectives.{off_is_false}
use Rattle.hol_model.proofs.Universes.{Universe, Accepts}

module _ (U : Universe) where
  open U use {Value, Set}
  open U.laws use {off_in, is_in, same, same_is, same_self, first, first_in, off, on, off_is_not_on, booleans, two, apply, table, tables, apply_table, table_in, apply_in, members, members_in, in_members}

  abbrev In : Value → Set → Type 0
  In x xs = is_in x xs ≡ true

  -- ---- values for names

  -- the assignment of the values to the names, in their order
  abbrev pub assigned : List (List ℕ) → List Set → Assignment U
  assigned [] vs a = booleans
  assigned (n ∷ names) [] a = booleans
  assigned (n ∷ names) (v ∷ vs) a = cond (bytes_eq a n) v (assigned names vs a)

  assigned_inhabited : (names : List (List ℕ)) (vs : List Set) → AllInhabited U vs → IsInhabited U (assigned names vs)
  assigned_inhabited [] vs h a = first_in off booleans off_in
  assigned_inhabited (n ∷ names) [] h a = first_in off booleans off_in
  assigned_inhabited (n ∷ names) (v ∷ vs) h a = by (assigned_inhabited names vs h.1 a) (bytes_eq a n)
    where
      by : In (first (assigned names vs a)) (assigned names vs a) → (b : Bool) → In (first (cond b v (assigned names vs a))) (cond b v (assigned names vs a))
      by rest true = h.0
      by rest false = rest

  -- the values that an assignment has for the names give it back
  assigned_back : (names : List (List ℕ)) (d : Assignment U) (a : List ℕ) → is_among names a ≡ true → assigned names (map d names) a ≡ d a
  assigned_back [] d a h = absurd (true≢false (sym h))
  assigned_back (n ∷ names) d a h = by (assigned_back names d a) (bytes_eq a n) refl h
    where
      by : (is_among names a ≡ true → assigned names (map d names) a ≡ d a) → (b : Bool) → bytes_eq a n ≡ b → (b || is_among names a) ≡ true → cond b (d n) (assigned names (map d names) a) ≡ d a
      by rest true e i = ap d (sym ((bytes_eq-Decides a n).0 e))
      by rest false e i = rest i

  elements_of_variables : (k : Constructors U) (d : Assignment U) (names : List (List ℕ)) → elements_of U k d (type_list (map TyVar names)) ≡ map d names
  elements_of_variables k d [] = refl
  elements_of_variables k d (n ∷ names) = ap (λ vs. d n ∷ vs) (elements_of_variables k d names)

  -- a constructor that is neither bool nor fun
  constructed_other : (k : Constructors U) (c : List ℕ) (vs : List Set) → bytes_eq c (codes "bool") ≡ false → bytes_eq c (codes "fun") ≡ false → constructed U k c vs ≡ k c vs
  constructed_other k c [] e f = ap (λ b. cond b booleans (k c [])) e
  constructed_other k c (xs ∷ []) e f = refl
  constructed_other k c (xs ∷ ys ∷ []) e f = ap (λ b. cond b (tables xs ys) (k c (xs ∷ ys ∷ []))) f
  constructed_other k c (xs ∷ ys ∷ zs ∷ more) e f = refl

  -- ---- what a predicate's value takes to on, and what it draws

  -- the value itself where the predicate's takes it to on, or else the first of the others
  abbrev drawn : Value → Set → Value → Value
  drawn p ys x = cond (same (apply p x) on) x (first ys)

  module _ (p : Value) (olds : Set) where
    drawn_in : In (first (members p olds)) (members p olds) → (x : Value) → In x olds → In (drawn p (members p olds) x) (members p olds)
    drawn_in some x i = by (same (apply p x) on) refl
      where
        by : (b : Bool) → same (apply p x) on ≡ b → In (cond b x (first (members p olds))) (members p olds)
        by true e = in_members p x olds i (same_is (apply p x) on e)
        by false e = some

    drawn_member : (x : Value) → In x (members p olds) → drawn p (members p olds) x ≡ x
    drawn_member x i = ap (λ (z : Value). cond (same z on) x (first (members p olds))) (members_in p x olds i).1 ∙ ap (λ b. cond b x (first (members p olds))) (same_self on)

    -- it draws x itself exactly where the predicate takes x to on
    drawn_decides : In (first (members p olds)) (members p olds) → (x : Value) → In x olds → In (apply p x) booleans → apply p x ≡ truth_value U (same (drawn p (members p olds) x) x)
    drawn_decides some x i i_two = elim (two (apply p x) i_two) [ inl e ↦ by_off e | inr e ↦ by_on e ]
      where
        by_on : apply p x ≡ on → apply p x ≡ truth_value U (same (drawn p (members p olds) x) x)
        by_on e = e ∙ sym (ap (truth_value U) (ap (λ (z : Value). same z x) (drawn_member x (in_members p x olds i e)) ∙ same_self x))

        by_off : apply p x ≡ off → apply p x ≡ truth_value U (same (drawn p (members p olds) x) x)
        by_off e =
            let y : Value = first (members p olds) in
            let is : drawn p (members p olds) x ≡ y = ap (λ (z : Value). cond (same z on) x y) e ∙ ap (λ b. cond b x y) (off_is_false U) in
            let other : same y x ≡ false =
            false_from_ne_true (same y x) (λ q. off_is_not_on (sym e ∙ ap (apply p) (sym (same_is y x q)) ∙ (members_in p y olds some).1)) in
            e ∙ sym (ap (truth_value U) (ap (λ (z : Value). same z x) is ∙ other))

  -- ---- the new type

  module _ (items : Items) (m : Interpretation U) (model : IsModel U items m) (sound : AllSound U items) where
    module _ (c abs rep : List ℕ) (p x : Nameless) (s : TypeTree) (new_keys : HasNewKeys items (defined_type c abs rep p)) (definable : IsTypeDefinable items abs rep p x s) where
      abbrev X : Item
      X = defined_type c abs rep p

      abbrev More : Items
      More = set.insert items X

      abbrev names : List (List ℕ)
      names = term_tyvars p

      abbrev New : TypeTree
      New = new_type c names

      -- the predicate's table, the values of the old type, and those of the new one
      abbrev predicate : Assignment U → Value
      predicate = value_of U m p

      abbrev olds : Assignment U → Set
      olds d = elements U m.constructors d s

      abbrev news : Assignment U → Set
      news d = members (predicate d) (olds d)

      abbrev abs_value : Assignment U → Value
      abs_value d = table (drawn (predicate d) (news d)) (olds d)

      abbrev rep_value : Assignment U → Value
      rep_value d = table (λ y. y) (news d)

      abbrev with_type : Interpretation U
      with_type = record {
        constructors = λ e vs. cond (bytes_eq e c) (news (assigned names vs)) (m.constructors e vs);
        generics = m.generics;
        constants = m.constants;
      }

      abbrev with_abs : Interpretation U
      with_abs = with_constant U abs (fun_type s New) abs_value with_type

      abbrev pub WithType : Interpretation U
      WithType = with_constant U rep (fun_type New s) rep_value with_abs

      -- ---- it keeps what stands

      type_is_new : IsNew items (type_key c)
      type_is_new = new_keys (type_key c) (or_left (bytes_eq c c) false ((bytes_eq-Decides c c).1 refl))

      abs_is_new : IsNew items (constant_key abs)
      abs_is_new = new_keys (constant_key abs) (or_left (bytes_eq abs abs) (bytes_eq abs rep || false) ((bytes_eq-Decides abs abs).1 refl))

      rep_is_new : IsNew items (constant_key rep)
      rep_is_new = new_keys (constant_key rep) (or_right (bytes_eq rep abs) (bytes_eq rep rep || false) (or_left (bytes_eq rep rep) false ((bytes_eq-Decides rep rep).1 refl)))

      pub type_keeps : KeepsMeanings U items m WithType
      type_keeps = record {
        constructors = λ e count h vs. ap (λ b. cond b (news (assigned names vs)) (m.constructors e vs)) (other_type items c e count type_is_new h);
        generics =
            λ e t h.
            (λ i. cond (other_constant items rep e t rep_is_new h i) (fun_type New s) (cond (bytes_eq e abs) (fun_type s New) (m.generics e)))
            ∙ (λ i. cond (other_constant items abs e t abs_is_new h i) (fun_type s New) (m.generics e));
        constants =
            λ e t h d.
            (λ i. cond (other_constant items rep e t rep_is_new h i) (rep_value d) (cond (bytes_eq e abs) (abs_value d) (m.constants e d)))
            ∙ (λ i. cond (other_constant items abs e t abs_is_new h i) (abs_value d) (m.constants e d));
      }

      -- ---- values of the two types

      p_typed : (is_type items (fun_type s bool_type) ≡ true) × (nameless_type [] p ≡ Some (fun_type s bool_type))
      p_typed = (own_type_stands items p (fun_type s bool_type) definable.typed, (known_typed items p (fun_type s bool_type) definable.typed).1)

      s_stands : is_type items s ≡ true
      s_stands = (fun_parts_stand items s bool_type p_typed.0).0

      pub old_elements : (d : Assignment U) → elements U WithType.constructors d s ≡ olds d
      old_elements d = elements_kept U items m WithType type_keeps d s s_stands

      -- the type variables of the old type are the predicate's
      s_names : (a : List ℕ) → is_among (type_names s) a ≡ true → is_among (type_names_in p) a ≡ true
      s_names a h = type_within U p (fun_type s bool_type) p_typed.1 a (among_left U (type_names s) (type_names bool_type ++ []) a h)

      in_names : (a : List ℕ) → is_among (type_names_in p) a ≡ true → is_among names a ≡ true
      in_names a h = term_tyvars_among U p a ∙ h

      -- they depend on the names' values alone
      abbrev AgreeOnNames : Assignment U → Assignment U → Type 0
      AgreeOnNames d e = (a : List ℕ) → is_among names a ≡ true → d a ≡ e a

      predicate_agree : (d e : Assignment U) → AgreeOnNames d e → predicate d ≡ predicate e
      predicate_agree d e same = closed_value U m d e (some_values U m.constructors d) (some_values U m.constructors e) p definable.closed (λ a h. same a (in_names a h))

      olds_agree : (d e : Assignment U) → AgreeOnNames d e → olds d ≡ olds e
      olds_agree d e same = elements_agree U m.constructors d e s (λ a h. same a (in_names a (s_names a h)))

      news_agree : (d e : Assignment U) → AgreeOnNames d e → news d ≡ news e
      news_agree d e same = λ i. members (predicate_agree d e same i) (olds_agree d e same i)

      abs_agree : (d e : Assignment U) → AgreeOnNames d e → abs_value d ≡ abs_value e
      abs_agree d e same = λ i. table (drawn (predicate_agree d e same i) (news_agree d e same i)) (olds_agree d e same i)

      pub new_elements : (d : Assignment U) → elements U WithType.constructors d New ≡ news d
      new_elements d =
          let vs : List Set = elements_of U WithType.constructors d (type_list (map TyVar names)) in
          let lacks = or_parts (bytes_eq c (codes "bool")) (bytes_eq c (codes "fun") || (bytes_eq c (codes "ind") || false)) type_is_new.0 in
          constructed_other WithType.constructors c vs lacks.0 (or_parts (bytes_eq c (codes "fun")) (bytes_eq c (codes "ind") || false) lacks.1).0
          ∙ ap (λ b. cond b (news (assigned names vs)) (m.constructors c vs)) ((bytes_eq-Decides c c).1 refl)
          ∙ ap (λ us. news (assigned names us)) (elements_of_variables WithType.constructors d names)
          ∙ news_agree (assigned names (map d names)) d (assigned_back names d)

      -- ---- the new type has a value

      module _ (avoids : Accepts U (uses_infinity items _ _ definable.inhabited)) where
        member_on : (d : Assignment U) → IsInhabited U d → In (eval U m d (some_values U m.constructors d) [] x) (news d)
        member_on d full =
            let f : Valuation U = some_values U m.constructors d in
            let fit : IsFitting U m.constructors d f = λ v. inhabited U m.constructors model.frame.inhabited d full v.1 in
            let parts = parts_typed items p x bool_type (theorem_typed (theorem_over items no_hyps (app p x)) definable.inhabited).conclusion in
            let same : fun_type parts.domain bool_type ≡ fun_type s bool_type = typed_once U items items p (fun_type parts.domain bool_type) (fun_type s bool_type) parts.function definable.typed in
            let is : parts.domain ≡ s = cc in
            let there : In (eval U m d f [] x) (olds d) =
            subst (λ (t : TypeTree). In (eval U m d f [] x) (elements U m.constructors d t)) is (value_in U items m model.frame d full f fit x parts.domain parts.argument) in
            in_members (predicate d) (eval U m d f [] x) (olds d) there
            (derived_follows U items m model.frame model no_hyps (app p x) definable.inhabited avoids d full f fit (λ h i. absurd (not_in_empty hyps_total hyps_same h i)))

        news_inhabited : (d : Assignment U) → IsInhabited U d → In (first (news d)) (news d)
        news_inhabited d full = first_in (eval U m d (some_values U m.constructors d) [] x) (news d) (member_on d full)

        typed_inhabited : AreInhabited U WithType.constructors
        typed_inhabited e vs all = by (bytes_eq e c)
          where
            by : (b : Bool) → In (first (cond b (news (assigned names vs)) (m.constructors e vs))) (cond b (news (assigned names vs)) (m.constructors e vs))
            by true = news_inhabited (assigned names vs) (assigned_inhabited names vs all)
            by false = model.frame.inhabited e vs all

        -- ---- its constants have values of their types

        to_new_elements : (d : Assignment U) → elements U WithType.constructors d (fun_type s New) ≡ tables (olds d) (news d)
        to_new_elements d = λ i. tables (old_elements d i) (new_elements d i)

        from_new_elements : (d : Assignment U) → elements U WithType.constructors d (fun_type New s) ≡ tables (news d) (olds d)
        from_new_elements d = λ i. tables (new_elements d i) (old_elements d i)

        abs_fits : IsOfType U with_type (fun_type s New) abs_value
        abs_fits d full =
            subst (λ (vs : Set). In (abs_value d) vs) (sym (to_new_elements d))
            (table_in (drawn (predicate d) (news d)) (olds d) (news d) (drawn_in (predicate d) (olds d) (news_inhabited d full)))

        rep_fits : IsOfType U with_abs (fun_type New s) rep_value
        rep_fits d full =
            subst (λ (vs : Set). In (rep_value d) vs) (sym (from_new_elements d))
            (table_in (λ y. y) (news d) (olds d) (λ y i. (members_in (predicate d) y (olds d) i).0))

        within : (y : Item) → set.contains items y ≡ true → set.contains More y ≡ true
        within y h = in_insert_old total only items X y h

        held : set.contains More X ≡ true
        held = in_insert_here total only items X

        typed_more : HasType More p (fun_type s bool_type)
        typed_more = typed_wider items More within p (fun_type s bool_type) definable.typed

        s_stands_more : is_type More s ≡ true
        s_stands_more = is_type_more items More within s s_stands

        new_stands_more : is_type More New ≡ true
        new_stands_more = new_stands More c abs rep p s held typed_more

        abbrev nothing_passes : List ℕ → TypeTree → Bool
        nothing_passes e t = false

        abbrev abs_passes : List ℕ → TypeTree → Bool
        abs_passes = with_one U abs (fun_type s New) nothing_passes

        abbrev both_pass : List ℕ → TypeTree → Bool
        both_pass = with_one U rep (fun_type New s) abs_passes

        both_meanings : HaveMeanings U More WithType both_pass
        both_meanings =
            meanings_more U More with_abs abs_passes rep (fun_type New s) rep_value
            (meanings_more U More with_type nothing_passes abs (fun_type s New) abs_value (λ e t h. absurd (true≢false (sym h))) (fun_stands More s New s_stands_more new_stands_more) abs_fits)
            (fun_stands More New s new_stands_more s_stands_more) rep_fits

        -- a constant that the item makes is one of the two
        made_passes : (e : List ℕ) (t : TypeTree) → makes_constant e t X ≡ true → both_pass e t ≡ true
        made_passes e t h =
            let made : (is_constant_at e t (abs, fun_type s New) || (is_constant_at e t (rep, fun_type New s) || false)) ≡ true =
            sym (ap (λ (o : Option TypeTree). list_any (is_constant_at e t) (bijections abs rep New (option_and_then fun_parts o))) p_typed.1) ∙ h in
            elim (or_cases (is_constant_at e t (abs, fun_type s New)) (is_constant_at e t (rep, fun_type New s) || false) made) [
              | inl i ↦
                  let q = and_parts (bytes_eq e abs) (is_instance (fun_type s New) t) i in
                  let apart : bytes_eq e rep ≡ false = false_from_ne_true (bytes_eq e rep) (λ j. definable.apart (sym ((bytes_eq-Decides e abs).0 q.0) ∙ (bytes_eq-Decides e rep).0 j)) in
                  (λ k. cond (apart k) (is_instance (fun_type New s) t) (cond (q.0 k) (is_instance (fun_type s New) t) false)) ∙ q.1
              | inr i ↦ elim (or_cases (is_constant_at e t (rep, fun_type New s)) false i) [
                | inl j ↦
                    let q = and_parts (bytes_eq e rep) (is_instance (fun_type New s) t) j in
                    (λ k. cond (q.0 k) (is_instance (fun_type New s) t) (abs_passes e t)) ∙ q.1
                | inr j ↦ absurd (true≢false (sym j))
              ]
            ]

        typed_frame : IsFrame U More WithType
        typed_frame = extended_frame U items X m WithType model type_keeps typed_inhabited (λ e t h. both_meanings e t (made_passes e t h))

        -- ---- the values of the two constants

        module _ (d : Assignment U) where
          -- the values of the names at an instance of a type that has them
          own_at : (generic : TypeTree) → ((a : List ℕ) → is_among names a ≡ true → is_among (type_names generic) a ≡ true) → (a : List ℕ) → is_among names a ≡ true → instance_values U WithType.constructors d generic generic a ≡ d a
          own_at generic has a h = instance_itself U WithType.constructors d generic a (has a h)

          new_has : (a : List ℕ) → is_among names a ≡ true → is_among (type_names New) a ≡ true
          new_has a h = ap (λ (ns : List (List ℕ)). is_among ns a) (variables_named U names) ∙ h

          abs_is : constant_value U WithType d abs (fun_type s New) ≡ abs_value d
          abs_is =
              let at : TypeTree → Assignment U = λ generic. instance_values U WithType.constructors d generic (fun_type s New) in
              let other : bytes_eq abs rep ≡ false = false_from_ne_true (bytes_eq abs rep) (λ j. definable.apart ((bytes_eq-Decides abs rep).0 j)) in
              let generics : Bool → TypeTree = λ b. cond b (fun_type New s) (with_abs.generics abs) in
              let older : Bool → TypeTree = λ b. cond b (fun_type s New) (m.generics abs) in
              ap (λ b. cond b (rep_value (at (generics b))) (with_abs.constants abs (at (generics b)))) other
              ∙ ap (λ b. cond b (abs_value (at (older b))) (m.constants abs (at (older b)))) ((bytes_eq-Decides abs abs).1 refl)
              ∙ abs_agree (at (fun_type s New)) d (own_at (fun_type s New) (λ a h. among_right U (type_names s) (type_names New ++ []) a (among_left U (type_names New) [] a (new_has a h))))

          rep_is : constant_value U WithType d rep (fun_type New s) ≡ rep_value d
          rep_is =
              let at : TypeTree → Assignment U = λ generic. instance_values U WithType.constructors d generic (fun_type New s) in
              let generics : Bool → TypeTree = λ b. cond b (fun_type New s) (with_abs.generics rep) in
              ap (λ b. cond b (rep_value (at (generics b))) (with_abs.constants rep (at (generics b)))) ((bytes_eq-Decides rep rep).1 refl)
              ∙ ap (λ vs. table (λ y. y) vs) (news_agree (at (fun_type New s)) d (own_at (fun_type New s) (λ a h. among_left U (type_names New) (type_names s ++ []) a (new_has a h))))

        -- ---- what the definition says holds

        module _ (d : Assignment U) (full : IsInhabited U d) (f : Valuation U) (fit : IsFitting U WithType.constructors d f) where
          abs_rep_on : eval U WithType d f [] (abs_rep abs rep s New) ≡ on
          abs_rep_on =
              let a : List ℕ × TypeTree = (codes "a", New) in
              let v : Value = f a in
              let i : In v (news d) = subst (λ (vs : Set). In v vs) (new_elements d) (fit a) in
              let whole = (theorem_typed (theorem_over More no_hyps (abs_rep abs rep s New)) (by_abs_rep c abs rep p s held typed_more)).conclusion in
              from_equal U More WithType typed_frame d full f fit New (app (to_new abs s New) (app (from_new rep s New) (free a))) (free a) whole
              ((λ k. apply (abs_is d k) (apply (rep_is d k) v))
              ∙ ap (apply (abs_value d)) (apply_table (λ y. y) v (news d) i)
              ∙ apply_table (drawn (predicate d) (news d)) v (olds d) (members_in (predicate d) v (olds d) i).0
              ∙ drawn_member (predicate d) (olds d) v i)

          predicate_is : eval U WithType d f [] p ≡ predicate d
          predicate_is =
              eval_kept U items m WithType type_keeps d f f (λ v h. refl) [] p (known_typed items p (fun_type s bool_type) definable.typed).0
              ∙ closed_value U m d d f (some_values U m.constructors d) p definable.closed (λ a h. refl)

          predicate_in : In (predicate d) (tables (olds d) booleans)
          predicate_in = value_in U items m model.frame d full (some_values U m.constructors d) (λ v. inhabited U m.constructors model.frame.inhabited d full v.1) p (fun_type s bool_type) definable.typed

          rep_abs_on : eval U WithType d f [] (rep_abs abs rep p s New) ≡ on
          rep_abs_on =
              let r : List ℕ × TypeTree = (codes "r", s) in
              let w : Value = f r in
              let there : Nameless = app (from_new rep s New) (app (to_new abs s New) (free r)) in
              let i : In w (olds d) = subst (λ (vs : Set). In w vs) (old_elements d) (fit r) in
              let whole = (theorem_typed (theorem_over More no_hyps (rep_abs abs rep p s New)) (by_rep_abs c abs rep p s held typed_more)).conclusion in
              let sides = sides_typed More bool_type bool_type (app p (free r)) (equation s there (free r)) whole in
              let back : eval U WithType d f [] there ≡ drawn (predicate d) (news d) w =
              (λ k. apply (rep_is d k) (apply (abs_is d k) w))
              ∙ ap (apply (rep_value d)) (apply_table (drawn (predicate d) (news d)) w (olds d) i)
              ∙ apply_table (λ y. y) (drawn (predicate d) (news d) w) (news d) (drawn_in (predicate d) (olds d) (news_inhabited d full) w i) in
              from_equal U More WithType typed_frame d full f fit bool_type (app p (free r)) (equation s there (free r)) whole
              (ap (λ (t : Value). apply t w) predicate_is
              ∙ drawn_decides (predicate d) (olds d) (news_inhabited d full) w i (apply_in (predicate d) w (olds d) booleans predicate_in i)
              ∙ ap (λ (z : Value). truth_value U (same z w)) (sym back)
              ∙ sym (equation_value U More WithType typed_frame d full f fit s there (free r) sides.1))

        pub defined_type_model : IsModel U More WithType
        defined_type_model =
            extended_model U items X m WithType model type_keeps sound typed_frame
            (λ t typed.
            let same : fun_type s bool_type ≡ fun_type t bool_type = typed_once U items More p (fun_type s bool_type) (fun_type t bool_type) definable.typed typed in
            let is : s ≡ t = cc in (
              subst (λ (u : TypeTree). IsTrueIn U WithType (abs_rep abs rep u New)) is abs_rep_on,
              subst (λ (u : TypeTree). IsTrueIn U WithType (rep_abs abs rep p u New)) is rep_abs_on,
            ))
