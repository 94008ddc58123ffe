-- Values of types: each type has one, and what substitution and instances do to them.
use Rattle.std.proofs.Common.{◌≡◌, ℕ, List, [], ◌∷◌, ◌++◌, refl, ap, sym, ◌∙◌, Bool, true, false, cond, ◌||◌, Option, Some, None, codes, bytes_eq}
use Rattle.std.proofs.lemmas.Bool.{or_left, or_right}
use Rattle.std.proofs.lemmas.Slice.Eq.{bytes_eq-Decides}
use Rattle.std.proofs.Math.Bool.{or_assoc}
use Rattle.hol_types.specs.Tree.{TypeTree, TypeList, TyVar, TyApp, no_types, more_types}
use Rattle.hol_types.specs.Names.{type_names, types_names, is_among}
use Rattle.hol_types.specs.Subst.{type_for, type_subst, types_subst, types_composed}
use Rattle.hol_types.proofs.SubstLaws.{type_subst_composed, subst_none}
use Rattle.hol_model.proofs.Interpretations.{Assignment, Constructors, constructed, elements, elements_of, part_of_two, part_at, parts_at, part_values, instance_values}
use Rattle.hol_model.proofs.Universes.{Universe}

module _ (U : Universe) where
  open U use {Value, Set}
  open U.laws use {is_in, first, first_in, off, off_in, booleans, table, tables, table_in}

  abbrev In : Value → Set → Type 0
  In x xs = is_in x xs ≡ true

  -- ---- each type has a value

  abbrev pub IsInhabited : Assignment U → Type 0
  IsInhabited d = (a : List ℕ) → In (first (d a)) (d a)

  abbrev pub AllInhabited : List Set → Type 0
  AllInhabited [] = Unit {0}
  AllInhabited (xs ∷ more) = In (first xs) xs × AllInhabited more

  -- over types that have values each constructor has one
  abbrev pub AreInhabited : Constructors U → Type 0
  AreInhabited k = (c : List ℕ) (vs : List Set) → AllInhabited vs → In (first (k c vs)) (k c vs)

  module _ (k : Constructors U) (full : AreInhabited k) where
    constructed_inhabited : (c : List ℕ) (vs : List Set) → AllInhabited vs → In (first (constructed U k c vs)) (constructed U k c vs)
    constructed_inhabited c [] h = by (bytes_eq c (codes "bool"))
      where
        by : (b : Bool) → In (first (cond b booleans (k c []))) (cond b booleans (k c []))
        by true = first_in off booleans off_in
        by false = full c [] h
    constructed_inhabited c (xs ∷ []) h = full c (xs ∷ []) h
    constructed_inhabited c (xs ∷ ys ∷ []) h = by (bytes_eq c (codes "fun"))
      where
        by : (b : Bool) → In (first (cond b (tables xs ys) (k c (xs ∷ ys ∷ [])))) (cond b (tables xs ys) (k c (xs ∷ ys ∷ [])))
        by true = first_in (table (λ x. first ys) xs) (tables xs ys) (table_in (λ x. first ys) xs ys (λ x m. h.1.0))
        by false = full c (xs ∷ ys ∷ []) h
    constructed_inhabited c (xs ∷ ys ∷ zs ∷ more) h = full c (xs ∷ ys ∷ zs ∷ more) h

    mutual
      pub inhabited : (d : Assignment U) → IsInhabited d → (t : TypeTree) → In (first (elements U k d t)) (elements U k d t)
      inhabited d h (TyVar a) = h a
      inhabited d h (TyApp c ts) = constructed_inhabited c (elements_of U k d ts) (all_inhabited d h ts)

      all_inhabited : (d : Assignment U) → IsInhabited d → (ts : TypeList) → AllInhabited (elements_of U k d ts)
      all_inhabited d h no_types = tt
      all_inhabited d h (more_types t ts) = (inhabited d h t, all_inhabited d h ts)

    pub instance_inhabited : (d : Assignment U) → IsInhabited d → (generic s : TypeTree) → IsInhabited (instance_values U k d generic s)
    instance_inhabited d h generic s a = by (part_at U a generic s)
      where
        by : (o : Option TypeTree) → In (first (part_values U k d o)) (part_values U k d o)
        by None = first_in off booleans off_in
        by (Some t) = inhabited d h t

  -- ---- names of variables

  pub among_append : (xs ys : List (List ℕ)) (a : List ℕ) → is_among (xs ++ ys) a ≡ (is_among xs a || is_among ys a)
  among_append [] ys a = refl
  among_append (x ∷ xs) ys a = ap (λ b. bytes_eq a x || b) (among_append xs ys a) ∙ sym (or_assoc (bytes_eq a x) (is_among xs a) (is_among ys a))

  pub among_left : (xs ys : List (List ℕ)) (a : List ℕ) → is_among xs a ≡ true → is_among (xs ++ ys) a ≡ true
  among_left xs ys a h = among_append xs ys a ∙ or_left (is_among xs a) (is_among ys a) h

  pub among_right : (xs ys : List (List ℕ)) (a : List ℕ) → is_among ys a ≡ true → is_among (xs ++ ys) a ≡ true
  among_right xs ys a h = among_append xs ys a ∙ or_right (is_among xs a) (is_among ys a) h

  pub among_own : (a : List ℕ) → is_among (a ∷ []) a ≡ true
  among_own a = or_left (bytes_eq a a) false ((bytes_eq-Decides a a).1 refl)

  -- ---- types that have the same values, each part of them too

  module _ (k l : Constructors U) (d e : Assignment U) where
    abbrev mutual
      pub HaveSameElements : TypeTree → Type 0
      HaveSameElements (TyVar a) = d a ≡ e a
      HaveSameElements (TyApp c ts) = (elements U k d (TyApp c ts) ≡ elements U l e (TyApp c ts)) × AllHaveSame ts

      pub AllHaveSame : TypeList → Type 0
      AllHaveSame no_types = Unit {0}
      AllHaveSame (more_types t ts) = HaveSameElements t × AllHaveSame ts

    pub same_elements : (t : TypeTree) → HaveSameElements t → elements U k d t ≡ elements U l e t
    same_elements (TyVar a) h = h
    same_elements (TyApp c ts) h = h.0

    pub all_same_elements : (ts : TypeList) → AllHaveSame ts → elements_of U k d ts ≡ elements_of U l e ts
    all_same_elements no_types h = refl
    all_same_elements (more_types t ts) h = λ i. same_elements t h.0 i ∷ all_same_elements ts h.1 i

    part_of_two_same : (o p : Option TypeTree) → part_values U k d o ≡ part_values U l e o → part_values U k d p ≡ part_values U l e p → part_values U k d (part_of_two U o p) ≡ part_values U l e (part_of_two U o p)
    part_of_two_same None p f g = g
    part_of_two_same (Some t) p f g = f

    mutual
      pub part_same : (a : List ℕ) (generic s : TypeTree) → HaveSameElements s → part_values U k d (part_at U a generic s) ≡ part_values U l e (part_at U a generic s)
      part_same a (TyVar b) s h = by (bytes_eq a b)
        where
          by : (t : Bool) → part_values U k d (cond t (Some s) None) ≡ part_values U l e (cond t (Some s) None)
          by true = same_elements s h
          by false = refl
      part_same a (TyApp c ts) (TyVar b) h = refl
      part_same a (TyApp c ts) (TyApp f us) h = parts_same a ts us h.1

      parts_same : (a : List ℕ) (ts us : TypeList) → AllHaveSame us → part_values U k d (parts_at U a ts us) ≡ part_values U l e (parts_at U a ts us)
      parts_same a no_types us h = refl
      parts_same a (more_types t ts) no_types h = refl
      parts_same a (more_types t ts) (more_types u us) h = part_of_two_same (part_at U a t u) (parts_at U a ts us) (part_same a t u h.0) (parts_same a ts us h.1)

  -- under assignments that agree on the type's variables
  module _ (k : Constructors U) (d e : Assignment U) where
    mutual
      pub have_same : (t : TypeTree) → ((a : List ℕ) → is_among (type_names t) a ≡ true → d a ≡ e a) → HaveSameElements k k d e t
      have_same (TyVar a) h = h a (among_own a)
      have_same (TyApp c ts) h = let all = all_have_same ts h in (ap (constructed U k c) (all_same_elements k k d e ts all), all)

      all_have_same : (ts : TypeList) → ((a : List ℕ) → is_among (types_names ts) a ≡ true → d a ≡ e a) → AllHaveSame k k d e ts
      all_have_same no_types h = tt
      all_have_same (more_types t ts) h =
          (have_same t (λ a i. h a (among_left (type_names t) (types_names ts) a i)), all_have_same ts (λ a i. h a (among_right (type_names t) (types_names ts) a i)))

    pub elements_agree : (t : TypeTree) → ((a : List ℕ) → is_among (type_names t) a ≡ true → d a ≡ e a) → elements U k d t ≡ elements U k e t
    elements_agree t h = same_elements k k d e t (have_same t h)

  -- ---- types for type variables

  abbrev pub assignment_inst : Constructors U → List (TypeTree × List ℕ) → Assignment U → Assignment U
  assignment_inst k pairs d a = elements U k d (type_for pairs a)

  module _ (k : Constructors U) where
    mutual
      pub elements_subst : (pairs : List (TypeTree × List ℕ)) (d : Assignment U) (t : TypeTree) → elements U k d (type_subst pairs t) ≡ elements U k (assignment_inst k pairs d) t
      elements_subst pairs d (TyVar a) = refl
      elements_subst pairs d (TyApp c ts) = ap (constructed U k c) (elements_of_subst pairs d ts)

      elements_of_subst : (pairs : List (TypeTree × List ℕ)) (d : Assignment U) (ts : TypeList) → elements_of U k d (types_subst pairs ts) ≡ elements_of U k (assignment_inst k pairs d) ts
      elements_of_subst pairs d no_types = refl
      elements_of_subst pairs d (more_types t ts) = λ i. elements_subst pairs d t i ∷ elements_of_subst pairs d ts i

  -- the type that stands for a variable, if the generic type has it
  abbrev found_for : List (TypeTree × List ℕ) → List ℕ → Bool → Option TypeTree
  found_for pairs a has = cond has (Some (type_for pairs a)) None

  found_in_two : (pairs : List (TypeTree × List ℕ)) (a : List ℕ) (b c : Bool) → part_of_two U (found_for pairs a b) (found_for pairs a c) ≡ found_for pairs a (b || c)
  found_in_two pairs a true c = refl
  found_in_two pairs a false c = refl

  mutual
    part_of_subst : (pairs : List (TypeTree × List ℕ)) (a : List ℕ) (generic : TypeTree) → part_at U a generic (type_subst pairs generic) ≡ found_for pairs a (is_among (type_names generic) a)
    part_of_subst pairs a (TyVar b) = by (bytes_eq a b) refl
      where
        by : (e : Bool) → bytes_eq a b ≡ e → cond e (Some (type_for pairs b)) None ≡ found_for pairs a (e || false)
        by true e = ap (λ n. Some (type_for pairs n)) (sym ((bytes_eq-Decides a b).0 e))
        by false e = refl
    part_of_subst pairs a (TyApp c ts) = parts_of_subst pairs a ts

    parts_of_subst : (pairs : List (TypeTree × List ℕ)) (a : List ℕ) (ts : TypeList) → parts_at U a ts (types_subst pairs ts) ≡ found_for pairs a (is_among (types_names ts) a)
    parts_of_subst pairs a no_types = refl
    parts_of_subst pairs a (more_types t ts) =
        (λ i. part_of_two U (part_of_subst pairs a t i) (parts_of_subst pairs a ts i))
        ∙ found_in_two pairs a (is_among (type_names t) a) (is_among (types_names ts) a)
        ∙ ap (found_for pairs a) (sym (among_append (type_names t) (types_names ts) a))

  module _ (k : Constructors U) (d : Assignment U) where
    -- a generic type has at an instance's values those of the instance
    pub instance_at : (pairs : List (TypeTree × List ℕ)) (generic : TypeTree) (a : List ℕ) → is_among (type_names generic) a ≡ true → instance_values U k d generic (type_subst pairs generic) a ≡ elements U k d (type_for pairs a)
    instance_at pairs generic a h = ap (part_values U k d) (part_of_subst pairs a generic) ∙ ap (λ b. part_values U k d (found_for pairs a b)) h

    pub elements_instance : (pairs : List (TypeTree × List ℕ)) (generic : TypeTree) → elements U k (instance_values U k d generic (type_subst pairs generic)) generic ≡ elements U k d (type_subst pairs generic)
    elements_instance pairs generic =
        elements_agree k (instance_values U k d generic (type_subst pairs generic)) (assignment_inst k pairs d) generic (instance_at pairs generic)
        ∙ sym (elements_subst k pairs d generic)

    -- and is an instance of itself
    pub instance_itself : (generic : TypeTree) (a : List ℕ) → is_among (type_names generic) a ≡ true → instance_values U k d generic generic a ≡ d a
    instance_itself generic a h = ap (λ s. instance_values U k d generic s a) (sym (subst_none generic)) ∙ instance_at [] generic a h

    -- an instance of an instance has the values of the instance under the assignment of the types
    pub instance_steady : (pairs earlier : List (TypeTree × List ℕ)) (generic : TypeTree) → instance_values U k d generic (type_subst pairs (type_subst earlier generic)) ≡ instance_values U k (assignment_inst k pairs d) generic (type_subst earlier generic)
    instance_steady pairs earlier generic = λ i a. at a i
      where
        at : (a : List ℕ) → instance_values U k d generic (type_subst pairs (type_subst earlier generic)) a ≡ instance_values U k (assignment_inst k pairs d) generic (type_subst earlier generic) a
        at a =
            ap (part_values U k d) (ap (part_at U a generic) (type_subst_composed pairs earlier generic) ∙ part_of_subst (types_composed pairs earlier) a generic)
            ∙ by (is_among (type_names generic) a)
            ∙ sym (ap (part_values U k (assignment_inst k pairs d)) (part_of_subst earlier a generic))
          where
            by : (b : Bool) → part_values U k d (found_for (types_composed pairs earlier) a b) ≡ part_values U k (assignment_inst k pairs d) (found_for earlier a b)
            by true = ap (elements U k d) (sym (type_subst_composed pairs earlier (TyVar a))) ∙ elements_subst k pairs d (type_for earlier a)
            by false = refl
