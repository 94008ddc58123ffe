-- Strictly sorted lists of keys as finite sets: two lists merged, a list but for one key, in any total order in which only equal keys tie.
use Rattle.std.specs.Prelude.{◌≡◌, ◌⊎◌, Bool, true, false, cond, not, ◌||◌, ◌&&◌, List, [], ◌∷◌, ◌++◌, map, refl}
use Rattle.std.proofs.Common.{ap, sym, ◌∙◌, subst, inl, inr}
use Rattle.std.proofs.lemmas.Bool.{or_cases, or_right}
use mathlib.Core.Bool.{true≢false}
use Rattle.std.specs.declared.cmp.Ordering.{Ordering}
use Rattle.std.specs.declared.cmp.Ordering.TheVariants.{Less, Equal, Greater}
use Rattle.std.specs.Ordering.{eq_by_cmp, is_eq, ordering_reverse, match_ordering}
use Rattle.std.specs.Cmp.{IsTotalOrder, Equal-is, both_ways, alike_right, tied_itself, eq_by_cmp_equiv}
use Rattle.std.specs.List.{list_any, filter, AllByRecursion}
use Rattle.std.specs.List.Sorted.{IsStrictlySortedBy}
use Rattle.std.specs.Set.{sorted_merge, merge_step}
use Rattle.std.specs.FinSet as set
use Rattle.std.proofs.Math.Bool.{or-false, or_assoc}
use Rattle.hol_types.proofs.Names.{or_swap}

once : (t a b : Bool) → (t || (a || b)) ≡ ((t || a) || (t || b))
once true a b = refl
once false a b = refl

-- a key that stays does not tie with the one left out
left_in : (k t b : Bool) → (t ≡ true → k ≡ false) → (t || (not k && b)) ≡ (not k && (t || b))
left_in k true b other = ap (λ a. not a && true) (sym (other refl))
left_in k false b other = refl

by_rank : {A : Type 0} (P : A → Type 0) (k : Ordering) (x y z : A) → (k ≡ Less → P x) → (k ≡ Equal → P y) → (k ≡ Greater → P z) → P (match_ordering k x y z)
by_rank P Less x y z a b c = a refl
by_rank P Equal x y z a b c = b refl
by_rank P Greater x y z a b c = c refl

by_test : (b : Bool) (P : Bool → Type 0) → (b ≡ true → P true) → (b ≡ false → P false) → P b
by_test true P f g = f refl
by_test false P f g = g refl

pub all_map : {K : Type 0} (P Q : K → Type 0) → ((x : K) → P x → Q x) → (xs : List K) → AllByRecursion P xs → AllByRecursion Q xs
all_map P Q f [] a = tt
all_map P Q f (x ∷ xs) a = (f x a.0, all_map P Q f xs a.1)

all_filter : {K : Type 0} (p : K → Bool) (P : K → Type 0) (xs : List K) → AllByRecursion P xs → AllByRecursion P (filter p xs)
all_filter p P [] a = tt
all_filter p P (x ∷ xs) a =
    elim (p x) as (λ b. AllByRecursion P (cond b (x ∷ filter p xs) (filter p xs))) [ true ↦ (a.0, all_filter p P xs a.1) | false ↦ all_filter p P xs a.1 ]

any_append : {K : Type 0} (p : K → Bool) (xs ys : List K) → list_any p (xs ++ ys) ≡ (list_any p xs || list_any p ys)
any_append p [] ys = refl
any_append p (x ∷ xs) ys = ap (λ b. p x || b) (any_append p xs ys) ∙ sym (or_assoc (p x) (list_any p xs) (list_any p ys))

-- q is one of the list
abbrev pub Among : {K : Type 0} → K → List K → Type 0
Among q [] = ⊥
Among q (x ∷ xs) = (q ≡ x) ⊎ Among q xs

pub any_some : {K : Type 0} (p : K → Bool) (xs : List K) → list_any p xs ≡ true → (x : K) × Among x xs × (p x ≡ true)
any_some p [] e = absurd (true≢false (sym e))
any_some p (x ∷ xs) e =
    elim (or_cases (p x) (list_any p xs) e) [
      | inl f ↦ (x, inl refl, f)
      | inr g ↦ let a = any_some p xs g in (a.0, inr a.1, a.2)
    ]

pub some_any : {K : Type 0} (p : K → Bool) (xs : List K) (x : K) → Among x xs → p x ≡ true → list_any p xs ≡ true
some_any p [] x h e = absurd h
some_any p (y ∷ xs) x (inl f) e = ap (λ b. b || list_any p xs) (ap p (sym f) ∙ e)
some_any p (y ∷ xs) x (inr g) e = ap (λ b. p y || b) (some_any p xs x g e) ∙ or_right (p y) true refl

among_map : {K L : Type 0} (f : K → L) (q : K) (xs : List K) → Among q xs → Among (f q) (map f xs)
among_map f q [] h = absurd h
among_map f q (x ∷ xs) (inl e) = inl (ap f e)
among_map f q (x ∷ xs) (inr h) = inr (among_map f q xs h)

among_unmap : {K L : Type 0} (f : K → L) (y : L) (xs : List K) → Among y (map f xs) → (x : K) × Among x xs × (y ≡ f x)
among_unmap f y [] h = absurd h
among_unmap f y (x ∷ xs) (inl e) = (x, inl refl, e)
among_unmap f y (x ∷ xs) (inr h) = let a = among_unmap f y xs h in (a.0, inr a.1, a.2)

module _ {K : Type 0} {R : K → K → Ordering} (o : IsTotalOrder R) where
  abbrev Below : K → List K → Type 0
  Below x ys = AllByRecursion (λ y. R x y ≡ Less) ys

  -- ---- sorted lists

  pub sorted_none : IsStrictlySortedBy R []
  unfolding IsStrictlySortedBy
  sorted_none = tt

  pub sorted_one : (x : K) → IsStrictlySortedBy R (x ∷ [])
  unfolding IsStrictlySortedBy
  sorted_one x = (tt, tt)

  pub sorted_filter : (p : K → Bool) (xs : List K) → IsStrictlySortedBy R xs → IsStrictlySortedBy R (filter p xs)
  unfolding IsStrictlySortedBy
  sorted_filter p [] h = tt
  sorted_filter p (x ∷ xs) h =
      elim (p x) as (λ b. IsStrictlySortedBy R (cond b (x ∷ filter p xs) (filter p xs))) [
        | true ↦ (all_filter p (λ y. R x y ≡ Less) xs h.0, sorted_filter p xs h.1)
        | false ↦ sorted_filter p xs h.1
      ]

  turned : (x y : K) → R x y ≡ Greater → R y x ≡ Less
  turned x y h = o.antisymm y x ∙ ap ordering_reverse h

  below_all : (x y : K) (ys : List K) → R x y ≡ Less → Below y ys → Below x (y ∷ ys)
  below_all x y ys h a = (h, all_map (λ z. R y z ≡ Less) (λ z. R x z ≡ Less) (λ z l. o.trans x y z h l) ys a)

  level_all : (x y : K) (ys : List K) → R x y ≡ Equal → Below y ys → Below x ys
  level_all x y ys h a = all_map (λ z. R y z ≡ Less) (λ z. R x z ≡ Less) (λ z l. o.congr x y z h ∙ l) ys a

  all_step : (P : K → Type 0) (x : K) (xs : List K) (on : List K → List K) → P x → AllByRecursion P xs → ((ys : List K) → AllByRecursion P ys → AllByRecursion P (on ys)) → (ys : List K) → AllByRecursion P ys → AllByRecursion P (merge_step R true x xs on ys)
  all_step P x xs on p a h [] b = (p, a)
  all_step P x xs on p a h (y ∷ ys) b =
      by_rank (AllByRecursion P) (R x y) _ _ _ (λ _. (p, h (y ∷ ys) b)) (λ _. (p, h ys b.1)) (λ _. (b.0, all_step P x xs on p a h ys b.1))

  all_merged : (P : K → Type 0) (xs ys : List K) → AllByRecursion P xs → AllByRecursion P ys → AllByRecursion P (sorted_merge R true xs ys)
  all_merged P [] ys a b = b
  all_merged P (x ∷ xs) ys a b = all_step P x xs (sorted_merge R true xs) a.0 a.1 (λ zs. all_merged P xs zs a.1) ys b

  sorted_step : (x : K) (xs : List K) → IsStrictlySortedBy R (x ∷ xs) → ((ys : List K) → IsStrictlySortedBy R ys → IsStrictlySortedBy R (sorted_merge R true xs ys)) → (ys : List K) → IsStrictlySortedBy R ys → IsStrictlySortedBy R (sorted_merge R true (x ∷ xs) ys)
  unfolding IsStrictlySortedBy
  sorted_step x xs s h [] t = s
  sorted_step x xs s h (y ∷ ys) t =
      by_rank (IsStrictlySortedBy R) (R x y) _ _ _
      (λ k. (all_merged (λ z. R x z ≡ Less) xs (y ∷ ys) s.0 (below_all x y ys k t.0), h (y ∷ ys) t))
      (λ k. (all_merged (λ z. R x z ≡ Less) xs ys s.0 (level_all x y ys k t.0), h ys t.1))
      (λ k. (all_merged (λ z. R y z ≡ Less) (x ∷ xs) ys (below_all y x xs (turned x y k) s.0) t.0, sorted_step x xs s h ys t.1))

  pub sorted_merged : (xs ys : List K) → IsStrictlySortedBy R xs → IsStrictlySortedBy R ys → IsStrictlySortedBy R (sorted_merge R true xs ys)
  unfolding IsStrictlySortedBy
  sorted_merged [] ys s t = t
  sorted_merged (x ∷ xs) ys s t = sorted_step x xs s (λ zs. sorted_merged xs zs s.1) ys t

  -- ---- what they have

  module _ (q : K) where
    abbrev has : List K → Bool
    has xs = list_any (eq_by_cmp R q) xs

    as_first : (x y : K) → R x y ≡ Equal → eq_by_cmp R q y ≡ eq_by_cmp R q x
    as_first x y k = ap is_eq (sym (alike_right o x y q k))

    has_step : (x : K) (xs : List K) → ((ys : List K) → has (sorted_merge R true xs ys) ≡ (has xs || has ys)) → (ys : List K) → has (sorted_merge R true (x ∷ xs) ys) ≡ (has (x ∷ xs) || has ys)
    has_step x xs h [] = sym (or-false (has (x ∷ xs)))
    has_step x xs h (y ∷ ys) =
        by_rank (λ l. has l ≡ (has (x ∷ xs) || has (y ∷ ys))) (R x y) _ _ _
        (λ k. ap (λ b. eq_by_cmp R q x || b) (h (y ∷ ys)) ∙ sym (or_assoc (eq_by_cmp R q x) (has xs) (has (y ∷ ys))))
        (λ k. ap (λ b. eq_by_cmp R q x || b) (h ys) ∙ once (eq_by_cmp R q x) (has xs) (has ys) ∙ ap (λ t. has (x ∷ xs) || (t || has ys)) (sym (as_first x y k)))
        (λ k. ap (λ b. eq_by_cmp R q y || b) (has_step x xs h ys) ∙ or_swap (eq_by_cmp R q y) (has (x ∷ xs)) (has ys))

    has_merged : (xs ys : List K) → has (sorted_merge R true xs ys) ≡ (has xs || has ys)
    has_merged [] ys = refl
    has_merged (x ∷ xs) ys = has_step x xs (has_merged xs) ys

    has_but : (k : K) (xs : List K) → has (filter (λ x. not (eq_by_cmp R x k)) xs) ≡ (not (eq_by_cmp R q k) && has xs)
    has_but k [] = by_test (eq_by_cmp R q k) (λ b. false ≡ (not b && false)) (λ _. refl) (λ _. refl)
    has_but k (x ∷ xs) =
        by_test (eq_by_cmp R x k) (λ b. has (cond (not b) (x ∷ filter (λ y. not (eq_by_cmp R y k)) xs) (filter (λ y. not (eq_by_cmp R y k)) xs)) ≡ (not (eq_by_cmp R q k) && has (x ∷ xs)))
        (λ e. has_but k xs ∙ gone e)
        (λ e. ap (λ b. eq_by_cmp R q x || b) (has_but k xs) ∙ left_in (eq_by_cmp R q k) (eq_by_cmp R q x) (has xs) (λ t. (eq_by_cmp_equiv o).congr q x k t ∙ e))
      where
        gone : eq_by_cmp R x k ≡ true → (not (eq_by_cmp R q k) && has xs) ≡ (not (eq_by_cmp R q k) && (eq_by_cmp R q x || has xs))
        gone e = by_test (eq_by_cmp R q k) (λ b. (not b && has xs) ≡ (not b && (b || has xs))) (λ _. refl) (λ _. refl) ∙ ap (λ b. not (eq_by_cmp R q k) && (b || has xs)) (sym same)
          where
            same : eq_by_cmp R q x ≡ eq_by_cmp R q k
            same = ap is_eq (alike_right o x k q ((Equal-is (R x k)).0 e))

  -- ---- members

  among_has : (q : K) (xs : List K) → Among q xs → list_any (eq_by_cmp R q) xs ≡ true
  among_has q [] h = absurd h
  among_has q (x ∷ xs) (inl e) = ap (λ b. b || list_any (eq_by_cmp R q) xs) (ap (λ k. is_eq (R q k)) (sym e) ∙ ap is_eq (tied_itself o q))
  among_has q (x ∷ xs) (inr h) = ap (λ b. eq_by_cmp R q x || b) (among_has q xs h) ∙ or_right (eq_by_cmp R q x) true refl

  -- ---- as sets

  module _ (only : set.IsAntisymmetric R) where
    pub set_merged : (xs ys : List K) → set.from_list {R = R} (sorted_merge R true xs ys) ≡ set.union (set.from_list xs) (set.from_list ys)
    set_merged xs ys =
        set.same_set o only _ _
        (λ q. set.contains-from_list o (sorted_merge R true xs ys) q ∙ has_merged q xs ys
        ∙ sym (set.contains-union o (set.from_list xs) (set.from_list ys) q ∙ (λ i. set.contains-from_list o xs q i || set.contains-from_list o ys q i)))

    pub set_append : (xs ys : List K) → set.from_list {R = R} (xs ++ ys) ≡ set.union (set.from_list xs) (set.from_list ys)
    set_append xs ys =
        set.same_set o only _ _
        (λ q. set.contains-from_list o (xs ++ ys) q ∙ any_append (eq_by_cmp R q) xs ys
        ∙ sym (set.contains-union o (set.from_list xs) (set.from_list ys) q ∙ (λ i. set.contains-from_list o xs q i || set.contains-from_list o ys q i)))

    pub set_but : (k : K) (xs : List K) → set.from_list {R = R} (filter (λ x. not (eq_by_cmp R x k)) xs) ≡ set.remove (set.from_list xs) k
    set_but k xs =
        set.same_set o only _ _
        (λ q. set.contains-from_list o (filter (λ x. not (eq_by_cmp R x k)) xs) q ∙ has_but q k xs
        ∙ sym (set.contains-remove o (set.from_list xs) k q ∙ ap (λ b. not (eq_by_cmp R q k) && b) (set.contains-from_list o xs q)))

    has_among : (q : K) (xs : List K) → list_any (eq_by_cmp R q) xs ≡ true → Among q xs
    has_among q [] e = absurd (true≢false (sym e))
    has_among q (x ∷ xs) e =
        elim (or_cases (eq_by_cmp R q x) (list_any (eq_by_cmp R q) xs) e) [
          | inl f ↦ inl (only q x ((Equal-is (R q x)).0 f))
          | inr g ↦ inr (has_among q xs g)
        ]

    -- the items of a list's set are the list's elements
    pub items_among : (q : K) (xs : List K) → Among q (set.items (set.from_list {R = R} xs)) → Among q xs
    items_among q xs h =
        has_among q xs
        (sym (set.contains-from_list o xs q) ∙ set.contains-items (set.from_list xs) q ∙ among_has q (set.items (set.from_list xs)) h)

    pub among_items : (q : K) (xs : List K) → Among q xs → Among q (set.items (set.from_list {R = R} xs))
    among_items q xs h =
        has_among q (set.items (set.from_list xs))
        (sym (set.contains-items (set.from_list xs) q) ∙ set.contains-from_list o xs q ∙ among_has q xs h)

    -- a test of some element, and a map of all
    pub any_of_set : (p : K → Bool) (xs : List K) → list_any p (set.items (set.from_list {R = R} xs)) ≡ list_any p xs
    any_of_set p xs =
        both_ways _ _
        (λ e. let a = any_some p (set.items (set.from_list {R = R} xs)) e in some_any p xs a.0 (items_among a.0 xs a.1) a.2)
        (λ e. let a = any_some p xs e in some_any p (set.items (set.from_list {R = R} xs)) a.0 (among_items a.0 xs a.1) a.2)

    pub map_of_set : (f : K → K) (xs : List K) → set.from_list {R = R} (map f (set.items (set.from_list {R = R} xs))) ≡ set.from_list (map f xs)
    map_of_set f xs =
        let ys : List K = set.items (set.from_list {R = R} xs) in
        set.same_set o only _ _
        (λ q. set.contains-from_list o (map f ys) q
        ∙ both_ways _ _
        (λ e. let a = among_unmap f q ys (has_among q (map f ys) e) in among_has q (map f xs) (subst (λ (k : K). Among k (map f xs)) (sym a.2) (among_map f a.0 xs (items_among a.0 xs a.1))))
        (λ e. let a = among_unmap f q xs (has_among q (map f xs) e) in among_has q (map f ys) (subst (λ (k : K). Among k (map f ys)) (sym a.2) (among_map f a.0 ys (among_items a.0 xs a.1))))
        ∙ sym (set.contains-from_list o (map f xs) q))

    pub union_none_left : (s : set.FinSet R) → set.union set.empty s ≡ s
    union_none_left s = set.same_set o only _ _ (λ q. set.contains-union o set.empty s q ∙ ap (λ b. b || set.contains s q) (set.contains-empty R q))

    pub union_none_right : (s : set.FinSet R) → set.union s set.empty ≡ s
    union_none_right s = set.same_set o only _ _ (λ q. set.contains-union o s set.empty q ∙ ap (λ b. set.contains s q || b) (set.contains-empty R q) ∙ or-false (set.contains s q))

    pub remove_none : (k : K) → set.remove (set.empty {R = R}) k ≡ set.empty
    remove_none k =
        set.same_set o only _ _
        (λ q. set.contains-remove o set.empty k q ∙ ap (λ b. not (eq_by_cmp R q k) && b) (set.contains-empty R q)
        ∙ by_test (eq_by_cmp R q k) (λ b. (not b && false) ≡ false) (λ _. refl) (λ _. refl) ∙ sym (set.contains-empty R q))
