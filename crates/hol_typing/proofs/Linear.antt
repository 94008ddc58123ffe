-- Types in which no type variable stands twice.
use Rattle.std.proofs.Common.{◌≡◌, ℕ, ◌+◌, ◌<◌, ◌≤◌, List, [], ◌∷◌, ◌++◌, length, get_or, take, drop, refl, sym, ◌∙◌, ap, subst, arith, Bool, true, false, ◌||◌, not, cond, bytes_eq}
use Rattle.std.specs.Borrow.{Bor}
use Rattle.std.specs.Ordering.{nat_cmp, is_eq}
use Rattle.std.specs.Cmp.Lexicographic.{slice_cmp}
use Rattle.std.specs.BTreeSet.{BTreeSet, contains_by}
use Rattle.std.proofs.lemmas.Map.Text.{is_eq-slice_cmp}
use Rattle.std.proofs.lemmas.List.{append-nil, append_assoc, take_more, take_all}
use Rattle.std.proofs.lemmas.Slice.Eq.{bytes_eq-Decides}
use Rattle.std.proofs.Math.Bool.{or-false, or-true}
use Rattle.std.proofs.lemmas.Bool.{not-true, or_parts}
use Rattle.hol_types.specs.Tree.{TypeTree, TyApp, type_list}
use Rattle.hol_types.specs.Names.{is_among, type_names, types_names}
use Rattle.hol_types.proofs.Filters.{among_append}
use Rattle.hol_types.proofs.Steps.{next_of}
use Rattle.hol_typing.specs.Linear.{AreDistinct, IsLinear, AreLinear, AreApart, ArePairwiseApart, AreDistinctBut, IsLinearBut, AreLinearBut, AreApartBut, ArePairwiseApartBut}
use Rattle.hol_typing.proofs.Instances.{turned}

-- ---- the names as they occur

-- one turn of the loop over the arguments
pub names_step : (names : List (List ℕ)) (ts : List TypeTree) (i : ℕ) (t : TypeTree) → i < length ts → t ≡ get_or ts i t →
    names ++ types_names (type_list (drop i ts)) ≡ (names ++ type_names t) ++ types_names (type_list (drop (i + 1) ts))
names_step names ts i t h e = rw (next_of ts i t h e) (sym (append_assoc names (type_names t) (types_names (type_list (drop (i + 1) ts)))))

-- ---- one name more

pub among_push : (names : List (List ℕ)) (a q : List ℕ) → is_among (names ++ a ∷ []) q ≡ (is_among names q || bytes_eq q a)
among_push names a q = among_append names (a ∷ []) q ∙ ap (λ (b : Bool). is_among names q || b) (or-false (bytes_eq q a))

distinct_push : (names : List (List ℕ)) (a : List ℕ) → AreDistinct names → is_among names a ≡ false → AreDistinct (names ++ a ∷ [])
distinct_push [] a d none = (refl, tt)
distinct_push (b ∷ names) a d none =
    let both = or_parts (bytes_eq a b) (is_among names a) none in
    let other : bytes_eq b a ≡ false = turned b a both.0 in
    (among_push names a b ∙ rw (d.0, other) refl, distinct_push names a d.1 both.1)

pub among_step : (names : List (List ℕ)) (i : ℕ) (a q : List ℕ) → i < length names → a ≡ get_or names i a → is_among (take (i + 1) names) q ≡ (is_among (take i names) q || bytes_eq q a)
among_step names i a q lt e = ap (λ (ns : List (List ℕ)). is_among ns q) (take_more names i a lt ∙ ap (λ (b : List ℕ). take i names ++ b ∷ []) (sym e)) ∙ among_push (take i names) a q

-- a name that was not in the set of those that were seen is not among them
pub none_seen : (names : List (List ℕ)) (i : ℕ) (a b : List ℕ) (s : BTreeSet (Bor (List ℕ))) (added : Bool) → b ≡ a →
    ((q : List ℕ) → contains_by (λ k. slice_cmp nat_cmp q k.now) s ≡ is_among (take i names) q) →
    added ≡ not (contains_by (λ k. slice_cmp nat_cmp b k.now) s) → added ≡ true → is_among (take i names) a ≡ false
none_seen names i a b s added same seen is was =
    sym (seen a) ∙ not-true (contains_by (λ k. slice_cmp nat_cmp a k.now) s) (subst (λ (x : List ℕ). not (contains_by (λ k. slice_cmp nat_cmp x k.now) s) ≡ true) same (sym is ∙ was))

-- the set of the names that were seen, with one more
pub seen_step : (names : List (List ℕ)) (i : ℕ) (a b : List ℕ) (s n : BTreeSet (Bor (List ℕ))) → i < length names → a ≡ get_or names i a → b ≡ a →
    ((q : List ℕ) → contains_by (λ k. slice_cmp nat_cmp q k.now) s ≡ is_among (take i names) q) →
    ((q : Bor (List ℕ)) → contains_by (λ k. slice_cmp nat_cmp q.now k.now) n ≡ cond (is_eq (slice_cmp nat_cmp b q.now)) true (contains_by (λ k. slice_cmp nat_cmp q.now k.now) s)) →
    (q : List ℕ) → contains_by (λ k. slice_cmp nat_cmp q k.now) n ≡ is_among (take (i + 1) names) q
seen_step names i a b s n lt e same seen updates q =
    let key : Bor (List ℕ) = record { ref_ptr = (0, 0); now = q } in
    let test : is_eq (slice_cmp nat_cmp a q) ≡ bytes_eq a q = is_eq-slice_cmp a q in
    updates key ∙ ap (λ (x : List ℕ). cond (is_eq (slice_cmp nat_cmp x q)) true (contains_by (λ k. slice_cmp nat_cmp q k.now) s)) same ∙ ap (λ (b : Bool). cond b true (contains_by (λ k. slice_cmp nat_cmp q k.now) s)) test ∙ by (bytes_eq a q) refl ∙ sym (among_step names i a q lt e)
  where
    by : (b : Bool) → bytes_eq a q ≡ b → cond b true (contains_by (λ k. slice_cmp nat_cmp q k.now) s) ≡ (is_among (take i names) q || bytes_eq q a)
    by true f =
        let same : bytes_eq q a ≡ true = (bytes_eq-Decides q a).1 (sym ((bytes_eq-Decides a q).0 f)) in
        sym (ap (λ (b : Bool). is_among (take i names) q || b) same ∙ or-true (is_among (take i names) q))
    by false f =
        let other : bytes_eq q a ≡ false = turned q a f in
        seen q ∙ sym (ap (λ (b : Bool). is_among (take i names) q || b) other ∙ or-false (is_among (take i names) q))

-- ---- the arguments of a constructor

distinct_front : (xs ys : List (List ℕ)) → AreDistinct (xs ++ ys) → AreDistinct xs
distinct_front [] ys d = tt
distinct_front (x ∷ xs) ys d = ((or_parts (is_among xs x) (is_among ys x) (sym (among_append xs ys x) ∙ d.0)).0, distinct_front xs ys d.1)

distinct_back : (xs ys : List (List ℕ)) → AreDistinct (xs ++ ys) → AreDistinct ys
distinct_back [] ys d = d
distinct_back (x ∷ xs) ys d = distinct_back xs ys d.1

distinct_apart : (xs ys : List (List ℕ)) → AreDistinct (xs ++ ys) → AreApart xs ys
distinct_apart [] ys d a m = absurd (cc)
distinct_apart (x ∷ xs) ys d a m = by (bytes_eq a x) refl m (distinct_apart xs ys d.1 a)
  where
    by : (b : Bool) → bytes_eq a x ≡ b → (b || is_among xs a) ≡ true → (is_among xs a ≡ true → is_among ys a ≡ false) → is_among ys a ≡ false
    by true e m r =
        let same : x ≡ a = sym ((bytes_eq-Decides a x).0 e) in
        subst (λ (n : List ℕ). is_among ys n ≡ false) same (or_parts (is_among xs x) (is_among ys x) (sym (among_append xs ys x) ∙ d.0)).1
    by false e m r = r m

pub linear_args : (ts : List TypeTree) → AreDistinct (types_names (type_list ts)) → AreLinear ts
linear_args [] d = tt
linear_args (t ∷ ts) d = (distinct_front (type_names t) (types_names (type_list ts)) d, linear_args ts (distinct_back (type_names t) (types_names (type_list ts)) d))

pub apart_args : (ts : List TypeTree) → AreDistinct (types_names (type_list ts)) → ArePairwiseApart ts
apart_args [] d = tt
apart_args (t ∷ ts) d = (distinct_apart (type_names t) (types_names (type_list ts)) d, apart_args ts (distinct_back (type_names t) (types_names (type_list ts)) d))

pub linear_whole : (c : List ℕ) (ts : List TypeTree) (ty : TypeTree) → TyApp c (type_list ts) ≡ ty → IsLinear ty → AreDistinct (types_names (type_list ts))
linear_whole c ts ty e h = subst IsLinear (sym e) h

-- the types from the i-th on
pub linear_step : (ts : List TypeTree) (i : ℕ) (t : TypeTree) → i < length ts → t ≡ get_or ts i t → AreLinear (drop i ts) → IsLinear t × AreLinear (drop (i + 1) ts)
linear_step ts i t lt e h = subst AreLinear (next_of ts i t lt e) h

-- ---- two types

pub two_apart : (s t : TypeTree) → AreApart (type_names s) (type_names t) → ArePairwiseApart (s ∷ t ∷ [])
two_apart s t h = (λ a m. ap (λ (ns : List (List ℕ)). is_among ns a) (append-nil (type_names t)) ∙ h a m, (λ a m. refl, tt))

-- ---- types in which no variables but some stand twice

distinct_but_front : (but xs ys : List (List ℕ)) → AreDistinctBut but (xs ++ ys) → AreDistinctBut but xs
distinct_but_front but [] ys d = tt
distinct_but_front but (x ∷ xs) ys d = (λ none. (or_parts (is_among xs x) (is_among ys x) (sym (among_append xs ys x) ∙ d.0 none)).0, distinct_but_front but xs ys d.1)

distinct_but_back : (but xs ys : List (List ℕ)) → AreDistinctBut but (xs ++ ys) → AreDistinctBut but ys
distinct_but_back but [] ys d = d
distinct_but_back but (x ∷ xs) ys d = distinct_but_back but xs ys d.1

distinct_but_apart : (but xs ys : List (List ℕ)) → AreDistinctBut but (xs ++ ys) → AreApartBut but xs ys
distinct_but_apart but [] ys d a none m = absurd (cc)
distinct_but_apart but (x ∷ xs) ys d a none m = by (bytes_eq a x) refl m (distinct_but_apart but xs ys d.1 a none)
  where
    by : (b : Bool) → bytes_eq a x ≡ b → (b || is_among xs a) ≡ true → (is_among xs a ≡ true → is_among ys a ≡ false) → is_among ys a ≡ false
    by true e m r =
        let same : a ≡ x = (bytes_eq-Decides a x).0 e in
        let here : is_among but x ≡ false = subst (λ (n : List ℕ). is_among but n ≡ false) same none in
        subst (λ (n : List ℕ). is_among ys n ≡ false) (sym same) (or_parts (is_among xs x) (is_among ys x) (sym (among_append xs ys x) ∙ d.0 here)).1
    by false e m r = r m

pub linear_but_args : (but : List (List ℕ)) (ts : List TypeTree) → AreDistinctBut but (types_names (type_list ts)) → AreLinearBut but ts
linear_but_args but [] d = tt
linear_but_args but (t ∷ ts) d = (distinct_but_front but (type_names t) (types_names (type_list ts)) d, linear_but_args but ts (distinct_but_back but (type_names t) (types_names (type_list ts)) d))

pub apart_but_args : (but : List (List ℕ)) (ts : List TypeTree) → AreDistinctBut but (types_names (type_list ts)) → ArePairwiseApartBut but ts
apart_but_args but [] d = tt
apart_but_args but (t ∷ ts) d = (distinct_but_apart but (type_names t) (types_names (type_list ts)) d, apart_but_args but ts (distinct_but_back but (type_names t) (types_names (type_list ts)) d))

-- the types from the i-th on
pub linear_but_step : (but : List (List ℕ)) (ts : List TypeTree) (i : ℕ) (t : TypeTree) → i < length ts → t ≡ get_or ts i t → AreLinearBut but (drop i ts) → IsLinearBut but t × AreLinearBut but (drop (i + 1) ts)
linear_but_step but ts i t lt e h = subst (AreLinearBut but) (next_of ts i t lt e) h

pub empty_of : (names : List (List ℕ)) → length names ≡ 0 → names ≡ []
empty_of [] e = refl
empty_of (a ∷ names) e = absurd (omega (arith, e))

-- with none at all, no variable stands twice
pub none_twice : (names : List (List ℕ)) → AreDistinctBut [] names → AreDistinct names
none_twice [] d = tt
none_twice (a ∷ names) d = (d.0 refl, none_twice names d.1)

-- ---- the names that stand twice

but_weaker : (but more names : List (List ℕ)) → ((a : List ℕ) → is_among more a ≡ false → is_among but a ≡ false) → AreDistinctBut but names → AreDistinctBut more names
but_weaker but more [] h d = tt
but_weaker but more (a ∷ names) h d = (λ none. d.0 (h a none), but_weaker but more names h d.1)

equal_names : (a b : List ℕ) → bytes_eq b a ≡ true → bytes_eq a b ≡ true
equal_names a b e = (bytes_eq-Decides a b).1 (sym ((bytes_eq-Decides b a).0 e))

but_push : (but names : List (List ℕ)) (a : List ℕ) → AreDistinctBut but names → (is_among but a ≡ false → is_among names a ≡ false) → AreDistinctBut but (names ++ a ∷ [])
but_push but [] a d h = (λ none. refl, tt)
but_push but (b ∷ names) a d h =
    (λ none. among_push names a b ∙ by (bytes_eq b a) refl none (d.0 none), but_push but names a d.1 (λ none. (or_parts (bytes_eq a b) (is_among names a) (h none)).1))
  where
    by : (t : Bool) → bytes_eq b a ≡ t → is_among but b ≡ false → is_among names b ≡ false → (is_among names b || t) ≡ false
    by true e none apart =
        let here : is_among but a ≡ false = subst (λ (n : List ℕ). is_among but n ≡ false) ((bytes_eq-Decides b a).0 e) none in
        let z : true ≡ false = sym (equal_names a b e) ∙ (or_parts (bytes_eq a b) (is_among names a) (h here)).0 in
        absurd (cc)
    by false e none apart = rw apart refl

but_step : (but names : List (List ℕ)) (i : ℕ) (a : List ℕ) → i < length names → a ≡ get_or names i a → AreDistinctBut but (take i names) → (is_among but a ≡ false → is_among (take i names) a ≡ false) → AreDistinctBut but (take (i + 1) names)
but_step but names i a lt e d h =
    subst (AreDistinctBut but) (sym (take_more names i a lt ∙ ap (λ (b : List ℕ). take i names ++ b ∷ []) (sym e))) (but_push but (take i names) a d h)

-- the names with one more, unless it is there
abbrev pub once : List (List ℕ) → List ℕ → List (List ℕ)
once twice a = cond (is_among twice a) twice (twice ++ a ∷ [])

once_distinct : (twice : List (List ℕ)) (a : List ℕ) → AreDistinct twice → AreDistinct (once twice a)
once_distinct twice a d = by (is_among twice a) refl
  where
    by : (t : Bool) → is_among twice a ≡ t → AreDistinct (cond t twice (twice ++ a ∷ []))
    by true e = d
    by false e = distinct_push twice a d e

once_has : (twice : List (List ℕ)) (a : List ℕ) → is_among (once twice a) a ≡ true
once_has twice a = by (is_among twice a) refl
  where
    by : (t : Bool) → is_among twice a ≡ t → is_among (cond t twice (twice ++ a ∷ [])) a ≡ true
    by true e = e
    by false e = among_push twice a a ∙ rw (e, (bytes_eq-Decides a a).1 refl) refl

once_keeps : (twice : List (List ℕ)) (a q : List ℕ) → is_among (once twice a) q ≡ false → is_among twice q ≡ false
once_keeps twice a q h = by (is_among twice a) h
  where
    by : (t : Bool) → is_among (cond t twice (twice ++ a ∷ [])) q ≡ false → is_among twice q ≡ false
    by true e = e
    by false e = (or_parts (is_among twice q) (bytes_eq q a) (sym (among_push twice a q) ∙ e)).0

-- a name that was seen before is among those that stand twice
twice_step : (twice names : List (List ℕ)) (i : ℕ) (a : List ℕ) → i < length names → a ≡ get_or names i a → AreDistinctBut twice (take i names) → AreDistinctBut (once twice a) (take (i + 1) names)
twice_step twice names i a lt e d =
    but_step (once twice a) names i a lt e (but_weaker twice (once twice a) (take i names) (once_keeps twice a) d)
    (λ none. let z : true ≡ false = sym (once_has twice a) ∙ none in absurd (cc))

-- one turn of the loop over the names, where the name was added to those that were seen, or had been
pub repeated_distinct : (added : Bool) (twice : List (List ℕ)) (a : List ℕ) → AreDistinct twice → AreDistinct (cond added twice (once twice a))
repeated_distinct true twice a d = d
repeated_distinct false twice a d = once_distinct twice a d

pub repeated_others : (added : Bool) (twice names : List (List ℕ)) (i : ℕ) (a : List ℕ) → i < length names → a ≡ get_or names i a → (added ≡ true → is_among (take i names) a ≡ false) → AreDistinctBut twice (take i names) →
    AreDistinctBut (cond added twice (once twice a)) (take (i + 1) names)
repeated_others true twice names i a lt e h d = but_step twice names i a lt e d (λ none. h refl)
repeated_others false twice names i a lt e h d = twice_step twice names i a lt e d

pub but_all : (but names : List (List ℕ)) (i : ℕ) → length names ≤ i → AreDistinctBut but (take i names) → AreDistinctBut but names
but_all but names i le d = subst (AreDistinctBut but) (take_all i names le) d
