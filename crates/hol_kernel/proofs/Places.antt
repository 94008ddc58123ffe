-- Where the first and the last item of a list in order show that none has a name, none has it.
use Rattle.std.specs.Prelude.{◌≡◌, ℕ, ◌-◌, Bool, true, false, cond, not, ◌&&◌, ◌||◌, List, [], ◌∷◌, ◌++◌, length, bytes_eq, Option, Some, None, refl}
use Rattle.std.proofs.Common.{ap, sym, ◌∙◌, inl, inr, arith}
use Rattle.std.proofs.lemmas.Bool.{and_parts, false_from_ne_true}
use mathlib.Core.Bool.{true≢false}
use Rattle.std.specs.declared.cmp.Ordering.TheVariants.{Less}
use Rattle.std.specs.List.{find, slice_get, AllByRecursion}
use Rattle.std.specs.List.Sorted.{IsStrictlySortedBy}
use Rattle.std.specs.Ordering.{is_gt, is_lt}
use Rattle.std.proofs.lemmas.Slice.Eq.{bytes_eq-Decides}
use Rattle.hol_terms.specs.Nameless.{Nameless}
use Rattle.hol_kernel.specs.Item.{Item, declared_type, declared_constant, defined_constant, defined_type, declared_axiom}
use Rattle.hol_kernel.specs.Items.{item_cmp}
use Rattle.hol_kernel.specs.Signature.{has_key}
use Rattle.hol_kernel.specs.Clashing.{key_at, rank_of, name_of, name_order}
use Rattle.hol_kernel.specs.Places.{outside, is_type_definition, apart}
use Rattle.hol_kernel.specs.declared.item_kind.ItemKind.{ItemKind}
use Rattle.hol_kernel.specs.declared.item_kind.ItemKind.TheVariants as kind
use Rattle.hol_kernel.proofs.Members.{Among}
use Rattle.hol_kernel.proofs.ItemOrder.{rises, falls, own_place}

-- ---- between the first item and the last one

abbrev IsBetween : Item → Item → Item → Type 0
IsBetween first last y = (is_gt (name_order first y) ≡ false) × (is_lt (name_order last y) ≡ false)

below : (x y : Item) (xs : List Item) → AllByRecursion (λ z. item_cmp x z ≡ Less) xs → Among y xs → item_cmp x y ≡ Less
below x y [] a m = absurd m
below x y (z ∷ xs) a (inl e) = ap (item_cmp x) e ∙ a.0
below x y (z ∷ xs) a (inr m) = below x y xs a.1 m

after_first : (first y : Item) (xs : List Item) → IsStrictlySortedBy item_cmp xs → slice_get xs 0 ≡ Some first → Among y xs → is_gt (name_order first y) ≡ false
unfolding IsStrictlySortedBy
after_first first y [] s e m = absurd m
after_first first y (x ∷ xs) s e (inl is) = let h : x ≡ first = cc in ap (λ z. is_gt (name_order first z)) (is ∙ h) ∙ ap is_gt (own_place first)
after_first first y (x ∷ xs) s e (inr m) = let h : x ≡ first = cc in ap (λ z. is_gt (name_order z y)) (sym h) ∙ rises x y (below x y xs s.0 m)

last_among : (last x : Item) (xs : List Item) → slice_get (x ∷ xs) (length xs) ≡ Some last → Among last (x ∷ xs)
last_among last x [] e = let h : x ≡ last = cc in inl (sym h)
last_among last x (z ∷ xs) e = inr (last_among last z xs e)

before_last : (last y x : Item) (xs : List Item) → IsStrictlySortedBy item_cmp (x ∷ xs) → slice_get (x ∷ xs) (length xs) ≡ Some last → Among y (x ∷ xs) → is_lt (name_order last y) ≡ false
unfolding IsStrictlySortedBy
before_last last y x [] s e (inl is) = let h : x ≡ last = cc in ap (λ z. is_lt (name_order last z)) (is ∙ h) ∙ ap is_lt (own_place last)
before_last last y x [] s e (inr m) = absurd m
before_last last y x (z ∷ xs) s e (inl is) = falls y last (ap (λ w. item_cmp w last) is ∙ below x last (z ∷ xs) s.0 (last_among last z xs e))
before_last last y x (z ∷ xs) s e (inr m) = before_last last y z xs s.1 e m

-- ---- an item between them

inside : (n : List ℕ) (first last y : Item) → IsBetween first last y → outside (rank_of y) n first last ≡ true → n ≡ name_of y → ⊥
inside n first last y b o e =
    let within : outside (rank_of y) (name_of y) first last ≡ false = λ i. b.0 i || b.1 i in
    true≢false (sym o ∙ ap (λ m. outside (rank_of y) m first last) e ∙ within)

other_name : (n : List ℕ) (first last y : Item) → IsBetween first last y → outside (rank_of y) n first last ≡ true → bytes_eq n (name_of y) ≡ false
other_name n first last y b o = false_from_ne_true (bytes_eq n (name_of y)) (λ e. inside n first last y b o ((bytes_eq-Decides n (name_of y)).0 e))

-- behind a type definition there are only type definitions
no_definition : (c abs rep : List ℕ) (p : Nameless) (first last : Item) → IsBetween first last (defined_type c abs rep p) → not (is_type_definition last) ≡ true → ⊥
no_definition c abs rep p first (declared_type d n) b e = true≢false b.1
no_definition c abs rep p first (declared_constant d a) b e = true≢false b.1
no_definition c abs rep p first (defined_constant d r) b e = true≢false b.1
no_definition c abs rep p first (defined_type d to from q) b e = true≢false (sym e)
no_definition c abs rep p first (declared_axiom d q) b e = true≢false b.1

no_key : (k : ItemKind) (n : List ℕ) (first last y : Item) → IsBetween first last y → apart k n first last ≡ true → has_key y (key_at k n) ≡ false
no_key kind.Axiom n first last (declared_axiom m p) b o = ap (λ t. t || false) (other_name n first last (declared_axiom m p) b o)
no_key kind.Axiom n first last (declared_constant c a) b o = refl
no_key kind.Axiom n first last (defined_constant c r) b o = refl
no_key kind.Axiom n first last (declared_type c m) b o = refl
no_key kind.Axiom n first last (defined_type c abs rep p) b o = refl
no_key kind.Constant n first last (declared_axiom m p) b o = refl
no_key kind.Constant n first last (declared_constant c a) b o =
    let h = and_parts (not (is_type_definition last)) (outside 1 n first last && outside 2 n first last) o in
    let g = and_parts (outside 1 n first last) (outside 2 n first last) h.1 in
    ap (λ t. t || false) (other_name n first last (declared_constant c a) b g.0)
no_key kind.Constant n first last (defined_constant c r) b o =
    let h = and_parts (not (is_type_definition last)) (outside 1 n first last && outside 2 n first last) o in
    let g = and_parts (outside 1 n first last) (outside 2 n first last) h.1 in
    ap (λ t. t || false) (other_name n first last (defined_constant c r) b g.1)
no_key kind.Constant n first last (declared_type c m) b o = refl
no_key kind.Constant n first last (defined_type c abs rep p) b o =
    absurd (no_definition c abs rep p first last b (and_parts (not (is_type_definition last)) (outside 1 n first last && outside 2 n first last) o).0)
no_key kind.Type n first last (declared_axiom m p) b o = refl
no_key kind.Type n first last (declared_constant c a) b o = refl
no_key kind.Type n first last (defined_constant c r) b o = refl
no_key kind.Type n first last (declared_type c m) b o =
    ap (λ t. t || false) (other_name n first last (declared_type c m) b (and_parts (outside 3 n first last) (outside 4 n first last) o).0)
no_key kind.Type n first last (defined_type c abs rep p) b o =
    ap (λ t. t || false) (other_name n first last (defined_type c abs rep p) b (and_parts (outside 3 n first last) (outside 4 n first last) o).1)

-- ---- the list

find_none : (p : Item → Bool) (xs : List Item) → ((y : Item) → Among y xs → p y ≡ false) → find p xs ≡ None
find_none p [] h = refl
find_none p (x ∷ xs) h = ap (λ b. cond b (Some x) (find p xs)) (h x (inl refl)) ∙ find_none p xs (λ y m. h y (inr m))

pub none_named : (k : ItemKind) (n : List ℕ) (first last : Item) (xs : List Item) → IsStrictlySortedBy item_cmp xs → Some first ≡ slice_get xs 0 → Some last ≡ slice_get xs (length xs - 1) → apart k n first last ≡ true → find (λ x. has_key x (key_at k n)) xs ≡ None
none_named k n first last [] s p q o = refl
none_named k n first last (x ∷ xs) s p q o =
    let at : length xs ≡ length (x ∷ xs) - 1 = omega arith in
    find_none (λ y. has_key y (key_at k n)) (x ∷ xs)
    (λ y m. no_key k n first last y (after_first first y (x ∷ xs) s (sym p) m, before_last last y x xs s (ap (slice_get (x ∷ xs)) at ∙ sym q) m) o)
