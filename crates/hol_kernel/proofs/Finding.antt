-- The first item that has a name: in the parts of a list in order, and in a legal list, where it is the only one.
use Rattle.std.specs.Prelude.{◌≡◌, ℕ, ◌<◌, ◌+◌, ◌/◌, Bool, true, false, cond, ◌||◌, ◌&&◌, ◌==◌, List, [], ◌∷◌, ◌++◌, length, bytes_eq, Option, Some, None, refl}
use Rattle.std.proofs.Common.{ap, sym, ◌∙◌, subst, inl, inr, arith}
use Rattle.std.proofs.lemmas.Bool.{or_parts}
use mathlib.Core.Bool.{true≢false}
use Rattle.std.specs.declared.cmp.Ordering.TheVariants.{Less}
use Rattle.std.specs.List.{find, list_any, AllByRecursion}
use Rattle.std.specs.List.Sorted.{IsStrictlySortedBy}
use Rattle.std.specs.Option.{option_or}
use Rattle.std.proofs.lemmas.List.Folds.{find-append}
use Rattle.hol_kernel.specs.Item.{Item, declared_type, declared_constant, defined_constant, defined_type, declared_axiom}
use Rattle.hol_kernel.specs.Items.{Items, item_cmp, Holds, item_set}
use Rattle.hol_kernel.specs.Signature.{ItemKey, type_key, has_key, makes_type, term_tyvars}
use Rattle.hol_kernel.specs.Legal.{IsLegal, IsStorable}
use Rattle.hol_kernel.proofs.SortedSets.{some_any}
use Rattle.hol_kernel.proofs.Members.{Among, among_from_list, from_list_among}
use Rattle.hol_kernel.proofs.ItemOrder.{total, only}

-- ---- the parts of a list in order

all_front : (P : Item → Type 0) (us vs : List Item) → AllByRecursion P (us ++ vs) → AllByRecursion P us
all_front P [] vs a = tt
all_front P (x ∷ us) vs a = (a.0, all_front P us vs a.1)

sorted_front : (us vs : List Item) → IsStrictlySortedBy item_cmp (us ++ vs) → IsStrictlySortedBy item_cmp us
unfolding IsStrictlySortedBy
sorted_front [] vs s = tt
sorted_front (x ∷ us) vs s = (all_front (λ y. item_cmp x y ≡ Less) us vs s.0, sorted_front us vs s.1)

sorted_back : (us vs : List Item) → IsStrictlySortedBy item_cmp (us ++ vs) → IsStrictlySortedBy item_cmp vs
unfolding IsStrictlySortedBy
sorted_back [] vs s = s
sorted_back (x ∷ us) vs s = sorted_back us vs s.1

pub front_sorted : (xs us vs : List Item) → xs ≡ us ++ vs → IsStrictlySortedBy item_cmp xs → IsStrictlySortedBy item_cmp us
front_sorted xs us vs e s = sorted_front us vs (subst (IsStrictlySortedBy item_cmp) e s)

pub back_sorted : (xs us vs : List Item) → xs ≡ us ++ vs → IsStrictlySortedBy item_cmp xs → IsStrictlySortedBy item_cmp vs
back_sorted xs us vs e s = sorted_back us vs (subst (IsStrictlySortedBy item_cmp) e s)

pub front_shorter : (n m : ℕ) → 8 < n → m ≡ n / 2 → m < n
front_shorter n m h e = omega (arith, h, e)

pub back_shorter : (n m : ℕ) → 8 < n → m + n / 2 ≡ n → m < n
back_shorter n m h e = omega (arith, h, e)

pub found_front : (p : Item → Bool) (xs us vs : List Item) (x : Item) → xs ≡ us ++ vs → Some x ≡ find p us → Some x ≡ find p xs
found_front p xs us vs x e h = sym (ap (find p) e ∙ find-append p us vs ∙ ap (λ o. option_or o (find p vs)) (sym h))

pub found_back : (p : Item → Bool) (xs us vs : List Item) (o : Option Item) → xs ≡ us ++ vs → None ≡ find p us → o ≡ find p vs → o ≡ find p xs
found_back p xs us vs o e n h = h ∙ sym (ap (find p) e ∙ find-append p us vs ∙ ap (λ q. option_or q (find p vs)) (sym n))

-- ---- what is found

pub found_among : (p : Item → Bool) (xs : List Item) (x : Item) → Some x ≡ find p xs → Among x xs × (p x ≡ true)
found_among p [] x e = absurd (cc)
found_among p (y ∷ xs) x e = by (p y) refl e (found_among p xs x)
  where
    by : (b : Bool) → p y ≡ b → Some x ≡ cond b (Some y) (find p xs) → (Some x ≡ find p xs → Among x xs × (p x ≡ true)) → Among x (y ∷ xs) × (p x ≡ true)
    by true h e rest = let is : x ≡ y = cc in (inl is, ap p is ∙ h)
    by false h e rest = let r = rest e in (inr r.0, r.1)

pub found_any : (p : Item → Bool) (xs : List Item) (x : Item) → Some x ≡ find p xs → true ≡ list_any p xs
found_any p xs x e = let r = found_among p xs x e in sym (some_any p xs x r.0 r.1)

-- where nothing has the name, nothing passes a test that asks for the name
pub none_any : (f p : Item → Bool) → ((x : Item) → p x ≡ false → f x ≡ false) → (xs : List Item) → None ≡ find p xs → false ≡ list_any f xs
none_any f p h [] e = refl
none_any f p h (x ∷ xs) e = by (p x) refl e (none_any f p h xs)
  where
    by : (b : Bool) → p x ≡ b → None ≡ cond b (Some x) (find p xs) → (None ≡ find p xs → false ≡ list_any f xs) → false ≡ list_any f (x ∷ xs)
    by true g e rest = absurd (cc)
    by false g e rest = rest e ∙ ap (λ t. t || list_any f xs) (sym (h x g))

no_any : (f : Item → Bool) (xs : List Item) → ((y : Item) → Among y xs → f y ≡ false) → list_any f xs ≡ false
no_any f [] h = refl
no_any f (x ∷ xs) h = ap (λ t. t || list_any f xs) (h x (inl refl)) ∙ no_any f xs (λ y m. h y (inr m))

-- where one alone has the name, a test that asks for the name is that of the one
pub one_any : (f p : Item → Bool) → ((x : Item) → p x ≡ false → f x ≡ false) → (xs : List Item) (x : Item) → Some x ≡ find p xs → ((y : Item) → Among y xs → Among x xs → p y ≡ true → p x ≡ true → y ≡ x) → f x ≡ list_any f xs
one_any f p h xs x e alone = by (f x) refl
  where
    here : Among x xs × (p x ≡ true)
    here = found_among p xs x e

    fails : f x ≡ false → (y : Item) → Among y xs → (b : Bool) → p y ≡ b → f y ≡ false
    fails g y m true t = ap f (alone y m here.0 t here.1) ∙ g
    fails g y m false t = h y t

    by : (b : Bool) → f x ≡ b → f x ≡ list_any f xs
    by true g = g ∙ sym (some_any f xs x here.0 g)
    by false g = g ∙ sym (no_any f xs (λ y m. fails g y m (p y) refl))

-- ---- in a legal list

alone_in : (order : List Item) → IsLegal order → (k : ItemKey) (x y : Item) → Among x order → Among y order → has_key x k ≡ true → has_key y k ≡ true → x ≡ y
alone_in [] legal k x y i j h g = absurd i
alone_in (z ∷ earlier) legal k x y (inl p) (inl q) h g = p ∙ sym q
alone_in (z ∷ earlier) legal k x y (inl p) (inr j) h g =
    absurd (true≢false (sym g ∙ (legal.0 k (ap (λ w. has_key w k) (sym p) ∙ h)).1 y (from_list_among total only earlier y j)))
alone_in (z ∷ earlier) legal k x y (inr i) (inl q) h g =
    absurd (true≢false (sym h ∙ (legal.0 k (ap (λ w. has_key w k) (sym q) ∙ g)).1 x (from_list_among total only earlier x i)))
alone_in (z ∷ earlier) legal k x y (inr i) (inr j) h g = alone_in earlier legal.2 k x y i j h g

-- one item alone has a name
pub alone : (xs : List Item) → IsStorable xs → (k : ItemKey) (x y : Item) → Among x xs → Among y xs → has_key x k ≡ true → has_key y k ≡ true → x ≡ y
alone xs s k x y i j h g =
    let order = s.legal.0 in
    let at : (z : Item) → Among z xs → Among z order = λ z m. among_from_list total only order z (subst (λ (t : Items). Holds t z) (sym s.legal.2) (from_list_among total only xs z m)) in
    alone_in order s.legal.1 k x y (at x i) (at y j) h g

-- ---- an item that does not have a type's name does not make the type

pub no_type : (c : List ℕ) (n : ℕ) (x : Item) → has_key x (type_key c) ≡ false → makes_type c n x ≡ false
no_type c n (declared_type d m) e = ap (λ t. (t && (n == m)) || false) (or_parts (bytes_eq c d) false e).0
no_type c n (declared_constant d a) e = refl
no_type c n (defined_constant d r) e = refl
no_type c n (defined_type d abs rep p) e = ap (λ t. (t && (n == length (term_tyvars p))) || false) (or_parts (bytes_eq c d) false e).0
no_type c n (declared_axiom m p) e = refl
