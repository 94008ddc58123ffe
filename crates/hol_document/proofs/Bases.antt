-- A basis's texts are the only ones.
use Rattle.std.proofs.Common.{◌≡◌, ℕ, suc, length, List, [], ◌∷◌, refl, ap, sym, ◌∙◌, Bool, true, false, bytes_eq, arith, add-one}
use Rattle.std.specs.Prelude.{Option, Some, None, Result, Ok, Err, sum_by}
use Rattle.std.specs.List.Sorted.{IsSorted}
use Rattle.std.specs.Ordering.{is_lt, ordering_reverse}
use Rattle.std.specs.declared.cmp.Ordering.{Ordering}
use Rattle.std.specs.declared.cmp.Ordering.TheVariants.{Less, Equal, Greater}
use Rattle.std.specs.Cmp.Lexicographic.{nat_list_cmp_total}
use Rattle.std.proofs.lemmas.Slice.Eq.{bytes_eq-Decides}
use Rattle.std.proofs.lemmas.List.Sums.{sum_by-cons}
use Rattle.std.proofs.lemmas.List.Sorted.{sum_by-IsPermutation}
use Rattle.hol_types.specs.Order.{name_cmp}
use Rattle.hol_types.proofs.OrderLaws.{name_equal, name_same}
use Rattle.hol_kernel.specs.Items.{Items}
use Rattle.hol_theory.specs.Key.{theorem_key}
use Rattle.hol_theory.specs.Entry.{EntryValue, AType, AConstant, ATheorem, ATac, entry_at}
use Rattle.hol_exec.specs.StateValue.{StateValue}
use Rattle.hol_document.specs.declared.error.Refusal.{Refusal}
use Rattle.hol_document.specs.Documents.{Documents, find_theory}
use Rattle.hol_document.specs.ItemTexts.{AreItemTexts}
use Rattle.hol_document.specs.Asked.{commands_at, BasisTexts, IsBasis, BasisIn, BasisOf, theorem_texts, AreTheorems, TheoremsIn, TheoremsOf}
use Rattle.hol_document.proofs.Unique.{state_is_one}

-- ---- lists in the order of bytes, in which each text stands as often, are equal

-- 1 where the texts are the same
abbrev one_if : Bool → ℕ
one_if true = 1
one_if false = 0

abbrev same : List ℕ → List ℕ → ℕ
same x y = one_if (bytes_eq x y)

-- how often a text stands in a list
abbrev times : List ℕ → List (List ℕ) → ℕ
times x ys = sum_by (same x) ys

tail_sorted : (x : List ℕ) (xs : List (List ℕ)) → IsSorted name_cmp (x ∷ xs) → IsSorted name_cmp xs
tail_sorted x xs h k d low high = rw add-one (rw add-one at (h (suc k) d (omega arith) (omega (arith, high))))

next_not_below : (x y : List ℕ) (ys : List (List ℕ)) → IsSorted name_cmp (x ∷ y ∷ ys) → is_lt (name_cmp y x) ≡ false
next_not_below x y ys h = h 0 x (omega arith) (omega arith)

below_next : (x y z : List ℕ) → name_cmp x y ≡ Less → is_lt (name_cmp z y) ≡ false → name_cmp x z ≡ Less
below_next x y z e f = by (name_cmp z y) refl f
  where
    by : (o : Ordering) → name_cmp z y ≡ o → is_lt o ≡ false → name_cmp x z ≡ Less
    by Less p q = absurd (cc)
    by Equal p q = rw (name_equal z y p) e
    by Greater p q = nat_list_cmp_total.trans x y z e (nat_list_cmp_total.antisymm y z ∙ ap ordering_reverse p)

apart : (x y : List ℕ) → name_cmp x y ≡ Less → same x y ≡ 0
apart x y e = by (bytes_eq x y) refl
  where
    by : (b : Bool) → bytes_eq x y ≡ b → one_if b ≡ 0
    by true p = let q : Less ≡ Equal = sym e ∙ ap (name_cmp x) (sym ((bytes_eq-Decides x y).0 p)) ∙ name_same x in absurd (cc)
    by false p = refl

same_itself : (x : List ℕ) → same x x ≡ 1
same_itself x = rw ((bytes_eq-Decides x x).1 refl) refl

-- a text below the first stands nowhere
absent : (x y : List ℕ) (ys : List (List ℕ)) → name_cmp x y ≡ Less → IsSorted name_cmp (y ∷ ys) → times x (y ∷ ys) ≡ 0
absent x y [] e h = sum_by-cons (same x) y [] ∙ omega (arith, apart x y e)
absent x y (z ∷ zs) e h =
    let rest : times x (z ∷ zs) ≡ 0 = absent x z zs (below_next x y z e (next_not_below y z zs h)) (tail_sorted y (z ∷ zs) h) in
    sum_by-cons (same x) y (z ∷ zs) ∙ omega (arith, rest, apart x y e)

there : (x : List ℕ) (xs : List (List ℕ)) → times x (x ∷ xs) ≡ 0 → ⊥
there x xs e = omega (arith, e, sum_by-cons (same x) x xs, same_itself x)

first_same : (x y : List ℕ) (xs ys : List (List ℕ)) → IsSorted name_cmp (x ∷ xs) → IsSorted name_cmp (y ∷ ys) → ((t : List ℕ) → times t (x ∷ xs) ≡ times t (y ∷ ys)) → x ≡ y
first_same x y xs ys h k e = by (name_cmp x y) refl
  where
    by : (o : Ordering) → name_cmp x y ≡ o → x ≡ y
    by Less p = absurd (there x xs (e x ∙ absent x y ys p k))
    by Equal p = name_equal x y p
    by Greater p = absurd (there y ys (sym (e y) ∙ absent y x xs (nat_list_cmp_total.antisymm y x ∙ ap ordering_reverse p) h))

rest_same : (t x : List ℕ) (xs ys : List (List ℕ)) → times t (x ∷ xs) ≡ times t (x ∷ ys) → times t xs ≡ times t ys
rest_same t x xs ys e = omega (arith, e, sum_by-cons (same t) x xs, sum_by-cons (same t) x ys)

one_order : (xs ys : List (List ℕ)) → IsSorted name_cmp xs → IsSorted name_cmp ys → ((t : List ℕ) → times t xs ≡ times t ys) → xs ≡ ys
one_order [] [] h k e = refl
one_order [] (y ∷ ys) h k e = absurd (there y ys (sym (e y)))
one_order (x ∷ xs) [] h k e = absurd (there x xs (e x))
one_order (x ∷ xs) (y ∷ ys) h k e =
    let heads : x ≡ y = first_same x y xs ys h k e in
    let tails : xs ≡ ys = one_order xs ys (tail_sorted x xs h) (tail_sorted y ys k) (λ t. rest_same t y xs ys (rw heads at (e t))) in
    cc

-- ---- answers

one_list : (items : Items) (a b : List (List ℕ)) → AreItemTexts items a → AreItemTexts items b → a ≡ b
one_list items a b h k = one_order a b h.sorted k.sorted (λ t. sum_by-IsPermutation (same t) _ a h.each ∙ sym (sum_by-IsPermutation (same t) _ b k.each))

one_texts : (e : Option EntryValue) (a b : Option (List (List ℕ))) → BasisTexts e a → BasisTexts e b → a ≡ b
one_texts None None None h k = refl
one_texts None None (Some ys) h k = absurd k
one_texts None (Some xs) b h k = absurd h
one_texts (Some (AType arity item basis)) a b h k = h ∙ sym k
one_texts (Some (AConstant ty item basis)) a b h k = h ∙ sym k
one_texts (Some (ATac t bases basis)) a b h k = h ∙ sym k
one_texts (Some (ATheorem th)) None b h k = absurd h
one_texts (Some (ATheorem th)) (Some xs) None h k = absurd k
one_texts (Some (ATheorem th)) (Some xs) (Some ys) h k = ap Some (one_list th.basis xs ys h k)

one_basis : (docs : Documents) (i : ℕ) (name : List ℕ) (a b : Option (List (List ℕ))) → IsBasis docs i name a → IsBasis docs i name b → a ≡ b
one_basis docs i name a b h k =
    let states : h.state ≡ k.state = state_is_one docs i (length (commands_at docs i)) h.before k.before h.rows k.rows h.state k.state h.run k.run in
    one_texts (entry_at (theorem_key name) k.state.entries) a b (rw states at h.texts) k.texts

one_basis_in : (docs : Documents) (o : Option ℕ) (name : List ℕ) (r q : Result (Option (List (List ℕ))) Refusal) → BasisIn docs o name r → BasisIn docs o name q → r ≡ q
one_basis_in docs None name r q h k = h ∙ sym k
one_basis_in docs (Some i) name (Ok a) (Ok b) h k = ap Ok (one_basis docs i name a b h k)
one_basis_in docs (Some i) name (Ok a) (Err f) h k = absurd k
one_basis_in docs (Some i) name (Err e) q h k = absurd h

pub one_basis_answer : (docs : Documents) (theory name : List ℕ) (r q : Result (Option (List (List ℕ))) Refusal) → BasisOf docs theory name r → BasisOf docs theory name q → r ≡ q
one_basis_answer docs theory name r q h k = one_basis_in docs (find_theory theory docs.theories) name r q h k

-- ---- theorems

one_theorems : (docs : Documents) (i : ℕ) (a b : List (List ℕ)) → AreTheorems docs i a → AreTheorems docs i b → a ≡ b
one_theorems docs i a b h k =
    let states : h.state ≡ k.state = state_is_one docs i (length (commands_at docs i)) h.before k.before h.rows k.rows h.state k.state h.run k.run in
    h.says ∙ (ap (λ (s : StateValue). theorem_texts s.entries) states ∙ sym k.says)

one_list_in : (docs : Documents) (o : Option ℕ) (r q : Result (List (List ℕ)) Refusal) → TheoremsIn docs o r → TheoremsIn docs o q → r ≡ q
one_list_in docs None r q h k = h ∙ sym k
one_list_in docs (Some i) (Ok a) (Ok b) h k = ap Ok (one_theorems docs i a b h k)
one_list_in docs (Some i) (Ok a) (Err f) h k = absurd k
one_list_in docs (Some i) (Err e) q h k = absurd h

pub one_list_answer : (docs : Documents) (theory : List ℕ) (r q : Result (List (List ℕ)) Refusal) → TheoremsOf docs theory r → TheoremsOf docs theory q → r ≡ q
one_list_answer docs theory r q h k = one_list_in docs (find_theory theory docs.theories) r q h k
