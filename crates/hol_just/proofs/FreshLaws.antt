-- New names: the search for one comes to an end before the count of constants does, and needs the names of constants by those that it tests alone.
use Rattle.std.specs.Prelude.{◌≡◌, ◌≤◌, ◌<◌, ◌+◌, ◌||◌, ℕ, zero, suc, Bool, true, false, cond, nat_le, codes, bytes_eq, List, [], ◌∷◌, ◌++◌, map, length, refl}
use Rattle.std.specs.List.{list_any}
use Rattle.std.proofs.Common.{ap, sym, ◌∙◌, inl, inr, arith, length-append}
use Rattle.std.proofs.lemmas.Bool.{or_cases, false_from_ne_true}
use Rattle.std.proofs.lemmas.Bool.Decides.{nat_tests}
use Rattle.std.proofs.lemmas.List.{length-map}
use Rattle.std.proofs.lemmas.Slice.Eq.{bytes_eq-Decides}
use Rattle.hol_types.specs.Tree.{TypeTree}
use Rattle.hol_terms.specs.Nameless.{Nameless}
use Rattle.hol_terms.specs.Primes.{with_primes}
use Rattle.hol_terms.proofs.Primes.{primes_length}
use Rattle.hol_subst.specs.FreeName.{is_taken}
use Rattle.hol_formulas.specs.Constants.{prelude_constants}
use Rattle.hol_match.proofs.FreshNames.{found_free_name, not_taken}
use Rattle.hol_goal.specs.Names.{stands, AgreeOn}
use Rattle.hol_just.specs.FreeNames.{free_name}
use Rattle.hol_just.specs.Fresh.{FreshValue, after_testing, fresh_in, fresh, IsNewName}

-- ---- names that are at least so long

abbrev one_where : Bool → ℕ
one_where true = 1
one_where false = 0

abbrev counted : {X : Type 0} → (X → List ℕ) → ℕ → List X → ℕ
counted name n [] = 0
counted name n (x ∷ xs) = one_where (nat_le n (length (name x))) + counted name n xs

module _ {X : Type 0} (name : X → List ℕ) where
  at_most_all : (n : ℕ) (xs : List X) → counted name n xs ≤ length xs
  at_most_all n [] = omega arith
  at_most_all n (x ∷ xs) = by (nat_le n (length (name x))) (at_most_all n xs)
    where
      by : (b : Bool) → counted name n xs ≤ length xs → one_where b + counted name n xs ≤ suc (length xs)
      by true h = omega (arith, h)
      by false h = omega (arith, h)

  longer_fewer : (m n : ℕ) (xs : List X) → m ≤ n → counted name n xs ≤ counted name m xs
  longer_fewer m n [] h = omega arith
  longer_fewer m n (x ∷ xs) h = by (nat_le m (length (name x))) (nat_le n (length (name x))) refl refl (longer_fewer m n xs h)
    where
      by : (b c : Bool) → nat_le m (length (name x)) ≡ b → nat_le n (length (name x)) ≡ c → counted name n xs ≤ counted name m xs → one_where c + counted name n xs ≤ one_where b + counted name m xs
      by true true e f k = omega (arith, k)
      by true false e f k = omega (arith, k)
      by false true e f k = absurd (grind (arith, nat_tests))
      by false false e f k = omega (arith, k)

  -- one of them is of that length, so that fewer are longer
  one_fewer : (a : List ℕ) (n : ℕ) (xs : List X) → n ≤ length a → list_any (λ x. bytes_eq a (name x)) xs ≡ true → counted name (suc (length a)) xs + 1 ≤ counted name n xs
  one_fewer a n [] h any = absurd (cc)
  one_fewer a n (x ∷ xs) h any = by (bytes_eq a (name x)) refl any (one_fewer a n xs h)
    where
      others : (b c : Bool) → nat_le n (length (name x)) ≡ b → nat_le (suc (length a)) (length (name x)) ≡ c → counted name (suc (length a)) xs + 1 ≤ counted name n xs →
          (one_where c + counted name (suc (length a)) xs) + 1 ≤ one_where b + counted name n xs
      others true true e f k = omega (arith, k)
      others true false e f k = omega (arith, k)
      others false true e f k = absurd (grind (arith, nat_tests))
      others false false e f k = omega (arith, k)

      this : (b c : Bool) → length (name x) ≡ length a → nat_le n (length (name x)) ≡ b → nat_le (suc (length a)) (length (name x)) ≡ c → counted name (suc (length a)) xs ≤ counted name n xs →
          (one_where c + counted name (suc (length a)) xs) + 1 ≤ one_where b + counted name n xs
      this true false same e f k = omega (arith, k)
      this b true same e f k = absurd (grind (arith, nat_tests))
      this false false same e f k = absurd (grind (arith, nat_tests))

      by : (b : Bool) → bytes_eq a (name x) ≡ b → b || list_any (λ y. bytes_eq a (name y)) xs ≡ true →
          (list_any (λ y. bytes_eq a (name y)) xs ≡ true → counted name (suc (length a)) xs + 1 ≤ counted name n xs) →
          (one_where (nat_le (suc (length a)) (length (name x))) + counted name (suc (length a)) xs) + 1 ≤ one_where (nat_le n (length (name x))) + counted name n xs
      by true is all later =
          let same : a ≡ name x = (bytes_eq-Decides a (name x)).0 is in
          this (nat_le n (length (name x))) (nat_le (suc (length a)) (length (name x))) (ap length (sym same)) refl refl (longer_fewer n (suc (length a)) xs (omega (arith, h)))
      by false is all later = others (nat_le n (length (name x))) (nat_le (suc (length a)) (length (name x))) refl refl (later all)

-- ---- those of constants

abbrev pub constants_from : List (List ℕ) → ℕ → ℕ
constants_from names n = counted (λ a. a) n names + counted (λ (p : List ℕ × TypeTree). p.0) n prelude_constants

pub all_constants : (names : List (List ℕ)) (n : ℕ) → constants_from names n ≤ length names + length prelude_constants
all_constants names n =
    let own = at_most_all (λ a. a) n names in
    let others = at_most_all (λ (p : List ℕ × TypeTree). p.0) n prelude_constants in
    omega (arith, own, others)

pub fewer_constants : (names : List (List ℕ)) (m n : ℕ) → m ≤ n → constants_from names n ≤ constants_from names m
fewer_constants names m n h =
    let own = longer_fewer (λ a. a) m n names h in
    let others = longer_fewer (λ (p : List ℕ × TypeTree). p.0) m n prelude_constants h in
    omega (arith, own, others)

-- a constant has the name, so that fewer have longer ones
pub one_constant_fewer : (names : List (List ℕ)) (a : List ℕ) (n : ℕ) → n ≤ length a → stands names a ≡ true → constants_from names (suc (length a)) + 1 ≤ constants_from names n
one_constant_fewer names a n h is =
    elim (or_cases (list_any (bytes_eq a) names) (list_any (λ (p : List ℕ × TypeTree). bytes_eq a p.0) prelude_constants) is) [
      | inl e ↦ (
          let own = one_fewer (λ b. b) a n names h e in
          let others = longer_fewer (λ (p : List ℕ × TypeTree). p.0) n (suc (length a)) prelude_constants (omega (arith, h)) in
          omega (arith, own, others))
      | inr e ↦ (
          let own = longer_fewer (λ b. b) n (suc (length a)) names (omega (arith, h)) in
          let others = one_fewer (λ (p : List ℕ × TypeTree). p.0) a n prelude_constants h e in
          omega (arith, own, others))
    ]

-- ---- the search

pub free_name_longer : (avoid : List Nameless) (a : List ℕ) → length a ≤ length (free_name avoid a)
free_name_longer avoid a =
    let found = found_free_name avoid a in
    let counts = primes_length found.primes a in
    let same : length (free_name avoid a) ≡ length (with_primes found.primes a) = ap length found.is in
    omega (arith, counts, same)

pub prime_longer : (a : List ℕ) → length (a ++ codes "'") ≡ suc (length a)
prime_longer a = let r = length-append a (codes "'") in omega (arith, r)

module _ (avoid : List Nameless) where
  module _ (names : List (List ℕ)) where
    -- the name that is found, from a name on whose candidate has a constant or not
    cond_name : (b : Bool) (P : List ℕ → Type 0) (a : List ℕ) (more : FreshValue) → (b ≡ true → P more.name) → (b ≡ false → P a) → P (cond b (after_testing a more) (record { name = a; tested = a ∷ [] })).name
    cond_name true P a more h k = h refl
    cond_name false P a more h k = k refl

    pub not_standing : (n : ℕ) (a : List ℕ) → constants_from names (length a) ≤ n → stands names (fresh_in n names avoid a).name ≡ false
    not_standing zero a few =
        let c = free_name avoid a in
        false_from_ne_true (stands names c) (λ is. let fewer = one_constant_fewer names c (length a) (free_name_longer avoid a) is in absurd (omega (arith, few, fewer)))
    not_standing (suc n) a few =
        let c = free_name avoid a in
        cond_name (stands names c) (λ b. stands names b ≡ false) c (fresh_in n names avoid (c ++ codes "'"))
        (λ is. not_standing n (c ++ codes "'") (let fewer = one_constant_fewer names c (length a) (free_name_longer avoid a) is in let longer : constants_from names (length (c ++ codes "'")) ≡ constants_from names (suc (length c)) = ap (constants_from names) (prime_longer c) in omega (arith, few, fewer, longer)))
        (λ is. is)

    pub never_taken : (n : ℕ) (a : List ℕ) → is_taken avoid (fresh_in n names avoid a).name ≡ false
    never_taken zero a = not_taken avoid a (free_name avoid a) (found_free_name avoid a)
    never_taken (suc n) a =
        let c = free_name avoid a in
        cond_name (stands names c) (λ b. is_taken avoid b ≡ false) c (fresh_in n names avoid (c ++ codes "'")) (λ is. never_taken n (c ++ codes "'")) (λ is. not_taken avoid a c (found_free_name avoid a))

  pub new_names : (names : List (List ℕ)) (base : List ℕ) → IsNewName names avoid (fresh names avoid base)
  new_names names base = record {
    stands_not = not_standing names (length names + length prelude_constants) base (all_constants names (length base));
    taken_not = never_taken names (length names + length prelude_constants) base;
  }

  -- ---- names that agree on those that are tested

  module _ (names more : List (List ℕ)) where
    pub same_in : (n m : ℕ) (a : List ℕ) → stands names (fresh_in n names avoid a).name ≡ false → stands more (fresh_in m more avoid a).name ≡ false → AgreeOn names more (fresh_in n names avoid a).tested →
        fresh_in m more avoid a ≡ fresh_in n names avoid a
    same_in zero zero a h k agree = refl
    same_in zero (suc m) a h k agree =
        let c = free_name avoid a in
        ap (λ b. cond b (after_testing c (fresh_in m more avoid (c ++ codes "'"))) (record { name = c; tested = c ∷ [] })) (agree.0 ∙ h)
    same_in (suc n) zero a h k agree = by (stands names (free_name avoid a)) refl agree
      where
        by : (b : Bool) → stands names (free_name avoid a) ≡ b → AgreeOn names more (cond b (after_testing (free_name avoid a) (fresh_in n names avoid (free_name avoid a ++ codes "'"))) (record { name = free_name avoid a; tested = free_name avoid a ∷ [] })).tested →
            record { name = free_name avoid a; tested = free_name avoid a ∷ [] } ≡ cond b (after_testing (free_name avoid a) (fresh_in n names avoid (free_name avoid a ++ codes "'"))) (record { name = free_name avoid a; tested = free_name avoid a ∷ [] })
        by true is g = let clash : true ≡ false = sym is ∙ sym g.0 ∙ k in absurd (cc)
        by false is g = refl
    same_in (suc n) (suc m) a h k agree = by (stands names (free_name avoid a)) (stands more (free_name avoid a)) refl refl h k agree (same_in n m (free_name avoid a ++ codes "'"))
      where
        by : (b d : Bool) → stands names (free_name avoid a) ≡ b → stands more (free_name avoid a) ≡ d →
            stands names (cond b (after_testing (free_name avoid a) (fresh_in n names avoid (free_name avoid a ++ codes "'"))) (record { name = free_name avoid a; tested = free_name avoid a ∷ [] })).name ≡ false →
            stands more (cond d (after_testing (free_name avoid a) (fresh_in m more avoid (free_name avoid a ++ codes "'"))) (record { name = free_name avoid a; tested = free_name avoid a ∷ [] })).name ≡ false →
            AgreeOn names more (cond b (after_testing (free_name avoid a) (fresh_in n names avoid (free_name avoid a ++ codes "'"))) (record { name = free_name avoid a; tested = free_name avoid a ∷ [] })).tested →
            (stands names (fresh_in n names avoid (free_name avoid a ++ codes "'")).name ≡ false → stands more (fresh_in m more avoid (free_name avoid a ++ codes "'")).name ≡ false →
            AgreeOn names more (fresh_in n names avoid (free_name avoid a ++ codes "'")).tested → fresh_in m more avoid (free_name avoid a ++ codes "'") ≡ fresh_in n names avoid (free_name avoid a ++ codes "'")) →
            cond d (after_testing (free_name avoid a) (fresh_in m more avoid (free_name avoid a ++ codes "'"))) (record { name = free_name avoid a; tested = free_name avoid a ∷ [] })
            ≡ cond b (after_testing (free_name avoid a) (fresh_in n names avoid (free_name avoid a ++ codes "'"))) (record { name = free_name avoid a; tested = free_name avoid a ∷ [] })
        by true true is are s t g on = ap (after_testing (free_name avoid a)) (on s t g.1)
        by true false is are s t g on = let clash : true ≡ false = sym is ∙ sym g.0 ∙ are in absurd (cc)
        by false true is are s t g on = let clash : true ≡ false = sym are ∙ g.0 ∙ is in absurd (cc)
        by false false is are s t g on = refl

    -- the same name is found, and the same names are tested
    pub fresh_agrees : (base : List ℕ) → AgreeOn names more (fresh names avoid base).tested → fresh more avoid base ≡ fresh names avoid base
    fresh_agrees base agree =
        same_in (length names + length prelude_constants) (length more + length prelude_constants) base (new_names names base).stands_not (new_names more base).stands_not agree
