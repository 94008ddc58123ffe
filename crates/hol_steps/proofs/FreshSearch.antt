-- The search for a new name, one tested name after the other.
use Rattle.std.specs.Prelude.{◌≡◌, ◌<◌, ◌+◌, ℕ, zero, suc, Bool, true, false, cond, codes, List, [], ◌∷◌, ◌++◌, length, refl}
use Rattle.std.proofs.Common.{ap, sym, ◌∙◌, subst, arith}
use Rattle.std.proofs.lemmas.List.{append_assoc}
use Rattle.hol_terms.specs.Nameless.{Nameless}
use Rattle.hol_terms.specs.Primes.{HasFewestPrimes}
use Rattle.hol_subst.specs.FreeName.{IsFreeName}
use Rattle.hol_formulas.specs.Constants.{prelude_constants}
use Rattle.hol_goal.specs.Names.{stands}
use Rattle.hol_just.specs.FreeNames.{free_name}
use Rattle.hol_just.specs.Fresh.{FreshValue, after_testing, fresh_in, fresh}
use Rattle.hol_just.proofs.FreshLaws.{constants_from, fewer_constants, one_constant_fewer, free_name_longer, prime_longer, new_names}
use Rattle.hol_steps.specs.Fresh.{AreAlike}
use Rattle.hol_steps.proofs.FreshNames.{is_free_name}

-- these were tested before
abbrev pub after_all : List (List ℕ) → FreshValue → FreshValue
after_all before f = record { name = f.name; tested = before ++ f.tested }

-- The search stands at the name, which is the candidate of some name from which so many steps go on; those before it were tested.
pub record IsAt (names : List (List ℕ)) (avoid : List Nameless) (base name : List ℕ) (tested : List (List ℕ)) : Type 0 where
  pub from : List ℕ
  pub steps : ℕ
  pub before : List (List ℕ)
  pub is : name ≡ free_name avoid from
  pub told : tested ≡ before ++ name ∷ []
  pub goes : fresh names avoid base ≡ after_all before (fresh_in steps names avoid from)

module _ (names : List (List ℕ)) (avoid : List Nameless) (base : List ℕ) where
  pub begins_at : (name : List ℕ) (tested : List (List ℕ)) → name ≡ free_name avoid base → tested ≡ name ∷ [] → IsAt names avoid base name tested
  begins_at name tested is told = record { from = base; steps = length names + length prelude_constants; before = []; is = is; told = told; goes = refl }

  found_in : (steps : ℕ) (from : List ℕ) → stands names (free_name avoid from) ≡ false → fresh_in steps names avoid from ≡ record { name = free_name avoid from; tested = free_name avoid from ∷ [] }
  found_in zero from none = refl
  found_in (suc n) from none = ap (λ b. cond b (after_testing (free_name avoid from) (fresh_in n names avoid (free_name avoid from ++ codes "'"))) (record { name = free_name avoid from; tested = free_name avoid from ∷ [] })) none

  -- no constant has the name
  pub ends_at : (name : List ℕ) (tested : List (List ℕ)) → IsAt names avoid base name tested → stands names name ≡ false → fresh names avoid base ≡ record { name = name; tested = tested }
  ends_at name tested at none =
      at.goes
      ∙ ap (after_all at.before) (found_in at.steps at.from (ap (stands names) (sym at.is) ∙ none))
      ∙ (λ i. record { name = sym at.is i; tested = (ap (λ (a : List ℕ). at.before ++ a ∷ []) (sym at.is) ∙ sym at.told) i })

  -- one has it, so that a step more is left
  goes_in : (before : List (List ℕ)) (steps : ℕ) (from : List ℕ) → fresh names avoid base ≡ after_all before (fresh_in steps names avoid from) → stands names (free_name avoid from) ≡ true →
      (n : ℕ) × (fresh names avoid base ≡ after_all (before ++ free_name avoid from ∷ []) (fresh_in n names avoid (free_name avoid from ++ codes "'")))
  goes_in before zero from goes is =
      let new = (new_names avoid names base).stands_not in
      let clash : true ≡ false = sym is ∙ ap (λ (f : FreshValue). stands names f.name) (sym goes) ∙ new in
      absurd (cc)
  goes_in before (suc n) from goes is = (
    n,
    goes
        ∙ ap (λ b. after_all before (cond b (after_testing (free_name avoid from) (fresh_in n names avoid (free_name avoid from ++ codes "'"))) (record { name = free_name avoid from; tested = free_name avoid from ∷ [] }))) is
        ∙ (λ i. record { name = (fresh_in n names avoid (free_name avoid from ++ codes "'")).name; tested = sym (append_assoc before (free_name avoid from ∷ []) (fresh_in n names avoid (free_name avoid from ++ codes "'")).tested) i }),
  )

  pub goes_on_at : (name primed next : List ℕ) (tested more : List (List ℕ)) → IsAt names avoid base name tested → stands names name ≡ true → primed ≡ name ++ codes "'" → next ≡ free_name avoid primed → more ≡ tested ++ next ∷ [] →
      IsAt names avoid base next more
  goes_on_at name primed next tested more at is with_prime found told =
      let on = goes_in at.before at.steps at.from at.goes (ap (stands names) (sym at.is) ∙ is) in
      let same : free_name avoid at.from ++ codes "'" ≡ primed = ap (λ (a : List ℕ). a ++ codes "'") (sym at.is) ∙ sym with_prime in
      record {
        from = primed;
        steps = on.0;
        before = at.before ++ name ∷ [];
        is = found;
        told = told ∙ ap (λ (t : List (List ℕ)). t ++ next ∷ []) at.told;
        goes = on.1 ∙ (λ i. after_all (at.before ++ sym at.is i ∷ []) (fresh_in on.0 names avoid (same i)));
      }

-- ---- over terms with the same names

abbrev pub IsAtAll : List (List ℕ) → List Nameless → List ℕ → List ℕ → List (List ℕ) → Type 0
IsAtAll names avoid base name tested = (others : List Nameless) → AreAlike avoid others → IsAt names others base name tested

-- the name that is free in the terms is the one that is searched for in those
pub free_of_all : (avoid : List Nameless) (base r : List ℕ) → IsFreeName avoid base r → (others : List Nameless) → AreAlike avoid others → r ≡ free_name others base
free_of_all avoid base r h others alike =
    is_free_name others base r (subst (λ (taken : List ℕ → Bool). HasFewestPrimes (λ a. taken a ≡ true) base r) (λ i a. alike a i) h)

-- fewer constants have longer names
pub fewer_left : (names : List (List ℕ)) (avoid : List Nameless) (name primed next : List ℕ) → stands names name ≡ true → primed ≡ name ++ codes "'" → IsFreeName avoid primed next →
    constants_from names (length next) < constants_from names (length name)
fewer_left names avoid name primed next is with_prime found =
    let same : next ≡ free_name avoid primed = is_free_name avoid primed next found in
    let longer = free_name_longer avoid primed in
    let next_length : length next ≡ length (free_name avoid primed) = ap length same in
    let primed_length : length primed ≡ suc (length name) = ap length with_prime ∙ prime_longer name in
    let fewer = one_constant_fewer names name (length name) (omega arith) is in
    let none_more = fewer_constants names (suc (length name)) (length next) (omega (arith, longer, next_length, primed_length)) in
    omega (arith, fewer, none_more)
