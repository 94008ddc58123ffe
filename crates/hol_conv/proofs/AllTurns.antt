-- What all turns come to after one.
use Rattle.std.proofs.Common.{◌≡◌, ℕ, zero, suc, ◌-◌, ◌<◌, ◌≤◌, [], refl, ap, Option, Some, None, true, false, nat_lt, arith}
use Rattle.hol_terms.specs.Nameless.{Nameless}
use Rattle.hol_terms.specs.Size.{term_size}
use Rattle.hol_conv.specs.declared.redexes.Redexes.{Redexes}
use Rattle.hol_conv.specs.Redexes.{contraction}
use Rattle.hol_conv.specs.Turns.{turn, all_turns, finished, limit, too_large}

turns_end : (turn : Nameless → Option Nameless) (n : ℕ) (t : Nameless) → turn t ≡ None → all_turns turn n t ≡ finished t n
turns_end turn zero t e = rw e refl
turns_end turn (suc n) t e = rw e refl

turns_limit : (turn : Nameless → Option Nameless) (n : ℕ) (t u : Nameless) → turn t ≡ Some u → n ≡ 0 → all_turns turn n t ≡ limit
turns_limit turn zero t u e z = rw e refl
turns_limit turn (suc n) t u e z = absurd (omega (arith, z))

turns_large : (turn : Nameless → Option Nameless) (n : ℕ) (t u : Nameless) → turn t ≡ Some u → 0 < n → 20000 < term_size [] u → all_turns turn n t ≡ too_large
turns_large turn zero t u e z h = absurd (omega (arith, z))
turns_large turn (suc n) t u e z h = let q : nat_lt 20000 (term_size [] u) ≡ true = grind arith in rw e (rw q refl)

turns_more : (turn : Nameless → Option Nameless) (n : ℕ) (t u : Nameless) → turn t ≡ Some u → 0 < n → term_size [] u ≤ 20000 → all_turns turn n t ≡ all_turns turn (n - 1) u
turns_more turn zero t u e z h = absurd (omega (arith, z))
turns_more turn (suc n) t u e z h =
    let q : nat_lt 20000 (term_size [] u) ≡ false = grind arith in
    let m : n ≡ suc n - 1 = omega arith in
    rw e (rw q (ap (λ k. all_turns turn k u) m))

pub all_end : (r : Redexes) (n : ℕ) (t : Nameless) → turn (contraction r) [] t ≡ None → all_turns (turn (contraction r) []) n t ≡ finished t n
all_end r = turns_end (turn (contraction r) [])

pub all_limit : (r : Redexes) (n : ℕ) (t u : Nameless) → turn (contraction r) [] t ≡ Some u → n ≡ 0 → all_turns (turn (contraction r) []) n t ≡ limit
all_limit r = turns_limit (turn (contraction r) [])

pub all_large : (r : Redexes) (n : ℕ) (t u : Nameless) → turn (contraction r) [] t ≡ Some u → 0 < n → 20000 < term_size [] u → all_turns (turn (contraction r) []) n t ≡ too_large
all_large r = turns_large (turn (contraction r) [])

pub all_more : (r : Redexes) (n : ℕ) (t u : Nameless) → turn (contraction r) [] t ≡ Some u → 0 < n → term_size [] u ≤ 20000 → all_turns (turn (contraction r) []) n t ≡ all_turns (turn (contraction r) []) (n - 1) u
all_more r = turns_more (turn (contraction r) [])

pub ruleset all = (all_end, all_limit, all_large, all_more)
