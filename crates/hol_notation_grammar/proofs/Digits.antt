-- How large a number of few digits is.
use Rattle.std.proofs.Common.{◌≤◌, ◌+◌, ◌*◌, ℕ, zero, suc, arith}

-- the largest number of so many bytes, taken as digits
abbrev pub cap : ℕ → ℕ
cap zero = 0
cap (suc n) = 10 * cap n + 255

pub cap_bound : (n : ℕ) → n ≤ 4 → cap n ≤ 283305
cap_bound zero h = omega arith
cap_bound (suc zero) h = omega arith
cap_bound (suc (suc zero)) h = omega arith
cap_bound (suc (suc (suc zero))) h = omega arith
cap_bound (suc (suc (suc (suc zero)))) h = omega arith
cap_bound (suc (suc (suc (suc (suc n))))) h = omega (arith, h)
