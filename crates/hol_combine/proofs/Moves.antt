-- Moves that come after none.
use Rattle.std.specs.Prelude.{◌≡◌, ◌+◌, ℕ, List, [], ◌∷◌, ◌++◌, length, refl}
use Rattle.std.proofs.Common.{arith}
use Rattle.hol_just.specs.Gives.{moved}
use Rattle.hol_just.specs.declared.reason.Move.{Move}

none_more : (n : ℕ) → 0 + n ≡ n
none_more n = omega arith

not_moved : (moves : List Move) → moved 0 moves ≡ moves
not_moved [] = refl
not_moved (one ∷ moves) = λ i. record one { place = none_more one.place i } ∷ not_moved moves i

pub first_moves : (n : ℕ) (old more : List Move) → n ≡ 0 → length old ≡ 0 → old ++ moved n more ≡ more
first_moves n [] more e f = rw e (not_moved more)
first_moves n (one ∷ old) more e f = absurd (omega (arith, f))
