-- The number that digits say.
use Rattle.std.specs.Prelude.{◌+◌, ◌-◌, ◌*◌, ℕ, List, [], ◌∷◌, take}

-- after digits that say another
abbrev pub decimal_from : ℕ → List ℕ → ℕ
decimal_from n [] = n
decimal_from n (digit ∷ digits) = decimal_from (10 * n + (digit - 48)) digits

-- a number has at most four digits
abbrev pub number_value : List ℕ → ℕ
number_value word = decimal_from 0 (take 4 word)
