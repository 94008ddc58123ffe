-- The names of the constants at the heads of left sides, a bit for each. Cited by private clauses alone.
-- Source: this project.
use Rattle.std.specs.Prelude.{ℕ, List, [], ◌∷◌, Option, Some, None}
use Rattle.std.specs.Option.{option_map, option_and_then}
use Rattle.std.specs.Int.RustNames.{bit_or}
use Rattle.hol_types.specs.Filter.{name_bit}
use Rattle.hol_terms.specs.Nameless.{Nameless, free, bound, fixed, app, lam}
use Rattle.hol_match.specs.RuleSets.{RuleEntry}

-- the bit of the constant at the term's head, if there is one
abbrev pub head_bit : Nameless → Option ℕ
head_bit (free v) = None
head_bit (bound i) = None
head_bit (fixed c s) = Some (name_bit c)
head_bit (app f x) = head_bit f
head_bit (lam a s b) = None

-- the bits of all the left sides, if each has a constant at its head
abbrev pub head_bits : List RuleEntry → Option ℕ
head_bits [] = Some 0
head_bits (e ∷ es) = option_and_then (λ m. option_map (bit_or m) (head_bits es)) (head_bit e.rule.left)
