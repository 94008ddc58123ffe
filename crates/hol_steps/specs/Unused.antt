-- Variables that a term does not have. Only private clauses speak of it.
use Rattle.std.specs.Prelude.{◌≡◌, ℕ, ◌≤◌, false, List, length}
use Rattle.hol_types.specs.Tree.{TypeTree}
use Rattle.hol_types.specs.Equal.{variable_eq}
use Rattle.hol_terms.specs.Named.{Named, var, constant, comb, abs}

-- no variable of the term, free or bound, is v
abbrev pub HasNo : List ℕ × TypeTree → Named → Type 0
HasNo v (var u) = variable_eq u v ≡ false
HasNo v (constant c s) = Unit {0}
HasNo v (comb f x) = HasNo v f × HasNo v x
HasNo v (abs u b) = (variable_eq u v ≡ false) × HasNo v b

-- no name of a variable of the term, free or bound, is longer than n
abbrev pub AreShort : ℕ → Named → Type 0
AreShort n (var u) = length u.0 ≤ n
AreShort n (constant c s) = Unit {0}
AreShort n (comb f x) = AreShort n f × AreShort n x
AreShort n (abs u b) = (length u.0 ≤ n) × AreShort n b
