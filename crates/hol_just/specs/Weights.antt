-- What pieces that wait weigh, so that what they become is lighter. Only private clauses speak of it.
use Rattle.std.specs.Prelude.{ℕ, zero, suc, ◌+◌, List, [], ◌∷◌}
use Rattle.hol_just.specs.Strip.{WaitingValue, all_nodes}

-- 2 to this power
abbrev pub weight : ℕ → ℕ
weight zero = 1
weight (suc n) = weight n + weight n

abbrev pub all_weights : List WaitingValue → ℕ
all_weights [] = 0
all_weights (w ∷ ws) = weight (all_nodes w.pieces) + all_weights ws
