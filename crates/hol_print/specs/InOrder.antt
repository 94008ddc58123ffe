-- Lists of variables in order, of which only private clauses speak.
use Rattle.std.specs.Prelude.{◌≡◌, ℕ, List, [], ◌∷◌, false}
use Rattle.std.specs.Ordering.{is_gt}
use Rattle.std.specs.declared.cmp.Ordering.TheVariants.{Greater}
use Rattle.hol_types.specs.Tree.{TypeTree}
use Rattle.hol_print.specs.ShowGoal.{variable_order}

-- none of the variables comes before v
abbrev pub IsNotAfter : List ℕ × TypeTree → List (List ℕ × TypeTree) → Type 0
IsNotAfter v [] = Unit {0}
IsNotAfter v (w ∷ ws) = (is_gt (variable_order v w) ≡ false) × IsNotAfter v ws

-- none of the variables comes before one that stands before it
abbrev pub IsInOrder : List (List ℕ × TypeTree) → Type 0
IsInOrder [] = Unit {0}
IsInOrder (v ∷ vs) = IsNotAfter v vs × IsInOrder vs

-- each of the variables comes before v
abbrev pub IsAfter : List ℕ × TypeTree → List (List ℕ × TypeTree) → Type 0
IsAfter v [] = Unit {0}
IsAfter v (w ∷ ws) = (variable_order v w ≡ Greater) × IsAfter v ws
