-- Rules over larger sets of items.
use Rattle.std.specs.Prelude.{◌≡◌, Option, Some}
use Rattle.hol_kernel.specs.Items.{Items, IsSubset}
use Rattle.hol_kernel.specs.Sequent.{Sequent}

-- what the rule gives over a set of items it gives over every larger one
abbrev pub IsMonotone : (Items → Option Sequent) → Type 0
IsMonotone rule = (basis more : Items) → IsSubset basis more → (s : Sequent) → rule basis ≡ Some s → rule more ≡ Some s
