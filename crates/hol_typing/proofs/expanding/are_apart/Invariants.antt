use Rattle.std.proofs.Common.{◌≡◌, ℕ, ◌<◌, [], get_or, false}
use Rattle.hol_types.specs.Names.{is_among, type_names}
use Rattle.hol_typing.proofs.expanding.are_apart.Given as goal

abbrev pub invariant-loop-name : goal.invariant-loop-name
invariant-loop-name l = (k : ℕ) → k < l.name-index → is_among (type_names l.second) (get_or l.name-items k []) ≡ false
