use Rattle.std.proofs.Common.{◌≡◌, ◌||◌, drop}
use Rattle.std.specs.List.{list_all}
use Rattle.hol_types.specs.Names.{is_among}
use Rattle.hol_match.proofs.rules.are_types_given.Given as goal

abbrev pub invariant-loop-name : goal.invariant-loop-name
invariant-loop-name l =
    list_all (λ a. is_among l.fixed.names.items a || is_among l.own a) l.names
    ≡ list_all (λ a. is_among l.fixed.names.items a || is_among l.own a) (drop l.name-index l.names)
