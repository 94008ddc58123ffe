use Rattle.std.proofs.Common.{◌≡◌, drop}
use Rattle.hol_types.specs.Names.{insert_names}
use Rattle.hol_subst.proofs.tyvars.add_type.Given as goal

abbrev pub invariant-loop-name : goal.invariant-loop-name
invariant-loop-name l = insert_names l.initial.names.items l.name-items ≡ insert_names l.names.items (drop l.name-index l.name-items)
