use Rattle.hol_library_tests.proofs.names_tests.added_type.Goals as goal
use Rattle.hol_library_tests.proofs.Declared.{type_follows}

pub add-requires : goal.add-requires
add-requires c = λ none. type_follows c.args.env.now c.in_ok-empty.field-0 c.in_ok-name.name c.args.arity (c.in_ok-key.key, c.in_ok-key.value) c.in_ok-empty.ensures c.in_ok-key.ensures
