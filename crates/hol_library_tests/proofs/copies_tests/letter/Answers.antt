use Rattle.hol_library_tests.proofs.Patterns.{variable_apart}
use Rattle.hol_library_tests.proofs.copies_tests.letter.Goals as goal

pub returns : goal.returns
returns c = variable_apart c.occurrence.result c.in_ok-v.v c.occurrence.ensures.is
