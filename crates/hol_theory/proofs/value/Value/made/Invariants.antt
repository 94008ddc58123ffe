use Rattle.hol_theory.specs.Codes.{entry_code}
use Rattle.hol_theory.specs.EntryView.{entry_of_node}
use Rattle.hol_theory.proofs.value.Value.made.Given as goal

abbrev pub ghost-about : goal.ghost-about
ghost-about a = entry_code (entry_of_node a.value.now)
