use Rattle.std.proofs.Common.{length}
use Rattle.hol_notation_grammar.proofs.machine.+first_empty.Given as goal

abbrev pub decreases-first_empty : goal.decreases-first_empty
decreases-first_empty l = length l.productions.now
