use Rattle.std.proofs.Common.{length}
use Rattle.hol_notation_grammar.proofs.machine.+first_leading.Given as goal

abbrev pub decreases-first_leading : goal.decreases-first_leading
decreases-first_leading l = length l.productions.now
