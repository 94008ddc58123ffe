use Rattle.std.proofs.Common.{length}
use Rattle.hol_notation_grammar.proofs.machine.+push_all.Given as goal

abbrev pub decreases-push_all : goal.decreases-push_all
decreases-push_all l = length l.symbols.now
