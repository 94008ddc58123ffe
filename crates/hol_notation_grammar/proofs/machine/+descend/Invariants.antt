use Rattle.hol_notation_grammar.proofs.machine.+descend.Given as goal

abbrev pub decreases-descend : goal.decreases-descend
decreases-descend l = l.depth
