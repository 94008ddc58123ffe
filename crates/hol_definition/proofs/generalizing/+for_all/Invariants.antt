use Rattle.hol_definition.proofs.generalizing.+for_all.Given as goal

abbrev pub decreases-for_all : goal.decreases-for_all
decreases-for_all l = l.variables
