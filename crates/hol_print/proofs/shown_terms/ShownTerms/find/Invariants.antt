use Rattle.hol_print.proofs.shown_terms.ShownTerms.find.Given as goal

abbrev pub decreases-newest : goal.decreases-newest
decreases-newest l = l.at
