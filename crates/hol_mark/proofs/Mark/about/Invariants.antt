use Rattle.hol_mark.proofs.Mark.about.Given as goal

abbrev pub ghost-new : goal.ghost-new
ghost-new g a = g.says
