use Rattle.std.proofs.Common.{◌∙◌, ap, sym, ◌++◌}
use Rattle.std.proofs.lemmas.Result.{on_ok_weaker}
use Rattle.hol_goal.proofs.NameParts.{one_of_two}
use Rattle.hol_goal.proofs.names.Names.join.Goals as goal

pub returns : goal.returns
returns c =
    on_ok_weaker c.put.result (λ h.
    h
    ∙ one_of_two c.args.self.now c.take_last-last.new.self c.take_last-before.new.self c.names_in.result.now c.names_in-2.result.now c.in_ok-names.names.items
    (c.take_last-last.ensures ∙ ap (λ names. c.take_last-last.new.self ++ names) (sym c.names_in-2.ensures))
    (c.take_last-before.ensures ∙ ap (λ names. c.take_last-before.new.self ++ names) (sym c.names_in.ensures))
    c.in_ok-names.ensures)
    c.put.ensures
