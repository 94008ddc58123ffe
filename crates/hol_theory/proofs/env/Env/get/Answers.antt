use Rattle.std.proofs.Common.{◌∙◌, ap, sym}
use Rattle.hol_theory.specs.Entry.{entry_at}
use Rattle.hol_theory.proofs.Entries.{at_left, at_right}
use Rattle.hol_theory.proofs.env.Env.get.Goals as goal

pub returns-in-Some : goal.returns-in-Some
returns-in-Some c = sym (at_left c.args.key.now c.self.inside.older c.self.inside.newest c.in-Some.value.now (sym c.in-Some.ensures)) ∙ ap (entry_at c.args.key.now) c.self.view_is

pub returns-in-None : goal.returns-in-None
returns-in-None c =
    c.get-in-None.ensures ∙ sym (at_right c.args.key.now c.self.inside.older c.self.inside.newest (sym c.in-None.ensures)) ∙ ap (entry_at c.args.key.now) c.self.view_is
