use Rattle.hol_theory.proofs.Theories.{entries_with_all}
use Rattle.hol_theory.proofs.layer.Layer.add_all.Goals as goal

pub returns-clause-ok : goal.returns-clause-ok
returns-clause-ok c = entries_with_all c.insert_each.result c.self.inside.entries.entries c.args.self.now c.insert_each.new.entries.entries c.args.more.items c.insert_each.ensures.ok c.self.view_is c.requires
