use Rattle.std.proofs.Common.{◌∙◌, ◌++◌, ap}
use Rattle.hol_theory.specs.Constants.{constant_names}
use Rattle.hol_theory.proofs.Naming.{names_start, names_step, names_end}
use Rattle.hol_theory.proofs.env.Env.names_with.Goals as goal

pub loop-entry-init : goal.loop-entry-init
loop-entry-init c = names_start c.args.self.now c.args.more.now c.in_ok-names.names (c.in_ok-names.ensures ∙ c.self.invariant.3 ∙ ap constant_names c.self.view_is)

pub loop-entry-preserved : goal.loop-entry-preserved
loop-entry-preserved c =
    names_step c.args.more.now c.loop-entry.entry-index c.entry-item.result c.loop-entry.names c.add_name.new.names (constant_names (c.args.self.now ++ c.args.more.now)) c.loop-entry-test.true c.entry-item.is c.in_ok-add_name.ensures c.loop-entry.invariant

pub returns : goal.returns
returns c = names_end c.args.more.now c.loop-entry.entry-index c.loop-entry.names (constant_names (c.args.self.now ++ c.args.more.now)) c.loop-entry-test.false c.loop-entry.invariant
