use Rattle.std.proofs.Common.{◌≡◌, ◌++◌, ◌∷◌, [], rules}
use Rattle.hol_goal.specs.Names.{stands}
use Rattle.hol_exec.specs.Tested.{marked}
use Rattle.hol_exec.proofs.Marks.{marks_step, marks_end}
use Rattle.hol_exec.proofs.running.tested.Tested.of.Goals as goal

pub loop-name-preserved : goal.loop-name-preserved
loop-name-preserved c =
    let put : c.push.new.self.items ≡ c.loop-name.marked.items ++ (c.name-item.result, stands c.args.names.now c.name-item.result) ∷ [] = search rules in
    marks_step c.args.names.now c.args.tested.now c.loop-name.name-index c.name-item.result c.loop-name.marked.items c.push.new.self.items (marked c.args.names.now c.args.tested.now) c.loop-name-test.true c.name-item.is put c.loop-name.invariant

pub returns : goal.returns
returns c = marks_end c.args.names.now c.args.tested.now c.loop-name.name-index c.loop-name.marked.items (marked c.args.names.now c.args.tested.now) c.loop-name-test.false c.loop-name.invariant
