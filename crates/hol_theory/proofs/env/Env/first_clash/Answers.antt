use Rattle.hol_theory.proofs.Imports.{clash_here, clash_later}
use Rattle.hol_theory.proofs.env.Env.first_clash.Goals as goal

pub returns-then-stands_otherwise : goal.returns-then-stands_otherwise
returns-then-stands_otherwise c =
    clash_here c.args.self.now c.args.other.now c.loop-i.i c.entry.result.0.now c.entry.result.1.now c.entry.ensures c.stands_otherwise.result c.stands_otherwise.ensures c.loop-i.invariant
    c.if-stands_otherwise.true

pub loop-i-preserved : goal.loop-i-preserved
loop-i-preserved c =
    clash_later c.args.self.now c.args.other.now c.loop-i.i c.entry.result.0.now c.entry.result.1.now c.entry.ensures c.stands_otherwise.result c.stands_otherwise.ensures c.loop-i.invariant
    c.if-stands_otherwise.false
