use Rattle.std.proofs.Common.{◌≡◌, true, false, rules}
use Rattle.hol_exec.specs.Tested.{is_marked}
use Rattle.hol_exec.proofs.Marks.{all_not, all_on, all_end}
use Rattle.hol_exec.proofs.running.tested.agree.Goals as goal

pub returns-then-has-entry : goal.returns-then-has-entry
returns-then-has-entry c =
    let differs : is_marked c.args.names.now c.entry-item.result ≡ false = search rules in
    all_not (is_marked c.args.names.now) c.args.tested.now c.loop-entry.entry-index c.entry-item.result c.loop-entry-test.true c.entry-item.is c.loop-entry.invariant differs

pub loop-entry-preserved : goal.loop-entry-preserved
loop-entry-preserved c =
    let fits : is_marked c.args.names.now c.entry-item.result ≡ true = search rules in
    all_on (is_marked c.args.names.now) c.args.tested.now c.loop-entry.entry-index c.entry-item.result c.loop-entry-test.true c.entry-item.is c.loop-entry.invariant fits

pub returns : goal.returns
returns c = all_end (is_marked c.args.names.now) c.args.tested.now c.loop-entry.entry-index c.loop-entry-test.false c.loop-entry.invariant
