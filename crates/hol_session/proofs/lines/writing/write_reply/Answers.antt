use Rattle.std.proofs.Common.{arith}
use Rattle.hol_session.proofs.Known.{part_more}
use Rattle.hol_session.proofs.lines.writing.write_reply.Goals as goal

pub loop-rest-preserved : goal.loop-rest-preserved
loop-rest-preserved g c =
    let (part, is, appends, fails) = c.loop-rest.invariant in
    let (more, whole, appended) = part_more _ _ _ c.args.bytes.now part c.loop-rest.rest.now c.in-Ok.count is c.in-Ok.ensures.bound appends c.in-Ok.ensures.bytes in
    (more, whole, appended, λ failed. fails (c.in-Ok.ensures.only (omega (arith, c.if-count-eq0.false)) failed))
