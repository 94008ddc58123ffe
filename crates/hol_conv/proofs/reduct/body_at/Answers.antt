use Rattle.std.proofs.Common.{rules}
use Rattle.hol_conv.proofs.Reducts.{body_types}
use Rattle.hol_conv.proofs.reduct.body_at.Goals as goal

pub returns-clause-typed : goal.returns-clause-typed
returns-clause-typed c = body_types c.deref.result.now c.args.x.now c.args.b.now c.args.v.now c.vsubst_good.result (search rules) c.requires.fits c.vsubst_good.ensures.ok
