use Rattle.hol_just.proofs.NeverRefused.{never_refused}
use Rattle.hol_just.proofs.assuming.assumption.Goals as goal

pub unreachable-requires : goal.unreachable-requires
unreachable-requires c = never_refused c.args.p.now c.requires c.assumed.result c.in-Err-Refused.field-0 c.in-Err-Refused.field-0-0 c.assumed.ensures c.in-Err-Refused.is c.in-Err-Refused.field-0-is
