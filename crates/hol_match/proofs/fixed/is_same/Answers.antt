use Rattle.hol_match.proofs.Lookups.{other_bits}
use Rattle.hol_match.proofs.fixed.is_same.Goals as goal

-- the names have other bits
pub returns-else-same : goal.returns-else-same
returns-else-same c = other_bits c.args.u.now c.args.v.now c.filter.result.bits c.filter-2.result.bits c.same.result c.filter.ensures c.filter-2.ensures c.same.ensures.1 c.if-same.false
