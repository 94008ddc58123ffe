use Rattle.std.proofs.Common.{rules}
use Rattle.hol_kernel.proofs.ItemOrder.{total, only}
use Rattle.hol_kernel.proofs.Ordered.{sorted_is}
use Rattle.hol_kernel.proofs.basis.Basis.items.Goals as goal

pub returns-clause-items : goal.returns-clause-items
returns-clause-items c = sorted_is total only c.deref-2.result.now c.args.self.now (search rules) (search rules)
