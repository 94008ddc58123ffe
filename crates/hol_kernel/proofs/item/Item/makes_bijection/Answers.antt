use Rattle.std.proofs.Common.{sym, ◌∙◌}
use Rattle.hol_kernel.proofs.Makes.{no_constant}
use Rattle.hol_kernel.proofs.item.Item.makes_bijection.Goals as goal

pub returns-then-not-has_name : goal.returns-then-not-has_name
returns-then-not-has_name c = sym (no_constant c.args.self.now c.args.constant.now c.args.ty.now (sym c.has_name.ensures ∙ c.if-not-has_name.true))
