use Rattle.std.proofs.Common.{◌∙◌}
use Rattle.hol_typing.proofs.Opening.{builds_variable}
use Rattle.hol_typing.proofs.generate.Graph.instance.Goals as goal

pub returns-in-Var : goal.returns-in-Var
returns-in-Var c = builds_variable c.args.self.now c.args.generic.now _ (rw c.in-Var.is at c.node.ensures ∙ c.ty.ensures) c.requires
