use Rattle.std.proofs.Common.{◌∙◌}
use Rattle.hol_goal.proofs.NameParts.{part_put}
use Rattle.hol_goal.proofs.names.Names.put.Goals as goal

pub returns : goal.returns
returns c = part_put (λ part. part.value) c.self.inside.parts.items c.push.new.self.items c.in_ok-new.field-0 c.args.self.now c.args.part.items c.in_ok-push.ensures.items (c.in_ok-new.ensures.ok ∙ c.in_ok-part.ensures) c.self.view_is
