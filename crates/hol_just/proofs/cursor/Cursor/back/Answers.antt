use Rattle.std.proofs.Common.{rules, is_ok}
use Rattle.hol_just.proofs.Cuts.{back_over}
use Rattle.hol_just.proofs.cursor.Cursor.back.Goals as goal

pub invariant_of-self : goal.invariant_of-self
invariant_of-self c =
    back_over c.self.inside.basis c.self.inside.before.items c.pop.new.self.items c.self.inside.after.items c.push.new.self.items c.in-Some.thm (is_ok c.push.result) (search rules) c.push.ensures.items
    c.self.invariant
