use Rattle.std.proofs.Common.{◌∙◌, ◌+◌, ◌++◌, ap, drop}
use Rattle.hol_theory.specs.Adding.{missing}
use Rattle.hol_theory.proofs.Imports.{missing_here, missing_later}
use Rattle.hol_theory.proofs.env.Env.missing.Goals as goal
use Rattle.hol_theory.proofs.env.Env.missing.Goals.{then-not-contains_key+in_ok-entry_copy+in_ok-push, else-not-contains_key}

pub loop-i-preserved : goal.loop-i-preserved
loop-i-preserved c =
    let later = missing c.args.self.now (drop (c.loop-i.i + 1) c.args.other.now) in elim c.if-not-contains_key.branch [
      | then-not-contains_key+in_ok-entry_copy+in_ok-push w ↦
          ap (λ more. more.items ++ later) w.more-is
          ∙ missing_here c.args.self.now c.args.other.now c.loop-i.i c.entry.result.0.now c.entry.result.1.now c.entry.ensures c.contains_key.result c.contains_key.ensures c.loop-i.more.items
          c.loop-i.invariant w.push.new.self.items w.in_ok-entry_copy.field-0 w.if-not-contains_key.true w.in_ok-push.ensures.items w.in_ok-entry_copy.ensures
      | else-not-contains_key w ↦
          ap (λ more. more.items ++ later) w.more-is
          ∙ missing_later c.args.self.now c.args.other.now c.loop-i.i c.entry.result.0.now c.entry.result.1.now c.entry.ensures c.contains_key.result c.contains_key.ensures c.loop-i.more.items
          c.loop-i.invariant w.if-not-contains_key.false
    ]
