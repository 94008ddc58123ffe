use Rattle.std.specs.Prelude.{List, ℕ}
use Rattle.std.proofs.Common.{◌∙◌, ap, map}
use Rattle.hol_goal.proofs.NameParts.{copied_more}
use Rattle.hol_goal.proofs.names.Names.copy.Goals as goal

pub loop-part-preserved : goal.loop-part-preserved
loop-part-preserved c =
    ap (map (λ part. part.value)) c.in_ok-push.ensures.items
    ∙ copied_more (λ part. part.value) c.loop-part.parts.items c.deref-part-items.result.now c.loop-part.part-index c.part-item.result c.in_ok-clone.field-0 c.loop-part-test.true c.part-item.is
    c.in_ok-clone.ensures.cases c.loop-part.invariant
