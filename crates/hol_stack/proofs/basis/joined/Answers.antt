use Rattle.std.proofs.Common.{◌∙◌, sym}
use Rattle.std.specs.Prelude.{refl}
use Rattle.std.proofs.lemmas.Result.{IfOk-weaker}
use Rattle.hol_stack.proofs.Within.{turned, union_within, within_union}
use Rattle.hol_stack.proofs.basis.joined.Goals as goal

pub returns-then-is_within : goal.returns-then-is_within
returns-then-is_within c =
    IfOk-weaker c.copy.result _ _ (λ basis e. e ∙ sym (union_within c.args.left.now c.args.right.now (c.if-is_within.ensures refl))) c.copy.ensures

pub is_within-requires-2 : goal.is_within-requires-2
is_within-requires-2 c = turned c.args.left.now c.args.right.now c.requires

pub returns-then-is_within-2 : goal.returns-then-is_within-2
returns-then-is_within-2 c =
    IfOk-weaker c.copy-then-is_within-2.result _ _ (λ basis e. e ∙ sym (within_union c.args.left.now c.args.right.now (c.if-is_within-2.ensures refl))) c.copy-then-is_within-2.ensures
