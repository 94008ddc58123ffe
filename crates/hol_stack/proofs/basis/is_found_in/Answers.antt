use Rattle.std.proofs.Common.{arith, sym, subst, take, ℕ}
use Rattle.std.proofs.lemmas.Bool.{eqb-true}
use Rattle.hol_stack.proofs.Within.{AreHeld, one_more, all_within}
use Rattle.hol_stack.proofs.basis.is_found_in.Goals as goal
use Rattle.hol_stack.proofs.basis.is_found_in.Goals.{then-found-items+then-has_shared_name, else-found-items}

pub loop-item-preserved : goal.loop-item-preserved
loop-item-preserved c = elim c.if-found-items.branch [
  | then-found-items+then-has_shared_name w ↦ record {
    bound = omega (arith, w.found-is, w.if-found-items.true);
    held = subst (λ (n : ℕ). AreHeld c.args.whole.now (take n c.items-items.result.now)) (sym w.found-is)
        (one_more c.args.whole.now c.args.part.now c.items-item-items.result.now c.items-items.result.now c.loop-item.item-index c.loop-item.found c.item-item.result w.index-items-found.result c.requires c.items-item-items.ensures.items c.items-items.ensures.items
        c.loop-item-test.true c.item-item.is w.if-found-items.true w.index-items-found.is (sym w.if-has_shared_name.ensures) c.loop-item.invariant.held);
  }
  | else-found-items w ↦ record {
    bound = omega (arith, w.found-is, c.loop-item.invariant.bound);
    held = subst (λ (n : ℕ). AreHeld c.args.whole.now (take n c.items-items.result.now)) (sym w.found-is) c.loop-item.invariant.held;
  }
]

pub returns : goal.returns
returns c = λ t. all_within c.args.whole.now c.args.part.now c.items-items.result.now c.loop-item.found c.items-items.ensures.items (eqb-true _ _ t) c.loop-item.invariant.held
