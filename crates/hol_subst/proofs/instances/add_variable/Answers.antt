use Rattle.hol_terms.specs.Scope.{binders}
use Rattle.hol_subst.proofs.Alike.{put_at, left_at}
use Rattle.hol_subst.proofs.instances.add_variable.Goals as goal

pub returns-in_ok-push : goal.returns-in_ok-push
returns-in_ok-push c = put_at c.args.alike.now.v.now c.args.w.now _ (binders c.args.inner.now) c.args.found.now.items _ _ _ c.deref.ensures.value c.is_new.ensures c.if-is_new.true c.in_ok-copy.ensures c.in_ok-push.ensures.items

pub returns-else-is_new : goal.returns-else-is_new
returns-else-is_new c = left_at c.args.alike.now.v.now c.args.w.now (binders c.args.inner.now) c.args.found.now.items _ _ c.deref.ensures.value c.is_new.ensures c.if-is_new.false
