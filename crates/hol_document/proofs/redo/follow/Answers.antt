-- One turn of the loop: the theory here is the first of those that are left, and the one after it is added to those that are done.
use Rattle.std.proofs.Common.{◌++◌, ◌∷◌, [], sym, ◌∙◌, subst, map, string_bytes, arith}
use Rattle.hol_document.specs.RunnerView.{setup_of}
use Rattle.hol_document.specs.Alike.{EndAlike}
use Rattle.hol_document.specs.Slots.{ended_of}
use Rattle.hol_document.proofs.Followed.{followed_next, theory_here}
use Rattle.hol_document.proofs.Redone.{pushed}
use Rattle.hol_document.proofs.redo.follow.Goals as goal

pub following-requires : goal.following-requires
following-requires g c =
    let inv = c.loop-theory.invariant in
    let here = theory_here (setup_of c.args.runner.now) inv.left.0 c.args.theories.now c.loop-theory.theory-index c.theory-item.result c.loop-theory-test.true c.theory-item.is inv.left.1 in
    (inv.left.0, rw inv.goes.0 here.0, rw (c.deref-in-loop-theory.ensures.value, c.deref.ensures.value) inv.left.2)

pub loop-theory-preserved : goal.loop-theory-preserved
loop-theory-preserved g c =
    let inv = c.loop-theory.invariant in
    let here = theory_here (setup_of c.args.runner.now) inv.left.0 c.args.theories.now c.loop-theory.theory-index c.theory-item.result c.loop-theory-test.true c.theory-item.is inv.left.1 in
    let edited = rw (inv.goes.0, c.deref-in-loop-theory.ensures.value) at c.in_ok-next.ensures.edited in
    record {
      goes = (c.in_ok-next.ensures.goes.0 ∙ inv.goes.0, omega (arith, inv.goes.1, c.in_ok-next.ensures.goes.1));
      done = followed_next (setup_of c.args.runner.now) c.args.done.now.items c.loop-theory.done.items c.push.new.self.items c.args.theories.now c.loop-theory.theory-index c.theory-item.result c.in_ok-next.next.theory
          _ _ _ c.loop-theory-test.true c.theory-item.is c.in_ok-push.ensures.items inv.done
          edited.are c.in_ok-next.ensures.name edited.texts_are edited.few;
      left = (
        inv.left.0 ++ ended_of c.theory-item.result ∷ [],
        here.1,
        subst (EndAlike (map (λ name. string_bytes name.value) c.add_unless.new.names.items) (inv.left.0 ++ ended_of c.theory-item.result ∷ [])) (sym (pushed ended_of c.loop-theory.done.items c.push.new.self.items c.in_ok-next.next.theory c.in_ok-push.ensures.items))
            (c.in_ok-add_unless.ensures inv.left.0 (map ended_of c.loop-theory.done.items) (ended_of c.in_ok-next.next.theory) c.in_ok-next.ensures.name c.in_ok-next.ensures.same inv.left.2),
      );
    }
