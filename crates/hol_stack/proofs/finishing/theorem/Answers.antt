use Rattle.std.specs.Prelude.{◌-◌, take, reverse}
use Rattle.std.proofs.Common.{ap, sym, ◌∙◌, subst, arith}
use Rattle.std.proofs.lemmas.Result.{IfOk-weaker}
use Rattle.hol_terms.specs.Nameless.{Nameless}
use Rattle.hol_terms.specs.Alpha.{strip}
use Rattle.hol_formulas.specs.Equation.{bool_type}
use Rattle.hol_kernel.specs.Items.{Items}
use Rattle.hol_kernel.specs.Sequent.{no_hyps}
use Rattle.hol_kernel.specs.Theorem.{theorem_over}
use Rattle.hol_kernel.specs.Typing.{HasType}
use Rattle.hol_just.specs.Over.{AreOver, sequents}
use Rattle.hol_stack.specs.Sound.{AchievesNext}
use Rattle.hol_stack.proofs.Histories.{none_over, back_begins, back_to, next_achieved, before_achieved}
use Rattle.hol_stack.proofs.Exact.{last_left, last_typed}
use Rattle.hol_stack.proofs.finishing.theorem.Goals as goal

pub back-init : goal.back-init
back-init c = record {
  back = back_begins c.args.goal.now c.args.newest.now c.args.earlier.now c.new-thms.result.items c.requires.closed c.new-thms.ensures.items c.requires.sound;
  over = none_over c.args.newest.now.basis c.new-thms.result.items c.new-thms.ensures.items;
  within = omega arith;
}

pub before-requires-clause-next : goal.before-requires-clause-next
before-requires-clause-next c =
    let i = c.back.left - 1 in
    let one = c.index-earlier-left.result in
    let ss = sequents c.back.thms.items in
    let back =
    back_to c.args.goal.now c.args.newest.now.basis c.args.earlier.now i c.back.left one ss (omega arith) (omega arith) c.index-earlier-left.is c.back.invariant.back in
    subst (λ (b : Items). AchievesNext b one ss) (sym c.basis-basis.ensures)
    (next_achieved c.args.goal.now c.args.newest.now.basis one (reverse (take i c.args.earlier.now)) ss back)

pub back-preserved : goal.back-preserved
back-preserved c =
    let i = c.back.left - 1 in
    let one = c.index-earlier-left.result in
    let ss = sequents c.back.thms.items in
    let back =
    back_to c.args.goal.now c.args.newest.now.basis c.args.earlier.now i c.back.left one ss (omega arith) (omega arith) c.index-earlier-left.is c.back.invariant.back in
    record {
      back =
          before_achieved c.args.goal.now c.args.newest.now.basis one (reverse (take i c.args.earlier.now)) ss (sequents c.in_ok-thms.thms.items) back
          c.in_ok-thms.ensures.achieved;
      over = subst (λ (b : Items). AreOver b c.in_ok-thms.thms.items) c.basis-basis.ensures c.in_ok-thms.ensures.over;
      within = omega arith;
    }

pub exactly-requires-clause-alike : goal.exactly-requires-clause-alike
exactly-requires-clause-alike c =
    let last =
    last_left c.args.goal.now c.args.newest.now c.args.earlier.now c.back.left c.back.thms.items c.pop.new.self.items c.in-Some.thm c.requires.sound (omega arith)
    c.back.invariant.back c.back.invariant.over c.in-Some.ensures.items in
    last.alike ∙ ap strip (sym c.conclusion.ensures.term)

pub exactly-requires-clause-typed : goal.exactly-requires-clause-typed
exactly-requires-clause-typed c =
    let last =
    last_left c.args.goal.now c.args.newest.now c.args.earlier.now c.back.left c.back.thms.items c.pop.new.self.items c.in-Some.thm c.requires.sound (omega arith)
    c.back.invariant.back c.back.invariant.over c.in-Some.ensures.items in
    subst (λ (t : Nameless). HasType c.in-Some.thm.basis t bool_type) (sym c.conclusion.ensures.term)
    (last_typed c.args.goal.now c.args.newest.now c.args.earlier.now c.in-Some.thm c.requires.sound last)

pub exactly-requires-clause-free : goal.exactly-requires-clause-free
exactly-requires-clause-free c =
    let last =
    last_left c.args.goal.now c.args.newest.now c.args.earlier.now c.back.left c.back.thms.items c.pop.new.self.items c.in-Some.thm c.requires.sound (omega arith)
    c.back.invariant.back c.back.invariant.over c.in-Some.ensures.items in
    last.free

pub returns : goal.returns
returns c =
    let last =
    last_left c.args.goal.now c.args.newest.now c.args.earlier.now c.back.left c.back.thms.items c.pop.new.self.items c.in-Some.thm c.requires.sound (omega arith)
    c.back.invariant.back c.back.invariant.over c.in-Some.ensures.items in
    IfOk-weaker c.exactly.result _ _ (λ th made. made ∙ (λ i. theorem_over (last.over i) no_hyps (c.conclusion.ensures.term i))) c.exactly.ensures
