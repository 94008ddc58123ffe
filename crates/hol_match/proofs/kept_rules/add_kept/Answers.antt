use Rattle.hol_match.specs.SetView.{set_rules}
use Rattle.hol_match.proofs.RulesKept.{first_begun, first_more, first_done, given_begun, given_next}
use Rattle.hol_match.proofs.kept_rules.add_kept.Goals as goal

pub loop-i-init : goal.loop-i-init
loop-i-init c = (
  λ thms n h. first_begun thms c.args.kept.now c.args.from n (set_rules c.args.all.now.items) h,
  λ thms n h. given_begun thms c.args.kept.now c.args.from n c.args.all.now.items h,
  λ o. o,
)

pub loop-i-preserved : goal.loop-i-preserved
loop-i-preserved c = (
  λ thms n h.
      first_more thms c.args.kept.now c.args.from n (set_rules c.loop-i.all.items) (set_rules c.add_to.new.all.items) c.loop-i.i c.index-kept-i.result c.loop-i-test.true c.index-kept-i.is
      c.in_ok-add_to.ensures.adds (c.loop-i.invariant.0 thms n h),
  λ thms n h.
      given_next thms c.args.kept.now c.args.from n c.loop-i.all.items c.add_to.new.all.items c.loop-i.i c.index-kept-i.result c.loop-i-test.true c.index-kept-i.is c.in_ok-add_to.ensures.given
      (c.loop-i.invariant.1 thms n h),
  λ o. c.in_ok-add_to.ensures.variables (c.loop-i.invariant.2 o),
)

pub returns-clause-first : goal.returns-clause-first
returns-clause-first c = λ thms n h. first_done thms c.args.kept.now c.args.from n (set_rules c.loop-i.all.items) c.loop-i.i c.loop-i-test.false (c.loop-i.invariant.0 thms n h)
