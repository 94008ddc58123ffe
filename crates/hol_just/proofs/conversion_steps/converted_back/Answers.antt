use Rattle.std.proofs.Common.{◌≡◌, ◌∙◌, sym, subst, Some}
use Rattle.std.specs.Prelude.{IsSome}
use Rattle.hol_kernel.specs.Gives.{in_kernel}
use Rattle.hol_kernel.specs.Items.{Items}
use Rattle.hol_kernel.specs.Rules.{eq_mp_of}
use Rattle.hol_kernel.specs.Theorem.{over}
use Rattle.hol_kernel.specs.declared.error.Rule.TheVariants as kernel
use Rattle.hol_equal.specs.Refusals.{in_equal}
use Rattle.hol_equal.specs.Rules.{sym_of}
use Rattle.hol_equal.specs.declared.error.Rule.TheVariants as rule
use Rattle.hol_replay.specs.Replays.{trace_equation}
use Rattle.hol_just.specs.Reasons.{converted_back}
use Rattle.hol_just.proofs.Applied.{gave, made_or_short}
use Rattle.hol_derived.proofs.Instances.{over_basis}
use Rattle.hol_just.proofs.Expanding.{equation_basis, ok_after, equation_some, sym_applies, eq_mp_applies, expanded_gives}
use Rattle.hol_just.proofs.conversion_steps.converted_back.Goals as goal

pub replay-requires : goal.replay-requires
replay-requires c =
    let b = c.args.converted.now.basis in
    subst (λ (d : Items). IsSome (trace_equation d c.args.trace.now)) (sym c.basis.ensures) (equation_some b c.args.converted.now.sequent (trace_equation b c.args.trace.now) c.requires)

pub made_in_equal-turned-requires : goal.made_in_equal-turned-requires
made_in_equal-turned-requires c =
    let b = c.args.converted.now.basis in
    let is : trace_equation b c.args.trace.now ≡ Some c.in_ok-equation.equation =
    subst (λ (d : Items). trace_equation d c.args.trace.now ≡ Some c.in_ok-equation.equation) c.basis.ensures c.in_ok-equation.ensures in
    made_or_short in_equal rule.Sym _ c.sym.result
    (sym_applies b c.args.converted.now.sequent (trace_equation b c.args.trace.now) c.in_ok-equation.equation is c.requires) c.sym.ensures.sequent

pub eq_mp-requires : goal.eq_mp-requires
eq_mp-requires c =
    let equation = c.in_ok-equation.equation in
    record {
      one_basis =
          over_basis equation.basis (sym_of equation.sequent) c.in_ok-back.back (gave in_equal rule.Sym _ c.sym.result c.in_ok-back.back c.sym.ensures.sequent c.in_ok-back.ensures)
          ∙ equation_basis c.basis.result.now c.args.trace.now equation c.in_ok-equation.ensures ∙ c.basis.ensures;
    }

pub made_in_kernel-made-requires : goal.made_in_kernel-made-requires
made_in_kernel-made-requires c =
    let b = c.args.converted.now.basis in
    let equation = c.in_ok-equation.equation in
    let is : trace_equation b c.args.trace.now ≡ Some equation =
    subst (λ (d : Items). trace_equation d c.args.trace.now ≡ Some equation) c.basis.ensures c.in_ok-equation.ensures in
    let turned = gave in_equal rule.Sym _ c.sym.result c.in_ok-back.back c.sym.ensures.sequent c.in_ok-back.ensures in
    let same = over_basis equation.basis (sym_of equation.sequent) c.in_ok-back.back turned
    ∙ equation_basis c.basis.result.now c.args.trace.now equation c.in_ok-equation.ensures ∙ c.basis.ensures in
    made_or_short in_kernel kernel.EqMp _ c.eq_mp.result
    (eq_mp_applies b c.args.converted.now.sequent (trace_equation b c.args.trace.now) equation is c.requires c.in_ok-back.back turned same) c.eq_mp.ensures.sequent

pub returns : goal.returns
returns c =
    let b = c.args.converted.now.basis in
    let equation = c.in_ok-equation.equation in
    let back = c.in_ok-back.back in
    let is : trace_equation b c.args.trace.now ≡ Some equation = subst (λ (d : Items). trace_equation d c.args.trace.now ≡ Some equation) c.basis.ensures c.in_ok-equation.ensures in
    let turned = gave in_equal rule.Sym _ c.sym.result back c.sym.ensures.sequent c.in_ok-back.ensures in
    let same = over_basis equation.basis (sym_of equation.sequent) back turned
    ∙ equation_basis c.basis.result.now c.args.trace.now equation c.in_ok-equation.ensures ∙ c.basis.ensures in
    ok_after c.made_in_kernel-made.result c.eq_mp.result (λ th. over b (converted_back b c.args.trace.now c.args.converted.now.sequent) ≡ Some th)
    (λ th made.
    expanded_gives b c.args.converted.now.sequent (trace_equation b c.args.trace.now) equation is c.requires back turned th same
    (gave in_kernel kernel.EqMp (over back.basis (eq_mp_of back.sequent c.args.converted.now.sequent)) c.eq_mp.result th c.eq_mp.ensures.sequent made))
    c.made_in_kernel-made.ensures
