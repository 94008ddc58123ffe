use Rattle.std.proofs.Common.{[], ◌≡◌, ◌∙◌, sym, subst, Some}
use Rattle.std.specs.Prelude.{IsSome, Result, IfOk}
use Rattle.hol_terms.specs.Nameless.{nameless}
use Rattle.hol_kernel.specs.Gives.{in_kernel}
use Rattle.hol_kernel.specs.Given.{given_over}
use Rattle.hol_kernel.specs.Items.{Items}
use Rattle.hol_kernel.specs.Theorem.{Theorem}
use Rattle.hol_kernel.specs.declared.error.KernelError.{KernelError}
use Rattle.hol_kernel.specs.declared.error.Rule.TheVariants as rule
use Rattle.hol_just.specs.Matching.{bound_variables}
use Rattle.hol_just.proofs.Applied.{gave, made_or_short, where_ok}
use Rattle.hol_just.proofs.MatchApplied.{premise_there, specialized_applies, like_applies, thm_over, matching_infers}
use Rattle.hol_just.proofs.matching_steps.matching.Goals as goal

pub made_in_kernel-requires : goal.made_in_kernel-requires
made_in_kernel-requires c =
    let given = c.args.given.now in
    made_or_short in_kernel rule.Assume (given_over c.basis.result.now given) c.over.result
    (subst (λ (b : Items). IsSome (given_over b given)) (sym c.basis.ensures) (premise_there c.args.thms.now given (bound_variables c.args.formula.now) (nameless [] c.args.t.now) c.requires.gives)) c.over.ensures.sequent

pub specialized-requires : goal.specialized-requires
specialized-requires c =
    let given = c.args.given.now in
    let whole = c.in_ok-whole.whole in
    let made = subst (λ (b : Items). given_over b given ≡ Some whole) c.basis.ensures (gave in_kernel rule.Assume (given_over c.basis.result.now given) c.over.result whole c.over.ensures.sequent c.in_ok-whole.ensures) in
    let over_it : whole.basis ≡ c.args.thms.now.basis =
    subst (λ (r : Result Theorem KernelError). IfOk r (λ th. th.basis ≡ c.basis.result.now)) c.in_ok-whole.ensures c.over.ensures.basis ∙ c.basis.ensures in
    specialized_applies c.args.thms.now given (bound_variables c.args.formula.now) (nameless [] c.args.t.now) c.requires.gives whole made over_it

pub instance_like-made-requires : goal.instance_like-made-requires
instance_like-made-requires c =
    let given = c.args.given.now in
    let whole = c.in_ok-whole.whole in
    let made = subst (λ (b : Items). given_over b given ≡ Some whole) c.basis.ensures (gave in_kernel rule.Assume (given_over c.basis.result.now given) c.over.result whole c.over.ensures.sequent c.in_ok-whole.ensures) in
    let over_it : whole.basis ≡ c.args.thms.now.basis =
    subst (λ (r : Result Theorem KernelError). IfOk r (λ th. th.basis ≡ c.basis.result.now)) c.in_ok-whole.ensures c.over.ensures.basis ∙ c.basis.ensures in
    like_applies c.args.thms.now given (bound_variables c.args.formula.now) (nameless [] c.args.t.now) c.requires.gives whole made over_it c.in_ok-body.body c.in_ok-body.ensures

pub put-requires : goal.put-requires
put-requires c =
    let given = c.args.given.now in
    let whole = c.in_ok-whole.whole in
    let made = subst (λ (b : Items). given_over b given ≡ Some whole) c.basis.ensures (gave in_kernel rule.Assume (given_over c.basis.result.now given) c.over.result whole c.over.ensures.sequent c.in_ok-whole.ensures) in
    let over_it : whole.basis ≡ c.args.thms.now.basis =
    subst (λ (r : Result Theorem KernelError). IfOk r (λ th. th.basis ≡ c.basis.result.now)) c.in_ok-whole.ensures c.over.ensures.basis ∙ c.basis.ensures in
    thm_over c.args.thms.now given (bound_variables c.args.formula.now) (nameless [] c.args.t.now) c.requires.gives whole made over_it c.in_ok-body.body c.in_ok-body.ensures c.in_ok-thm.thm c.in_ok-thm.ensures

pub returns : goal.returns
returns c =
    let given = c.args.given.now in
    let whole = c.in_ok-whole.whole in
    let made = subst (λ (b : Items). given_over b given ≡ Some whole) c.basis.ensures (gave in_kernel rule.Assume (given_over c.basis.result.now given) c.over.result whole c.over.ensures.sequent c.in_ok-whole.ensures) in
    let over_it : whole.basis ≡ c.args.thms.now.basis =
    subst (λ (r : Result Theorem KernelError). IfOk r (λ th. th.basis ≡ c.basis.result.now)) c.in_ok-whole.ensures c.over.ensures.basis ∙ c.basis.ensures in
    where_ok c.put.result
    (matching_infers c.args.thms.now given (bound_variables c.args.formula.now) (nameless [] c.args.t.now) c.requires.gives whole made over_it c.in_ok-body.body c.in_ok-body.ensures c.in_ok-thm.thm c.in_ok-thm.ensures c.put.new.self)
    c.put.ensures
