use Rattle.std.proofs.Common.{◌≡◌, ◌<◌, length, ◌∙◌, sym, subst, rules}
use Rattle.std.specs.FinSet as set
use Rattle.std.proofs.lemmas.Result.{IfOk-weaker}
use Rattle.hol_kernel.specs.Items.{Items}
use Rattle.hol_kernel.specs.Extends.{Agree}
use Rattle.hol_resolve.specs.ReadingView.{list_value}
use Rattle.hol_exec.specs.Resolved.{resolved_basis}
use Rattle.hol_exec.proofs.CitedBases.{halves_joined, halves_agree, front_in_theory, back_in_theory, of_one, half_smaller, rest_smaller}
use Rattle.hol_exec.proofs.resolving.basis.+basis_of.Goals as goal

pub basis_of-requires : goal.basis_of-requires
basis_of-requires n c =
    let smaller : length c.split_at.result.0.now < length c.args.cited.now = half_smaller (length c.args.cited.now) (length c.split_at.result.0.now) c.in_default.len_at_least c.split_at.ensures.front_len in (
      search rules,
      front_in_theory c.args.cited.now c.split_at.result.0.now c.split_at.result.1.now c.split_at.ensures.by_index.0 c.requires,
    )

pub basis_of-requires-in_default : goal.basis_of-requires-in_default
basis_of-requires-in_default n c =
    let smaller : length c.split_at.result.1.now < length c.args.cited.now = rest_smaller (length c.args.cited.now) (length c.split_at.result.1.now) c.in_default.len_at_least c.split_at.ensures.back_len in (
      search rules,
      back_in_theory c.args.cited.now c.split_at.result.0.now c.split_at.result.1.now c.split_at.ensures.by_index.0 c.requires,
    )

pub joined-requires : goal.joined-requires
joined-requires n c =
    let readings = list_value c.args.readings.now in
    subst (λ (second : Items). Agree c.in_ok-first-in_default.first second) (sym c.in_ok-second-in_default.ensures)
    (subst (λ (first : Items). Agree first (resolved_basis c.split_at.result.1.now readings)) (sym c.in_ok-first-in_default.ensures)
    (halves_agree c.args.cited.now c.split_at.result.0.now c.split_at.result.1.now readings c.split_at.ensures.by_index.0 c.requires))

pub returns-in-len1 : goal.returns-in-len1
returns-in-len1 n c =
    IfOk-weaker c.basis_at.result _ _
    (λ basis e. e ∙ sym (of_one (list_value c.args.readings.now) c.args.cited.now c.value-item.result c.in-len1.len_at_least c.in-len1.len_below c.value-item.is))
    c.basis_at.ensures

pub returns-in_ok-second-in_default : goal.returns-in_ok-second-in_default
returns-in_ok-second-in_default n c =
    IfOk-weaker c.joined.result _ _
    (λ basis e. e ∙ (λ i. set.union (c.in_ok-first-in_default.ensures i) (c.in_ok-second-in_default.ensures i))
    ∙ sym (halves_joined (list_value c.args.readings.now) c.args.cited.now c.split_at.result.0.now c.split_at.result.1.now c.split_at.ensures.by_index.0))
    c.joined.ensures
