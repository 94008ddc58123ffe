use Rattle.std.proofs.Common.{[], ◌≡◌, ap, sym, ◌∙◌}
use Rattle.std.specs.Prelude.{◌||◌}
use Rattle.std.proofs.lemmas.Result.{IfOk-weaker}
use Rattle.hol_terms.specs.Nameless.{nameless, free_occurrences}
use Rattle.hol_terms.specs.Scoped.{binds}
use Rattle.hol_just.specs.MatchMp.{universals, generalized_concl, opened}
use Rattle.hol_just.specs.QuantifierTacs.{terms_by}
use Rattle.hol_steps.proofs.OwnVariables.{opened_is_apart, if_ok_three}
use Rattle.hol_steps.proofs.generalizing.opened_apart.Goals as goal

pub returns-clause-opened : goal.returns-clause-opened
returns-clause-opened c =
    let terms = terms_by c.args.th.now c.args.goal.now in
    let whole : nameless [] c.in_ok-whole.whole ≡ generalized_concl c.args.th.now = c.in_ok-whole.ensures.is ∙ (λ i. universals (c.requires i) (c.concl.ensures.concl i)) in
    IfOk-weaker c.of.result _ _ (λ o h. ap (opened terms) (sym whole) ∙ h terms c.in_ok-all_terms_by.ensures) c.of.ensures.opened

pub returns-clause-new : goal.returns-clause-new
returns-clause-new c = IfOk-weaker c.of.result _ _ (λ o h v e. sym (c.in_ok-all_terms_by.ensures v.0) ∙ h v e) c.of.ensures.apart

pub returns-clause-apart : goal.returns-clause-apart
returns-clause-apart c =
    let whole : nameless [] c.in_ok-whole.whole ≡ generalized_concl c.args.th.now = c.in_ok-whole.ensures.is ∙ (λ i. universals (c.requires i) (c.concl.ensures.concl i)) in
    if_ok_three c.of.result _ _ _ _
    (λ o new differ within.
    opened_is_apart c.args.th.now c.args.goal.now o.variables.items (nameless [] o.body) (λ v e. sym (c.in_ok-all_terms_by.ensures v.0) ∙ new v e) differ
    (λ v e. ap (λ n. binds o.variables.items v || binds (free_occurrences n) v) (sym whole) ∙ within v e))
    c.of.ensures.apart c.of.ensures.different c.of.ensures.free
