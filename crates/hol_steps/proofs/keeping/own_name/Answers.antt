use Rattle.std.proofs.Common.{[], List, ap, ◌∙◌}
use Rattle.std.specs.Prelude.{ℕ}
use Rattle.std.specs.List.{list_any}
use Rattle.std.proofs.lemmas.Result.{IfOk-weaker}
use Rattle.hol_types.specs.Tree.{TypeTree}
use Rattle.hol_terms.specs.Nameless.{nameless, free_occurrences}
use Rattle.hol_terms.specs.Scoped.{binds}
use Rattle.hol_steps.proofs.KeptVariables.{own_is_kept, own_is_new}
use Rattle.hol_steps.proofs.keeping.own_name.Goals as goal

pub returns-then-not-is_free_in_one : goal.returns-then-not-is_free_in_one
returns-then-not-is_free_in_one c =
    let test = c.if-not-is_free_in_one.ensures ∙ ap (λ (u : List ℕ × TypeTree). list_any (λ p. binds (free_occurrences (nameless [] p)) u) c.args.terms.now) c.in_ok-v.ensures in
    c.in_ok-v.ensures ∙ own_is_kept c.args.terms.now (c.args.name.now, c.args.ty.now) test

pub returns : goal.returns
returns c =
    let test = c.if-not-is_free_in_one.ensures ∙ ap (λ (u : List ℕ × TypeTree). list_any (λ p. binds (free_occurrences (nameless [] p)) u) c.args.terms.now) c.in_ok-v.ensures in
    IfOk-weaker c.new-2.result _ _ (λ v made. made ∙ own_is_new c.args.terms.now (c.args.name.now, c.args.ty.now) c.in_ok-other.other test c.in_ok-other.ensures) c.new-2.ensures
