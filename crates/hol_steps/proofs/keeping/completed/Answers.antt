use Rattle.std.proofs.Common.{◌++◌, [], List, map, ap, ◌∙◌, subst}
use Rattle.std.specs.Prelude.{ℕ}
use Rattle.std.specs.List.{filter, zip}
use Rattle.std.specs.FinSet as set
use Rattle.std.proofs.lemmas.Result.{IfOk-weaker}
use Rattle.hol_types.specs.Tree.{TypeTree}
use Rattle.hol_terms.specs.Nameless.{Nameless, free, nameless}
use Rattle.hol_kernel.specs.Given.{given_sequent}
use Rattle.hol_match.specs.Instance.{instance_of}
use Rattle.hol_just.specs.MatchMp.{is_undetermined, left_open}
use Rattle.hol_steps.specs.Fresh.{HaveSame}
use Rattle.hol_steps.proofs.KeptVariables.{kept_same_terms}
use Rattle.hol_steps.proofs.keeping.completed.Goals as goal

pub returns : goal.returns
returns c =
    let s = nameless [] c.args.s.now in
    let t = nameless [] c.args.t.now in
    let f = c.args.found in
    let hs = set.items (given_sequent c.args.th.now).hyps in
    let us = left_open c.args.own.now c.args.apart.now (s, t) f in
    let pairs = filter (λ p. is_undetermined s t p.1) (zip c.args.own.now c.args.apart.now) in
    let same : HaveSame (map (nameless []) c.in_ok-avoid.avoid.items) (map (λ v. free v) us ++ hs) =
    subst (λ (vs : List (List ℕ × TypeTree)). HaveSame (map (nameless []) c.in_ok-avoid.avoid.items) (map (λ v. free v) vs ++ hs)) c.requires c.in_ok-avoid.ensures in
    IfOk-weaker c.kept.result _ _
    (λ new made. made
    ∙ ap (λ (more : List (Nameless × (List ℕ × TypeTree))). instance_of f.types (f.terms ++ more))
    (kept_same_terms f.types (map (nameless []) c.in_ok-avoid.avoid.items) (map (λ v. free v) us ++ hs) pairs same))
    c.kept.ensures
