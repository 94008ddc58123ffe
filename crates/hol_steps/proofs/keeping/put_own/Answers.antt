use Rattle.std.proofs.Common.{◌≡◌, ◌++◌, ◌∷◌, [], List, map, ap, sym, ◌∙◌, rules}
use Rattle.std.specs.Prelude.{ℕ}
use Rattle.std.proofs.lemmas.Result.{on_ok_weaker}
use Rattle.hol_types.specs.Tree.{TypeTree}
use Rattle.hol_terms.specs.Nameless.{nameless, free}
use Rattle.hol_match.specs.Instance.{instance_of}
use Rattle.hol_just.specs.MatchMp.{own_name}
use Rattle.hol_steps.proofs.KeptVariables.{own_name_type}
use Rattle.hol_steps.proofs.keeping.put_own.Goals as goal

pub put_term-requires : goal.put_term-requires
put_term-requires c =
    let apart : c.in_ok-apart.apart ≡ (c.args.u.now.0, c.args.ty.now) = search rules in
    let own : c.in_ok-own.own ≡ own_name (map (nameless []) c.args.avoid.now.items) (c.args.v.now.0, c.args.ty.now) = search rules in
    ap (λ (u : List ℕ × TypeTree). u.1) own ∙ own_name_type (map (nameless []) c.args.avoid.now.items) (c.args.v.now.0, c.args.ty.now) ∙ sym (ap (λ (u : List ℕ × TypeTree). u.1) apart)

pub returns-clause-avoid : goal.returns-clause-avoid
returns-clause-avoid c =
    let own : c.in_ok-own.own ≡ own_name (map (nameless []) c.args.avoid.now.items) (c.args.v.now.0, c.args.ty.now) = search rules in
    on_ok_weaker c.put_term.result (λ is. is ∙ (λ i. map (nameless []) c.args.avoid.now.items ++ free (own i) ∷ [])) c.put_term.ensures.avoid

pub returns-clause-whole : goal.returns-clause-whole
returns-clause-whole c =
    let old = c.args.whole.now in
    let apart : c.in_ok-apart.apart ≡ (c.args.u.now.0, c.args.ty.now) = search rules in
    let own : c.in_ok-own.own ≡ own_name (map (nameless []) c.args.avoid.now.items) (c.args.v.now.0, c.args.ty.now) = search rules in
    on_ok_weaker c.put_term.result (λ is. is ∙ (λ i. instance_of old.types (old.terms ++ (free (own i), apart i) ∷ []))) c.put_term.ensures.whole
