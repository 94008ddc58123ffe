use Rattle.std.proofs.Common.{[], sym, ap, ◌∙◌}
use Rattle.std.specs.Prelude.{Ok}
use Rattle.hol_terms.specs.Nameless.{nameless}
use Rattle.hol_match.specs.Contracta.{contractum}
use Rattle.hol_match.specs.SetView.{set_rules}
use Rattle.hol_conv.specs.Once.{rewritten_once}
use Rattle.hol_conv.specs.Turns.{finished}
use Rattle.hol_conv.specs.declared.ended.Ended.{Ended}
use Rattle.hol_conv.proofs.OnceParts.{told_whole}
use Rattle.hol_conv.proofs.Tracing.{ok_told}
use Rattle.hol_conv.proofs.rewriting.once.Goals as goal

-- what the topmost redexes come to, told as what rewriting once comes to
pub returns-clause-tells : goal.returns-clause-tells
returns-clause-tells c =
    let rules = set_rules c.args.rules.now.rules.items in
    let t = nameless [] c.args.term.now in
    let boxed = told_whole (λ env n. contractum env rules n) (Ok c.in_ok-ended.ended) c.args.turns t c.in_ok-ended.ensures.tells in
    let own = ap (λ (e : Ended). finished (nameless [] e.term) e.left) (sym c.into_inner.ensures) in
    ok_told c.into_inner.result c.in_ok-of.field-0 (rewritten_once rules c.args.turns t) (boxed ∙ own) c.in_ok-of.ensures.term c.in_ok-of.ensures.left
