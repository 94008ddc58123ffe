use Rattle.std.proofs.Common.{◌≡◌, ◌∙◌}
use Rattle.std.specs.BTreeMap.{get}
use Rattle.hol_match.specs.HeadView.{side_cmp}
use Rattle.hol_match.proofs.Ground.{placed_within}
use Rattle.hol_match.proofs.rule_set.RuleSet.settled_place.Goals as goal

-- a place that is kept is that of a rule
pub returns-clause-within : goal.returns-clause-within
returns-clause-within c =
    let S = c.args.self.now in
    let found : c.copied.result ≡ get side_cmp S.settled c.in_ok-side.side = c.copied.ensures ∙ c.get.ensures.value in
    placed_within S.rules.items S.settled c.in_ok-side.side c.copied.result S.places found
