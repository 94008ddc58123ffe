use Rattle.std.proofs.Common.{rules, ◌≡◌, ◌+◌, ◌-◌, ◌<◌, length, arith}
use Rattle.hol_match.proofs.Ground.{next_place}
use Rattle.hol_match.proofs.settled.settled_rules.Goals as goal

-- the rule before those whose places are kept
pub rules-preserved : goal.rules-preserved
rules-preserved c =
    let R = c.args.rules.now in
    let i = c.rules.left - 1 in
    let before : c.rules.left ≡ i + 1 = omega arith in
    let within : i < length R = omega (arith, c.rules.invariant.within) in
    record {
      within = omega (arith, within);
      places = next_place R c.rules.left i c.index-rules-left.result c.rules.places c.put_rule.new.places before within c.index-rules-left.is c.in_ok-put_rule.ensures c.rules.invariant.places;
    }
