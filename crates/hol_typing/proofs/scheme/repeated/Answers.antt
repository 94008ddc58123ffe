use Rattle.std.proofs.Common.{◌≡◌, List, ℕ, ◌+◌, take, sym, subst, rules}
use Rattle.hol_typing.specs.Linear.{AreDistinct, AreDistinctBut}
use Rattle.hol_typing.proofs.Linear.{repeated_distinct, repeated_others, none_seen, seen_step, but_all}
use Rattle.hol_typing.proofs.scheme.repeated.Goals as goal

pub loop-name-preserved : goal.loop-name-preserved
loop-name-preserved c =
    let names = c.args.names.now in
    let i = c.loop-name.name-index in
    let same : c.as_str.result.now ≡ c.name-item.result = search rules in
    record {
      distinct = subst AreDistinct (sym c.in_ok-add_seen.ensures) (repeated_distinct c.in_ok-is_new.is_new c.loop-name.twice.items c.name-item.result c.loop-name.invariant.distinct);
      others = subst (λ (twice : List (List ℕ)). AreDistinctBut twice (take (i + 1) names)) (sym c.in_ok-add_seen.ensures)
          (repeated_others c.in_ok-is_new.is_new c.loop-name.twice.items names i c.name-item.result c.loop-name-test.true c.name-item.is
          (none_seen names i c.name-item.result c.as_str.result.now c.loop-name.seen c.in_ok-is_new.is_new same c.loop-name.invariant.seen c.in_ok-is_new.ensures.added) c.loop-name.invariant.others);
      seen = seen_step names i c.name-item.result c.as_str.result.now c.loop-name.seen c.insert.new.self c.loop-name-test.true c.name-item.is same c.loop-name.invariant.seen c.in_ok-is_new.ensures.updates.0;
    }

pub returns-clause-others : goal.returns-clause-others
returns-clause-others c = but_all c.loop-name.twice.items c.args.names.now c.loop-name.name-index c.loop-name-test.false c.loop-name.invariant.others
