use Rattle.std.proofs.Common.{◌≡◌, ℕ, List, take}
use Rattle.std.specs.Ordering.{nat_cmp}
use Rattle.std.specs.Cmp.Lexicographic.{slice_cmp}
use Rattle.std.specs.BTreeSet.{contains_by}
use Rattle.hol_types.specs.Names.{is_among}
use Rattle.hol_typing.specs.Linear.{AreDistinct, AreDistinctBut}
use Rattle.hol_typing.proofs.scheme.repeated.Given as goal

abbrev pub invariant-loop-name : goal.invariant-loop-name
invariant-loop-name l = record {
  distinct : AreDistinct l.twice.items;
  others : AreDistinctBut l.twice.items (take l.name-index l.names);
  seen : (q : List ℕ) → contains_by (λ k. slice_cmp nat_cmp q k.now) l.seen ≡ is_among (take l.name-index l.names) q;
}
