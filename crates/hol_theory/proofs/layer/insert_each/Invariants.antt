use Rattle.std.proofs.Common.{◌≡◌, ◌≤◌, length}
use Rattle.std.specs.Vec.Iter.{into_iter_items}
use Rattle.indexmap.specs.IndexMap.{insert_all, IsUnique, spare}
use Rattle.hol_theory.specs.Key.{key_eq}
use Rattle.hol_theory.proofs.layer.insert_each.Given as goal

abbrev pub invariant-loop-key : goal.invariant-loop-key
invariant-loop-key l = record {
  entries : insert_all key_eq l.fn.entries.entries l.fn.more.items ≡ insert_all key_eq l.entries.entries (into_iter_items l.key-iterator);
  room : length (into_iter_items l.key-iterator) ≤ spare l.entries;
  unique : IsUnique key_eq l.entries;
}
