use Rattle.std.proofs.Common.{◌≡◌, ◌++◌, reverse, length}
use Rattle.hol_just.specs.Over.{AreOver, sequents}
use Rattle.hol_just.proofs.cursor.Cursor.finish.Given as goal

abbrev pub invariant-rest : goal.invariant-rest
invariant-rest l = record {
  all : sequents l.thms.items ++ sequents (reverse l.after.items) ≡ l.fn.self.before ++ l.fn.self.after;
  over : AreOver l.fn.self.basis l.thms.items;
  rest : AreOver l.fn.self.basis (reverse l.after.items);
}

abbrev pub decreases-rest : goal.decreases-rest
decreases-rest l = length l.after.items
