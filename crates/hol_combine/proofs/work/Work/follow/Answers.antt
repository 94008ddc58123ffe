use Rattle.std.proofs.Common.{◌≡◌, length, rules, sym}
use Rattle.hol_combine.specs.Work.{work_value}
use Rattle.hol_combine.proofs.Moves.{first_moves}
use Rattle.hol_combine.proofs.work.Work.follow.Goals as goal

pub returns-then-is_empty-2 : goal.returns-then-is_empty-2
returns-then-is_empty-2 c =
    let done : length c.args.self.now.done.items ≡ 0 = search rules in
    let old : length c.args.self.now.just ≡ 0 = search rules in
    λ i. record (work_value c.args.self.now) { moves = sym (first_moves (length c.args.self.now.done.items) c.args.self.now.just c.args.just done old) i }
