use Rattle.std.specs.Prelude.{take, drop}
use Rattle.hol_prelude.specs.Statements.{prelude_statements}
use Rattle.hol_prelude.specs.Prelude.{named_theorems}
use Rattle.hol_prelude.proofs.Names.{joined_last}
use Rattle.hol_prelude.proofs.prelude.add_rewrites.Goals as goal

pub returns : goal.returns
returns c =
    let first = c.add_first_rewrites.new.theorems.items in
    joined_last c.add_last_rewrites.result c.args.theorems.now.items first c.add_last_rewrites.new.theorems.items (named_theorems (take 3 (drop 15 prelude_statements))) (named_theorems (drop 18 prelude_statements)) c.in_ok-add_first_rewrites.ensures c.add_last_rewrites.ensures
