use Rattle.std.specs.Prelude.{take, drop}
use Rattle.std.proofs.Common.{◌≡◌, ◌++◌}
use Rattle.hol_prelude.specs.Statements.{prelude_statements}
use Rattle.hol_prelude.specs.Prelude.{named_theorems}
use Rattle.hol_prelude.proofs.Names.{joined, joined_last}
use Rattle.hol_prelude.proofs.prelude.add_given.Goals as goal

pub returns : goal.returns
returns c =
    let old = c.args.theorems.now.items in
    let connectives = c.add_connectives.new.theorems.items in
    let axioms = c.add_axioms.new.theorems.items in
    let both : axioms ≡ old ++ named_theorems (take 11 prelude_statements) = joined old connectives axioms (named_theorems (take 6 prelude_statements)) (named_theorems (take 5 (drop 6 prelude_statements))) c.in_ok-add_connectives.ensures c.in_ok-add_axioms.ensures in
    joined_last c.add_functions.result old axioms c.add_functions.new.theorems.items (named_theorems (take 11 prelude_statements)) (named_theorems (take 4 (drop 11 prelude_statements))) both c.add_functions.ensures
