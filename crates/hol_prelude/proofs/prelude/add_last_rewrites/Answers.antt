use Rattle.std.specs.Prelude.{take, drop}
use Rattle.std.proofs.Common.{◌≡◌, ◌++◌, codes}
use Rattle.hol_clauses.specs.Statements.{stated, and_clauses, or_clauses, imp_clauses}
use Rattle.hol_prelude.specs.Statements.{prelude_statements}
use Rattle.hol_prelude.specs.Prelude.{named_theorems}
use Rattle.hol_prelude.proofs.Names.{first, further, last}
use Rattle.hol_prelude.proofs.prelude.add_last_rewrites.Goals as goal

pub returns : goal.returns
returns c =
    let old = c.args.theorems.now.items in
    let s1 : c.add.new.theorems.items ≡ old ++ named_theorems (take 1 (drop 18 prelude_statements)) = first old c.add.new.theorems.items (codes "AND_CLAUSES", c.in_ok-and_clauses.field-0) (codes "AND_CLAUSES", stated and_clauses) c.in_ok-add.ensures (λ i. (codes "AND_CLAUSES", c.in_ok-and_clauses.ensures i)) in
    let s2 : c.add-2.new.theorems.items ≡ old ++ named_theorems (take 2 (drop 18 prelude_statements)) = further old c.add.new.theorems.items c.add-2.new.theorems.items (named_theorems (take 1 (drop 18 prelude_statements))) (codes "OR_CLAUSES", c.in_ok-or_clauses.field-0) (codes "OR_CLAUSES", stated or_clauses) s1 c.in_ok-add-2.ensures (λ i. (codes "OR_CLAUSES", c.in_ok-or_clauses.ensures i)) in
    last c.add-3.result old c.add-2.new.theorems.items c.add-3.new.theorems.items (named_theorems (take 2 (drop 18 prelude_statements))) (codes "IMP_CLAUSES", c.in_ok-imp_clauses.field-0) (codes "IMP_CLAUSES", stated imp_clauses) s2 c.add-3.ensures (λ i. (codes "IMP_CLAUSES", c.in_ok-imp_clauses.ensures i))
