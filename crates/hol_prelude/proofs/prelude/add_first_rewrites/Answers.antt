use Rattle.std.specs.Prelude.{take, drop}
use Rattle.std.proofs.Common.{◌≡◌, ◌++◌, codes}
use Rattle.hol_clauses.specs.Statements.{stated, refl_clause, eq_clauses, not_clauses_weak}
use Rattle.hol_prelude.specs.Statements.{prelude_statements}
use Rattle.hol_prelude.specs.Prelude.{named_theorems}
use Rattle.hol_prelude.proofs.Names.{first, further, last}
use Rattle.hol_prelude.proofs.prelude.add_first_rewrites.Goals as goal

pub returns : goal.returns
returns c =
    let old = c.args.theorems.now.items in
    let s1 : c.add.new.theorems.items ≡ old ++ named_theorems (take 1 (drop 15 prelude_statements)) = first old c.add.new.theorems.items (codes "REFL_CLAUSE", c.in_ok-refl_clause.field-0) (codes "REFL_CLAUSE", stated refl_clause) c.in_ok-add.ensures (λ i. (codes "REFL_CLAUSE", c.in_ok-refl_clause.ensures i)) in
    let s2 : c.add-2.new.theorems.items ≡ old ++ named_theorems (take 2 (drop 15 prelude_statements)) = further old c.add.new.theorems.items c.add-2.new.theorems.items (named_theorems (take 1 (drop 15 prelude_statements))) (codes "EQ_CLAUSES", c.in_ok-eq_clauses.field-0) (codes "EQ_CLAUSES", stated eq_clauses) s1 c.in_ok-add-2.ensures (λ i. (codes "EQ_CLAUSES", c.in_ok-eq_clauses.ensures i)) in
    last c.add-3.result old c.add-2.new.theorems.items c.add-3.new.theorems.items (named_theorems (take 2 (drop 15 prelude_statements))) (codes "NOT_CLAUSES_WEAK", c.in_ok-not_clauses_weak.field-0) (codes "NOT_CLAUSES_WEAK", stated not_clauses_weak) s2 c.add-3.ensures (λ i. (codes "NOT_CLAUSES_WEAK", c.in_ok-not_clauses_weak.ensures i))
