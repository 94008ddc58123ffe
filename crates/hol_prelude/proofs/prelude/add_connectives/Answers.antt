use Rattle.std.specs.Prelude.{take, drop, refl}
use Rattle.std.proofs.Common.{◌≡◌, ◌++◌, codes}
use Rattle.hol_formulas.specs.Prelude.{postulated}
use Rattle.hol_formulas.specs.declared.postulate.Postulate.TheVariants.{TDef, AndDef, ImpDef, ForallDef, ExistsDef, OrDef}
use Rattle.hol_clauses.specs.Statements.{stated}
use Rattle.hol_prelude.specs.Statements.{prelude_statements}
use Rattle.hol_prelude.specs.Prelude.{named_theorems}
use Rattle.hol_prelude.proofs.Names.{first, further, last}
use Rattle.hol_prelude.proofs.prelude.add_connectives.Goals as goal

pub returns : goal.returns
returns c =
    let old = c.args.theorems.now.items in
    let s1 : c.add_postulate.new.theorems.items ≡ old ++ named_theorems (take 1 (drop 0 prelude_statements)) = first old c.add_postulate.new.theorems.items (codes "T_DEF", stated (postulated TDef)) (codes "T_DEF", stated (postulated TDef)) c.in_ok-add_postulate.ensures refl in
    let s2 : c.add_postulate-2.new.theorems.items ≡ old ++ named_theorems (take 2 (drop 0 prelude_statements)) = further old c.add_postulate.new.theorems.items c.add_postulate-2.new.theorems.items (named_theorems (take 1 (drop 0 prelude_statements))) (codes "AND_DEF", stated (postulated AndDef)) (codes "AND_DEF", stated (postulated AndDef)) s1 c.in_ok-add_postulate-2.ensures refl in
    let s3 : c.add_postulate-3.new.theorems.items ≡ old ++ named_theorems (take 3 (drop 0 prelude_statements)) = further old c.add_postulate-2.new.theorems.items c.add_postulate-3.new.theorems.items (named_theorems (take 2 (drop 0 prelude_statements))) (codes "IMP_DEF", stated (postulated ImpDef)) (codes "IMP_DEF", stated (postulated ImpDef)) s2 c.in_ok-add_postulate-3.ensures refl in
    let s4 : c.add_postulate-4.new.theorems.items ≡ old ++ named_theorems (take 4 (drop 0 prelude_statements)) = further old c.add_postulate-3.new.theorems.items c.add_postulate-4.new.theorems.items (named_theorems (take 3 (drop 0 prelude_statements))) (codes "FORALL_DEF", stated (postulated ForallDef)) (codes "FORALL_DEF", stated (postulated ForallDef)) s3 c.in_ok-add_postulate-4.ensures refl in
    let s5 : c.add_postulate-5.new.theorems.items ≡ old ++ named_theorems (take 5 (drop 0 prelude_statements)) = further old c.add_postulate-4.new.theorems.items c.add_postulate-5.new.theorems.items (named_theorems (take 4 (drop 0 prelude_statements))) (codes "EXISTS_DEF", stated (postulated ExistsDef)) (codes "EXISTS_DEF", stated (postulated ExistsDef)) s4 c.in_ok-add_postulate-5.ensures refl in
    last c.add_postulate-6.result old c.add_postulate-5.new.theorems.items c.add_postulate-6.new.theorems.items (named_theorems (take 5 (drop 0 prelude_statements))) (codes "OR_DEF", stated (postulated OrDef)) (codes "OR_DEF", stated (postulated OrDef)) s5 c.add_postulate-6.ensures refl
