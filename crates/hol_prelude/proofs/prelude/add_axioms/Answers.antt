use Rattle.std.specs.Prelude.{take, drop, refl}
use Rattle.std.proofs.Common.{◌≡◌, ◌++◌, codes}
use Rattle.hol_formulas.specs.Prelude.{postulated}
use Rattle.hol_formulas.specs.declared.postulate.Postulate.TheVariants.{FDef, NotDef, ExistsUniqueDef, EtaAx, SelectAx}
use Rattle.hol_clauses.specs.Statements.{stated}
use Rattle.hol_prelude.specs.Statements.{prelude_statements}
use Rattle.hol_prelude.specs.Prelude.{named_theorems}
use Rattle.hol_prelude.proofs.Names.{first, further, last}
use Rattle.hol_prelude.proofs.prelude.add_axioms.Goals as goal

pub returns : goal.returns
returns c =
    let old = c.args.theorems.now.items in
    let s1 : c.add_postulate.new.theorems.items ≡ old ++ named_theorems (take 1 (drop 6 prelude_statements)) = first old c.add_postulate.new.theorems.items (codes "F_DEF", stated (postulated FDef)) (codes "F_DEF", stated (postulated FDef)) c.in_ok-add_postulate.ensures refl in
    let s2 : c.add_postulate-2.new.theorems.items ≡ old ++ named_theorems (take 2 (drop 6 prelude_statements)) = further old c.add_postulate.new.theorems.items c.add_postulate-2.new.theorems.items (named_theorems (take 1 (drop 6 prelude_statements))) (codes "NOT_DEF", stated (postulated NotDef)) (codes "NOT_DEF", stated (postulated NotDef)) s1 c.in_ok-add_postulate-2.ensures refl in
    let s3 : c.add_postulate-3.new.theorems.items ≡ old ++ named_theorems (take 3 (drop 6 prelude_statements)) = further old c.add_postulate-2.new.theorems.items c.add_postulate-3.new.theorems.items (named_theorems (take 2 (drop 6 prelude_statements))) (codes "EXISTS_UNIQUE_DEF", stated (postulated ExistsUniqueDef)) (codes "EXISTS_UNIQUE_DEF", stated (postulated ExistsUniqueDef)) s2 c.in_ok-add_postulate-3.ensures refl in
    let s4 : c.add_postulate-4.new.theorems.items ≡ old ++ named_theorems (take 4 (drop 6 prelude_statements)) = further old c.add_postulate-3.new.theorems.items c.add_postulate-4.new.theorems.items (named_theorems (take 3 (drop 6 prelude_statements))) (codes "ETA_AX", stated (postulated EtaAx)) (codes "ETA_AX", stated (postulated EtaAx)) s3 c.in_ok-add_postulate-4.ensures refl in
    last c.add_postulate-5.result old c.add_postulate-4.new.theorems.items c.add_postulate-5.new.theorems.items (named_theorems (take 4 (drop 6 prelude_statements))) (codes "SELECT_AX", stated (postulated SelectAx)) (codes "SELECT_AX", stated (postulated SelectAx)) s4 c.add_postulate-5.ensures refl
