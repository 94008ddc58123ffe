use Rattle.std.specs.Prelude.{take, drop, refl}
use Rattle.std.proofs.Common.{◌≡◌, ◌++◌, ◌∙◌, ap, codes}
use Rattle.hol_formulas.specs.Prelude.{postulated}
use Rattle.hol_formulas.specs.Making.{mk_truth}
use Rattle.hol_formulas.specs.declared.postulate.Postulate.TheVariants.{InfinityAx}
use Rattle.hol_formulas.specs.Formula.{truth}
use Rattle.hol_kernel.specs.Sequent.{no_hyps}
use Rattle.hol_kernel.specs.Theorem.{theorem_over}
use Rattle.hol_clauses.specs.Statements.{stated, one_one, onto}
use Rattle.hol_prelude.specs.Statements.{prelude_statements}
use Rattle.hol_prelude.specs.Prelude.{named_theorems}
use Rattle.hol_prelude.proofs.Names.{first, further, last}
use Rattle.hol_prelude.proofs.prelude.add_functions.Goals as goal

pub returns : goal.returns
returns c =
    let old = c.args.theorems.now.items in
    let s1 : c.add.new.theorems.items ≡ old ++ named_theorems (take 1 (drop 11 prelude_statements)) = first old c.add.new.theorems.items (codes "ONE_ONE", c.in_ok-one_one.field-0) (codes "ONE_ONE", stated one_one) c.in_ok-add.ensures (λ i. (codes "ONE_ONE", c.in_ok-one_one.ensures i)) in
    let s2 : c.add-2.new.theorems.items ≡ old ++ named_theorems (take 2 (drop 11 prelude_statements)) = further old c.add.new.theorems.items c.add-2.new.theorems.items (named_theorems (take 1 (drop 11 prelude_statements))) (codes "ONTO", c.in_ok-onto.field-0) (codes "ONTO", stated onto) s1 c.in_ok-add-2.ensures (λ i. (codes "ONTO", c.in_ok-onto.ensures i)) in
    let s3 : c.add_postulate.new.theorems.items ≡ old ++ named_theorems (take 3 (drop 11 prelude_statements)) = further old c.add-2.new.theorems.items c.add_postulate.new.theorems.items (named_theorems (take 2 (drop 11 prelude_statements))) (codes "INFINITY_AX", stated (postulated InfinityAx)) (codes "INFINITY_AX", stated (postulated InfinityAx)) s2 c.in_ok-add_postulate.ensures refl in
    last c.add-3.result old c.add_postulate.new.theorems.items c.add-3.new.theorems.items (named_theorems (take 3 (drop 11 prelude_statements))) (codes "TRUTH", c.in_ok-truth.field-0) (codes "TRUTH", stated mk_truth) s3 c.add-3.ensures (λ i. (codes "TRUTH", (c.in_ok-truth.ensures ∙ ap (λ b. theorem_over b no_hyps truth) c.in_ok-none.ensures) i))
