use Rattle.std.proofs.Common.{[], sym, subst}
use Rattle.std.specs.Prelude.{IsSome, OnOk}
use Rattle.hol_terms.specs.Nameless.{nameless}
use Rattle.hol_kernel.specs.Items.{Items}
use Rattle.hol_just.specs.Inference.{from_one, inferred}
use Rattle.hol_just.specs.Over.{Infers}
use Rattle.hol_just.specs.Reasons.{replaced}
use Rattle.hol_just.proofs.Applied.{is_first, where_ok, first_over, first_applies, first_infers}
use Rattle.hol_just.proofs.equal_steps.replacement.Goals as goal

pub replacement_with-requires-clause-over : goal.replacement_with-requires-clause-over
replacement_with-requires-clause-over c = first_over (replaced c.args.thms.now.basis c.args.v.now (nameless [] c.args.m.now)) c.args.thms.now c.take.new.self c.in-Some.equation (is_first c.args.thms.now c.take.new.self c.take.result c.in-Some.equation c.take.ensures c.in-Some.is)

pub replacement_with-requires-clause-gives : goal.replacement_with-requires-clause-gives
replacement_with-requires-clause-gives c =
    let first = (is_first c.args.thms.now c.take.new.self c.take.result c.in-Some.equation c.take.ensures c.in-Some.is) in
    subst (λ (b : Items). IsSome (inferred (from_one (replaced b c.args.v.now (nameless [] c.args.m.now) c.in-Some.equation.sequent)) c.take.new.self.after)) (sym first.basis)
    (first_applies (replaced c.args.thms.now.basis c.args.v.now (nameless [] c.args.m.now)) c.args.thms.now c.take.new.self c.in-Some.equation first c.requires)

pub returns : goal.returns
returns c =
    let first = (is_first c.args.thms.now c.take.new.self c.take.result c.in-Some.equation c.take.ensures c.in-Some.is) in
    where_ok c.replacement_with.result (first_infers (replaced c.args.thms.now.basis c.args.v.now (nameless [] c.args.m.now)) c.args.thms.now c.take.new.self c.in-Some.equation first c.replacement_with.new.thms)
    (subst (λ (b : Items). OnOk c.replacement_with.result (Infers (from_one (replaced b c.args.v.now (nameless [] c.args.m.now) c.in-Some.equation.sequent)) c.take.new.self c.replacement_with.new.thms)) first.basis
    c.replacement_with.ensures)
