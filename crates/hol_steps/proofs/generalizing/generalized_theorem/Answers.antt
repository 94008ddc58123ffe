use Rattle.std.proofs.Common.{◌≡◌, ◌++◌, ◌∷◌, [], ap, sym, ◌∙◌, rules}
use Rattle.std.specs.FinSet as set
use Rattle.std.proofs.lemmas.List.{nil_from_length}
use Rattle.hol_subst.specs.Variant.{is_free_in}
use Rattle.hol_kernel.specs.Sequent.{Hyps, sequent_of}
use Rattle.hol_kernel.specs.Theorem.{Theorem, theorem_on}
use Rattle.hol_kernel.specs.Typing.{is_type}
use Rattle.hol_just.specs.MatchMp.{universals}
use Rattle.hol_steps.proofs.OwnVariables.{universal_next, general_last}
use Rattle.hol_steps.proofs.generalizing.generalized_theorem.Goals as goal

pub for_each-next-requires-clause-stands : goal.for_each-next-requires-clause-stands
for_each-next-requires-clause-stands c =
    let inv = c.variables.invariant in
    let is : c.variables.left.now ≡ c.in-Some.outer.now ++ c.in-Some.v.now ∷ [] = search rules in
    let last = general_last c.args.th.now.basis c.args.th.now.sequent.hyps c.variables.left.now c.in-Some.outer.now c.in-Some.v.now is inv.general in
    ap (λ b. is_type b c.in-Some.v.now.1) inv.basis ∙ last.0.0.0

pub for_each-next-requires-clause-absent : goal.for_each-next-requires-clause-absent
for_each-next-requires-clause-absent c =
    let inv = c.variables.invariant in
    let is : c.variables.left.now ≡ c.in-Some.outer.now ++ c.in-Some.v.now ∷ [] = search rules in
    let last = general_last c.args.th.now.basis c.args.th.now.sequent.hyps c.variables.left.now c.in-Some.outer.now c.in-Some.v.now is inv.general in
    ap (λ (hs : Hyps). is_free_in (set.items hs) c.in-Some.v.now) inv.hyps ∙ last.0.0.1

pub variables-preserved : goal.variables-preserved
variables-preserved c =
    let inv = c.variables.invariant in
    let is : c.variables.left.now ≡ c.in-Some.outer.now ++ c.in-Some.v.now ∷ [] = search rules in
    let made = c.in_ok-whole-2.ensures in
    let new = c.in_ok-whole-2.whole in
    let last = general_last c.args.th.now.basis c.args.th.now.sequent.hyps c.variables.left.now c.in-Some.outer.now c.in-Some.v.now is inv.general in
    record {
      basis = ap (λ (z : Theorem). z.basis) made ∙ inv.basis;
      hyps = ap (λ (z : Theorem). z.sequent.hyps) made ∙ inv.hyps;
      concl =
          universal_next c.variables.left.now c.in-Some.outer.now c.args.variables.now c.in-Some.v.now c.variables.whole.sequent.concl new.sequent.concl c.args.th.now.sequent.concl is
          (ap (λ (z : Theorem). z.sequent.concl) made) inv.concl;
      general = last.1;
    }

pub returns : goal.returns
returns c =
    let inv = c.variables.invariant in
    let none = nil_from_length c.variables.left.now c.in_default.ensures.cases in
    let concl = sym (ap (λ vs. universals vs c.variables.whole.sequent.concl) none) ∙ inv.concl in
    λ i. theorem_on (inv.basis i) (sequent_of (inv.hyps i) (concl i))
