use Rattle.std.proofs.Common.{[], refl, ap, sym, ◌∙◌}
use Rattle.hol_terms.specs.Nameless.{nameless}
use Rattle.hol_kernel.specs.Sequent.{no_hyps}
use Rattle.hol_kernel.specs.Item.{declared_axiom}
use Rattle.hol_kernel.specs.Items.{Holds}
use Rattle.hol_kernel.specs.Theorem.{theorem_over}
use Rattle.hol_kernel.specs.Clashing.{axiom_in}
use Rattle.hol_kernel.proofs.Held.{axiom_found, no_axiom, axiom_derived}
use Rattle.hol_kernel.proofs.thm.Thm.axiom_of.Goals as goal

pub returns-in_default : goal.returns-in_default
returns-in_default c =
    (refl, λ th d. no_axiom c.args.basis.now c.args.name.now th (ap (axiom_in c.args.name.now) (sym c.items.ensures.items) ∙ c.in_default.ensures) d)

pub unconditional-requires : goal.unconditional-requires
unconditional-requires c =
    let there : Holds c.args.basis.now (declared_axiom c.args.name.now (nameless [] c.in-Some.p.now)) =
    axiom_found c.args.basis.now c.args.name.now (nameless [] c.in-Some.p.now) (ap (axiom_in c.args.name.now) (sym c.items.ensures.items) ∙ c.in-Some.ensures) in
    axiom_derived c.args.basis.now c.args.name.now c.args.basis.now no_hyps c.in-Some.p.now c.in_ok-concl.concl c.items.ensures.legal refl
    refl c.in_ok-concl.ensures there

pub returns : goal.returns
returns c =
    let there : Holds c.args.basis.now (declared_axiom c.args.name.now (nameless [] c.in-Some.p.now)) =
    axiom_found c.args.basis.now c.args.name.now (nameless [] c.in-Some.p.now) (ap (axiom_in c.args.name.now) (sym c.items.ensures.items) ∙ c.in-Some.ensures) in
    (nameless [] c.in-Some.p.now, there, c.in_ok-unconditional.ensures ∙ (λ i. theorem_over c.args.basis.now no_hyps (nameless [] (c.in_ok-concl.ensures i))))
