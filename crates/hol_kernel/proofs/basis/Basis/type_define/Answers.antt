use Rattle.std.proofs.Common.{◌≡◌, [], refl, ap, sym, ◌∙◌, subst}
use Rattle.hol_types.specs.Tree.{TypeTree}
use Rattle.hol_types.specs.Fun.{fun_type}
use Rattle.hol_terms.specs.Nameless.{nameless}
use Rattle.std.specs.FinSet as set
use Rattle.hol_kernel.specs.Item.{Item}
use Rattle.hol_kernel.specs.Items.{Items, IsSubset}
use Rattle.hol_kernel.specs.Sequent.{no_hyps}
use Rattle.hol_formulas.specs.Equation.{bool_type}
use Rattle.hol_kernel.specs.Signature.{term_tyvars, new_type}
use Rattle.hol_kernel.specs.Bijections.{abs_rep, rep_abs}
use Rattle.hol_kernel.specs.Legal.{HasNewKeys, IsSound}
use Rattle.hol_kernel.specs.Theorem.{theorem_over}
use Rattle.hol_kernel.proofs.TypeDefinitions.{names_new, names_taken, type_sound, predicate_typed, type_defined, type_held, typed_in_more}
use Rattle.hol_kernel.proofs.basis.Basis.type_define.Goals as goal

pub returns-then-not-are_new-clause-made : goal.returns-then-not-are_new-clause-made
returns-then-not-are_new-clause-made c =
    (refl, λ t d. names_taken c.args.self.now c.args.name.now c.args.abs.now c.args.rep.now c.args.th.now t.basis t.abs_rep t.rep_abs d (sym c.are_new.ensures ∙ c.if-not-are_new.true))

pub extended-requires-clause-new : goal.extended-requires-clause-new
extended-requires-clause-new c =
    subst (λ (x : Item). HasNewKeys c.args.self.now x) (sym c.in_ok-item.ensures)
    (names_new c.args.self.now c.args.name.now c.args.abs.now c.args.rep.now (nameless [] c.in-Some.predicate.term.now) (sym c.are_new.ensures ∙ c.if-not-are_new.false))

pub extended-requires-clause-sound : goal.extended-requires-clause-sound
extended-requires-clause-sound c =
    subst (λ (x : Item). IsSound c.args.self.now x) (sym c.in_ok-item.ensures)
    (type_sound c.args.self.now c.args.name.now c.args.abs.now c.args.rep.now c.args.th.now c.requires.within c.promise.ensures.derives c.in-Some.predicate.term.now c.in-Some.ensures.found.0 c.in-Some.predicate.domain.now
    c.in-Some.ensures.found.1 c.in-Some.ensures.typed (sym c.are_new.ensures ∙ c.if-not-are_new.false) (sym c.in_ok-closed.ensures ∙ c.if-not-closed.false))

pub type_definition-requires-clause-holds : goal.type_definition-requires-clause-holds
type_definition-requires-clause-holds c =
    type_held c.args.self.now c.in_ok-basis.basis c.args.name.now c.args.abs.now c.args.rep.now (nameless [] c.in-Some.predicate.term.now) (c.in_ok-basis.ensures.is ∙ ap (set.insert c.args.self.now) c.in_ok-item.ensures)

pub type_definition-requires-clause-known : goal.type_definition-requires-clause-known
type_definition-requires-clause-known c =
    typed_in_more c.args.self.now c.in_ok-basis.basis c.args.name.now c.args.abs.now c.args.rep.now (nameless [] c.in-Some.predicate.term.now) (c.in_ok-basis.ensures.is ∙ ap (set.insert c.args.self.now) c.in_ok-item.ensures)
    (fun_type c.in-Some.predicate.domain.now bool_type)
    (predicate_typed c.args.self.now c.args.name.now c.args.abs.now c.args.rep.now c.args.th.now c.requires.within c.promise.ensures.derives c.in-Some.predicate.term.now c.in-Some.ensures.found.0 c.in-Some.predicate.domain.now
    c.in-Some.ensures.found.1 c.in-Some.ensures.typed)

pub returns-clause-made : goal.returns-clause-made
returns-clause-made c =
    let same : c.in_ok-type_definition.field-0.basis ≡ c.in_ok-basis.basis = c.in_ok-type_definition.ensures.basis in
    let new : TypeTree = new_type c.args.name.now (term_tyvars (nameless [] c.in-Some.predicate.term.now)) in
    type_defined c.args.self.now c.args.name.now c.args.abs.now c.args.rep.now c.args.th.now c.requires.within c.promise.ensures.derives c.in-Some.predicate.term.now c.in-Some.ensures.found.0 c.in-Some.predicate.domain.now
    c.in-Some.ensures.found.1 c.in-Some.ensures.typed c.in_ok-type_definition.field-0.basis c.in_ok-type_definition.field-0.abs_rep c.in_ok-type_definition.field-0.rep_abs (sym c.are_new.ensures ∙ c.if-not-are_new.false) (sym c.in_ok-closed.ensures ∙ c.if-not-closed.false)
    (same ∙ c.in_ok-basis.ensures.is ∙ ap (set.insert c.args.self.now) c.in_ok-item.ensures)
    (c.in_ok-type_definition.ensures.first ∙ ap (λ (s : Items). theorem_over s no_hyps (abs_rep c.args.abs.now c.args.rep.now c.in-Some.predicate.domain.now new)) (sym same))
    (c.in_ok-type_definition.ensures.second ∙ ap (λ (s : Items). theorem_over s no_hyps (rep_abs c.args.abs.now c.args.rep.now (nameless [] c.in-Some.predicate.term.now) c.in-Some.predicate.domain.now new)) (sym same))

pub returns-clause-larger : goal.returns-clause-larger
returns-clause-larger c = subst (λ (s : Items). IsSubset c.args.self.now s) (sym c.in_ok-type_definition.ensures.basis) c.in_ok-basis.ensures.larger
