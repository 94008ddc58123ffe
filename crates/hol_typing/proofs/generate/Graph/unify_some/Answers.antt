use Rattle.std.proofs.Common.{◌≡◌, List, refl, sym, ◌∙◌, ap, subst, length, arith}
use Rattle.std.specs.Vec.{with_items}
use Rattle.std.proofs.lemmas.List.{with_items_is}
use Rattle.hol_typing.specs.declared.cell.Cell.{Cell}
use Rattle.hol_typing.specs.Graph.{IsGraph, AreIn, SameSolutions}
use Rattle.hol_typing.proofs.Opening.{refines_same}
use Rattle.hol_typing.proofs.generate.Graph.unify_some.Goals as goal

pub returns-in-Ok-clause-refines : goal.returns-in-Ok-clause-refines
returns-in-Ok-clause-refines c =
    let len : length c.unify.new.cells ≡ length c.args.self.now.cells.items = c.unify.ensures.len ∙ ap length c.deref_mut.ensures.value in
    let ok = c.args.self.now.cells.ok.0 in
    let is : (with_items c.args.self.now.cells c.unify.new.cells).items ≡ c.unify.new.cells = with_items_is c.args.self.now.cells c.unify.new.cells (omega (arith, len, ok)) in
    refines_same c.args.self.now (record { cells = with_items c.args.self.now.cells c.unify.new.cells; pending = c.unify.new.pending; names = c.args.self.now.names }) c.requires
    (subst (λ (xs : List Cell). IsGraph xs) (sym is) c.unify.ensures.graph)
    (subst (λ (xs : List Cell). AreIn xs c.unify.new.pending.items) (sym is) c.in-Ok.ensures.pending_in)
    (ap length is ∙ len) refl
    (subst (λ (xs : List Cell). SameSolutions xs c.unify.new.pending.items c.args.self.now.cells.items c.args.self.now.pending.items) (sym is)
    (subst (λ (ys : List Cell). SameSolutions c.unify.new.cells c.unify.new.pending.items ys c.args.self.now.pending.items) c.deref_mut.ensures.value c.in-Ok.ensures.solutions))
