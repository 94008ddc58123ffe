use Rattle.std.proofs.Common.{[], subst, sym}
use Rattle.hol_typing.specs.declared.skeleton.Skeleton.{Skeleton}
use Rattle.hol_typing.specs.Generate.{Generates}
use Rattle.hol_typing.specs.RawView.{raw_tree, slot_tree}
use Rattle.hol_typing.proofs.General.{whole_graph}
use Rattle.hol_typing.proofs.principal.equations.Goals as goal

pub returns : goal.returns
returns c = whole_graph (raw_tree c.args.term.now) c.in_ok-expected.expected c.new-graph.result c.fresh.new.self c.generate.new.self (slot_tree c.into_inner.result)
    c.new-graph.ensures.cells c.new-graph.ensures.pending c.new-graph.ensures.names c.in_ok-expected.ensures (subst (λ (made : Skeleton). Generates c.fresh.new.self c.generate.new.self [] (raw_tree c.args.term.now) c.in_ok-expected.expected (slot_tree made)) (sym c.into_inner.ensures) c.in_ok-skeleton.ensures)
