-- The shapes of a solved graph make the most general typing.
use Rattle.std.proofs.Common.{◌≡◌, ℕ, [], List, length, refl, ◌∙◌, ap, arith, Option, Some, None}
use Rattle.std.proofs.lemmas.List.Elements.{All-nil}
use Rattle.hol_types.specs.Tree.{TypeTree, TyVar}
use Rattle.hol_terms.specs.Nameless.{free, fixed, base_of}
use Rattle.hol_typing.specs.Raw.{RawTree}
use Rattle.hol_typing.specs.Typing.{HasNoTyping}
use Rattle.hol_typing.specs.Shape.{ShapeTree}
use Rattle.hol_typing.specs.SlotTree.{SlotTree, SlotBound, SlotConstant, SlotFree, SlotApply, SlotAbstraction, typed}
use Rattle.hol_typing.specs.declared.cell.Cell.TheVariants.{Unknown}
use Rattle.hol_typing.specs.declared.generate.Graph.{Graph}
use Rattle.hol_typing.specs.Graph.{Respects, EquationHolds, IsSolution}
use Rattle.hol_typing.specs.Generate.{Solves, slots, slot_of, IsFresh, Generates}
use Rattle.hol_typing.specs.Expanding.{Refines}
use Rattle.hol_typing.specs.Found.{types_at, AreGeneral}
use Rattle.hol_typing.specs.Solved.{IsGraphOf, IsSolvedBy, IsGeneralTyping}
use Rattle.hol_typing.proofs.Extending.{agree_trans, term_agree, are_slots_in_more, app_same, lam_same}

-- ---- the graph of a whole term

empty_solves : (g : Graph) (type_of : List ℕ → TypeTree) (types : ℕ → TypeTree) → g.cells.items ≡ [] → g.pending.items ≡ [] → g.names.items ≡ [] → Solves g type_of types
empty_solves g type_of types p q r = record {
  solution = record {
    respects = record { cell = λ i. rw p tt };
    equations = rw q (All-nil (EquationHolds types));
  };
  names = λ a s e. (let f : None ≡ Some s = rw r at e in absurd (cc));
}

pub whole_graph : (raw : RawTree) (expected : ℕ) (g g1 h : Graph) (term : SlotTree) →
    g.cells.items ≡ [] → g.pending.items ≡ [] → g.names.items ≡ [] → IsFresh g g1 expected Unknown → Generates g1 h [] raw expected term → IsGraphOf raw h term
whole_graph raw expected g g1 h term p q r fresh gen = record {
  well_formed = gen.well_formed;
  slots_in = gen.slots_in;
  scoped = gen.scoped;
  sound = λ type_of types s. (type_of, (types expected, (gen.sound type_of types s).1));
  complete = λ p' (type_of, (t, typing)).
      let types = λ (i : ℕ). t in
      let s1 : Solves g1 type_of types = (fresh.solves type_of types).1 (empty_solves g type_of types p q r, tt) in
      let x = gen.complete type_of types p' s1 typing in
      (type_of, x.0, x.2, x.3);
}

-- ---- solving

-- types for the free names by their slots
abbrev name_type : (ℕ → TypeTree) → Option ℕ → TypeTree
name_type types None = TyVar []
name_type types (Some s) = types s

solves_by_names : (g : Graph) (types : ℕ → TypeTree) → IsSolution g.cells.items g.pending.items types → Solves g (λ a. name_type types (slot_of g.names.items a)) types
solves_by_names g types s = record {
  solution = s;
  names = λ a k e. ap (name_type types) e;
}

pub solved_by : (g h : Graph) (shapes : List ShapeTree) → Refines g h → h.pending.items ≡ [] → AreGeneral h.cells.items shapes → IsSolvedBy g shapes
solved_by g h shapes refines solved general = record {
  more = (let m = refines.more in let n = general.len in omega (arith, m, n));
  solves = λ at.
      let s : IsSolution h.cells.items h.pending.items (types_at shapes at) =
      record { respects = general.respects at; equations = rw solved (All-nil (EquationHolds (types_at shapes at))) } in
      let type_of = λ (a : List ℕ). name_type (types_at shapes at) (slot_of h.names.items a) in
      (type_of, refines.sound type_of (types_at shapes at) (solves_by_names h (types_at shapes at) s));
  instances = λ type_of types s.
      let x = refines.complete type_of types s in
      let y = general.instances x.0 x.2.solution.respects in
      (y.0, agree_trans (slots g) (slots h) types x.0 y.0 refines.more x.1 y.1, y.2);
  rigid = general.rigid;
  limit = general.limit;
  small = general.small;
  below = general.below;
}

-- types that meet the graph and the equations meet what is settled, with types for the slots more
pub unsettled : (g h : Graph) → Refines g h → ((types : ℕ → TypeTree) → IsSolution h.cells.items h.pending.items types → ⊥) → (types : ℕ → TypeTree) → IsSolution g.cells.items g.pending.items types → ⊥
unsettled g h refines none types s =
    let x = refines.complete (λ (a : List ℕ). name_type types (slot_of g.names.items a)) types (solves_by_names g types s) in
    none x.0 x.2.solution

pub unsolved : (g h : Graph) → Refines g h → ((types : ℕ → TypeTree) → Respects h.cells.items types → ⊥) → (types : ℕ → TypeTree) → IsSolution g.cells.items g.pending.items types → ⊥
unsolved g h refines none = unsettled g h refines (λ types s. none types s.respects)

-- ---- typings

pub typed_same : (types types' : ℕ → TypeTree) (term : SlotTree) → ((i : ℕ) → types i ≡ types' i) → typed types term ≡ typed types' term
typed_same types types' (SlotBound i) h = refl
typed_same types types' (SlotConstant c s) h = ap (fixed c) (h s)
typed_same types types' (SlotFree x s) h = ap (λ (t : TypeTree). free (x, t)) (h s)
typed_same types types' (SlotApply f a) h = app_same (typed types f) (typed types' f) (typed types a) (typed types' a) (typed_same types types' f h) (typed_same types types' a h)
typed_same types types' (SlotAbstraction x s b) h = lam_same (base_of x) (types s) (types' s) (typed types b) (typed types' b) (h s) (typed_same types types' b h)

pub general_of : (raw : RawTree) (g : Graph) (term : SlotTree) (shapes : List ShapeTree) → IsGraphOf raw g term → IsSolvedBy g shapes → IsGeneralTyping raw shapes term
general_of raw g term shapes of solved = record {
  slots_in = are_slots_in_more (slots g) (length shapes) term solved.more of.slots_in;
  scoped = of.scoped;
  typing = λ at. (let x = solved.solves at in of.sound x.0 (types_at shapes at) x.1);
  instances = λ p t.
      let x = of.complete p t in
      let y = solved.instances x.0 x.1 x.2 in
      (y.0, x.3 ∙ term_agree (slots g) x.1 y.0 term y.1 of.slots_in ∙ typed_same y.0 (types_at shapes y.0) term y.2);
  rigid = solved.rigid;
  limit = solved.limit;
  small = solved.small;
  below = solved.below;
}

pub untypable_of : (raw : RawTree) (g : Graph) (term : SlotTree) → IsGraphOf raw g term → ((types : ℕ → TypeTree) → IsSolution g.cells.items g.pending.items types → ⊥) → HasNoTyping raw
untypable_of raw g term of none = record { none = λ p t. (let x = of.complete p t in none x.1 x.2.solution) }
