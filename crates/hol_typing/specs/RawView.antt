-- What the terms of the program stand for.
use Rattle.std.specs.Prelude.{ℕ, List, [], ◌∷◌}
use Rattle.hol_typing.specs.Raw.{RawTree, RawBound, RawConstant, RawFree, RawApply, RawAbstraction, RawAnnotated}
use Rattle.hol_typing.specs.SlotTree.{SlotTree, SlotBound, SlotConstant, SlotFree, SlotApply, SlotAbstraction}
use Rattle.hol_typing.specs.declared.raw.RawTerm as raw
use Rattle.hol_typing.specs.declared.skeleton.Skeleton as skeleton
use Rattle.hol_typing.specs.declared.skeleton.Scope as scope

abbrev pub raw_tree : raw.RawTerm → RawTree
raw_tree (raw.Bound i) = RawBound i
raw_tree (raw.Constant c ty) = RawConstant c ty
raw_tree (raw.Free x) = RawFree x
raw_tree (raw.Apply' p f q a) = RawApply (raw_tree f) (raw_tree a)
raw_tree (raw.Abstraction' x annotation p body) = RawAbstraction x annotation (raw_tree body)
raw_tree (raw.Annotated' p e ty) = RawAnnotated (raw_tree e) ty

abbrev pub slot_tree : skeleton.Skeleton → SlotTree
slot_tree (skeleton.Bound i) = SlotBound i
slot_tree (skeleton.Constant c s) = SlotConstant c s
slot_tree (skeleton.Free x s) = SlotFree x s
slot_tree (skeleton.Apply' p f q a) = SlotApply (slot_tree f) (slot_tree a)
slot_tree (skeleton.Abstraction' x s p b) = SlotAbstraction x s (slot_tree b)

-- the slots of the enclosing abstractions' variables, the innermost first
abbrev pub scope_slots : scope.Scope → List ℕ
scope_slots scope.Outermost = []
scope_slots (scope.Inside' s p outer) = s ∷ scope_slots outer
