-- Terms with slots in place of types. Only contracts of hol_typing, hol_infer's private ones and proofs cite this.
use Rattle.std.specs.Prelude.{ℕ, ◌+◌, ◌<◌, List}
use Rattle.hol_types.specs.Tree.{TypeTree}
use Rattle.hol_terms.specs.Nameless.{Nameless, free, bound, fixed, app, lam, base_of}

pub data SlotTree : Type 0 where
  SlotBound : ℕ → SlotTree
  SlotConstant : List ℕ → ℕ → SlotTree
  SlotFree : List ℕ → ℕ → SlotTree
  SlotApply : SlotTree → SlotTree → SlotTree
  SlotAbstraction : List ℕ → ℕ → SlotTree → SlotTree

-- the nameless term, where the slots have these types
abbrev pub typed : (ℕ → TypeTree) → SlotTree → Nameless
typed types (SlotBound i) = bound i
typed types (SlotConstant c s) = fixed c (types s)
typed types (SlotFree x s) = free (x, types s)
typed types (SlotApply f a) = app (typed types f) (typed types a)
typed types (SlotAbstraction x s b) = lam (base_of x) (types s) (typed types b)

-- the slots stand among n slots
abbrev pub AreSlotsIn : ℕ → SlotTree → Type 0
AreSlotsIn n (SlotBound i) = Unit {0}
AreSlotsIn n (SlotConstant c s) = s < n
AreSlotsIn n (SlotFree x s) = s < n
AreSlotsIn n (SlotApply f a) = AreSlotsIn n f × AreSlotsIn n a
AreSlotsIn n (SlotAbstraction x s b) = (s < n) × AreSlotsIn n b

-- the number of nodes, types left out
abbrev pub slot_nodes : SlotTree → ℕ
slot_nodes (SlotBound i) = 1
slot_nodes (SlotConstant c s) = 1
slot_nodes (SlotFree x s) = 1
slot_nodes (SlotApply f a) = 1 + slot_nodes f + slot_nodes a
slot_nodes (SlotAbstraction x s b) = 1 + slot_nodes b
