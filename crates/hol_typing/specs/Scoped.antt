-- Terms whose indexes and free names are what identifiers resolve to: an index goes to the innermost abstraction over a variable of
-- the identifier's name, and no abstraction around a free name has a variable of that name.
use Rattle.std.specs.Prelude.{◌≡◌, ◌≢◌, ℕ, zero, suc, List, [], ◌∷◌, false, Option, Some, None}
use Rattle.hol_types.specs.Tree.{TypeTree, TypeList, TyVar, TyApp, no_types, more_types}
use Rattle.hol_types.specs.Names.{is_among}
use Rattle.hol_typing.specs.Typing.{IsOpen}
use Rattle.hol_typing.specs.Raw.{RawTree, RawBound, RawConstant, RawFree, RawApply, RawAbstraction, RawAnnotated}
use Rattle.hol_typing.specs.SlotTree.{SlotTree, SlotBound, SlotConstant, SlotFree, SlotApply, SlotAbstraction}

-- a is the i-th name, and none before it
abbrev pub IsFirstAt : List (List ℕ) → ℕ → List ℕ → Type 0
IsFirstAt [] i a = ⊥
IsFirstAt (b ∷ names) zero a = b ≡ a
IsFirstAt (b ∷ names) (suc i) a = (b ≢ a) × IsFirstAt names i a

-- of a term under abstractions over variables of these names, the innermost first
abbrev pub IsScoped : List (List ℕ) → RawTree → Type 0
IsScoped names (RawBound i) = (a : List ℕ) × IsFirstAt names i a
IsScoped names (RawConstant c generic) = Unit {0}
IsScoped names (RawFree x) = is_among names x ≡ false
IsScoped names (RawApply f a) = IsScoped names f × IsScoped names a
IsScoped names (RawAbstraction x annotation body) = IsScoped (x ∷ names) body
IsScoped names (RawAnnotated e a) = IsScoped names e

abbrev pub IsSlotScoped : List (List ℕ) → SlotTree → Type 0
IsSlotScoped names (SlotBound i) = (a : List ℕ) × IsFirstAt names i a
IsSlotScoped names (SlotConstant c s) = Unit {0}
IsSlotScoped names (SlotFree x s) = is_among names x ≡ false
IsSlotScoped names (SlotApply f a) = IsSlotScoped names f × IsSlotScoped names a
IsSlotScoped names (SlotAbstraction x s b) = IsSlotScoped (x ∷ names) b

-- no type variable of the type, or of the annotations of the term, has the name of one that is left open
abbrev mutual
  pub HasNoOpenName : TypeTree → Type 0
  HasNoOpenName (TyVar a) = IsOpen a → ⊥
  HasNoOpenName (TyApp c ts) = HaveNoOpenName ts

  pub HaveNoOpenName : TypeList → Type 0
  HaveNoOpenName no_types = Unit {0}
  HaveNoOpenName (more_types t ts) = HasNoOpenName t × HaveNoOpenName ts

abbrev pub IsRigid : Option TypeTree → Type 0
IsRigid None = Unit {0}
IsRigid (Some a) = HasNoOpenName a

abbrev pub HasRigidAnnotations : RawTree → Type 0
HasRigidAnnotations (RawBound i) = Unit {0}
HasRigidAnnotations (RawConstant c generic) = Unit {0}
HasRigidAnnotations (RawFree x) = Unit {0}
HasRigidAnnotations (RawApply f a) = HasRigidAnnotations f × HasRigidAnnotations a
HasRigidAnnotations (RawAbstraction x annotation body) = IsRigid annotation × HasRigidAnnotations body
HasRigidAnnotations (RawAnnotated e a) = HasNoOpenName a × HasRigidAnnotations e
