-- What the code keeps of theorems over one basis. Only its clauses speak of it.
use Rattle.std.specs.Prelude.{◌≡◌, List, [], ◌∷◌, ◌++◌, map, Option, Some, None, refl}
use Rattle.std.specs.List.{AllByRecursion}
use Rattle.std.specs.Coded.{Coded, code_by, coded×, coded_list}
use Rattle.hol_kernel.specs.Items.{Items, items_code}
use Rattle.hol_kernel.specs.Sequent.{Sequent, sequent_code}
use Rattle.hol_kernel.specs.Theorem.{Theorem}
use Rattle.hol_just.specs.Inference.{Inference, inferred}

abbrev pub sequents : List Theorem → List Sequent
sequents thms = map (λ th. th.sequent) thms

-- each theorem is over the basis
abbrev pub AreOver : Items → List Theorem → Type 0
AreOver basis thms = AllByRecursion (λ th. th.basis ≡ basis) thms

-- a list of sequents over a basis, cut in two
pub record CutValue : Type 0 where
  pub basis : Items
  pub before : List Sequent
  pub after : List Sequent

abbrev pub cut_code : Coded CutValue
cut_code =
    code_by (Items × (List Sequent × List Sequent)) (coded× items_code (coded× (coded_list sequent_code) (coded_list sequent_code)))
    (λ c. (c.basis, (c.before, c.after)))
    (λ p. record { basis = p.0; before = p.1.0; after = p.1.1 })
    (λ _. refl)

-- the same list, cut in two elsewhere
pub record IsSameCut (old new : CutValue) : Type 0 where
  pub basis : new.basis ≡ old.basis
  pub all : new.before ++ new.after ≡ old.before ++ old.after

-- the theorem after the cut was taken, or there is none
pub record IsFirst (old new : CutValue) (th : Theorem) : Type 0 where
  pub basis : new.basis ≡ old.basis
  pub before : new.before ≡ old.before
  pub after : old.after ≡ th.sequent ∷ new.after
  pub over : th.basis ≡ old.basis

abbrev pub IsTaken : CutValue → CutValue → Option Theorem → Type 0
IsTaken old new None = old.after ≡ []
IsTaken old new (Some th) = IsFirst old new th

-- the rule was applied after the cut
pub record Infers (rule : Inference) (old new : CutValue) : Type 0 where
  pub basis : new.basis ≡ old.basis
  pub before : new.before ≡ old.before
  pub after : inferred rule old.after ≡ Some new.after
