-- What rule sets and tactics take in place of a theorem, as they have no basis over which a term could be assumed: a theorem, or a term p of type
-- bool, read as {p} |- p (fusion.ml, ASSUME).
use Rattle.std.specs.Prelude.{◌≡◌, ◌⊎◌, [], cond, Option, Some, None, refl}
use Rattle.std.proofs.Common.{inl, inr}
use Rattle.std.specs.Coded.{Coded, code_by, coded⊎}
use Rattle.hol_terms.specs.Named.{named_type}
use Rattle.hol_terms.specs.Nameless.{Nameless, nameless, nameless_type}
use Rattle.hol_terms.specs.Code.{coded_nameless}
use Rattle.hol_kernel.specs.Items.{Items, IsSubset}
use Rattle.hol_formulas.specs.Equation.{bool_type}
use Rattle.hol_kernel.specs.Typing.{is_type_at}
use Rattle.hol_kernel.specs.Sequent.{Sequent, sequent_of, only_hyp}
use Rattle.hol_kernel.specs.Theorem.{Theorem, theorem_on, over, theorem_code}
use Rattle.hol_kernel.specs.Rules.{assume_of}
use Rattle.hol_kernel.specs.declared.given.GivenNode.{GivenNode}
use Rattle.hol_kernel.specs.declared.given.GivenNode.TheVariants as node

pub data Given : Type 0 where
  proved : Theorem → Given
  assumed : Nameless → Given

abbrev pub given_to : Given → Theorem ⊎ Nameless
given_to (proved th) = inl th
given_to (assumed p) = inr p

abbrev pub given_from : Theorem ⊎ Nameless → Given
given_from (inl th) = proved th
given_from (inr p) = assumed p

abbrev pub given_back : (g : Given) → given_from (given_to g) ≡ g
given_back (proved th) = refl
given_back (assumed p) = refl

abbrev pub given_code : Coded Given
given_code = code_by (Theorem ⊎ Nameless) (coded⊎ theorem_code coded_nameless) given_to given_from given_back

-- what a node of the program stands for, and what it keeps
abbrev pub given_of : GivenNode → Given
given_of (node.Theorem th) = proved th
given_of (node.Assumed p) = assumed (nameless [] p)

abbrev pub IsAssumable : GivenNode → Type 0
IsAssumable (node.Theorem th) = Unit {0}
IsAssumable (node.Assumed p) = named_type p ≡ Some bool_type

-- a term of type bool, to be assumed
abbrev pub assumption_of : Nameless → Option Given
assumption_of p = cond (is_type_at (nameless_type [] p) bool_type) (Some (assumed p)) None

-- the sequent that it is read as
abbrev pub given_sequent : Given → Sequent
given_sequent (proved th) = th.sequent
given_sequent (assumed p) = sequent_of (only_hyp p) p

-- the basis contains the theorem's
abbrev pub IsOver : Given → Items → Type 0
IsOver (proved th) basis = IsSubset th.basis basis
IsOver (assumed p) basis = Unit {0}

-- the theorem over a basis: the same sequent, or the term's assumption where this is well typed over the basis
abbrev pub given_over : Items → Given → Option Theorem
given_over basis (proved th) = Some (theorem_on basis th.sequent)
given_over basis (assumed p) = over basis (assume_of basis p)
