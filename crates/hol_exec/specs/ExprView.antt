-- What the code's resolutions stand for, and when an expression is resolved to one.
use Rattle.std.specs.Prelude.{◌≡◌, List, ◌∷◌, ◌++◌, Result, Ok, Err, IfOk, IsErr, string_bytes}
use Rattle.std.specs.Global.{Vec}
use Rattle.hol_resolve.specs.ReadingView.{readings_value}
use Rattle.hol_goal.specs.Arguments.{TacArgsValue}
use Rattle.hol_goal.specs.ArgumentsView.{args_value}
use Rattle.hol_goal.specs.declared.tac_args.TacArgs.{TacArgs}
use Rattle.hol_combine.specs.ExprValue.{TheoremTacValue, ExprValue, ExprValues, exprs, then_all, or_else_all}
use Rattle.hol_combine.specs.ExprView.{theorem_tac_value, expr_of_handing}
use Rattle.hol_combine.specs.Chains.{Steps, Alternatives, chain_of, last_chain}
use Rattle.hol_combine.specs.declared.expr.TheoremTac.{TheoremTac}
use Rattle.hol_combine.specs.declared.expr.Handing.{Handing}
use Rattle.hol_exec.specs.declared.resolving.resolution.Resolution.{Resolution}
use Rattle.hol_exec.specs.declared.resolving.resolution.Resolution.TheVariants as resolution
use Rattle.hol_exec.specs.declared.resolving.unresolved.Unresolved.{Unresolved as Fault}
use Rattle.hol_exec.specs.declared.resolving.unresolved.Unresolved.TheVariants as fault
use Rattle.hol_exec.specs.Expr.{ResolutionValue, Resolved, Unresolved, RefusedValue, mapped}

abbrev pub resolution_value : Resolution → ResolutionValue
resolution_value (resolution.Resolved e basis readings) = Resolved e basis (readings_value readings)
resolution_value (resolution.Unresolved kind arg) = Unresolved kind (string_bytes arg)

-- what is refused is this, unless memory is short
abbrev pub IsRefusal : RefusedValue → Fault → Type 0
IsRefusal refused (fault.Refused kind arg) = refused ≡ (kind, string_bytes arg)
IsRefusal refused fault.Memory = Unit {0}

abbrev pub IsFault : {X : Type 0} → Result X RefusedValue → Fault → Type 0
IsFault r (fault.Refused kind arg) = r ≡ Err (kind, string_bytes arg)
IsFault r fault.Memory = Unit {0}

abbrev pub IsFound : {X : Type 0} → Result X RefusedValue → Result X Fault → Type 0
IsFound r (Ok x) = r ≡ Ok x
IsFound r (Err f) = IsFault r f

-- a refusal resolves to itself
abbrev pub IsUnresolved : {E : Type 0} → Fault → Result Resolution E → Type 0
IsUnresolved (fault.Refused kind arg) result = IfOk result (λ r. resolution_value r ≡ Unresolved kind (string_bytes arg))
IsUnresolved fault.Memory result = IsErr result

-- ---- what is found, as the code has it

abbrev pub IsTheoremTacFound : Result TheoremTacValue RefusedValue → Result TheoremTac Fault → Type 0
IsTheoremTacFound r (Ok tac) = r ≡ Ok (theorem_tac_value tac)
IsTheoremTacFound r (Err f) = IsFault r f

abbrev pub AreArgumentsFound : Result TacArgsValue RefusedValue → Result TacArgs Fault → Type 0
AreArgumentsFound r (Ok args) = r ≡ Ok (args_value args)
AreArgumentsFound r (Err f) = IsFault r f

abbrev pub ArePartsFound : Result ExprValues RefusedValue → Result (Vec ExprValue) Fault → Type 0
ArePartsFound r (Ok parts) = r ≡ Ok (exprs parts.items)
ArePartsFound r (Err f) = IsFault r f

-- the parts of a chain of THEN that were added, first and last: the chain is what they make, and is one node
pub record IsChain (r : Result ExprValue RefusedValue) (old new : List ExprValue) : Type 0 where
  pub first : ExprValue
  pub more : List ExprValue
  pub added : new ≡ old ++ first ∷ more
  pub is : r ≡ Ok (then_all first more)
  pub whole : chain_of first ≡ Steps → ⊥

abbrev pub IsChainFound : Result ExprValue RefusedValue → List ExprValue → List ExprValue → Result (Unit {0}) Fault → Type 0
IsChainFound r old new (Ok done) = IsChain r old new
IsChainFound r old new (Err f) = IsFault r f

pub record AreAlternatives (r : Result ExprValue RefusedValue) (old new : List ExprValue) : Type 0 where
  pub first : ExprValue
  pub more : List ExprValue
  pub added : new ≡ old ++ first ∷ more
  pub is : r ≡ Ok (or_else_all first more)
  pub whole : last_chain first more ≡ Alternatives → ⊥

abbrev pub AreAlternativesFound : Result ExprValue RefusedValue → List ExprValue → List ExprValue → Result (Unit {0}) Fault → Type 0
AreAlternativesFound r old new (Ok done) = AreAlternatives r old new
AreAlternativesFound r old new (Err f) = IsFault r f

-- a function is handed the theorem that a node says
abbrev pub handed : Handing → Result TheoremTacValue RefusedValue → Result ExprValue RefusedValue
handed handing r = mapped (expr_of_handing handing) r
