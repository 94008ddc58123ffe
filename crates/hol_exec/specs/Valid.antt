-- What the program keeps of a state, of reads and of an outcome beside their values, and when a proof can take a step. Public clauses speak of the first alone (`State::promise`).
-- Source of validity: LNCS 78: from theorems that achieve the goals left, a theorem is had that achieves the goal.
use Rattle.std.specs.Prelude.{◌≡◌, ℕ, List, [], ◌∷◌, true, Option, Some, None}
use Rattle.std.specs.declared.cmp.Ordering.{Ordering}
use Rattle.std.specs.declared.cmp.Ordering.TheVariants.{Less, Equal, Greater}
use Rattle.std.specs.FinSet as set
use Rattle.std.specs.List.{IsDistinct}
use Rattle.std.specs.Map.{keys_of}
use Rattle.hol_types.specs.Order.{name_cmp}
use Rattle.hol_terms.specs.Nameless.{Nameless, nameless}
use Rattle.hol_kernel.specs.Items.{Items, IsSubset}
use Rattle.hol_kernel.specs.Extends.{Agree}
use Rattle.hol_kernel.specs.Legal.{IsNew}
use Rattle.hol_kernel.specs.Signature.{type_key, constant_key}
use Rattle.hol_notation_commands.specs.Text.{TypeDefinitionText, NewBasicTypeDefinition}
use Rattle.hol_kernel.specs.Sequent.{no_hyps}
use Rattle.hol_kernel.specs.Typing.{HasType}
use Rattle.hol_formulas.specs.Equation.{bool_type}
use Rattle.hol_goal.specs.Goal.{GoalValue}
use Rattle.hol_combine.specs.Suits.{suits_expr}
use Rattle.hol_just.specs.Valid.{IsValid}
use Rattle.hol_just.specs.declared.reason.Move.{Move}
use Rattle.hol_stack.specs.Calls.{IsStep}
use Rattle.hol_stack.specs.StackValue.{StepValue}
use Rattle.hol_exec.specs.declared.resolving.resolution.Resolution.{Resolution}
use Rattle.hol_exec.specs.declared.resolving.resolution.Resolution.TheVariants as resolution
use Rattle.hol_exec.specs.declared.running.outcome.Change.{Change}
use Rattle.hol_exec.specs.declared.running.outcome.Change.TheVariants.{Opens, Leaves, Undoes, Rotates, Makes, Refuses}
use Rattle.hol_exec.specs.Keys.{made_by_making}
use Rattle.hol_theory.specs.Key.{key_eq, theorem_key}
use Rattle.hol_theory.specs.Entry.{Entries, EachIsEntry, entry_at}
use Rattle.hol_theory.specs.Theory.{items_in, IsTheory}
use Rattle.hol_exec.specs.ReadsValue.{Values}
use Rattle.hol_exec.specs.StateValue.{ProofValue}

-- under the name of the open proof no theorem stands
abbrev pub IsFreeFor : Entries → Option ProofValue → Type 0
IsFreeFor entries None = Unit {0}
IsFreeFor entries (Some p) = entry_at (theorem_key p.name) entries ≡ None

-- a well typed term of type bool
abbrev pub IsStatement : Items → Nameless → Type 0
IsStatement basis t = HasType basis t bool_type

-- an expression that is resolved can be run: the basis suits what its calls are given
abbrev pub IsRunnableIf : Resolution → Type 0
IsRunnableIf (resolution.Resolved e basis readings) = suits_expr e basis ≡ true
IsRunnableIf (resolution.Unresolved kind arg) = Unit {0}

-- the values are what stands under their keys
abbrev pub StandIn : Entries → Values → Type 0
StandIn entries [] = Unit {0}
StandIn entries ((key, value) ∷ more) = (value ≡ entry_at key entries) × StandIn entries more

-- What is cited, and what stands under the keys that are made, is so in some theory.
pub record AreOfTheory (cited made : Values) : Type 0 where
  pub entries : Entries
  pub theory : IsTheory entries
  pub cited_stand : StandIn entries cited
  pub made_stand : StandIn entries made

-- the values, where there are some, are those of their keys' entries
abbrev pub AreEntries : Entries → Values → Type 0
AreEntries entries [] = Unit {0}
AreEntries entries ((key, None) ∷ more) = AreEntries entries more
AreEntries entries ((key, Some value) ∷ more) = (entry_at key entries ≡ Some value) × AreEntries entries more

-- They are entries of some theory, whatever else stands there.
pub record AreInTheory (values : Values) : Type 0 where
  pub entries : Entries
  pub theory : IsTheory entries
  pub stand : AreEntries entries values

-- the elements of a proof's history rest on the items
abbrev pub IsHistoryWithin : Items → StepValue → List StepValue → Type 0
IsHistoryWithin items newest [] = IsSubset newest.basis items
IsHistoryWithin items newest (step ∷ earlier) = IsSubset newest.basis items × IsHistoryWithin items step earlier

-- the open proof rests on what stands
abbrev pub IsProofWithin : Entries → Option ProofValue → Type 0
IsProofWithin entries None = Unit {0}
IsProofWithin entries (Some p) = IsHistoryWithin (items_in entries) p.newest p.earlier

-- the moves are valid from the goal to those that are left, over each basis that contains what was resolved
abbrev pub IsLeft : Items → List Move → GoalValue → List GoalValue → Type 0
IsLeft basis moves goal left = IsValid (set.is_subset basis) no_hyps moves (goal ∷ []) left

-- An opened statement is well typed; goals that are left are so by the justification that is kept beside them; what is made are entries, no two of which have one key.
abbrev pub IsValidChange : Change → Type 0
IsValidChange (Opens name statement basis) = IsStatement basis (nameless [] statement)
IsValidChange (Leaves goal step basis) = IsLeft basis step.moves goal step.goals
IsValidChange Undoes = Unit {0}
IsValidChange (Rotates times) = Unit {0}
IsValidChange (Makes entries) = EachIsEntry entries × IsDistinct key_eq (keys_of entries)
IsValidChange (Refuses kind arg) = Unit {0}

-- The proof can take the step: its basis agrees with what was resolved, and the moves are valid from its first goal.
pub record CanStep (basis : Items) (moves : List Move) (left : List GoalValue) (p : ProofValue) : Type 0 where
  pub joins : Agree p.newest.basis basis
  pub step : IsStep (set.union p.newest.basis basis) moves left p.newest.goals

-- The names of a type definition are new, and no two of its keys are one.
pub record AreNewNames (basis : Items) (d : TypeDefinitionText) : Type 0 where
  pub type : IsNew basis (type_key d.ty)
  pub abs : IsNew basis (constant_key d.abs)
  pub rep : IsNew basis (constant_key d.rep)
  pub distinct : IsDistinct key_eq (made_by_making (NewBasicTypeDefinition d))

-- the name, or the other one, if there is one and it comes first by bytes
abbrev pub earlier_by : Ordering → List ℕ → List ℕ → List ℕ
earlier_by Less a b = a
earlier_by Equal a b = b
earlier_by Greater a b = b

abbrev pub earlier : Option (List ℕ) → List ℕ → List ℕ
earlier None a = a
earlier (Some b) a = earlier_by (name_cmp a b) a b
