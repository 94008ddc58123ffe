-- How the logic stores proofs, states, reads and outcomes.
use Rattle.std.specs.Prelude.{◌≡◌, ◌⊎◌, ◌==◌, ℕ, List, Option, Bool, if◌then◌else◌, refl}
use Rattle.std.proofs.Common.{inl, inr}
use Rattle.std.specs.Coded.{Coded, code_by, coded×, coded⊎, coded_ℕ, coded_bool, coded_list, coded_option}
use base.Stored.{coded_unit}
use Rattle.hol_types.specs.Code.{coded_name}
use Rattle.hol_terms.specs.Nameless.{Nameless}
use Rattle.hol_terms.specs.Code.{coded_nameless}
use Rattle.hol_kernel.specs.Items.{Items, items_code}
use Rattle.hol_goal.specs.Goal.{GoalValue, goal_code}
use Rattle.hol_stack.specs.StackValue.{StepValue}
use Rattle.hol_stack.specs.Codes.{step_code}
use Rattle.hol_exec.specs.declared.reports.refusal.RefusalKind.{RefusalKind}
use Rattle.hol_exec.specs.declared.reports.refusal.RefusalKind.TheVariants.{Syntax, InProof, NoProofOpen, UnknownTheory, UnknownTheorem, UnknownTac, Untypable, NotBool, Arity, NameTaken, NotClosed, NotReflected, TooLarge, BadRule, HypsNotAssumed, NoGoalOpen, Refused, TurnLimit, GoalsRemain, NothingToUndo, ImportClash}
use Rattle.hol_theory.specs.Key.{KeyValue}
use Rattle.hol_theory.specs.Entry.{Entries}
use Rattle.hol_theory.specs.Codes.{coded_key, coded_entry, coded_entries}
use Rattle.hol_exec.specs.Keys.{CommandKeysValue}
use Rattle.hol_exec.specs.StateValue.{ProofValue, StateValue}
use Rattle.hol_exec.specs.ReadsValue.{ClosingValue, Values, ReadsValue}
use Rattle.hol_exec.specs.OutcomeValue.{OutcomeValue, Opens, Leaves, Undoes, Rotates, Makes, Refuses}
use Rattle.hol_exec.specs.Refusal.{kind_number}
use Rattle.hol_exec.specs.Tested.{TestedValue}

-- ---- states

abbrev pub coded_proof : Coded ProofValue
coded_proof =
    code_by ((List ℕ × Nameless) × (StepValue × List StepValue))
    (coded× (coded× coded_name coded_nameless) (coded× step_code (coded_list step_code)))
    (λ v. ((v.name, v.statement), (v.newest, v.earlier)))
    (λ p. record { name = p.0.0; statement = p.0.1; newest = p.1.0; earlier = p.1.1 })
    (λ _. refl)

abbrev pub coded_state : Coded StateValue
coded_state =
    code_by (Entries × Option ProofValue) (coded× coded_entries (coded_option coded_proof))
    (λ s. (s.entries, s.proof))
    (λ p. record { entries = p.0; proof = p.1 })
    (λ _. refl)

-- ---- reads

abbrev pub coded_closing : Coded ClosingValue
coded_closing =
    code_by ((List ℕ × Nameless) × (Items × ℕ)) (coded× (coded× coded_name coded_nameless) (coded× items_code coded_ℕ))
    (λ c. ((c.name, c.statement), (c.basis, c.open_goals)))
    (λ p. record { name = p.0.0; statement = p.0.1; basis = p.1.0; open_goals = p.1.1 })
    (λ _. refl)

abbrev coded_values : Coded Values
coded_values = coded_list (coded× coded_key (coded_option coded_entry))

abbrev pub coded_reads : Coded ReadsValue
coded_reads =
    code_by ((Values × Values) × (Bool × (Option GoalValue × Option ClosingValue)))
    (coded× (coded× coded_values coded_values) (coded× coded_bool (coded× (coded_option goal_code) (coded_option coded_closing))))
    (λ r. ((r.cited, r.made), (r.in_proof, (r.goal, r.closing))))
    (λ p. record { cited = p.0.0; made = p.0.1; in_proof = p.1.0; goal = p.1.1.0; closing = p.1.1.1 })
    (λ _. refl)

-- ---- tested names

abbrev pub coded_tested : Coded TestedValue
coded_tested = coded_list (coded× coded_name coded_bool)

-- ---- keys of commands

abbrev pub coded_command_keys : Coded CommandKeysValue
coded_command_keys =
    code_by (List KeyValue × List KeyValue) (coded× (coded_list coded_key) (coded_list coded_key))
    (λ k. (k.cited, k.made))
    (λ p. record { cited = p.0; made = p.1 })
    (λ _. refl)

-- ---- outcomes

abbrev refusal_at : ℕ → RefusalKind
refusal_at n =
    if n == 1 then Syntax else if n == 2 then InProof else if n == 3 then NoProofOpen else if n == 4 then UnknownTheory else if n == 5 then UnknownTheorem else if n == 6 then UnknownTac
    else if n == 7 then Untypable else if n == 8 then NotBool else if n == 9 then Arity else if n == 10 then NameTaken else if n == 11 then NotClosed else if n == 12 then NotReflected else if n == 13 then TooLarge else if n == 14 then BadRule else if n == 15 then HypsNotAssumed
    else if n == 16 then NoGoalOpen else if n == 17 then Refused else if n == 18 then TurnLimit
    else if n == 19 then GoalsRemain else if n == 20 then NothingToUndo else ImportClash

pub refusal_back : (k : RefusalKind) → refusal_at (kind_number k) ≡ k
refusal_back Syntax = refl
refusal_back InProof = refl
refusal_back NoProofOpen = refl
refusal_back UnknownTheory = refl
refusal_back UnknownTheorem = refl
refusal_back UnknownTac = refl
refusal_back Untypable = refl
refusal_back NotBool = refl
refusal_back Arity = refl
refusal_back NameTaken = refl
refusal_back NotClosed = refl
refusal_back NotReflected = refl
refusal_back TooLarge = refl
refusal_back BadRule = refl
refusal_back HypsNotAssumed = refl
refusal_back NoGoalOpen = refl
refusal_back Refused = refl
refusal_back TurnLimit = refl
refusal_back GoalsRemain = refl
refusal_back NothingToUndo = refl
refusal_back ImportClash = refl

abbrev Cases : Type 0
Cases = (List ℕ × (Nameless × Items)) ⊎ ((GoalValue × (List GoalValue × Items)) ⊎ ((Unit {0} ⊎ ℕ) ⊎ (Entries ⊎ (RefusalKind × List ℕ))))

abbrev cases : OutcomeValue → Cases
cases (Opens name statement basis) = inl (name, (statement, basis))
cases (Leaves goal goals basis) = inr (inl (goal, (goals, basis)))
cases Undoes = inr (inr (inl (inl tt)))
cases (Rotates times) = inr (inr (inl (inr times)))
cases (Makes entries) = inr (inr (inr (inl entries)))
cases (Refuses kind arg) = inr (inr (inr (inr (kind, arg))))

abbrev outcome : Cases → OutcomeValue
outcome (inl o) = Opens o.0 o.1.0 o.1.1
outcome (inr (inl o)) = Leaves o.0 o.1.0 o.1.1
outcome (inr (inr (inl (inl u)))) = Undoes
outcome (inr (inr (inl (inr times)))) = Rotates times
outcome (inr (inr (inr (inl entries)))) = Makes entries
outcome (inr (inr (inr (inr o)))) = Refuses o.0 o.1

pub outcome_back : (o : OutcomeValue) → outcome (cases o) ≡ o
outcome_back (Opens name statement basis) = refl
outcome_back (Leaves goal goals basis) = refl
outcome_back Undoes = refl
outcome_back (Rotates times) = refl
outcome_back (Makes entries) = refl
outcome_back (Refuses kind arg) = refl

abbrev pub coded_outcome : Coded OutcomeValue
coded_outcome =
    code_by Cases
    (coded⊎ (coded× coded_name (coded× coded_nameless items_code))
    (coded⊎ (coded× goal_code (coded× (coded_list goal_code) items_code))
    (coded⊎ (coded⊎ coded_unit coded_ℕ)
    (coded⊎ coded_entries (coded× (code_by ℕ coded_ℕ kind_number refusal_at refusal_back) coded_name)))))
    cases outcome outcome_back
