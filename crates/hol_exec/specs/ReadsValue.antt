-- What a command reads of a state: its outcome is a function of the command and of this alone.
-- Source: this project.
use Rattle.std.specs.Prelude.{◌≡◌, ℕ, List, [], ◌∷◌, Bool, length, map, Option, Some, None, is_some}
use Rattle.std.specs.Map.{keys_of}
use Rattle.hol_terms.specs.Nameless.{Nameless}
use Rattle.hol_kernel.specs.Items.{Items}
use Rattle.hol_goal.specs.Goal.{GoalValue}
use Rattle.hol_theory.specs.Key.{KeyValue}
use Rattle.hol_theory.specs.Entry.{Entries, EntryValue, entry_at}
use Rattle.hol_exec.specs.StateValue.{ProofValue, StateValue, open_goals}
use Rattle.hol_notation_commands.specs.Text.{LocalText, Goal, Apply, Qed, DefineTac, Make, Local, Direct}
use Rattle.hol_notation_reader.specs.Reading.{ReadText, Reads, Breaks}
use Rattle.hol_exec.specs.Keys.{cited_keys, made_keys}

-- what `qed` reads of the open proof
pub record ClosingValue : Type 0 where
  pub name : List ℕ
  pub statement : Nameless
  pub basis : Items
  pub open_goals : ℕ

-- keys with what stands under them, if anything does
abbrev pub Values : Type 0
Values = List (KeyValue × Option EntryValue)

-- the values of the keys that the command cites and of those that it makes, absence included; whether a proof is open; for `e` the
-- first goal, if there is one; what `qed` reads
pub record ReadsValue : Type 0 where
  pub cited : Values
  pub made : Values
  pub in_proof : Bool
  pub goal : Option GoalValue
  pub closing : Option ClosingValue

abbrev pub values_of : Entries → List KeyValue → Values
values_of entries keys = map (λ key. (key, entry_at key entries)) keys

abbrev pub first_of : List GoalValue → Option GoalValue
first_of [] = None
first_of (g ∷ goals) = Some g

abbrev pub first_goal : Option ProofValue → Option GoalValue
first_goal proof = first_of (open_goals proof)

abbrev pub closing_of : Option ProofValue → Option ClosingValue
closing_of None = None
closing_of (Some p) = Some (record { name = p.name; statement = p.statement; basis = p.newest.basis; open_goals = length p.newest.goals })

abbrev pub goal_for : LocalText → Option ProofValue → Option GoalValue
goal_for (Goal name quotation) proof = None
goal_for (Apply tactic) proof = first_goal proof
goal_for Qed proof = None
goal_for (DefineTac name tactic) proof = None
goal_for (Make making) proof = None

abbrev pub closing_for : LocalText → Option ProofValue → Option ClosingValue
closing_for (Goal name quotation) proof = None
closing_for (Apply tactic) proof = None
closing_for Qed proof = closing_of proof
closing_for (DefineTac name tactic) proof = None
closing_for (Make making) proof = None

abbrev pub reads_of : LocalText → StateValue → ReadsValue
reads_of command s = record {
  cited = values_of s.entries (cited_keys command);
  made = values_of s.entries (made_keys command);
  in_proof = is_some s.proof;
  goal = goal_for command s.proof;
  closing = closing_for command s.proof;
}

-- the keys of what is read are those that the command cites and makes
pub record AreKeyed (command : LocalText) (reads : ReadsValue) : Type 0 where
  pub cited : keys_of reads.cited ≡ cited_keys command
  pub made : keys_of reads.made ≡ made_keys command

-- what is read by what a text reads as: nothing where it breaks, or is answered from the state
abbrev pub reads_at : ReadText → StateValue → Option ReadsValue
reads_at (Reads (Local command)) s = Some (reads_of command s)
reads_at (Reads (Direct command)) s = None
reads_at (Breaks place) s = None

-- these are the reads of what a text reads as, at a state
abbrev pub AreReads : ReadText → StateValue → Option ReadsValue → Type 0
AreReads value s reads = reads ≡ reads_at value s
