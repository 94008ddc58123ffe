-- The outcome of `deftac`, which names an expression of functions on goals: it is resolved where it stands.
-- Source: this project; a `let` of OCaml does so in HOL Light.
use Rattle.std.specs.Prelude.{◌≡◌, ℕ, List, [], ◌∷◌, Bool, true, false, cond, nat_lt, Option, Some, is_some}
use Rattle.hol_kernel.specs.Items.{Items}
use Rattle.hol_combine.specs.ExprSize.{expr_size}
use Rattle.hol_combine.specs.ExprValue.{ExprValue}
use Rattle.hol_notation_tactics.specs.Parts.{parts_of, calls_in}
use Rattle.hol_notation_tactics.specs.Text.{TacText}
use Rattle.hol_resolve.specs.Readings.{ReadingsValue}
use Rattle.hol_theory.specs.Key.{KeyValue, tac_key}
use Rattle.hol_theory.specs.Entry.{ATac}
use Rattle.hol_exec.specs.declared.reports.refusal.RefusalKind.TheVariants as refusal
use Rattle.hol_exec.specs.Setup.{SetupValue}
use Rattle.hol_exec.specs.Callee.{registered}
use Rattle.hol_exec.specs.ReadsValue.{Values, ReadsValue}
use Rattle.hol_exec.specs.Standing.{first_taken}
use Rattle.hol_exec.specs.OwnBases.{own_bases}
use Rattle.hol_exec.specs.Expr.{ResolutionValue, Resolved, Unresolved, IsResolution}
use Rattle.hol_exec.specs.OutcomeValue.{OutcomeValue, Makes, Refuses}

-- the key, where the name is that of a registered function, or an entry stands under it
abbrev pub taken_tac : SetupValue → List ℕ → ReadsValue → Option KeyValue
taken_tac setup name reads = cond (is_some (registered name setup.table)) (Some (tac_key name)) (first_taken [] reads.made)

-- the entry of a resolved expression
abbrev pub names_expr : SetupValue → List ℕ → TacText → Values → ReadingsValue → ExprValue → Items → OutcomeValue
names_expr setup name tactic cited readings e basis =
    Makes ((tac_key name, ATac e (own_bases cited readings setup.table (calls_in (parts_of tactic))) basis) ∷ [])

-- what resolving refuses; then an expression of over 20,000 nodes
abbrev pub names_resolved : SetupValue → List ℕ → TacText → Values → ResolutionValue → OutcomeValue
names_resolved setup name tactic cited (Resolved e basis readings) =
    cond (nat_lt 20000 (expr_size e)) (Refuses refusal.TooLarge []) (names_expr setup name tactic cited readings e basis)
names_resolved setup name tactic cited (Unresolved kind arg) = Refuses kind arg

-- it is in a proof, or what is written resolves to something, and the outcome is by that
abbrev pub IsNaming : Bool → SetupValue → List ℕ → TacText → ReadsValue → OutcomeValue → Type 0
IsNaming true setup name tactic reads outcome = outcome ≡ Refuses refusal.InProof []
IsNaming false setup name tactic reads outcome =
    (resolution : ResolutionValue) × IsResolution setup (Some name) (taken_tac setup name reads) tactic reads.cited resolution
    × (outcome ≡ names_resolved setup name tactic reads.cited resolution)
