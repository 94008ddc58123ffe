-- What is written, resolved, from the steps of resolving.
use Rattle.std.specs.Prelude.{◌≡◌, ◌==◌, true, ℕ, List, [], ◌∷◌, length, Option, Some, None, Result, Ok, IfOk}
use Rattle.std.proofs.Common.{ap, sym, ◌∙◌, subst, arith}
use Rattle.hol_kernel.specs.Items.{Items}
use Rattle.hol_notation_tactics.specs.Parts.{parts_of, calls_in}
use Rattle.hol_notation_tactics.specs.Text.{TacText}
use Rattle.hol_resolve.specs.declared.quotations.AnyQuotation.{AnyQuotation}
use Rattle.hol_resolve.specs.declared.refusal.Refusal.{Refusal}
use Rattle.hol_resolve.specs.Signature.{SignatureValue}
use Rattle.hol_resolve.specs.Quotations.{quotations_in}
use Rattle.hol_resolve.specs.Readings.{ReadingsValue, Attempts, AreAttempts, AreRead}
use Rattle.hol_exec.specs.declared.reports.refusal.RefusalKind.TheVariants as refusal
use Rattle.hol_theory.specs.Key.{KeyValue}
use Rattle.hol_exec.specs.Setup.{SetupValue}
use Rattle.hol_exec.specs.Signature.{signature_of}
use Rattle.hol_exec.specs.ReadsValue.{Values}
use Rattle.hol_exec.specs.Resolved.{cited_theorems, occurs_in, resolved_basis}
use Rattle.hol_exec.specs.Standing.{first_unknown}
use Rattle.hol_combine.specs.ExprValue.{ExprValue}
use Rattle.hol_exec.specs.Expr.{RefusedValue, ResolutionValue, Resolved, Unresolved, first_unfit, resolved_expr, refused_resolution, resolution_of, resolved_untaken, resolved_read, IsResolvedFitting, IsResolution}
use Rattle.hol_exec.specs.ExprView.{resolution_value, IsRefusal, IsUnresolved}
use Rattle.hol_exec.specs.declared.resolving.resolution.Resolution.{Resolution}
use Rattle.hol_exec.specs.declared.resolving.unresolved.Unresolved.{Unresolved as Fault}
use Rattle.hol_exec.specs.declared.resolving.unresolved.Unresolved.TheVariants as fault
use Rattle.hol_exec.specs.Valid.{AreOfTheory}
use Rattle.std.proofs.lemmas.Bool.Decides.{Decides-eqb}
use Rattle.std.proofs.lemmas.Result.{IfOk-from_err}
use Rattle.hol_resolve.specs.Forward.{CitedValue}
use Rattle.hol_resolve.specs.Over.{AreWithin}
use Rattle.hol_exec.proofs.ReadOver.{resolved_cited, theorems_within}
use Rattle.hol_exec.proofs.Runs.{if_ok}

-- without quotations it is the same what stands
none_attempted : (over other : SignatureValue) (attempts : Attempts) → AreAttempts over [] attempts → AreAttempts other [] attempts
none_attempted over other [] h = tt
none_attempted over other (t ∷ attempts) h = absurd h

pub none_read : (over other : SignatureValue) (quoted : List AnyQuotation) (read : Result ReadingsValue Refusal) → true ≡ (length quoted == 0) → AreRead over quoted read → AreRead other quoted read
none_read over other [] read e h = (h.0, none_attempted over other h.0 h.1, h.2)
none_read over other (q ∷ quoted) read e h = absurd (omega (arith, (Decides-eqb (length (q ∷ quoted)) 0).0 (sym e)))

module _ (setup : SetupValue) (taken : Option KeyValue) (cited : Values) where
  module _ (own : Option (List ℕ)) (tactic : TacText) where
    pub unknown_theorem : (name : List ℕ) (r : ResolutionValue) → first_unknown cited ≡ Some name → r ≡ Unresolved refusal.UnknownTheorem name → IsResolution setup own taken tactic cited r
    unknown_theorem name r e f = rw e f

    pub unknown_tac : (name : List ℕ) (r : ResolutionValue) → first_unknown cited ≡ None → first_unfit setup own (calls_in (parts_of tactic)) cited ≡ Some name → r ≡ Unresolved refusal.UnknownTac name → IsResolution setup own taken tactic cited r
    unknown_tac name r e f g = rw (e, f) g

    pub fitting : (r : ResolutionValue) → first_unknown cited ≡ None → first_unfit setup own (calls_in (parts_of tactic)) cited ≡ None → IsResolvedFitting setup taken tactic cited r → IsResolution setup own taken tactic cited r
    fitting r e f h = rw (e, f) h

  -- ---- past the readings

  pub past_readings : (tactic : TacText) (over : SignatureValue) (quoted : List AnyQuotation) (own read : Result ReadingsValue Refusal) (r : ResolutionValue) → over ≡ signature_of cited → quoted ≡ quotations_in (parts_of tactic)
      → AreRead over quoted own → own ≡ read → r ≡ resolved_read setup taken tactic cited read → IsResolvedFitting setup taken tactic cited r
  past_readings tactic over quoted own read r e f h same is =
      (read, subst (λ (w : Result ReadingsValue Refusal). AreRead (signature_of cited) (quotations_in (parts_of tactic)) w) same (rw (e, f) at h), is)

-- ---- past the formulas, and a key that is taken

module _ (setup : SetupValue) (cited : Values) (tactic : TacText) (readings : ReadingsValue) where
  abbrev on : Items → ResolutionValue
  on basis = resolution_of basis readings (resolved_expr (record { table = setup.table; cited = cited; readings = readings; basis = basis }) tactic)

  pub untaken_found : (basis : Items) (e : ExprValue) → basis ≡ resolved_basis cited readings → resolved_expr (record { table = setup.table; cited = cited; readings = readings; basis = basis }) tactic ≡ Ok e →
      Resolved e basis readings ≡ resolved_untaken setup None tactic cited readings
  untaken_found basis e is found = sym (ap (resolution_of basis readings) found) ∙ ap on is

-- what is resolved by
pub is_context : (cited made : Values) (readings : ReadingsValue) (basis : Items) (theorems : CitedValue) → AreOfTheory cited made → basis ≡ resolved_basis cited readings → theorems ≡ cited_theorems cited → AreWithin basis theorems
is_context cited made readings basis theorems h e f =
    rw (e, f) (theorems_within (λ c. occurs_in c readings) (resolved_basis cited readings) cited (resolved_cited readings cited made h))

-- ---- refusals

pub refusal_ends : {E : Type 0} (refused : RefusedValue) (f : Fault) (result : Result Resolution E) → IsRefusal refused f → IsUnresolved f result → IfOk result (λ r. resolution_value r ≡ refused_resolution refused)
refusal_ends refused (fault.Refused kind arg) result h u = if_ok result _ _ (λ r e. e ∙ ap refused_resolution (sym h)) u
refusal_ends refused fault.Memory result h u = IfOk-from_err result _ u
