-- A text reads as one thing, and has one outcome at a state.
use Rattle.std.specs.Prelude.{◌≡◌, ℕ, List, [], ◌∷◌, Bool, true, false, Option, Some, None, Result, refl}
use Rattle.std.proofs.Common.{ap, sym, ◌∙◌}
use Rattle.hol_notation_terms.specs.Text.{QuotationText}
use Rattle.hol_notation_tactics.specs.Parts.{parts_of}
use Rattle.hol_notation_tactics.specs.Text.{TacText}
use Rattle.hol_notation_reader.specs.Reading.{Reads, Breaks, ReadText, IsRead}
use Rattle.hol_notation_reader.proofs.OneReading.{one_reading as one_command}
use Rattle.hol_exec.specs.Setup.{SetupValue}
use Rattle.hol_notation_commands.specs.Text.{LocalText, Goal, Apply, Qed, DefineTac, Make, Local, Direct}
use Rattle.hol_resolve.specs.Signature.{SignatureValue}
use Rattle.hol_resolve.specs.Reading.{ReadingValue}
use Rattle.hol_resolve.specs.Quotations.{quotations_in}
use Rattle.hol_resolve.specs.Readings.{QuotedValue, ATerm, ReadingsValue, Attempts, reading_map, IsQuotedAs, AreAttempts, read_all, AreRead}
use Rattle.hol_resolve.specs.declared.quotations.AnyQuotation.{AnyQuotation}
use Rattle.hol_resolve.specs.declared.quotations.AnyQuotation.TheVariants as quoted
use Rattle.hol_resolve.specs.declared.refusal.Refusal.{Refusal}
use Rattle.hol_exec.specs.Signature.{signature_of}
use Rattle.hol_exec.specs.StateValue.{StateValue, EndedTheory}
use Rattle.hol_exec.specs.ReadsValue.{ReadsValue, Values}
use Rattle.hol_exec.specs.declared.reports.refusal.RefusalKind.{RefusalKind}
use Rattle.hol_exec.specs.Expr.{ResolutionValue, named_refusals, first_refusal, resolved_read, IsResolvedFitting, IsResolvedPast}
use Rattle.hol_exec.specs.Naming.{taken_tac, names_resolved, IsNaming}
use Rattle.hol_exec.specs.OutcomeValue.{OutcomeValue}
use Rattle.hol_theory.specs.Key.{KeyValue}
use Rattle.hol_theory.specs.Constants.{constant_names}
use Rattle.hol_exec.specs.Tested.{TestedValue}
use Rattle.hol_exec.specs.Local.{LocalValue, opens_read, IsOpening, resolved_outcome, IsApplying, IsLocalOutcome}
use Rattle.hol_exec.specs.At.{IsOutcome}
use Rattle.hol_exec.proofs.Readings.{one_reading}
use Rattle.hol_exec.proofs.UniqueMade.{one_making}

-- ---- texts

pub one_text : (text : List ℕ) (a b : ReadText) → IsRead text a → IsRead text b → a ≡ b
one_text = one_command

-- ---- what is quoted

one_quoted : (over : SignatureValue) (q : AnyQuotation) (a b : ReadingValue QuotedValue) → IsQuotedAs over q a → IsQuotedAs over q b → a ≡ b
one_quoted over (quoted.Term t) a b p q = p.2 ∙ ap (reading_map ATerm) (one_reading over t.term p.0 q.0 p.1 q.1) ∙ sym q.2
one_quoted over (quoted.Type t) a b p q = p ∙ sym q

one_attempts : (over : SignatureValue) (qs : List AnyQuotation) (a b : Attempts) → AreAttempts over qs a → AreAttempts over qs b → a ≡ b
one_attempts over [] [] [] p q = refl
one_attempts over [] [] (y ∷ b) p q = absurd q
one_attempts over [] (x ∷ a) b p q = absurd p
one_attempts over (t ∷ qs) [] b p q = absurd p
one_attempts over (t ∷ qs) (x ∷ a) [] p q = absurd q
one_attempts over (t ∷ qs) (x ∷ a) (y ∷ b) p q =
    let place : x.0 ≡ y.0 = p.0 ∙ sym q.0 in
    let read : x.1 ≡ y.1 = one_quoted over t x.1 y.1 p.1 q.1 in
    let rest : a ≡ b = one_attempts over qs a b p.2 q.2 in
    λ i. (place i, read i) ∷ rest i

one_all_read : (over : SignatureValue) (qs : List AnyQuotation) (a b : Result ReadingsValue Refusal) → AreRead over qs a → AreRead over qs b → a ≡ b
one_all_read over qs a b p q = p.2 ∙ ap read_all (one_attempts over qs p.0 q.0 p.1 q.1) ∙ sym q.2

-- ---- resolutions

module _ (setup : SetupValue) (taken : Option KeyValue) (cited : Values) where
  one_fitting : (tactic : TacText) (a b : ResolutionValue) → IsResolvedFitting setup taken tactic cited a → IsResolvedFitting setup taken tactic cited b → a ≡ b
  one_fitting tactic a b p q =
      p.2 ∙ ap (resolved_read setup taken tactic cited) (one_all_read (signature_of cited) (quotations_in (parts_of tactic)) p.0 q.0 p.1 q.1) ∙ sym q.2

  one_past : (tactic : TacText) (o : Option (RefusalKind × List ℕ)) (a b : ResolutionValue) → IsResolvedPast setup taken tactic cited o a → IsResolvedPast setup taken tactic cited o b → a ≡ b
  one_past tactic (Some refused) a b p q = p ∙ sym q
  one_past tactic None a b p q = one_fitting tactic a b p q

-- ---- outcomes

one_opening : (in_proof : Bool) (name : List ℕ) (quotation : QuotationText) (reads : ReadsValue) (a b : OutcomeValue) → IsOpening in_proof name quotation reads a → IsOpening in_proof name quotation reads b → a ≡ b
one_opening true name quotation reads a b p q = p ∙ sym q
one_opening false name quotation reads a b p q =
    p.2 ∙ ap (opens_read name quotation.place reads) (one_reading (signature_of reads.cited) quotation.term p.0 q.0 p.1 q.1) ∙ sym q.2

one_applying : (in_proof : Bool) (setup : SetupValue) (names : List (List ℕ)) (tactic : TacText) (reads : ReadsValue) (a b : LocalValue) → IsApplying in_proof setup names tactic reads a → IsApplying in_proof setup names tactic reads b → a ≡ b
one_applying false setup names tactic reads a b p q = p ∙ sym q
one_applying true setup names tactic reads a b p q =
    p.2 ∙ ap (resolved_outcome setup names reads.goal) (one_past setup None reads.cited tactic (first_refusal (named_refusals setup None tactic reads.cited)) p.0 q.0 p.1 q.1) ∙ sym q.2

one_naming : (in_proof : Bool) (setup : SetupValue) (name : List ℕ) (tactic : TacText) (reads : ReadsValue) (a b : OutcomeValue) → IsNaming in_proof setup name tactic reads a → IsNaming in_proof setup name tactic reads b → a ≡ b
one_naming true setup name tactic reads a b p q = p ∙ sym q
one_naming false setup name tactic reads a b p q =
    p.2
    ∙ ap (names_resolved setup name tactic reads.cited) (one_past setup (taken_tac setup name reads) reads.cited tactic (first_refusal (named_refusals setup (Some name) tactic reads.cited)) p.0 q.0 p.1 q.1)
    ∙ sym q.2

-- of one outcome, where nothing was tested for both
both_are : (a b : LocalValue) → a.outcome ≡ b.outcome → a.tested ≡ [] → b.tested ≡ [] → a ≡ b
both_are a b same p q = λ i. record { outcome = same i; tested = (p ∙ sym q) i }

pub one_local : (setup : SetupValue) (names : List (List ℕ)) (command : LocalText) (reads : ReadsValue) (a b : LocalValue) → IsLocalOutcome setup names command reads a → IsLocalOutcome setup names command reads b → a ≡ b
one_local setup names (Goal name quotation) reads a b p q = both_are a b (one_opening reads.in_proof name quotation reads a.outcome b.outcome p.0 q.0) p.1 q.1
one_local setup names (Apply tactic) reads a b p q = one_applying reads.in_proof setup names tactic reads a b p q
one_local setup names Qed reads a b p q = p ∙ sym q
one_local setup names (DefineTac name tactic) reads a b p q = both_are a b (one_naming reads.in_proof setup name tactic reads a.outcome b.outcome p.0 q.0) p.1 q.1
one_local setup names (Make making) reads a b p q = both_are a b (one_making reads.in_proof making reads a.outcome b.outcome p.0 q.0) p.1 q.1

pub one_outcome : (setup : SetupValue) (earlier : List EndedTheory) (s : StateValue) (value : ReadText) (reads : Option ReadsValue) (tested more : TestedValue) (a b : OutcomeValue) →
    IsOutcome setup earlier s value reads tested a → IsOutcome setup earlier s value reads more b → (a ≡ b) × (tested ≡ more)
one_outcome setup earlier s (Reads (Local command)) None tested more a b p q = absurd p
one_outcome setup earlier s (Reads (Local command)) (Some reads) tested more a b p q =
    let same = one_local setup (constant_names s.entries) command reads (record { outcome = a; tested = tested }) (record { outcome = b; tested = more }) p q in
    (ap (λ (l : LocalValue). l.outcome) same, ap (λ (l : LocalValue). l.tested) same)
one_outcome setup earlier s (Reads (Direct command)) None tested more a b p q = (p.0 ∙ sym q.0, p.1 ∙ sym q.1)
one_outcome setup earlier s (Reads (Direct command)) (Some reads) tested more a b p q = absurd p
one_outcome setup earlier s (Breaks place) None tested more a b p q = (p.0 ∙ sym q.0, p.1 ∙ sym q.1)
one_outcome setup earlier s (Breaks place) (Some reads) tested more a b p q = absurd p
