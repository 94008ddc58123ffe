-- How the logic stores commands: as a sum of what each kind of command holds, which gives the command back.
use Rattle.std.specs.Coded.{Coded, coded×, coded⊎, coded_ℕ, code_by}
use Rattle.std.proofs.Common.{◌≡◌, ◌⊎◌, inl, inr, ℕ, List, refl}
use Rattle.hol_notation_terms.specs.Text.{QuotationText, TypeQuotationText, DefinitionText}
use Rattle.hol_notation_terms.specs.Code.{coded_name, coded_quotation, coded_type_quotation, coded_definition}
use Rattle.hol_notation_tactics.specs.Text.{TacText}
use Rattle.hol_notation_tactics.specs.Code.{coded_tac}
use base.Stored.{coded_unit}
use Rattle.hol_notation_commands.specs.Text.{TypeDefinitionText, MakingText, NewType, NewConstant, NewAxiom, NewDefinition, NewBasicTypeDefinition, LocalText, Goal, Apply, Qed, DefineTac, Make, DirectText, Back, Rotate, Oops, Import, CommandText, Local, Direct}

abbrev coded_names : Coded (List ℕ × (List ℕ × List ℕ))
coded_names = coded× coded_name (coded× coded_name coded_name)

abbrev pub coded_type_definition : Coded TypeDefinitionText
coded_type_definition =
    code_by ((List ℕ × (List ℕ × List ℕ)) × (List ℕ × (List ℕ × List ℕ))) (coded× coded_names coded_names)
    (λ d. ((d.ty, (d.abs, d.rep)), (d.abs_rep, (d.rep_abs, d.theorem))))
    (λ p. record { ty = p.0.0; abs = p.0.1.0; rep = p.0.1.1; abs_rep = p.1.0; rep_abs = p.1.1.0; theorem = p.1.1.1 }) (λ _. refl)

abbrev MakingCases : Type 0
MakingCases = (List ℕ × ℕ) ⊎ ((List ℕ × TypeQuotationText) ⊎ ((List ℕ × QuotationText) ⊎ ((List ℕ × DefinitionText) ⊎ TypeDefinitionText)))

abbrev making_cases : MakingText → MakingCases
making_cases (NewType name arity) = inl (name, arity)
making_cases (NewConstant name quotation) = inr (inl (name, quotation))
making_cases (NewAxiom name quotation) = inr (inr (inl (name, quotation)))
making_cases (NewDefinition name definition) = inr (inr (inr (inl (name, definition))))
making_cases (NewBasicTypeDefinition definition) = inr (inr (inr (inr definition)))

abbrev making : MakingCases → MakingText
making (inl p) = NewType p.0 p.1
making (inr (inl p)) = NewConstant p.0 p.1
making (inr (inr (inl p))) = NewAxiom p.0 p.1
making (inr (inr (inr (inl p)))) = NewDefinition p.0 p.1
making (inr (inr (inr (inr definition)))) = NewBasicTypeDefinition definition

pub making_back : (m : MakingText) → making (making_cases m) ≡ m
making_back (NewType name arity) = refl
making_back (NewConstant name quotation) = refl
making_back (NewAxiom name quotation) = refl
making_back (NewDefinition name definition) = refl
making_back (NewBasicTypeDefinition definition) = refl

abbrev coded_making : Coded MakingText
coded_making =
    code_by MakingCases
    (coded⊎ (coded× coded_name coded_ℕ)
    (coded⊎ (coded× coded_name coded_type_quotation)
    (coded⊎ (coded× coded_name coded_quotation)
    (coded⊎ (coded× coded_name coded_definition) coded_type_definition))))
    making_cases making making_back

abbrev LocalCases : Type 0
LocalCases = (List ℕ × QuotationText) ⊎ (TacText ⊎ (Unit {0} ⊎ ((List ℕ × TacText) ⊎ MakingText)))

abbrev local_cases : LocalText → LocalCases
local_cases (Goal name quotation) = inl (name, quotation)
local_cases (Apply tactic) = inr (inl tactic)
local_cases Qed = inr (inr (inl tt))
local_cases (DefineTac name tactic) = inr (inr (inr (inl (name, tactic))))
local_cases (Make m) = inr (inr (inr (inr m)))

abbrev local : LocalCases → LocalText
local (inl p) = Goal p.0 p.1
local (inr (inl tactic)) = Apply tactic
local (inr (inr (inl u))) = Qed
local (inr (inr (inr (inl p)))) = DefineTac p.0 p.1
local (inr (inr (inr (inr m)))) = Make m

pub local_back : (c : LocalText) → local (local_cases c) ≡ c
local_back (Goal name quotation) = refl
local_back (Apply tactic) = refl
local_back Qed = refl
local_back (DefineTac name tactic) = refl
local_back (Make m) = refl

abbrev pub coded_local : Coded LocalText
coded_local = code_by LocalCases (coded⊎ (coded× coded_name coded_quotation) (coded⊎ coded_tac (coded⊎ coded_unit (coded⊎ (coded× coded_name coded_tac) coded_making)))) local_cases local local_back

abbrev DirectCases : Type 0
DirectCases = Unit {0} ⊎ (ℕ ⊎ (Unit {0} ⊎ List ℕ))

abbrev direct_cases : DirectText → DirectCases
direct_cases Back = inl tt
direct_cases (Rotate n) = inr (inl n)
direct_cases Oops = inr (inr (inl tt))
direct_cases (Import name) = inr (inr (inr name))

abbrev direct : DirectCases → DirectText
direct (inl u) = Back
direct (inr (inl n)) = Rotate n
direct (inr (inr (inl u))) = Oops
direct (inr (inr (inr name))) = Import name

pub direct_back : (c : DirectText) → direct (direct_cases c) ≡ c
direct_back Back = refl
direct_back (Rotate n) = refl
direct_back Oops = refl
direct_back (Import name) = refl

abbrev coded_direct : Coded DirectText
coded_direct = code_by DirectCases (coded⊎ coded_unit (coded⊎ coded_ℕ (coded⊎ coded_unit coded_name))) direct_cases direct direct_back

abbrev both : CommandText → LocalText ⊎ DirectText
both (Local c) = inl c
both (Direct c) = inr c

abbrev either : LocalText ⊎ DirectText → CommandText
either (inl c) = Local c
either (inr c) = Direct c

pub either_back : (c : CommandText) → either (both c) ≡ c
either_back (Local c) = refl
either_back (Direct c) = refl

abbrev pub coded_command : Coded CommandText
coded_command = code_by (LocalText ⊎ DirectText) (coded⊎ coded_local coded_direct) both either either_back
