-- When commands are equal, by `==`, and the name by which they are hashed. Source: this project.
use Rattle.std.specs.Prelude.{◌≡◌, ◌==◌, ◌&&◌, ℕ, List, [], Bool, true, false}
use Rattle.std.proofs.Common.{refl, ap}
use Rattle.std.proofs.lemmas.Bool.{false≢true}
use Rattle.std.proofs.lemmas.Bool.Decides.{Decides-eqb, Decides-and}
use Rattle.std.specs.Bool.{Decides}
use Rattle.std.specs.Cmp.{IsEquivalence, decided}
use base.Stored.{Gv, gnil, gnum, gcons, num}
use Rattle.hol_notation_tactics.specs.Leading as tactics
use Rattle.std.specs.Hash as fed
use Rattle.std.specs.Prelude.{IsTrue}
use Rattle.std.specs.Cmp.{IsPartialEquivalence, partial_equiv_from_equiv}
use Rattle.hol_notation_commands.specs.Text.{MakingText, NewType, NewConstant, NewAxiom, NewDefinition, NewBasicTypeDefinition, LocalText, Goal, Apply, Qed, DefineTac, Make}
use Rattle.hol_notation_commands.specs.declared.command.LocalCommand.{LocalCommand}
use Rattle.hol_notation_commands.specs.CommandView.{local_text}
use Rattle.hol_notation_commands.specs.Code.{coded_local}

-- the trees of numbers as which the logic stores values
abbrev code_eq : Gv → Gv → Bool
code_eq gnil gnil = true
code_eq gnil (gnum n) = false
code_eq gnil (gcons c d) = false
code_eq (gnum m) gnil = false
code_eq (gnum m) (gnum n) = m == n
code_eq (gnum m) (gcons c d) = false
code_eq (gcons a b) gnil = false
code_eq (gcons a b) (gnum n) = false
code_eq (gcons a b) (gcons c d) = code_eq a c && code_eq b d

-- commands are the same where they are stored alike
abbrev pub same_text : LocalText → LocalText → Bool
same_text a b = code_eq (coded_local.code a) (coded_local.code b)

abbrev pub making_name : MakingText → List ℕ
making_name (NewType name arity) = name
making_name (NewConstant name quotation) = name
making_name (NewAxiom name quotation) = name
making_name (NewDefinition name definition) = name
making_name (NewBasicTypeDefinition definition) = definition.ty

-- what a command makes, or the TAC that is written first
abbrev pub leading_name : LocalText → List ℕ
leading_name (Goal name quotation) = name
leading_name (Apply tactic) = tactics.leading_name tactic
leading_name Qed = []
leading_name (DefineTac name tactic) = name
leading_name (Make making) = making_name making

code_eq_decides : (a b : Gv) → Decides (code_eq a b) (a ≡ b)
code_eq_decides gnil gnil = (λ e. refl, λ p. refl)
code_eq_decides gnil (gnum n) = (λ e. absurd (false≢true e), λ p. cc)
code_eq_decides gnil (gcons c d) = (λ e. absurd (false≢true e), λ p. cc)
code_eq_decides (gnum m) gnil = (λ e. absurd (false≢true e), λ p. cc)
code_eq_decides (gnum m) (gnum n) = (λ e. ap gnum ((Decides-eqb m n).0 e), λ p. (Decides-eqb m n).1 (ap num p))
code_eq_decides (gnum m) (gcons c d) = (λ e. absurd (false≢true e), λ p. cc)
code_eq_decides (gcons a b) gnil = (λ e. absurd (false≢true e), λ p. cc)
code_eq_decides (gcons a b) (gnum n) = (λ e. absurd (false≢true e), λ p. cc)
code_eq_decides (gcons a b) (gcons c d) =
    let both : Decides (code_eq a c && code_eq b d) ((a ≡ c) × (b ≡ d)) = Decides-and (code_eq a c) (code_eq b d) (code_eq_decides a c) (code_eq_decides b d) in
    (λ e i. gcons ((both.0 e).0 i) ((both.0 e).1 i), λ (p : gcons a b ≡ gcons c d). both.1 (cc, cc))

pub same_text_decides : (a b : LocalText) → Decides (same_text a b) (a ≡ b)
same_text_decides a b =
    let codes = code_eq_decides (coded_local.code a) (coded_local.code b) in
    (λ e. coded_local.inj a b (codes.0 e), λ p. codes.1 (ap coded_local.code p))

same_text_laws : IsEquivalence same_text
same_text_laws = decided same_text same_text_decides

abbrev pub same_command : LocalCommand → LocalCommand → Bool
same_command a b = same_text (local_text a) (local_text b)

pub same_command_laws : IsEquivalence same_command
same_command_laws = record {
  refl = λ a. same_text_laws.refl (local_text a);
  symm = λ a b. same_text_laws.symm (local_text a) (local_text b);
  congr = λ a b c. same_text_laws.congr (local_text a) (local_text b) (local_text c);
}

pub same_command_partial_laws : IsPartialEquivalence same_command
same_command_partial_laws = partial_equiv_from_equiv same_command_laws

pub command_fed : (a b : LocalCommand) → IsTrue (same_command a b) → fed.str (leading_name (local_text a)) ≡ fed.str (leading_name (local_text b))
command_fed a b e = ap (λ (c : LocalText). fed.str (leading_name c)) ((same_text_decides (local_text a) (local_text b)).0 e)
