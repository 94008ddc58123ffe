-- The outcome of a command that makes something, by its first name that is taken, and by what the kernel makes.
use Rattle.std.specs.Prelude.{◌≡◌, ◌≤◌, ℕ, Bool, true, false, cond, List, [], ◌∷◌, Option, Some, None, Result, IfOk}
use Rattle.std.proofs.Common.{ap, sym, ◌∙◌, subst}
use Rattle.std.proofs.lemmas.Result.{IfOk-weaker}
use Rattle.hol_types.specs.Tree.{TypeTree, type_size}
use Rattle.hol_subst.proofs.Closing.{not_below}
use Rattle.hol_notation_terms.specs.Text.{TypeText}
use Rattle.hol_infer.specs.Resolving.{has_arities, type_of_text}
use Rattle.hol_resolve.specs.Signature.{SignatureValue}
use Rattle.hol_resolve.specs.Reading.{ReadsAs, LargeReading, WrongArity, small_type, type_reading}
use Rattle.hol_terms.specs.Nameless.{Nameless}
use Rattle.hol_kernel.specs.Items.{Items, no_items}
use Rattle.hol_theory.specs.Key.{KeyValue, key_text}
use Rattle.hol_theory.specs.Entry.{EntryValue}
use Rattle.hol_theory.specs.Making.{IsNewType, IsNewConstant, IsNewAxiom}
use Rattle.hol_exec.specs.declared.reports.refusal.RefusalKind.TheVariants as refusal
use Rattle.hol_exec.specs.ReadsValue.{ReadsValue}
use Rattle.hol_exec.specs.OutcomeValue.{OutcomeValue, Makes, Refuses}
use Rattle.hol_exec.specs.Making.{UnlessTaken, MakesOne, IsMade, IsMaking}
use Rattle.hol_notation_commands.specs.Text.{MakingText}

module _ {E : Type 0} (result : Result OutcomeValue E) (taken : Option KeyValue) (Made : OutcomeValue → Type 0) where
  pub taken_refused : (key : KeyValue) → Some key ≡ taken → IfOk result (λ outcome. outcome ≡ Refuses refusal.NameTaken (key_text key)) → IfOk result (UnlessTaken taken Made)
  taken_refused key e h = subst (λ (o : Option KeyValue). IfOk result (UnlessTaken o Made)) e h

  pub untaken_made : None ≡ taken → IfOk result Made → IfOk result (UnlessTaken taken Made)
  untaken_made e h = subst (λ (o : Option KeyValue). IfOk result (UnlessTaken o Made)) e h

-- one entry is made
pub one_is : {E : Type 0} (result : Result OutcomeValue E) (entry : KeyValue × EntryValue) (Is : KeyValue × EntryValue → Type 0) → Is entry → IfOk result (λ outcome. outcome ≡ Makes (entry ∷ [])) → IfOk result (MakesOne Is)
one_is result entry Is is h = IfOk-weaker result (λ outcome. outcome ≡ Makes (entry ∷ [])) (MakesOne Is) (λ outcome e. (entry, is, e)) h

-- ---- what is made over a basis is so over an equal one, under an equal name

pub type_at_name : (own : Items) (text name : List ℕ) (arity : ℕ) (e : KeyValue × EntryValue) → own ≡ no_items → text ≡ name → IsNewType own text arity e → IsNewType no_items name arity e
type_at_name own text name arity e p q is = subst (λ (b : Items). IsNewType b name arity e) p (subst (λ (n : List ℕ). IsNewType own n arity e) q is)

pub constant_at_name : (own basis : Items) (text name : List ℕ) (a : TypeTree) (e : KeyValue × EntryValue) → own ≡ basis → text ≡ name → IsNewConstant own text a e → IsNewConstant basis name a e
constant_at_name own basis text name a e p q is = subst (λ (b : Items). IsNewConstant b name a e) p (subst (λ (n : List ℕ). IsNewConstant own n a e) q is)

pub axiom_at_name : (own basis : Items) (text name : List ℕ) (t : Nameless) (e : KeyValue × EntryValue) → own ≡ basis → text ≡ name → IsNewAxiom own text t e → IsNewAxiom basis name t e
axiom_at_name own basis text name t e p q is = subst (λ (b : Items). IsNewAxiom b name t e) p (subst (λ (n : List ℕ). IsNewAxiom own n t e) q is)

-- ---- types that are read

large_or_not : (a : TypeTree) → type_size a ≤ 20000 → small_type a ≡ ReadsAs a
large_or_not a h = ap (λ b. cond b LargeReading (ReadsAs a)) (not_below 20000 (type_size a) h)

pub type_reads : (over : SignatureValue) (types : List (List ℕ × ℕ)) (t : TypeText) (a : TypeTree) → types ≡ over.types → (a ≡ type_of_text types t) × (has_arities types t ≡ true) × (type_size a ≤ 20000) → type_reading over t ≡ ReadsAs a
type_reads over types t a e (is, fits, small) =
    (λ i. cond (has_arities (sym e i) t) (small_type (type_of_text (sym e i) t)) WrongArity)
    ∙ (λ i. cond (fits i) (small_type (sym is i)) WrongArity)
    ∙ large_or_not a small

-- ---- outside of a proof

pub making_outside : {E : Type 0} (result : Result OutcomeValue E) (in_proof : Bool) (m k : MakingText) (reads : ReadsValue) → in_proof ≡ false → m ≡ k → IfOk result (λ o. IsMade k reads o) → IfOk result (λ o. IsMaking in_proof m reads o)
making_outside result in_proof m k reads e f h =
    subst (λ (b : Bool). IfOk result (λ o. IsMaking b m reads o)) (sym e) (subst (λ (n : MakingText). IfOk result (λ o. IsMade n reads o)) (sym f) h)
