-- What a command's quotations read as is well typed over the basis of what it resolves.
use Rattle.std.specs.Prelude.{◌≡◌, ℕ, Bool, true, false, cond, ◌||◌, List, [], ◌∷◌, ◌++◌, is_some, Option, Some, None, Result, Ok, refl}
use Rattle.std.specs.FinSet as set
use Rattle.std.proofs.Common.{ap, sym, ◌∙◌, subst}
use Rattle.hol_types.specs.Tree.{TypeTree}
use Rattle.std.specs.Option.{option_map}
use Rattle.hol_exec.proofs.Statements.{of_bool}
use Rattle.hol_terms.specs.Named.{Named}
use Rattle.hol_terms.specs.Nameless.{Nameless, nameless_type}
use Rattle.hol_formulas.specs.Equation.{bool_type}
use Rattle.hol_kernel.specs.Items.{Items, no_items, IsSubset}
use Rattle.hol_kernel.specs.Signature.{has_arity, has_constant}
use Rattle.hol_kernel.specs.Theorem.{Theorem}
use Rattle.hol_kernel.specs.Typing.{is_type_at, is_known, is_typed, is_type, HasType}
use Rattle.hol_kernel.proofs.Members.{or_right}
use Rattle.hol_kernel.proofs.Subsets.{within_itself, subset_trans, subset_left, subset_right, none_within}
use Rattle.hol_kernel.proofs.Variables.{typed_known}
use Rattle.hol_notation_terms.specs.Text.{TermText, TypeText, QuotationText, DefinitionText}
use Rattle.hol_infer.proofs.StandingLaws.{definition_stands}
use Rattle.hol_clauses.specs.Statements.{stated}
use Rattle.hol_prelude.specs.Statements.{prelude_statements, statement_in}
use Rattle.hol_resolve.specs.Forward.{CitedValue}
use Rattle.hol_resolve.specs.Signature.{SignatureValue}
use Rattle.hol_resolve.specs.Over.{AreOver, AreWithin}
use Rattle.hol_resolve.specs.Reading.{ReadingValue, WrongArity, NoTyping, LargeReading, ReadsAs, IsTermReadAs, type_reading}
use Rattle.hol_resolve.specs.Readings.{QuotedValue, ATerm, ReadingsValue, Attempts, reading_map, IsQuotedAs, AreAttempts, has_wrong_arity, has_no_typing, is_large, first_with, read_at, all_read, unless_large, unless_untyped, unless_wrong, read_all, AreRead}
use Rattle.hol_resolve.specs.Readings as quoting
use Rattle.hol_resolve.specs.declared.quotations.AnyQuotation.{AnyQuotation}
use Rattle.hol_resolve.specs.declared.quotations.AnyQuotation.TheVariants as quoted
use Rattle.hol_resolve.specs.declared.refusal.Refusal.{Refusal}
use Rattle.hol_resolve.proofs.Standing.{readings_are_over}
use Rattle.hol_theory.specs.declared.key.Kind.{Kind}
use Rattle.hol_theory.specs.declared.key.Kind.TheVariants as key_kind
use Rattle.hol_theory.specs.Key.{KeyValue}
use Rattle.hol_theory.specs.Entry.{EntryValue, AType, AConstant, ATheorem, Entries, entry_at, ATac}
use Rattle.hol_theory.specs.Theory.{IsTheory}
use Rattle.hol_exec.specs.Occurring.{constant_occurs}
use Rattle.hol_exec.specs.ReadsValue.{Values}
use Rattle.hol_exec.specs.Signature.{signature_of}
use Rattle.hol_exec.specs.Resolved.{prelude_theorem_at, named_theorem, cited_theorems, occurs_in_quoted, occurs_in, with_value, with_values, resolved_basis}
use Rattle.hol_exec.specs.Defining.{IsDefinitionReadAs}
use Rattle.hol_exec.specs.Valid.{StandIn, AreOfTheory, IsStatement}
use Rattle.hol_theory.proofs.Standing.{entry_is}
use Rattle.hol_exec.proofs.Known.{kept, IsCitedIn, AreCitedIn, cited_stand, known}
use Rattle.hol_exec.proofs.Narrow.{reading_kept, definition_kept}

-- ---- the bases of what is resolved lie in their union

module _ (readings : ReadingsValue) where
  value_grows : (items : Items) (key : KeyValue) (o : Option EntryValue) → IsSubset items (with_value readings items key o)
  value_grows items key None = within_itself items
  value_grows items key (Some (AType arity item basis)) = subset_left items basis
  value_grows items key (Some (AConstant ty item basis)) = by (occurs_in key.name readings)
    where
      by : (b : Bool) → IsSubset items (cond b (set.union items basis) items)
      by true = subset_left items basis
      by false = within_itself items
  value_grows items key (Some (ATheorem th)) = subset_left items th.basis
  value_grows items key (Some (ATac e bases basis)) = subset_left items basis

  values_grow : (cited : Values) (items : Items) → IsSubset items (with_values readings items cited)
  values_grow [] items = within_itself items
  values_grow ((key, value) ∷ more) items =
      subset_trans items (with_value readings items key value) (with_values readings (with_value readings items key value) more)
      (value_grows items key value) (values_grow more (with_value readings items key value))

  abbrev keep : List ℕ → Bool
  keep c = occurs_in c readings

  module _ (es : Entries) (t : IsTheory es) where
    value_cited : (items all : Items) (key : KeyValue) (o : Option EntryValue) → o ≡ entry_at key es → IsSubset (with_value readings items key o) all → IsCitedIn keep all key o
    value_cited items all key None e h = tt
    value_cited items all key (Some (AType arity item basis)) e h =
        (entry_is es key (AType arity item basis) t (sym e), subset_trans basis (set.union items basis) all (subset_right items basis) h)
    value_cited items all key (Some (AConstant ty item basis)) e h = λ k. (
      entry_is es key (AConstant ty item basis) t (sym e),
      subset_trans basis (set.union items basis) all (subset_right items basis)
          (subst (λ (b : Bool). IsSubset (cond b (set.union items basis) items) all) k h),
    )
    value_cited items all key (Some (ATheorem th)) e h = subset_trans th.basis (set.union items th.basis) all (subset_right items th.basis) h
    value_cited items all key (Some (ATac x bases basis)) e h =
        ((entry_is es key (ATac x bases basis) t (sym e)).suits, subset_trans basis (set.union items basis) all (subset_right items basis) h)

    values_cited : (cited : Values) (items : Items) → StandIn es cited → AreCitedIn keep (with_values readings items cited) cited
    values_cited [] items h = tt
    values_cited ((key, value) ∷ more) items h =
        let next : Items = with_value readings items key value in
        (value_cited items (with_values readings next more) key value h.0 (values_grow more next), values_cited more next h.1)

  -- what is cited lies in the basis, as far as it is resolved
  pub resolved_cited : (cited made : Values) → AreOfTheory cited made → AreCitedIn keep (resolved_basis cited readings) cited
  resolved_cited cited made h = values_cited h.entries h.theory cited no_items h.cited_stand

-- ---- theorems

theorem_within : (items : Items) (name : List ℕ) (o : Option Theorem) (more : CitedValue) → ((th : Theorem) → o ≡ Some th → IsSubset th.basis items) → AreWithin items more →
    AreWithin items (named_theorem name o ++ more)
theorem_within items name None more h rest = rest
theorem_within items name (Some th) more h rest = (h th refl, rest)

pub prelude_within : (items : Items) (kind : Kind) (name : List ℕ) (th : Theorem) → prelude_theorem_at kind name ≡ Some th → IsSubset th.basis items
prelude_within items key_kind.Type name th e = absurd (cc)
prelude_within items key_kind.Constant name th e = absurd (cc)
prelude_within items key_kind.Tac name th e = absurd (cc)
prelude_within items key_kind.Theorem name th e = by (statement_in prelude_statements name) e
  where
    by : (o : Option Named) → option_map stated o ≡ Some th → IsSubset th.basis items
    by None e = absurd (cc)
    by (Some p) e = let is : stated p ≡ th = cc in none_within th.basis items (ap (λ (s : Theorem). s.basis) (sym is))

pub theorems_within : (keep : List ℕ → Bool) (items : Items) (cited : Values) → AreCitedIn keep items cited → AreWithin items (cited_theorems cited)
theorems_within keep items [] all = tt
theorems_within keep items ((key, None) ∷ more) all =
    theorem_within items key.name (prelude_theorem_at key.kind key.name) (cited_theorems more) (prelude_within items key.kind key.name) (theorems_within keep items more all.1)
theorems_within keep items ((key, Some (AType arity item basis)) ∷ more) all = theorems_within keep items more all.1
theorems_within keep items ((key, Some (AConstant ty item basis)) ∷ more) all = theorems_within keep items more all.1
theorems_within keep items ((key, Some (ATheorem th)) ∷ more) all = (all.0, theorems_within keep items more all.1)
theorems_within keep items ((key, Some (ATac e bases basis)) ∷ more) all = theorems_within keep items more all.1

-- ---- quotations

-- all are read
abbrev AllRead : Attempts → Type 0
AllRead [] = Unit {0}
AllRead ((place, WrongArity) ∷ attempts) = ⊥
AllRead ((place, NoTyping) ∷ attempts) = ⊥
AllRead ((place, LargeReading) ∷ attempts) = ⊥
AllRead ((place, ReadsAs v) ∷ attempts) = AllRead attempts

settled : (attempts : Attempts) → first_with has_wrong_arity attempts ≡ None → first_with has_no_typing attempts ≡ None → first_with is_large attempts ≡ None → AllRead attempts
settled [] e f g = tt
settled ((place, WrongArity) ∷ attempts) e f g = absurd (cc)
settled ((place, NoTyping) ∷ attempts) e f g = absurd (cc)
settled ((place, LargeReading) ∷ attempts) e f g = absurd (cc)
settled ((place, ReadsAs v) ∷ attempts) e f g = settled attempts e f g

abbrev Comes : Attempts → ReadingsValue → Type 0
Comes attempts readings = AllRead attempts × (readings ≡ all_read attempts)

of_large : (o : Option ℕ) (attempts : Attempts) (readings : ReadingsValue) → first_with is_large attempts ≡ o → first_with has_wrong_arity attempts ≡ None → first_with has_no_typing attempts ≡ None →
    Ok readings ≡ unless_large o attempts → Comes attempts readings
of_large None attempts readings g e f h = let same : readings ≡ all_read attempts = cc in (settled attempts e f g, same)
of_large (Some place) attempts readings g e f h = absurd (cc)

of_untyped : (o : Option ℕ) (attempts : Attempts) (readings : ReadingsValue) → first_with has_no_typing attempts ≡ o → first_with has_wrong_arity attempts ≡ None →
    Ok readings ≡ unless_untyped o attempts → Comes attempts readings
of_untyped None attempts readings f e h = of_large (first_with is_large attempts) attempts readings refl e f h
of_untyped (Some place) attempts readings f e h = absurd (cc)

of_wrong : (o : Option ℕ) (attempts : Attempts) (readings : ReadingsValue) → first_with has_wrong_arity attempts ≡ o → Ok readings ≡ unless_wrong o attempts → Comes attempts readings
of_wrong None attempts readings e h = of_untyped (first_with has_no_typing attempts) attempts readings refl e h
of_wrong (Some place) attempts readings e h = absurd (cc)

module _ (keep : List ℕ → Bool) (over : SignatureValue) where
  abbrev fewer : SignatureValue
  fewer = record { constants = kept keep over.constants; types = over.types }

  abbrev KeepsAll : ReadingsValue → Type 0
  KeepsAll readings = (c : List ℕ) → occurs_in c readings ≡ true → keep c ≡ true

  term_kept : (s : TermText) (p : Nameless) → ((c : List ℕ) → constant_occurs c p ≡ true → keep c ≡ true) → IsTermReadAs over s (ReadsAs p) → IsTermReadAs fewer s (ReadsAs p)
  term_kept s p k h = (h.0, reading_kept keep over.types over.constants s p k h.1, h.2)

  term_attempt : (s : TermText) (own : ReadingValue Nameless) (v : QuotedValue) → ((c : List ℕ) → occurs_in_quoted c v ≡ true → keep c ≡ true) → IsTermReadAs over s own → ReadsAs v ≡ reading_map ATerm own →
      (other : ReadingValue Nameless) × IsTermReadAs fewer s other × (ReadsAs v ≡ reading_map ATerm other)
  term_attempt s WrongArity v k h e = absurd (cc)
  term_attempt s NoTyping v k h e = absurd (cc)
  term_attempt s LargeReading v k h e = absurd (cc)
  term_attempt s (ReadsAs p) v k h e =
      let is : v ≡ ATerm p = cc in
      (ReadsAs p, term_kept s p (λ c o. k c (ap (occurs_in_quoted c) is ∙ o)) h, e)

  quoted_kept : (q : AnyQuotation) (v : QuotedValue) → ((c : List ℕ) → occurs_in_quoted c v ≡ true → keep c ≡ true) → IsQuotedAs over q (ReadsAs v) → IsQuotedAs fewer q (ReadsAs v)
  quoted_kept (quoted.Term s) v k h = term_attempt s.term h.0 v k h.1 h.2
  quoted_kept (quoted.Type a) v k h = h

  attempts_kept : (qs : List AnyQuotation) (attempts : Attempts) → AllRead attempts → KeepsAll (all_read attempts) → AreAttempts over qs attempts → AreAttempts fewer qs attempts
  attempts_kept [] [] all k h = tt
  attempts_kept [] (x ∷ attempts) all k h = absurd h
  attempts_kept (q ∷ qs) [] all k h = absurd h
  attempts_kept (q ∷ qs) ((place, WrongArity) ∷ attempts) all k h = absurd all
  attempts_kept (q ∷ qs) ((place, NoTyping) ∷ attempts) all k h = absurd all
  attempts_kept (q ∷ qs) ((place, LargeReading) ∷ attempts) all k h = absurd all
  attempts_kept (q ∷ qs) ((place, ReadsAs v) ∷ attempts) all k h = (
    h.0,
    quoted_kept q v (λ c o. k c (ap (λ b. b || occurs_in c (all_read attempts)) o)) h.1,
    attempts_kept qs attempts all (λ c o. k c (or_right (occurs_in_quoted c v) (occurs_in c (all_read attempts)) o)) h.2,
  )

  all_kept : (qs : List AnyQuotation) (readings : ReadingsValue) → KeepsAll readings → AreRead over qs (Ok readings) → AreRead fewer qs (Ok readings)
  all_kept qs readings k h =
      let comes = of_wrong (first_with has_wrong_arity h.0) h.0 readings refl h.2 in
      (h.0, attempts_kept qs h.0 comes.0 (subst KeepsAll comes.1 k) h.1, h.2)

-- what quotations read as
pub resolved_over : (cited made : Values) (qs : List AnyQuotation) (readings : ReadingsValue) → AreOfTheory cited made → AreRead (signature_of cited) qs (Ok readings) → AreOver (resolved_basis cited readings) readings
resolved_over cited made qs readings h read =
    let keep : List ℕ → Bool = λ c. occurs_in c readings in
    readings_are_over (resolved_basis cited readings) (fewer keep (signature_of cited)) qs readings
    (cited_stand (resolved_basis cited readings) keep cited (resolved_cited readings cited made h))
    (all_kept keep (signature_of cited) qs readings (λ c o. o) read)

-- the same where what is known of the signature and the quotations is by other names
pub readings_over : (cited made : Values) (over : SignatureValue) (qs : List AnyQuotation) (own : Result ReadingsValue Refusal) (readings : ReadingsValue) → AreOfTheory cited made → over ≡ signature_of cited →
    AreRead over qs own → own ≡ Ok readings → AreOver (resolved_basis cited readings) readings
readings_over cited made over qs own readings h e read is =
    resolved_over cited made qs readings h (subst (λ (w : SignatureValue). AreRead w qs (Ok readings)) e (subst (λ (r : Result ReadingsValue Refusal). AreRead over qs r) is read))

-- ---- one quotation

one_read : (cited : Values) (q : QuotationText) (p : Nameless) → IsTermReadAs (signature_of cited) q.term (ReadsAs p) → AreRead (signature_of cited) (quoted.Term q ∷ []) (Ok ((q.place, ATerm p) ∷ []))
one_read cited q p h = ((q.place, ReadsAs (ATerm p)) ∷ [], (refl, (ReadsAs p, h, refl), tt), refl)

typed_at : (items : Items) (p : Nameless) → is_typed items p ≡ true → is_type_at (nameless_type [] p) bool_type ≡ true → HasType items p bool_type
typed_at items p typed e = by (is_known items p) refl typed
  where
    by : (b : Bool) → is_known items p ≡ b → is_some (cond b (nameless_type [] p) None) ≡ true → HasType items p bool_type
    by true k h = typed_known items p bool_type k (of_bool (nameless_type [] p) e)
    by false k h = absurd (cc)

-- a quotation of type bool is a statement over the basis of what it resolves
pub statement_over : (cited made : Values) (place : ℕ) (s : TermText) (p : Nameless) (b : Bool) → AreOfTheory cited made → IsTermReadAs (signature_of cited) s (ReadsAs p) → b ≡ true →
    b ≡ is_type_at (nameless_type [] p) bool_type → IsStatement (resolved_basis cited ((place, ATerm p) ∷ [])) p
statement_over cited made place s p b h read e f =
    typed_at (resolved_basis cited ((place, ATerm p) ∷ [])) p (resolved_over cited made (quoted.Term (record { place = place; term = s }) ∷ []) ((place, ATerm p) ∷ []) h (one_read cited (record { place = place; term = s }) p read)).0
    (sym f ∙ e)

-- a type that is read is one over the basis of what it resolves
pub type_over_resolved : (cited made : Values) (place : ℕ) (s : TypeText) (a : TypeTree) → AreOfTheory cited made → type_reading (signature_of cited) s ≡ ReadsAs a →
    is_type (resolved_basis cited ((place, quoting.AType a) ∷ [])) a ≡ true
type_over_resolved cited made place s a h read =
    (resolved_over cited made (quoted.Type (record { place = place; ty = s }) ∷ []) ((place, quoting.AType a) ∷ []) h
    ((place, ReadsAs (quoting.AType a)) ∷ [], (refl, sym (ap (reading_map quoting.AType) read), tt), refl)).0

-- the equation of a definition is known over the basis of what it resolves
pub definition_over : (cited made : Values) (place : ℕ) (d : DefinitionText) (p : Nameless) → AreOfTheory cited made → IsDefinitionReadAs (signature_of cited) d (ReadsAs p) →
    is_known (resolved_basis cited ((place, ATerm p) ∷ [])) p ≡ true
definition_over cited made place d p h read =
    let readings : ReadingsValue = (place, ATerm p) ∷ [] in
    let keep : List ℕ → Bool = λ c. occurs_in c readings in
    let items : Items = resolved_basis cited readings in
    known items p
    (definition_stands (has_arity items) (has_constant items) (signature_of cited).types (kept keep (signature_of cited).constants) d p (cited_stand items keep cited (resolved_cited readings cited made h)) read.0
    (definition_kept keep (signature_of cited).types (signature_of cited).constants d p (λ c o. ap (λ b. b || false) o) read.1))
