-- What reads among names that stand over a basis stands over it.
use Rattle.std.specs.Prelude.{◌≡◌, ℕ, Bool, true, false, cond, ◌&&◌, is_some, codes, nat_lt, List, [], ◌∷◌, Option, Some, None, Ok, refl}
use Rattle.std.proofs.Common.{ap, sym, ◌∙◌, subst, arith}
use Rattle.std.proofs.lemmas.Bool.{eqb-true, and_parts, and_from}
use Rattle.std.proofs.lemmas.Slice.Eq.{bytes_eq-Decides}
use Rattle.hol_types.specs.Tree.{TypeTree, TypeList, TyVar, TyApp, no_types, more_types, type_size}
use Rattle.hol_terms.specs.Nameless.{Nameless, free, bound, fixed, app, lam, base_of, nameless_type}
use Rattle.hol_kernel.specs.Items.{Items, IsSubset, IsWithin}
use Rattle.hol_kernel.specs.Signature.{has_arity, has_constant}
use Rattle.hol_kernel.specs.Typing.{types_count, is_type, are_types, is_known, is_typed, type_over}
use Rattle.hol_kernel.proofs.Subsets.{within_of_subset}
use Rattle.hol_kernel.proofs.Weaken.{is_type_more, typed_wider}
use Rattle.hol_notation_terms.specs.Text.{TypeText, TypeTexts, TermText, Ident, Arrow, Apply, no_types as no_texts, more_types as more_texts}
use Rattle.hol_infer.specs.Resolving.{arity_of, ident_type, type_of_text, types_of_texts, text_count, stands_alone, takes as takes_count, has_arities, have_arities, raw_of}
use Rattle.hol_infer.specs.Standing.{stands, all_stand, TermStands, AreStanding}
use Rattle.hol_infer.proofs.Standing.{reading_typed}
use Rattle.hol_infer.proofs.StandingLaws.{count_texts, reading_stands}
use Rattle.hol_resolve.specs.declared.quotations.AnyQuotation.{AnyQuotation}
use Rattle.hol_resolve.specs.declared.quotations.AnyQuotation.TheVariants as quoted
use Rattle.hol_resolve.specs.Signature.{SignatureValue}
use Rattle.hol_resolve.specs.Reading.{ReadingValue, WrongArity, NoTyping, LargeReading, ReadsAs, IsTermReadAs, small_type}
use Rattle.hol_resolve.specs.Readings.{QuotedValue, ATerm, AType, ReadingsValue, Attempts, reading_map, IsQuotedAs, AreAttempts, has_wrong_arity, has_no_typing, is_large, first_with, read_at, all_read, unless_large, unless_untyped, unless_wrong, AreRead}
use Rattle.hol_resolve.specs.Over.{IsQuotedOver, AreOver}

typed_at : (known : Bool) (o : Option TypeTree) (a : TypeTree) → known ≡ true → o ≡ Some a → is_some (cond known o None) ≡ true
typed_at known o a k e = λ i. is_some (cond (k i) (e i) None)

module _ (basis : Items) (over : SignatureValue) (s : AreStanding (has_arity basis) (has_constant basis) over.types over.constants) where
  -- ---- types

  ident_stands : (a : List ℕ) (o : Option ℕ) → arity_of over.types a ≡ o → stands_alone o ≡ true → is_type basis (ident_type o a) ≡ true
  ident_stands a None e h = refl
  ident_stands a (Some n) e h = and_from (has_arity basis a 0) true (subst (λ (k : ℕ). has_arity basis a k ≡ true) (eqb-true n 0 h) (s.constructors a n e)) refl

  takes_stands : (c : List ℕ) (k : ℕ) (o : Option ℕ) → arity_of over.types c ≡ o → takes_count o k ≡ true → has_arity basis c k ≡ true
  takes_stands c k None e h = absurd (cc)
  takes_stands c k (Some n) e h = subst (λ (j : ℕ). has_arity basis c j ≡ true) (eqb-true n k h) (s.constructors c n e)

  mutual
    type_stands : (t : TypeText) → has_arities over.types t ≡ true → is_type basis (type_of_text over.types t) ≡ true
    type_stands (Ident a) h = ident_stands a (arity_of over.types a) refl h
    type_stands (Arrow t u) h =
        let p = and_parts (has_arities over.types t) (has_arities over.types u) h in
        and_from (has_arity basis (codes "fun") 2) (is_type basis (type_of_text over.types t) && (is_type basis (type_of_text over.types u) && true)) s.functions
        (and_from (is_type basis (type_of_text over.types t)) (is_type basis (type_of_text over.types u) && true) (type_stands t p.0) (and_from (is_type basis (type_of_text over.types u)) true (type_stands u p.1) refl))
    type_stands (Apply c ts) h =
        let p = and_parts (takes_count (arity_of over.types c) (text_count ts)) (have_arities over.types ts) h in
        and_from (has_arity basis c (types_count (types_of_texts over.types ts))) (are_types basis (types_of_texts over.types ts))
        (ap (has_arity basis c) (count_texts over.types ts) ∙ takes_stands c (text_count ts) (arity_of over.types c) refl p.0) (types_stand ts p.1)

    types_stand : (ts : TypeTexts) → have_arities over.types ts ≡ true → are_types basis (types_of_texts over.types ts) ≡ true
    types_stand no_texts h = refl
    types_stand (more_texts t ts) h =
        let p = and_parts (has_arities over.types t) (have_arities over.types ts) h in
        and_from (is_type basis (type_of_text over.types t)) (are_types basis (types_of_texts over.types ts)) (type_stands t p.0) (types_stand ts p.1)

  -- ---- terms

  mutual
    type_same : (t : TypeTree) → stands (has_arity basis) t ≡ is_type basis t
    type_same (TyVar a) = refl
    type_same (TyApp c ts) = λ i. has_arity basis c (types_count ts) && types_same ts i

    types_same : (ts : TypeList) → all_stand (has_arity basis) ts ≡ are_types basis ts
    types_same no_types = refl
    types_same (more_types t ts) = λ i. type_same t i && types_same ts i

  known : (p : Nameless) → TermStands (has_arity basis) (has_constant basis) p → is_known basis p ≡ true
  known (free v) h = sym (type_same v.1) ∙ h
  known (bound i) h = refl
  known (fixed c a) h = λ i. (sym (type_same a) ∙ h.0) i && h.1 i
  known (app f x) h = λ i. known f h.0 i && known x h.1 i
  known (lam a d b) h = λ i. (bytes_eq-Decides (base_of a) a).1 h.0 i && ((sym (type_same d) ∙ h.1) i && known b h.2 i)

  reading_over : (t : TermText) (p : Nameless) → IsTermReadAs over t (ReadsAs p) → is_typed basis p ≡ true
  reading_over t p h =
      let typed = reading_typed (raw_of over.types over.constants [] t) p h.1 in
      typed_at (is_known basis p) (nameless_type [] p) typed.0 (known p (reading_stands (has_arity basis) (has_constant basis) over.types over.constants t p s h.0 h.1)) typed.1

  -- ---- quotations

  abbrev AttemptOver : ReadingValue QuotedValue → Type 0
  AttemptOver WrongArity = Unit {0}
  AttemptOver NoTyping = Unit {0}
  AttemptOver LargeReading = Unit {0}
  AttemptOver (ReadsAs v) = IsQuotedOver basis v

  term_attempt : (t : TermText) (own : ReadingValue Nameless) → IsTermReadAs over t own → AttemptOver (reading_map ATerm own)
  term_attempt t WrongArity h = tt
  term_attempt t NoTyping h = tt
  term_attempt t LargeReading h = tt
  term_attempt t (ReadsAs p) h = reading_over t p h

  small_attempt : (a : TypeTree) (large : Bool) → is_type basis a ≡ true → AttemptOver (reading_map AType (cond large LargeReading (ReadsAs a)))
  small_attempt a true h = tt
  small_attempt a false h = h

  type_attempt : (t : TypeText) (arities : Bool) → has_arities over.types t ≡ arities → AttemptOver (reading_map AType (cond arities (small_type (type_of_text over.types t)) WrongArity))
  type_attempt t true e = small_attempt (type_of_text over.types t) (nat_lt 20000 (type_size (type_of_text over.types t))) (type_stands t e)
  type_attempt t false e = tt

  quoted_over : (q : AnyQuotation) (r : ReadingValue QuotedValue) → IsQuotedAs over q r → AttemptOver r
  quoted_over (quoted.Term t) r h = subst AttemptOver (sym h.2) (term_attempt t.term h.0 h.1)
  quoted_over (quoted.Type a) r h = subst AttemptOver (sym h) (type_attempt a.ty (has_arities over.types a.ty) refl)

  add_over : (place : ℕ) (r : ReadingValue QuotedValue) (more : ReadingsValue) → AttemptOver r → AreOver basis more → AreOver basis (read_at place r more)
  add_over place WrongArity more h k = k
  add_over place NoTyping more h k = k
  add_over place LargeReading more h k = k
  add_over place (ReadsAs v) more h k = (h, k)

  all_over : (quotations : List AnyQuotation) (attempts : Attempts) → AreAttempts over quotations attempts → AreOver basis (all_read attempts)
  all_over [] [] h = tt
  all_over [] (t ∷ attempts) h = absurd h
  all_over (q ∷ quotations) [] h = absurd h
  all_over (q ∷ quotations) (t ∷ attempts) h = add_over t.0 t.1 (all_read attempts) (quoted_over q t.1 h.1) (all_over quotations attempts h.2)

  -- ---- all that is read

  of_large : (o : Option ℕ) (attempts : Attempts) (readings : ReadingsValue) → AreOver basis (all_read attempts) → Ok readings ≡ unless_large o attempts → AreOver basis readings
  of_large None attempts readings h e = let same : readings ≡ all_read attempts = cc in subst (AreOver basis) (sym same) h
  of_large (Some place) attempts readings h e = absurd (cc)

  of_untyped : (o : Option ℕ) (attempts : Attempts) (readings : ReadingsValue) → AreOver basis (all_read attempts) → Ok readings ≡ unless_untyped o attempts → AreOver basis readings
  of_untyped None attempts readings h e = of_large (first_with is_large attempts) attempts readings h e
  of_untyped (Some place) attempts readings h e = absurd (cc)

  of_wrong : (o : Option ℕ) (attempts : Attempts) (readings : ReadingsValue) → AreOver basis (all_read attempts) → Ok readings ≡ unless_wrong o attempts → AreOver basis readings
  of_wrong None attempts readings h e = of_untyped (first_with has_no_typing attempts) attempts readings h e
  of_wrong (Some place) attempts readings h e = absurd (cc)

  read_over : (quotations : List AnyQuotation) (readings : ReadingsValue) → AreRead over quotations (Ok readings) → AreOver basis readings
  read_over quotations readings h = of_wrong (first_with has_wrong_arity h.0) h.0 readings (all_over quotations h.0 h.1) h.2

pub readings_are_over : (basis : Items) (over : SignatureValue) (quotations : List AnyQuotation) (readings : ReadingsValue) → AreStanding (has_arity basis) (has_constant basis) over.types over.constants → AreRead over quotations (Ok readings) → AreOver basis readings
readings_are_over basis over quotations readings s h = read_over basis over s quotations readings h

-- ---- larger bases

typed_more : (few more : Items) (within : IsWithin few more) (t : Nameless) → is_typed few t ≡ true → is_typed more t ≡ true
typed_more few more within t e = by (type_over few t) refl e
  where
    by : (o : Option TypeTree) → type_over few t ≡ o → is_some o ≡ true → is_typed more t ≡ true
    by None h g = absurd (cc)
    by (Some a) h g = ap is_some (typed_wider few more within t a h)

quoted_more : (few more : Items) (within : IsWithin few more) (v : QuotedValue) → IsQuotedOver few v → IsQuotedOver more v
quoted_more few more within (ATerm t) h = typed_more few more within t h
quoted_more few more within (AType a) h = is_type_more few more within a h

pub readings_widen : (few more : Items) (readings : ReadingsValue) → IsSubset few more → AreOver few readings → AreOver more readings
readings_widen few more [] within h = tt
readings_widen few more (r ∷ readings) within h = (quoted_more few more (within_of_subset few more within) r.1 h.0, readings_widen few more readings within h.1)
