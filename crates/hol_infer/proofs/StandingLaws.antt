-- What is resolved among names that stand stands, and so do its readings.
use Rattle.std.proofs.Common.{◌≡◌, ℕ, List, [], ◌∷◌, refl, sym, ◌∙◌, ap, subst, Bool, true, false, ◌&&◌, cond, bytes_eq, codes, arith, Option, Some, None}
use Rattle.std.proofs.lemmas.Bool.{eqb-true, and_parts, and_from}
use Rattle.std.specs.Option.{option_map}
use Rattle.std.proofs.lemmas.Slice.Eq.{bytes_eq-Decides}
use Rattle.hol_types.specs.Tree.{TypeTree}
use Rattle.hol_terms.specs.Nameless.{Nameless}
use Rattle.hol_notation_terms.specs.declared.operator.Operator.{Operator}
use Rattle.hol_notation_terms.specs.declared.operator.Operator.TheVariants.{Iff, Implies, Or, And, Equals, Not, ForAll, Exists, ExistsUnique, Choice}
use Rattle.hol_notation_terms.specs.Text.{TypeText, TypeTexts, Ident, Arrow, Apply, no_types as no_texts, more_types as more_texts, VariableText, RightSideText, DefinitionText, TermText, Named, Constant, Applied, Abstraction, Typed}
use Rattle.hol_typing.specs.Raw.{RawTree}
use Rattle.hol_infer.specs.Reading.{IsReading}
use Rattle.hol_infer.specs.Resolving.{arity_of, generic_type_of, ident_type, type_of_text, types_of_texts, text_count, stands_alone, takes as takes_count, has_arities, have_arities, option_has_arities, term_has_arities, name_index, resolved, identifier, resolved_sign, sign, operator_raw, raw_of, annotated, at_bool, value_raw, value_has_arities, definition_has_arities, without, definition_raw}
use Rattle.hol_infer.specs.Standing.{types_count, stands, all_stand, TermStands, AreStanding}
use Rattle.hol_infer.proofs.Standing.{OptionStands, RawStands, principal_stands}

pub count_texts : (arities : List (List ℕ × ℕ)) (ts : TypeTexts) → types_count (types_of_texts arities ts) ≡ text_count ts
count_texts arities no_texts = refl
count_texts arities (more_texts t ts) = let r = count_texts arities ts in omega (arith, r)

-- what stands but for a name stands
gone : (c : List ℕ) (ps : List (List ℕ × TypeTree)) → generic_type_of (without c ps) c ≡ None
gone c [] = refl
gone c (p ∷ ps) = by (bytes_eq p.0 c) refl (gone c ps)
  where
    by : (b : Bool) → bytes_eq p.0 c ≡ b → generic_type_of (without c ps) c ≡ None → generic_type_of (cond b (without c ps) (p ∷ without c ps)) c ≡ None
    by true f r = r
    by false f r = rw f r

apart : (c x a : List ℕ) → bytes_eq c x ≡ false → bytes_eq a c ≡ true → bytes_eq a x ≡ false
apart c x a n f = subst (λ (y : List ℕ). bytes_eq y x ≡ false) (sym ((bytes_eq-Decides a c).0 f)) n

kept : (c x : List ℕ) (ps : List (List ℕ × TypeTree)) → bytes_eq c x ≡ false → generic_type_of (without c ps) x ≡ generic_type_of ps x
kept c x [] n = refl
kept c x (p ∷ ps) n = by (bytes_eq p.0 c) refl (kept c x ps n)
  where
    by : (b : Bool) → bytes_eq p.0 c ≡ b → generic_type_of (without c ps) x ≡ generic_type_of ps x → generic_type_of (cond b (without c ps) (p ∷ without c ps)) x ≡ cond (bytes_eq p.0 x) (Some p.1) (generic_type_of ps x)
    by true f r = let k : bytes_eq p.0 x ≡ false = apart c x p.0 n f in rw k r
    by false f r = ap (λ (o : Option TypeTree). cond (bytes_eq p.0 x) (Some p.1) o) r

without_found : (c : List ℕ) (constants : List (List ℕ × TypeTree)) (x : List ℕ) (g : TypeTree) → generic_type_of (without c constants) x ≡ Some g → generic_type_of constants x ≡ Some g
without_found c constants x g e = by (bytes_eq c x) refl
  where
    by : (b : Bool) → bytes_eq c x ≡ b → generic_type_of constants x ≡ Some g
    by true f =
        let n : generic_type_of (without c constants) x ≡ None = subst (λ (y : List ℕ). generic_type_of (without c constants) y ≡ None) ((bytes_eq-Decides c x).0 f) (gone c constants) in
        let z : None ≡ Some g = sym n ∙ e in
        absurd (cc)
    by false f = sym (kept c x constants f) ∙ e

module _ (takes : List ℕ → ℕ → Bool) (has : List ℕ → TypeTree → Bool) (arities : List (List ℕ × ℕ)) where
  ident_stands : (constants : List (List ℕ × TypeTree)) → AreStanding takes has arities constants → (a : List ℕ) (o : Option ℕ) → arity_of arities a ≡ o → stands_alone o ≡ true → stands takes (ident_type o a) ≡ true
  ident_stands constants s a None e h = refl
  ident_stands constants s a (Some n) e h = and_from (takes a 0) true (subst (λ (k : ℕ). takes a k ≡ true) (eqb-true n 0 h) (s.constructors a n e)) refl

  takes_stands : (constants : List (List ℕ × TypeTree)) → AreStanding takes has arities constants → (c : List ℕ) (k : ℕ) (o : Option ℕ) → arity_of arities c ≡ o → takes_count o k ≡ true → takes c k ≡ true
  takes_stands constants s c k None e h = absurd (cc)
  takes_stands constants s c k (Some n) e h = subst (λ (j : ℕ). takes c j ≡ true) (eqb-true n k h) (s.constructors c n e)

  mutual
    type_stands : (constants : List (List ℕ × TypeTree)) → AreStanding takes has arities constants → (t : TypeText) → has_arities arities t ≡ true → stands takes (type_of_text arities t) ≡ true
    type_stands constants s (Ident a) h = ident_stands constants s a (arity_of arities a) refl h
    type_stands constants s (Arrow t u) h =
        let p : stands takes (type_of_text arities t) ≡ true = type_stands constants s t ((and_parts (has_arities arities t) (has_arities arities u) h).0) in
        let q : stands takes (type_of_text arities u) ≡ true = type_stands constants s u ((and_parts (has_arities arities t) (has_arities arities u) h).1) in
        and_from (takes (codes "fun") 2) (stands takes (type_of_text arities t) && (stands takes (type_of_text arities u) && true)) s.functions
        (and_from (stands takes (type_of_text arities t)) (stands takes (type_of_text arities u) && true) p (and_from (stands takes (type_of_text arities u)) true q refl))
    type_stands constants s (Apply c ts) h =
        and_from (takes c (types_count (types_of_texts arities ts))) (all_stand takes (types_of_texts arities ts))
        (ap (takes c) (count_texts arities ts) ∙ takes_stands constants s c (text_count ts) (arity_of arities c) refl ((and_parts (takes_count (arity_of arities c) (text_count ts)) (have_arities arities ts) h).0))
        (types_stand constants s ts ((and_parts (takes_count (arity_of arities c) (text_count ts)) (have_arities arities ts) h).1))

    types_stand : (constants : List (List ℕ × TypeTree)) → AreStanding takes has arities constants → (ts : TypeTexts) → have_arities arities ts ≡ true → all_stand takes (types_of_texts arities ts) ≡ true
    types_stand constants s no_texts h = refl
    types_stand constants s (more_texts t ts) h =
        and_from (stands takes (type_of_text arities t)) (all_stand takes (types_of_texts arities ts)) (type_stands constants s t ((and_parts (has_arities arities t) (have_arities arities ts) h).0)) (types_stand constants s ts ((and_parts (has_arities arities t) (have_arities arities ts) h).1))

  option_stands : (constants : List (List ℕ × TypeTree)) → AreStanding takes has arities constants → (o : Option TypeText) → option_has_arities arities o ≡ true → OptionStands takes (option_map (type_of_text arities) o)
  option_stands constants s None h = tt
  option_stands constants s (Some t) h = type_stands constants s t h

  resolved_stands : (constants : List (List ℕ × TypeTree)) → AreStanding takes has arities constants → (x : List ℕ) (i : Option ℕ) (o : Option TypeTree) → generic_type_of constants x ≡ o → RawStands takes has (resolved i o x)
  resolved_stands constants s x (Some i) o e = tt
  resolved_stands constants s x None (Some g) e = s.generics x g e
  resolved_stands constants s x None None e = tt

  identifier_stands : (constants : List (List ℕ × TypeTree)) → AreStanding takes has arities constants → (names : List (List ℕ)) (x : List ℕ) → RawStands takes has (identifier constants names x)
  identifier_stands constants s names x = resolved_stands constants s x (name_index names x) (generic_type_of constants x) refl

  sign_stands : (constants : List (List ℕ × TypeTree)) → AreStanding takes has arities constants → (names : List (List ℕ)) (x : List ℕ) → RawStands takes has (sign constants names x)
  sign_stands constants s names x = by (generic_type_of constants x) (name_index names x) refl
    where
      by : (o : Option TypeTree) (i : Option ℕ) → generic_type_of constants x ≡ o → RawStands takes has (resolved_sign o i x)
      by (Some g) i e = s.generics x g e
      by None (Some i) e = tt
      by None None e = tt

  operator_stands : (constants : List (List ℕ × TypeTree)) → AreStanding takes has arities constants → (names : List (List ℕ)) (c : Operator) → RawStands takes has (operator_raw constants names c)
  operator_stands constants s names Iff = (rw (s.functions, s.truth) refl, λ pairs. s.equality)
  operator_stands constants s names Implies = sign_stands constants s names (codes "==>")
  operator_stands constants s names Or = sign_stands constants s names (codes "\\/")
  operator_stands constants s names And = sign_stands constants s names (codes "/\\")
  operator_stands constants s names Equals = sign_stands constants s names (codes "=")
  operator_stands constants s names Not = sign_stands constants s names (codes "~")
  operator_stands constants s names ForAll = sign_stands constants s names (codes "!")
  operator_stands constants s names Exists = sign_stands constants s names (codes "?")
  operator_stands constants s names ExistsUnique = sign_stands constants s names (codes "?!")
  operator_stands constants s names Choice = sign_stands constants s names (codes "@")

  raw_stands : (constants : List (List ℕ × TypeTree)) → AreStanding takes has arities constants → (names : List (List ℕ)) (t : TermText) → term_has_arities arities t ≡ true → RawStands takes has (raw_of arities constants names t)
  raw_stands constants s names (Named x) h = identifier_stands constants s names x
  raw_stands constants s names (Constant c) h = operator_stands constants s names c
  raw_stands constants s names (Applied f a) h =
      (raw_stands constants s names f ((and_parts (term_has_arities arities f) (term_has_arities arities a) h).0), raw_stands constants s names a ((and_parts (term_has_arities arities f) (term_has_arities arities a) h).1))
  raw_stands constants s names (Abstraction v b) h =
      (option_stands constants s v.annotation ((and_parts (option_has_arities arities v.annotation) (term_has_arities arities b) h).0), raw_stands constants s (v.name ∷ names) b ((and_parts (option_has_arities arities v.annotation) (term_has_arities arities b) h).1))
  raw_stands constants s names (Typed t ty) h =
      (raw_stands constants s names t ((and_parts (term_has_arities arities t) (has_arities arities ty) h).0), type_stands constants s ty ((and_parts (term_has_arities arities t) (has_arities arities ty) h).1))

  annotated_stands : (o : Option TypeTree) (r : RawTree) → OptionStands takes o → RawStands takes has r → RawStands takes has (annotated o r)
  annotated_stands None r p h = h
  annotated_stands (Some ty) r p h = (h, p)

  at_bool_stands : (constants : List (List ℕ × TypeTree)) → AreStanding takes has arities constants → (b : Bool) (r : RawTree) → RawStands takes has r → RawStands takes has (at_bool b r)
  at_bool_stands constants s false r h = h
  at_bool_stands constants s true r h = (h, rw s.truth refl)

  value_stands : (constants : List (List ℕ × TypeTree)) → AreStanding takes has arities constants → (names : List (List ℕ)) (vs : List VariableText) (r : RightSideText) → value_has_arities arities vs r ≡ true → RawStands takes has (value_raw arities constants names vs r)
  value_stands constants s names [] r h =
      at_bool_stands constants s r.is_iff (annotated (option_map (type_of_text arities) r.annotation) (raw_of arities constants names r.term))
      (annotated_stands (option_map (type_of_text arities) r.annotation) (raw_of arities constants names r.term)
      (option_stands constants s r.annotation ((and_parts (term_has_arities arities r.term) (option_has_arities arities r.annotation) h).1))
      (raw_stands constants s names r.term ((and_parts (term_has_arities arities r.term) (option_has_arities arities r.annotation) h).0)))
  value_stands constants s names (v ∷ vs) r h =
      (option_stands constants s v.annotation ((and_parts (option_has_arities arities v.annotation) (value_has_arities arities vs r) h).0), value_stands constants s (v.name ∷ names) vs r ((and_parts (option_has_arities arities v.annotation) (value_has_arities arities vs r) h).1))

without_standing : (takes : List ℕ → ℕ → Bool) (has : List ℕ → TypeTree → Bool) (arities : List (List ℕ × ℕ)) (constants : List (List ℕ × TypeTree)) (c : List ℕ) → AreStanding takes has arities constants → AreStanding takes has arities (without c constants)
without_standing takes has arities constants c s = record {
  functions = s.functions;
  truth = s.truth;
  equality = s.equality;
  constructors = s.constructors;
  generics = λ x g e. s.generics x g (without_found c constants x g e);
}

pub reading_stands : (takes : List ℕ → ℕ → Bool) (has : List ℕ → TypeTree → Bool) (arities : List (List ℕ × ℕ)) (constants : List (List ℕ × TypeTree)) (t : TermText) (p : Nameless) →
    AreStanding takes has arities constants → term_has_arities arities t ≡ true → IsReading (raw_of arities constants [] t) p → TermStands takes has p
reading_stands takes has arities constants t p s h r = principal_stands takes has (raw_of arities constants [] t) p s.functions (raw_stands takes has arities constants s [] t h) r.principal

pub definition_stands : (takes : List ℕ → ℕ → Bool) (has : List ℕ → TypeTree → Bool) (arities : List (List ℕ × ℕ)) (constants : List (List ℕ × TypeTree)) (d : DefinitionText) (p : Nameless) →
    AreStanding takes has arities constants → definition_has_arities arities d ≡ true → IsReading (definition_raw arities constants d) p → TermStands takes has p
definition_stands takes has arities constants d p s h r =
    principal_stands takes has (definition_raw arities constants d) p s.functions
    ((operator_stands takes has arities constants s [] Equals, tt), value_stands takes has arities (without d.name constants) (without_standing takes has arities constants d.name s) [] d.parameters d.right h)
    r.principal
