-- Resolved terms: their indexes and free names are scoped, and their annotations have no open type variables.
use Rattle.std.proofs.Common.{◌≡◌, ◌≢◌, ℕ, ◌+◌, ◌<◌, ◌≤◌, zero, suc, List, [], ◌∷◌, ◌++◌, length, map, get_or, take, refl, sym, ◌∙◌, ap, subst, arith, add-one, Bool, true, false, ◌&&◌, cond, bytes_eq, codes, Option, Some, None}
use Rattle.std.specs.Option.{option_map}
use Rattle.std.proofs.lemmas.Bool.{and_from, and_right}
use Rattle.std.proofs.lemmas.List.{take_more, take_all, map-append}
use Rattle.std.proofs.lemmas.Slice.Eq.{bytes_eq-Decides}
use Rattle.hol_notation_terms.proofs.SameTypes.{nodes_at}
use Rattle.hol_types.specs.Tree.{TypeTree, TyApp, more_types, type_list}
use Rattle.hol_types.specs.Names.{is_among}
use Rattle.hol_notation_terms.specs.declared.operator.Operator.{Operator}
use Rattle.hol_notation_terms.specs.declared.operator.Operator.TheVariants.{Iff, Implies, Or, And, Equals, Not, ForAll, Exists, ExistsUnique, Choice}
use Rattle.hol_notation_terms.specs.Text.{TypeText, TypeTexts, Ident, Arrow, Apply, no_types as no_texts, more_types as more_texts, type_texts, type_nodes, types_nodes, TermText, VariableText, RightSideText, DefinitionText, Named, Constant, Applied, Abstraction, Typed}
use Rattle.hol_typing.specs.Raw.{RawTree, RawFree, RawApply}
use Rattle.hol_typing.specs.Scoped.{IsFirstAt, IsScoped, HasNoOpenName, HaveNoOpenName, IsRigid, HasRigidAnnotations}
use Rattle.hol_infer.specs.Resolving.{arity_of, generic_type_of, ident_type, type_of_text, types_of_texts, text_count, has_arities, have_arities, bool_type, name_index, resolved, identifier, resolved_sign, sign, operator_raw, raw_of, takes, annotated, at_bool, value_raw, without, definition_raw}
use Rattle.hol_typing.proofs.Instances.{turned}
use Rattle.hol_infer.proofs.Marks.{written_rigid}

-- ---- scopes

index_there : (j : ℕ) (a b : List ℕ) (names : List (List ℕ)) → b ≢ a → IsFirstAt names j a → IsFirstAt (b ∷ names) (j + 1) a
index_there j a b names ne h = subst (λ (i : ℕ). IsFirstAt (b ∷ names) i a) (sym (add-one j)) (ne, h)

index_first : (names : List (List ℕ)) (a : List ℕ) (i : ℕ) → name_index names a ≡ Some i → IsFirstAt names i a
index_first [] a i e = absurd (cc)
index_first (b ∷ names) a i e = by (bytes_eq b a) refl e (index_first names a)
  where
    next : (o : Option ℕ) → bytes_eq b a ≡ false → option_map (λ j. j + 1) o ≡ Some i → ((j : ℕ) → o ≡ Some j → IsFirstAt names j a) → IsFirstAt (b ∷ names) i a
    next None f g r = absurd (cc)
    next (Some j) f g r =
        let q : j + 1 ≡ i = cc in
        let ne : b ≢ a = λ n. (let z : true ≡ false = sym ((bytes_eq-Decides b a).1 n) ∙ f in cc) in
        subst (λ (k : ℕ). IsFirstAt (b ∷ names) k a) q (index_there j a b names ne (r j refl))

    by : (t : Bool) → bytes_eq b a ≡ t → cond t (Some 0) (option_map (λ j. j + 1) (name_index names a)) ≡ Some i → ((j : ℕ) → name_index names a ≡ Some j → IsFirstAt names j a) → IsFirstAt (b ∷ names) i a
    by true f g r = let q : 0 ≡ i = cc in subst (λ (k : ℕ). IsFirstAt (b ∷ names) k a) q ((bytes_eq-Decides b a).0 f)
    by false f g r = next (name_index names a) f g r

index_none : (names : List (List ℕ)) (a : List ℕ) → name_index names a ≡ None → is_among names a ≡ false
index_none [] a e = refl
index_none (b ∷ names) a e = by (bytes_eq b a) refl e (index_none names a)
  where
    next : (o : Option ℕ) → option_map (λ j. j + 1) o ≡ None → o ≡ None
    next None g = refl
    next (Some j) g = absurd (cc)

    by : (t : Bool) → bytes_eq b a ≡ t → cond t (Some 0) (option_map (λ j. j + 1) (name_index names a)) ≡ None → (name_index names a ≡ None → is_among names a ≡ false) → is_among (b ∷ names) a ≡ false
    by true f g r = absurd (cc)
    by false f g r = let h : bytes_eq a b ≡ false = turned a b f in rw (h, r (next (name_index names a) g)) refl

resolved_scoped : (names : List (List ℕ)) (x : List ℕ) (o : Option ℕ) (generic : Option TypeTree) → name_index names x ≡ o → IsScoped names (resolved o generic x)
resolved_scoped names x (Some i) generic e = (x, index_first names x i e)
resolved_scoped names x None (Some generic) e = tt
resolved_scoped names x None None e = index_none names x e

identifier_scoped : (constants : List (List ℕ × TypeTree)) (names : List (List ℕ)) (x : List ℕ) → IsScoped names (identifier constants names x)
identifier_scoped constants names x = resolved_scoped names x (name_index names x) (generic_type_of constants x) refl

sign_scoped : (constants : List (List ℕ × TypeTree)) (names : List (List ℕ)) (x : List ℕ) → IsScoped names (sign constants names x)
sign_scoped constants names x = by (generic_type_of constants x) (name_index names x) refl
  where
    by : (generic : Option TypeTree) (o : Option ℕ) → name_index names x ≡ o → IsScoped names (resolved_sign generic o x)
    by (Some generic) o e = tt
    by None (Some i) e = (x, index_first names x i e)
    by None None e = index_none names x e

operator_scoped : (constants : List (List ℕ × TypeTree)) (names : List (List ℕ)) (c : Operator) → IsScoped names (operator_raw constants names c)
operator_scoped constants names Iff = tt
operator_scoped constants names Implies = sign_scoped constants names (codes "==>")
operator_scoped constants names Or = sign_scoped constants names (codes "\\/")
operator_scoped constants names And = sign_scoped constants names (codes "/\\")
operator_scoped constants names Equals = sign_scoped constants names (codes "=")
operator_scoped constants names Not = sign_scoped constants names (codes "~")
operator_scoped constants names ForAll = sign_scoped constants names (codes "!")
operator_scoped constants names Exists = sign_scoped constants names (codes "?")
operator_scoped constants names ExistsUnique = sign_scoped constants names (codes "?!")
operator_scoped constants names Choice = sign_scoped constants names (codes "@")

pub raw_scoped : (arities : List (List ℕ × ℕ)) (constants : List (List ℕ × TypeTree)) (names : List (List ℕ)) (t : TermText) → IsScoped names (raw_of arities constants names t)
raw_scoped arities constants names (Named x) = identifier_scoped constants names x
raw_scoped arities constants names (Constant c) = operator_scoped constants names c
raw_scoped arities constants names (Applied f a) = (raw_scoped arities constants names f, raw_scoped arities constants names a)
raw_scoped arities constants names (Abstraction v b) = raw_scoped arities constants (v.name ∷ names) b
raw_scoped arities constants names (Typed t ty) = raw_scoped arities constants names t

-- ---- annotations

ident_rigid : (o : Option ℕ) (a : List ℕ) → HasNoOpenName (ident_type o a)
ident_rigid None a = written_rigid a
ident_rigid (Some n) a = tt

mutual
  type_rigid : (arities : List (List ℕ × ℕ)) (t : TypeText) → HasNoOpenName (type_of_text arities t)
  type_rigid arities (Ident a) = ident_rigid (arity_of arities a) a
  type_rigid arities (Arrow s t) = (type_rigid arities s, (type_rigid arities t, tt))
  type_rigid arities (Apply c ts) = types_rigid arities ts

  types_rigid : (arities : List (List ℕ × ℕ)) (ts : TypeTexts) → HaveNoOpenName (types_of_texts arities ts)
  types_rigid arities no_texts = tt
  types_rigid arities (more_texts t ts) = (type_rigid arities t, types_rigid arities ts)

option_rigid : (arities : List (List ℕ × ℕ)) (o : Option TypeText) → IsRigid (option_map (type_of_text arities) o)
option_rigid arities None = tt
option_rigid arities (Some t) = type_rigid arities t

resolved_rigid : (o : Option ℕ) (generic : Option TypeTree) (x : List ℕ) → HasRigidAnnotations (resolved o generic x)
resolved_rigid (Some i) generic x = tt
resolved_rigid None (Some generic) x = tt
resolved_rigid None None x = tt

identifier_rigid : (constants : List (List ℕ × TypeTree)) (names : List (List ℕ)) (x : List ℕ) → HasRigidAnnotations (identifier constants names x)
identifier_rigid constants names x = resolved_rigid (name_index names x) (generic_type_of constants x) x

sign_rigid : (constants : List (List ℕ × TypeTree)) (names : List (List ℕ)) (x : List ℕ) → HasRigidAnnotations (sign constants names x)
sign_rigid constants names x = by (generic_type_of constants x) (name_index names x)
  where
    by : (generic : Option TypeTree) (o : Option ℕ) → HasRigidAnnotations (resolved_sign generic o x)
    by (Some generic) o = tt
    by None (Some i) = tt
    by None None = tt

operator_rigid : (constants : List (List ℕ × TypeTree)) (names : List (List ℕ)) (c : Operator) → HasRigidAnnotations (operator_raw constants names c)
operator_rigid constants names Iff = tt
operator_rigid constants names Implies = sign_rigid constants names (codes "==>")
operator_rigid constants names Or = sign_rigid constants names (codes "\\/")
operator_rigid constants names And = sign_rigid constants names (codes "/\\")
operator_rigid constants names Equals = sign_rigid constants names (codes "=")
operator_rigid constants names Not = sign_rigid constants names (codes "~")
operator_rigid constants names ForAll = sign_rigid constants names (codes "!")
operator_rigid constants names Exists = sign_rigid constants names (codes "?")
operator_rigid constants names ExistsUnique = sign_rigid constants names (codes "?!")
operator_rigid constants names Choice = sign_rigid constants names (codes "@")

pub raw_rigid : (arities : List (List ℕ × ℕ)) (constants : List (List ℕ × TypeTree)) (names : List (List ℕ)) (t : TermText) → HasRigidAnnotations (raw_of arities constants names t)
raw_rigid arities constants names (Named x) = identifier_rigid constants names x
raw_rigid arities constants names (Constant c) = operator_rigid constants names c
raw_rigid arities constants names (Applied f a) = (raw_rigid arities constants names f, raw_rigid arities constants names a)
raw_rigid arities constants names (Abstraction v b) = (option_rigid arities v.annotation, raw_rigid arities constants (v.name ∷ names) b)
raw_rigid arities constants names (Typed t ty) = (type_rigid arities ty, raw_rigid arities constants names t)

-- ---- definitions

bool_rigid : HasNoOpenName bool_type
bool_rigid = tt

annotated_scoped : (names : List (List ℕ)) (o : Option TypeTree) (r : RawTree) → IsScoped names r → IsScoped names (annotated o r)
annotated_scoped names None r h = h
annotated_scoped names (Some ty) r h = h

at_bool_scoped : (names : List (List ℕ)) (b : Bool) (r : RawTree) → IsScoped names r → IsScoped names (at_bool b r)
at_bool_scoped names false r h = h
at_bool_scoped names true r h = h

annotated_rigid : (o : Option TypeTree) (r : RawTree) → IsRigid o → HasRigidAnnotations r → HasRigidAnnotations (annotated o r)
annotated_rigid None r p h = h
annotated_rigid (Some ty) r p h = (p, h)

at_bool_rigid : (b : Bool) (r : RawTree) → HasRigidAnnotations r → HasRigidAnnotations (at_bool b r)
at_bool_rigid false r h = h
at_bool_rigid true r h = (bool_rigid, h)

value_scoped : (arities : List (List ℕ × ℕ)) (constants : List (List ℕ × TypeTree)) (names : List (List ℕ)) (vs : List VariableText) (r : RightSideText) → IsScoped names (value_raw arities constants names vs r)
value_scoped arities constants names [] r =
    at_bool_scoped names r.is_iff (annotated (option_map (type_of_text arities) r.annotation) (raw_of arities constants names r.term))
    (annotated_scoped names (option_map (type_of_text arities) r.annotation) (raw_of arities constants names r.term) (raw_scoped arities constants names r.term))
value_scoped arities constants names (v ∷ vs) r = value_scoped arities constants (v.name ∷ names) vs r

value_rigid : (arities : List (List ℕ × ℕ)) (constants : List (List ℕ × TypeTree)) (names : List (List ℕ)) (vs : List VariableText) (r : RightSideText) → HasRigidAnnotations (value_raw arities constants names vs r)
value_rigid arities constants names [] r =
    at_bool_rigid r.is_iff (annotated (option_map (type_of_text arities) r.annotation) (raw_of arities constants names r.term))
    (annotated_rigid (option_map (type_of_text arities) r.annotation) (raw_of arities constants names r.term) (option_rigid arities r.annotation) (raw_rigid arities constants names r.term))
value_rigid arities constants names (v ∷ vs) r = (option_rigid arities v.annotation, value_rigid arities constants (v.name ∷ names) vs r)

pub definition_scoped : (arities : List (List ℕ × ℕ)) (constants : List (List ℕ × TypeTree)) (d : DefinitionText) → IsScoped [] (definition_raw arities constants d)
definition_scoped arities constants d = ((operator_scoped constants [] Equals, refl), value_scoped arities (without d.name constants) [] d.parameters d.right)

pub definition_rigid : (arities : List (List ℕ × ℕ)) (constants : List (List ℕ × TypeTree)) (d : DefinitionText) → HasRigidAnnotations (definition_raw arities constants d)
definition_rigid arities constants d = ((operator_rigid constants [] Equals, tt), value_rigid arities (without d.name constants) [] d.parameters d.right)

pub definition_built : (arities : List (List ℕ × ℕ)) (constants others : List (List ℕ × TypeTree)) (d : DefinitionText) (name : List ℕ) (raw left sign right : RawTree) →
    raw ≡ RawApply left right → left ≡ RawApply sign (RawFree name) → sign ≡ operator_raw constants [] Equals → name ≡ d.name → right ≡ value_raw arities others [] d.parameters d.right → others ≡ without d.name constants →
    raw ≡ definition_raw arities constants d
definition_built arities constants others d name raw left sign right whole first equal named second other =
    let l : left ≡ RawApply (operator_raw constants [] Equals) (RawFree d.name) = first ∙ (λ j. RawApply (equal j) (RawFree (named j))) in
    let r : right ≡ value_raw arities (without d.name constants) [] d.parameters d.right = second ∙ (λ j. value_raw arities (other j) [] d.parameters d.right) in
    whole ∙ (λ j. RawApply (l j) (r j))

-- ---- the walk over arguments

pub texts_list : (arities : List (List ℕ × ℕ)) (ts : List TypeText) → type_list (map (type_of_text arities) ts) ≡ types_of_texts arities (type_texts ts)
texts_list arities [] = refl
texts_list arities (t ∷ ts) = ap (more_types (type_of_text arities t)) (texts_list arities ts)

pub count_length : (ts : List TypeText) → text_count (type_texts ts) ≡ length ts
count_length [] = refl
count_length (t ∷ ts) = let r = count_length ts in omega (arith, r)

pub have_append : (arities : List (List ℕ × ℕ)) (ts : List TypeText) (t : TypeText) → have_arities arities (type_texts ts) ≡ true → has_arities arities t ≡ true → have_arities arities (type_texts (ts ++ t ∷ [])) ≡ true
have_append arities [] t h k = and_from (has_arities arities t) true k refl
have_append arities (s ∷ ts) t h k = by (has_arities arities s) h (λ g. have_append arities ts t g k)
  where
    by : (b : Bool) → (b && have_arities arities (type_texts ts)) ≡ true → (have_arities arities (type_texts ts) ≡ true → have_arities arities (type_texts (ts ++ t ∷ [])) ≡ true) → (b && have_arities arities (type_texts (ts ++ t ∷ []))) ≡ true
    by true e r = r e
    by false e r = absurd (cc)

-- one argument with the fault is enough
pub have_false : (arities : List (List ℕ × ℕ)) (ts : List TypeText) (i : ℕ) (d : TypeText) → i < length ts → has_arities arities (get_or ts i d) ≡ false → have_arities arities (type_texts ts) ≡ false
have_false arities [] i d l e = absurd (omega arith)
have_false arities (t ∷ ts) zero d l e = rw e refl
have_false arities (t ∷ ts) (suc i) d l e = and_right (has_arities arities t) (have_arities arities (type_texts ts)) (have_false arities ts i d (omega arith) e)

-- an argument has fewer nodes than the whole
pub text_falls : (ty : TypeText) (c : List ℕ) (args items : List TypeText) (i : ℕ) (arg : TypeText) → Apply c (type_texts args) ≡ ty → items ≡ args → i < length items → arg ≡ get_or items i arg → type_nodes arg < type_nodes ty
text_falls ty c args items i arg e p lt q =
    let whole : 1 + types_nodes (type_texts args) ≡ type_nodes ty = ap type_nodes e in
    let same : types_nodes (type_texts items) ≡ types_nodes (type_texts args) = ap (λ (xs : List TypeText). types_nodes (type_texts xs)) p in
    let here : type_nodes arg ≡ type_nodes (get_or items i arg) = ap type_nodes q in
    let r = nodes_at items i arg lt in
    omega (arith, whole, same, here, r)

-- ---- a constructor with arguments

-- their number is another than the arity
pub wrong_count : (arities : List (List ℕ × ℕ)) (ty : TypeText) (c a : List ℕ) (args : List TypeText) (n : ℕ) → Apply c (type_texts args) ≡ ty → a ≡ c → n ≡ length args → takes (arity_of arities a) n ≡ false → has_arities arities ty ≡ false
wrong_count arities ty c a args n e p l f =
    let g : takes (arity_of arities a) (text_count (type_texts args)) ≡ false = subst (λ (k : ℕ). takes (arity_of arities a) k ≡ false) (l ∙ sym (count_length args)) f in
    let h : takes (arity_of arities c) (text_count (type_texts args)) ≡ false = subst (λ (x : List ℕ). takes (arity_of arities x) (text_count (type_texts args)) ≡ false) p g in
    sym (ap (has_arities arities) e) ∙ ap (λ (b : Bool). b && have_arities arities (type_texts args)) h

-- one of them has the fault
pub wrong_argument : (arities : List (List ℕ × ℕ)) (ty : TypeText) (c : List ℕ) (args items : List TypeText) (i : ℕ) (arg : TypeText) → Apply c (type_texts args) ≡ ty → items ≡ args → i < length items → arg ≡ get_or items i arg → has_arities arities arg ≡ false → has_arities arities ty ≡ false
wrong_argument arities ty c args items i arg e p lt q h =
    let here : has_arities arities (get_or items i arg) ≡ false = sym (ap (has_arities arities) q) ∙ h in
    let inside : have_arities arities (type_texts args) ≡ false = subst (λ (xs : List TypeText). have_arities arities (type_texts xs) ≡ false) p (have_false arities items i arg lt here) in
    sym (ap (has_arities arities) e) ∙ and_right (takes (arity_of arities c) (text_count (type_texts args))) (have_arities arities (type_texts args)) inside

take_next : (items : List TypeText) (i : ℕ) (arg : TypeText) → i < length items → arg ≡ get_or items i arg → take (i + 1) items ≡ take i items ++ arg ∷ []
take_next items i arg lt q = take_more items i arg lt ∙ ap (λ (x : TypeText). take i items ++ x ∷ []) (sym q)

pub right_step : (arities : List (List ℕ × ℕ)) (items : List TypeText) (i : ℕ) (arg : TypeText) → i < length items → arg ≡ get_or items i arg → have_arities arities (type_texts (take i items)) ≡ true → has_arities arities arg ≡ true → have_arities arities (type_texts (take (i + 1) items)) ≡ true
right_step arities items i arg lt q h k = ap (λ (xs : List TypeText). have_arities arities (type_texts xs)) (take_next items i arg lt q) ∙ have_append arities (take i items) arg h k

pub types_step : (arities : List (List ℕ × ℕ)) (items : List TypeText) (i : ℕ) (arg : TypeText) (types after : List TypeTree) (t : TypeTree) → i < length items → arg ≡ get_or items i arg → types ≡ map (type_of_text arities) (take i items) → t ≡ type_of_text arities arg → after ≡ types ++ t ∷ [] → after ≡ map (type_of_text arities) (take (i + 1) items)
types_step arities items i arg types after t lt q e k p =
    p ∙ (λ j. e j ++ k j ∷ []) ∙ sym (map-append (type_of_text arities) (take i items) (arg ∷ [])) ∙ ap (map (type_of_text arities)) (sym (take_next items i arg lt q))

pub whole_type : (arities : List (List ℕ × ℕ)) (ty : TypeText) (c a : List ℕ) (args items : List TypeText) (types : List TypeTree) (n i : ℕ) (t : TypeTree) →
    Apply c (type_texts args) ≡ ty → a ≡ c → n ≡ length args → takes (arity_of arities a) n ≡ true → items ≡ args → length items ≤ i → types ≡ map (type_of_text arities) (take i items) → have_arities arities (type_texts (take i items)) ≡ true → t ≡ TyApp a (type_list types) →
    (t ≡ type_of_text arities ty) × (has_arities arities ty ≡ true)
whole_type arities ty c a args items types n i t e p l f s k m h r =
    let all : take i items ≡ args = take_all i items k ∙ s in
    let ts : type_list types ≡ types_of_texts arities (type_texts args) = ap type_list (m ∙ ap (map (type_of_text arities)) all) ∙ texts_list arities args in
    let g : takes (arity_of arities a) (text_count (type_texts args)) ≡ true = subst (λ (j : ℕ). takes (arity_of arities a) j ≡ true) (l ∙ sym (count_length args)) f in
    let count : takes (arity_of arities c) (text_count (type_texts args)) ≡ true = subst (λ (x : List ℕ). takes (arity_of arities x) (text_count (type_texts args)) ≡ true) p g in
    let inside : have_arities arities (type_texts args) ≡ true = subst (λ (xs : List TypeText). have_arities arities (type_texts xs) ≡ true) all h in (
      r ∙ (λ j. TyApp (p j) (ts j)) ∙ ap (type_of_text arities) e,
      sym (ap (has_arities arities) e) ∙ and_from (takes (arity_of arities c) (text_count (type_texts args))) (have_arities arities (type_texts args)) count inside,
    )
