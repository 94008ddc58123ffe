-- The constants that a reading resolves occur in it, so that reading needs no others.
use Rattle.std.specs.Prelude.{◌≡◌, ℕ, Bool, true, false, cond, ◌||◌, List, [], ◌∷◌, bytes_eq, codes, Option, Some, None, refl}
use Rattle.std.specs.Option.{option_map}
use Rattle.std.proofs.Common.{ap, sym, ◌∙◌, subst}
use Rattle.std.proofs.lemmas.Slice.Eq.{bytes_eq-Decides}
use Rattle.hol_types.specs.Tree.{TypeTree}
use Rattle.hol_types.specs.Fun.{fun_type}
use Rattle.hol_terms.specs.Nameless.{Nameless, free, bound, fixed, app, lam}
use Rattle.hol_formulas.specs.Equation.{bool_type}
use Rattle.hol_kernel.proofs.Members.{or_right}
use Rattle.hol_notation_terms.specs.declared.operator.Operator.{Operator}
use Rattle.hol_notation_terms.specs.declared.operator.Operator.TheVariants.{Iff, Implies, Or, And, Equals, Not, ForAll, Exists, ExistsUnique, Choice}
use Rattle.hol_notation_terms.specs.Text.{VariableText, RightSideText, DefinitionText, TermText, Named, Constant, Applied, Abstraction, Typed}
use Rattle.hol_typing.specs.Raw.{RawTree, RawConstant, RawFree, RawApply, RawAbstraction, RawAnnotated}
use Rattle.hol_typing.specs.Typing.{IsTyping}
use Rattle.hol_infer.specs.Reading.{IsReading}
use Rattle.hol_infer.specs.Resolving.{generic_type_of, name_index, resolved, identifier, resolved_sign, sign, operator_raw, raw_of, type_of_text, annotated, at_bool, right_raw, value_raw, without, definition_raw}
use Rattle.hol_exec.specs.Occurring.{constant_occurs}
use Rattle.hol_exec.proofs.Known.{kept, kept_found, kept_none}

abbrev Constants : Type 0
Constants = List (List ℕ × TypeTree)

-- The second has what the first has under names that are kept, and nothing where that has nothing.
record Narrows (keep : List ℕ → Bool) (constants fewer : Constants) : Type 0 where
  found : (c : List ℕ) → keep c ≡ true → generic_type_of fewer c ≡ generic_type_of constants c
  none : (c : List ℕ) → generic_type_of constants c ≡ None → generic_type_of fewer c ≡ None

kept_narrows : (keep : List ℕ → Bool) (constants : Constants) → Narrows keep constants (kept keep constants)
kept_narrows keep constants = record { found = λ c k. kept_found keep constants c k; none = λ c e. kept_none keep constants c e }

-- ---- without a name

without_at : (c : List ℕ) (constants : Constants) (x : List ℕ) → generic_type_of (without c constants) x ≡ cond (bytes_eq c x) None (generic_type_of constants x)
without_at c [] x = by (bytes_eq c x)
  where
    by : (b : Bool) → generic_type_of (without c []) x ≡ cond b None (generic_type_of [] x)
    by true = refl
    by false = refl
without_at c (p ∷ constants) x = by (bytes_eq p.0 c) (bytes_eq p.0 x) (bytes_eq c x) refl refl refl (without_at c constants x)
  where
    by : (own at same : Bool) → bytes_eq p.0 c ≡ own → bytes_eq p.0 x ≡ at → bytes_eq c x ≡ same → generic_type_of (without c constants) x ≡ cond (bytes_eq c x) None (generic_type_of constants x) →
        generic_type_of (cond own (without c constants) (p ∷ without c constants)) x ≡ cond same None (cond at (Some p.1) (generic_type_of constants x))
    by true at true e f g rest = rest ∙ ap (λ b. cond b None (generic_type_of constants x)) g
    by true true false e f g rest =
        let is : c ≡ x = sym ((bytes_eq-Decides p.0 c).0 e) ∙ (bytes_eq-Decides p.0 x).0 f in
        let wrong : false ≡ true = sym g ∙ (bytes_eq-Decides c x).1 is in
        absurd (cc)
    by true false false e f g rest = rest ∙ ap (λ b. cond b None (generic_type_of constants x)) g
    by false true true e f g rest =
        let is : p.0 ≡ c = (bytes_eq-Decides p.0 x).0 f ∙ sym ((bytes_eq-Decides c x).0 g) in
        let wrong : false ≡ true = sym e ∙ (bytes_eq-Decides p.0 c).1 is in
        absurd (cc)
    by false true false e f g rest = λ i. cond (f i) (Some p.1) (generic_type_of (without c constants) x)
    by false false same e f g rest = (λ i. cond (f i) (Some p.1) (generic_type_of (without c constants) x)) ∙ rest ∙ ap (λ b. cond b None (generic_type_of constants x)) g

without_narrows : (keep : List ℕ → Bool) (constants fewer : Constants) (d : List ℕ) → Narrows keep constants fewer → Narrows keep (without d constants) (without d fewer)
without_narrows keep constants fewer d h = record {
  found = λ c k. without_at d fewer c ∙ ap (λ o. cond (bytes_eq d c) None o) (h.found c k) ∙ sym (without_at d constants c);
  none = λ c e. without_at d fewer c ∙ by c (bytes_eq d c) (sym (without_at d constants c) ∙ e);
}
  where
    by : (c : List ℕ) (b : Bool) → cond b None (generic_type_of constants c) ≡ None → cond b None (generic_type_of fewer c) ≡ None
    by c true e = refl
    by c false e = h.none c e

-- ---- what is resolved is the same among fewer

abbrev Keeps : (List ℕ → Bool) → Nameless → Type 0
Keeps keep p = (c : List ℕ) → constant_occurs c p ≡ true → keep c ≡ true

module _ (keep : List ℕ → Bool) (type_of : List ℕ → TypeTree) where
  constant_keeps : (env : List TypeTree) (c : List ℕ) (g : TypeTree) (p : Nameless) (t : TypeTree) → IsTyping type_of env (RawConstant c g) p t → Keeps keep p → keep c ≡ true
  constant_keeps env c g (free v) t h k = absurd h
  constant_keeps env c g (bound i) t h k = absurd h
  constant_keeps env c g (fixed d s) t h k = k c ((bytes_eq-Decides c d).1 h.0)
  constant_keeps env c g (app f x) t h k = absurd h
  constant_keeps env c g (lam a s b) t h k = absurd h

  module _ (arities : List (List ℕ × ℕ)) where
    identifier_same : (constants fewer : Constants) (names : List (List ℕ)) (env : List TypeTree) (x : List ℕ) (p : Nameless) (t : TypeTree) → Narrows keep constants fewer →
        IsTyping type_of env (identifier constants names x) p t → Keeps keep p → identifier fewer names x ≡ identifier constants names x
    identifier_same constants fewer names env x p t n h k = by (name_index names x) (generic_type_of constants x) refl h
      where
        by : (i : Option ℕ) (o : Option TypeTree) → generic_type_of constants x ≡ o → IsTyping type_of env (resolved i o x) p t → resolved i (generic_type_of fewer x) x ≡ resolved i o x
        by (Some i) o e h = refl
        by None (Some g) e h = ap (λ (q : Option TypeTree). resolved None q x) (n.found x (constant_keeps env x g p t h k) ∙ e)
        by None None e h = ap (λ (q : Option TypeTree). resolved None q x) (n.none x e)

    sign_same : (constants fewer : Constants) (names : List (List ℕ)) (env : List TypeTree) (x : List ℕ) (p : Nameless) (t : TypeTree) → Narrows keep constants fewer →
        IsTyping type_of env (sign constants names x) p t → Keeps keep p → sign fewer names x ≡ sign constants names x
    sign_same constants fewer names env x p t n h k = by (generic_type_of constants x) refl h
      where
        by : (o : Option TypeTree) → generic_type_of constants x ≡ o → IsTyping type_of env (resolved_sign o (name_index names x) x) p t → resolved_sign (generic_type_of fewer x) (name_index names x) x ≡ resolved_sign o (name_index names x) x
        by (Some g) e h = ap (λ (q : Option TypeTree). resolved_sign q (name_index names x) x) (n.found x (constant_keeps env x g p t h k) ∙ e)
        by None e h = ap (λ (q : Option TypeTree). resolved_sign q (name_index names x) x) (n.none x e)

    operator_same : (constants fewer : Constants) (names : List (List ℕ)) (env : List TypeTree) (c : Operator) (p : Nameless) (t : TypeTree) → Narrows keep constants fewer →
        IsTyping type_of env (operator_raw constants names c) p t → Keeps keep p → operator_raw fewer names c ≡ operator_raw constants names c
    operator_same constants fewer names env Iff p t n h k = refl
    operator_same constants fewer names env Implies p t n h k = sign_same constants fewer names env (codes "==>") p t n h k
    operator_same constants fewer names env Or p t n h k = sign_same constants fewer names env (codes "\\/") p t n h k
    operator_same constants fewer names env And p t n h k = sign_same constants fewer names env (codes "/\\") p t n h k
    operator_same constants fewer names env Equals p t n h k = sign_same constants fewer names env (codes "=") p t n h k
    operator_same constants fewer names env Not p t n h k = sign_same constants fewer names env (codes "~") p t n h k
    operator_same constants fewer names env ForAll p t n h k = sign_same constants fewer names env (codes "!") p t n h k
    operator_same constants fewer names env Exists p t n h k = sign_same constants fewer names env (codes "?") p t n h k
    operator_same constants fewer names env ExistsUnique p t n h k = sign_same constants fewer names env (codes "?!") p t n h k
    operator_same constants fewer names env Choice p t n h k = sign_same constants fewer names env (codes "@") p t n h k

    keeps_left : (f x : Nameless) → Keeps keep (app f x) → Keeps keep f
    keeps_left f x k c e = k c (ap (λ b. b || constant_occurs c x) e)

    keeps_right : (f x : Nameless) → Keeps keep (app f x) → Keeps keep x
    keeps_right f x k c e = k c (or_right (constant_occurs c f) (constant_occurs c x) e)

    raw_same : (constants fewer : Constants) (names : List (List ℕ)) (env : List TypeTree) (s : TermText) (p : Nameless) (t : TypeTree) → Narrows keep constants fewer →
        IsTyping type_of env (raw_of arities constants names s) p t → Keeps keep p → raw_of arities fewer names s ≡ raw_of arities constants names s
    raw_same constants fewer names env (Named x) p t n h k = identifier_same constants fewer names env x p t n h k
    raw_same constants fewer names env (Constant c) p t n h k = operator_same constants fewer names env c p t n h k
    raw_same constants fewer names env (Applied f a) (free v) t n h k = absurd h
    raw_same constants fewer names env (Applied f a) (bound i) t n h k = absurd h
    raw_same constants fewer names env (Applied f a) (fixed c s) t n h k = absurd h
    raw_same constants fewer names env (Applied f a) (app g b) t n h k = λ i. RawApply
        (raw_same constants fewer names env f g (fun_type h.0 t) n h.1 (keeps_left g b k) i)
        (raw_same constants fewer names env a b h.0 n h.2 (keeps_right g b k) i)
    raw_same constants fewer names env (Applied f a) (lam y s b) t n h k = absurd h
    raw_same constants fewer names env (Abstraction v d) (free w) t n h k = absurd h
    raw_same constants fewer names env (Abstraction v d) (bound i) t n h k = absurd h
    raw_same constants fewer names env (Abstraction v d) (fixed c s) t n h k = absurd h
    raw_same constants fewer names env (Abstraction v d) (app g b) t n h k = absurd h
    raw_same constants fewer names env (Abstraction v d) (lam y s b) t n h k =
        ap (RawAbstraction v.name (option_map (type_of_text arities) v.annotation)) (raw_same constants fewer (v.name ∷ names) (s ∷ env) d b h.2.0 n h.2.2 k)
    raw_same constants fewer names env (Typed s ty) p t n h k = ap (λ (r : RawTree). RawAnnotated r (type_of_text arities ty)) (raw_same constants fewer names env s p t n h.1 k)

    -- ---- definitions

    annotated_same : (constants fewer : Constants) (names : List (List ℕ)) (env : List TypeTree) (o : Option TypeTree) (s : TermText) (p : Nameless) (t : TypeTree) → Narrows keep constants fewer →
        IsTyping type_of env (annotated o (raw_of arities constants names s)) p t → Keeps keep p → annotated o (raw_of arities fewer names s) ≡ annotated o (raw_of arities constants names s)
    annotated_same constants fewer names env None s p t n h k = raw_same constants fewer names env s p t n h k
    annotated_same constants fewer names env (Some ty) s p t n h k = ap (λ (r : RawTree). RawAnnotated r ty) (raw_same constants fewer names env s p t n h.1 k)

    right_same : (constants fewer : Constants) (names : List (List ℕ)) (env : List TypeTree) (r : RightSideText) (p : Nameless) (t : TypeTree) → Narrows keep constants fewer →
        IsTyping type_of env (right_raw arities constants names r) p t → Keeps keep p → right_raw arities fewer names r ≡ right_raw arities constants names r
    right_same constants fewer names env r p t n h k = by r.is_iff h
      where
        o : Option TypeTree
        o = option_map (type_of_text arities) r.annotation

        by : (b : Bool) → IsTyping type_of env (at_bool b (annotated o (raw_of arities constants names r.term))) p t →
            at_bool b (annotated o (raw_of arities fewer names r.term)) ≡ at_bool b (annotated o (raw_of arities constants names r.term))
        by false h = annotated_same constants fewer names env o r.term p t n h k
        by true h = ap (λ (q : RawTree). RawAnnotated q bool_type) (annotated_same constants fewer names env o r.term p t n h.1 k)

    value_same : (constants fewer : Constants) (names : List (List ℕ)) (env : List TypeTree) (vs : List VariableText) (r : RightSideText) (p : Nameless) (t : TypeTree) → Narrows keep constants fewer →
        IsTyping type_of env (value_raw arities constants names vs r) p t → Keeps keep p → value_raw arities fewer names vs r ≡ value_raw arities constants names vs r
    value_same constants fewer names env [] r p t n h k = right_same constants fewer names env r p t n h k
    value_same constants fewer names env (v ∷ vs) r (free w) t n h k = absurd h
    value_same constants fewer names env (v ∷ vs) r (bound i) t n h k = absurd h
    value_same constants fewer names env (v ∷ vs) r (fixed c s) t n h k = absurd h
    value_same constants fewer names env (v ∷ vs) r (app g b) t n h k = absurd h
    value_same constants fewer names env (v ∷ vs) r (lam y s b) t n h k =
        ap (RawAbstraction v.name (option_map (type_of_text arities) v.annotation)) (value_same constants fewer (v.name ∷ names) (s ∷ env) vs r b h.2.0 n h.2.2 k)

    definition_same : (constants fewer : Constants) (d : DefinitionText) (p : Nameless) (t : TypeTree) → Narrows keep constants fewer →
        IsTyping type_of [] (definition_raw arities constants d) p t → Keeps keep p → definition_raw arities fewer d ≡ definition_raw arities constants d
    definition_same constants fewer d (free w) t n h k = absurd h
    definition_same constants fewer d (bound i) t n h k = absurd h
    definition_same constants fewer d (fixed c s) t n h k = absurd h
    definition_same constants fewer d (app (free w) b) t n h k = absurd h.1
    definition_same constants fewer d (app (bound i) b) t n h k = absurd h.1
    definition_same constants fewer d (app (fixed c s) b) t n h k = absurd h.1
    definition_same constants fewer d (app (app q x) b) t n h k =
        let left = keeps_left (app q x) b k in
        λ i. RawApply
        (RawApply (operator_same constants fewer [] [] Equals q (fun_type h.1.0 (fun_type h.0 t)) n h.1.1 (keeps_left q x left) i) (RawFree d.name))
        (value_same (without d.name constants) (without d.name fewer) [] [] d.parameters d.right b h.0 (without_narrows keep constants fewer d.name n) h.2 (keeps_right (app q x) b k) i)
    definition_same constants fewer d (app (lam y s c) b) t n h k = absurd h.1
    definition_same constants fewer d (lam y s b) t n h k = absurd h

-- ---- readings

-- a reading is one among the constants that are kept, where all that occur in it are
pub reading_kept : (keep : List ℕ → Bool) (arities : List (List ℕ × ℕ)) (constants : Constants) (s : TermText) (p : Nameless) →
    ((c : List ℕ) → constant_occurs c p ≡ true → keep c ≡ true) → IsReading (raw_of arities constants [] s) p → IsReading (raw_of arities (kept keep constants) [] s) p
reading_kept keep arities constants s p k h =
    let typing = h.principal.typing in
    subst (λ (r : RawTree). IsReading r p)
    (sym (raw_same keep typing.0 arities constants (kept keep constants) [] [] s p typing.1.0 (kept_narrows keep constants) typing.1.1 k)) h

pub definition_kept : (keep : List ℕ → Bool) (arities : List (List ℕ × ℕ)) (constants : Constants) (d : DefinitionText) (p : Nameless) →
    ((c : List ℕ) → constant_occurs c p ≡ true → keep c ≡ true) → IsReading (definition_raw arities constants d) p → IsReading (definition_raw arities (kept keep constants) d) p
definition_kept keep arities constants d p k h =
    let typing = h.principal.typing in
    subst (λ (r : RawTree). IsReading r p)
    (sym (definition_same keep typing.0 arities constants (kept keep constants) d p typing.1.0 (kept_narrows keep constants) typing.1.1 k)) h
