-- Replacement of each occurrence of a term.
use Rattle.std.specs.Prelude.{◌≡◌, ◌⊎◌, ℕ, ◌+◌, Bool, true, false, cond, ◌&&◌, List, [], ◌∷◌, Some, None, unwrap_or, refl}
use Rattle.std.specs.Option.{option_map, option_and_then}
use Rattle.std.proofs.Common.{ap, sym, ◌∙◌, inl, inr}
use Rattle.std.proofs.lemmas.Bool.{or_parts}
use Rattle.hol_types.specs.Tree.{TypeTree}
use Rattle.hol_types.specs.Fun.{fun_type}
use Rattle.hol_types.specs.Equal.{variable_eq}
use Rattle.hol_terms.specs.Named.{applied_type}
use Rattle.hol_terms.specs.Nameless.{Nameless, free, bound, fixed, app, lam, nameless_type, free_occurrences}
use Rattle.hol_terms.specs.Scoped.{binds}
use Rattle.hol_terms.specs.Alpha.{strip, alpha_eq}
use Rattle.hol_terms.proofs.Alpha.{alpha_eq_decides}
use Rattle.hol_terms.proofs.Occurs.{binds_append}
use Rattle.hol_terms.proofs.Same.{variable_eq_decides}
use Rattle.hol_subst.specs.Shift.{shift}
use Rattle.hol_subst.specs.Closing.{close, open_with}
use Rattle.hol_subst.specs.Substitution.{term_subst}
use Rattle.hol_subst.proofs.Closing.{IsClosed, eq_same, shift_whole}
use Rattle.hol_subst.proofs.Opening.{open_close_subst}
use Rattle.hol_subst.proofs.Typing.{typed_closed, type_whole}
use Rattle.hol_kernel.specs.Items.{Items}
use Rattle.hol_kernel.specs.Typing.{is_type, is_base, is_known, HasType}
use Rattle.hol_kernel.proofs.Sound.{strip_type}
use Rattle.hol_kernel.proofs.Stands.{both}
use Rattle.hol_kernel.proofs.Variables.{typed_known, known_typed}
use Rattle.hol_just.specs.Replacing.{replace_each}

abbrev Variable : Type 0
Variable = List ℕ × TypeTree

parts_without : (v : Variable) (f x : Nameless) → binds (free_occurrences (app f x)) v ≡ false → (binds (free_occurrences f) v ≡ false) × (binds (free_occurrences x) v ≡ false)
parts_without v f x e = or_parts (binds (free_occurrences f) v) (binds (free_occurrences x) v) (sym (binds_append (free_occurrences f) (free_occurrences x) v) ∙ e)

eq_flipped : (v w : Variable) → variable_eq w v ≡ false → variable_eq v w ≡ false
eq_flipped v w e = by (variable_eq v w) refl
  where
    by : (b : Bool) → variable_eq v w ≡ b → variable_eq v w ≡ false
    by false h = h
    by true h = absurd (let z : true ≡ false = sym ((variable_eq_decides w v).1 (sym ((variable_eq_decides v w).0 h))) ∙ e in cc)

-- ---- by a variable that is not free, and then by a term

put_in : (t : Nameless) (v : Variable) (k : ℕ) → IsClosed 0 t → term_subst ((t, v) ∷ []) k (free v) ≡ t
put_in t v k c = ap (λ b. shift k 0 (unwrap_or (cond b (Some t) None) (free v))) (eq_same v) ∙ shift_whole k 0 t c

pub replaced_after : (s t : Nameless) (v : Variable) (k : ℕ) (n : Nameless) → IsClosed 0 t → binds (free_occurrences n) v ≡ false → term_subst ((t, v) ∷ []) k (replace_each s (free v) n) ≡ replace_each s t n
replaced_after s t v k (free w) c e = by (alpha_eq (free w) s)
  where
    by : (b : Bool) → term_subst ((t, v) ∷ []) k (cond b (free v) (free w)) ≡ cond b t (free w)
    by true = put_in t v k c
    by false = ap (λ b. shift k 0 (unwrap_or (cond b (Some t) None) (free w))) (eq_flipped v w (or_parts (variable_eq w v) false e).0)
replaced_after s t v k (bound i) c e = refl
replaced_after s t v k (fixed d a) c e = by (alpha_eq (fixed d a) s)
  where
    by : (b : Bool) → term_subst ((t, v) ∷ []) k (cond b (free v) (fixed d a)) ≡ cond b t (fixed d a)
    by true = put_in t v k c
    by false = refl
replaced_after s t v k (app f x) c e =
    let parts = parts_without v f x e in
    by (alpha_eq (app f x) s) (replaced_after s t v k f c parts.0) (replaced_after s t v k x c parts.1)
  where
    by :
        (b : Bool) → term_subst ((t, v) ∷ []) k (replace_each s (free v) f) ≡ replace_each s t f → term_subst ((t, v) ∷ []) k (replace_each s (free v) x) ≡ replace_each s t x →
        term_subst ((t, v) ∷ []) k (cond b (free v) (app (replace_each s (free v) f) (replace_each s (free v) x))) ≡ cond b t (app (replace_each s t f) (replace_each s t x))
    by true p q = put_in t v k c
    by false p q = λ i. app (p i) (q i)
replaced_after s t v k (lam a d n) c e = by (alpha_eq (lam a d n) s) (replaced_after s t v (k + 1) n c e)
  where
    by :
        (b : Bool) → term_subst ((t, v) ∷ []) (k + 1) (replace_each s (free v) n) ≡ replace_each s t n →
        term_subst ((t, v) ∷ []) k (cond b (free v) (lam a d (replace_each s (free v) n))) ≡ cond b t (lam a d (replace_each s t n))
    by true p = put_in t v k c
    by false p = ap (lam a d) p

-- ---- by itself

pub replaced_same : (s n : Nameless) → strip (replace_each s s n) ≡ strip n
replaced_same s (free w) = by (alpha_eq (free w) s) refl
  where
    by : (b : Bool) → alpha_eq (free w) s ≡ b → strip (cond b s (free w)) ≡ free w
    by true h = sym ((alpha_eq_decides (free w) s).0 h)
    by false h = refl
replaced_same s (bound i) = refl
replaced_same s (fixed d a) = by (alpha_eq (fixed d a) s) refl
  where
    by : (b : Bool) → alpha_eq (fixed d a) s ≡ b → strip (cond b s (fixed d a)) ≡ fixed d a
    by true h = sym ((alpha_eq_decides (fixed d a) s).0 h)
    by false h = refl
replaced_same s (app f x) = by (alpha_eq (app f x) s) refl (replaced_same s f) (replaced_same s x)
  where
    by :
        (b : Bool) → alpha_eq (app f x) s ≡ b → strip (replace_each s s f) ≡ strip f → strip (replace_each s s x) ≡ strip x →
        strip (cond b s (app (replace_each s s f) (replace_each s s x))) ≡ app (strip f) (strip x)
    by true h p q = sym ((alpha_eq_decides (app f x) s).0 h)
    by false h p q = λ i. app (p i) (q i)
replaced_same s (lam a d n) = by (alpha_eq (lam a d n) s) refl (replaced_same s n)
  where
    by : (b : Bool) → alpha_eq (lam a d n) s ≡ b → strip (replace_each s s n) ≡ strip n → strip (cond b s (lam a d (replace_each s s n))) ≡ lam [] d (strip n)
    by true h p = sym ((alpha_eq_decides (lam a d n) s).0 h)
    by false h p = ap (lam [] d) p

-- ---- a variable for itself

itself : (v : Variable) (k : ℕ) (n : Nameless) → term_subst ((free v, v) ∷ []) k n ≡ n
itself v k (free w) = by (variable_eq v w) refl
  where
    by : (b : Bool) → variable_eq v w ≡ b → shift k 0 (unwrap_or (cond b (Some (free v)) None) (free w)) ≡ free w
    by true h = ap free ((variable_eq_decides v w).0 h)
    by false h = refl
itself v k (bound i) = refl
itself v k (fixed d a) = refl
itself v k (app f x) = λ i. app (itself v k f i) (itself v k x i)
itself v k (lam a d n) = ap (lam a d) (itself v (k + 1) n)

-- SPEC_TAC's instance is the term, up to bound names
pub generalized_back :
    (t : Nameless) (v : Variable) (w : Nameless) → IsClosed 0 t → (strip t ≡ free v) ⊎ (binds (free_occurrences w) v ≡ false) → strip (open_with t 0 (close v 0 (replace_each t (free v) w))) ≡ strip w
generalized_back t v w c (inr absent) = ap strip (open_close_subst v t 0 (replace_each t (free v) w) ∙ replaced_after t t v 0 w c absent) ∙ replaced_same t w
generalized_back t v w c (inl is) =
    let same : t ≡ free v = stripped_free t v is in
    ap strip (open_close_subst v t 0 (replace_each t (free v) w) ∙ (λ i. term_subst ((same i, v) ∷ []) 0 (replace_each (same i) (free v) w)) ∙ itself v 0 (replace_each (free v) (free v) w))
    ∙ replaced_same (free v) w
  where
    stripped_free : (t : Nameless) (v : Variable) → strip t ≡ free v → t ≡ free v
    stripped_free (free w) v h = h
    stripped_free (bound i) v h = absurd cc
    stripped_free (fixed d a) v h = absurd cc
    stripped_free (app f x) v h = absurd cc
    stripped_free (lam a d n) v h = absurd cc

-- ---- types

module _ (s r : Nameless) (a : TypeTree) (of_s : nameless_type [] s ≡ Some a) (of_r : nameless_type [] r ≡ Some a) where
  at_occurrence : (env : List TypeTree) (n : Nameless) → alpha_eq n s ≡ true → nameless_type env r ≡ nameless_type env n
  at_occurrence env n h =
      type_whole env r (typed_closed [] r a of_r) ∙ of_r ∙ sym of_s ∙ sym (type_whole env s (typed_closed [] s a of_s)) ∙ sym (strip_type env s)
      ∙ ap (nameless_type env) (sym ((alpha_eq_decides n s).0 h))
      ∙ strip_type env n

  pub replaced_type : (env : List TypeTree) (n : Nameless) → nameless_type env (replace_each s r n) ≡ nameless_type env n
  replaced_type env (free w) = by (alpha_eq (free w) s) refl
    where
      by : (b : Bool) → alpha_eq (free w) s ≡ b → nameless_type env (cond b r (free w)) ≡ nameless_type env (free w)
      by true h = at_occurrence env (free w) h
      by false h = refl
  replaced_type env (bound i) = refl
  replaced_type env (fixed d c) = by (alpha_eq (fixed d c) s) refl
    where
      by : (b : Bool) → alpha_eq (fixed d c) s ≡ b → nameless_type env (cond b r (fixed d c)) ≡ nameless_type env (fixed d c)
      by true h = at_occurrence env (fixed d c) h
      by false h = refl
  replaced_type env (app f x) = by (alpha_eq (app f x) s) refl (replaced_type env f) (replaced_type env x)
    where
      by :
          (b : Bool) → alpha_eq (app f x) s ≡ b → nameless_type env (replace_each s r f) ≡ nameless_type env f → nameless_type env (replace_each s r x) ≡ nameless_type env x →
          nameless_type env (cond b r (app (replace_each s r f) (replace_each s r x))) ≡ nameless_type env (app f x)
      by true h p q = at_occurrence env (app f x) h
      by false h p q = λ i. option_and_then (λ c. option_and_then (λ t. applied_type c t) (q i)) (p i)
  replaced_type env (lam c d n) = by (alpha_eq (lam c d n) s) refl (replaced_type (d ∷ env) n)
    where
      by :
          (b : Bool) → alpha_eq (lam c d n) s ≡ b → nameless_type (d ∷ env) (replace_each s r n) ≡ nameless_type (d ∷ env) n →
          nameless_type env (cond b r (lam c d (replace_each s r n))) ≡ nameless_type env (lam c d n)
      by true h p = at_occurrence env (lam c d n) h
      by false h p = ap (option_map (λ t. fun_type d t)) p

replaced_known : (items : Items) (s r n : Nameless) → is_known items r ≡ true → is_known items n ≡ true → is_known items (replace_each s r n) ≡ true
replaced_known items s r (free w) h k = by (alpha_eq (free w) s)
  where
    by : (b : Bool) → is_known items (cond b r (free w)) ≡ true
    by true = h
    by false = k
replaced_known items s r (bound i) h k = refl
replaced_known items s r (fixed d a) h k = by (alpha_eq (fixed d a) s)
  where
    by : (b : Bool) → is_known items (cond b r (fixed d a)) ≡ true
    by true = h
    by false = k
replaced_known items s r (app f x) h k =
    let parts = both (is_known items f) (is_known items x) k in
    by (alpha_eq (app f x) s) (replaced_known items s r f h parts.0) (replaced_known items s r x h parts.1)
  where
    by : (b : Bool) → is_known items (replace_each s r f) ≡ true → is_known items (replace_each s r x) ≡ true → is_known items (cond b r (app (replace_each s r f) (replace_each s r x))) ≡ true
    by true p q = h
    by false p q = λ i. p i && q i
replaced_known items s r (lam a d n) h k =
    let outer = both (is_base a) (is_type items d && is_known items n) k in
    let inner = both (is_type items d) (is_known items n) outer.1 in
    by (alpha_eq (lam a d n) s) outer.0 inner.0 (replaced_known items s r n h inner.1)
  where
    by : (b : Bool) → is_base a ≡ true → is_type items d ≡ true → is_known items (replace_each s r n) ≡ true → is_known items (cond b r (lam a d (replace_each s r n))) ≡ true
    by true p q l = h
    by false p q l = λ i. p i && (q i && l i)

pub replaced_typed : (items : Items) (s r n : Nameless) (a c : TypeTree) → nameless_type [] s ≡ Some a → HasType items r a → HasType items n c → HasType items (replace_each s r n) c
replaced_typed items s r n a c of_s h k =
    let come = known_typed items r a h in
    let old = known_typed items n c k in
    typed_known items (replace_each s r n) c (replaced_known items s r n come.0 old.0) (replaced_type s r a of_s come.1 [] n ∙ old.1)
