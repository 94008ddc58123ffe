-- Templates: terms with a variable that they do not have for each occurrence of a term.
use Rattle.std.specs.Prelude.{◌≡◌, ℕ, ◌+◌, ◌≤◌, Bool, true, false, cond, ◌||◌, List, [], ◌∷◌, ◌++◌, length, codes, Some, refl}
use Rattle.std.proofs.Common.{ap, sym, ◌∙◌, arith, length-append}
use Rattle.std.proofs.lemmas.Bool.{or_parts, false_from_ne_true}
use Rattle.std.specs.Cmp.{both_ways}
use Rattle.hol_just.proofs.EliminationRules.{same_free}
use Rattle.hol_types.specs.Tree.{TypeTree}
use Rattle.hol_types.specs.Equal.{variable_eq}
use Rattle.hol_terms.specs.Named.{Named, var, constant, comb, abs, named_type}
use Rattle.hol_terms.specs.Nameless.{Nameless, free, bound, fixed, app, lam, base_of, nameless, nameless_type, free_occurrences}
use Rattle.hol_terms.specs.Scoped.{binds, occurs_in}
use Rattle.hol_terms.specs.Alpha.{strip, alpha_eq}
use Rattle.hol_terms.proofs.Alpha.{alpha_eq_decides}
use Rattle.hol_terms.proofs.Occurs.{binds_append, occurs_is}
use Rattle.hol_terms.proofs.Same.{variable_eq_decides}
use Rattle.hol_terms.proofs.Typing.{type_outside}
use Rattle.hol_subst.specs.Closing.{close, open_with}
use Rattle.hol_subst.specs.Substitution.{term_subst}
use Rattle.hol_subst.proofs.Closing.{IsClosed, closed_named, closed_more, close_under, close_unchanged, close_binds, open_close}
use Rattle.hol_subst.proofs.Opening.{open_close_subst}
use Rattle.hol_subst.proofs.Strip.{strip_close, strip_open}
use Rattle.hol_formulas.specs.Formula.{quantifier_type, universal}
use Rattle.hol_formulas.specs.Making.{mk_forall}
use Rattle.hol_derived.specs.Rules.{over_variable}
use Rattle.hol_derived.proofs.Bodies.{open_whole}
use Rattle.hol_kernel.proofs.Sound.{strip_type}
use Rattle.hol_just.specs.Replacing.{replace_each}
use Rattle.hol_just.proofs.Replacing.{replaced_after}
use Rattle.hol_steps.specs.Unused.{HasNo, AreShort}

abbrev Variable : Type 0
Variable = List ℕ × TypeTree

-- ---- a variable that a term does not have

pub shorter : (m n : ℕ) (t : Named) → m ≤ n → AreShort m t → AreShort n t
shorter m n (var u) l h = omega (arith, l, h)
shorter m n (constant c s) l h = tt
shorter m n (comb f x) l h = (shorter m n f l h.0, shorter m n x l h.1)
shorter m n (abs u b) l h = let first : length u.0 ≤ m = h.0 in (omega (arith, l, first), shorter m n b l h.1)

not_same : (u v : Variable) (n : ℕ) → length u.0 ≤ n → length v.0 ≡ n + 1 → variable_eq u v ≡ false
not_same u v n l e = false_from_ne_true (variable_eq u v) (λ h. let same : length u.0 ≡ length v.0 = ap (λ x. length x.0) ((variable_eq_decides u v).0 h) in absurd (omega (arith, l, e, same)))

pub longer_other : (v : Variable) (n : ℕ) (t : Named) → length v.0 ≡ n + 1 → AreShort n t → HasNo v t
longer_other v n (var u) e h = not_same u v n h e
longer_other v n (constant c s) e h = tt
longer_other v n (comb f x) e h = (longer_other v n f e h.0, longer_other v n x e h.1)
longer_other v n (abs u b) e h = (not_same u v n h.0 e, longer_other v n b e h.1)

pub primed_other : (name : List ℕ) (v : Variable) (t : Named) → v.0 ≡ name ++ 39 ∷ [] → AreShort (length name) t → HasNo v t
primed_other name v t is h = longer_other v (length name) t (ap length is ∙ length-append name (39 ∷ [])) h

other_occurs : (v : Variable) (t : Named) → HasNo v t → occurs_in v t ≡ false
other_occurs v (var u) h = h
other_occurs v (constant c s) h = refl
other_occurs v (comb f x) h = λ i. other_occurs v f h.0 i || other_occurs v x h.1 i
other_occurs v (abs u b) h = λ i. cond (h.0 i) false (other_occurs v b h.1 i)

-- it is not free there
pub other_absent : (v : Variable) (t : Named) → HasNo v t → binds (free_occurrences (nameless [] t)) v ≡ false
other_absent v t h = sym (occurs_is v t) ∙ other_occurs v t h

-- ---- closing and replacing

module _ (s : Nameless) (closed : IsClosed 0 s) (u : Variable) (absent : binds (free_occurrences s) u ≡ false) where
  same_test : (k : ℕ) (n : Nameless) → alpha_eq (close u k n) s ≡ alpha_eq n s
  same_test k n = both_ways (alpha_eq (close u k n) s) (alpha_eq n s) back there
    where
      there : alpha_eq n s ≡ true → alpha_eq (close u k n) s ≡ true
      there h =
          (alpha_eq_decides (close u k n) s).1
          (strip_close u k n ∙ ap (close u k) ((alpha_eq_decides n s).0 h) ∙ sym (strip_close u k s) ∙ ap strip (close_unchanged u k s (closed_more 0 k s (omega arith) closed) absent))

      back : alpha_eq (close u k n) s ≡ true → alpha_eq n s ≡ true
      back h =
          (alpha_eq_decides n s).1
          (ap strip (sym (open_close u k n)) ∙ strip_open (free u) k (close u k n) ∙ ap (open_with (free u) k) ((alpha_eq_decides (close u k n) s).0 h) ∙ sym (strip_open (free u) k s)
          ∙ ap strip (open_whole (free u) k s closed))

  module _ (v : Variable) (apart : variable_eq u v ≡ false) where
    closed_variable : (k : ℕ) → close u k (free v) ≡ free v
    closed_variable k = ap (λ b. cond b (bound k) (free v)) apart

    pub close_replaced : (k : ℕ) (n : Nameless) → close u k (replace_each s (free v) n) ≡ replace_each s (free v) (close u k n)
    close_replaced k (free w) = by (variable_eq u w) refl (alpha_eq (free w) s) refl
      where
        by :
            (b : Bool) → variable_eq u w ≡ b → (a : Bool) → alpha_eq (free w) s ≡ a → close u k (cond a (free v) (free w)) ≡ replace_each s (free v) (cond b (bound k) (free w))
        by true e true f =
            let same : u ≡ w = (variable_eq_decides u w).0 e in
            let own : (variable_eq w w || false) ≡ false = same_free w (free w) s ((alpha_eq_decides (free w) s).0 f) ∙ ap (λ x. binds (free_occurrences s) x) (sym same) ∙ absent in
            let z : true ≡ false = sym ((variable_eq_decides w w).1 refl) ∙ (or_parts (variable_eq w w) false own).0 in
            absurd cc
        by true e false f = ap (λ b. cond b (bound k) (free w)) e
        by false e true f = closed_variable k ∙ ap (λ a. cond a (free v) (free w)) (sym f)
        by false e false f = ap (λ b. cond b (bound k) (free w)) e ∙ ap (λ a. cond a (free v) (free w)) (sym f)
    close_replaced k (bound i) = refl
    close_replaced k (fixed c a) = by (alpha_eq (fixed c a) s)
      where
        by : (b : Bool) → close u k (cond b (free v) (fixed c a)) ≡ cond b (free v) (fixed c a)
        by true = closed_variable k
        by false = refl
    close_replaced k (app f x) = by (alpha_eq (app f x) s) (same_test k (app f x)) (close_replaced k f) (close_replaced k x)
      where
        by :
            (b : Bool) → alpha_eq (close u k (app f x)) s ≡ b → close u k (replace_each s (free v) f) ≡ replace_each s (free v) (close u k f) →
            close u k (replace_each s (free v) x) ≡ replace_each s (free v) (close u k x) →
            close u k (cond b (free v) (app (replace_each s (free v) f) (replace_each s (free v) x))) ≡ replace_each s (free v) (close u k (app f x))
        by true e p q = closed_variable k ∙ ap (λ b. cond b (free v) (app (replace_each s (free v) (close u k f)) (replace_each s (free v) (close u k x)))) (sym e)
        by false e p q = (λ i. app (p i) (q i)) ∙ ap (λ b. cond b (free v) (app (replace_each s (free v) (close u k f)) (replace_each s (free v) (close u k x)))) (sym e)
    close_replaced k (lam a d n) = by (alpha_eq (lam a d n) s) (same_test k (lam a d n)) (close_replaced (k + 1) n)
      where
        by :
            (b : Bool) → alpha_eq (close u k (lam a d n)) s ≡ b → close u (k + 1) (replace_each s (free v) n) ≡ replace_each s (free v) (close u (k + 1) n) →
            close u k (cond b (free v) (lam a d (replace_each s (free v) n))) ≡ replace_each s (free v) (close u k (lam a d n))
        by true e p = closed_variable k ∙ ap (λ b. cond b (free v) (lam a d (replace_each s (free v) (close u (k + 1) n)))) (sym e)
        by false e p = ap (lam a d) p ∙ ap (λ b. cond b (free v) (lam a d (replace_each s (free v) (close u (k + 1) n)))) (sym e)

-- ---- where a free variable of what is replaced is not free

module _ (s r : Nameless) (u : Variable) (has : binds (free_occurrences s) u ≡ true) where
  differs : (n : Nameless) → binds (free_occurrences n) u ≡ false → alpha_eq n s ≡ false
  differs n e = false_from_ne_true (alpha_eq n s) (λ h. let z : true ≡ false = sym has ∙ sym (same_free u n s ((alpha_eq_decides n s).0 h)) ∙ e in absurd cc)

  stays : (n : Nameless) → binds (free_occurrences n) u ≡ false → replace_each s r n ≡ n
  stays (free w) e = ap (λ b. cond b r (free w)) (differs (free w) e)
  stays (bound i) e = refl
  stays (fixed c a) e = ap (λ b. cond b r (fixed c a)) (differs (fixed c a) e)
  stays (app f x) e =
      let parts = or_parts (binds (free_occurrences f) u) (binds (free_occurrences x) u) (sym (binds_append (free_occurrences f) (free_occurrences x) u) ∙ e) in
      ap (λ b. cond b r (app (replace_each s r f) (replace_each s r x))) (differs (app f x) e) ∙ (λ i. app (stays f parts.0 i) (stays x parts.1 i))
  stays (lam a d n) e = ap (λ b. cond b r (lam a d (replace_each s r n))) (differs (lam a d n) e) ∙ ap (lam a d) (stays n e)

-- ---- the cases of the code

module _ (s : Named) (v : Variable) where
  pub here : (t : Named) → alpha_eq (nameless [] t) (nameless [] s) ≡ true → free v ≡ replace_each (nameless [] s) (free v) (nameless [] t)
  here (var u) h = ap (λ b. cond b (free v) (free u)) (sym h)
  here (constant c a) h = ap (λ b. cond b (free v) (fixed c a)) (sym h)
  here (comb f x) h = ap (λ b. cond b (free v) (app (replace_each (nameless [] s) (free v) (nameless [] f)) (replace_each (nameless [] s) (free v) (nameless [] x)))) (sym h)
  here (abs u b) h = ap (λ b'. cond b' (free v) (lam (base_of u.0) u.1 (replace_each (nameless [] s) (free v) (nameless (u ∷ []) b)))) (sym h)

  pub here_type : (t : Named) → alpha_eq (nameless [] t) (nameless [] s) ≡ true → named_type s ≡ Some v.1 → Some v.1 ≡ named_type t
  here_type t h e =
      sym e ∙ sym (type_outside s) ∙ sym (strip_type [] (nameless [] s)) ∙ ap (nameless_type []) (sym ((alpha_eq_decides (nameless [] t) (nameless [] s)).0 h)) ∙ strip_type [] (nameless [] t) ∙ type_outside t

  pub at_variable : (u : Variable) → alpha_eq (free u) (nameless [] s) ≡ false → free u ≡ replace_each (nameless [] s) (free v) (free u)
  at_variable u h = ap (λ b. cond b (free v) (free u)) (sym h)

  pub at_abstraction :
      (u : Variable) (b m : Named) → alpha_eq (nameless [] (abs u b)) (nameless [] s) ≡ false → binds (free_occurrences (nameless [] s)) u ≡ false → variable_eq u v ≡ false →
      nameless [] m ≡ replace_each (nameless [] s) (free v) (nameless [] b) → nameless [] (abs u m) ≡ replace_each (nameless [] s) (free v) (nameless [] (abs u b))
  at_abstraction u b m h absent apart is =
      ap (lam (base_of u.0) u.1)
      (close_under [] u m ∙ ap (close u 0) is ∙ close_replaced (nameless [] s) (closed_named s) u absent v apart 0 (nameless [] b) ∙ ap (replace_each (nameless [] s) (free v)) (sym (close_under [] u b)))
      ∙ ap (λ b'. cond b' (free v) (lam (base_of u.0) u.1 (replace_each (nameless [] s) (free v) (nameless (u ∷ []) b)))) (sym h)

  pub under_own : (u : Variable) (b : Named) → binds (free_occurrences (nameless [] s)) u ≡ true → nameless [] (abs u b) ≡ replace_each (nameless [] s) (free v) (nameless [] (abs u b))
  under_own u b has = sym (stays (nameless [] s) (free v) u has (nameless [] (abs u b)) (ap (λ t. binds (free_occurrences t) u) (close_under [] u b) ∙ close_binds u 0 (nameless [] b)))

-- the template with a term for the variable
pub filled :
    (s t w m : Named) (v : Variable) → HasNo v w → nameless [] m ≡ replace_each (nameless [] s) (free v) (nameless [] w) →
    open_with (nameless [] t) 0 (nameless (v ∷ []) m) ≡ replace_each (nameless [] s) (nameless [] t) (nameless [] w)
filled s t w m v other is =
    ap (open_with (nameless [] t) 0) (close_under [] v m) ∙ open_close_subst v (nameless [] t) 0 (nameless [] m) ∙ ap (term_subst ((nameless [] t, v) ∷ []) 0) is
    ∙ replaced_after (nameless [] s) (nameless [] t) v 0 (nameless [] w) (closed_named t) (other_absent v w other)

-- ---- the general formula

pub general_is : (x : Variable) (body : Named) (n : Nameless) → nameless [] body ≡ n → nameless [] (mk_forall x body) ≡ universal (over_variable x n)
general_is x body n is = ap (λ b. app (fixed (codes "!") (quantifier_type x.1)) (lam (base_of x.0) x.1 b)) (close_under [] x body ∙ ap (close x 0) is)
