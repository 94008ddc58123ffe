-- Values of terms: they have the values' types, and what closing, substitution and names do to them.
use Rattle.std.proofs.Common.{◌≡◌, ℕ, zero, suc, ◌+◌, ◌<◌, ◌≤◌, List, [], ◌∷◌, ◌++◌, length, refl, ap, sym, ◌∙◌, subst, Bool, true, false, cond, ◌&&◌, nat_lt, Some, slice_get, arith}
use Rattle.std.specs.Option.{option_map}
use Rattle.std.proofs.lemmas.Bool.{or_parts, and_parts}
use Rattle.hol_types.specs.Tree.{TypeTree}
use Rattle.hol_types.specs.Fun.{fun_type}
use Rattle.hol_types.specs.Equal.{variable_eq}
use Rattle.hol_types.specs.Subst.{type_subst}
use Rattle.hol_terms.specs.Nameless.{Nameless, free, bound, fixed, app, lam, nameless_type, free_occurrences}
use Rattle.hol_terms.specs.Alpha.{strip}
use Rattle.hol_terms.specs.Scoped.{binds}
use Rattle.hol_terms.proofs.Same.{variable_eq_decides}
use Rattle.hol_terms.proofs.Occurs.{binds_append}
use Rattle.hol_subst.specs.Closing.{close}
use Rattle.hol_subst.specs.Substitution.{term_for, term_subst, variable_inst, types_inst}
use Rattle.hol_subst.proofs.Closing.{IsClosed, below_is, not_below_is, shift_whole, eq_flip}
use Rattle.hol_subst.proofs.Typing.{AllTyped, typed_closed, mapped_part}
use Rattle.hol_kernel.proofs.Stands.{app_parts, some_is}
use Rattle.hol_model.proofs.Interpretations.{Assignment, Interpretation, Valuation, Constructors, elements, instance_values, constant_value, nth, eval}
use Rattle.hol_model.proofs.Types.{HaveSameElements, same_elements, part_same, assignment_inst, elements_subst}
use Rattle.hol_model.proofs.Universes.{Universe}

module _ (U : Universe) where
  open U use {Value, Set}
  open U.laws use {is_in, same, off, apply, table, table_same, table_in, apply_in}

  abbrev In : Value → Set → Type 0
  In x xs = is_in x xs ≡ true

  -- ---- values have the types of their terms

  -- each variable has a value of its type
  abbrev pub IsFitting : Constructors U → Assignment U → Valuation U → Type 0
  IsFitting k d f = (v : List ℕ × TypeTree) → In (f v) (elements U k d v.1)

  abbrev EnvFits : Constructors U → Assignment U → List Value → List TypeTree → Type 0
  EnvFits k d [] [] = Unit {0}
  EnvFits k d [] (t ∷ ts) = ⊥
  EnvFits k d (x ∷ env) [] = ⊥
  EnvFits k d (x ∷ env) (t ∷ ts) = In x (elements U k d t) × EnvFits k d env ts

  nth_fits : (k : Constructors U) (d : Assignment U) (env : List Value) (ts : List TypeTree) (i : ℕ) (a : TypeTree) → EnvFits k d env ts → slice_get ts i ≡ Some a → In (nth U env i) (elements U k d a)
  nth_fits k d [] [] i a h e = absurd (cc)
  nth_fits k d [] (t ∷ ts) i a h e = absurd h
  nth_fits k d (x ∷ env) [] i a h e = absurd h
  nth_fits k d (x ∷ env) (t ∷ ts) zero a h e = subst (λ (s : TypeTree). In x (elements U k d s)) (some_is t a e) h.0
  nth_fits k d (x ∷ env) (t ∷ ts) (suc i) a h e = nth_fits k d env ts i a h.1 e

  -- each constant that passes the test has a value of its type
  abbrev pub ConstantsFit : Interpretation U → (List ℕ → TypeTree → Bool) → Assignment U → Type 0
  ConstantsFit m has d = (c : List ℕ) (s : TypeTree) → has c s ≡ true → In (constant_value U m d c s) (elements U m.constructors d s)

  -- each constant of the term passes the test
  abbrev pub passes : (List ℕ → TypeTree → Bool) → Nameless → Bool
  passes has (free v) = true
  passes has (bound i) = true
  passes has (fixed c s) = has c s
  passes has (app g x) = passes has g && passes has x
  passes has (lam a s b) = passes has b

  module _ (m : Interpretation U) (d : Assignment U) (has : List ℕ → TypeTree → Bool) (fits : ConstantsFit m has d) where
    eval_under :
        (f : Valuation U) → IsFitting m.constructors d f → (env : List Value) (ts : List TypeTree) → EnvFits m.constructors d env ts → (n : Nameless) (a : TypeTree) →
        passes has n ≡ true → nameless_type ts n ≡ Some a → In (eval U m d f env n) (elements U m.constructors d a)
    eval_under f fit env ts h (free v) a p e = subst (λ (s : TypeTree). In (f v) (elements U m.constructors d s)) (some_is v.1 a e) (fit v)
    eval_under f fit env ts h (bound i) a p e = nth_fits m.constructors d env ts i a h e
    eval_under f fit env ts h (fixed c s) a p e = subst (λ (t : TypeTree). In (constant_value U m d c s) (elements U m.constructors d t)) (some_is s a e) (fits c s p)
    eval_under f fit env ts h (app g x) a p e =
        let q = app_parts ts g x a e in
        let r = and_parts (passes has g) (passes has x) p in
        apply_in (eval U m d f env g) (eval U m d f env x) (elements U m.constructors d q.0) (elements U m.constructors d a)
        (eval_under f fit env ts h g (fun_type q.0 a) r.0 q.1) (eval_under f fit env ts h x q.0 r.1 q.2)
    eval_under f fit env ts h (lam b s n) a p e =
        let q = mapped_part (λ t. fun_type s t) (nameless_type (s ∷ ts) n) a e in
        let is : fun_type s q.0 ≡ a = some_is (fun_type s q.0) a (sym (ap (option_map (λ t. fun_type s t)) q.1) ∙ e) in
        subst (λ (t : TypeTree). In (eval U m d f env (lam b s n)) (elements U m.constructors d t)) is
        (table_in (λ x. eval U m d f (x ∷ env) n) (elements U m.constructors d s) (elements U m.constructors d q.0) (λ x i. eval_under f fit (x ∷ env) (s ∷ ts) (i, h) n q.0 p q.1))

    pub eval_in :
        (f : Valuation U) → IsFitting m.constructors d f → (n : Nameless) (a : TypeTree) → passes has n ≡ true → nameless_type [] n ≡ Some a →
        In (eval U m d f [] n) (elements U m.constructors d a)
    eval_in f fit n a p e = eval_under f fit [] [] tt n a p e

  -- ---- terms whose types, constants and variables have the same values

  module _ (m n : Interpretation U) (d e : Assignment U) (f g : Valuation U) where
    abbrev pub TermAgrees : Nameless → Type 0
    TermAgrees (free v) = f v ≡ g v
    TermAgrees (bound i) = Unit {0}
    TermAgrees (fixed c s) = (m.generics c ≡ n.generics c) × ((b : Assignment U) → m.constants c b ≡ n.constants c b) × HaveSameElements U m.constructors n.constructors d e s
    TermAgrees (app h x) = TermAgrees h × TermAgrees x
    TermAgrees (lam a s b) = HaveSameElements U m.constructors n.constructors d e s × TermAgrees b

    constant_same : (c : List ℕ) (s : TypeTree) → TermAgrees (fixed c s) → constant_value U m d c s ≡ constant_value U n e c s
    constant_same c s h =
        h.1 (instance_values U m.constructors d (m.generics c) s)
        ∙ ap (n.constants c) (λ i a. part_same U m.constructors n.constructors d e a (m.generics c) s h.2 i)
        ∙ ap (λ generic. n.constants c (instance_values U n.constructors e generic s)) h.0

    pub eval_same : (env : List Value) (t : Nameless) → TermAgrees t → eval U m d f env t ≡ eval U n e g env t
    eval_same env (free v) h = h
    eval_same env (bound i) h = refl
    eval_same env (fixed c s) h = constant_same c s h
    eval_same env (app t x) h = λ i. apply (eval_same env t h.0 i) (eval_same env x h.1 i)
    eval_same env (lam a s b) h =
        ap (table (λ x. eval U m d f (x ∷ env) b)) (same_elements U m.constructors n.constructors d e s h.0)
        ∙ table_same (λ x. eval U m d f (x ∷ env) b) (λ x. eval U n e g (x ∷ env) b) (elements U n.constructors e s) (λ x i. eval_same (x ∷ env) b h.1)

  module _ (k : Interpretation U) (d : Assignment U) where
    -- ---- base names do not matter

    pub eval_strip : (f : Valuation U) (env : List Value) (n : Nameless) → eval U k d f env (strip n) ≡ eval U k d f env n
    eval_strip f env (free v) = refl
    eval_strip f env (bound i) = refl
    eval_strip f env (fixed c s) = refl
    eval_strip f env (app g x) = λ i. apply (eval_strip f env g i) (eval_strip f env x i)
    eval_strip f env (lam a s b) = table_same (λ x. eval U k d f (x ∷ env) (strip b)) (λ x. eval U k d f (x ∷ env) b) (elements U k.constructors d s) (λ x m. eval_strip f (x ∷ env) b)

    -- ---- substitution for free variables

    nth_agree : (z : Value) (env more : List Value) (j i : ℕ) → ((i : ℕ) → i < j → nth U env i ≡ nth U more i) → i < j + 1 → nth U (z ∷ env) i ≡ nth U (z ∷ more) i
    nth_agree z env more j zero h l = refl
    nth_agree z env more j (suc i) h l = h i (omega arith)

    eval_agree : (f : Valuation U) (env more : List Value) (j : ℕ) (n : Nameless) → IsClosed j n → ((i : ℕ) → i < j → nth U env i ≡ nth U more i) → eval U k d f env n ≡ eval U k d f more n
    eval_agree f env more j (free v) c h = refl
    eval_agree f env more j (bound i) c h = h i c
    eval_agree f env more j (fixed e s) c h = refl
    eval_agree f env more j (app g x) c h = λ i. apply (eval_agree f env more j g c.0 h i) (eval_agree f env more j x c.1 h i)
    eval_agree f env more j (lam a s b) c h =
        table_same (λ x. eval U k d f (x ∷ env) b) (λ x. eval U k d f (x ∷ more) b) (elements U k.constructors d s) (λ x m. eval_agree f (x ∷ env) (x ∷ more) (j + 1) b c (λ i l. nth_agree x env more j i h l))

    abbrev pub valuation_subst : List (Nameless × (List ℕ × TypeTree)) → Valuation U → Valuation U
    valuation_subst pairs f v = eval U k d f [] (term_for pairs v)

    pub eval_subst : (pairs : List (Nameless × (List ℕ × TypeTree))) → AllTyped pairs → (f : Valuation U) (env : List Value) (j : ℕ) (n : Nameless) → eval U k d f env (term_subst pairs j n) ≡ eval U k d (valuation_subst pairs f) env n
    eval_subst pairs typed f env j (free v) =
        let c : IsClosed 0 (term_for pairs v) = typed_closed [] (term_for pairs v) v.1 (typed v) in
        ap (eval U k d f env) (shift_whole j 0 (term_for pairs v) c) ∙ eval_agree f env [] 0 (term_for pairs v) c (λ i l. absurd (omega arith))
    eval_subst pairs typed f env j (bound i) = refl
    eval_subst pairs typed f env j (fixed c s) = refl
    eval_subst pairs typed f env j (app g x) = λ i. apply (eval_subst pairs typed f env j g i) (eval_subst pairs typed f env j x i)
    eval_subst pairs typed f env j (lam a s b) =
        table_same (λ x. eval U k d f (x ∷ env) (term_subst pairs (j + 1) b)) (λ x. eval U k d (valuation_subst pairs f) (x ∷ env) b) (elements U k.constructors d s) (λ x m. eval_subst pairs typed f (x ∷ env) (j + 1) b)

    -- ---- binding a variable

    abbrev pub updated : Valuation U → List ℕ × TypeTree → Value → Valuation U
    updated f v x w = cond (variable_eq v w) x (f w)

    nth_front : (env : List Value) (x : Value) (i : ℕ) → i < length env → nth U (env ++ x ∷ []) i ≡ nth U env i
    nth_front [] x i h = absurd (omega arith)
    nth_front (y ∷ env) x zero h = refl
    nth_front (y ∷ env) x (suc i) h = nth_front env x i (omega arith)

    nth_end : (env : List Value) (x : Value) → nth U (env ++ x ∷ []) (length env) ≡ x
    nth_end [] x = refl
    nth_end (y ∷ env) x = nth_end env x

    nth_past : (env : List Value) (i : ℕ) → length env ≤ i → nth U env i ≡ off
    nth_past [] i h = refl
    nth_past (y ∷ env) zero h = absurd (omega arith)
    nth_past (y ∷ env) (suc i) h = nth_past env i (omega arith)

    length_end : (env : List Value) (x : Value) → length (env ++ x ∷ []) ≡ length env + 1
    length_end [] x = refl
    length_end (y ∷ env) x = omega (arith, length_end env x)

    pub eval_close : (f : Valuation U) (v : List ℕ × TypeTree) (x : Value) (env : List Value) (j : ℕ) (n : Nameless) → j ≡ length env → eval U k d f (env ++ x ∷ []) (close v j n) ≡ eval U k d (updated f v x) env n
    eval_close f v x env j (free w) e = by (variable_eq v w)
      where
        by : (b : Bool) → eval U k d f (env ++ x ∷ []) (cond b (bound j) (free w)) ≡ cond b x (f w)
        by true = ap (nth U (env ++ x ∷ [])) e ∙ nth_end env x
        by false = refl
    eval_close f v x env j (bound i) e = by (nat_lt i j) refl
      where
        by : (b : Bool) → nat_lt i j ≡ b → nth U (env ++ x ∷ []) (cond b i (i + 1)) ≡ nth U env i
        by true h = let l : i < j = below_is i j h in nth_front env x i (omega arith)
        by false h = let l : j ≤ i = not_below_is i j h in nth_past (env ++ x ∷ []) (i + 1) (omega (arith, length_end env x)) ∙ sym (nth_past env i (omega arith))
    eval_close f v x env j (fixed c s) e = refl
    eval_close f v x env j (app g y) e = λ i. apply (eval_close f v x env j g e i) (eval_close f v x env j y e i)
    eval_close f v x env j (lam a s b) e =
        table_same (λ y. eval U k d f (y ∷ env ++ x ∷ []) (close v (j + 1) b)) (λ y. eval U k d (updated f v x) (y ∷ env) b) (elements U k.constructors d s) (λ y m. eval_close f v x (y ∷ env) (j + 1) b (omega arith))

    -- a variable that is not free does not matter
    pub eval_absent : (f : Valuation U) (v : List ℕ × TypeTree) (x : Value) (env : List Value) (n : Nameless) → binds (free_occurrences n) v ≡ false → eval U k d (updated f v x) env n ≡ eval U k d f env n
    eval_absent f v x env (free w) e = rw (eq_flip v w, (or_parts (variable_eq w v) false e).0) refl
    eval_absent f v x env (bound i) e = refl
    eval_absent f v x env (fixed c s) e = refl
    eval_absent f v x env (app g y) e =
        let p = or_parts _ _ (sym (binds_append (free_occurrences g) (free_occurrences y) v) ∙ e) in
        λ i. apply (eval_absent f v x env g p.0 i) (eval_absent f v x env y p.1 i)
    eval_absent f v x env (lam a s b) e =
        table_same (λ y. eval U k d (updated f v x) (y ∷ env) b) (λ y. eval U k d f (y ∷ env) b) (elements U k.constructors d s) (λ y m. eval_absent f v x (y ∷ env) b e)

    pub updated_fits : (f : Valuation U) → IsFitting k.constructors d f → (v : List ℕ × TypeTree) (x : Value) → In x (elements U k.constructors d v.1) → IsFitting k.constructors d (updated f v x)
    updated_fits f fit v x m w = by (variable_eq v w) refl
      where
        by : (b : Bool) → variable_eq v w ≡ b → In (cond b x (f w)) (elements U k.constructors d w.1)
        by true e = subst (λ (u : List ℕ × TypeTree). In x (elements U k.constructors d u.1)) ((variable_eq_decides v w).0 e) m
        by false e = fit w

    pub updated_same : (f : Valuation U) (v : List ℕ × TypeTree) → updated f v (f v) ≡ f
    updated_same f v = λ i w. at w i
      where
        at : (w : List ℕ × TypeTree) → updated f v (f v) w ≡ f w
        at w = by (variable_eq v w) refl
          where
            by : (b : Bool) → variable_eq v w ≡ b → cond b (f v) (f w) ≡ f w
            by true e = ap f ((variable_eq_decides v w).0 e)
            by false e = refl

  -- ---- types for type variables

  -- the constants of the term at instances have the values under the assignment of the instances
  abbrev pub AreSteady : Interpretation U → (List ℕ → TypeTree → Bool) → Type 0
  AreSteady m has =
      (pairs : List (TypeTree × List ℕ)) (d : Assignment U) (c : List ℕ) (s : TypeTree) → has c s ≡ true →
      constant_value U m d c (type_subst pairs s) ≡ constant_value U m (assignment_inst U m.constructors pairs d) c s

  module _ (m : Interpretation U) (has : List ℕ → TypeTree → Bool) (steady : AreSteady m has) (pairs : List (TypeTree × List ℕ)) (d : Assignment U) where
    abbrev pub valuation_inst : Valuation U → Valuation U
    valuation_inst f v = f (variable_inst pairs v)

    pub eval_inst : (f : Valuation U) (env : List Value) (n : Nameless) → passes has n ≡ true → eval U m d f env (types_inst pairs n) ≡ eval U m (assignment_inst U m.constructors pairs d) (valuation_inst f) env n
    eval_inst f env (free v) p = refl
    eval_inst f env (bound i) p = refl
    eval_inst f env (fixed c s) p = steady pairs d c s p
    eval_inst f env (app g x) p = let r = and_parts (passes has g) (passes has x) p in λ i. apply (eval_inst f env g r.0 i) (eval_inst f env x r.1 i)
    eval_inst f env (lam a s b) p =
        ap (table (λ x. eval U m d f (x ∷ env) (types_inst pairs b))) (elements_subst U m.constructors pairs d s)
        ∙ table_same (λ x. eval U m d f (x ∷ env) (types_inst pairs b)) (λ x. eval U m (assignment_inst U m.constructors pairs d) (valuation_inst f) (x ∷ env) b)
        (elements U m.constructors (assignment_inst U m.constructors pairs d) s) (λ x i. eval_inst f (x ∷ env) b p)

    pub inst_fits : (f : Valuation U) → IsFitting m.constructors d f → IsFitting m.constructors (assignment_inst U m.constructors pairs d) (valuation_inst f)
    inst_fits f fit v = subst (λ (xs : Set). In (f (variable_inst pairs v)) xs) (elements_subst U m.constructors pairs d v.1) (fit (variable_inst pairs v))
