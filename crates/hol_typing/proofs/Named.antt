-- Named terms that are built of skeletons: what their nameless terms are, and that their types fit.
use Rattle.std.proofs.Common.{◌≡◌, ◌≢◌, ℕ, ◌+◌, ◌<◌, zero, suc, List, [], ◌∷◌, map, refl, sym, ◌∙◌, ap, subst, arith, add-zero, Bool, true, false, bytes_eq, Option, Some, None, slice_get}
use Rattle.std.specs.Option.{option_map, option_and_then}
use Rattle.std.proofs.lemmas.Bool.{or_parts}
use Rattle.std.proofs.lemmas.Slice.Eq.{bytes_eq-Decides}
use Rattle.hol_types.specs.Tree.{TypeTree}
use Rattle.hol_types.specs.Names.{is_among}
use Rattle.hol_types.specs.Equal.{variable_eq}
use Rattle.hol_types.specs.Fun.{fun_type}
use Rattle.hol_terms.specs.Named.{Named, comb, abs, named_type, applied_type}
use Rattle.hol_terms.specs.Nameless.{Nameless, free, bound, fixed, app, lam, place, base_of, nameless, nameless_type}
use Rattle.hol_terms.proofs.Typing.{type_under, applied_fits}
use Rattle.std.specs.Prelude.{Result, Ok, Err, IsErrOf, IsOkUnless}
use Rattle.hol_typing.proofs.Extending.{app_same}
use Rattle.hol_terms.specs.declared.term.TermError.{TermError}
use Rattle.hol_terms.specs.declared.term.TermError.TheVariants.{TypesDontFit, NotAVariable, Memory}
use Rattle.hol_typing.specs.Raw.{RawTree, RawBound, RawConstant, RawFree, RawApply, RawAbstraction, RawAnnotated}
use Rattle.hol_typing.specs.Typing.{IsTyping}
use Rattle.hol_typing.specs.SlotTree.{SlotTree, SlotApply, SlotAbstraction, slot_nodes, typed}
use Rattle.hol_typing.specs.Scoped.{IsFirstAt}
use Rattle.hol_typing.specs.Solved.{IsWellTyped}
use Rattle.hol_terms.proofs.SameNode.{variable_itself}

-- ---- occurrences of variables

abbrev Env : Type 0
Env = List (List ℕ × TypeTree)

other_variable : (u v : List ℕ × TypeTree) → u.0 ≢ v.0 → variable_eq u v ≡ false
other_variable u v ne = by (bytes_eq u.0 v.0) refl
  where
    by : (b : Bool) → bytes_eq u.0 v.0 ≡ b → variable_eq u v ≡ false
    by true e = absurd (ne ((bytes_eq-Decides u.0 v.0).0 e))
    by false e = rw e refl

place_here : (u v : List ℕ × TypeTree) (env : Env) (j : ℕ) → variable_eq u v ≡ true → place (u ∷ env) j v ≡ bound j
place_here u v env j e = rw e refl

place_there : (u v : List ℕ × TypeTree) (env : Env) (j : ℕ) → variable_eq u v ≡ false → place (u ∷ env) j v ≡ place env (j + 1) v
place_there u v env j e = rw e refl

some_same : (u v : List ℕ × TypeTree) → Some u ≡ Some v → u ≡ v
some_same u v e = cc

-- the name of a variable that an index goes to
first_name : (env : Env) (i : ℕ) (a : List ℕ) (v : List ℕ × TypeTree) → IsFirstAt (map (λ u. u.0) env) i a → slice_get env i ≡ Some v → v.0 ≡ a
first_name [] i a v h e = absurd h
first_name (u ∷ env) zero a v h e = ap (λ (w : List ℕ × TypeTree). w.0) (sym (some_same u v e)) ∙ h
first_name (u ∷ env) (suc i) a v (ne, h) e = first_name env i a v h e

-- an index that goes to the first variable of its name
first_place : (env : Env) (i j : ℕ) (a : List ℕ) (v : List ℕ × TypeTree) → IsFirstAt (map (λ u. u.0) env) i a → slice_get env i ≡ Some v → place env j v ≡ bound (j + i)
first_place [] i j a v h e = absurd h
first_place (u ∷ env) zero j a v h e =
    let same : u ≡ v = some_same u v e in
    place_here u v env j (subst (λ (w : List ℕ × TypeTree). variable_eq u w ≡ true) same (variable_itself u)) ∙ ap bound (sym (add-zero j))
first_place (u ∷ env) (suc i) j a v (ne, h) e =
    let named : v.0 ≡ a = first_name env i a v h e in
    let apart : u.0 ≢ v.0 = λ f. ne (f ∙ named) in
    place_there u v env j (other_variable u v apart) ∙ first_place env i (j + 1) a v h e ∙ ap bound (omega arith)

pub bound_place : (env : Env) (i : ℕ) (v : List ℕ × TypeTree) → (a : List ℕ) × IsFirstAt (map (λ u. u.0) env) i a → slice_get env i ≡ Some v → place env 0 v ≡ bound i
bound_place env i v (a, h) e = (let z : 0 + i ≡ i = omega arith in first_place env i 0 a v h e ∙ ap bound z)

pub bound_there : (env : Env) (i : ℕ) → (a : List ℕ) × IsFirstAt (map (λ u. u.0) env) i a → slice_get env i ≡ None → ⊥
bound_there [] i (a, h) e = h
bound_there (u ∷ env) zero (a, h) e = absurd (cc)
bound_there (u ∷ env) (suc i) (a, (ne, h)) e = bound_there env i (a, h) e

free_at : (env : Env) (j : ℕ) (v : List ℕ × TypeTree) → is_among (map (λ u. u.0) env) v.0 ≡ false → place env j v ≡ free v
free_at [] j v h = refl
free_at (u ∷ env) j v h =
    let here : bytes_eq v.0 u.0 ≡ false = (or_parts (bytes_eq v.0 u.0) (is_among (map (λ w. w.0) env) v.0) h).0 in
    let apart : u.0 ≢ v.0 = λ e. (let z : true ≡ false = sym ((bytes_eq-Decides v.0 u.0).1 (sym e)) ∙ here in cc) in
    place_there u v env j (other_variable u v apart) ∙ free_at env (j + 1) v (or_parts (bytes_eq v.0 u.0) (is_among (map (λ w. w.0) env) v.0) h).1

pub free_place : (env : Env) (x : List ℕ) (t : TypeTree) → is_among (map (λ u. u.0) env) x ≡ false → place env 0 (x, t) ≡ free (x, t)
free_place env x t h = free_at env 0 (x, t) h

-- ---- types

pub typed_function : (env : List TypeTree) (f x : Nameless) → IsWellTyped env (app f x) → IsWellTyped env f
typed_function env f x (t, e) = by (nameless_type env f) refl e
  where
    by : (o : Option TypeTree) → nameless_type env f ≡ o → option_and_then (λ s. option_and_then (λ u. applied_type s u) (nameless_type env x)) o ≡ Some t → IsWellTyped env f
    by None p q = absurd (cc)
    by (Some s) p q = (s, p)

pub typed_argument : (env : List TypeTree) (f x : Nameless) → IsWellTyped env (app f x) → IsWellTyped env x
typed_argument env f x (t, e) = by (nameless_type env f) (nameless_type env x) refl e
  where
    by : (o p : Option TypeTree) → nameless_type env x ≡ p → option_and_then (λ s. option_and_then (λ u. applied_type s u) p) o ≡ Some t → IsWellTyped env x
    by None p q r = absurd (cc)
    by (Some s) None q r = absurd (cc)
    by (Some s) (Some u) q r = (u, q)

pub typed_body : (env : List TypeTree) (a : List ℕ) (s : TypeTree) (b : Nameless) → IsWellTyped env (lam a s b) → IsWellTyped (s ∷ env) b
typed_body env a s b (t, e) = by (nameless_type (s ∷ env) b) refl e
  where
    by : (o : Option TypeTree) → nameless_type (s ∷ env) b ≡ o → option_map (λ u. fun_type s u) o ≡ Some t → IsWellTyped (s ∷ env) b
    by None p q = absurd (cc)
    by (Some u) p q = (u, p)

lam_same : (x y : List ℕ) (s t : TypeTree) (p q : Nameless) → x ≡ y → s ≡ t → p ≡ q → lam x s p ≡ lam y t q
lam_same x y s t p q e g h = cc

-- the abstraction that a skeleton's is built into
pub abstraction_built : (types : ℕ → TypeTree) (env : Env) (term : SlotTree) (x : List ℕ) (slot : ℕ) (body : SlotTree) (v : List ℕ × TypeTree) (inner r : Named) →
    term ≡ SlotAbstraction x slot body → v ≡ (x, types slot) → nameless (v ∷ env) inner ≡ typed types body → r ≡ abs v inner → nameless env r ≡ typed types term
abstraction_built types env term x slot body v inner r e g h is =
    ap (nameless env) is
    ∙ lam_same (base_of v.0) (base_of x) v.1 (types slot) (nameless (v ∷ env) inner) (typed types body) (ap (λ (u : List ℕ × TypeTree). base_of u.0) g) (ap (λ (u : List ℕ × TypeTree). u.1) g) h
    ∙ sym (ap (typed types) e)

none_some : (t : TypeTree) → None ≡ Some t → ⊥
none_some t e = cc

-- an application of well typed parts that fit has a type
pub comb_fits : (env : Env) (f x : Named) (p q : Nameless) → nameless env f ≡ p → nameless env x ≡ q → IsWellTyped (map (λ v. v.1) env) (app p q) → named_type (comb f x) ≡ None → ⊥
comb_fits env f x p q e g (t, typed') none =
    let whole : nameless env (comb f x) ≡ app p q = app_same (nameless env f) p (nameless env x) q e g in
    none_some t (sym none ∙ sym (type_under env (comb f x)) ∙ ap (nameless_type (map (λ v. v.1) env)) whole ∙ typed')

-- ---- typings are well typed

pub typing_type : (type_of : List ℕ → TypeTree) (env : List TypeTree) (raw : RawTree) (p : Nameless) (t : TypeTree) → IsTyping type_of env raw p t → nameless_type env p ≡ Some t
typing_type type_of env (RawBound i) (free v) t h = absurd h
typing_type type_of env (RawBound i) (bound j) t (e, h) = ap (slice_get env) (sym e) ∙ h
typing_type type_of env (RawBound i) (fixed c u) t h = absurd h
typing_type type_of env (RawBound i) (app f x) t h = absurd h
typing_type type_of env (RawBound i) (lam a s b) t h = absurd h
typing_type type_of env (RawConstant c g) (free v) t h = absurd h
typing_type type_of env (RawConstant c g) (bound j) t h = absurd h
typing_type type_of env (RawConstant c g) (fixed d u) t (e, f, h) = ap (λ (s : TypeTree). Some s) f
typing_type type_of env (RawConstant c g) (app f x) t h = absurd h
typing_type type_of env (RawConstant c g) (lam a s b) t h = absurd h
typing_type type_of env (RawFree x) (free v) t (e, h) = ap (λ (w : List ℕ × TypeTree). Some w.1) e
typing_type type_of env (RawFree x) (bound j) t h = absurd h
typing_type type_of env (RawFree x) (fixed d u) t h = absurd h
typing_type type_of env (RawFree x) (app f y) t h = absurd h
typing_type type_of env (RawFree x) (lam a s b) t h = absurd h
typing_type type_of env (RawApply f a) (free v) t h = absurd h
typing_type type_of env (RawApply f a) (bound j) t h = absurd h
typing_type type_of env (RawApply f a) (fixed d u) t h = absurd h
typing_type type_of env (RawApply f a) (app g b) t (s, p, q) =
    let e : nameless_type env g ≡ Some (fun_type s t) = typing_type type_of env f g (fun_type s t) p in
    let d : nameless_type env b ≡ Some s = typing_type type_of env a b s q in
    rw (e, d) (applied_fits s t)
typing_type type_of env (RawApply f a) (lam x s b) t h = absurd h
typing_type type_of env (RawAbstraction x annotation body) (free v) t h = absurd h
typing_type type_of env (RawAbstraction x annotation body) (bound j) t h = absurd h
typing_type type_of env (RawAbstraction x annotation body) (fixed d u) t h = absurd h
typing_type type_of env (RawAbstraction x annotation body) (app f a) t h = absurd h
typing_type type_of env (RawAbstraction x annotation body) (lam y s b) t (e, m, (u, f, q)) =
    let d : nameless_type (s ∷ env) b ≡ Some u = typing_type type_of (s ∷ env) body b u q in
    rw d (ap (λ (w : TypeTree). Some w) (sym f))
typing_type type_of env (RawAnnotated e a) p t (f, h) = typing_type type_of env e p t h

-- a result whose errors are not these two has no other but want of memory
pub only_memory : (r : Result Named TermError) → (IsErrOf r TypesDontFit → ⊥) → (IsErrOf r NotAVariable → ⊥) → IsOkUnless r Memory
only_memory (Ok t) p q = tt
only_memory (Err TypesDontFit) p q = absurd (p refl)
only_memory (Err NotAVariable) p q = absurd (q refl)
only_memory (Err Memory) p q = refl

-- ---- parts have fewer nodes

pub function_falls : (t f a g : SlotTree) → t ≡ SlotApply f a → f ≡ g → slot_nodes g < slot_nodes t
function_falls t f a g e h = (let p : slot_nodes t ≡ 1 + slot_nodes f + slot_nodes a = ap slot_nodes e in let q : slot_nodes f ≡ slot_nodes g = ap slot_nodes h in omega (arith, p, q))

pub argument_falls : (t f a g : SlotTree) → t ≡ SlotApply f a → a ≡ g → slot_nodes g < slot_nodes t
argument_falls t f a g e h = (let p : slot_nodes t ≡ 1 + slot_nodes f + slot_nodes a = ap slot_nodes e in let q : slot_nodes a ≡ slot_nodes g = ap slot_nodes h in omega (arith, p, q))

pub body_falls : (t b g : SlotTree) (x : List ℕ) (s : ℕ) → t ≡ SlotAbstraction x s b → b ≡ g → slot_nodes g < slot_nodes t
body_falls t b g x s e h = (let p : slot_nodes t ≡ 1 + slot_nodes b = ap slot_nodes e in let q : slot_nodes b ≡ slot_nodes g = ap slot_nodes h in omega (arith, p, q))
