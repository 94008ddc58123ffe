-- What stands at a place of a named term under binders: which nameless term it is, and whether it can be taken out from under them.
use Rattle.std.proofs.Common.{◌≡◌, ℕ, ◌+◌, ◌-◌, ◌≤◌, List, [], ◌∷◌, ◌++◌, length, refl, sym, ap, ◌∙◌, Bool, true, false, cond, ◌||◌, nat_lt, Some, None, arith}
use Rattle.std.specs.Option.{option_map, option_and_then}
use Rattle.hol_types.specs.Tree.{TypeTree}
use Rattle.hol_types.specs.Equal.{variable_eq}
use Rattle.hol_terms.specs.Named.{Named, var, constant, comb, abs}
use Rattle.hol_terms.specs.Nameless.{Nameless, free, bound, fixed, app, lam, base_of, place, nameless}
use Rattle.hol_terms.specs.Alpha.{alpha_eq}
use Rattle.hol_terms.specs.Scoped.{binds, same_named, occurs_in}
use Rattle.hol_terms.proofs.Same.{IsPlace, place_is, variable_eq_decides}
use Rattle.hol_terms.proofs.Alpha.{alpha_under}
use Rattle.hol_subst.proofs.Closing.{below, not_below}
use Rattle.hol_formulas.specs.Equation.{dest_comb}
use Rattle.hol_formulas.specs.Formula.{dest_abs}
use Rattle.hol_match.specs.Instance.{InstanceValue}
use Rattle.hol_match.specs.Lowering.{lowered}
use Rattle.hol_match.specs.Matching.{matched, constant_meets}
use Rattle.hol_match.specs.Places.{has_one_of}

abbrev Var : Type 0
Var = List ℕ × TypeTree

-- ---- an occurrence of a variable is no constant, application or abstraction

no_comb : (n : Nameless) → IsPlace n → dest_comb n ≡ None
no_comb (free v) p = refl
no_comb (bound i) p = refl
no_comb (fixed c s) p = refl
no_comb (app f x) p = absurd p
no_comb (lam a s b) p = refl

no_abs : (n : Nameless) → IsPlace n → dest_abs n ≡ None
no_abs (free v) p = refl
no_abs (bound i) p = refl
no_abs (fixed c s) p = refl
no_abs (app f x) p = refl
no_abs (lam a s b) p = absurd p

no_constant : (c : List ℕ) (s : TypeTree) (found : InstanceValue) (n : Nameless) → IsPlace n → constant_meets c s found n ≡ None
no_constant c s found (free v) p = refl
no_constant c s found (bound i) p = refl
no_constant c s found (fixed d t) p = absurd p
no_constant c s found (app f x) p = refl
no_constant c s found (lam a t b) p = refl

pub variable_no_comb : (env : List (List ℕ × TypeTree)) (v : List ℕ × TypeTree) → dest_comb (nameless env (var v)) ≡ None
variable_no_comb env v = no_comb (place env 0 v) (place_is env 0 v)

pub variable_no_abs : (env : List (List ℕ × TypeTree)) (v : List ℕ × TypeTree) → dest_abs (nameless env (var v)) ≡ None
variable_no_abs env v = no_abs (place env 0 v) (place_is env 0 v)

pub variable_no_constant : (c : List ℕ) (s : TypeTree) (found : InstanceValue) (env : List (List ℕ × TypeTree)) (v : List ℕ × TypeTree) → constant_meets c s found (nameless env (var v)) ≡ None
variable_no_constant c s found env v = no_constant c s found (place env 0 v) (place_is env 0 v)

-- ---- a variable of the pattern, bound or not

pub free_place : (env : List (List ℕ × TypeTree)) (i : ℕ) (v : List ℕ × TypeTree) → binds env v ≡ false → place env i v ≡ free v
free_place [] i v h = refl
free_place (u ∷ env) i v h = by (variable_eq u v) (free_place env (i + 1) v) h
  where
    by : (b : Bool) → (binds env v ≡ false → place env (i + 1) v ≡ free v) → (b || binds env v) ≡ false → cond b (bound i) (place env (i + 1) v) ≡ free v
    by true r h = absurd (cc)
    by false r h = r h

bound_place : (env : List Var) (i k : ℕ) (v : Var) (found : InstanceValue) (n : Nameless) → binds env v ≡ true → matched k (place env i v) found n ≡ cond (alpha_eq (place env i v) n) (Some found) None
bound_place [] i k v found n h = absurd (cc)
bound_place (u ∷ env) i k v found n h = by (variable_eq u v) (bound_place env (i + 1) k v found n) h
  where
    by : (b : Bool) → (binds env v ≡ true → matched k (place env (i + 1) v) found n ≡ cond (alpha_eq (place env (i + 1) v) n) (Some found) None) → (b || binds env v) ≡ true → matched k (cond b (bound i) (place env (i + 1) v)) found n ≡ cond (alpha_eq (cond b (bound i) (place env (i + 1) v)) n) (Some found) None
    by true r h = refl
    by false r h = r h

pub bound_meets : (left : List (List ℕ × TypeTree)) (v : List ℕ × TypeTree) (right : List (List ℕ × TypeTree)) (t : Named) (k : ℕ) (found : InstanceValue) → binds left v ≡ true → length left ≡ length right → matched k (nameless left (var v)) found (nameless right t) ≡ cond (same_named false left (var v) right t) (Some found) None
bound_meets left v right t k found h e = bound_place left 0 k v found (nameless right t) h ∙ ap (λ b. cond b (Some found) None) (sym (alpha_under left (var v) right t e))

pub free_meets : (left : List (List ℕ × TypeTree)) (v : List ℕ × TypeTree) (k : ℕ) (found : InstanceValue) (n : Nameless) → binds left v ≡ false → matched k (nameless left (var v)) found n ≡ matched k (free v) found n
free_meets left v k found n h = ap (λ m. matched k m found n) (free_place left 0 v h)

-- ---- a term taken out from under binders

-- one of the binders env is free in the term, where none of the inner ones is the same variable
abbrev reaches : List Var → List Var → Named → Bool
reaches inner [] t = false
reaches inner (u ∷ env) t = cond (binds inner u) false (occurs_in u t) || reaches inner env t

either_part : (b p q r s : Bool) → (cond b false (p || q) || (r || s)) ≡ ((cond b false p || r) || (cond b false q || s))
either_part true p q r s = refl
either_part false true q r s = refl
either_part false false true true s = refl
either_part false false true false s = refl
either_part false false false true s = refl
either_part false false false false s = refl

reaches_comb : (inner env : List Var) (f x : Named) → reaches inner env (comb f x) ≡ (reaches inner env f || reaches inner env x)
reaches_comb inner [] f x = refl
reaches_comb inner (u ∷ env) f x = rw (reaches_comb inner env f x) (either_part (binds inner u) (occurs_in u f) (occurs_in u x) (reaches inner env f) (reaches inner env x))

under : (a b o : Bool) → cond b false (cond a false o) ≡ cond (a || b) false o
under true true o = refl
under true false o = refl
under false b o = refl

reaches_abs : (inner env : List Var) (v : Var) (b : Named) → reaches inner env (abs v b) ≡ reaches (v ∷ inner) env b
reaches_abs inner [] v b = refl
reaches_abs inner (u ∷ env) v b = rw (reaches_abs inner env v b, under (variable_eq v u) (binds inner u) (occurs_in u b)) refl

reaches_constant : (inner env : List Var) (c : List ℕ) (s : TypeTree) → reaches inner env (constant c s) ≡ false
reaches_constant inner [] c s = refl
reaches_constant inner (u ∷ env) c s = by (binds inner u) (reaches_constant inner env c s)
  where
    by : (b : Bool) → reaches inner env (constant c s) ≡ false → (cond b false false || reaches inner env (constant c s)) ≡ false
    by true r = r
    by false r = r

-- a variable that an inner binder binds is none of env's
reaches_inner : (inner env : List Var) (v : Var) → binds inner v ≡ true → reaches inner env (var v) ≡ false
reaches_inner inner [] v h = refl
reaches_inner inner (u ∷ env) v h = by (variable_eq v u) refl (binds inner u) refl (reaches_inner inner env v h)
  where
    by : (a : Bool) → variable_eq v u ≡ a → (b : Bool) → binds inner u ≡ b → reaches inner env (var v) ≡ false → (cond b false a || reaches inner env (var v)) ≡ false
    by true p true q r = r
    by true p false q r = let z : true ≡ false = sym h ∙ ap (binds inner) ((variable_eq_decides v u).0 p) ∙ q in absurd (cc)
    by false p true q r = r
    by false p false q r = r

-- where the place of v is counted from j on, a place of the m binders env, or none
outer_place : (inner env : List Var) (i j : ℕ) (v : Var) → binds inner v ≡ false → j ≤ i → lowered (length env + (i - j)) j (place env i v) ≡ cond (reaches inner env (var v)) None (Some (free v))
outer_place inner [] i j v h l = refl
outer_place inner (u ∷ env) i j v h l =
    let e : length (u ∷ env) + (i - j) ≡ length env + (i + 1 - j) = omega arith in
    by (variable_eq u v) refl (variable_eq v u) refl (binds inner u) refl
    (ap (λ m. lowered m j (place env (i + 1) v)) e ∙ outer_place inner env (i + 1) j v h (omega arith))
  where
    by : (a : Bool) → variable_eq u v ≡ a → (b : Bool) → variable_eq v u ≡ b → (c : Bool) → binds inner u ≡ c → lowered (length (u ∷ env) + (i - j)) j (place env (i + 1) v) ≡ cond (reaches inner env (var v)) None (Some (free v)) → lowered (length (u ∷ env) + (i - j)) j (cond a (bound i) (place env (i + 1) v)) ≡ cond (cond c false b || reaches inner env (var v)) None (Some (free v))
    by true p true q true r d = let z : true ≡ false = sym r ∙ ap (binds inner) ((variable_eq_decides u v).0 p) ∙ h in absurd (cc)
    by true p true q false r d =
        let e : nat_lt i j ≡ false = not_below i j l in
        let f : nat_lt i (j + (length (u ∷ env) + (i - j))) ≡ true = below i (j + (length (u ∷ env) + (i - j))) (omega arith) in
        rw (e, f) refl
    by true p false q c r d = let z : true ≡ false = sym ((variable_eq_decides v u).1 (sym ((variable_eq_decides u v).0 p))) ∙ q in absurd (cc)
    by false p true q c r d = let z : true ≡ false = sym ((variable_eq_decides u v).1 (sym ((variable_eq_decides v u).0 q))) ∙ p in absurd (cc)
    by false p false q true r d = d
    by false p false q false r d = d

indexed : (env : List Var) (i : ℕ) (v : Var) → binds env v ≡ true → (n k : ℕ) → i + length env ≤ k → lowered n k (place env i v) ≡ Some (place env i v)
indexed [] i v h n k l = absurd (cc)
indexed (u ∷ env) i v h n k l = by (variable_eq u v) h (λ g. indexed env (i + 1) v g n k (omega arith))
  where
    by : (b : Bool) → (b || binds env v) ≡ true → (binds env v ≡ true → lowered n k (place env (i + 1) v) ≡ Some (place env (i + 1) v)) → lowered n k (cond b (bound i) (place env (i + 1) v)) ≡ Some (cond b (bound i) (place env (i + 1) v))
    by true h r = let e : nat_lt i k ≡ true = below i k (omega arith) in rw e refl
    by false h r = r h

-- a place under inner binders and then those of env: of the inner ones alone, if they have it
place_found : (inner env : List Var) (i : ℕ) (v : Var) → binds inner v ≡ true → place (inner ++ env) i v ≡ place inner i v
place_found [] env i v h = absurd (cc)
place_found (u ∷ inner) env i v h = by (variable_eq u v) h (λ g. place_found inner env (i + 1) v g)
  where
    by : (b : Bool) → (b || binds inner v) ≡ true → (binds inner v ≡ true → place (inner ++ env) (i + 1) v ≡ place inner (i + 1) v) → cond b (bound i) (place (inner ++ env) (i + 1) v) ≡ cond b (bound i) (place inner (i + 1) v)
    by true h r = refl
    by false h r = r h

place_passed : (inner env : List Var) (i : ℕ) (v : Var) → binds inner v ≡ false → place (inner ++ env) i v ≡ place env (i + length inner) v
place_passed [] env i v h = let e : i ≡ i + 0 = omega arith in ap (λ j. place env j v) e
place_passed (u ∷ inner) env i v h = by (variable_eq u v) h (λ g. place_passed inner env (i + 1) v g)
  where
    by : (b : Bool) → (b || binds inner v) ≡ false → (binds inner v ≡ false → place (inner ++ env) (i + 1) v ≡ place env (i + 1 + length inner) v) → cond b (bound i) (place (inner ++ env) (i + 1) v) ≡ place env (i + length (u ∷ inner)) v
    by true h r = absurd (cc)
    by false h r = let e : i + 1 + length inner ≡ i + length (u ∷ inner) = omega arith in r h ∙ ap (λ j. place env j v) e

lowered_place : (inner env : List Var) (v : Var) → lowered (length env) (length inner) (place (inner ++ env) 0 v) ≡ cond (reaches inner env (var v)) None (Some (place inner 0 v))
lowered_place inner env v = by (binds inner v) refl
  where
    by : (b : Bool) → binds inner v ≡ b → lowered (length env) (length inner) (place (inner ++ env) 0 v) ≡ cond (reaches inner env (var v)) None (Some (place inner 0 v))
    by true h = rw (place_found inner env 0 v h, reaches_inner inner env v h) (indexed inner 0 v h (length env) (length inner) (omega arith))
    by false h =
        let e : 0 + length inner ≡ length inner = omega arith in
        let f : length env ≡ length env + (length inner - length inner) = omega arith in
        ap (lowered (length env) (length inner)) (place_passed inner env 0 v h ∙ ap (λ j. place env j v) e)
        ∙ ap (λ m. lowered m (length inner) (place env (length inner) v)) f
        ∙ outer_place inner env (length inner) (length inner) v h (omega arith)
        ∙ ap (λ n. cond (reaches inner env (var v)) None (Some n)) (sym (free_place inner 0 v h))

joined : (p q : Bool) (g y : Nameless) → option_and_then (λ h. option_map (λ z. app h z) (cond q None (Some y))) (cond p None (Some g)) ≡ cond (p || q) None (Some (app g y))
joined true q g y = refl
joined false true g y = refl
joined false false g y = refl

wrapped : (p : Bool) (a : List ℕ) (s : TypeTree) (d : Nameless) → option_map (λ e. lam a s e) (cond p None (Some d)) ≡ cond p None (Some (lam a s d))
wrapped true a s d = refl
wrapped false a s d = refl

lowered_under : (inner env : List Var) (t : Named) → lowered (length env) (length inner) (nameless (inner ++ env) t) ≡ cond (reaches inner env t) None (Some (nameless inner t))
lowered_under inner env (var v) = lowered_place inner env v
lowered_under inner env (constant c s) = rw (reaches_constant inner env c s) refl
lowered_under inner env (comb f x) = rw (lowered_under inner env f, lowered_under inner env x, reaches_comb inner env f x) (joined (reaches inner env f) (reaches inner env x) (nameless inner f) (nameless inner x))
lowered_under inner env (abs v b) =
    let e : length inner + 1 ≡ length (v ∷ inner) = omega arith in
    let r : lowered (length env) (length inner + 1) (nameless (v ∷ inner ++ env) b) ≡ cond (reaches (v ∷ inner) env b) None (Some (nameless (v ∷ inner) b)) =
    ap (λ k. lowered (length env) k (nameless (v ∷ inner ++ env) b)) e ∙ lowered_under (v ∷ inner) env b in
    ap (option_map (λ d. lam (base_of v.0) v.1 d)) r ∙ wrapped (reaches (v ∷ inner) env b) (base_of v.0) v.1 (nameless (v ∷ inner) b) ∙ ap (λ p. cond p None (Some (lam (base_of v.0) v.1 (nameless (v ∷ inner) b)))) (sym (reaches_abs inner env v b))

outside : (env : List Var) (t : Named) → reaches [] env t ≡ has_one_of env t
outside [] t = refl
outside (u ∷ env) t = rw (outside env t) refl

-- a term is taken out from under the binders where none of them is free in it
pub taken_out : (env : List (List ℕ × TypeTree)) (t : Named) → lowered (length env) 0 (nameless env t) ≡ cond (has_one_of env t) None (Some (nameless [] t))
taken_out env t = lowered_under [] env t ∙ ap (λ b. cond b None (Some (nameless [] t))) (outside env t)
