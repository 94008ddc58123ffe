-- The topmost redexes of a term, replaced once: by the nodes beside a part in place of the whole term, and where a free variable of the
-- term is bound outside.
use Rattle.std.proofs.Common.{◌≡◌, ℕ, zero, suc, ◌+◌, ◌<◌, ◌≤◌, List, [], ◌∷◌, ◌++◌, length, refl, ap, sym, ◌∙◌, Bool, true, false, cond, nat_lt, Option, Some, None, slice_get, arith}
use Rattle.std.specs.Option.{option_map}
use Rattle.hol_subst.proofs.TypeLaws.{get_front, get_end}
use Rattle.hol_types.specs.Tree.{TypeTree, type_size}
use Rattle.hol_types.specs.Equal.{variable_eq}
use Rattle.hol_terms.specs.Nameless.{Nameless, free, bound, fixed, app, lam}
use Rattle.hol_terms.specs.Size.{size_at, term_size}
use Rattle.hol_terms.proofs.Same.{variable_eq_decides}
use Rattle.hol_subst.specs.Closing.{close}
use Rattle.hol_subst.proofs.Closing.{below_is, not_below_is}
use Rattle.hol_match.proofs.Under.{get_past}
use Rattle.hol_conv.specs.Turns.{Outcome, finished, limit, too_large}
use Rattle.hol_conv.specs.Once.{paid_or, and_then, once}
use Rattle.hol_conv.specs.Beside.{beside, paid_beside_or, once_beside}
use Rattle.hol_conv.proofs.Outside.{Contract, Commutes}

abbrev Var : Type 0
Var = List ℕ × TypeTree

-- ---- by the nodes beside a part
-- the whole term is too large where what is beside the part and the part are
abbrev pub Counts : List TypeTree → (Nameless → Nameless) → ℕ → Type 0
Counts env whole o = (u : Nameless) → nat_lt 20000 (term_size [] (whole u)) ≡ nat_lt 20000 (o + term_size env u)

same_test : (m n : ℕ) → (20000 < m → 20000 < n) → (20000 < n → 20000 < m) → nat_lt 20000 m ≡ nat_lt 20000 n
same_test m n f g = by (nat_lt 20000 m) refl (nat_lt 20000 n) refl
  where
    by : (a : Bool) → nat_lt 20000 m ≡ a → (b : Bool) → nat_lt 20000 n ≡ b → a ≡ b
    by true p true q = refl
    by false p false q = refl
    by true p false q = let up : 20000 < m = below_is 20000 m p in let down : n ≤ 20000 = not_below_is 20000 n q in absurd (omega (arith, f up))
    by false p true q = let up : 20000 < n = below_is 20000 n q in let down : m ≤ 20000 = not_below_is 20000 m p in absurd (omega (arith, g up))

-- of a part a, and of a part b beside it
both_counted : (o a b n : ℕ) → n ≡ 1 + a + b → nat_lt 20000 (o + n) ≡ nat_lt 20000 (beside o a + b)
both_counted o a b n e = same_test (o + n) (beside o a + b) (λ h. omega (arith, e, h)) (λ h. omega (arith, e, h))

function_counts : (env : List TypeTree) (whole : Nameless → Nameless) (o : ℕ) (x : Nameless) → Counts env whole o → Counts env (λ g. whole (app g x)) (beside o (term_size env x))
function_counts env whole o x h g = h (app g x) ∙ both_counted o (term_size env x) (term_size env g) (term_size env (app g x)) (omega arith)

argument_counts : (env : List TypeTree) (whole : Nameless → Nameless) (o : ℕ) (g : Nameless) → Counts env whole o → Counts env (λ y. whole (app g y)) (beside o (term_size env g))
argument_counts env whole o g h y = h (app g y) ∙ both_counted o (term_size env g) (term_size env y) (term_size env (app g y)) refl

body_counts : (env : List TypeTree) (whole : Nameless → Nameless) (o : ℕ) (a : List ℕ) (s : TypeTree) → Counts env whole o → Counts (s ∷ env) (λ d. whole (lam a s d)) (beside o (type_size s))
body_counts env whole o a s h d = h (lam a s d) ∙ both_counted o (type_size s) (term_size (s ∷ env) d) (term_size env (lam a s d)) refl

paid_is : (env : List TypeTree) (whole : Nameless → Nameless) (o left : ℕ) (p q : Outcome) (r : Option Nameless) → Counts env whole o → p ≡ q → paid_or whole left p r ≡ paid_beside_or env o left q r
paid_is env whole o left p q None h e = e
paid_is env whole o zero p q (Some u) h e = refl
paid_is env whole o (suc left) p q (Some u) h e = ap (λ b. cond b too_large (finished u left)) (h u)

module _ (contract : Contract) where
  pub once_is : (env : List TypeTree) (whole : Nameless → Nameless) (o left : ℕ) (n : Nameless) → Counts env whole o → once contract env whole left n ≡ once_beside contract env o left n
  once_is env whole o left (free v) h = paid_is env whole o left (finished (free v) left) (finished (free v) left) (contract env (free v)) h refl
  once_is env whole o left (bound i) h = paid_is env whole o left (finished (bound i) left) (finished (bound i) left) (contract env (bound i)) h refl
  once_is env whole o left (fixed c s) h = paid_is env whole o left (finished (fixed c s) left) (finished (fixed c s) left) (contract env (fixed c s)) h refl
  once_is env whole o left (app f x) h =
      paid_is env whole o left _ _ (contract env (app f x)) h
      (λ i. and_then (λ g more. and_then (λ y rest. finished (app g y) rest) (once_is env (λ y. whole (app g y)) (beside o (term_size env g)) more x (argument_counts env whole o g h) i)) (once_is env (λ g. whole (app g x)) (beside o (term_size env x)) left f (function_counts env whole o x h) i))
  once_is env whole o left (lam a s b) h =
      paid_is env whole o left _ _ (contract env (lam a s b)) h
      (λ i. and_then (λ d rest. finished (lam a s d) rest) (once_is (s ∷ env) (λ d. whole (lam a s d)) (beside o (type_size s)) left b (body_counts env whole o a s h) i))

  pub once_counts : (left : ℕ) (n : Nameless) → once contract [] (λ u. u) left n ≡ once_beside contract [] 0 left n
  once_counts left n = once_is [] (λ u. u) 0 left n (λ u. ap (nat_lt 20000) (omega arith))

-- ---- where a variable is bound outside
pub size_close : (v : List ℕ × TypeTree) (env : List TypeTree) (n : Nameless) → term_size (env ++ v.1 ∷ []) (close v (length env) n) ≡ term_size env n
size_close v env (free w) = by (variable_eq v w) refl
  where
    by : (b : Bool) → variable_eq v w ≡ b → term_size (env ++ v.1 ∷ []) (cond b (bound (length env)) (free w)) ≡ 1 + type_size w.1
    by true e = ap (λ o. 1 + size_at o) (get_end env v.1) ∙ ap (λ (x : Var). 1 + type_size x.1) ((variable_eq_decides v w).0 e)
    by false e = refl
size_close v env (bound i) = by (nat_lt i (length env)) refl
  where
    by : (b : Bool) → nat_lt i (length env) ≡ b → 1 + size_at (slice_get (env ++ v.1 ∷ []) (cond b i (i + 1))) ≡ 1 + size_at (slice_get env i)
    by true e = ap (λ o. 1 + size_at o) (get_front env v.1 i (below_is i (length env) e))
    by false e =
        let m : i + 1 ≡ suc i = omega arith in
        ap (λ o. 1 + size_at o) (ap (slice_get (env ++ v.1 ∷ [])) m ∙ get_past env v.1 i (not_below_is i (length env) e))
size_close v env (fixed d t) = refl
size_close v env (app f x) = λ i. 1 + size_close v env f i + size_close v env x i
size_close v env (lam a t b) =
    let e : length env + 1 ≡ length (t ∷ env) = omega arith in
    ap (λ n. 1 + type_size t + n) (ap (λ k. term_size (t ∷ (env ++ v.1 ∷ [])) (close v k b)) e ∙ size_close v (t ∷ env) b)

abbrev pub closed_outcome : (Nameless → Nameless) → Outcome → Outcome
closed_outcome c (finished u left) = finished (c u) left
closed_outcome c limit = limit
closed_outcome c too_large = too_large

-- what follows may be closed after
then_closed : (c d : Nameless → Nameless) (go outer : Nameless → ℕ → Outcome) (p : Outcome) → ((g : Nameless) (n : ℕ) → outer (d g) n ≡ closed_outcome c (go g n)) → and_then outer (closed_outcome d p) ≡ closed_outcome c (and_then go p)
then_closed c d go outer (finished u left) h = h u left
then_closed c d go outer limit h = refl
then_closed c d go outer too_large h = refl

module _ (contract : Contract) (v : Var) (h : Commutes contract v) where
  paid_closed : (env : List TypeTree) (o left : ℕ) (p : Outcome) (r : Option Nameless) → paid_beside_or (env ++ v.1 ∷ []) o left (closed_outcome (close v (length env)) p) (option_map (close v (length env)) r) ≡ closed_outcome (close v (length env)) (paid_beside_or env o left p r)
  paid_closed env o left p None = refl
  paid_closed env o zero p (Some u) = refl
  paid_closed env o (suc left) p (Some u) = ap (λ n. cond (nat_lt 20000 (o + n)) too_large (finished (close v (length env) u) left)) (size_close v env u) ∙ by (nat_lt 20000 (o + term_size env u))
    where
      by : (b : Bool) → cond b too_large (finished (close v (length env) u) left) ≡ closed_outcome (close v (length env)) (cond b too_large (finished u left))
      by true = refl
      by false = refl

  variable_closed : (env : List TypeTree) (o left k : ℕ) (w : Var) → once_beside contract env o left (close v k (free w)) ≡ paid_beside_or env o left (finished (close v k (free w)) left) (contract env (close v k (free w)))
  variable_closed env o left k w = by (variable_eq v w)
    where
      by : (b : Bool) → once_beside contract env o left (cond b (bound k) (free w)) ≡ paid_beside_or env o left (finished (cond b (bound k) (free w)) left) (contract env (cond b (bound k) (free w)))
      by true = refl
      by false = refl

  pub once_close : (env : List TypeTree) (o left : ℕ) (n : Nameless) → once_beside contract (env ++ v.1 ∷ []) o left (close v (length env) n) ≡ closed_outcome (close v (length env)) (once_beside contract env o left n)
  once_close env o left (free w) =
      variable_closed (env ++ v.1 ∷ []) o left (length env) w
      ∙ ap (paid_beside_or (env ++ v.1 ∷ []) o left (finished (close v (length env) (free w)) left)) (h env (free w))
      ∙ paid_closed env o left (finished (free w) left) (contract env (free w))
  once_close env o left (bound i) = ap (paid_beside_or (env ++ v.1 ∷ []) o left (finished (close v (length env) (bound i)) left)) (h env (bound i)) ∙ paid_closed env o left (finished (bound i) left) (contract env (bound i))
  once_close env o left (fixed c s) = ap (paid_beside_or (env ++ v.1 ∷ []) o left (finished (fixed c s) left)) (h env (fixed c s)) ∙ paid_closed env o left (finished (fixed c s) left) (contract env (fixed c s))
  once_close env o left (app f x) =
      let C = close v (length env) in
      let E = env ++ v.1 ∷ [] in
      let arg = λ (g : Nameless) (more : ℕ). and_then (λ y rest. finished (app g y) rest) (once_beside contract env (beside o (term_size env g)) more x) in
      let outer = λ (g : Nameless) (more : ℕ). and_then (λ y rest. finished (app g y) rest) (once_beside contract E (beside o (term_size E g)) more (C x)) in
      let inner : (g : Nameless) (n : ℕ) → outer (C g) n ≡ closed_outcome C (arg g n) = λ g n.
      ap (λ k. and_then (λ y rest. finished (app (C g) y) rest) (once_beside contract E (beside o k) n (C x))) (size_close v env g)
      ∙ ap (and_then (λ y rest. finished (app (C g) y) rest)) (once_close env (beside o (term_size env g)) n x)
      ∙ then_closed C C (λ y rest. finished (app g y) rest) (λ y rest. finished (app (C g) y) rest) (once_beside contract env (beside o (term_size env g)) n x) (λ y rest. refl) in
      let parts : and_then outer (once_beside contract E (beside o (term_size E (C x))) left (C f)) ≡ closed_outcome C (and_then arg (once_beside contract env (beside o (term_size env x)) left f)) =
      ap (λ k. and_then outer (once_beside contract E (beside o k) left (C f))) (size_close v env x)
      ∙ ap (and_then outer) (once_close env (beside o (term_size env x)) left f)
      ∙ then_closed C C arg outer (once_beside contract env (beside o (term_size env x)) left f) inner in
      (λ i. paid_beside_or E o left (parts i) (h env (app f x) i)) ∙ paid_closed env o left (and_then arg (once_beside contract env (beside o (term_size env x)) left f)) (contract env (app f x))
  once_close env o left (lam a s b) =
      let C = close v (length env) in
      let E = env ++ v.1 ∷ [] in
      let m : length env + 1 ≡ length (s ∷ env) = omega arith in
      let inner : once_beside contract (s ∷ E) (beside o (type_size s)) left (close v (length env + 1) b) ≡ closed_outcome (close v (length env + 1)) (once_beside contract (s ∷ env) (beside o (type_size s)) left b) =
      ap (λ k. once_beside contract (s ∷ E) (beside o (type_size s)) left (close v k b)) m ∙ once_close (s ∷ env) (beside o (type_size s)) left b ∙ ap (λ k. closed_outcome (close v k) (once_beside contract (s ∷ env) (beside o (type_size s)) left b)) (sym m) in
      let parts : and_then (λ d rest. finished (lam a s d) rest) (once_beside contract (s ∷ E) (beside o (type_size s)) left (close v (length env + 1) b)) ≡ closed_outcome C (and_then (λ d rest. finished (lam a s d) rest) (once_beside contract (s ∷ env) (beside o (type_size s)) left b)) =
      ap (and_then (λ d rest. finished (lam a s d) rest)) inner
      ∙ then_closed C (close v (length env + 1)) (λ d rest. finished (lam a s d) rest) (λ d rest. finished (lam a s d) rest) (once_beside contract (s ∷ env) (beside o (type_size s)) left b) (λ d rest. refl) in
      (λ i. paid_beside_or E o left (parts i) (h env (lam a s b) i)) ∙ paid_closed env o left (and_then (λ d rest. finished (lam a s d) rest) (once_beside contract (s ∷ env) (beside o (type_size s)) left b)) (contract env (lam a s b))
