-- Where replacing each topmost redex comes to an end: what the term is then, and how many turns it cost.
use Rattle.std.proofs.Common.{◌≡◌, ℕ, zero, suc, ◌+◌, List, [], ◌∷◌, refl, ap, sym, ◌∙◌, Bool, true, false, cond, nat_lt, Option, Some, None, unwrap_or, arith}
use Rattle.std.specs.Option.{option_map}
use Rattle.hol_types.specs.Tree.{TypeTree}
use Rattle.hol_terms.specs.Nameless.{Nameless, free, bound, fixed, app, lam}
use Rattle.hol_terms.specs.Size.{term_size}
use Rattle.hol_match.specs.RuleSets.{RuleEntry}
use Rattle.hol_match.specs.Contracta.{contractum}
use Rattle.hol_conv.specs.Turns.{Outcome, finished, limit, too_large}
use Rattle.hol_conv.specs.Once.{paid, paid_or, and_then, once, topmost, topmost_count, rewritten_once}
use Rattle.hol_conv.proofs.Outside.{Contract}

-- the term is w, and c turns were paid
abbrev Says : Outcome → ℕ → Nameless → ℕ → Type 0
Says p n w c = (u : Nameless) (m : ℕ) → p ≡ finished u m → (u ≡ w) × (m + c ≡ n)

said : (w : Nameless) (n : ℕ) → Says (finished w n) n w 0
said w n u m e = (cc, let q : n ≡ m = cc in omega (arith, q))

paid_says : (whole : Nameless → Nameless) (n : ℕ) (w : Nameless) → Says (paid whole n w) n w 1
paid_says whole zero w u m e = absurd (cc)
paid_says whole (suc n) w u m e = by (nat_lt 20000 (term_size [] (whole w))) e
  where
    by : (b : Bool) → cond b too_large (finished w n) ≡ finished u m → (u ≡ w) × (m + 1 ≡ suc n)
    by true k = absurd (cc)
    by false k = (cc, let q : n ≡ m = cc in omega (arith, q))

paid_or_says : (whole : Nameless → Nameless) (n : ℕ) (p : Outcome) (w : Nameless) (c : ℕ) (o : Option Nameless) → Says p n w c → Says (paid_or whole n p o) n (unwrap_or o w) (unwrap_or (option_map (λ u. 1) o) c)
paid_or_says whole n p w c None h = h
paid_or_says whole n p w c (Some v) h = paid_says whole n v

body_says : (a : List ℕ) (s : TypeTree) (n c : ℕ) (w : Nameless) (p : Outcome) → Says p n w c → Says (and_then (λ d rest. finished (lam a s d) rest) p) n (lam a s w) c
body_says a s n c w (finished d k) h u m e =
    let q = h d k refl in
    let r : k ≡ m = cc in
    let l : lam a s d ≡ u = cc in
    (sym l ∙ ap (lam a s) q.0, omega (arith, q.1, r))
body_says a s n c w limit h u m e = absurd (cc)
body_says a s n c w too_large h u m e = absurd (cc)

argument_says : (g w : Nameless) (n c : ℕ) (p : Outcome) → Says p n w c → Says (and_then (λ y rest. finished (app g y) rest) p) n (app g w) c
argument_says g w n c (finished y k) h u m e =
    let q = h y k refl in
    let r : k ≡ m = cc in
    let l : app g y ≡ u = cc in
    (sym l ∙ ap (app g) q.0, omega (arith, q.1, r))
argument_says g w n c limit h u m e = absurd (cc)
argument_says g w n c too_large h u m e = absurd (cc)

parts_say : (v w : Nameless) (n b c : ℕ) (p : Outcome) (go : Nameless → ℕ → Outcome) → Says p n v b → ((g : Nameless) (k : ℕ) → Says (go g k) k w c) → Says (and_then (λ g more. and_then (λ y rest. finished (app g y) rest) (go g more)) p) n (app v w) (b + c)
parts_say v w n b c (finished g k) go h i u m e =
    let q = h g k refl in
    let r = argument_says g w k c (go g k) (i g k) u m e in
    (r.0 ∙ ap (λ z. app z w) q.0, omega (arith, q.1, r.1))
parts_say v w n b c limit go h i u m e = absurd (cc)
parts_say v w n b c too_large go h i u m e = absurd (cc)

once_says : (contract : Contract) (env : List TypeTree) (whole : Nameless → Nameless) (n : ℕ) (t : Nameless) → Says (once contract env whole n t) n (topmost contract env t) (topmost_count contract env t)
once_says contract env whole n (free v) = paid_or_says whole n (finished (free v) n) (free v) 0 (contract env (free v)) (said (free v) n)
once_says contract env whole n (bound i) = paid_or_says whole n (finished (bound i) n) (bound i) 0 (contract env (bound i)) (said (bound i) n)
once_says contract env whole n (fixed c s) = paid_or_says whole n (finished (fixed c s) n) (fixed c s) 0 (contract env (fixed c s)) (said (fixed c s) n)
once_says contract env whole n (app f x) =
    let arg = λ (g : Nameless) (more : ℕ). once contract env (λ y. whole (app g y)) more x in
    let function = once contract env (λ g. whole (app g x)) n f in
    paid_or_says whole n (and_then (λ g more. and_then (λ y rest. finished (app g y) rest) (arg g more)) function) (app (topmost contract env f) (topmost contract env x)) (topmost_count contract env f + topmost_count contract env x) (contract env (app f x))
    (parts_say (topmost contract env f) (topmost contract env x) n (topmost_count contract env f) (topmost_count contract env x) function arg (once_says contract env (λ g. whole (app g x)) n f) (λ g k. once_says contract env (λ y. whole (app g y)) k x))
once_says contract env whole n (lam a s b) =
    let body = once contract (s ∷ env) (λ d. whole (lam a s d)) n b in
    paid_or_says whole n (and_then (λ d rest. finished (lam a s d) rest) body) (lam a s (topmost contract (s ∷ env) b)) (topmost_count contract (s ∷ env) b) (contract env (lam a s b))
    (body_says a s n (topmost_count contract (s ∷ env) b) (topmost contract (s ∷ env) b) body (once_says contract (s ∷ env) (λ d. whole (lam a s d)) n b))

pub topmost_replaced : (rules : List RuleEntry) (turns left : ℕ) (t u : Nameless) → rewritten_once rules turns t ≡ finished u left → (u ≡ topmost (λ env n. contractum env rules n) [] t) × (left + topmost_count (λ env n. contractum env rules n) [] t ≡ turns)
topmost_replaced rules turns left t u e = once_says (λ env n. contractum env rules n) [] (λ w. w) turns t u left e
