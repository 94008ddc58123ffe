-- What replacing each topmost redex comes to, by what it comes to in the parts.
use Rattle.std.proofs.Common.{◌≡◌, ℕ, ◌+◌, List, [], ◌∷◌, min, refl, ap, sym, ◌∙◌, subst, Some, None}
use Rattle.std.specs.Prelude.{Result, Ok, Err, IfOk, IfErr, Box}
use Rattle.std.specs.Global.{Global}
use Rattle.std.specs.Option.{option_map, option_or}
use Rattle.hol_types.specs.Tree.{TypeTree, type_size}
use Rattle.hol_types.specs.Fun.{fun_type}
use Rattle.hol_terms.specs.Named.{Named, var, constant, comb, abs, named_type}
use Rattle.hol_terms.specs.Nameless.{Nameless, free, bound, fixed, app, lam, nameless, base_of}
use Rattle.hol_terms.specs.Size.{term_size}
use Rattle.hol_subst.specs.Closing.{close}
use Rattle.hol_match.proofs.PassedOver.{map_none, or_none}
use Rattle.hol_conv.specs.declared.redexes.Redexes.{Redexes}
use Rattle.hol_conv.specs.declared.ended.Ended.{Ended}
use Rattle.hol_conv.specs.declared.error.ConvError.{ConvError}
use Rattle.hol_conv.specs.declared.error.ConvError.TheVariants.{Limit, TooLarge, Memory}
use Rattle.hol_conv.specs.Ends.{TellsBoxed}
use Rattle.hol_conv.specs.Redexes.{contraction, IsOutside}
use Rattle.hol_conv.specs.Turns.{Outcome, finished, turn}
use Rattle.hol_conv.specs.Once.{and_then, once}
use Rattle.hol_conv.specs.Beside.{beside, paid_beside, paid_beside_or, once_beside, inner_once}
use Rattle.hol_conv.proofs.Outside.{Contract, commutes}
use Rattle.hol_conv.proofs.OnceClosed.{once_counts, once_close, closed_outcome}
use Rattle.hol_conv.proofs.Parts.{body_same, domain_same, rebuilt}

abbrev Var : Type 0
Var = List ℕ × TypeTree

told : (R : Result (Box Ended Global) ConvError) (o p : Outcome) → o ≡ p → TellsBoxed R p → TellsBoxed R o
told R o p e h = subst (λ z. TellsBoxed R z) (sym e) h

-- an end that is no result ends what comes after
stops : (e : ConvError) (go : Nameless → ℕ → Outcome) (p : Outcome) → TellsBoxed (Err e) p → TellsBoxed (Err e) (and_then go p)
stops Limit go p h = ap (and_then go) h
stops TooLarge go p h = ap (and_then go) h
stops Memory go p h = tt

-- an end that is told of by its parts
pub told_parts : (R : Result (Box Ended Global) ConvError) (o : Outcome) (u : Named) (n : ℕ) → IfErr R (λ e. e ≡ Memory) → IfOk R (λ r. r.value.term ≡ u) → IfOk R (λ r. r.value.left ≡ n) → o ≡ finished (nameless [] u) n → TellsBoxed R o
told_parts (Ok r) o u n e t l h = h ∙ (λ i. finished (nameless [] (sym t i)) (sym l i))
told_parts (Err Limit) o u n e t l h = absurd (cc)
told_parts (Err TooLarge) o u n e t l h = absurd (cc)
told_parts (Err Memory) o u n e t l h = tt

-- ---- types
pub both_kept : (f x g y u : Named) → u ≡ comb g y → named_type g ≡ named_type f → named_type y ≡ named_type x → named_type u ≡ named_type (comb f x)
both_kept f x g y u e p q = ap named_type e ∙ rw (p, q) refl

pub both_fit : (f x g y : Named) → (named_type (comb f x) ≡ None → ⊥) → named_type g ≡ named_type f → named_type y ≡ named_type x → named_type (comb g y) ≡ None → ⊥
both_fit f x g y h p q n = h (sym (both_kept f x g y (comb g y) refl p q) ∙ n)

pub body_kept : (v w : List ℕ × TypeTree) (b c d u : Named) → u ≡ abs w d → w.1 ≡ v.1 → named_type c ≡ named_type b → named_type d ≡ named_type c → named_type u ≡ named_type (abs v b)
body_kept v w b c d u e f g h = ap named_type e ∙ (λ i. option_map (λ t. fun_type (f i) t) ((h ∙ g) i))

-- ---- a term in which a turn finds nothing
module _ (contract : Contract) where
  none_in_application : (env : List TypeTree) (f x : Nameless) → turn contract env (app f x) ≡ None → (contract env (app f x) ≡ None) × (turn contract env f ≡ None) × (turn contract env x ≡ None)
  none_in_application env f x h =
      let own = or_none (contract env (app f x)) (option_or (option_map (λ g. app g x) (turn contract env f)) (option_map (λ y. app f y) (turn contract env x))) h in
      let parts = or_none (option_map (λ g. app g x) (turn contract env f)) (option_map (λ y. app f y) (turn contract env x)) own.1 in
      (own.0, map_none (λ g. app g x) (turn contract env f) parts.0, map_none (λ y. app f y) (turn contract env x) parts.1)

  none_in_abstraction : (env : List TypeTree) (a : List ℕ) (s : TypeTree) (b : Nameless) → turn contract env (lam a s b) ≡ None → (contract env (lam a s b) ≡ None) × (turn contract (s ∷ env) b ≡ None)
  none_in_abstraction env a s b h =
      let own = or_none (contract env (lam a s b)) (option_map (λ d. lam a s d) (turn contract (s ∷ env) b)) h in
      (own.0, map_none (λ d. lam a s d) (turn contract (s ∷ env) b) own.1)

  stays_whole : (env : List TypeTree) (o left : ℕ) (n : Nameless) → turn contract env n ≡ None → once_beside contract env o left n ≡ finished n left
  stays_whole env o left (free v) h = ap (paid_beside_or env o left (finished (free v) left)) h
  stays_whole env o left (bound i) h = ap (paid_beside_or env o left (finished (bound i) left)) h
  stays_whole env o left (fixed c s) h = ap (paid_beside_or env o left (finished (fixed c s) left)) h
  stays_whole env o left (app f x) h =
      let none = none_in_application env f x h in
      let argument = λ (g : Nameless) (more : ℕ). and_then (λ y rest. finished (app g y) rest) (once_beside contract env (beside o (term_size env g)) more x) in
      ap (paid_beside_or env o left (and_then argument (once_beside contract env (beside o (term_size env x)) left f))) none.0
      ∙ ap (and_then argument) (stays_whole env (beside o (term_size env x)) left f none.1)
      ∙ ap (and_then (λ y rest. finished (app f y) rest)) (stays_whole env (beside o (term_size env f)) left x none.2)
  stays_whole env o left (lam a s b) h =
      let none = none_in_abstraction env a s b h in
      ap (paid_beside_or env o left (and_then (λ d rest. finished (lam a s d) rest) (once_beside contract (s ∷ env) (beside o (type_size s)) left b))) none.0
      ∙ ap (and_then (λ d rest. finished (lam a s d) rest)) (stays_whole (s ∷ env) (beside o (type_size s)) left b none.1)

-- it is kept as u, and so many turns are left
kept_as : (n : Nameless) (left m : ℕ) (t u : Named) → nameless [] t ≡ n → u ≡ t → m ≡ left → finished n left ≡ finished (nameless [] u) m
kept_as n left m t u e k l = λ i. finished ((sym e ∙ ap (nameless []) (sym k)) i) (sym l i)

module _ (r : Redexes) where
  -- ---- the term itself
  pub nothing_kept : (o left m : ℕ) (t u : Named) → u ≡ t → m ≡ left → turn (contraction r) [] (nameless [] t) ≡ None → once_beside (contraction r) [] o left (nameless [] t) ≡ finished (nameless [] u) m
  nothing_kept o left m t u k l h = stays_whole (contraction r) [] o left (nameless [] t) h ∙ kept_as (nameless [] t) left m t u refl k l

  redex_is : (o left : ℕ) (t : Named) (u : Nameless) → contraction r [] (nameless [] t) ≡ Some u → once_beside (contraction r) [] o left (nameless [] t) ≡ paid_beside [] o left u
  redex_is o left (var v) u h = rw h refl
  redex_is o left (constant c s) u h = rw h refl
  redex_is o left (comb f x) u h = rw h refl
  redex_is o left (abs v b) u h = rw h refl

  pub redex_paid : (R : Result (Box Ended Global) ConvError) (o left : ℕ) (t : Named) (u : Nameless) → contraction r [] (nameless [] t) ≡ Some u → TellsBoxed R (paid_beside [] o left u) → TellsBoxed R (once_beside (contraction r) [] o left (nameless [] t))
  redex_paid R o left t u h = told R (once_beside (contraction r) [] o left (nameless [] t)) (paid_beside [] o left u) (redex_is o left t u h)

  inside_is : (o left : ℕ) (t : Named) → contraction r [] (nameless [] t) ≡ None → once_beside (contraction r) [] o left (nameless [] t) ≡ inner_once (contraction r) [] o left (nameless [] t)
  inside_is o left (var v) h = rw h refl
  inside_is o left (constant c s) h = rw h refl
  inside_is o left (comb f x) h = rw h refl
  inside_is o left (abs v b) h = rw h refl

  pub inside_told : (R : Result (Box Ended Global) ConvError) (o left : ℕ) (t : Named) → contraction r [] (nameless [] t) ≡ None → TellsBoxed R (inner_once (contraction r) [] o left (nameless [] t)) → TellsBoxed R (once_beside (contraction r) [] o left (nameless [] t))
  inside_told R o left t h = told R (once_beside (contraction r) [] o left (nameless [] t)) (inner_once (contraction r) [] o left (nameless [] t)) (inside_is o left t h)

  pub inside_comb : (R : Result (Box Ended Global) ConvError) (o left : ℕ) (f x t : Named) → t ≡ comb f x → contraction r [] (nameless [] t) ≡ None → TellsBoxed R (inner_once (contraction r) [] o left (nameless [] (comb f x))) → TellsBoxed R (once_beside (contraction r) [] o left (nameless [] t))
  inside_comb R o left f x t e h k = inside_told R o left t h (subst (λ z. TellsBoxed R (inner_once (contraction r) [] o left (nameless [] z))) (sym e) k)

  pub inside_abs : (R : Result (Box Ended Global) ConvError) (o left : ℕ) (v : List ℕ × TypeTree) (b t : Named) → t ≡ abs v b → contraction r [] (nameless [] t) ≡ None → TellsBoxed R (inner_once (contraction r) [] o left (nameless [] (abs v b))) → TellsBoxed R (once_beside (contraction r) [] o left (nameless [] t))
  inside_abs R o left v b t e h k = inside_told R o left t h (subst (λ z. TellsBoxed R (inner_once (contraction r) [] o left (nameless [] z))) (sym e) k)

  pub variable_kept : (o left m : ℕ) (v : List ℕ × TypeTree) (t u : Named) → t ≡ var v → u ≡ t → m ≡ left → contraction r [] (nameless [] t) ≡ None → once_beside (contraction r) [] o left (nameless [] t) ≡ finished (nameless [] u) m
  variable_kept o left m v t u e k l h = inside_is o left t h ∙ ap (λ z. inner_once (contraction r) [] o left (nameless [] z)) e ∙ kept_as (nameless [] (var v)) left m t u (ap (nameless []) e) k l

  pub constant_kept : (o left m : ℕ) (c : List ℕ) (s : TypeTree) (t u : Named) → t ≡ constant c s → u ≡ t → m ≡ left → contraction r [] (nameless [] t) ≡ None → once_beside (contraction r) [] o left (nameless [] t) ≡ finished (nameless [] u) m
  constant_kept o left m c s t u e k l h = inside_is o left t h ∙ ap (λ z. inner_once (contraction r) [] o left (nameless [] z)) e ∙ kept_as (nameless [] (constant c s)) left m t u (ap (nameless []) e) k l

  -- ---- the nodes beside a part
  counted : (o p k n : ℕ) → k ≡ min n 20001 → p ≡ min (o + (1 + k)) 20001 → p ≡ beside o n
  counted o p k n e f = f ∙ ap (λ z. min (o + (1 + z)) 20001) e

  -- ---- an application
  module _ (o p k left : ℕ) (f x : Named) (size : k ≡ min (term_size [] (nameless [] x)) 20001) (is : p ≡ min (o + (1 + k)) 20001) where
    function_at : once_beside (contraction r) [] (beside o (term_size [] (nameless [] x))) left (nameless [] f) ≡ once_beside (contraction r) [] p left (nameless [] f)
    function_at = ap (λ z. once_beside (contraction r) [] z left (nameless [] f)) (sym (counted o p k (term_size [] (nameless [] x)) size is))

    pub function_stops : (e : ConvError) → TellsBoxed (Err e) (once_beside (contraction r) [] p left (nameless [] f)) → TellsBoxed (Err e) (inner_once (contraction r) [] o left (nameless [] (comb f x)))
    function_stops e h = stops e (λ g more. and_then (λ y rest. finished (app g y) rest) (once_beside (contraction r) [] (beside o (term_size [] g)) more (nameless [] x))) (once_beside (contraction r) [] (beside o (term_size [] (nameless [] x))) left (nameless [] f)) (told (Err e) _ _ function_at h)

    module _ (q l m : ℕ) (g : Named) (function : once_beside (contraction r) [] p left (nameless [] f) ≡ finished (nameless [] g) m) (other : l ≡ min (term_size [] (nameless [] g)) 20001) (at : q ≡ min (o + (1 + l)) 20001) where
      argument_at : inner_once (contraction r) [] o left (nameless [] (comb f x)) ≡ and_then (λ y rest. finished (app (nameless [] g) y) rest) (once_beside (contraction r) [] q m (nameless [] x))
      argument_at =
          ap (and_then (λ g more. and_then (λ y rest. finished (app g y) rest) (once_beside (contraction r) [] (beside o (term_size [] g)) more (nameless [] x)))) (function_at ∙ function)
          ∙ ap (λ z. and_then (λ y rest. finished (app (nameless [] g) y) rest) (once_beside (contraction r) [] z m (nameless [] x))) (sym (counted o q l (term_size [] (nameless [] g)) other at))

      pub argument_stops : (e : ConvError) → TellsBoxed (Err e) (once_beside (contraction r) [] q m (nameless [] x)) → TellsBoxed (Err e) (inner_once (contraction r) [] o left (nameless [] (comb f x)))
      argument_stops e h = told (Err e) _ _ argument_at (stops e (λ y rest. finished (app (nameless [] g) y) rest) (once_beside (contraction r) [] q m (nameless [] x)) h)

      pub parts_end : (n : ℕ) (y u : Named) → once_beside (contraction r) [] q m (nameless [] x) ≡ finished (nameless [] y) n → u ≡ comb g y → inner_once (contraction r) [] o left (nameless [] (comb f x)) ≡ finished (nameless [] u) n
      parts_end n y u h e = argument_at ∙ ap (and_then (λ y rest. finished (app (nameless [] g) y) rest)) h ∙ ap (λ z. finished (nameless [] z) n) (sym e)

  -- ---- an abstraction
  module _ (o p k left : ℕ) (v w : Var) (b c : Named) (size : k ≡ min (type_size v.1) 20001) (is : p ≡ min (o + (1 + k)) 20001) (same : nameless [] (abs w c) ≡ nameless [] (abs v b)) (out : IsOutside r w) where
    body_at : once_beside (contraction r) (v.1 ∷ []) (beside o (type_size v.1)) left (nameless (v ∷ []) b) ≡ closed_outcome (close w 0) (once_beside (contraction r) [] p left (nameless [] c))
    body_at =
        (λ i. once_beside (contraction r) (sym (domain_same v w b c same) i ∷ []) (sym (counted o p k (type_size v.1) size is) i) left (body_same v w b c same i))
        ∙ once_close (contraction r) w (commutes r w out) [] p left (nameless [] c)

    closed_stops : (e : ConvError) (z : Outcome) → TellsBoxed (Err e) z → TellsBoxed (Err e) (closed_outcome (close w 0) z)
    closed_stops Limit z h = ap (closed_outcome (close w 0)) h
    closed_stops TooLarge z h = ap (closed_outcome (close w 0)) h
    closed_stops Memory z h = tt

    pub body_stops : (e : ConvError) → TellsBoxed (Err e) (once_beside (contraction r) [] p left (nameless [] c)) → TellsBoxed (Err e) (inner_once (contraction r) [] o left (nameless [] (abs v b)))
    body_stops e h =
        stops e (λ d rest. finished (lam (base_of v.0) v.1 d) rest) (once_beside (contraction r) (v.1 ∷ []) (beside o (type_size v.1)) left (nameless (v ∷ []) b))
        (told (Err e) _ _ body_at (closed_stops e (once_beside (contraction r) [] p left (nameless [] c)) h))

    pub body_ends : (n : ℕ) (d u : Named) → once_beside (contraction r) [] p left (nameless [] c) ≡ finished (nameless [] d) n → u ≡ abs w d → inner_once (contraction r) [] o left (nameless [] (abs v b)) ≡ finished (nameless [] u) n
    body_ends n d u h e =
        ap (and_then (λ d rest. finished (lam (base_of v.0) v.1 d) rest)) (body_at ∙ ap (closed_outcome (close w 0)) h)
        ∙ ap (λ z. finished z n) (rebuilt v w b c d same ∙ ap (nameless []) (sym e))

-- ---- the whole term
pub told_whole : (contract : Contract) (R : Result (Box Ended Global) ConvError) (turns : ℕ) (t : Nameless) → TellsBoxed R (once_beside contract [] 0 turns t) → TellsBoxed R (once contract [] (λ u. u) turns t)
told_whole contract R turns t = told R (once contract [] (λ u. u) turns t) (once_beside contract [] 0 turns t) (once_counts contract turns t)

pub ruleset parts = (nothing_kept, redex_paid, inside_comb, inside_abs, variable_kept, constant_kept)

pub ruleset application_parts = (function_stops, argument_stops, parts_end, both_kept, both_fit)

pub ruleset body_parts = (body_stops, body_ends, body_kept)

pub ruleset whole = (told_whole)
