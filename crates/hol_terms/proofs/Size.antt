-- The size of a named term is that of its nameless term, and alpha equivalent terms have one size.
use Rattle.std.proofs.Common.{◌≡◌, ◌≢◌, ℕ, ◌+◌, min, List, [], ◌∷◌, Bool, true, false, Some, slice_get, refl, ap, sym, ◌∙◌, zero-add}
use Rattle.hol_types.specs.Tree.{TypeTree, type_size}
use Rattle.hol_terms.specs.Named.{Named, var, constant, comb, abs}
use Rattle.hol_terms.specs.Nameless.{Nameless, free, bound, fixed, app, lam, place, nameless, nameless_type}
use Rattle.hol_terms.specs.Size.{size_at, term_size, named_size}
use Rattle.hol_terms.specs.Alpha.{strip, alpha_eq}
use Rattle.hol_terms.proofs.Same.{IsPlace, place_is}
use Rattle.hol_terms.proofs.Alpha.{alpha_eq_decides}
use Rattle.hol_terms.proofs.Typing.{types_of, place_type}

place_size : (types : List TypeTree) (n : Nameless) (s : TypeTree) → IsPlace n → nameless_type types n ≡ Some s → term_size types n ≡ 1 + type_size s
place_size types (free v) s p e = ap (λ o. 1 + size_at o) e
place_size types (bound i) s p e = ap (λ o. 1 + size_at o) e
place_size types (fixed c t) s p e = absurd p
place_size types (app f x) s p e = absurd p
place_size types (lam a t b) s p e = absurd p

-- under binders too
pub size_under : (env : List (List ℕ × TypeTree)) (t : Named) → term_size (types_of env) (nameless env t) ≡ named_size t
size_under env (var v) = place_size (types_of env) (place env 0 v) v.1 (place_is env 0 v) (place_type (types_of env) env 0 v (λ k. ap (slice_get (types_of env)) (zero-add k)))
size_under env (constant c s) = refl
size_under env (comb f x) = rw (size_under env f, size_under env x) refl
size_under env (abs v b) = ap (λ n. 1 + type_size v.1 + n) (size_under (v ∷ env) b)

pub size_is : (t : Named) → term_size [] (nameless [] t) ≡ named_size t
size_is t = size_under [] t

-- base names count nothing
strip_size : (env : List TypeTree) (n : Nameless) → term_size env (strip n) ≡ term_size env n
strip_size env (free v) = refl
strip_size env (bound i) = refl
strip_size env (fixed c s) = refl
strip_size env (app f x) = rw (strip_size env f, strip_size env x) refl
strip_size env (lam a s b) = ap (λ n. 1 + type_size s + n) (strip_size (s ∷ env) b)

-- equal nameless terms have one size, and so have alpha equivalent ones
pub same_sizes : (s t : Named) → nameless [] s ≡ nameless [] t → min (named_size s) 20001 ≡ min (named_size t) 20001
same_sizes s t e = ap (λ n. min n 20001) (sym (size_is s) ∙ ap (term_size []) e ∙ size_is t)

stripped_size : (t : Named) → term_size [] (strip (nameless [] t)) ≡ named_size t
stripped_size t = strip_size [] (nameless [] t) ∙ size_is t

pub stripped_sizes : (s t : Named) → strip (nameless [] s) ≡ strip (nameless [] t) → min (named_size s) 20001 ≡ min (named_size t) 20001
stripped_sizes s t e = ap (λ n. min n 20001) (sym (stripped_size s) ∙ ap (term_size []) e ∙ stripped_size t)

pub apart_sizes : (s t : Named) → min (named_size s) 20001 ≢ min (named_size t) 20001 → alpha_eq (nameless [] s) (nameless [] t) ≡ false
apart_sizes s t h = by (alpha_eq (nameless [] s) (nameless [] t)) refl
  where
    by : (b : Bool) → alpha_eq (nameless [] s) (nameless [] t) ≡ b → b ≡ false
    by true e = absurd (h (stripped_sizes s t ((alpha_eq_decides (nameless [] s) (nameless [] t)).0 e)))
    by false e = refl

pub ruleset alpha_sizes = (stripped_sizes, apart_sizes)
