-- Marks at the numbers of primes that are taken.
use Rattle.std.proofs.Common.{◌≡◌, ℕ, ◌+◌, ◌<◌, List, [], length, get_or, drop, map, ap, sym, ◌∙◌, Bool, true, false, not, ◌&&◌, ◌||◌, bytes_eq}
use Rattle.std.proofs.Math.Bool.{or_assoc}
use Rattle.hol_types.specs.Tree.{TypeTree}
use Rattle.hol_types.proofs.Steps.{next_of}
use Rattle.hol_terms.specs.Named.{Named, var}
use Rattle.hol_terms.specs.Nameless.{nameless}
use Rattle.hol_terms.specs.Scoped.{binds}
use Rattle.hol_subst.specs.FreeName.{has_name, is_taken}
use Rattle.hol_subst.proofs.FreeName.{has_place}

-- where a variable is not bound
pub unbound : (t b w : Bool) → t ≡ b → w ≡ false → t ≡ (b && not w)
unbound t true w e f = e ∙ ap not (sym f)
unbound t false w e f = e

pub of_variable : (t : Named) (v : List ℕ × TypeTree) (env : List (List ℕ × TypeTree)) (a : List ℕ) → var v ≡ t → (bytes_eq v.0 a && not (binds env v)) ≡ has_name a (nameless env t)
of_variable t v env a e = sym (has_place a env 0 v) ∙ ap (λ u. has_name a (nameless env u)) e

-- ---- one term after another

taken_on : (avoid : List Named) (i : ℕ) (t : Named) (a : List ℕ) → i < length avoid → t ≡ get_or avoid i t → is_taken (map (λ n. nameless [] n) (drop i avoid)) a ≡ (has_name a (nameless [] t) || is_taken (map (λ n. nameless [] n) (drop (i + 1) avoid)) a)
taken_on avoid i t a l e = ap (λ ns. is_taken (map (λ n. nameless [] n) ns) a) (next_of avoid i t l e)

pub marks_on : (avoid : List Named) (i : ℕ) (t : Named) (a : List ℕ) (all old new : Bool) → i < length avoid → t ≡ get_or avoid i t → all ≡ (old || is_taken (map (λ n. nameless [] n) (drop i avoid)) a) → new ≡ (old || has_name a (nameless [] t)) → all ≡ (new || is_taken (map (λ n. nameless [] n) (drop (i + 1) avoid)) a)
marks_on avoid i t a all old new l e h k =
    let rest : Bool = is_taken (map (λ n. nameless [] n) (drop (i + 1) avoid)) a in
    h ∙ ap (λ b. old || b) (taken_on avoid i t a l e) ∙ sym (or_assoc old (has_name a (nameless [] t)) rest) ∙ ap (λ b. b || rest) (sym k)
