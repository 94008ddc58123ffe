-- Each rule gives over a larger set of items what it gives over a smaller one.
use Rattle.std.specs.Prelude.{◌≡◌, ℕ, Bool, true, false, cond, not, ◌&&◌, List, [], Option, Some, None, refl}
use Rattle.std.specs.Option.{option_map}
use Rattle.std.specs.FinSet as set
use Rattle.std.proofs.Common.{ap, sym, ◌∙◌}
use mathlib.Core.Bool.{true≢false}
use Rattle.hol_types.specs.Tree.{TypeTree}
use Rattle.hol_types.specs.Equal.{variable_eq}
use Rattle.hol_terms.specs.Named.{Named, var, constant, comb, abs}
use Rattle.hol_terms.specs.Nameless.{Nameless, nameless}
use Rattle.hol_subst.specs.Variant.{is_free_in}
use Rattle.hol_formulas.specs.Equation.{bool_type, Sides, dest_eq}
use Rattle.hol_kernel.specs.Items.{Items, IsWithin}
use Rattle.hol_kernel.specs.Sequent.{Sequent}
use Rattle.hol_kernel.specs.Typing.{is_type, type_over, has_type, are_types_for}
use Rattle.hol_kernel.specs.Rules.{reflexive, refl_of, assume_of, reduced, beta_at, beta_applied, beta_of, abs_sides, abs_of, inst_type_of, is_pair_at, are_pairs_over, inst_of}
use Rattle.hol_kernel.specs.Widening.{IsMonotone}
use Rattle.hol_kernel.proofs.Subsets.{within_of_subset}
use Rattle.hol_kernel.proofs.Weaken.{is_type_more, typed_wider, has_type_more, all_more}

-- a test that holds over a larger set too
tested : {T : Type 0} (a b : Bool) (x s : T) → (a ≡ true → b ≡ true) → cond a (Some x) None ≡ Some s → cond b (Some x) None ≡ Some s
tested true b x s f e = ap (λ k. cond k (Some x) None) (f refl) ∙ e
tested false b x s f e = absurd (cc)

pub both_more : (a c b : Bool) → (a ≡ true → c ≡ true) → (a && b) ≡ true → (c && b) ≡ true
both_more true c b f e = ap (λ k. k && b) (f refl) ∙ e
both_more false c b f e = absurd (true≢false (sym e))

module _ (basis more : Items) (within : IsWithin basis more) where
  typed_map : {T : Type 0} (f : TypeTree → T) (t : Nameless) (s : T) → option_map f (type_over basis t) ≡ Some s → option_map f (type_over more t) ≡ Some s
  typed_map f t s e = by (type_over basis t) refl e
    where
      by : (o : Option TypeTree) → type_over basis t ≡ o → option_map f o ≡ Some s → option_map f (type_over more t) ≡ Some s
      by None h g = absurd (cc)
      by (Some a) h g = ap (option_map f) (typed_wider basis more within t a h) ∙ g

  beta_more : (v : List ℕ × TypeTree) (b x : Named) (s : Sequent) → beta_at basis v b x ≡ Some s → beta_at more v b x ≡ Some s
  beta_more v b (var w) s e = by (variable_eq v w) e
    where
      by : (k : Bool) → cond k (option_map (reduced v b) (type_over basis (nameless [] (comb (abs v b) (var v))))) None ≡ Some s → cond k (option_map (reduced v b) (type_over more (nameless [] (comb (abs v b) (var v))))) None ≡ Some s
      by true g = typed_map (reduced v b) (nameless [] (comb (abs v b) (var v))) s g
      by false g = absurd (cc)
  beta_more v b (constant c a) s e = absurd (cc)
  beta_more v b (comb f x) s e = absurd (cc)
  beta_more v b (abs w d) s e = absurd (cc)

  applied_more : (f x : Named) (s : Sequent) → beta_applied basis f x ≡ Some s → beta_applied more f x ≡ Some s
  applied_more (var v) x s e = absurd (cc)
  applied_more (constant c a) x s e = absurd (cc)
  applied_more (comb f y) x s e = absurd (cc)
  applied_more (abs v b) x s e = beta_more v b x s e

  abs_more : (v : List ℕ × TypeTree) (a : Sequent) (s : Sequent) → abs_sides basis v a.hyps (dest_eq a.concl) ≡ Some s → abs_sides more v a.hyps (dest_eq a.concl) ≡ Some s
  abs_more v a s e = by (dest_eq a.concl) e
    where
      by : (o : Option Sides) → abs_sides basis v a.hyps o ≡ Some s → abs_sides more v a.hyps o ≡ Some s
      by None g = absurd (cc)
      by (Some x) g =
          tested (is_type basis v.1 && not (is_free_in (set.items a.hyps) v)) (is_type more v.1 && not (is_free_in (set.items a.hyps) v)) _ s
          (both_more (is_type basis v.1) (is_type more v.1) (not (is_free_in (set.items a.hyps) v)) (is_type_more basis more within v.1)) g

  pair_more : (t : Nameless) (u : Named) → is_pair_at basis t u ≡ true → is_pair_at more t u ≡ true
  pair_more t (var v) e = has_type_more basis more within t v.1 e
  pair_more t (constant c s) e = e
  pair_more t (comb f x) e = e
  pair_more t (abs v b) e = e

pub refl_monotone : (t : Nameless) → IsMonotone (λ basis. refl_of basis t)
refl_monotone t basis more h s e = typed_map basis more (within_of_subset basis more h) (reflexive t) t s e

pub assume_monotone : (p : Nameless) → IsMonotone (λ basis. assume_of basis p)
assume_monotone p basis more h s e = tested (has_type basis p bool_type) (has_type more p bool_type) _ s (has_type_more basis more (within_of_subset basis more h) p bool_type) e

pub beta_monotone : (t : Named) → IsMonotone (λ basis. beta_of basis t)
beta_monotone (var v) basis more h s e = absurd (cc)
beta_monotone (constant c a) basis more h s e = absurd (cc)
beta_monotone (comb f x) basis more h s e = applied_more basis more (within_of_subset basis more h) f x s e
beta_monotone (abs v b) basis more h s e = absurd (cc)

pub abs_monotone : (v : Named) (a : Sequent) → IsMonotone (λ basis. abs_of basis v a)
abs_monotone (var v) a basis more h s e = abs_more basis more (within_of_subset basis more h) v a s e
abs_monotone (constant c t) a basis more h s e = absurd (cc)
abs_monotone (comb f x) a basis more h s e = absurd (cc)
abs_monotone (abs v b) a basis more h s e = absurd (cc)

pub inst_type_monotone : (pairs : List (TypeTree × List ℕ)) (a : Sequent) → IsMonotone (λ basis. inst_type_of basis pairs a)
inst_type_monotone pairs a basis more h s e =
    tested (are_types_for basis pairs) (are_types_for more pairs) _ s
    (all_more basis more (within_of_subset basis more h) (λ p. is_type basis p.0) (λ p. is_type more p.0) (λ p. is_type_more basis more (within_of_subset basis more h) p.0) pairs) e

pub inst_monotone : (pairs : List (Named × Named)) (a : Sequent) → IsMonotone (λ basis. inst_of basis pairs a)
inst_monotone pairs a basis more h s e =
    tested (are_pairs_over basis pairs) (are_pairs_over more pairs) _ s
    (all_more basis more (within_of_subset basis more h) (λ p. is_pair_at basis (nameless [] p.0) p.1) (λ p. is_pair_at more (nameless [] p.0) p.1)
    (λ p. pair_more basis more (within_of_subset basis more h) (nameless [] p.0) p.1) pairs) e

pub ruleset monotone = (refl_monotone, assume_monotone, beta_monotone, abs_monotone)
