-- Hypotheses that the derivations of the rules of falsity, disjunction and existence leave, and the body of the definition of \/ at closed terms.
use Rattle.std.specs.Prelude.{◌≡◌, ℕ, true, false, not, ◌&&◌, ◌||◌, Bool, List, [], ◌∷◌, Some, None, refl}
use Rattle.std.specs.Cmp.{Equal-is}
use Rattle.std.specs.FinSet as set
use Rattle.std.proofs.Common.{ap, sym, ◌∙◌}
use mathlib.Core.Bool.{true≢false}
use Rattle.hol_types.specs.Tree.{TypeTree}
use Rattle.hol_types.specs.Fun.{fun_type}
use Rattle.hol_terms.specs.Named.{Named}
use Rattle.hol_terms.specs.Nameless.{Nameless, nameless, fixed, app, free_occurrences}
use Rattle.hol_terms.specs.Alpha.{strip}
use Rattle.hol_terms.specs.Scoped.{binds}
use Rattle.hol_subst.specs.AlphaOrder.{nameless_cmp}
use Rattle.hol_subst.specs.Variant.{is_free_in}
use Rattle.hol_kernel.specs.Items.{Items}
use Rattle.hol_kernel.specs.Sequent.{Hyps, no_hyps, only_hyp}
use Rattle.hol_kernel.specs.Typing.{HasType}
use Rattle.hol_kernel.proofs.HypothesisLists.{hyps_same, free_in_hyps}
use Rattle.hol_kernel.proofs.Stands.{some_is}
use Rattle.hol_kernel.proofs.Variables.{known_typed}
use Rattle.hol_equal.proofs.Typings.{parts_typed}
pub use Rattle.hol_kernel.proofs.Cuts.{one_removed}
use Rattle.hol_kernel.proofs.Cuts.{same_hyps}
use Rattle.hol_derived.proofs.HypLaws.{is, has, in_union, in_rest, in_one}

pub not_none : {A : Type 0} (x : A) → Some x ≡ None → ⊥
not_none x e = absurd (cc)

-- ---- types of parts

module _ (basis : Items) where
  -- the argument of a constant
  pub argument_typed : (c : List ℕ) (d r b : TypeTree) (x : Nameless) → HasType basis (app (fixed c (fun_type d r)) x) b → HasType basis x d
  argument_typed c d r b x h =
      let p = parts_typed basis (fixed c (fun_type d r)) x b h in
      let q = known_typed basis (fixed c (fun_type d r)) (fun_type p.domain b) p.function in
      let is : fun_type d r ≡ fun_type p.domain b = some_is (fun_type d r) (fun_type p.domain b) q.1 in
      let same : p.domain ≡ d = cc in
      p.argument ∙ ap Some same

-- ---- EQF_INTRO

denied_ways : (h d f p : Bool) → (h || (not d && ((not f && (f || false)) || (not p && ((d || false) || (p || false)))))) ≡ h
denied_ways true d f p = refl
denied_ways false true f p = refl
denied_ways false false true true = refl
denied_ways false false true false = refl
denied_ways false false false true = refl
denied_ways false false false false = refl

pub denied : (hs : Hyps) (d p f : Nameless) → set.union hs (set.remove (set.union (set.remove (only_hyp f) (strip f)) (set.remove (set.union (only_hyp d) (only_hyp p)) (strip p))) (strip d)) ≡ hs
denied hs d p f =
    same_hyps _ hs
    (λ q.
    in_union hs (set.remove (set.union (set.remove (only_hyp f) (strip f)) (set.remove (set.union (only_hyp d) (only_hyp p)) (strip p))) (strip d)) q
    ∙ ap (λ b. has hs q || b)
    (in_rest (set.union (set.remove (only_hyp f) (strip f)) (set.remove (set.union (only_hyp d) (only_hyp p)) (strip p))) (strip d) q
    ∙ ap (λ b. not (is q (strip d)) && b)
    (in_union (set.remove (only_hyp f) (strip f)) (set.remove (set.union (only_hyp d) (only_hyp p)) (strip p)) q
    ∙ (λ i.
    (in_rest (only_hyp f) (strip f) q ∙ ap (λ b. not (is q (strip f)) && b) (in_one f q)) i
    || (in_rest (set.union (only_hyp d) (only_hyp p)) (strip p) q
    ∙ ap (λ b. not (is q (strip p)) && b) (in_union (only_hyp d) (only_hyp p) q ∙ (λ j. in_one d q j || in_one p q j))) i)))
    ∙ denied_ways (has hs q) (is q (strip d)) (is q (strip f)) (is q (strip p)))

-- ---- the definition of \/

-- ---- hypotheses of the derivation of a disjunction

-- a term that is a is not b, where a is not b
pub apart : (a b q : Nameless) → is a b ≡ false → is q a ≡ true → is q b ≡ false
apart a b q d e = ap (λ (k : Nameless). is k b) (hyps_same q a ((Equal-is (nameless_cmp q a)).0 e)) ∙ d

left_ways : (f s x : Bool) → (x ≡ true → f ≡ false) → (x ≡ true → s ≡ false) → (not f && (not s && ((f || false) || (x || false)))) ≡ (x || false)
left_ways true s true h g = absurd (true≢false (h refl))
left_ways true s false h g = refl
left_ways false true true h g = absurd (true≢false (g refl))
left_ways false true false h g = refl
left_ways false false x h g = refl

right_ways : (f s x : Bool) → (x ≡ true → f ≡ false) → (x ≡ true → s ≡ false) → (not f && (not s && ((s || false) || (x || false)))) ≡ (x || false)
right_ways true s true h g = absurd (true≢false (h refl))
right_ways true s false h g = refl
right_ways false true true h g = absurd (true≢false (g refl))
right_ways false true false h g = refl
right_ways false false x h g = refl

-- hs without f and s, where hs are i and x
two_removed : (i x f s q : Nameless) → has (set.remove (set.remove (set.union (only_hyp i) (only_hyp x)) (strip s)) (strip f)) q ≡ (not (is q (strip f)) && (not (is q (strip s)) && ((is q (strip i) || false) || (is q (strip x) || false))))
two_removed i x f s q =
    in_rest (set.remove (set.union (only_hyp i) (only_hyp x)) (strip s)) (strip f) q
    ∙ ap (λ b. not (is q (strip f)) && b)
    (in_rest (set.union (only_hyp i) (only_hyp x)) (strip s) q ∙ ap (λ b. not (is q (strip s)) && b) (in_union (only_hyp i) (only_hyp x) q ∙ (λ j. in_one i q j || in_one x q j)))

-- {i, x} without f and s, where x is neither, and i is one of them
module _ (x f s : Nameless) (first : is (strip x) (strip f) ≡ false) (second : is (strip x) (strip s) ≡ false) where
  pub first_side : set.remove (set.remove (set.union (only_hyp f) (only_hyp x)) (strip s)) (strip f) ≡ only_hyp x
  first_side =
      same_hyps _ _
      (λ q.
      two_removed f x f s q ∙ left_ways (is q (strip f)) (is q (strip s)) (is q (strip x)) (apart (strip x) (strip f) q first) (apart (strip x) (strip s) q second)
      ∙ sym (in_one x q))

  pub second_side : set.remove (set.remove (set.union (only_hyp s) (only_hyp x)) (strip s)) (strip f) ≡ only_hyp x
  second_side =
      same_hyps _ _
      (λ q.
      two_removed s x f s q ∙ right_ways (is q (strip f)) (is q (strip s)) (is q (strip x)) (apart (strip x) (strip f) q first) (apart (strip x) (strip s) q second)
      ∙ sym (in_one x q))

-- ---- variables that are free in hypotheses

pub free_in_none : (v : List ℕ × TypeTree) → is_free_in (set.items no_hyps) v ≡ false
free_in_none v = free_in_hyps no_hyps [] v refl

pub free_in_one : (t : Named) (v : List ℕ × TypeTree) → is_free_in (set.items (only_hyp (nameless [] t))) v ≡ (binds (free_occurrences (nameless [] t)) v || false)
free_in_one t v = free_in_hyps (only_hyp (nameless [] t)) (t ∷ []) v refl
