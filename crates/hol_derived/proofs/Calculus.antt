-- Rules of equal.ml and bool.ml on derivations, where one of two premises assumes nothing.
use Rattle.std.specs.Prelude.{◌≡◌, ℕ, false, List, refl}
use Rattle.std.specs.FinSet as set
use Rattle.std.proofs.Common.{ap, ◌∙◌, subst}
use Rattle.hol_types.specs.Tree.{TypeTree}
use Rattle.hol_types.specs.Fun.{fun_type}
use Rattle.hol_terms.specs.Nameless.{Nameless, free, app, lam, base_of, free_occurrences}
use Rattle.hol_terms.specs.Scoped.{binds}
use Rattle.hol_subst.specs.Closing.{bind, open_with}
use Rattle.hol_subst.specs.Substitution.{term_subst}
use Rattle.hol_formulas.specs.Equation.{bool_type, equation}
use Rattle.hol_formulas.specs.Formula.{equivalence}
use Rattle.hol_kernel.specs.Items.{Items}
use Rattle.hol_kernel.specs.Sequent.{Hyps, no_hyps, only_hyp, sequent_of}
use Rattle.hol_kernel.specs.Theorem.{theorem_over}
use Rattle.hol_kernel.specs.Typing.{HasType, AreTyped}
use Rattle.hol_kernel.specs.Derivation.{Derives, by_refl, by_trans, by_mk_comb, by_beta, by_eq_mp, by_deduct_antisym, by_inst}
use Rattle.hol_kernel.proofs.Cuts.{cut_derived, one_removed}
use Rattle.hol_kernel.proofs.EqualSteps.{sym_derived}
use Rattle.hol_kernel.proofs.WellTyped.{sides_typed, theorem_typed}
use Rattle.hol_equal.specs.Rules.{m_with}
use Rattle.hol_equal.proofs.Beta.{image_derived, image_none}
use Rattle.hol_equal.proofs.HypSets.{none_left, none_right}
use Rattle.hol_derived.proofs.Connected.{typed_whole}
use Rattle.hol_derived.proofs.LemmaHypotheses.{nothing_assumed}

module _ (items : Items) where
  -- what has a derivation is a formula, and the sides of an equation have its type
  pub formula : {hs : Hyps} {p : Nameless} → Derives items hs p → HasType items p bool_type
  formula {hs} {p} d = (theorem_typed (theorem_over items hs p) d).conclusion

  pub right_typed : {hs : Hyps} {a : TypeTree} {s t : Nameless} → Derives items hs (equation a s t) → HasType items t a
  right_typed {hs} {a} {s} {t} d = (sides_typed items a bool_type s t (formula d)).1

  -- ---- equations

  -- SYM
  pub turned : {hs : Hyps} {a : TypeTree} {s t : Nameless} → Derives items hs (equation a s t) → Derives items hs (equation a t s)
  turned {hs} {a} {s} {t} d = sym_derived items hs a s t (formula d) d

  -- TRANS
  pub onward : {hs : Hyps} {a : TypeTree} {s m t : Nameless} → Derives items hs (equation a s m) → Derives items no_hyps (equation a m t) → Derives items hs (equation a s t)
  onward {hs} {a} {s} {m} {t} d e = subst (λ (ks : Hyps). Derives items ks (equation a s t)) (none_right hs) (by_trans hs no_hyps a a s m m t d e refl)

  -- AP_TERM, AP_THM
  pub under : {hs : Hyps} {a b : TypeTree} {x y : Nameless} (f : Nameless) → Derives items hs (equation a x y) → HasType items f (fun_type a b) → Derives items hs (equation b (app f x) (app f y))
  under {hs} {a} {b} {x} {y} f d typed =
      subst (λ (ks : Hyps). Derives items ks (equation b (app f x) (app f y))) (none_left hs) (by_mk_comb no_hyps hs a b f f x y (by_refl f (fun_type a b) typed) d)

  pub at : {hs : Hyps} {a b : TypeTree} {f g : Nameless} (x : Nameless) → Derives items hs (equation (fun_type a b) f g) → HasType items x a → Derives items hs (equation b (app f x) (app g x))
  at {hs} {a} {b} {f} {g} x d typed =
      subst (λ (ks : Hyps). Derives items ks (equation b (app f x) (app g x))) (none_right hs) (by_mk_comb hs no_hyps a b f g x x d (by_refl x a typed))

  -- from c = (\v. b), c v = b
  pub at_own :
      {hs : Hyps} {r : TypeTree} {c b : Nameless} (v : List ℕ × TypeTree) → Derives items hs (equation (fun_type v.1 r) c (lam (base_of v.0) v.1 b)) → HasType items (free v) v.1 → binds (free_occurrences b) v ≡ false →
      Derives items hs (equation r (app c (free v)) (open_with (free v) 0 b))
  at_own {hs} {r} {c} {b} v d typed absent = let e = at (free v) d typed in onward e (by_beta r v b (right_typed e) absent)

  -- from c = (\v. n), c x = n with x for v
  pub at_term :
      {hs : Hyps} {r : TypeTree} {c : Nameless} (v : List ℕ × TypeTree) (n x : Nameless) → Derives items hs (equation (fun_type v.1 r) c (bind v n)) → HasType items x v.1 →
      Derives items hs (equation r (app c x) (m_with x v n))
  at_term {hs} {r} {c} v n x d typed = let e = at x d typed in onward e (image_derived items v n x r (typed_whole items x v.1 typed) (right_typed e))

  -- ---- formulas

  -- EQ_MP
  pub by_equal : {hs : Hyps} {l r : Nameless} → Derives items no_hyps (equivalence l r) → Derives items hs l → Derives items hs r
  by_equal {hs} {l} {r} d e = subst (λ (ks : Hyps). Derives items ks r) (none_left hs) (by_eq_mp no_hyps hs bool_type l r l d e refl)

  pub to_equal : {hs : Hyps} {l r : Nameless} → Derives items hs (equivalence l r) → Derives items no_hyps l → Derives items hs r
  to_equal {hs} {l} {r} d e = subst (λ (ks : Hyps). Derives items ks r) (none_right hs) (by_eq_mp hs no_hyps bool_type l r l d e refl)

  -- PROVE_HYP with all that a theorem assumes
  pub cut : {hs : Hyps} {h c : Nameless} → Derives items (only_hyp h) c → Derives items hs h → Derives items hs c
  cut {hs} {h} {c} rule d =
      subst (λ (ks : Hyps). Derives items ks c) (ap (λ (ks : Hyps). set.union hs ks) (one_removed h) ∙ none_right hs) (cut_derived items (sequent_of hs h) (sequent_of (only_hyp h) c) d rule)

  -- two formulas that follow from one another
  pub both_ways : {h c : Nameless} → Derives items (only_hyp h) c → Derives items (only_hyp c) h → Derives items no_hyps (equivalence c h)
  both_ways {h} {c} d e = subst (λ (ks : Hyps). Derives items ks (equivalence c h)) (nothing_assumed h c) (by_deduct_antisym (only_hyp h) (only_hyp c) c h d e)

  -- INST in what assumes nothing
  pub instance : {p : Nameless} (pairs : List (Nameless × (List ℕ × TypeTree))) → Derives items no_hyps p → AreTyped items pairs → Derives items no_hyps (term_subst pairs 0 p)
  instance {p} pairs d typed = subst (λ (ks : Hyps). Derives items ks (term_subst pairs 0 p)) (image_none (term_subst pairs 0)) (by_inst no_hyps p pairs typed d)
