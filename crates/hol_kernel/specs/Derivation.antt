-- Derivations: finite trees whose nodes are HOL Light's primitive rules (fusion.ml, REFL to INST) and whose leaves are the statements of the
-- prelude and of items (new_basic_definition, new_basic_type_definition, new_axiom). Terms and types that a rule does not take from the
-- sequents above it are well typed over the prelude and the items.
use Rattle.std.specs.Prelude.{◌≡◌, ℕ, false, List}
use Rattle.std.specs.FinSet as set
use Rattle.hol_types.specs.Tree.{TypeTree}
use Rattle.hol_types.specs.Fun.{fun_type}
use Rattle.hol_terms.specs.Nameless.{Nameless, free, fixed, app, lam, base_of, free_occurrences}
use Rattle.hol_terms.specs.Alpha.{strip}
use Rattle.hol_terms.specs.Scoped.{binds}
use Rattle.hol_subst.specs.Substitution.{term_subst, types_inst}
use Rattle.hol_subst.specs.Closing.{bind, open_with}
use Rattle.hol_subst.specs.Variant.{is_free_in}
use Rattle.hol_kernel.specs.Item.{declared_axiom, defined_constant, defined_type}
use Rattle.hol_kernel.specs.Items.{Items, Holds}
use Rattle.hol_kernel.specs.Sequent.{Hyps, no_hyps, only_hyp, hyps_image}
use Rattle.hol_formulas.specs.Equation.{bool_type, equation}
use Rattle.hol_kernel.specs.Signature.{term_tyvars, new_type}
use Rattle.hol_kernel.specs.Typing.{HasType, IsType, AreTypes, AreTyped}
use Rattle.hol_formulas.specs.Prelude.{statement_of}
use Rattle.hol_kernel.specs.Bijections.{abs_rep, rep_abs}
use Rattle.hol_formulas.specs.declared.postulate.Postulate.{Postulate}

-- `Derives items hyps concl` is the type of the finite trees over the prelude and the items whose root is the sequent of hyps and concl.
pub data Derives (items : Items) : Hyps → Nameless → Type 0 where
  -- REFL: |- t = t
  by_refl : (t : Nameless) (a : TypeTree) → HasType items t a → Derives items no_hyps (equation a t t)
  -- TRANS: from s = m and n = t, where m and n are equal up to bound names, s = t
  by_trans :
      (hs ks : Hyps) (a b : TypeTree) (s m n t : Nameless) →
      Derives items hs (equation a s m) → Derives items ks (equation b n t) → strip m ≡ strip n → Derives items (set.union hs ks) (equation a s t)
  -- MK_COMB: from f = g and x = y, f x = g y
  by_mk_comb :
      (hs ks : Hyps) (a b : TypeTree) (f g x y : Nameless) →
      Derives items hs (equation (fun_type a b) f g) → Derives items ks (equation a x y) → Derives items (set.union hs ks) (equation b (app f x) (app g y))
  -- ABS: from l = r, for a variable v that is free in no hypothesis, (\v. l) = (\v. r)
  by_abs :
      (hs : Hyps) (a : TypeTree) (v : List ℕ × TypeTree) (l r : Nameless) →
      IsType items v.1 → is_free_in (set.items hs) v ≡ false → Derives items hs (equation a l r) → Derives items hs (equation (fun_type v.1 a) (bind v l) (bind v r))
  -- BETA: (\v. b) v = b, for an abstraction in which v is not free
  by_beta :
      (a : TypeTree) (v : List ℕ × TypeTree) (b : Nameless) →
      HasType items (app (lam (base_of v.0) v.1 b) (free v)) a → binds (free_occurrences b) v ≡ false →
      Derives items no_hyps (equation a (app (lam (base_of v.0) v.1 b) (free v)) (open_with (free v) 0 b))
  -- ASSUME: {p} |- p
  by_assume : (p : Nameless) → HasType items p bool_type → Derives items (only_hyp p) p
  -- EQ_MP: from l = r and m, where l and m are equal up to bound names, r
  by_eq_mp :
      (hs ks : Hyps) (a : TypeTree) (l r m : Nameless) →
      Derives items hs (equation a l r) → Derives items ks m → strip l ≡ strip m → Derives items (set.union hs ks) r
  -- DEDUCT_ANTISYM_RULE: from A |- p and B |- q, (A - q) u (B - p) |- p = q
  by_deduct_antisym :
      (hs ks : Hyps) (p q : Nameless) →
      Derives items hs p → Derives items ks q → Derives items (set.union (set.remove hs (strip q)) (set.remove ks (strip p))) (equation bool_type p q)
  -- INST_TYPE: types for type variables
  by_inst_type :
      (hs : Hyps) (p : Nameless) (pairs : List (TypeTree × List ℕ)) →
      AreTypes items pairs → Derives items hs p → Derives items (hyps_image (types_inst pairs) hs) (types_inst pairs p)
  -- INST: terms for free variables of their types
  by_inst :
      (hs : Hyps) (p : Nameless) (pairs : List (Nameless × (List ℕ × TypeTree))) →
      AreTyped items pairs → Derives items hs p → Derives items (hyps_image (term_subst pairs 0) hs) (term_subst pairs 0 p)
  -- a definition or an axiom of the prelude
  by_postulate : (which : Postulate) → Derives items no_hyps (statement_of which)
  -- an axiom among the items: |- p
  by_axiom : (n : List ℕ) (p : Nameless) → Holds items (declared_axiom n p) → HasType items p bool_type → Derives items no_hyps p
  -- a constant's definition among the items: |- c = r
  by_definition :
      (c : List ℕ) (r : Nameless) (a : TypeTree) →
      Holds items (defined_constant c r) → HasType items r a → Derives items no_hyps (equation a (fixed c a) r)
  -- a type definition among the items: |- abs (rep a) = a
  by_abs_rep :
      (c abs rep : List ℕ) (p : Nameless) (s : TypeTree) →
      Holds items (defined_type c abs rep p) → HasType items p (fun_type s bool_type) → Derives items no_hyps (abs_rep abs rep s (new_type c (term_tyvars p)))
  -- and |- P r = (rep (abs r) = r)
  by_rep_abs :
      (c abs rep : List ℕ) (p : Nameless) (s : TypeTree) →
      Holds items (defined_type c abs rep p) → HasType items p (fun_type s bool_type) → Derives items no_hyps (rep_abs abs rep p s (new_type c (term_tyvars p)))
