-- With what a derivation ends: what a rule's function makes of sequents that have derivations, or what the prelude or an item says. BETA and INST, whose functions take terms with
-- names, are here in the words of nameless terms.
-- Source: fusion.ml, REFL to INST.
use Rattle.std.specs.Prelude.{◌≡◌, ℕ, false, List, Some}
use Rattle.hol_types.specs.Tree.{TypeTree}
use Rattle.hol_terms.specs.Named.{var}
use Rattle.hol_terms.specs.Nameless.{Nameless, app, base_of, fixed, free, free_occurrences, lam}
use Rattle.hol_terms.specs.Scoped.{binds}
use Rattle.hol_subst.specs.Closing.{open_with}
use Rattle.hol_subst.specs.Substitution.{term_subst}
use Rattle.hol_formulas.specs.Equation.{equation}
use Rattle.hol_formulas.specs.declared.postulate.Postulate.{Postulate}
use Rattle.hol_kernel.specs.Bijections.{abs_rep, rep_abs}
use Rattle.hol_kernel.specs.Derivation.{Derives}
use Rattle.hol_kernel.specs.Item.{declared_axiom, defined_constant, defined_type}
use Rattle.hol_kernel.specs.Items.{Items, Holds}
use Rattle.hol_kernel.specs.Rules.{refl_of, assume_of, trans_of, mk_comb_of, abs_of, eq_mp_of, deduct_antisym_of, inst_type_of, sequent_image, postulate_of}
use Rattle.hol_kernel.specs.Sequent.{Sequent, no_hyps, sequent_of}
use Rattle.hol_kernel.specs.Signature.{term_tyvars, new_type}
use Rattle.hol_kernel.specs.Typing.{AreTyped, HasType}

abbrev pub HasDerivation : Items → Sequent → Type 0
HasDerivation items s = Derives items s.hyps s.concl

pub data EndsWithRule (items : Items) (s : Sequent) : Type 0 where
  refl : (t : Nameless) → refl_of items t ≡ Some s → EndsWithRule items s
  trans : (a b : Sequent) → HasDerivation items a → HasDerivation items b → trans_of a b ≡ Some s → EndsWithRule items s
  mk_comb : (a b : Sequent) → HasDerivation items a → HasDerivation items b → mk_comb_of a b ≡ Some s → EndsWithRule items s
  abs : (v : List ℕ × TypeTree) (a : Sequent) → HasDerivation items a → abs_of items (var v) a ≡ Some s → EndsWithRule items s
  beta : (a : TypeTree) (v : List ℕ × TypeTree) (b : Nameless) → HasType items (app (lam (base_of v.0) v.1 b) (free v)) a → binds (free_occurrences b) v ≡ false
      → s ≡ sequent_of no_hyps (equation a (app (lam (base_of v.0) v.1 b) (free v)) (open_with (free v) 0 b)) → EndsWithRule items s
  assume : (p : Nameless) → assume_of items p ≡ Some s → EndsWithRule items s
  eq_mp : (a b : Sequent) → HasDerivation items a → HasDerivation items b → eq_mp_of a b ≡ Some s → EndsWithRule items s
  deduct_antisym : (a b : Sequent) → HasDerivation items a → HasDerivation items b → s ≡ deduct_antisym_of a b → EndsWithRule items s
  inst_type : (pairs : List (TypeTree × List ℕ)) (a : Sequent) → HasDerivation items a → inst_type_of items pairs a ≡ Some s → EndsWithRule items s
  inst : (pairs : List (Nameless × (List ℕ × TypeTree))) (a : Sequent) → HasDerivation items a → AreTyped items pairs → s ≡ sequent_image (term_subst pairs 0) a → EndsWithRule items s
  postulate : (which : Postulate) → s ≡ postulate_of which → EndsWithRule items s
  stated : (n : List ℕ) (p : Nameless) → Holds items (declared_axiom n p) → s ≡ sequent_of no_hyps p → EndsWithRule items s
  definition : (c : List ℕ) (r : Nameless) (a : TypeTree) → Holds items (defined_constant c r) → HasType items r a → s ≡ sequent_of no_hyps (equation a (fixed c a) r) → EndsWithRule items s
  abs_of_rep : (c abs rep : List ℕ) (p : Nameless) (old : TypeTree) → Holds items (defined_type c abs rep p)
      → s ≡ sequent_of no_hyps (abs_rep abs rep old (new_type c (term_tyvars p))) → EndsWithRule items s
  rep_of_abs : (c abs rep : List ℕ) (p : Nameless) (old : TypeTree) → Holds items (defined_type c abs rep p)
      → s ≡ sequent_of no_hyps (rep_abs abs rep p old (new_type c (term_tyvars p))) → EndsWithRule items s
