-- At which leaves a derivation uses the axiom of infinity, and what a rule takes over from its premises: a statement for each constructor of `Derives`.
use Rattle.std.specs.Prelude.{◌≡◌, ◌≢◌, ℕ, List, true, false, ◌||◌}
use Rattle.std.specs.FinSet as set
use Rattle.hol_types.specs.Tree.{TypeTree}
use Rattle.hol_types.specs.Fun.{fun_type}
use Rattle.hol_terms.specs.Nameless.{Nameless, free, fixed, app, lam, base_of, free_occurrences}
use Rattle.hol_terms.specs.Alpha.{strip}
use Rattle.hol_terms.specs.Scoped.{binds}
use Rattle.hol_subst.specs.Substitution.{term_subst, types_inst}
use Rattle.hol_subst.specs.Closing.{bind, open_with}
use Rattle.hol_subst.specs.Variant.{is_free_in}
use Rattle.hol_formulas.specs.Equation.{bool_type, equation}
use Rattle.hol_formulas.specs.Prelude.{statement_of}
use Rattle.hol_formulas.specs.declared.postulate.Postulate.{Postulate}
use Rattle.hol_formulas.specs.declared.postulate.Postulate.TheVariants.{InfinityAx}
use Rattle.hol_kernel.specs.Item.{declared_axiom, defined_constant, defined_type}
use Rattle.hol_kernel.specs.Items.{Items, Holds}
use Rattle.hol_kernel.specs.Sequent.{Hyps, no_hyps, only_hyp, hyps_image}
use Rattle.hol_kernel.specs.Signature.{term_tyvars, new_type}
use Rattle.hol_kernel.specs.Typing.{HasType, IsType, AreTypes, AreTyped}
use Rattle.hol_kernel.specs.Bijections.{abs_rep, rep_abs}
use Rattle.hol_kernel.specs.Derivation.{Derives, by_refl, by_trans, by_mk_comb, by_abs, by_beta, by_assume, by_eq_mp, by_deduct_antisym, by_inst_type, by_inst, by_postulate, by_axiom, by_definition, by_abs_rep, by_rep_abs}
use Rattle.hol_model.specs.Infinity.{uses_infinity}

-- ---- leaves

abbrev pub InfinityUses : Type 0
InfinityUses = (items : Items) → uses_infinity items no_hyps (statement_of InfinityAx) (by_postulate InfinityAx) ≡ true

abbrev pub PostulatesAvoid : Type 0
PostulatesAvoid = (items : Items) (which : Postulate) → which ≢ InfinityAx → uses_infinity items no_hyps (statement_of which) (by_postulate which) ≡ false

abbrev pub ReflAvoids : Type 0
ReflAvoids = (items : Items) (t : Nameless) (a : TypeTree) (typed : HasType items t a) → uses_infinity items no_hyps (equation a t t) (by_refl t a typed) ≡ false

abbrev pub BetaAvoids : Type 0
BetaAvoids =
    (items : Items) (a : TypeTree) (v : List ℕ × TypeTree) (b : Nameless) (typed : HasType items (app (lam (base_of v.0) v.1 b) (free v)) a)
    (absent : binds (free_occurrences b) v ≡ false) →
    uses_infinity items no_hyps (equation a (app (lam (base_of v.0) v.1 b) (free v)) (open_with (free v) 0 b)) (by_beta a v b typed absent) ≡ false

abbrev pub AssumeAvoids : Type 0
AssumeAvoids = (items : Items) (p : Nameless) (typed : HasType items p bool_type) → uses_infinity items (only_hyp p) p (by_assume p typed) ≡ false

abbrev pub AxiomAvoids : Type 0
AxiomAvoids =
    (items : Items) (n : List ℕ) (p : Nameless) (held : Holds items (declared_axiom n p)) (typed : HasType items p bool_type) →
    uses_infinity items no_hyps p (by_axiom n p held typed) ≡ false

abbrev pub DefinitionAvoids : Type 0
DefinitionAvoids =
    (items : Items) (c : List ℕ) (r : Nameless) (a : TypeTree) (held : Holds items (defined_constant c r)) (typed : HasType items r a) →
    uses_infinity items no_hyps (equation a (fixed c a) r) (by_definition c r a held typed) ≡ false

abbrev pub AbsRepAvoids : Type 0
AbsRepAvoids =
    (items : Items) (c abs rep : List ℕ) (p : Nameless) (s : TypeTree) (held : Holds items (defined_type c abs rep p)) (typed : HasType items p (fun_type s bool_type)) →
    uses_infinity items no_hyps (abs_rep abs rep s (new_type c (term_tyvars p))) (by_abs_rep c abs rep p s held typed) ≡ false

abbrev pub RepAbsAvoids : Type 0
RepAbsAvoids =
    (items : Items) (c abs rep : List ℕ) (p : Nameless) (s : TypeTree) (held : Holds items (defined_type c abs rep p)) (typed : HasType items p (fun_type s bool_type)) →
    uses_infinity items no_hyps (rep_abs abs rep p s (new_type c (term_tyvars p))) (by_rep_abs c abs rep p s held typed) ≡ false

-- ---- rules

abbrev pub TransJoins : Type 0
TransJoins =
    (items : Items) (hs ks : Hyps) (a b : TypeTree) (s m n t : Nameless) (d : Derives items hs (equation a s m)) (e : Derives items ks (equation b n t)) (same : strip m ≡ strip n) →
    uses_infinity items (set.union hs ks) (equation a s t) (by_trans hs ks a b s m n t d e same) ≡ (uses_infinity items hs (equation a s m) d || uses_infinity items ks (equation b n t) e)

abbrev pub MkCombJoins : Type 0
MkCombJoins =
    (items : Items) (hs ks : Hyps) (a b : TypeTree) (f g x y : Nameless) (d : Derives items hs (equation (fun_type a b) f g)) (e : Derives items ks (equation a x y)) →
    uses_infinity items (set.union hs ks) (equation b (app f x) (app g y)) (by_mk_comb hs ks a b f g x y d e)
    ≡ (uses_infinity items hs (equation (fun_type a b) f g) d || uses_infinity items ks (equation a x y) e)

abbrev pub AbsKeeps : Type 0
AbsKeeps =
    (items : Items) (hs : Hyps) (a : TypeTree) (v : List ℕ × TypeTree) (l r : Nameless) (stands : IsType items v.1) (absent : is_free_in (set.items hs) v ≡ false)
    (d : Derives items hs (equation a l r)) →
    uses_infinity items hs (equation (fun_type v.1 a) (bind v l) (bind v r)) (by_abs hs a v l r stands absent d) ≡ uses_infinity items hs (equation a l r) d

abbrev pub EqMpJoins : Type 0
EqMpJoins =
    (items : Items) (hs ks : Hyps) (a : TypeTree) (l r m : Nameless) (d : Derives items hs (equation a l r)) (e : Derives items ks m) (same : strip l ≡ strip m) →
    uses_infinity items (set.union hs ks) r (by_eq_mp hs ks a l r m d e same) ≡ (uses_infinity items hs (equation a l r) d || uses_infinity items ks m e)

abbrev pub DeductAntisymJoins : Type 0
DeductAntisymJoins =
    (items : Items) (hs ks : Hyps) (p q : Nameless) (d : Derives items hs p) (e : Derives items ks q) →
    uses_infinity items (set.union (set.remove hs (strip q)) (set.remove ks (strip p))) (equation bool_type p q) (by_deduct_antisym hs ks p q d e)
    ≡ (uses_infinity items hs p d || uses_infinity items ks q e)

abbrev pub InstTypeKeeps : Type 0
InstTypeKeeps =
    (items : Items) (hs : Hyps) (p : Nameless) (pairs : List (TypeTree × List ℕ)) (stand : AreTypes items pairs) (d : Derives items hs p) →
    uses_infinity items (hyps_image (types_inst pairs) hs) (types_inst pairs p) (by_inst_type hs p pairs stand d) ≡ uses_infinity items hs p d

abbrev pub InstKeeps : Type 0
InstKeeps =
    (items : Items) (hs : Hyps) (p : Nameless) (pairs : List (Nameless × (List ℕ × TypeTree))) (typed : AreTyped items pairs) (d : Derives items hs p) →
    uses_infinity items (hyps_image (term_subst pairs 0) hs) (term_subst pairs 0 p) (by_inst hs p pairs typed d) ≡ uses_infinity items hs p d
