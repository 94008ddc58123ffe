-- Each rule gives a theorem that has a derivation.
use Rattle.std.specs.Prelude.{◌≡◌, ℕ, true, ◌&&◌, List, [], ◌∷◌, codes, bytes_eq, Option, Some, None, refl}
use Rattle.std.specs.Option.{option_map, option_and_then}
use Rattle.std.proofs.Common.{ap, sym, ◌∙◌, subst}
use Rattle.std.proofs.lemmas.Bool.{and_parts}
use Rattle.std.proofs.lemmas.Slice.Eq.{bytes_eq-Decides}
use Rattle.std.specs.FinSet as set
use Rattle.std.proofs.lemmas.Option.{cond_some}
use Rattle.hol_types.specs.Tree.{TypeTree}
use Rattle.hol_types.specs.Equal.{type_eq}
use Rattle.hol_types.specs.Fun.{fun_type, fun_parts}
use Rattle.hol_types.proofs.OrderLaws.{type_cmp_decides}
use Rattle.hol_terms.specs.Named.{Named, named_type, applied_type}
use Rattle.hol_terms.specs.Nameless.{Nameless, free, bound, fixed, app, lam, nameless, nameless_type}
use Rattle.hol_terms.specs.Alpha.{strip, alpha_eq}
use Rattle.hol_terms.proofs.Alpha.{alpha_eq_decides}
use Rattle.hol_terms.proofs.Typing.{type_outside}
use Rattle.hol_kernel.specs.Items.{Items}
use Rattle.hol_kernel.specs.Sequent.{Hyps, Sequent, sequent_of}
use Rattle.hol_formulas.specs.Equation.{bool_type, equality_type, equation}
use Rattle.hol_kernel.specs.Derivation.{Derives, by_trans, by_eq_mp, by_mk_comb}
use Rattle.hol_kernel.specs.Theorem.{Theorem, IsDerived}
use Rattle.hol_kernel.specs.Rules.{trans_sides, trans_of, eq_mp_sides, eq_mp_of, comb_parts, comb_sides, mk_comb_of}
use Rattle.hol_formulas.specs.Equation.{Sides, sides_at, dest_eq}
use Rattle.hol_formulas.proofs.TypeTests.{fun_parts_is}

-- ---- what tests say

alpha : (m n : Nameless) → alpha_eq m n ≡ true → strip m ≡ strip n
alpha m n e = (alpha_eq_decides m n).0 e

pub strip_type : (env : List TypeTree) (n : Nameless) → nameless_type env (strip n) ≡ nameless_type env n
strip_type env (free v) = refl
strip_type env (bound i) = refl
strip_type env (fixed c s) = refl
strip_type env (app f x) = λ i. option_and_then (λ s. option_and_then (λ t. applied_type s t) (strip_type env x i)) (strip_type env f i)
strip_type env (lam a s b) = ap (option_map (fun_type s)) (strip_type (s ∷ env) b)

-- alpha equivalent terms have one type
pub alpha_type : (s t : Named) (a b : TypeTree) → alpha_eq (nameless [] s) (nameless [] t) ≡ true → named_type s ≡ Some a → named_type t ≡ Some b → a ≡ b
alpha_type s t a b e f g =
    let one : Some a ≡ Some b =
    sym f ∙ sym (type_outside s) ∙ sym (strip_type [] (nameless [] s)) ∙ ap (nameless_type []) (alpha (nameless [] s) (nameless [] t) e)
    ∙ strip_type [] (nameless [] t) ∙ type_outside t ∙ g
    in
    cc

-- ---- the sides of an equation

sides_is_at : (c : List ℕ) (s : TypeTree) (l r : Nameless) (x : Sides) (p : TypeTree × TypeTree) → sides_at c s l r p ≡ Some x → app (app (fixed c s) l) r ≡ equation x.sides_type x.left x.right
sides_is_at c s l r x p e =
    let v = cond_some (bytes_eq c (codes "=") && type_eq s (equality_type p.0)) (record { sides_type = p.0; left = l; right = r }) x e in
    let w = and_parts (bytes_eq c (codes "=")) (type_eq s (equality_type p.0)) v.0 in
    (λ i. app (app (fixed ((bytes_eq-Decides c (codes "=")).0 w.0 i) ((type_cmp_decides s (equality_type p.0)).0 w.1 i)) l) r)
    ∙ ap (λ (z : Sides). equation z.sides_type z.left z.right) v.1

sides_is_by : (c : List ℕ) (s : TypeTree) (l r : Nameless) (x : Sides) (o : Option (TypeTree × TypeTree)) → option_and_then (sides_at c s l r) o ≡ Some x → app (app (fixed c s) l) r ≡ equation x.sides_type x.left x.right
sides_is_by c s l r x (Some p) e = sides_is_at c s l r x p e
sides_is_by c s l r x None e = absurd (cc)

pub sides_is : (t : Nameless) (x : Sides) → dest_eq t ≡ Some x → t ≡ equation x.sides_type x.left x.right
sides_is (app (app (fixed c s) l) r) x e = sides_is_by c s l r x (fun_parts s) e
sides_is t x e = absurd (cc)

-- ---- the rules on sequents

abbrev pub Derived : Items → Sequent → Type 0
Derived items s = Derives items s.hyps s.concl

by_sides : (items : Items) (s : Sequent) (x : Sides) → dest_eq s.concl ≡ Some x → Derived items s → Derives items s.hyps (equation x.sides_type x.left x.right)
by_sides items s x e d = subst (λ (u : Nameless). Derives items s.hyps u) (sides_is s.concl x e) d

module _ (items : Items) (a b t : Sequent) (d : Derived items a) (e : Derived items b) where
  pub trans_sound : trans_of a b ≡ Some t → Derived items t
  trans_sound is =
      go (dest_eq a.concl) (dest_eq b.concl) refl refl is
    where
      go : (p q : Option Sides) → dest_eq a.concl ≡ p → dest_eq b.concl ≡ q → trans_sides (set.union a.hyps b.hyps) p q ≡ Some t → Derived items t
      go (Some x) (Some y) p q is =
          let v = cond_some (alpha_eq x.right y.left) (sequent_of (set.union a.hyps b.hyps) (equation x.sides_type x.left y.right)) t is in
          subst (Derived items) v.1
          (by_trans a.hyps b.hyps x.sides_type y.sides_type x.left x.right y.left y.right (by_sides items a x p d) (by_sides items b y q e) (alpha x.right y.left v.0))
      go (Some x) None p q is = absurd (cc)
      go None q p' q' is = absurd (cc)

  pub eq_mp_sound : eq_mp_of a b ≡ Some t → Derived items t
  eq_mp_sound is =
      go (dest_eq a.concl) refl is
    where
      go : (p : Option Sides) → dest_eq a.concl ≡ p → eq_mp_sides (set.union a.hyps b.hyps) p b.concl ≡ Some t → Derived items t
      go (Some x) p is =
          let v = cond_some (alpha_eq x.left b.concl) (sequent_of (set.union a.hyps b.hyps) x.right) t is in
          subst (Derived items) v.1
          (by_eq_mp a.hyps b.hyps x.sides_type x.left x.right b.concl (by_sides items a x p d) e (alpha x.left b.concl v.0))
      go None p is = absurd (cc)

  pub mk_comb_sound : mk_comb_of a b ≡ Some t → Derived items t
  mk_comb_sound is =
      go (dest_eq a.concl) (dest_eq b.concl) refl refl is
    where
      typed : (x y : Sides) (f : Option (TypeTree × TypeTree)) → fun_parts x.sides_type ≡ f → dest_eq a.concl ≡ Some x → dest_eq b.concl ≡ Some y → comb_parts (set.union a.hyps b.hyps) x y f ≡ Some t → Derived items t
      typed x y (Some s) f p q is =
          let v = cond_some (type_eq s.0 y.sides_type) (sequent_of (set.union a.hyps b.hyps) (equation s.1 (app x.left y.left) (app x.right y.right))) t is in
          subst (Derived items) v.1
          (by_mk_comb a.hyps b.hyps s.0 s.1 x.left x.right y.left y.right
          (subst (λ (u : TypeTree). Derives items a.hyps (equation u x.left x.right)) (fun_parts_is x.sides_type s f) (by_sides items a x p d))
          (subst (λ (u : TypeTree). Derives items b.hyps (equation u y.left y.right)) (sym ((type_cmp_decides s.0 y.sides_type).0 v.0)) (by_sides items b y q e)))
      typed x y None f p q is = absurd (cc)

      go : (p q : Option Sides) → dest_eq a.concl ≡ p → dest_eq b.concl ≡ q → comb_sides (set.union a.hyps b.hyps) p q ≡ Some t → Derived items t
      go (Some x) (Some y) p q is = typed x y (fun_parts x.sides_type) refl p q is
      go (Some x) None p q is = absurd (cc)
      go None q p' q' is = absurd (cc)

-- what a rule makes of two premises, over the basis of the first
pub second_over : (a b : Theorem) → a.basis ≡ b.basis → Derived b.basis b.sequent → Derived a.basis b.sequent
second_over a b one e = subst (λ (items : Items). Derived items b.sequent) (sym one) e

-- what the program keeps of a sequent that is derived
pub kept : (items own : Items) (hyps : Hyps) (concl : Named) → own ≡ items → Derived items (sequent_of hyps (nameless [] concl)) → named_type concl ≡ Some bool_type → IsDerived own hyps concl
kept items own hyps concl is d t = record { derives = subst (λ (s : Items). Derives s hyps (nameless [] concl)) (sym is) d; typed = t }
