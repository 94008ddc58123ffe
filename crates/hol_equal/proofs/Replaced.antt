-- What SUBST answers, from what the code tested.
use Rattle.std.specs.Prelude.{◌≡◌, ℕ, List, [], ◌∷◌, Bool, true, false, cond, ◌&&◌, Some, None, refl}
use Rattle.std.specs.Option.{option_and_then}
use Rattle.std.specs.FinSet as set
use Rattle.std.proofs.Common.{ap, sym, ◌∙◌, inl, inr}
use Rattle.hol_types.specs.Tree.{TypeTree}
use Rattle.hol_types.specs.Equal.{type_eq}
use Rattle.hol_terms.specs.Named.{Named, var, named_type}
use Rattle.hol_terms.specs.Nameless.{Nameless}
use Rattle.hol_terms.specs.Alpha.{alpha_eq}
use Rattle.hol_subst.specs.Pairs.{HasBadPair}
use Rattle.hol_formulas.specs.Equation.{bool_type, equation, dest_eq}
use Rattle.hol_formulas.proofs.FormulaLaws.{dest_eq_equation}
use Rattle.hol_kernel.specs.Items.{Items}
use Rattle.hol_kernel.specs.Sequent.{Sequent, sequent_of}
use Rattle.hol_kernel.specs.Typing.{has_type}
use Rattle.hol_equal.specs.Applied.{lhs, rhs}
use Rattle.hol_equal.specs.Rules.{m_with, subst_sides, subst_of}

-- one pair of a term and a variable of its type is good
pub good_alone : (x : Named) (v : List ℕ × TypeTree) → named_type x ≡ Some v.1 → HasBadPair ((x, var v) ∷ []) → ⊥
good_alone x v typed (inl bad) = bad (v, refl, typed)
good_alone x v typed (inr bad) = absurd bad

-- an equation of the sides that it has, at a type that is its own
pub sides_in : (c : Nameless) (a s : TypeTree) (l r : Nameless) → c ≡ equation s l r → a ≡ s → c ≡ equation a (lhs c) (rhs c)
sides_in c a s l r is same = is ∙ ap (λ d. equation d l r) (sym same) ∙ sym (λ i. equation a (lhs (is i)) (rhs (is i)))

module _ (basis : Items) (a : Sequent) (v : List ℕ × TypeTree) (m : Nameless) (b : Sequent) where
  pub subst_none : dest_eq a.concl ≡ None → subst_of basis a (var v) m b ≡ None
  subst_none e = ap (option_and_then (subst_sides basis v m (set.union a.hyps b.hyps) b.concl)) e

  module _ (s : TypeTree) (l r : Nameless) (is : a.concl ≡ equation s l r) where
    subst_test : (i j k : Bool) → type_eq v.1 s ≡ i → has_type basis m bool_type ≡ j → alpha_eq (m_with l v m) b.concl ≡ k → subst_of basis a (var v) m b ≡ cond (i && (j && k)) (Some (sequent_of (set.union a.hyps b.hyps) (m_with r v m))) None
    subst_test i j k e f g =
        ap (option_and_then (subst_sides basis v m (set.union a.hyps b.hyps) b.concl)) (ap dest_eq is ∙ dest_eq_equation s l r)
        ∙ (λ n. cond (e n && (f n && g n)) (Some (sequent_of (set.union a.hyps b.hyps) (m_with r v m))) None)

    pub subst_other_type : type_eq v.1 s ≡ false → subst_of basis a (var v) m b ≡ None
    subst_other_type e = subst_test false (has_type basis m bool_type) (alpha_eq (m_with l v m) b.concl) e refl refl

    pub subst_no_formula : has_type basis m bool_type ≡ false → subst_of basis a (var v) m b ≡ None
    subst_no_formula f = subst_test (type_eq v.1 s) false (alpha_eq (m_with l v m) b.concl) refl f refl ∙ by (type_eq v.1 s)
      where
        by : (i : Bool) → cond (i && false) (Some (sequent_of (set.union a.hyps b.hyps) (m_with r v m))) None ≡ None
        by true = refl
        by false = refl

    pub subst_gives : type_eq v.1 s ≡ true → has_type basis m bool_type ≡ true → alpha_eq (m_with l v m) b.concl ≡ true → subst_of basis a (var v) m b ≡ Some (sequent_of (set.union a.hyps b.hyps) (m_with r v m))
    subst_gives e f g = subst_test true true true e f g

pub ruleset substs = (subst_none, subst_other_type, subst_no_formula)
