-- The justifications of one move by the rules that take connectives and quantifiers off, and by those of equations.
use Rattle.std.specs.Prelude.{◌≡◌, ℕ, List, [], ◌∷◌, codes, Some}
use Rattle.std.proofs.Common.{ap, sym, ◌∙◌, subst}
use Rattle.hol_types.specs.Tree.{TypeTree}
use Rattle.hol_terms.specs.Named.{Named, var}
use Rattle.hol_terms.specs.Nameless.{Nameless, free, nameless}
use Rattle.hol_terms.specs.Alpha.{strip}
use Rattle.hol_subst.specs.Closing.{open_with}
use Rattle.hol_subst.proofs.Closing.{IsClosed}
use Rattle.hol_subst.proofs.Typing.{typed_closed}
use Rattle.hol_formulas.specs.Equation.{bool_type, equation}
use Rattle.hol_formulas.specs.Formula.{conjunction, disjunction, universal, existential}
use Rattle.hol_kernel.specs.Typing.{is_type, HasType}
use Rattle.hol_kernel.proofs.Declared.{has_type_is}
use Rattle.hol_kernel.proofs.Variables.{known_typed, variable_typed}
use Rattle.hol_kernel.proofs.WellTyped.{own_type_stands, sides_typed, equation_of}
use Rattle.hol_equal.specs.Rules.{sym_of, m_with}
use Rattle.hol_derived.specs.Rules.{conjunct1_of, conjunct2_of, disj_cases_of, spec_of, choose_of, over_variable}
use Rattle.hol_just.specs.Reasons.{cut, replaced}
use Rattle.hol_just.specs.Replacing.{replace_each}
use Rattle.hol_just.specs.Justifies.{goal_at, always, holds_formula, holds_term, CutsBy, SplitsByCases, LeavesConjunctionRight, LeavesConjunctionLeft, LeavesGeneralized, SplitsByExistence, TurnsEquation, SplitsByEquation}
use Rattle.hol_just.specs.declared.reason.Reason.TheVariants.{LeftConjunct, RightConjunct, Cases, Cut, Symmetry, Replacement, Specialization, Choice}
use Rattle.hol_just.proofs.OneMove.{one, one_valid, by_one, by_two, by_three}
use Rattle.hol_just.proofs.EliminationRules.{conjunct1_achieves, conjunct2_achieves, cut_achieves, cases_achieves, sym_achieves, subst_achieves, spec_achieves, choose_achieves}
use Rattle.hol_just.proofs.Replacing.{replaced_after, replaced_same, replaced_typed, generalized_back}
use Rattle.hol_just.proofs.Typings.{operands_typed, conjunction_typed, universal_typed, typed_at, property_typed, opened_typed}

pub left_conjunct_leaves : LeavesConjunctionRight (one LeftConjunct)
left_conjunct_leaves extra assumptions p q =
    one_valid (holds_formula q) extra LeftConjunct (goal_at assumptions p) (goal_at assumptions (conjunction p q) ∷ [])
    (λ basis suit typed. record {
      typed = (record { assumptions = typed.assumptions; conclusion = conjunction_typed basis p q typed.conclusion (has_type_is basis q bool_type suit) }, tt);
      fits = tt;
      justifies = by_one extra (goal_at assumptions p) conjunct1_of (goal_at assumptions (conjunction p q)) (conjunct1_achieves extra assumptions p q);
    })

pub right_conjunct_leaves : LeavesConjunctionLeft (one RightConjunct)
right_conjunct_leaves extra assumptions p q =
    one_valid (holds_formula p) extra RightConjunct (goal_at assumptions q) (goal_at assumptions (conjunction p q) ∷ [])
    (λ basis suit typed. record {
      typed = (record { assumptions = typed.assumptions; conclusion = conjunction_typed basis p q (has_type_is basis p bool_type suit) typed.conclusion }, tt);
      fits = tt;
      justifies = by_one extra (goal_at assumptions q) conjunct2_of (goal_at assumptions (conjunction p q)) (conjunct2_achieves extra assumptions p q);
    })

pub cut_cuts : CutsBy (one Cut)
cut_cuts extra assumptions p q =
    one_valid (holds_formula p) extra Cut (goal_at assumptions q) (goal_at assumptions p ∷ goal_at (p ∷ assumptions) q ∷ [])
    (λ basis suit typed.
    let formula = has_type_is basis p bool_type suit in
    record {
      typed = (
        record { assumptions = typed.assumptions; conclusion = formula },
        (record { assumptions = (formula, typed.assumptions); conclusion = typed.conclusion }, tt),
      );
      fits = tt;
      justifies = by_two extra (goal_at assumptions q) cut (goal_at assumptions p) (goal_at (p ∷ assumptions) q) (cut_achieves extra assumptions p q);
    })

pub cases_split : SplitsByCases (one Cases)
cases_split extra assumptions p q r =
    one_valid (holds_formula (disjunction p q)) extra Cases (goal_at assumptions r) (goal_at assumptions (disjunction p q) ∷ goal_at (p ∷ assumptions) r ∷ goal_at (q ∷ assumptions) r ∷ [])
    (λ basis suit typed.
    let formula = has_type_is basis (disjunction p q) bool_type suit in
    let parts = operands_typed basis (codes "\\/") p q bool_type formula in
    record {
      typed = (
        record { assumptions = typed.assumptions; conclusion = formula },
        (
          record { assumptions = (parts.0, typed.assumptions); conclusion = typed.conclusion },
          (record { assumptions = (parts.1, typed.assumptions); conclusion = typed.conclusion }, tt),
        ),
      );
      fits = tt;
      justifies = by_three extra (goal_at assumptions r) disj_cases_of (goal_at assumptions (disjunction p q)) (goal_at (p ∷ assumptions) r) (goal_at (q ∷ assumptions) r)
          (cases_achieves extra assumptions p q r);
    })

-- ---- equations

pub symmetry_turns : TurnsEquation (one Symmetry)
symmetry_turns extra assumptions a r l =
    one_valid always extra Symmetry (goal_at assumptions (equation a r l)) (goal_at assumptions (equation a l r) ∷ [])
    (λ basis suit typed.
    let sides = sides_typed basis a bool_type r l typed.conclusion in
    record {
      typed = (record { assumptions = typed.assumptions; conclusion = equation_of basis a l r sides.1 sides.0 }, tt);
      fits = tt;
      justifies = by_one extra (goal_at assumptions (equation a r l)) sym_of (goal_at assumptions (equation a l r)) (sym_achieves extra assumptions a l r);
    })

-- the template has the variable for each l
pub replacement_leaves : (v : List ℕ × TypeTree) (m : Named) → SplitsByEquation v (nameless [] m) (one (Replacement (var v) m))
replacement_leaves v m extra assumptions l r p template absent =
    one_valid (holds_formula (equation v.1 r l)) extra (Replacement (var v) m) (goal_at assumptions p) (goal_at assumptions (equation v.1 r l) ∷ goal_at assumptions (replace_each l r p) ∷ [])
    (λ basis suit typed.
    let formula = has_type_is basis (equation v.1 r l) bool_type suit in
    let sides = sides_typed basis v.1 bool_type r l formula in
    let of_l = (known_typed basis l v.1 sides.1).1 in
    let of_r = (known_typed basis r v.1 sides.0).1 in
    let own = variable_typed basis v (own_type_stands basis l v.1 sides.1) in
    let m_typed = subst (λ n. HasType basis n bool_type) (sym template) (replaced_typed basis l (free v) p v.1 bool_type of_l own typed.conclusion) in
    let at_l = ap strip (with_m l (typed_closed [] l v.1 of_l)) ∙ replaced_same l p in
    let at_r = with_m r (typed_closed [] r v.1 of_r) in
    record {
      typed = (
        record { assumptions = typed.assumptions; conclusion = formula },
        (record { assumptions = typed.assumptions; conclusion = replaced_typed basis l r p v.1 bool_type of_l sides.0 typed.conclusion }, tt),
      );
      fits = tt;
      justifies = by_two extra (goal_at assumptions p) (replaced basis (var v) (nameless [] m)) (goal_at assumptions (equation v.1 r l)) (goal_at assumptions (replace_each l r p))
          (λ s t h k. subst_achieves extra assumptions basis v (nameless [] m) r l p s t m_typed (sym at_l) h (record { concludes = k.concludes ∙ ap strip (sym at_r); allowed = k.allowed }));
    })
  where
    with_m : (t : Nameless) → IsClosed 0 t → m_with t v (nameless [] m) ≡ replace_each l t p
    with_m t c = ap (m_with t v) template ∙ replaced_after l t v 0 p c absent

-- ---- quantifiers

pub specialization_leaves : (t : Named) (v : List ℕ × TypeTree) → LeavesGeneralized (nameless [] t) v (one (Specialization t))
specialization_leaves t v extra assumptions w of_type apart =
    one_valid (holds_term (nameless [] t)) extra (Specialization t) (goal_at assumptions w) (goal_at assumptions (universal (over_variable v (replace_each (nameless [] t) (free v) w))) ∷ [])
    (λ basis suit typed.
    let term = typed_at basis (nameless [] t) v.1 suit of_type in
    let stands = own_type_stands basis (nameless [] t) v.1 term in
    record {
      typed = (
        record {
          assumptions = typed.assumptions;
          conclusion = universal_typed basis v (replace_each (nameless [] t) (free v) w) stands (replaced_typed basis (nameless [] t) (free v) w v.1 bool_type of_type (variable_typed basis v stands) typed.conclusion);
        },
        tt,
      );
      fits = tt;
      justifies = by_one extra (goal_at assumptions w) (spec_of basis (nameless [] t)) (goal_at assumptions (universal (over_variable v (replace_each (nameless [] t) (free v) w))))
          (λ s h. spec_achieves extra assumptions basis (nameless [] t) (over_variable v (replace_each (nameless [] t) (free v) w)) w s term
          (generalized_back (nameless [] t) v w (typed_closed [] (nameless [] t) v.1 of_type) apart) h);
    })

pub choice_splits : (v : List ℕ × TypeTree) → SplitsByExistence v (one (Choice (var v)))
choice_splits v extra assumptions x q same new absent =
    one_valid (holds_formula (existential x)) extra (Choice (var v)) (goal_at assumptions q) (goal_at assumptions (existential x) ∷ goal_at (open_with (free v) 0 x.body ∷ assumptions) q ∷ [])
    (λ basis suit typed.
    let formula = has_type_is basis (existential x) bool_type suit in
    let property = property_typed basis (codes "?") x formula in
    let chosen = opened_typed basis x (free v) property (variable_typed basis v (ap (is_type basis) same ∙ property.domain) ∙ ap Some same) in
    record {
      typed = (
        record { assumptions = typed.assumptions; conclusion = formula },
        (record { assumptions = (chosen, typed.assumptions); conclusion = typed.conclusion }, tt),
      );
      fits = tt;
      justifies = by_two extra (goal_at assumptions q) (choose_of (var v)) (goal_at assumptions (existential x)) (goal_at (open_with (free v) 0 x.body ∷ assumptions) q)
          (λ s t h k. choose_achieves extra assumptions v x q s t same new absent h k);
    })
