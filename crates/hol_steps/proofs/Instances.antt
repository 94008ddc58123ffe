-- Quantified formulas at terms.
use Rattle.std.specs.Prelude.{◌≡◌, ℕ, false, ◌||◌, List, [], ◌∷◌, map, Result, Ok, Err, IfOk, Some, refl}
use Rattle.std.specs.List.{list_any}
use Rattle.std.proofs.Common.{ap, sym, ◌∙◌, subst, inl, inr}
use Rattle.hol_types.specs.Tree.{TypeTree}
use Rattle.hol_terms.specs.Named.{Named, var, named_type}
use Rattle.hol_terms.specs.Nameless.{Nameless, nameless, nameless_type, free_occurrences}
use Rattle.hol_terms.specs.Scoped.{binds}
use Rattle.hol_terms.proofs.Typing.{type_under, type_outside}
use Rattle.hol_subst.specs.Closing.{open_with}
use Rattle.hol_subst.specs.Pairs.{nameless_pairs, HasBadPair}
use Rattle.hol_subst.specs.Substitution.{term_subst}
use Rattle.hol_subst.specs.Variant.{is_free_in}
use Rattle.hol_subst.proofs.Closing.{close_under}
use Rattle.hol_subst.proofs.Opening.{open_close_subst}
use Rattle.hol_subst.proofs.Typing.{typed_closed}
use Rattle.hol_subst.proofs.TypeLaws.{open_type}
use Rattle.hol_formulas.specs.Equation.{bool_type}
use Rattle.hol_goal.specs.Goal.{GoalValue}
use Rattle.hol_just.specs.Leaving.{goal_terms}

abbrev Variable : Type 0
Variable = List ℕ × TypeTree

-- ---- substitution for the variable that was bound

-- the pair is none that is refused
pub good_pair : (pairs : List (Named × Named)) (t : Named) (x : Variable) → pairs ≡ (t, var x) ∷ [] → named_type t ≡ Some x.1 → HasBadPair pairs → ⊥
good_pair pairs t x is typed bad = by (subst (λ (ps : List (Named × Named)). HasBadPair ps) is bad)
  where
    by : HasBadPair ((t, var x) ∷ []) → ⊥
    by (inl h) = h (x, refl, typed)
    by (inr h) = h

pub substitution_opens : (x : Variable) (p t : Named) → term_subst (nameless_pairs ((t, var x) ∷ [])) 0 (nameless [] p) ≡ open_with (nameless [] t) 0 (nameless (x ∷ []) p)
substitution_opens x p t = sym (open_close_subst x (nameless [] t) 0 (nameless [] p)) ∙ ap (open_with (nameless [] t) 0) (sym (close_under [] x p))

pub opened_formula :
    (x : Variable) (p t r : Named) → nameless [] r ≡ open_with (nameless [] t) 0 (nameless (x ∷ []) p) → named_type t ≡ Some x.1 → named_type p ≡ Some bool_type → named_type r ≡ Some bool_type
opened_formula x p t r is argument body =
    let under : nameless_type (x.1 ∷ []) (nameless (x ∷ []) p) ≡ Some bool_type = type_under (x ∷ []) p ∙ body in
    sym (type_outside r) ∙ ap (nameless_type []) is
    ∙ open_type (nameless [] t) x.1 [] (nameless (x ∷ []) p) (type_outside t ∙ argument) (typed_closed (x.1 ∷ []) (nameless (x ∷ []) p) bool_type under)
    ∙ under

-- what was substituted is what is kept
pub kept_as : {E F : Type 0} (answer : Result Named E) (kept : Result Named F) (n m : Nameless) → n ≡ m → IfOk answer (λ r. nameless [] r ≡ n) → IfOk kept (λ r. answer ≡ Ok r) → IfOk kept (λ r. nameless [] r ≡ m)
kept_as answer (Ok r) n m same h k = subst (λ a. IfOk a (λ s. nameless [] s ≡ n)) k h ∙ same
kept_as answer (Err e) n m same h k = k

pub kept_typed : {F : Type 0} (kept : Result Named F) (P Q : Named → Type 0) → ((r : Named) → P r → Q r) → IfOk kept P → IfOk kept Q
kept_typed (Ok r) P Q f h = f r h
kept_typed (Err e) P Q f h = h

-- ---- where a variable is free

pub free_in_list : (terms : List Named) (v : Variable) → list_any (λ p. binds (free_occurrences (nameless [] p)) v) terms ≡ is_free_in (map (nameless []) terms) v
free_in_list [] v = refl
free_in_list (p ∷ terms) v = ap (λ b. binds (free_occurrences (nameless [] p)) v || b) (free_in_list terms v)

-- it is not free in the conclusion
pub free_elsewhere :
    (goal : GoalValue) (w : Nameless) (terms : List Named) (v : Variable) → w ≡ goal.conclusion → map (nameless []) terms ≡ goal.assumptions → binds (free_occurrences w) v ≡ false →
    list_any (λ p. binds (free_occurrences (nameless [] p)) v) terms ≡ is_free_in (goal_terms goal) v
free_elsewhere goal w terms v same are absent =
    free_in_list terms v ∙ ap (λ (ns : List Nameless). is_free_in ns v) are
    ∙ ap (λ b. b || is_free_in goal.assumptions v) (sym (ap (λ t. binds (free_occurrences t) v) (sym same) ∙ absent))
