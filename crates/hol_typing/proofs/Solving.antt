-- Steps of the loop that solves the equations.
use Rattle.std.proofs.Common.{◌≡◌, ℕ, ◌↔◌, List, [], ◌∷◌, ◌++◌, sym, ◌∙◌, subst}
use Rattle.std.proofs.lemmas.List.Elements.{All-cons, All-head, All-tail, All-push}
use Rattle.hol_types.specs.Tree.{TypeTree}
use Rattle.hol_typing.specs.declared.cell.Cell.{Cell}
use Rattle.hol_typing.specs.declared.cell.Equation.{Equation}
use Rattle.hol_typing.specs.Graph.{Respects, EquationHolds, IsSolution, SameSolutions, HasNoSolution}
use Rattle.hol_typing.proofs.Growing.{all_last}

pub same_solutions_trans : (a b c : List Cell) (p q r : List Equation) → SameSolutions a p b q → SameSolutions b q c r → SameSolutions a p c r
same_solutions_trans a b c p q r h g types = (λ s. (g types).0 ((h types).0 s), λ s. (h types).1 ((g types).1 s))

pub has_no_solution_same : (a b : List Cell) (p q : List Equation) → SameSolutions a p b q → HasNoSolution a p → HasNoSolution b q
has_no_solution_same a b p q h none types s = none types ((h types).1 s)

-- an equation of two slots says what one of other slots of the same types says
pub same_edge : (cells : List Cell) (pending : List Equation) (d e : Equation) →
    ((types : ℕ → TypeTree) → Respects cells types → EquationHolds types d ↔ EquationHolds types e) →
    SameSolutions cells (d ∷ pending) cells (e ∷ pending)
same_edge cells pending d e h types = (
  λ s. record {
    respects = s.respects;
    equations = All-cons (EquationHolds types) e pending ((h types s.respects).0 (All-head (EquationHolds types) d pending s.equations)) (All-tail (EquationHolds types) d pending s.equations);
  },
  λ s. record {
    respects = s.respects;
    equations = All-cons (EquationHolds types) d pending ((h types s.respects).1 (All-head (EquationHolds types) e pending s.equations)) (All-tail (EquationHolds types) e pending s.equations);
  },
)

-- an equation that always holds says nothing
pub drop_edge : (cells : List Cell) (pending : List Equation) (e : Equation) →
    ((types : ℕ → TypeTree) → Respects cells types → EquationHolds types e) →
    SameSolutions cells pending cells (e ∷ pending)
drop_edge cells pending e h types = (
  λ s. record { respects = s.respects; equations = All-cons (EquationHolds types) e pending (h types s.respects) s.equations },
  λ s. record { respects = s.respects; equations = All-tail (EquationHolds types) e pending s.equations },
)

-- the last equation may stand first
pub last_first : (cells : List Cell) (pending : List Equation) (e : Equation) → SameSolutions cells (e ∷ pending) cells (pending ++ e ∷ [])
last_first cells pending e types = (
  λ s. record {
    respects = s.respects;
    equations = All-push (EquationHolds types) pending e (All-tail (EquationHolds types) e pending s.equations) (All-head (EquationHolds types) e pending s.equations);
  },
  λ s.
      let parts = all_last (EquationHolds types) pending e s.equations in
      record { respects = s.respects; equations = All-cons (EquationHolds types) e pending parts.1 parts.0 },
)

pub first_last : (cells : List Cell) (before after : List Equation) (e : Equation) → after ≡ before ++ e ∷ [] → SameSolutions cells after cells (e ∷ before)
first_last cells before after e is types = subst (λ (p : List Equation). IsSolution cells p types ↔ IsSolution cells (e ∷ before) types) (sym is) ((last_first cells before e types).1, (last_first cells before e types).0)

-- two slots in place of two slots of the same types, also the other way round
pub roots_edge : (cells : List Cell) (pending : List Equation) (e : Equation) (left right : ℕ) →
    ((types : ℕ → TypeTree) → Respects cells types → types e.left ≡ types left) →
    ((types : ℕ → TypeTree) → Respects cells types → types e.right ≡ types right) →
    SameSolutions cells (record { left = left; right = right } ∷ pending) cells (e ∷ pending)
roots_edge cells pending e left right h g = same_edge cells pending (record { left = left; right = right }) e (λ types r. (
  λ (p : types left ≡ types right). h types r ∙ p ∙ sym (g types r),
  λ (p : types e.left ≡ types e.right). sym (h types r) ∙ p ∙ g types r,
))

pub turned_edge : (cells : List Cell) (pending : List Equation) (e : Equation) (left right : ℕ) →
    ((types : ℕ → TypeTree) → Respects cells types → types e.left ≡ types left) →
    ((types : ℕ → TypeTree) → Respects cells types → types e.right ≡ types right) →
    SameSolutions cells (record { left = right; right = left } ∷ pending) cells (e ∷ pending)
turned_edge cells pending e left right h g = same_edge cells pending (record { left = right; right = left }) e (λ types r. (
  λ (p : types right ≡ types left). h types r ∙ sym p ∙ sym (g types r),
  λ (p : types e.left ≡ types e.right). sym (g types r) ∙ sym p ∙ h types r,
))
