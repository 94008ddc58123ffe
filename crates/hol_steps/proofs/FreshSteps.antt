-- Steps to a variable of a new name, said by the name that is searched for.
use Rattle.std.specs.Prelude.{◌≡◌, ℕ, false, List, [], ◌∷◌}
use Rattle.std.proofs.Common.{ap, sym, ◌∙◌, subst}
use Rattle.hol_types.specs.Tree.{TypeTree}
use Rattle.hol_terms.specs.Nameless.{Nameless, base_of}
use Rattle.hol_subst.specs.Variant.{is_free_in}
use Rattle.hol_goal.specs.Goal.{GoalValue}
use Rattle.hol_just.specs.Fresh.{FreshValue, fresh}
use Rattle.hol_steps.specs.Fresh.{IsFresh}

module _ (names : List (List ℕ)) (avoid : List Nameless) (x v : List ℕ × TypeTree) (tested : List (List ℕ)) (f : IsFresh names avoid x v tested) where
  -- the variable
  pub fresh_is : v ≡ ((fresh names avoid (base_of x.0)).name, x.1)
  fresh_is = λ i. (sym (ap (λ (g : FreshValue). g.name) f.is) i, f.typed i)

  pub fresh_tested : tested ≡ (fresh names avoid (base_of x.0)).tested
  fresh_tested = sym (ap (λ (g : FreshValue). g.tested) f.is)

  -- what is said of it
  pub of_fresh_is : (P : List ℕ × TypeTree → Type 0) → P v → P ((fresh names avoid (base_of x.0)).name, x.1)
  of_fresh_is P h = subst P fresh_is h

  pub fresh_absent : is_free_in avoid ((fresh names avoid (base_of x.0)).name, x.1) ≡ false
  fresh_absent = of_fresh_is (λ u. is_free_in avoid u ≡ false) f.absent

  -- the goals that are left at it
  pub fresh_goals : (at : List ℕ × TypeTree → GoalValue) (goals : List GoalValue) → goals ≡ at v ∷ [] → ◌≡◌ {A = List GoalValue × List (List ℕ)} (goals, tested) (at ((fresh names avoid (base_of x.0)).name, x.1) ∷ [], (fresh names avoid (base_of x.0)).tested)
  fresh_goals at goals is = λ i. ((is ∙ ap (λ (u : List ℕ × TypeTree). at u ∷ []) fresh_is) i, fresh_tested i)
