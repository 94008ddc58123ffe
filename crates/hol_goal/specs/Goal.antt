-- A goal: its assumptions, the newest first, and its conclusion. HOL Light's goals have labelled theorems as assumptions; here they are terms alone, and nameless.
use Rattle.std.specs.Prelude.{ℕ, ◌+◌, List, [], ◌∷◌, map, refl}
use Rattle.std.specs.Coded.{Coded, code_by, coded×, coded_list}
use Rattle.hol_terms.specs.Named.{Named}
use Rattle.hol_terms.specs.Nameless.{Nameless, nameless}
use Rattle.hol_terms.specs.Size.{term_size}
use Rattle.hol_terms.specs.Code.{coded_nameless}

pub record GoalValue : Type 0 where
  pub assumptions : List Nameless
  pub conclusion : Nameless

abbrev pub goal_code : Coded GoalValue
goal_code =
    code_by (List Nameless × Nameless) (coded× (coded_list coded_nameless) coded_nameless)
    (λ g. (g.assumptions, g.conclusion))
    (λ p. record { assumptions = p.0; conclusion = p.1 })
    (λ _. refl)

-- the goal of named terms
abbrev pub goal_of : List Named → Named → GoalValue
goal_of assumptions conclusion = record { assumptions = map (nameless []) assumptions; conclusion = nameless [] conclusion }

-- the size of a goal: that of all its terms
abbrev pub terms_size : List Nameless → ℕ
terms_size [] = 0
terms_size (p ∷ ps) = term_size [] p + terms_size ps

abbrev pub goal_size : GoalValue → ℕ
goal_size g = term_size [] g.conclusion + terms_size g.assumptions
