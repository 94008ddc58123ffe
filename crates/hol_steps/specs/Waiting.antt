-- What the code says of pieces that wait. Only its clauses speak of it.
use Rattle.std.specs.Prelude.{◌≡◌, List, [], ◌∷◌, Option, Some, None, refl}
use Rattle.std.specs.Coded.{Coded, code_by, coded×, coded_list}
use Rattle.hol_terms.specs.Named.{Named}
use Rattle.hol_terms.specs.Nameless.{Nameless, nameless}
use Rattle.hol_terms.specs.Code.{coded_nameless}
use Rattle.hol_goal.specs.Goal.{GoalValue, goal_code}
use Rattle.hol_just.specs.Strip.{WaitingValue, waiting}

abbrev pub waiting_code : Coded WaitingValue
waiting_code = code_by (List Nameless × GoalValue) (coded× (coded_list coded_nameless) goal_code) (λ w. (w.pieces, w.goal)) (λ p. record { pieces = p.0; goal = p.1 }) (λ _. refl)

-- the first piece was taken, or there is none
abbrev pub IsFirst : WaitingValue → WaitingValue → Option Named → Type 0
IsFirst old new None = (old.pieces ≡ []) × (new ≡ old)
IsFirst old new (Some p) = old ≡ waiting (nameless [] p ∷ new.pieces) new.goal
