-- A pattern that is a variable has no other one.
use Rattle.std.specs.Prelude.{◌≡◌, ℕ, true, not, ◌||◌, ◌&&◌, bytes_eq, List, [], Result, Ok, Err, IfOk}
use Rattle.std.proofs.Common.{ap, ◌∙◌}
use Rattle.std.proofs.lemmas.Bool.{or_right}
use Rattle.hol_types.specs.Tree.{TypeTree}
use Rattle.hol_types.specs.Equal.{type_eq}
use Rattle.hol_terms.specs.Named.{Named, var}
use Rattle.hol_terms.specs.Nameless.{free, nameless}
use Rattle.hol_formulas.proofs.EquationTypes.{type_eq_itself}
use Rattle.hol_match.specs.Patterns.{is_apart}

own_apart : (v : List ℕ × TypeTree) → is_apart [] (free v) ≡ true
own_apart v = λ i. (or_right (not (bytes_eq v.0 v.0)) (type_eq v.1 v.1) (type_eq_itself v.1) i && true) && true

pub variable_apart : {E : Type 0} (r : Result Named E) (v : List ℕ × TypeTree) → IfOk r (λ t. t ≡ var v) → IfOk r (λ t. is_apart [] (nameless [] t) ≡ true)
variable_apart (Ok t) v is = ap (λ (u : Named). is_apart [] (nameless [] u)) is ∙ own_apart v
variable_apart (Err e) v is = is
