-- The names that a scope stands for, the innermost first.
use Rattle.std.specs.Prelude.{ℕ, List, [], ◌∷◌}
use Rattle.hol_infer.specs.declared.resolving.Names.{Names, Outermost, Inside'}

abbrev pub scope_names : Names → List (List ℕ)
scope_names Outermost = []
scope_names (Inside' x p outer) = x.now ∷ scope_names outer
