-- The names of the constants among entries.
use Rattle.std.specs.Prelude.{ℕ, List, [], ◌∷◌, ◌++◌}
use Rattle.hol_theory.specs.declared.key.Kind.{Kind}
use Rattle.hol_theory.specs.declared.key.Kind.TheVariants as key_kind
use Rattle.hol_theory.specs.Entry.{Entries}

abbrev pub constant_name : Kind → List ℕ → List (List ℕ)
constant_name key_kind.Type name = []
constant_name key_kind.Constant name = name ∷ []
constant_name key_kind.Theorem name = []
constant_name key_kind.Tac name = []

-- in standing order
abbrev pub constant_names : Entries → List (List ℕ)
constant_names [] = []
constant_names (e ∷ entries) = constant_name e.0.kind e.0.name ++ constant_names entries
