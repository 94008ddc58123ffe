-- The theorems of the prelude as a value: each with its name.
use Rattle.std.specs.Prelude.{ℕ, List, [], ◌∷◌, cond, map, bytes_eq, Option, Some, None}
use Rattle.std.specs.Coded.{Coded, coded×, coded_ℕ, coded_list}
use Rattle.hol_terms.specs.Named.{Named}
use Rattle.hol_kernel.specs.Theorem.{Theorem, theorem_code}
use Rattle.hol_clauses.specs.Statements.{stated}
use Rattle.hol_prelude.specs.Statements.{prelude_statements}

abbrev pub named_theorems : List (List ℕ × Named) → List (List ℕ × Theorem)
named_theorems ps = map (λ p. (p.0, stated p.1)) ps

abbrev pub prelude_theorems : List (List ℕ × Theorem)
prelude_theorems = named_theorems prelude_statements

-- the theorem of the name in such a list
abbrev pub theorem_in : List (List ℕ × Theorem) → List ℕ → Option Theorem
theorem_in [] name = None
theorem_in (e ∷ more) name = cond (bytes_eq name e.0) (Some e.1) (theorem_in more name)

abbrev pub theorems_code : Coded (List (List ℕ × Theorem))
theorems_code = coded_list (coded× (coded_list coded_ℕ) theorem_code)
