-- The theorems of the prelude by their names, and the basic rewrites.
-- Source: HOL Light's bool.ml, class.ml, nums.ml and theorems.ml, whose theorems have these names; the choice of basic rewrites is this project's.
use Rattle.std.specs.Prelude.{ℕ, List, [], ◌∷◌, cond, map, bytes_eq, codes, Option, Some, None}
use Rattle.std.specs.Option.{option_map}
use Rattle.hol_terms.specs.Named.{Named}
use Rattle.hol_formulas.specs.Making.{mk_truth}
use Rattle.hol_formulas.specs.Prelude.{postulated}
use Rattle.hol_formulas.specs.declared.postulate.Postulate.TheVariants.{TDef, AndDef, ImpDef, ForallDef, ExistsDef, OrDef, FDef, NotDef, ExistsUniqueDef, EtaAx, SelectAx, InfinityAx}
use Rattle.hol_kernel.specs.Theorem.{Theorem}
use Rattle.hol_clauses.specs.Statements.{stated, one_one, onto, refl_clause, eq_clauses, not_clauses_weak, and_clauses, or_clauses, imp_clauses}

-- each theorem's name and statement
abbrev pub prelude_statements : List (List ℕ × Named)
prelude_statements =
    (codes "T_DEF", postulated TDef)
    ∷ (codes "AND_DEF", postulated AndDef)
    ∷ (codes "IMP_DEF", postulated ImpDef)
    ∷ (codes "FORALL_DEF", postulated ForallDef)
    ∷ (codes "EXISTS_DEF", postulated ExistsDef)
    ∷ (codes "OR_DEF", postulated OrDef)
    ∷ (codes "F_DEF", postulated FDef)
    ∷ (codes "NOT_DEF", postulated NotDef)
    ∷ (codes "EXISTS_UNIQUE_DEF", postulated ExistsUniqueDef)
    ∷ (codes "ETA_AX", postulated EtaAx)
    ∷ (codes "SELECT_AX", postulated SelectAx)
    ∷ (codes "ONE_ONE", one_one)
    ∷ (codes "ONTO", onto)
    ∷ (codes "INFINITY_AX", postulated InfinityAx)
    ∷ (codes "TRUTH", mk_truth)
    ∷ (codes "REFL_CLAUSE", refl_clause)
    ∷ (codes "EQ_CLAUSES", eq_clauses)
    ∷ (codes "NOT_CLAUSES_WEAK", not_clauses_weak)
    ∷ (codes "AND_CLAUSES", and_clauses)
    ∷ (codes "OR_CLAUSES", or_clauses)
    ∷ (codes "IMP_CLAUSES", imp_clauses)
    ∷ []

abbrev pub statement_in : List (List ℕ × Named) → List ℕ → Option Named
statement_in [] name = None
statement_in (p ∷ more) name = cond (bytes_eq name p.0) (Some p.1) (statement_in more name)

-- the theorem of the name
abbrev pub prelude_theorem : List ℕ → Option Theorem
prelude_theorem name = option_map stated (statement_in prelude_statements name)

-- the basic rewrites, in their order
abbrev pub basic_rewrites : List Theorem
basic_rewrites = map stated (refl_clause ∷ eq_clauses ∷ not_clauses_weak ∷ and_clauses ∷ or_clauses ∷ imp_clauses ∷ [])
