-- What private functions ask of terms that they take apart.
use Rattle.hol_terms.specs.Named.{Named, var, constant, comb, abs}

abbrev pub IsApplication : Named → Type 0
IsApplication (var v) = ⊥
IsApplication (constant c s) = ⊥
IsApplication (comb f x) = Unit {0}
IsApplication (abs v b) = ⊥

abbrev pub IsAbstraction : Named → Type 0
IsAbstraction (var v) = ⊥
IsAbstraction (constant c s) = ⊥
IsAbstraction (comb f x) = ⊥
IsAbstraction (abs v b) = Unit {0}
