-- Terms for variables, as INST takes them: with names, and without.
use Rattle.std.specs.Prelude.{ℕ, List, [], map}
use Rattle.hol_types.specs.Tree.{TypeTree}
use Rattle.hol_terms.specs.Named.{Named, var}
use Rattle.hol_terms.specs.Nameless.{Nameless, nameless}

abbrev pub with_variables : List (Named × (List ℕ × TypeTree)) → List (Named × Named)
with_variables pairs = map (λ p. (p.0, var p.1)) pairs

abbrev pub without_names : List (Named × (List ℕ × TypeTree)) → List (Nameless × (List ℕ × TypeTree))
without_names pairs = map (λ p. (nameless [] p.0, p.1)) pairs
