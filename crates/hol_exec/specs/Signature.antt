-- The constants and types that stand for a command's readings: those of the prelude, and those of the entries that it cites.
-- Source: this project.
use Rattle.std.specs.Prelude.{ℕ, List, [], ◌∷◌, ◌++◌, Option, Some, None}
use Rattle.hol_types.specs.Tree.{TypeTree}
use Rattle.hol_formulas.specs.Constants.{prelude_types, prelude_constants}
use Rattle.hol_resolve.specs.Signature.{SignatureValue}
use Rattle.hol_theory.specs.Key.{KeyValue}
use Rattle.hol_theory.specs.Entry.{EntryValue, AType, AConstant, ATheorem, ATac}
use Rattle.hol_exec.specs.ReadsValue.{Values}

-- what stands under a key is this for readings: a theorem is no constant and no type, nor is an expression
abbrev pub value_constants : KeyValue → Option EntryValue → List (List ℕ × TypeTree)
value_constants key None = []
value_constants key (Some (AType arity item basis)) = []
value_constants key (Some (AConstant ty item basis)) = (key.name, ty) ∷ []
value_constants key (Some (ATheorem th)) = []
value_constants key (Some (ATac e bases basis)) = []

abbrev pub value_types : KeyValue → Option EntryValue → List (List ℕ × ℕ)
value_types key None = []
value_types key (Some (AType arity item basis)) = (key.name, arity) ∷ []
value_types key (Some (AConstant ty item basis)) = []
value_types key (Some (ATheorem th)) = []
value_types key (Some (ATac e bases basis)) = []

abbrev pub cited_constants : Values → List (List ℕ × TypeTree)
cited_constants [] = []
cited_constants ((key, value) ∷ more) = value_constants key value ++ cited_constants more

abbrev pub cited_types : Values → List (List ℕ × ℕ)
cited_types [] = []
cited_types ((key, value) ∷ more) = value_types key value ++ cited_types more

abbrev pub signature_of : Values → SignatureValue
signature_of cited = record { constants = prelude_constants ++ cited_constants cited; types = prelude_types ++ cited_types cited }
