-- What a command's expression is resolved with: the theorems that it cites, and the basis of all that is resolved.
-- Source: this project.
use Rattle.std.specs.Prelude.{ℕ, List, [], ◌∷◌, ◌++◌, Bool, false, cond, Option, Some, None}
use Rattle.std.specs.List.{list_any}
use Rattle.std.specs.FinSet as set
use Rattle.hol_kernel.specs.Items.{Items, no_items}
use Rattle.hol_kernel.specs.Theorem.{Theorem}
use Rattle.hol_prelude.specs.Statements.{prelude_theorem}
use Rattle.hol_resolve.specs.Forward.{CitedValue}
use Rattle.hol_resolve.specs.Readings as quoting
use Rattle.hol_resolve.specs.Readings.{QuotedValue, ATerm, ReadingsValue}
use Rattle.hol_theory.specs.declared.key.Kind.{Kind}
use Rattle.hol_theory.specs.declared.key.Kind.TheVariants as key_kind
use Rattle.hol_theory.specs.Key.{KeyValue}
use Rattle.hol_theory.specs.Entry.{EntryValue, AType, AConstant, ATheorem, ATac}
use Rattle.hol_exec.specs.Occurring.{constant_occurs}
use Rattle.hol_exec.specs.ReadsValue.{Values}

-- ---- theorems that are cited: what stands under the key, else the prelude's theorem of the name

abbrev pub prelude_theorem_at : Kind → List ℕ → Option Theorem
prelude_theorem_at key_kind.Type name = None
prelude_theorem_at key_kind.Constant name = None
prelude_theorem_at key_kind.Theorem name = prelude_theorem name
prelude_theorem_at key_kind.Tac name = None

abbrev pub theorem_at : KeyValue → Option EntryValue → Option Theorem
theorem_at key None = prelude_theorem_at key.kind key.name
theorem_at key (Some (AType arity item basis)) = None
theorem_at key (Some (AConstant ty item basis)) = None
theorem_at key (Some (ATheorem th)) = Some th
theorem_at key (Some (ATac e bases basis)) = None

abbrev pub named_theorem : List ℕ → Option Theorem → CitedValue
named_theorem name None = []
named_theorem name (Some th) = (name, th) ∷ []

abbrev pub cited_theorems : Values → CitedValue
cited_theorems [] = []
cited_theorems ((key, value) ∷ more) = named_theorem key.name (theorem_at key value) ++ cited_theorems more

-- the theorem that a command cites which cites nothing else
abbrev pub cited_theorem : Values → Option Theorem
cited_theorem [] = None
cited_theorem ((key, value) ∷ more) = theorem_at key value

-- ---- bases

abbrev pub occurs_in_quoted : List ℕ → QuotedValue → Bool
occurs_in_quoted name (ATerm p) = constant_occurs name p
occurs_in_quoted name (quoting.AType a) = false

-- a constant of the name occurs in a reading
abbrev pub occurs_in : List ℕ → ReadingsValue → Bool
occurs_in name readings = list_any (λ r. occurs_in_quoted name r.1) readings

-- What stands under a key that is cited adds its basis: a theorem; an expression that is called; a type, since a constructor that is written stands for itself; a
-- constant only where it occurs in a reading, since its name may be that of a bound variable.
abbrev pub with_value : ReadingsValue → Items → KeyValue → Option EntryValue → Items
with_value readings items key None = items
with_value readings items key (Some (AType arity item basis)) = set.union items basis
with_value readings items key (Some (AConstant ty item basis)) = cond (occurs_in key.name readings) (set.union items basis) items
with_value readings items key (Some (ATheorem th)) = set.union items th.basis
with_value readings items key (Some (ATac e bases basis)) = set.union items basis

abbrev pub with_values : ReadingsValue → Items → Values → Items
with_values readings items [] = items
with_values readings items ((key, value) ∷ more) = with_values readings (with_value readings items key value) more

-- the union of the bases of all that a command resolves: of the theorems that it cites, of the expressions that it calls, and of the constants and types in its readings
abbrev pub resolved_basis : Values → ReadingsValue → Items
resolved_basis cited readings = with_values readings no_items cited
