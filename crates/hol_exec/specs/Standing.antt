-- Under which keys something stands, and the first keys of a command that refuse it.
-- Source: this project.
use Rattle.std.specs.Prelude.{◌||◌, ◌++◌, ℕ, List, [], ◌∷◌, Bool, false, not, cond, bytes_eq, Option, Some, None, is_some}
use Rattle.std.specs.List.{list_any}
use Rattle.hol_formulas.specs.Constants.{prelude_types, prelude_constants}
use Rattle.hol_prelude.specs.Statements.{prelude_statements}
use Rattle.hol_theory.specs.declared.key.Kind.{Kind}
use Rattle.hol_theory.specs.declared.key.Kind.TheVariants as key_kind
use Rattle.hol_theory.specs.Key.{KeyValue, key_eq}
use Rattle.hol_theory.specs.Entry.{EntryValue}
use Rattle.hol_exec.specs.ReadsValue.{Values}

-- the name is that of a type, a constant or a theorem of the prelude
abbrev pub in_prelude : Kind → List ℕ → Bool
in_prelude key_kind.Type name = list_any (λ p. bytes_eq name p.0) prelude_types
in_prelude key_kind.Constant name = list_any (λ p. bytes_eq name p.0) prelude_constants
in_prelude key_kind.Theorem name = list_any (λ p. bytes_eq name p.0) prelude_statements
in_prelude key_kind.Tac name = false

-- whether something stands under a key: an entry, this being its value, or what the prelude has
abbrev pub is_standing : KeyValue → Option EntryValue → Bool
is_standing key value = is_some value || in_prelude key.kind key.name

-- an identifier of a term or a type under whose key nothing stands is a variable, and not unknown, as a theorem is; what a name calls is told elsewhere (Callee)
abbrev pub is_unknown : Kind → Bool → Bool
is_unknown key_kind.Type standing = false
is_unknown key_kind.Constant standing = false
is_unknown key_kind.Theorem standing = not standing
is_unknown key_kind.Tac standing = false

-- the name of the first unknown theorem
abbrev pub first_unknown : Values → Option (List ℕ)
first_unknown [] = None
first_unknown ((key, value) ∷ more) = cond (is_unknown key.kind (is_standing key value)) (Some key.name) (first_unknown more)

-- the first of the keys that a command makes under which something stands, or which it makes twice; `before` are those that it makes before
abbrev pub first_taken : List KeyValue → Values → Option KeyValue
first_taken before [] = None
first_taken before ((key, value) ∷ more) =
    cond (is_standing key value || list_any (key_eq key) before) (Some key) (first_taken (before ++ key ∷ []) more)
