-- Keys of entries: a kind and a name. Types, constants, theorems and functions on goals have their names apart.
-- Source: this project.
use Rattle.std.specs.Prelude.{ℕ, List, ◌++◌, codes, Bool, ◌&&◌, ◌==◌, bytes_eq}
use Rattle.hol_theory.specs.declared.key.Kind.{Kind}
use Rattle.hol_theory.specs.declared.key.Kind.TheVariants as key_kind

pub record KeyValue : Type 0 where
  pub kind : Kind
  pub name : List ℕ

abbrev pub type_key : List ℕ → KeyValue
type_key name = record { kind = key_kind.Type; name = name }

abbrev pub constant_key : List ℕ → KeyValue
constant_key name = record { kind = key_kind.Constant; name = name }

abbrev pub theorem_key : List ℕ → KeyValue
theorem_key name = record { kind = key_kind.Theorem; name = name }

abbrev pub tac_key : List ℕ → KeyValue
tac_key name = record { kind = key_kind.Tac; name = name }

abbrev pub kind_rank : Kind → ℕ
kind_rank key_kind.Type = 0
kind_rank key_kind.Constant = 1
kind_rank key_kind.Theorem = 2
kind_rank key_kind.Tac = 3

-- whether two keys are one
abbrev pub key_eq : KeyValue → KeyValue → Bool
key_eq a b = (kind_rank a.kind == kind_rank b.kind) && bytes_eq a.name b.name

-- ---- keys as clients see them: `type:N`, `const:N`, `thm:N`, `tac:N`

abbrev pub kind_prefix : Kind → List ℕ
kind_prefix key_kind.Type = codes "type:"
kind_prefix key_kind.Constant = codes "const:"
kind_prefix key_kind.Theorem = codes "thm:"
kind_prefix key_kind.Tac = codes "tac:"

abbrev pub key_text : KeyValue → List ℕ
key_text key = kind_prefix key.kind ++ key.name
