-- The entries of what is declared and defined over a basis: each with the item that makes it, over the larger basis.
-- Source: fusion.ml, new_type, new_constant, new_axiom, new_basic_definition, new_basic_type_definition; entries are this project's.
use Rattle.std.specs.Prelude.{◌≡◌, ℕ, List, [], ◌∷◌, ◌++◌, map}
use Rattle.hol_types.specs.Tree.{TypeTree}
use Rattle.hol_terms.specs.Nameless.{Nameless}
use Rattle.hol_kernel.specs.Item.{Item, declared_type, declared_constant, defined_constant, defined_type}
use Rattle.hol_kernel.specs.Items.{Items, IsSubset}
use Rattle.hol_kernel.specs.Sequent.{no_hyps}
use Rattle.hol_kernel.specs.Signature.{item_types, item_constants}
use Rattle.hol_kernel.specs.Theorem.{Theorem, theorem_over}
use Rattle.hol_kernel.specs.Extends.{IsDeclareType, IsDeclareConst, IsDeclareAxiom, IsDefine, IsTypeDefine}
use Rattle.hol_theory.specs.Key.{KeyValue, type_key, constant_key, theorem_key}
use Rattle.hol_theory.specs.Entry.{EntryValue, AType, AConstant, ATheorem, Entries, entry_basis}

-- ---- what an item makes, as entries over a basis: type constructors, then constants

abbrev pub type_entry : Item → Items → List ℕ × ℕ → KeyValue × EntryValue
type_entry x basis made = (type_key made.0, AType made.1 x basis)

abbrev pub constant_entry : Item → Items → List ℕ × TypeTree → KeyValue × EntryValue
constant_entry x basis made = (constant_key made.0, AConstant made.1 x basis)

abbrev pub item_entries : Item → Items → Entries
item_entries x basis = map (type_entry x basis) (item_types x) ++ map (constant_entry x basis) (item_constants x)

-- ---- declarations

-- a type constructor of this arity
pub record IsNewType (basis : Items) (name : List ℕ) (arity : ℕ) (entry : KeyValue × EntryValue) : Type 0 where
  pub declared : IsDeclareType basis name arity (entry_basis entry.1)
  pub entry_is : entry ≡ (type_key name, AType arity (declared_type name arity) (entry_basis entry.1))

-- a constant of this generic type
pub record IsNewConstant (basis : Items) (name : List ℕ) (ty : TypeTree) (entry : KeyValue × EntryValue) : Type 0 where
  pub declared : IsDeclareConst basis name ty (entry_basis entry.1)
  pub entry_is : entry ≡ (constant_key name, AConstant ty (declared_constant name ty) (entry_basis entry.1))

-- an axiom
pub record IsNewAxiom (basis : Items) (name : List ℕ) (p : Nameless) (entry : KeyValue × EntryValue) : Type 0 where
  pub declared : IsDeclareAxiom basis name p (entry_basis entry.1)
  pub entry_is : entry ≡ (theorem_key name, ATheorem (theorem_over (entry_basis entry.1) no_hyps p))

-- ---- definitions

-- A constant that is defined: its entry, and its definition `|- c = r`, which rests on the same basis.
pub record IsNewDefinition (basis : Items) (name : List ℕ) (r : Nameless) (entries : Entries) (th : Theorem) : Type 0 where
  pub defined : IsDefine basis name r th.basis th
  pub entries_are : entries ≡ item_entries (defined_constant name r) th.basis

-- A type constructor that is defined, the constants to it and from it, and what these satisfy, by a theorem `|- P x`.
pub record IsNewTypeDefinition (basis : Items) (name abs rep first second : List ℕ) (member : Theorem) (entries : Entries) : Type 0 where
  pub larger : Items
  pub abs_rep : Theorem
  pub rep_abs : Theorem
  pub defined : IsTypeDefine basis name abs rep member larger abs_rep rep_abs
  pub entries_are : entries ≡ item_entries (defined_type name abs rep defined.predicate) larger
      ++ (theorem_key first, ATheorem abs_rep) ∷ (theorem_key second, ATheorem rep_abs) ∷ []

-- each entry rests on these items
abbrev pub EachWithin : Items → Entries → Type 0
EachWithin items [] = Unit {0}
EachWithin items (e ∷ entries) = IsSubset (entry_basis e.1) items × EachWithin items entries
