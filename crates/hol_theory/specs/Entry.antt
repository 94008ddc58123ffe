-- Entries: what a theory has made, each under its key, in standing order.
-- Source: this project; items are those of fusion.ml.
use Rattle.std.specs.Prelude.{◌≡◌, ℕ, true, List, [], ◌∷◌, cond, Option, Some, None}
use Rattle.std.specs.FinSet as set
use Rattle.std.specs.List.{Contains, find}
use Rattle.std.specs.Map.{lookup}
use Rattle.hol_types.specs.Tree.{TypeTree}
use Rattle.hol_kernel.specs.Item.{Item, declared_axiom}
use Rattle.hol_kernel.specs.Items.{Items, Holds, in_order}
use Rattle.hol_kernel.specs.Legal.{IsLegalSet}
use Rattle.hol_kernel.specs.Sequent.{no_hyps}
use Rattle.hol_kernel.specs.Signature.{ItemKey, has_key, item_types, item_constants}
use Rattle.hol_kernel.specs.Theorem.{Theorem, IsTheorem}
use Rattle.hol_combine.specs.ExprValue.{ExprValue}
use Rattle.hol_combine.specs.Suits.{suits_expr}
use Rattle.hol_theory.specs.declared.key.Kind.TheVariants as key_kind
use Rattle.hol_theory.specs.Key.{KeyValue, key_eq}

-- what stands under a key
pub data EntryValue : Type 0 where
  -- a type constructor: its arity, the item that makes it, and its basis
  AType : ℕ → Item → Items → EntryValue
  -- a constant: its generic type, the item that makes it, and its basis
  AConstant : TypeTree → Item → Items → EntryValue
  -- a theorem, with its basis
  ATheorem : Theorem → EntryValue
  -- an expression of functions on goals that has a name; what each theorem that is written in it rests on by itself, in text order; and its basis
  ATac : ExprValue → List Items → Items → EntryValue

abbrev pub Entries : Type 0
Entries = List (KeyValue × EntryValue)

-- what stands under the key
abbrev pub entry_at : KeyValue → Entries → Option EntryValue
entry_at key entries = lookup (key_eq key) entries

-- the basis of an entry
abbrev pub entry_basis : EntryValue → Items
entry_basis (AType arity item basis) = basis
entry_basis (AConstant ty item basis) = basis
entry_basis (ATheorem th) = th.basis
entry_basis (ATac e bases basis) = basis

-- the item of a basis that has the name
abbrev pub item_at : ItemKey → Items → Option Item
item_at k basis = find (λ x. has_key x k) (in_order basis)

-- the axiom of an entry's name that states what the entry states
abbrev pub stated_axiom : KeyValue → Theorem → Item
stated_axiom key th = declared_axiom key.name th.sequent.concl

-- the own item of an entry: of a type or a constant the one that makes it, and of a theorem the axiom of its name that states the same, where it rests on that;
-- an expression has none
abbrev pub own_item : KeyValue → EntryValue → Option Item
own_item key (AType arity item basis) = Some item
own_item key (AConstant ty item basis) = Some item
own_item key (ATheorem th) = cond (set.contains th.basis (stated_axiom key th)) (Some (stated_axiom key th)) None
own_item key (ATac e bases basis) = None

-- ---- what an entry is

-- A type constructor as an entry: it stands under a type's key; its item, which its basis has, makes it at its arity; and its basis is legal.
pub record IsTypeEntry (key : KeyValue) (arity : ℕ) (item : Item) (basis : Items) : Type 0 where
  pub under : key.kind ≡ key_kind.Type
  pub makes : Contains (item_types item) (key.name, arity)
  pub own : Holds basis item
  pub legal : IsLegalSet basis

-- A constant as an entry: it stands under a constant's key; its item, which its basis has, makes it at its generic type; and its basis is
-- legal.
pub record IsConstantEntry (key : KeyValue) (ty : TypeTree) (item : Item) (basis : Items) : Type 0 where
  pub under : key.kind ≡ key_kind.Constant
  pub makes : Contains (item_constants item) (key.name, ty)
  pub own : Holds basis item
  pub legal : IsLegalSet basis

-- A theorem as an entry: it has a derivation over its basis, which is legal; it stands under a theorem's key; and it has no hypotheses, so
-- that `|- p` says all of it.
pub record IsTheoremEntry (key : KeyValue) (th : Theorem) : Type 0 where
  pub theorem : IsTheorem th
  pub under : key.kind ≡ key_kind.Theorem
  pub without_hypotheses : th.sequent.hyps ≡ no_hyps

-- An expression of functions on goals as an entry: it stands under the key of one; and its basis, which is legal, suits all that is written in it.
pub record IsTacEntry (key : KeyValue) (e : ExprValue) (basis : Items) : Type 0 where
  pub under : key.kind ≡ key_kind.Tac
  pub suits : suits_expr e basis ≡ true
  pub legal : IsLegalSet basis

abbrev pub IsEntry : KeyValue → EntryValue → Type 0
IsEntry key (AType arity item basis) = IsTypeEntry key arity item basis
IsEntry key (AConstant ty item basis) = IsConstantEntry key ty item basis
IsEntry key (ATheorem th) = IsTheoremEntry key th
IsEntry key (ATac e bases basis) = IsTacEntry key e basis

abbrev pub EachIsEntry : Entries → Type 0
EachIsEntry [] = Unit {0}
EachIsEntry (e ∷ entries) = IsEntry e.0 e.1 × EachIsEntry entries
