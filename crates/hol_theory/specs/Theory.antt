-- Theories: entries whose own items, in standing order, are a legal list on which they rest.
-- Source: fusion.ml, where types, constants and axioms are made one after the other; entries and their bases are this project's.
use Rattle.std.specs.Prelude.{◌≡◌, ℕ, true, List, [], ◌∷◌, cond, Option, Some, None}
use Rattle.std.specs.FinSet as set
use Rattle.hol_terms.specs.Nameless.{Nameless}
use Rattle.hol_kernel.specs.Item.{Item}
use Rattle.hol_kernel.specs.Items.{Items, item_set, Holds, IsSubset}
use Rattle.hol_kernel.specs.Legal.{IsLegal}
use Rattle.hol_kernel.specs.Sequent.{no_hyps, sequent_of}
use Rattle.hol_kernel.specs.Signature.{ItemKey, has_key}
use Rattle.hol_kernel.specs.Signature as item
use Rattle.hol_kernel.specs.Theorem.{Theorem}
use Rattle.hol_theory.specs.declared.key.Kind.TheVariants as key_kind
use Rattle.hol_theory.specs.Key.{KeyValue, theorem_key}
use Rattle.hol_theory.specs.Entry.{EntryValue, ATheorem, Entries, EachIsEntry, entry_at, entry_basis, own_item}

-- ---- the items of entries in standing order, each at its first place; lists of items have the newest first

abbrev pub with_item : List Item → Option Item → List Item
with_item items None = items
with_item items (Some x) = cond (set.contains (item_set items) x) items (x ∷ items)

-- the items after the entries, where `items` stand before them
abbrev pub items_after : List Item → Entries → List Item
items_after items [] = items
items_after items (e ∷ entries) = items_after (with_item items (own_item e.0 e.1)) entries

abbrev pub items_of : Entries → List Item
items_of entries = items_after [] entries

-- the same as a set
abbrev pub items_in : Entries → Items
items_in entries = item_set (items_of entries)

-- Each entry rests on items that stand before it, and on its own one; `items` stand before all of them.
abbrev pub RestsOn : List Item → Entries → Type 0
RestsOn items [] = Unit {0}
RestsOn items (e ∷ entries) =
    IsSubset (entry_basis e.1) (item_set (with_item items (own_item e.0 e.1))) × RestsOn (with_item items (own_item e.0 e.1)) entries

-- ---- names

-- the key of what an item makes under a name
abbrev pub entry_key : ItemKey → KeyValue
entry_key (item.type_key c) = record { kind = key_kind.Type; name = c }
entry_key (item.constant_key c) = record { kind = key_kind.Constant; name = c }
entry_key (item.axiom_key n) = record { kind = key_kind.Theorem; name = n }

-- The entry under the key has this own item.
abbrev pub HasOwnItem : Entries → KeyValue → Item → Type 0
HasOwnItem entries key x = (value : EntryValue) × (entry_at key entries ≡ Some value) × (own_item key value ≡ Some x)

-- Under each name that the item has, an entry stands whose own item it is.
abbrev pub IsNamedIn : Entries → Item → Type 0
IsNamedIn entries x = (k : ItemKey) → has_key x k ≡ true → HasOwnItem entries (entry_key k) x

-- Under the axiom's name stands a theorem that states it, without hypotheses.
pub record StatesAxiom (entries : Entries) (name : List ℕ) (p : Nameless) : Type 0 where
  pub th : Theorem
  pub stands : entry_at (theorem_key name) entries ≡ Some (ATheorem th)
  pub states : th.sequent ≡ sequent_of no_hyps p

-- ---- what every theory promises

-- Each is an entry; the items in standing order are a legal list; each entry rests on those that stand up to it; and under each name of an
-- item its entry stands, so that where no entry has a key, no item has the name.
pub record IsTheory (entries : Entries) : Type 0 where
  pub each : EachIsEntry entries
  pub legal : IsLegal (items_of entries)
  pub rests : RestsOn [] entries
  pub named : (x : Item) → Holds (items_in entries) x → IsNamedIn entries x
