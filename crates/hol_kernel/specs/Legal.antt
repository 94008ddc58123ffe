-- Legal lists of items, the newest first: each item meets its condition over the prelude and the items before it (fusion.ml's checks in new_type,
-- new_constant, new_basic_definition, new_basic_type_definition, new_axiom).
use Rattle.std.specs.Prelude.{◌≡◌, ◌≢◌, ℕ, true, false, IsTrue, List, [], ◌∷◌, Contains}
use Rattle.std.specs.List.Sorted.{IsStrictlySortedBy}
use Rattle.hol_types.specs.Tree.{TypeTree}
use Rattle.hol_types.specs.Fun.{fun_type}
use Rattle.hol_types.specs.Names.{tyvars}
use Rattle.hol_terms.specs.Nameless.{Nameless, app, free_occurrences}
use Rattle.hol_kernel.specs.Item.{Item, declared_type, declared_constant, defined_constant, defined_type, declared_axiom}
use Rattle.hol_kernel.specs.Items.{Items, item_cmp, Holds, item_set}
use Rattle.hol_kernel.specs.Sequent.{no_hyps}
use Rattle.hol_formulas.specs.Equation.{bool_type}
use Rattle.hol_kernel.specs.Signature.{ItemKey, has_key, prelude_has, term_tyvars}
use Rattle.hol_kernel.specs.Typing.{is_type, HasType}
use Rattle.hol_kernel.specs.Derivation.{Derives}

-- neither the prelude nor an item has the name
abbrev pub IsNew : Items → ItemKey → Type 0
IsNew earlier k = (prelude_has k ≡ false) × ((y : Item) → Holds earlier y → has_key y k ≡ false)

abbrev pub HasNewKeys : Items → Item → Type 0
HasNewKeys earlier x = (k : ItemKey) → has_key x k ≡ true → IsNew earlier k

-- no variable is free in the term
abbrev pub IsClosed : Nameless → Type 0
IsClosed t = free_occurrences t ≡ []

-- What a constant definition asks: a closed term, all of whose type variables occur in its type a.
pub record IsDefinable (earlier : Items) (r : Nameless) (a : TypeTree) : Type 0 where
  pub typed : HasType earlier r a
  pub closed : IsClosed r
  pub reflected : (n : List ℕ) → Contains (term_tyvars r) n → Contains (tyvars a) n

-- What a type definition asks: two different constants, and a closed predicate on a type s that is derived of some x.
pub record IsTypeDefinable (earlier : Items) (abs rep : List ℕ) (p x : Nameless) (s : TypeTree) : Type 0 where
  pub apart : abs ≢ rep
  pub typed : HasType earlier p (fun_type s bool_type)
  pub closed : IsClosed p
  pub inhabited : Derives earlier no_hyps (app p x)

-- what an item asks of the items before it, its names apart
abbrev pub IsSound : Items → Item → Type 0
IsSound earlier (declared_type c n) = Unit {0}
IsSound earlier (declared_constant c a) = IsTrue (is_type earlier a)
IsSound earlier (defined_constant c r) = (a : TypeTree) × IsDefinable earlier r a
IsSound earlier (defined_type c abs rep p) = (x : Nameless) × ((s : TypeTree) × IsTypeDefinable earlier abs rep p x s)
IsSound earlier (declared_axiom n p) = HasType earlier p bool_type

abbrev pub IsLegal : List Item → Type 0
IsLegal [] = Unit {0}
IsLegal (x ∷ earlier) = HasNewKeys (item_set earlier) x × IsSound (item_set earlier) x × IsLegal earlier

-- in some order the items are a legal list
abbrev pub IsLegalSet : Items → Type 0
IsLegalSet items = (order : List Item) × IsLegal order × (item_set order ≡ items)

-- What a basis keeps of the list that it stores: the set is legal, and the list has each item once, in the order of items.
pub record IsStorable (stored : List Item) : Type 0 where
  pub legal : IsLegalSet (item_set stored)
  pub ordered : IsStrictlySortedBy item_cmp stored
