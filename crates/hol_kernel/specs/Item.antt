-- Items: what is declared, defined and assumed beyond the prelude (fusion.ml: new_type, new_constant, new_basic_definition,
-- new_basic_type_definition, new_axiom). Items are equal where their terms are, base names included.
use Rattle.std.specs.Prelude.{◌≡◌, ℕ, ◌⊎◌, List, refl}
use Rattle.std.proofs.Common.{inl, inr}
use Rattle.std.specs.Coded.{Coded, code_by, coded_ℕ, coded×, coded⊎}
use Rattle.hol_types.specs.Tree.{TypeTree}
use Rattle.hol_types.specs.Code.{coded_name, coded_type}
use Rattle.hol_terms.specs.Nameless.{Nameless}
use Rattle.hol_terms.specs.Code.{coded_nameless}

pub data Item : Type 0 where
  -- a type constructor with its arity
  declared_type : List ℕ → ℕ → Item
  -- a constant with its generic type
  declared_constant : List ℕ → TypeTree → Item
  -- a constant and the term that it equals
  defined_constant : List ℕ → Nameless → Item
  -- a type constructor, the constants abs and rep to and from it, and the predicate of its members
  defined_type : List ℕ → List ℕ → List ℕ → Nameless → Item
  -- an axiom of this name
  declared_axiom : List ℕ → Nameless → Item

-- What an item is stored as. Axioms come first, then declared constants, defined ones, declared types, defined ones; then names by bytes.
abbrev pub ItemParts : Type 0
ItemParts =
    (List ℕ × Nameless) ⊎ ((List ℕ × TypeTree) ⊎ ((List ℕ × Nameless) ⊎ ((List ℕ × ℕ) ⊎ (List ℕ × (List ℕ × (List ℕ × Nameless))))))

abbrev pub item_to : Item → ItemParts
item_to (declared_axiom n p) = inl (n, p)
item_to (declared_constant c a) = inr (inl (c, a))
item_to (defined_constant c r) = inr (inr (inl (c, r)))
item_to (declared_type c n) = inr (inr (inr (inl (c, n))))
item_to (defined_type c abs rep p) = inr (inr (inr (inr (c, (abs, (rep, p))))))

abbrev pub item_from : ItemParts → Item
item_from (inl v) = declared_axiom v.0 v.1
item_from (inr (inl v)) = declared_constant v.0 v.1
item_from (inr (inr (inl v))) = defined_constant v.0 v.1
item_from (inr (inr (inr (inl v)))) = declared_type v.0 v.1
item_from (inr (inr (inr (inr v)))) = defined_type v.0 v.1.0 v.1.1.0 v.1.1.1

pub item_back : (x : Item) → item_from (item_to x) ≡ x
item_back (declared_type c n) = refl
item_back (declared_constant c a) = refl
item_back (defined_constant c r) = refl
item_back (defined_type c abs rep p) = refl
item_back (declared_axiom n p) = refl

abbrev pub item_code : Coded Item
item_code =
    code_by ItemParts
    (coded⊎ (coded× coded_name coded_nameless)
    (coded⊎ (coded× coded_name coded_type)
    (coded⊎ (coded× coded_name coded_nameless)
    (coded⊎ (coded× coded_name coded_ℕ) (coded× coded_name (coded× coded_name (coded× coded_name coded_nameless)))))))
    item_to item_from item_back
