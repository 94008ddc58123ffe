-- The texts of a basis's items, as clients see them.
-- Source: this project.
use Rattle.std.specs.Prelude.{ℕ, List, ◌++◌, codes, map, IsSorted, IsPermutation}
use Rattle.hol_types.specs.Order.{name_cmp}
use Rattle.hol_kernel.specs.Item.{Item, declared_type, declared_constant, defined_constant, defined_type, declared_axiom}
use Rattle.hol_kernel.specs.Items.{Items, in_order}

abbrev pub item_text : Item → List ℕ
item_text (declared_axiom name p) = codes "axiom:" ++ name
item_text (declared_constant name a) = codes "const:" ++ name
item_text (defined_constant name r) = codes "def:" ++ name
item_text (declared_type name arity) = codes "type:" ++ name
item_text (defined_type name abs rep p) = codes "typedef:" ++ name

-- the texts of the items, each once, in the order of their bytes
pub record AreItemTexts (items : Items) (texts : List (List ℕ)) : Type 0 where
  pub each : IsPermutation (map item_text (in_order items)) texts
  pub sorted : IsSorted name_cmp texts
