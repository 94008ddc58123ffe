-- The names that stand: the prelude's (those that fusion.ml starts with, and those of bool.ml, class.ml and nums.ml), and those that items make.
use Rattle.std.specs.Prelude.{ℕ, Bool, false, ◌||◌, List, [], ◌∷◌, map, length, bytes_eq, Option, Some, None}
use Rattle.std.specs.List.{list_any}
use Rattle.std.specs.Option.{option_and_then}
use Rattle.hol_types.specs.Tree.{TypeTree, TyVar, TyApp, type_list}
use Rattle.hol_types.specs.Fun.{fun_type, fun_parts}
use Rattle.hol_terms.specs.Nameless.{nameless_type}
pub use Rattle.hol_subst.specs.TermTyvars.{type_names_in, term_tyvars}
use Rattle.hol_kernel.specs.Item.{Item, declared_type, declared_constant, defined_constant, defined_type, declared_axiom}
use Rattle.hol_kernel.specs.Items.{Items, in_order}
use Rattle.hol_formulas.specs.Constants.{prelude_types, prelude_constants, prelude_axioms, is_constructor, prelude_generic, is_instance_of, is_constant_at}

-- ---- what an item makes

-- the type that a type definition makes: the constructor over its type variables
abbrev pub new_type : List ℕ → List (List ℕ) → TypeTree
new_type c names = TyApp c (type_list (map TyVar names))

-- the constants of a type definition, to the new type and from it, where the predicate is on a type
abbrev pub bijections : List ℕ → List ℕ → TypeTree → Option (TypeTree × TypeTree) → List (List ℕ × TypeTree)
bijections abs rep new None = []
bijections abs rep new (Some parts) = (abs, fun_type parts.0 new) ∷ (rep, fun_type new parts.0) ∷ []

abbrev pub constant_of : List ℕ → Option TypeTree → List (List ℕ × TypeTree)
constant_of c None = []
constant_of c (Some a) = (c, a) ∷ []

-- the type constructors that an item makes, with their arities
abbrev pub item_types : Item → List (List ℕ × ℕ)
item_types (declared_type c n) = (c, n) ∷ []
item_types (declared_constant c a) = []
item_types (defined_constant c r) = []
item_types (defined_type c abs rep p) = (c, length (term_tyvars p)) ∷ []
item_types (declared_axiom n p) = []

-- the constants that an item makes, with their generic types
abbrev pub item_constants : Item → List (List ℕ × TypeTree)
item_constants (declared_type c n) = []
item_constants (declared_constant c a) = (c, a) ∷ []
item_constants (defined_constant c r) = constant_of c (nameless_type [] r)
item_constants (defined_type c abs rep p) = bijections abs rep (new_type c (term_tyvars p)) (option_and_then fun_parts (nameless_type [] p))
item_constants (declared_axiom n p) = []

-- ---- names

-- a name in its kind
pub data ItemKey : Type 0 where
  type_key : List ℕ → ItemKey
  constant_key : List ℕ → ItemKey
  axiom_key : List ℕ → ItemKey

abbrev pub key_name : ItemKey → List ℕ
key_name (type_key c) = c
key_name (constant_key c) = c
key_name (axiom_key n) = n

abbrev pub item_keys : Item → List ItemKey
item_keys (declared_type c n) = type_key c ∷ []
item_keys (declared_constant c a) = constant_key c ∷ []
item_keys (defined_constant c r) = constant_key c ∷ []
item_keys (defined_type c abs rep p) = type_key c ∷ constant_key abs ∷ constant_key rep ∷ []
item_keys (declared_axiom n p) = axiom_key n ∷ []

abbrev pub key_eq : ItemKey → ItemKey → Bool
key_eq (type_key c) (type_key d) = bytes_eq c d
key_eq (constant_key c) (constant_key d) = bytes_eq c d
key_eq (axiom_key m) (axiom_key n) = bytes_eq m n
key_eq (type_key c) (constant_key d) = false
key_eq (type_key c) (axiom_key n) = false
key_eq (constant_key c) (type_key d) = false
key_eq (constant_key c) (axiom_key n) = false
key_eq (axiom_key m) (type_key d) = false
key_eq (axiom_key m) (constant_key d) = false

-- the item has the name
abbrev pub has_key : Item → ItemKey → Bool
has_key x k = list_any (key_eq k) (item_keys x)

-- the prelude has the name
abbrev pub prelude_has : ItemKey → Bool
prelude_has (type_key c) = list_any (λ p. bytes_eq c p.0) prelude_types
prelude_has (constant_key c) = list_any (λ p. bytes_eq c p.0) prelude_constants
prelude_has (axiom_key n) = list_any (bytes_eq n) prelude_axioms

-- ---- the signature of the prelude and a set of items

abbrev pub makes_type : List ℕ → ℕ → Item → Bool
makes_type c n x = list_any (is_constructor c n) (item_types x)

-- c is a type constructor of arity n
abbrev pub has_arity : Items → List ℕ → ℕ → Bool
has_arity items c n = list_any (is_constructor c n) prelude_types || list_any (makes_type c n) (in_order items)

abbrev pub makes_constant : List ℕ → TypeTree → Item → Bool
makes_constant c a x = list_any (is_constant_at c a) (item_constants x)

-- c is a constant, and a an instance of its generic type
abbrev pub has_constant : Items → List ℕ → TypeTree → Bool
has_constant items c a = is_instance_of (prelude_generic c) a || list_any (makes_constant c a) (in_order items)
