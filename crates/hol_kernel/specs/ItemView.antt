-- The item that a node of the program stands for.
use Rattle.std.specs.Prelude.{◌≡◌, []}
use Rattle.hol_terms.specs.Nameless.{nameless}
use Rattle.hol_kernel.specs.Item.{Item, declared_type, declared_constant, defined_constant, defined_type, declared_axiom}
use Rattle.hol_kernel.specs.Signature.{term_tyvars}
use Rattle.hol_kernel.specs.declared.item.ItemNode.{ItemNode}
use Rattle.hol_kernel.specs.declared.item.ItemNode.TheVariants as node

abbrev pub item_of : ItemNode → Item
item_of (node.DeclaredType name arity) = declared_type name arity
item_of (node.DeclaredConstant name ty) = declared_constant name ty
item_of (node.DefinedConstant name term) = defined_constant name (nameless [] term)
item_of (node.DefinedType name abs rep predicate parameters) = defined_type name abs rep (nameless [] predicate)
item_of (node.Axiom name term) = declared_axiom name (nameless [] term)

-- a type definition keeps the type variables of its predicate
abbrev pub HasParameters : ItemNode → Type 0
HasParameters (node.DeclaredType name arity) = Unit {0}
HasParameters (node.DeclaredConstant name ty) = Unit {0}
HasParameters (node.DefinedConstant name term) = Unit {0}
HasParameters (node.DefinedType name abs rep predicate parameters) = parameters.items ≡ term_tyvars (nameless [] predicate)
HasParameters (node.Axiom name term) = Unit {0}
