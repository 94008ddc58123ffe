-- That each name stands once in its kind. By a law of definitions.rt it is so of every legal set of items.
use Rattle.std.specs.Prelude.{◌≡◌, ℕ, ◌⊎◌, List, Contains}
use Rattle.hol_types.specs.Tree.{TypeTree}
use Rattle.hol_formulas.specs.Constants.{prelude_types, prelude_constants, prelude_axioms}
use Rattle.hol_kernel.specs.Item.{Item, declared_type, declared_constant, defined_constant, defined_type, declared_axiom}
use Rattle.hol_kernel.specs.Items.{Items, Holds}

-- the item makes a type constructor of this name, a constant, an axiom
abbrev pub MakesType : Item → List ℕ → Type 0
MakesType (declared_type d n) c = c ≡ d
MakesType (declared_constant d a) c = ⊥
MakesType (defined_constant d r) c = ⊥
MakesType (defined_type d abs rep p) c = c ≡ d
MakesType (declared_axiom n p) c = ⊥

abbrev pub MakesConstant : Item → List ℕ → Type 0
MakesConstant (declared_type d n) c = ⊥
MakesConstant (declared_constant d a) c = c ≡ d
MakesConstant (defined_constant d r) c = c ≡ d
MakesConstant (defined_type d abs rep p) c = (c ≡ abs) ⊎ (c ≡ rep)
MakesConstant (declared_axiom n p) c = ⊥

abbrev pub MakesAxiom : Item → List ℕ → Type 0
MakesAxiom (declared_type d n) m = ⊥
MakesAxiom (declared_constant d a) m = ⊥
MakesAxiom (defined_constant d r) m = ⊥
MakesAxiom (defined_type d abs rep p) m = ⊥
MakesAxiom (declared_axiom n p) m = m ≡ n

-- Items that make one name in one kind are one item, and none makes a name of the prelude.
pub record NamesStandOnce (items : Items) : Type 0 where
  pub types : (x y : Item) (c : List ℕ) → Holds items x → Holds items y → MakesType x c → MakesType y c → x ≡ y
  pub constants : (x y : Item) (c : List ℕ) → Holds items x → Holds items y → MakesConstant x c → MakesConstant y c → x ≡ y
  pub axioms : (x y : Item) (n : List ℕ) → Holds items x → Holds items y → MakesAxiom x n → MakesAxiom y n → x ≡ y
  pub no_type_again : (x : Item) (c : List ℕ) (n : ℕ) → Holds items x → MakesType x c → Contains prelude_types (c, n) → ⊥
  pub no_constant_again : (x : Item) (c : List ℕ) (a : TypeTree) → Holds items x → MakesConstant x c → Contains prelude_constants (c, a) → ⊥
  pub no_axiom_again : (x : Item) (n : List ℕ) → Holds items x → MakesAxiom x n → Contains prelude_axioms n → ⊥
