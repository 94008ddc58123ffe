-- What declarations and definitions give: a larger basis, and the theorems that the new item says (fusion.ml, new_type, new_constant,
-- new_axiom, new_basic_definition, new_basic_type_definition).
use Rattle.std.specs.Prelude.{◌≡◌, ◌≢◌, ℕ, true, List}
use Rattle.std.specs.FinSet as set
use Rattle.hol_types.specs.Tree.{TypeTree}
use Rattle.hol_types.specs.Fun.{fun_type}
use Rattle.hol_terms.specs.Nameless.{Nameless, fixed, app}
use Rattle.hol_kernel.specs.Item.{Item, declared_type, declared_constant, defined_constant, defined_type, declared_axiom}
use Rattle.hol_kernel.specs.Items.{Items, Holds}
use Rattle.hol_kernel.specs.Sequent.{no_hyps}
use Rattle.hol_formulas.specs.Equation.{bool_type, equation}
use Rattle.hol_kernel.specs.Signature.{ItemKey, has_key, term_tyvars, new_type}
use Rattle.hol_kernel.specs.Typing.{HasType}
use Rattle.hol_kernel.specs.Legal.{HasNewKeys, IsSound, IsClosed, IsDefinable}
use Rattle.hol_kernel.specs.Bijections.{abs_rep, rep_abs}
use Rattle.hol_kernel.specs.Theorem.{Theorem, theorem_over}

-- the basis with one item more, whose names are new and which meets its condition
abbrev pub Extends : Items → Item → Items → Type 0
Extends basis x more = HasNewKeys basis x × IsSound basis x × (more ≡ set.insert basis x)

abbrev pub IsDeclareType : Items → List ℕ → ℕ → Items → Type 0
IsDeclareType basis c n more = Extends basis (declared_type c n) more

abbrev pub IsDeclareConst : Items → List ℕ → TypeTree → Items → Type 0
IsDeclareConst basis c a more = Extends basis (declared_constant c a) more

abbrev pub IsDeclareAxiom : Items → List ℕ → Nameless → Items → Type 0
IsDeclareAxiom basis n p more = Extends basis (declared_axiom n p) more

-- the axiom of the name
abbrev pub IsAxiomOf : Items → List ℕ → Theorem → Type 0
IsAxiomOf basis n th = (p : Nameless) × Holds basis (declared_axiom n p) × (th ≡ theorem_over basis no_hyps p)

-- A constant's definition: the larger basis, and |- c = r over it.
pub record IsDefine (basis : Items) (c : List ℕ) (r : Nameless) (more : Items) (th : Theorem) : Type 0 where
  pub of_type : TypeTree
  pub new : HasNewKeys basis (defined_constant c r)
  pub definable : IsDefinable basis r of_type
  pub larger : more ≡ set.insert basis (defined_constant c r)
  pub gives : th ≡ theorem_over more no_hyps (equation of_type (fixed c of_type) r)

-- A type definition by a theorem |- P x without hypotheses, P closed: the larger basis, |- abs (rep a) = a and |- P r = (rep (abs r) = r).
pub record IsTypeDefine (basis : Items) (c abs rep : List ℕ) (member : Theorem) (more : Items) (first second : Theorem) : Type 0 where
  pub predicate : Nameless
  pub element : Nameless
  pub old : TypeTree
  pub unconditional : member.sequent.hyps ≡ no_hyps
  pub is_member : member.sequent.concl ≡ app predicate element
  pub new : HasNewKeys basis (defined_type c abs rep predicate)
  pub apart : abs ≢ rep
  pub typed : HasType basis predicate (fun_type old bool_type)
  pub closed : IsClosed predicate
  pub larger : more ≡ set.insert basis (defined_type c abs rep predicate)
  pub gives_first : first ≡ theorem_over more no_hyps (abs_rep abs rep old (new_type c (term_tyvars predicate)))
  pub gives_second : second ≡ theorem_over more no_hyps (rep_abs abs rep predicate old (new_type c (term_tyvars predicate)))

-- ---- clashes

-- the name is that of two different items, one of each set
pub record ClashesAt (a b : Items) (k : ItemKey) : Type 0 where
  pub first : Item
  pub second : Item
  pub in_first : Holds a first
  pub in_second : Holds b second
  pub name_of_first : has_key first k ≡ true
  pub name_of_second : has_key second k ≡ true
  pub differ : first ≢ second

-- two items, one of each set, that have one name in its kind are the same
abbrev pub Agree : Items → Items → Type 0
Agree a b = (x y : Item) (k : ItemKey) → Holds a x → Holds b y → has_key x k ≡ true → has_key y k ≡ true → x ≡ y
