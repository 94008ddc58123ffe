-- What the code says of variables that are new to terms and to pieces that wait. Only its clauses speak of it.
use Rattle.std.specs.Prelude.{◌≡◌, ℕ, true, false, List, [], ◌∷◌, ◌++◌}
use Rattle.std.specs.FinSet as set
use Rattle.hol_types.specs.Tree.{TypeTree}
use Rattle.hol_terms.specs.Named.{Named}
use Rattle.hol_terms.specs.Nameless.{Nameless, nameless, base_of}
use Rattle.hol_terms.specs.Primes.{with_primes}
use Rattle.hol_terms.specs.Scoped.{binds}
use Rattle.hol_subst.specs.FreeName.{is_taken}
use Rattle.hol_subst.specs.Variant.{is_free_in}
use Rattle.hol_formulas.specs.Formula.{Abstraction}
use Rattle.hol_kernel.specs.Sequent.{Hyps}
use Rattle.hol_just.specs.Fresh.{fresh}
use Rattle.hol_just.specs.Leaving.{goal_terms}
use Rattle.hol_just.specs.Strip.{AvoidedValue, WaitingValue}

-- they have the same names
abbrev pub AreAlike : List Nameless → List Nameless → Type 0
AreAlike ns ms = (a : List ℕ) → is_taken ns a ≡ is_taken ms a

-- the same of what new names avoid
abbrev pub AvoidAlike : AvoidedValue → AvoidedValue → Type 0
AvoidAlike a b = AreAlike a.terms b.terms × (a.names ≡ b.names)

-- the name is the base with some primes
abbrev pub HasPrimes : List ℕ → List ℕ → Type 0
HasPrimes base name = (k : ℕ) × (name ≡ with_primes k base)

-- they have the same names and free variables
abbrev pub HaveSame : List Nameless → List Nameless → Type 0
HaveSame ns ms = AreAlike ns ms × ((v : List ℕ × TypeTree) → is_free_in ns v ≡ is_free_in ms v)

-- two of the variables differ in their names
abbrev pub DifferInNames : List (List ℕ × TypeTree) → Type 0
DifferInNames vs = (v w : List ℕ × TypeTree) → binds vs v ≡ true → binds vs w ≡ true → v.0 ≡ w.0 → v ≡ w

-- a variable that is not free in the terms is not free in an extra hypothesis
abbrev pub AreApart : List Nameless → Hyps → Type 0
AreApart names extra = (v : List ℕ × TypeTree) → is_free_in names v ≡ false → is_free_in (set.items extra) v ≡ false

-- what is said of the variable x
abbrev pub abstraction_of : List ℕ × TypeTree → Named → Abstraction
abstraction_of x p = record { base = base_of x.0; domain = x.1; body = nameless (x ∷ []) p }

-- the terms, the pieces p and then those of w, and the goal
abbrev pub terms_of : List Nameless → Nameless → WaitingValue → List Nameless
terms_of names p w = names ++ ((p ∷ w.pieces) ++ goal_terms w.goal)

-- v has the type of x and a new name: that of nothing in the terms, and of no constant where these are their names; and these names were tested for it
pub record IsFresh (names : List (List ℕ)) (avoid : List Nameless) (x v : List ℕ × TypeTree) (tested : List (List ℕ)) : Type 0 where
  pub is : fresh names avoid (base_of x.0) ≡ record { name = v.0; tested = tested }
  pub typed : v.1 ≡ x.1
  pub absent : is_free_in avoid v ≡ false

-- the same where the terms are those that are avoided, the pieces p and then those of w, and the goal
abbrev pub IsNewBy : AvoidedValue → Nameless → WaitingValue → List ℕ × TypeTree → List ℕ × TypeTree → List (List ℕ) → Type 0
IsNewBy avoided p w x v tested = IsFresh avoided.names (terms_of avoided.terms p w) x v tested
