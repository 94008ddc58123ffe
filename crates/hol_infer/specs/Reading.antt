-- The reading of a term: the principal typing, with the types that it leaves open named `?0`, `?1` and so on as they occur.
-- Source of the order: HOL Light's preterm.ml names open types as it meets them; here an application gives its function first, an
-- abstraction its bound variable's type and then its body, a variable or constant its type from left to right.
use Rattle.std.specs.Prelude.{◌≡◌, ◌<◌, ◌+◌, ◌⊎◌, ℕ, List, [], ◌∷◌, ◌++◌}
use Rattle.hol_types.specs.Names.{type_names}
use Rattle.hol_terms.specs.Nameless.{Nameless, free, bound, fixed, app, lam}
use Rattle.hol_terms.specs.Size.{term_size}
use Rattle.hol_typing.specs.Raw.{RawTree}
use Rattle.hol_typing.specs.Typing.{open_name, IsOpen, IsPrincipal}

-- the type variables as they occur, each as often as it does
abbrev pub occurring_tyvars : Nameless → List (List ℕ)
occurring_tyvars (free v) = type_names v.1
occurring_tyvars (bound i) = []
occurring_tyvars (fixed c s) = type_names s
occurring_tyvars (app f x) = occurring_tyvars f ++ occurring_tyvars x
occurring_tyvars (lam a s b) = type_names s ++ occurring_tyvars b

-- Where `?0` up to the n-th have occurred, each name that comes is no open one, or one of these, or the next. In the end there are m.
abbrev pub ComeInOrder : ℕ → List (List ℕ) → ℕ → Type 0
ComeInOrder n [] m = n ≡ m
ComeInOrder n (a ∷ names) m =
    ((IsOpen a → ⊥) × ComeInOrder n names m)
    ⊎ (((k : ℕ) × (k < n) × (a ≡ open_name k) × ComeInOrder n names m)
    ⊎ ((a ≡ open_name n) × ComeInOrder (n + 1) names m))

pub record IsReading (raw : RawTree) (p : Nameless) : Type 0 where
  pub principal : IsPrincipal raw p
  pub in_order : (m : ℕ) × ComeInOrder 0 (occurring_tyvars p) m

-- Some most general typing has over 20,000 nodes. By `principal_sizes` all of them have the same number.
abbrev pub HasLargeReading : RawTree → Type 0
HasLargeReading raw = (p : Nameless) × IsPrincipal raw p × (20000 < term_size [] p)
