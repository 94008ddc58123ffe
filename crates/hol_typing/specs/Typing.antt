-- The typings of a term as it is written, and the most general one of them.
-- Sources: R. Milner, A theory of type polymorphism in programming (1978); L. Damas and R. Milner, Principal type-schemes for
-- functional programs (1982). HOL Light's preterm.ml: a free name has one type, the type variables of an annotation stand for
-- themselves, and those that inference leaves open are named `?` and a number.
use Rattle.std.specs.Prelude.{◌≡◌, ◌++◌, ℕ, List, [], ◌∷◌, codes, decimal, Option, Some, None, slice_get}
use Rattle.std.specs.List.{All}
use Rattle.hol_types.specs.Tree.{TypeTree}
use Rattle.hol_types.specs.Fun.{fun_type}
use Rattle.hol_types.specs.Subst.{type_subst}
use Rattle.hol_terms.specs.Nameless.{Nameless, free, bound, fixed, app, lam, base_of}
use Rattle.hol_typing.specs.Raw.{RawTree, RawBound, RawConstant, RawFree, RawApply, RawAbstraction, RawAnnotated}

-- ---- typings

-- the type is what the annotation says, where there is one
abbrev pub Meets : Option TypeTree → TypeTree → Type 0
Meets None t = Unit {0}
Meets (Some a) t = t ≡ a

-- some types for the variables of the generic type give the type
abbrev pub IsGenericInstance : TypeTree → TypeTree → Type 0
IsGenericInstance generic t = (pairs : List (TypeTree × List ℕ)) × (t ≡ type_subst pairs generic)

-- The nameless term is the raw one with types added, of type t, and meets the annotations. A free name has the type that `type_of`
-- gives it, and the enclosing abstractions have the types env, the innermost first.
abbrev pub IsTyping : (List ℕ → TypeTree) → List TypeTree → RawTree → Nameless → TypeTree → Type 0
IsTyping type_of env (RawBound i) (bound j) t = (i ≡ j) × (slice_get env i ≡ Some t)
IsTyping type_of env (RawBound i) _ t = ⊥
IsTyping type_of env (RawConstant c generic) (fixed d s) t = (c ≡ d) × (s ≡ t) × IsGenericInstance generic t
IsTyping type_of env (RawConstant c generic) _ t = ⊥
IsTyping type_of env (RawFree x) (free v) t = (v ≡ (x, t)) × (t ≡ type_of x)
IsTyping type_of env (RawFree x) _ t = ⊥
IsTyping type_of env (RawApply f a) (app g b) t = (s : TypeTree) × IsTyping type_of env f g (fun_type s t) × IsTyping type_of env a b s
IsTyping type_of env (RawApply f a) _ t = ⊥
IsTyping type_of env (RawAbstraction x annotation body) (lam y s b) t =
    (y ≡ base_of x) × Meets annotation s × ((u : TypeTree) × (t ≡ fun_type s u) × IsTyping type_of (s ∷ env) body b u)
IsTyping type_of env (RawAbstraction x annotation body) _ t = ⊥
IsTyping type_of env (RawAnnotated e a) p t = (t ≡ a) × IsTyping type_of env e p t

-- a typing of the whole term, whatever the types of the free names
abbrev pub IsTypingOf : RawTree → Nameless → Type 0
IsTypingOf raw p = (type_of : List ℕ → TypeTree) × ((t : TypeTree) × IsTyping type_of [] raw p t)

pub record HasNoTyping (raw : RawTree) : Type 0 where
  pub none : (p : Nameless) → IsTypingOf raw p → ⊥

-- ---- instances

-- a term with types put for type variables (fusion.ml: inst)
abbrev pub instantiate_types : List (TypeTree × List ℕ) → Nameless → Nameless
instantiate_types pairs (free v) = free (v.0, type_subst pairs v.1)
instantiate_types pairs (bound i) = bound i
instantiate_types pairs (fixed c s) = fixed c (type_subst pairs s)
instantiate_types pairs (app f x) = app (instantiate_types pairs f) (instantiate_types pairs x)
instantiate_types pairs (lam a s b) = lam a (type_subst pairs s) (instantiate_types pairs b)

-- the name of the k-th type that is left open, which no annotation can say
abbrev pub open_name : ℕ → List ℕ
open_name k = codes "?" ++ decimal k

abbrev pub IsOpen : List ℕ → Type 0
IsOpen name = (k : ℕ) × (name ≡ open_name k)

-- the second term is the first with types put for type variables that are left open
pub record IsInstanceOf (p q : Nameless) : Type 0 where
  pub pairs : List (TypeTree × List ℕ)
  pub are_open : All (λ pair. IsOpen pair.1) pairs
  pub gives : instantiate_types pairs p ≡ q

-- a typing of which each typing is an instance
pub record IsPrincipal (raw : RawTree) (p : Nameless) : Type 0 where
  pub typing : IsTypingOf raw p
  pub most_general : (q : Nameless) → IsTypingOf raw q → IsInstanceOf p q
