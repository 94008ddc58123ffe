-- What the code says of itself where it instantiates types under binders. The binders that it passed are `old`, the innermost first, and `new`
-- are those that stand for them. Laws in proofs/ lead from here to nameless terms.
use Rattle.std.specs.Prelude.{◌≡◌, ℕ, List, [], ◌∷◌, Bool, true, cond, not, ◌&&◌, bytes_eq, Some}
use Rattle.std.specs.Int.{bit_at}
use Rattle.hol_types.specs.Tree.{TypeTree}
use Rattle.hol_types.specs.Subst.{type_subst}
use Rattle.hol_types.specs.Equal.{variable_eq}
use Rattle.hol_types.specs.Filter.{name_place}
use Rattle.hol_terms.specs.Named.{Named, var, named_type}
use Rattle.hol_terms.specs.Nameless.{base_of, place, nameless}
use Rattle.hol_terms.specs.Scoped.{binds, occurs_in}
use Rattle.hol_subst.specs.Substitution.{variable_inst, types_inst}
use Rattle.hol_subst.specs.Substituted.{IsSubstituted}

-- what stands for a variable: the new binder where an old one binds it, and else its own instance
abbrev pub image : List (TypeTree × List ℕ) → List (List ℕ × TypeTree) → List (List ℕ × TypeTree) → List ℕ × TypeTree → List ℕ × TypeTree
image pairs [] new v = variable_inst pairs v
image pairs (l ∷ old) [] v = variable_inst pairs v
image pairs (l ∷ old) (r ∷ new) v = cond (variable_eq l v) r (image pairs old new v)

-- what stands for the variables other than v, as terms
abbrev pub images_without : List (TypeTree × List ℕ) → List (List ℕ × TypeTree) → List (List ℕ × TypeTree) → List ℕ × TypeTree → List (List ℕ × TypeTree) → List Named
images_without pairs old new v [] = []
images_without pairs old new v (w ∷ ws) = cond (variable_eq w v) (images_without pairs old new v ws) (var (image pairs old new w) ∷ images_without pairs old new v ws)

-- what stands for each of the variables, as terms
abbrev pub images_of : List (TypeTree × List ℕ) → List (List ℕ × TypeTree) → List (List ℕ × TypeTree) → List (List ℕ × TypeTree) → List Named
images_of pairs old new [] = []
images_of pairs old new (w ∷ ws) = var (image pairs old new w) ∷ images_of pairs old new ws

-- w is another variable than v, and differs from it in name by primes alone: what stands for others has no name that a variant of v may have
abbrev pub is_alike : List ℕ × TypeTree → List ℕ × TypeTree → Bool
is_alike v w = bytes_eq (base_of w.0) (base_of v.0) && not (variable_eq w v)

-- w is alike, and free in t under the binders inner
abbrev pub is_alike_in : List ℕ × TypeTree → List (List ℕ × TypeTree) → Named → List ℕ × TypeTree → Bool
is_alike_in v inner t w = is_alike v w && (not (binds inner w) && occurs_in w t)

-- each new binder has the old one's name but for primes at its end
abbrev pub KeepsBases : List (List ℕ × TypeTree) → List (List ℕ × TypeTree) → Type 0
KeepsBases [] new = Unit {0}
KeepsBases (l ∷ old) [] = Unit {0}
KeepsBases (l ∷ old) (r ∷ new) = (base_of r.0 ≡ base_of l.0) × KeepsBases old new

-- each new binder has the instance of the old one's type
abbrev pub KeepsTypes : List (TypeTree × List ℕ) → List (List ℕ × TypeTree) → List (List ℕ × TypeTree) → Type 0
KeepsTypes pairs [] new = Unit {0}
KeepsTypes pairs (l ∷ old) [] = Unit {0}
KeepsTypes pairs (l ∷ old) (r ∷ new) = (r.1 ≡ type_subst pairs l.1) × KeepsTypes pairs old new

-- what stands for a free variable of the term is bound as that variable was: nothing is captured
abbrev pub KeepsPlaces : List (TypeTree × List ℕ) → List (List ℕ × TypeTree) → List (List ℕ × TypeTree) → Named → Type 0
KeepsPlaces pairs old new t = (w : List ℕ × TypeTree) → occurs_in w t ≡ true → (i : ℕ) → place new i (image pairs old new w) ≡ types_inst pairs (place old i w)

-- each variable for which another stands, though its type stays, has its bit among those of `renamed`
pub record HasRenamed (pairs : List (TypeTree × List ℕ)) (old new : List (List ℕ × TypeTree)) (renamed : ℕ) : Type 0 where
  pub stays : (w : List ℕ × TypeTree) → (bit_at renamed (name_place 0 w.0) ≡ 1 → ⊥) → type_subst pairs w.1 ≡ w.1 → image pairs old new w ≡ w

-- r under the new binders is the instance of t under the old ones
pub record IsInstance (pairs : List (TypeTree × List ℕ)) (old new : List (List ℕ × TypeTree)) (t r : Named) : Type 0 where
  pub types : (s : TypeTree) → named_type t ≡ Some s → named_type r ≡ Some (type_subst pairs s)
  pub terms : KeepsPlaces pairs old new t → nameless new r ≡ types_inst pairs (nameless old t)
  pub names : IsSubstituted (λ v. var (image pairs old new v)) (λ s. type_subst pairs s) t r
