-- What the laws of substitution say.
use Rattle.std.specs.Prelude.{◌≡◌, ℕ, List, [], ◌∷◌, true, false, None}
use Rattle.hol_types.specs.Tree.{TypeTree}
use Rattle.hol_types.specs.Subst.{TypeUntouched, types_composed}
use Rattle.hol_terms.specs.Nameless.{Nameless, free, bound, fixed, app, lam, free_occurrences}
use Rattle.hol_terms.specs.Scoped.{binds}
use Rattle.hol_subst.specs.Closing.{close, open_with}
use Rattle.hol_subst.specs.Substitution.{term_lookup, term_subst, types_inst}

-- where v is not free in the body of an abstraction, substituting t for v in what opening it with v gives is opening it with t
abbrev pub OpeningSubstitutes : Type 0
OpeningSubstitutes = (v : List ℕ × TypeTree) (t b : Nameless) → binds (free_occurrences b) v ≡ false → term_subst ((t, v) ∷ []) 0 (open_with (free v) 0 b) ≡ open_with t 0 b

-- and binding v in that gives the body back
abbrev pub ClosingReverses : Type 0
ClosingReverses = (v : List ℕ × TypeTree) (b : Nameless) → binds (free_occurrences b) v ≡ false → close v 0 (open_with (free v) 0 b) ≡ b

-- opening with v a body in which v was bound gives the term back
abbrev pub OpeningReverses : Type 0
OpeningReverses = (v : List ℕ × TypeTree) (n : Nameless) → open_with (free v) 0 (close v 0 n) ≡ n

-- opening with t a body in which v was bound is substituting t for v
abbrev pub OpeningClosedSubstitutes : Type 0
OpeningClosedSubstitutes = (v : List ℕ × TypeTree) (t n : Nameless) → open_with t 0 (close v 0 n) ≡ term_subst ((t, v) ∷ []) 0 n

-- the pairs by which the substitution by qs, and then that by ps, is one: those of qs with their terms substituted, before those of ps
abbrev pub terms_composed : List (Nameless × (List ℕ × TypeTree)) → List (Nameless × (List ℕ × TypeTree)) → List (Nameless × (List ℕ × TypeTree))
terms_composed ps [] = ps
terms_composed ps (q ∷ qs) = (term_subst ps 0 q.0, q.1) ∷ terms_composed ps qs

abbrev pub SubstitutionsCompose : Type 0
SubstitutionsCompose = (ps qs : List (Nameless × (List ℕ × TypeTree))) (n : Nameless) → term_subst ps 0 (term_subst qs 0 n) ≡ term_subst (terms_composed ps qs) 0 n

abbrev pub InstancesCompose : Type 0
InstancesCompose = (ps qs : List (TypeTree × List ℕ)) (n : Nameless) → types_inst ps (types_inst qs n) ≡ types_inst (types_composed ps qs) n

-- a term stays in which no variable of a pair is free
abbrev pub IsUntouched : List (Nameless × (List ℕ × TypeTree)) → Nameless → Type 0
IsUntouched pairs n = (w : List ℕ × TypeTree) → binds (free_occurrences n) w ≡ true → term_lookup pairs w ≡ None

abbrev pub UntouchedStays : Type 0
UntouchedStays = (pairs : List (Nameless × (List ℕ × TypeTree))) (n : Nameless) → IsUntouched pairs n → term_subst pairs 0 n ≡ n

-- and one in whose types no type variable has a pair
abbrev pub TypesUntouched : List (TypeTree × List ℕ) → Nameless → Type 0
TypesUntouched pairs (free v) = TypeUntouched pairs v.1
TypesUntouched pairs (bound i) = Unit {0}
TypesUntouched pairs (fixed c s) = TypeUntouched pairs s
TypesUntouched pairs (app f x) = TypesUntouched pairs f × TypesUntouched pairs x
TypesUntouched pairs (lam a s b) = TypeUntouched pairs s × TypesUntouched pairs b

abbrev pub UntouchedTypesStay : Type 0
UntouchedTypesStay = (pairs : List (TypeTree × List ℕ)) (n : Nameless) → TypesUntouched pairs n → types_inst pairs n ≡ n
