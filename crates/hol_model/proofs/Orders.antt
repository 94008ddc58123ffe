-- Orders that are total and tie only what is equal, and what goes by them.
use Rattle.std.proofs.Common.{◌≡◌, ℕ, zero, suc, ◌<◌, inl, inr, List, [], ◌∷◌, length, sym, true, arith}
use Rattle.std.specs.Prelude.{◌↔◌, Contains, slice_index_or}
use Rattle.hol_types.specs.Tree.{TypeTree}
use Rattle.hol_types.specs.Equal.{type_eq, variable_eq}
use Rattle.hol_types.proofs.OrderLaws.{type_cmp_decides}
use Rattle.hol_terms.proofs.Same.{variable_eq_decides}
use Rattle.hol_kernel.specs.Item.{Item}
use Rattle.hol_kernel.specs.Items.{Items, in_order, Holds}
use Rattle.hol_kernel.proofs.Members.{Among}
use Rattle.hol_kernel.proofs.Weaken.{held, ordered_held}

pub same_types : (s t : TypeTree) → (type_eq s t ≡ true) ↔ (s ≡ t)
same_types s t = let d = type_cmp_decides s t in (λ e. d.0 e, λ e. d.1 e)

pub same_variables : (v w : List ℕ × TypeTree) → (variable_eq v w ≡ true) ↔ (v ≡ w)
same_variables v w = let d = variable_eq_decides v w in (λ e. d.0 e, λ e. d.1 e)

among_contains : {X : Type 0} (xs : List X) (x : X) → Among x xs → Contains xs x
among_contains [] x h = absurd h
among_contains (y ∷ xs) x (inl e) = (zero, omega arith, sym e)
among_contains (y ∷ xs) x (inr h) = let i = among_contains xs x h in (suc i.0, omega (arith, i.1), i.2)

contains_among : {X : Type 0} (xs : List X) (x : X) → Contains xs x → Among x xs
contains_among [] x h = absurd (omega (arith, h.1))
contains_among (y ∷ xs) x h = at h.0 h.1 h.2 (contains_among xs x)
  where
    at : (k : ℕ) → k < length (y ∷ xs) → slice_index_or (y ∷ xs) k x ≡ x → (Contains xs x → Among x xs) → Among x (y ∷ xs)
    at zero below is more = inl (sym is)
    at (suc k) below is more = inr (more (k, omega (arith, below), is))

pub listed : (items : Items) (x : Item) → Contains (in_order items) x ↔ Holds items x
listed items x = (λ h. held items x (contains_among (in_order items) x h), λ h. among_contains (in_order items) x (ordered_held items x h))
