-- Laws of finite sets.
use Rattle.std.specs.Prelude.{◌≡◌, false, List, [], ◌∷◌, refl, ◌||◌}
use Rattle.std.proofs.Common.{ap, sym, ◌∙◌}
use mathlib.Core.Bool.{true≢false}
use Rattle.std.specs.List.{list_any}
use Rattle.std.specs.Ordering.{eq_by_cmp, is_eq}
use Rattle.std.specs.declared.cmp.Ordering.{Ordering}
use Rattle.std.specs.Cmp.{IsTotalOrder, tied_itself}
use Rattle.std.specs.FinSet as set

module _ {K : Type 0} {R : K → K → Ordering} (total : IsTotalOrder R) where
  -- a list in which nothing is found has no element
  nothing_found : (xs : List K) → ((q : K) → list_any (eq_by_cmp R q) xs ≡ false) → xs ≡ []
  nothing_found [] none = refl
  nothing_found (x ∷ xs) none = absurd (true≢false (sym (ap (λ r. is_eq r || list_any (eq_by_cmp R x) xs) (tied_itself total x)) ∙ none x))

  pub items_empty : set.items (set.empty {R = R}) ≡ []
  items_empty = nothing_found (set.items set.empty) (λ q. sym (set.contains-items set.empty q) ∙ set.contains-empty R q)
