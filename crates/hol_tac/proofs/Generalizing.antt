-- The condition of SPEC_TAC.
use Rattle.std.specs.Prelude.{◌≡◌, ◌⊎◌, ℕ, Bool, true, false, not, ◌||◌, List, [], refl}
use Rattle.std.proofs.Common.{ap, ◌∙◌, inl, inr}
use Rattle.hol_types.specs.Tree.{TypeTree}
use Rattle.hol_terms.specs.Named.{Named, var}
use Rattle.hol_terms.specs.Nameless.{Nameless, free, nameless, free_occurrences}
use Rattle.hol_terms.specs.Scoped.{binds}
use Rattle.hol_terms.specs.Alpha.{strip, alpha_eq}
use Rattle.hol_terms.proofs.Alpha.{alpha_eq_decides}

abbrev Variable : Type 0
Variable = List ℕ × TypeTree

either_way : (a b : Bool) → true ≡ (a || not b) → (a ≡ true) ⊎ (b ≡ false)
either_way true b h = inl refl
either_way false false h = inr refl
either_way false true h = absurd cc

pub may_generalize : (t u : Named) (x : Variable) (w : Nameless) → u ≡ var x → true ≡ (alpha_eq (nameless [] t) (nameless [] u) || not (binds (free_occurrences w) x)) → (strip (nameless [] t) ≡ free x) ⊎ (binds (free_occurrences w) x ≡ false)
may_generalize t u x w is h =
    elim (either_way (alpha_eq (nameless [] t) (nameless [] u)) (binds (free_occurrences w) x) h) [
      | inl e ↦ inl ((alpha_eq_decides (nameless [] t) (nameless [] u)).0 e ∙ ap (λ n. strip (nameless [] n)) is)
      | inr e ↦ inr e
    ]
