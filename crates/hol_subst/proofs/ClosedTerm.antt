-- A term without free variables.
use Rattle.std.specs.Prelude.{◌≡◌, ℕ, suc, ◌==◌, Bool, true, false, cond, List, [], ◌∷◌, ◌++◌, length, refl}
use Rattle.std.proofs.Common.{arith}
use Rattle.std.proofs.lemmas.Bool.Decides.{nat_tests}
use Rattle.hol_types.specs.Tree.{TypeTree}
use Rattle.hol_terms.specs.Scoped.{binds, add_all}
use Rattle.hol_subst.specs.ClosedTerm.{has_none}

abbrev Variables : Type 0
Variables = List (List ℕ × TypeTree)

some_length : (n : ℕ) → (suc n == 0) ≡ false
some_length n = grind (arith, nat_tests)

some_kept : (v : List ℕ × TypeTree) (vs ws : Variables) → (length (add_all (v ∷ vs) ws) == 0) ≡ false
some_kept v vs [] = some_length (length vs)
some_kept v vs (w ∷ ws) = by (binds (v ∷ vs) w) (some_kept v vs ws) (some_kept v (vs ++ w ∷ []) ws)
  where
    by : (b : Bool) → (length (add_all (v ∷ vs) ws) == 0) ≡ false → (length (add_all (v ∷ vs ++ w ∷ []) ws) == 0) ≡ false → (length (add_all (cond b (v ∷ vs) ((v ∷ vs) ++ w ∷ [])) ws) == 0) ≡ false
    by true there more = there
    by false there more = more

pub none_free : (ws : Variables) → (length (add_all [] ws) == 0) ≡ has_none ws
none_free [] = refl
none_free (w ∷ ws) = some_kept w [] ws
