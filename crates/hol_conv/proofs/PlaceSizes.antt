-- The size of a whole term, by that of a part.
use Rattle.std.proofs.Common.{◌≡◌, ℕ, ◌+◌, List, [], ◌∷◌, ◌++◌, reverse, refl, ap, sym, ◌∙◌, arith}
use Rattle.std.specs.Prelude.{min}
use Rattle.hol_types.specs.Tree.{type_size}
use Rattle.hol_terms.specs.Nameless.{Nameless}
use Rattle.hol_terms.specs.Size.{term_size}
use Rattle.hol_conv.specs.declared.frame.Step.{Step}
use Rattle.hol_conv.specs.declared.frame.Step.TheVariants.{Function, Argument, Body}
use Rattle.hol_conv.specs.declared.frame.Frame.{Frame}
use Rattle.hol_conv.specs.Places.{around, whole, beside_size}
use Rattle.hol_conv.proofs.OnceClosed.{size_close}
use Rattle.hol_conv.proofs.Places.{innermost}

-- those of the whole term, where the part has k, up to 20,001
abbrev pub sized : List Frame → ℕ → ℕ
sized [] k = k
sized (f ∷ fs) k = sized fs (min (1 + min (beside_size f.step) 20001 + k) 20001)

size_around : (s : Step) (n : Nameless) → term_size [] (around s n) ≡ 1 + beside_size s + term_size [] n
size_around (Function x) n = omega arith
size_around (Argument f) n = refl
size_around (Body v) n = ap (λ k. 1 + type_size v.1 + k) (size_close v [] n)

-- up to 20,001 on the way is up to 20,001 at the end
at_most : (a b k : ℕ) → k ≡ 1 + a + b → min (1 + min a 20001 + min b 20001) 20001 ≡ min k 20001
at_most a b k e = omega (arith, e)

pub whole_sized : (fs : List Frame) (n : Nameless) → sized fs (min (term_size [] n) 20001) ≡ min (term_size [] (whole fs n)) 20001
whole_sized [] n = refl
whole_sized (f ∷ fs) n = ap (sized fs) (at_most (beside_size f.step) (term_size [] n) (term_size [] (around f.step n)) (size_around f.step n)) ∙ whole_sized fs (around f.step n)

-- at the end of the frames
pub all_sized : (fs : List Frame) (n : Nameless) (k p : ℕ) → p ≡ min (term_size [] n) 20001 → sized (reverse []) k ≡ sized (reverse fs) p → k ≡ min (term_size [] (whole (reverse fs) n)) 20001
all_sized fs n k p e h = h ∙ ap (sized (reverse fs)) e ∙ whole_sized (reverse fs) n

-- one frame further out
pub sized_out : (fs gs : List Frame) (f : Frame) (j k : ℕ) → fs ≡ gs ++ f ∷ [] → k ≡ min (1 + min (beside_size f.step) 20001 + j) 20001 → sized (reverse gs) k ≡ sized (reverse fs) j
sized_out fs gs f j k e h = ap (sized (reverse gs)) h ∙ sym (ap (λ z. sized z j) (ap reverse e ∙ innermost gs f))

pub ruleset whole_sizes = (all_sized, sized_out)
