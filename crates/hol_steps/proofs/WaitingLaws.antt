-- Pieces that wait, the first last.
use Rattle.std.specs.Prelude.{◌≡◌, ℕ, Bool, true, false, ◌||◌, List, [], ◌∷◌, ◌++◌, map, reverse, Result, Ok, Err, OnOk, refl}
use Rattle.std.proofs.Common.{ap, sym, ◌∙◌}
use Rattle.std.proofs.lemmas.List.{map-append, reverse-append}
use Rattle.hol_terms.specs.Named.{Named}
use Rattle.hol_terms.specs.Nameless.{Nameless, nameless}
use Rattle.hol_subst.specs.FreeName.{has_name, is_taken}
use Rattle.hol_goal.specs.Goal.{GoalValue}
use Rattle.hol_just.specs.Leaving.{goal_terms}
use Rattle.hol_just.specs.Strip.{WaitingValue}
use Rattle.hol_steps.specs.Fresh.{AreAlike, terms_of}
use Rattle.hol_steps.proofs.TermsBy.{taken_in_both}

-- the terms as pieces
abbrev pub pieces_of : List Named → List Nameless
pieces_of ps = map (nameless []) (reverse ps)

-- the last is the first
pub last_first : (more fewer : List Named) (p : Named) → more ≡ fewer ++ (p ∷ []) → pieces_of more ≡ nameless [] p ∷ pieces_of fewer
last_first more fewer p is = ap pieces_of is ∙ ap (map (nameless [])) (reverse-append fewer (p ∷ []))

-- ---- names

shuffled : (t a c p : Bool) → (((t || a) || (c || false)) || p) ≡ (t || (p || (c || a)))
shuffled true a c p = refl
shuffled false true true true = refl
shuffled false true true false = refl
shuffled false true false true = refl
shuffled false true false false = refl
shuffled false false true true = refl
shuffled false false true false = refl
shuffled false false false true = refl
shuffled false false false false = refl

taken_turned : (ps : List Named) (a : List ℕ) → is_taken (map (nameless []) ps) a ≡ is_taken (pieces_of ps) a
taken_turned ps a = go ps
  where
    swap : (b c : Bool) → (b || c) ≡ (c || (b || false))
    swap true true = refl
    swap true false = refl
    swap false true = refl
    swap false false = refl

    go : (qs : List Named) → is_taken (map (nameless []) qs) a ≡ is_taken (pieces_of qs) a
    go [] = refl
    go (q ∷ qs) =
        ap (λ b. has_name a (nameless [] q) || b) (go qs)
        ∙ swap (has_name a (nameless [] q)) (is_taken (pieces_of qs) a)
        ∙ sym (taken_in_both (pieces_of qs) (nameless [] q ∷ []) a)
        ∙ ap (λ ns. is_taken ns a) (sym (map-append (nameless []) (reverse qs) (q ∷ [])) ∙ ap (map (nameless [])) (sym (reverse-append (q ∷ []) qs)))

-- assumptions, a conclusion and pieces, one after the other
pub collects :
    (first second third all pieces assumptions : List Named) (c : Named) (goal : GoalValue) (ps : List Nameless) (a : List ℕ) → second ≡ first ++ assumptions → third ≡ second ++ (c ∷ []) → all ≡ third ++ pieces →
    map (nameless []) assumptions ≡ goal.assumptions → nameless [] c ≡ goal.conclusion → pieces_of pieces ≡ ps →
    is_taken (map (nameless []) all) a ≡ (is_taken (map (nameless []) first) a || is_taken (ps ++ goal_terms goal) a)
collects first second third all pieces assumptions c goal ps a one two three are is turned =
    both third pieces all three
    ∙ (λ i. (both second (c ∷ []) third two ∙ ap (λ b. b || (has_name a (nameless [] c) || false)) (both first assumptions second one)) i || taken_turned pieces a i)
    ∙ shuffled (is_taken (map (nameless []) first) a) (is_taken (map (nameless []) assumptions) a) (has_name a (nameless [] c)) (is_taken (pieces_of pieces) a)
    ∙ (λ i. is_taken (map (nameless []) first) a || (is_taken (turned i) a || (has_name a (is i) || is_taken (are i) a)))
    ∙ ap (λ b. is_taken (map (nameless []) first) a || b) (sym (taken_in_both ps (goal_terms goal) a))
  where
    both : (xs ys zs : List Named) → zs ≡ xs ++ ys → is_taken (map (nameless []) zs) a ≡ (is_taken (map (nameless []) xs) a || is_taken (map (nameless []) ys) a)
    both xs ys zs e = ap (λ ts. is_taken (map (nameless []) ts) a) e ∙ ap (λ ns. is_taken ns a) (map-append (nameless []) xs ys) ∙ taken_in_both (map (nameless []) xs) (map (nameless []) ys) a

-- those of the pieces and the goal, a piece and the others
gathered : (r p o : Bool) → (((false || r) || (p || false)) || o) ≡ (o || (p || r))
gathered true true true = refl
gathered true true false = refl
gathered true false true = refl
gathered true false false = refl
gathered false true true = refl
gathered false true false = refl
gathered false false true = refl
gathered false false false = refl

pub gathers :
    (none first second all others : List Named) (p : Named) (w : WaitingValue) (names : List Nameless) → none ≡ [] →
    ((a : List ℕ) → is_taken (map (nameless []) first) a ≡ (is_taken (map (nameless []) none) a || is_taken (w.pieces ++ goal_terms w.goal) a)) →
    second ≡ first ++ (p ∷ []) → all ≡ second ++ others → AreAlike (map (nameless []) others) names → AreAlike (map (nameless []) all) (terms_of names (nameless [] p) w)
gathers none first second all others p w names empty one two three alike a =
    both second others all three
    ∙ (λ i. (both first (p ∷ []) second two ∙ ap (λ b. b || (has_name a (nameless [] p) || false)) (one a ∙ ap (λ ts. is_taken (map (nameless []) ts) a || is_taken (w.pieces ++ goal_terms w.goal) a) empty)) i || alike a i)
    ∙ gathered (is_taken (w.pieces ++ goal_terms w.goal) a) (has_name a (nameless [] p)) (is_taken names a)
    ∙ sym (taken_in_both names (nameless [] p ∷ (w.pieces ++ goal_terms w.goal)) a)
  where
    both : (xs ys zs : List Named) → zs ≡ xs ++ ys → is_taken (map (nameless []) zs) a ≡ (is_taken (map (nameless []) xs) a || is_taken (map (nameless []) ys) a)
    both xs ys zs e = ap (λ ts. is_taken (map (nameless []) ts) a) e ∙ ap (λ ns. is_taken ns a) (map-append (nameless []) xs ys) ∙ taken_in_both (map (nameless []) xs) (map (nameless []) ys) a

pub on_ok : {X E : Type 0} (r : Result X E) (P Q : Type 0) → (P → Q) → OnOk r P → OnOk r Q
on_ok (Ok x) P Q f h = f h
on_ok (Err e) P Q f h = h
