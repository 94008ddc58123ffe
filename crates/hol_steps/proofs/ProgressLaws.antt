-- What is stripped goes on: it comes to the same, is lighter, and its moves stay valid.
use Rattle.std.specs.Prelude.{◌≡◌, ◌<◌, ◌+◌, ℕ, List, [], ◌∷◌, ◌++◌, map, length, reverse, Some, None, refl}
use Rattle.std.proofs.Common.{ap, sym, ◌∙◌, subst, arith}
use Rattle.std.proofs.lemmas.List.{append_assoc, append-nil, map-append}
use Rattle.hol_terms.specs.Nameless.{Nameless}
use Rattle.hol_match.specs.Rules.{nodes}
use Rattle.hol_goal.specs.Goal.{GoalValue}
use Rattle.hol_goal.specs.Answer.{UsedValue, starting}
use Rattle.hol_goal.specs.UsedView.{used_value}
use Rattle.hol_just.specs.Strip.{AvoidedValue, piece, WaitingValue, waiting, becomes, Stripped, Leaves, RunsOut, before_goals, and_also, strip_each, strip, all_nodes}
use Rattle.hol_just.specs.Valid.{IsValid}
use Rattle.hol_just.specs.Justifies.{always}
use Rattle.hol_just.specs.declared.reason.Move.{Move}
use Rattle.hol_just.specs.Weights.{weight, all_weights}
use Rattle.hol_just.proofs.Pieces.{parts_of, parts_fewer, is_compound, before_none, before_both, next_parts, next_none}
use Rattle.hol_just.proofs.Validity.{valid_at, valid_under}
use Rattle.hol_steps.specs.Parts.{with_pieces, AreParts}
use Rattle.hol_steps.specs.Progress.{ProgressValue, started, with_next, finished, again, comes_to, all_goals, GoesOn}
use Rattle.hol_steps.specs.declared.pieces.Parts.{Parts}

-- ---- what was taken has no pieces

pub done_goes :
    (avoided : AvoidedValue) (w after : WaitingValue) (p new : ProgressValue) (goal : GoalValue) → w.pieces ≡ [] → after ≡ w → goal ≡ after.goal → new ≡ finished p goal →
    GoesOn avoided (with_next w p) new
done_goes avoided w after p new goal none kept same is =
    subst (λ (q : ProgressValue). GoesOn avoided (with_next w p) q) (sym (is ∙ ap (finished p) (same ∙ ap (λ v. v.goal) kept)))
    (subst (λ (v : WaitingValue). GoesOn avoided (with_next v p) (finished p w.goal)) (λ i. waiting (sym none i) w.goal)
    (record {
      same = before_both p.done (w.goal ∷ []) (strip_each (strip avoided) p.waiting p.used);
      lighter = omega arith;
      valid = λ suits extra start apart v. subst (λ (gs : List GoalValue). IsValid suits extra p.moves start gs) (sym (append_assoc p.done (w.goal ∷ []) (map with_pieces p.waiting))) v;
    }))

-- ---- a piece was taken

weights_append : (vs ws : List WaitingValue) → all_weights (vs ++ ws) ≡ all_weights vs + all_weights ws
weights_append [] ws = omega arith
weights_append (v ∷ vs) ws = let r = weights_append vs ws in omega (arith, r)

module _ (avoided : AvoidedValue) (n : Nameless) (rest w : WaitingValue) (p : ProgressValue) (taken : w ≡ waiting (n ∷ rest.pieces) rest.goal) where
  pub parts_go : (used : UsedValue) (parts : Parts) (new : ProgressValue) → used ≡ p.used → AreParts avoided n rest used (piece rest.goal n) parts → new ≡ again p (reverse parts.waiting.items) parts.just (used_value parts.used) → GoesOn avoided (with_next w p) new
  parts_go used parts new of_used become is =
      let vs = reverse parts.waiting.items in
      let here = becomes avoided n rest.pieces rest.goal (piece rest.goal n) p.used in
      let now : here ≡ Some (vs, used_value parts.used) = ap (becomes avoided n rest.pieces rest.goal (piece rest.goal n)) (sym of_used) ∙ become.is in
      let fewer : all_weights (parts_of here) < weight (nodes n + all_nodes rest.pieces) = (parts_fewer avoided n rest.pieces rest.goal p.used (piece rest.goal n) (is_compound n rest.goal)).weights in
      let all : all_weights (parts_of here) ≡ all_weights vs = ap (λ o. all_weights (parts_of o)) now in
      let both = weights_append vs p.waiting in
      subst (λ (q : ProgressValue). GoesOn avoided (with_next w p) q) (sym is)
      (subst (λ (v : WaitingValue). GoesOn avoided (with_next v p) (again p vs parts.just (used_value parts.used))) (sym taken)
      (record {
        same = ap (before_goals p.done) (sym (next_parts avoided p.waiting p.used n rest.pieces rest.goal vs (used_value parts.used) now));
        lighter = omega (arith, fewer, all, both);
        valid = λ suits extra start apart v.
            subst (λ (gs : List GoalValue). IsValid suits extra (again p vs parts.just (used_value parts.used)).moves start (p.done ++ gs)) (sym (map-append with_pieces vs p.waiting))
            (valid_at suits extra p.moves parts.just start p.done (with_pieces (waiting (n ∷ rest.pieces) rest.goal) ∷ []) (map with_pieces vs) (map with_pieces p.waiting) (length p.done) refl v
            (valid_under always suits extra parts.just (with_pieces (waiting (n ∷ rest.pieces) rest.goal) ∷ []) (map with_pieces vs) (λ basis suit. refl) (become.valid extra apart)));
      }))

  pub none_goes : (used : UsedValue) (tested : List (List ℕ)) → used ≡ p.used → tested ≡ used.tested → becomes avoided n rest.pieces rest.goal (piece rest.goal n) used ≡ None → comes_to avoided (with_next w p) ≡ RunsOut tested
  none_goes used tested of_used told is =
      ap (λ (v : WaitingValue). comes_to avoided (with_next v p)) taken
      ∙ ap (before_goals p.done) (next_none avoided p.waiting p.used n rest.pieces rest.goal (ap (becomes avoided n rest.pieces rest.goal (piece rest.goal n)) (sym of_used) ∙ is))
      ∙ (λ i. RunsOut (sym (told ∙ ap (λ (u : UsedValue). u.tested) of_used) i))

-- ---- the first and the last

also_none : (s : Stripped) → and_also s (λ t. Leaves [] t) ≡ s
also_none (Leaves goals used) = λ i. Leaves (append-nil goals i) used
also_none (RunsOut tested) = refl

pub start_same : (avoided : AvoidedValue) (moves : List Move) (w : WaitingValue) (turns : ℕ) (p : ProgressValue) → p ≡ started moves w turns → comes_to avoided p ≡ strip avoided w (starting turns)
start_same avoided moves w turns p is = ap (comes_to avoided) is ∙ before_none (and_also (strip avoided w (starting turns)) (λ t. Leaves [] t)) ∙ also_none (strip avoided w (starting turns))

pub end_same : (avoided : AvoidedValue) (p : ProgressValue) → p.waiting ≡ [] → comes_to avoided p ≡ Leaves p.done p.used
end_same avoided p none = (λ i. before_goals p.done (strip_each (strip avoided) (none i) p.used)) ∙ (λ i. Leaves (append-nil p.done i) p.used)

pub end_goals : (p : ProgressValue) → p.waiting ≡ [] → all_goals p ≡ p.done
end_goals p none = (λ i. p.done ++ map with_pieces (none i)) ∙ append-nil p.done
