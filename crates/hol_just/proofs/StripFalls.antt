-- Stripping gives no turns back and forgets no tested name; and it needs the names of constants by those that it tests alone.
use Rattle.std.specs.Prelude.{◌≡◌, ◌≤◌, ℕ, zero, suc, List, [], ◌∷◌, ◌++◌, Option, Some, None, refl}
use Rattle.std.specs.Option.{option_map, option_or}
use Rattle.std.proofs.Common.{ap, sym, ◌∙◌, subst, arith}
use Rattle.hol_types.specs.Tree.{TypeTree}
use Rattle.hol_terms.specs.Nameless.{Nameless, free}
use Rattle.hol_subst.specs.Closing.{open_with}
use Rattle.hol_formulas.specs.Formula.{Abstraction, dest_forall}
use Rattle.hol_kernel.specs.Given.{given_sequent}
use Rattle.hol_goal.specs.Goal.{GoalValue}
use Rattle.hol_goal.specs.Answer.{UsedValue, starting, testing, AnswerValue}
use Rattle.hol_goal.specs.Arguments.{TacArgsValue, Nothing, Term, Pair, Theorem, TermAndTheorem, Theorems}
use Rattle.hol_goal.specs.Names.{AgreeOn}
use Rattle.hol_goal.proofs.Testing.{Extends, extends_itself, extends_by, extends_both, agree_front, agree_back, agree_before}
use Rattle.hol_just.specs.Leaving.{concluding, assuming, goal_terms, theorem_terms, with_nothing, with_theorem}
use Rattle.hol_just.specs.ConnectiveTacs.{conj_tac}
use Rattle.hol_just.specs.Fresh.{FreshValue, fresh}
use Rattle.hol_just.specs.QuantifierTacs.{of_fresh, gen_tac}
use Rattle.hol_just.specs.Strip.{AvoidedValue, avoiding, Piece, Conjuncts, Disjuncts, Property, Closing, Dropped, Kept, piece, WaitingValue, waiting, new_name, property_at, split_by, becomes, Stripped, Leaves, RunsOut, before_goals, and_also, strip_each, strip_parts, strip_first, strip_in, all_nodes, strip, strip_assume_tac, antecedent, strip_tac, stripped}
use Rattle.hol_just.proofs.FreshLaws.{fresh_agrees}

-- ---- within what may be used

-- no more turns, and the names that were tested before first
abbrev pub IsWithin : UsedValue → Stripped → Type 0
IsWithin used (Leaves goals left) = (left.turns_left ≤ used.turns_left) × Extends used.tested left.tested
IsWithin used (RunsOut tested) = Extends used.tested tested

abbrev pub tested_in : Stripped → List (List ℕ)
tested_in (Leaves goals left) = left.tested
tested_in (RunsOut tested) = tested

within_before : (used : UsedValue) (goals : List GoalValue) (s : Stripped) → IsWithin used s → IsWithin used (before_goals goals s)
within_before used goals (Leaves more left) h = h
within_before used goals (RunsOut tested) h = h

within_more : (few many : UsedValue) (s : Stripped) → few.turns_left ≤ many.turns_left → Extends many.tested few.tested → IsWithin few s → IsWithin many s
within_more few many (Leaves goals left) le e h = (omega (arith, le, h.0), extends_both many.tested few.tested left.tested e h.1)
within_more few many (RunsOut tested) le e h = extends_both many.tested few.tested tested e h

also_falls : (used : UsedValue) (s : Stripped) (f : UsedValue → Stripped) → IsWithin used s → ((t : UsedValue) → IsWithin t (f t)) → IsWithin used (and_also s f)
also_falls used (Leaves goals left) f h falls = within_before used goals (f left) (within_more left used (f left) h.0 h.1 (falls left))
also_falls used (RunsOut tested) f h falls = h

pub each_falls : (f : WaitingValue → UsedValue → Stripped) (ws : List WaitingValue) (used : UsedValue) → ((w : WaitingValue) (t : UsedValue) → IsWithin t (f w t)) → IsWithin used (strip_each f ws used)
each_falls f [] used falls = (omega arith, extends_itself used.tested)
each_falls f (w ∷ ws) used falls = also_falls used (f w used) (strip_each f ws) (falls w used) (λ t. each_falls f ws t falls)

split_falls :
    (f : WaitingValue → UsedValue → Stripped) (a b : Nameless) (ps : List Nameless) (goal : GoalValue) (tested : List (List ℕ)) (turns : ℕ) → ((w : WaitingValue) (t : UsedValue) → IsWithin t (f w t)) →
    IsWithin (record { turns_left = turns; tested = tested }) (strip_parts f tested (split_by a b ps goal tested turns))
split_falls f a b ps goal tested zero falls = extends_itself tested
split_falls f a b ps goal tested (suc turns) falls =
    let left : UsedValue = record { turns_left = turns; tested = tested } in
    within_more left (record { turns_left = suc turns; tested = tested }) (strip_each f (waiting (a ∷ ps) goal ∷ waiting (b ∷ ps) goal ∷ []) left) (omega arith) (extends_itself tested)
    (each_falls f (waiting (a ∷ ps) goal ∷ waiting (b ∷ ps) goal ∷ []) left falls)

parts_fall :
    (f : WaitingValue → UsedValue → Stripped) (avoided : AvoidedValue) (p : Nameless) (ps : List Nameless) (goal : GoalValue) (c : Piece) (used : UsedValue) → ((w : WaitingValue) (t : UsedValue) → IsWithin t (f w t)) →
    IsWithin used (strip_parts f used.tested (becomes avoided p ps goal c used))
parts_fall f avoided p ps goal (Conjuncts a b) used falls = each_falls f (waiting (a ∷ b ∷ ps) goal ∷ []) used falls
parts_fall f avoided p ps goal (Disjuncts a b) used falls = split_falls f a b ps goal used.tested used.turns_left falls
parts_fall f avoided p ps goal (Property x) used falls =
    let n : FreshValue = new_name avoided (p ∷ ps) goal x in
    let ws : List WaitingValue = waiting (open_with (free (n.name, x.domain)) 0 x.body ∷ ps) goal ∷ [] in
    within_more (testing n.tested used) used (strip_each f ws (testing n.tested used)) (omega arith) (extends_by used.tested n.tested) (each_falls f ws (testing n.tested used) falls)
parts_fall f avoided p ps goal Closing used falls = each_falls f [] used falls
parts_fall f avoided p ps goal Dropped used falls = each_falls f (waiting ps goal ∷ []) used falls
parts_fall f avoided p ps goal Kept used falls = each_falls f (waiting ps (assuming goal p goal.conclusion) ∷ []) used falls

pub steps_fall : (n : ℕ) (avoided : AvoidedValue) (ps : List Nameless) (goal : GoalValue) (used : UsedValue) → IsWithin used (strip_in n avoided (waiting ps goal) used)
steps_fall zero avoided ps goal used = (omega arith, extends_itself used.tested)
steps_fall (suc n) avoided [] goal used = (omega arith, extends_itself used.tested)
steps_fall (suc n) avoided (p ∷ ps) goal used = parts_fall (strip_in n avoided) avoided p ps goal (piece goal p) used (λ w t. steps_fall n avoided w.pieces w.goal t)

-- ---- answers give no turns back

module _ (names : List (List ℕ)) where
  answer_falls : (s : Stripped) (used : UsedValue) → IsWithin used s → (stripped (Some s) used).used.turns_left ≤ used.turns_left
  answer_falls (Leaves goals left) used h = h.0
  answer_falls (RunsOut tested) used h = omega arith

  pub strip_assume_falls : (args : TacArgsValue) (goal : GoalValue) (used : UsedValue) → (stripped (with_theorem args (λ th. strip_assume_tac names th goal used)) used).used.turns_left ≤ used.turns_left
  strip_assume_falls Nothing goal used = omega arith
  strip_assume_falls (Term t) goal used = omega arith
  strip_assume_falls (Pair s t) goal used = omega arith
  strip_assume_falls (Theorem th) goal used =
      let w : WaitingValue = waiting ((given_sequent th).concl ∷ []) goal in
      let avoided : AvoidedValue = avoiding (theorem_terms th) names in
      answer_falls (strip avoided w used) used (steps_fall (all_nodes w.pieces) avoided w.pieces w.goal used)
  strip_assume_falls (TermAndTheorem t th) goal used = omega arith
  strip_assume_falls (Theorems ths) goal used = omega arith

  goals_fall :
      (goal : GoalValue) (used : UsedValue) (freed : Option (List GoalValue × List (List ℕ))) (goals : Option (List GoalValue)) (parts : Option (Nameless × Nameless)) →
      (stripped (option_or (option_map (λ r. Leaves r.0 (testing r.1 used)) freed) (option_or (option_map (λ gs. Leaves gs used) goals)
      (option_map (λ r. strip (avoiding [] names) (waiting (r.0 ∷ []) (concluding goal r.1)) used) parts))) used).used.turns_left ≤ used.turns_left
  goals_fall goal used (Some r) goals parts = omega arith
  goals_fall goal used None (Some gs) parts = omega arith
  goals_fall goal used None None None = omega arith
  goals_fall goal used None None (Some r) =
      let w : WaitingValue = waiting (r.0 ∷ []) (concluding goal r.1) in
      let avoided : AvoidedValue = avoiding [] names in
      answer_falls (strip avoided w used) used (steps_fall (all_nodes w.pieces) avoided w.pieces w.goal used)

  pub strip_tac_falls : (args : TacArgsValue) (goal : GoalValue) (used : UsedValue) → (stripped (with_nothing args (strip_tac names goal used)) used).used.turns_left ≤ used.turns_left
  strip_tac_falls Nothing goal used = goals_fall goal used (gen_tac names goal) (conj_tac goal) (antecedent goal.conclusion)
  strip_tac_falls (Term t) goal used = omega arith
  strip_tac_falls (Pair s t) goal used = omega arith
  strip_tac_falls (Theorem th) goal used = omega arith
  strip_tac_falls (TermAndTheorem t th) goal used = omega arith
  strip_tac_falls (Theorems ths) goal used = omega arith

-- ---- names that agree on those that are tested

module _ (names more : List (List ℕ)) where
  abbrev pub Agrees : Stripped → Type 0
  Agrees s = AgreeOn names more (tested_in s)

  agrees_before : (goals : List GoalValue) (s : Stripped) → Agrees (before_goals goals s) → Agrees s
  agrees_before goals (Leaves gs left) h = h
  agrees_before goals (RunsOut tested) h = h

  also_first : (s : Stripped) (f : UsedValue → Stripped) → ((t : UsedValue) → IsWithin t (f t)) → Agrees (and_also s f) → Agrees s
  also_first (Leaves goals left) f falls h = of (f left) (falls left) (agrees_before goals (f left) h)
    where
      of : (s : Stripped) → IsWithin left s → Agrees s → AgreeOn names more left.tested
      of (Leaves gs next) w a = agree_before names more left.tested next.tested w.1 a
      of (RunsOut tested) w a = agree_before names more left.tested tested w a
  also_first (RunsOut tested) f falls h = h

  also_agree : (s : Stripped) (f g : UsedValue → Stripped) → ((t : UsedValue) → Agrees (f t) → g t ≡ f t) → Agrees (and_also s f) → and_also s g ≡ and_also s f
  also_agree (Leaves goals left) f g same h = ap (before_goals goals) (same left (agrees_before goals (f left) h))
  also_agree (RunsOut tested) f g same h = refl

  each_agree :
      (f g : WaitingValue → UsedValue → Stripped) → ((w : WaitingValue) (t : UsedValue) → IsWithin t (f w t)) → ((w : WaitingValue) (t : UsedValue) → Agrees (f w t) → g w t ≡ f w t) →
      (ws : List WaitingValue) (used : UsedValue) → Agrees (strip_each f ws used) → strip_each g ws used ≡ strip_each f ws used
  each_agree f g falls same [] used h = refl
  each_agree f g falls same (w ∷ ws) used h =
      ap (λ s. and_also s (strip_each g ws)) (same w used (also_first (f w used) (strip_each f ws) (λ t. each_falls f ws t falls) h))
      ∙ also_agree (f w used) (strip_each f ws) (strip_each g ws) (λ t a. each_agree f g falls same ws t a) h

  module _ (terms : List Nameless) (f g : WaitingValue → UsedValue → Stripped) (falls : (w : WaitingValue) (t : UsedValue) → IsWithin t (f w t)) (same : (w : WaitingValue) (t : UsedValue) → Agrees (f w t) → g w t ≡ f w t) where
    split_agree :
        (a b : Nameless) (ps : List Nameless) (goal : GoalValue) (tested : List (List ℕ)) (turns : ℕ) → Agrees (strip_parts f tested (split_by a b ps goal tested turns)) →
        strip_parts g tested (split_by a b ps goal tested turns) ≡ strip_parts f tested (split_by a b ps goal tested turns)
    split_agree a b ps goal tested zero h = refl
    split_agree a b ps goal tested (suc turns) h = each_agree f g falls same (waiting (a ∷ ps) goal ∷ waiting (b ∷ ps) goal ∷ []) (record { turns_left = turns; tested = tested }) h

    -- what a new name was tested for is told at the end
    first_told : (n : FreshValue) (ws : List WaitingValue) (used : UsedValue) → Agrees (strip_each f ws (testing n.tested used)) → AgreeOn names more n.tested
    first_told n ws used h = agree_back names more used.tested n.tested (of (strip_each f ws (testing n.tested used)) (each_falls f ws (testing n.tested used) falls) h)
      where
        of : (s : Stripped) → IsWithin (testing n.tested used) s → Agrees s → AgreeOn names more (used.tested ++ n.tested)
        of (Leaves gs next) w a = agree_before names more (used.tested ++ n.tested) next.tested w.1 a
        of (RunsOut tested) w a = agree_before names more (used.tested ++ n.tested) tested w a

    parts_agree :
        (p : Nameless) (ps : List Nameless) (goal : GoalValue) (c : Piece) (used : UsedValue) → Agrees (strip_parts f used.tested (becomes (avoiding terms names) p ps goal c used)) →
        strip_parts g used.tested (becomes (avoiding terms more) p ps goal c used) ≡ strip_parts f used.tested (becomes (avoiding terms names) p ps goal c used)
    parts_agree p ps goal (Conjuncts a b) used h = each_agree f g falls same (waiting (a ∷ b ∷ ps) goal ∷ []) used h
    parts_agree p ps goal (Disjuncts a b) used h = split_agree a b ps goal used.tested used.turns_left h
    parts_agree p ps goal (Property x) used h =
        let n : FreshValue = new_name (avoiding terms names) (p ∷ ps) goal x in
        let ws : List WaitingValue = waiting (open_with (free (n.name, x.domain)) 0 x.body ∷ ps) goal ∷ [] in
        ap (λ (m : FreshValue). strip_each g (property_at ps goal x m used).0 (property_at ps goal x m used).1) (fresh_agrees (terms ++ ((p ∷ ps) ++ goal_terms goal)) names more x.base (first_told n ws used h))
        ∙ each_agree f g falls same ws (testing n.tested used) h
    parts_agree p ps goal Closing used h = each_agree f g falls same [] used h
    parts_agree p ps goal Dropped used h = each_agree f g falls same (waiting ps goal ∷ []) used h
    parts_agree p ps goal Kept used h = each_agree f g falls same (waiting ps (assuming goal p goal.conclusion) ∷ []) used h

  module _ (terms : List Nameless) where
    pub steps_agree : (n : ℕ) (ps : List Nameless) (goal : GoalValue) (used : UsedValue) → Agrees (strip_in n (avoiding terms names) (waiting ps goal) used) →
        strip_in n (avoiding terms more) (waiting ps goal) used ≡ strip_in n (avoiding terms names) (waiting ps goal) used
    steps_agree zero ps goal used h = refl
    steps_agree (suc n) [] goal used h = refl
    steps_agree (suc n) (p ∷ ps) goal used h =
        parts_agree terms (strip_in n (avoiding terms names)) (strip_in n (avoiding terms more)) (λ w t. steps_fall n (avoiding terms names) w.pieces w.goal t) (λ w t a. steps_agree n w.pieces w.goal t a)
        p ps goal (piece goal p) used h

    pub strip_agrees : (w : WaitingValue) (used : UsedValue) → Agrees (strip (avoiding terms names) w used) → strip (avoiding terms more) w used ≡ strip (avoiding terms names) w used
    strip_agrees w used h = steps_agree (all_nodes w.pieces) w.pieces w.goal used h
