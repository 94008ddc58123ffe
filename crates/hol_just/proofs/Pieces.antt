-- What becomes of pieces that are stripped has fewer nodes, so that stripping goes by pieces.
use Rattle.std.specs.Prelude.{◌≡◌, ◌≤◌, ◌<◌, ◌+◌, ℕ, zero, suc, Bool, true, false, cond, ◌||◌, List, [], ◌∷◌, ◌++◌, codes, Option, Some, None, refl}
use Rattle.std.specs.Option.{option_map, option_or, unwrap_or}
use Rattle.std.specs.List.{AllByRecursion, list_any}
use Rattle.std.proofs.Common.{ap, sym, ◌∙◌, arith, append_assoc}
use Rattle.hol_types.specs.Tree.{TypeTree}
use Rattle.hol_terms.specs.Nameless.{Nameless, free, bound, fixed, app, lam}
use Rattle.hol_terms.specs.Alpha.{alpha_eq}
use Rattle.hol_subst.specs.Closing.{open_with}
use Rattle.hol_formulas.specs.Formula.{connective_type, Abstraction, conjunction, disjunction, existential, is_truth, is_falsity, dest_conj, dest_disj, dest_exists}
use Rattle.hol_formulas.proofs.FormulaLaws.{dest_binary_is, dest_quantifier_is}
use Rattle.hol_match.specs.Rules.{nodes}
use Rattle.hol_match.proofs.Opened.{nodes_opened}
use Rattle.hol_goal.specs.Goal.{GoalValue}
use Rattle.hol_goal.specs.Answer.{UsedValue}
use Rattle.hol_just.specs.Leaving.{assuming}
use Rattle.hol_just.specs.Strip.{AvoidedValue, Piece, Conjuncts, Disjuncts, Property, Closing, Dropped, Kept, plain_piece, piece, WaitingValue, waiting, new_name, split_by, becomes, Stripped, Leaves, RunsOut, before_goals, and_also, strip_each, strip_parts, strip_in, all_nodes, strip}
use Rattle.hol_just.specs.Weights.{weight, all_weights}

-- ---- which piece is which

-- what is found by taking apart, first conjunctions, then disjunctions, then existential formulas
module _ (p : Nameless) where
  pub record IsCompound (c : Piece) : Type 0 where
    pub conjuncts : (a b : Nameless) → c ≡ Conjuncts a b → p ≡ conjunction a b
    pub disjuncts : (a b : Nameless) → c ≡ Disjuncts a b → p ≡ disjunction a b
    pub property : (x : Abstraction) → c ≡ Property x → p ≡ existential x

  plain_one : (b d : Bool) → IsCompound (cond b Closing (cond d Dropped Kept))
  plain_one true d = record { conjuncts = λ a b e. absurd (cc); disjuncts = λ a b e. absurd (cc); property = λ x e. absurd (cc) }
  plain_one false true = record { conjuncts = λ a b e. absurd (cc); disjuncts = λ a b e. absurd (cc); property = λ x e. absurd (cc) }
  plain_one false false = record { conjuncts = λ a b e. absurd (cc); disjuncts = λ a b e. absurd (cc); property = λ x e. absurd (cc) }

  compound :
      (c d : Option (Nameless × Nameless)) (x : Option Abstraction) (plain : Piece) → dest_conj p ≡ c → dest_disj p ≡ d → dest_exists p ≡ x → IsCompound plain →
      IsCompound (unwrap_or (option_or (option_map (λ r. Conjuncts r.0 r.1) c) (option_or (option_map (λ r. Disjuncts r.0 r.1) d) (option_map (λ y. Property y) x))) plain)
  compound (Some r) d x plain e f g h =
      record {
        conjuncts = λ a b is. dest_binary_is (codes "/\\") connective_type p r e ∙ (let first : r.0 ≡ a = cc in let second : r.1 ≡ b = cc in λ i. conjunction (first i) (second i));
        disjuncts = λ a b is. absurd (cc);
        property = λ y is. absurd (cc);
      }
  compound None (Some r) x plain e f g h =
      record {
        conjuncts = λ a b is. absurd (cc);
        disjuncts = λ a b is. dest_binary_is (codes "\\/") connective_type p r f ∙ (let first : r.0 ≡ a = cc in let second : r.1 ≡ b = cc in λ i. disjunction (first i) (second i));
        property = λ y is. absurd (cc);
      }
  compound None None (Some y) plain e f g h =
      record {
        conjuncts = λ a b is. absurd (cc);
        disjuncts = λ a b is. absurd (cc);
        property = λ z is. dest_quantifier_is (codes "?") p y g ∙ (let same : y ≡ z = cc in ap existential same);
      }
  compound None None None plain e f g h = h

  pub is_compound : (goal : GoalValue) → IsCompound (piece goal p)
  is_compound goal = compound (dest_conj p) (dest_disj p) (dest_exists p) (plain_piece goal p) refl refl refl (plain_one (is_falsity p || alpha_eq p goal.conclusion) (is_truth p || list_any (alpha_eq p) goal.assumptions))

-- ---- fewer nodes

pub some_node : (t : Nameless) → 1 ≤ nodes t
some_node (free v) = omega arith
some_node (bound i) = omega arith
some_node (fixed c s) = omega arith
some_node (app f x) = omega arith
some_node (lam a s b) = omega arith

-- what is to be stripped
abbrev pub parts_of : Option (List WaitingValue × UsedValue) → List WaitingValue
parts_of None = []
parts_of (Some r) = r.0

weighs : (n : ℕ) → 1 ≤ weight n
weighs zero = omega arith
weighs (suc n) = let r = weighs n in omega (arith, r)

no_lighter : (m n : ℕ) → m ≤ n → weight m ≤ weight n
no_lighter zero n h = weighs n
no_lighter (suc m) zero h = absurd (omega (arith, h))
no_lighter (suc m) (suc n) h = let r = no_lighter m n (omega (arith, h)) in omega (arith, r)

heavier : (m n : ℕ) → m < n → weight m < weight n
heavier m n h = let r : weight m + weight m ≤ weight n = no_lighter (suc m) n (omega (arith, h)) in omega (arith, r, weighs m)

-- fewer nodes than n in each, and less weight in all
pub record IsFewer (n : ℕ) (ws : List WaitingValue) : Type 0 where
  pub each : AllByRecursion (λ w. all_nodes w.pieces < n) ws
  pub weights : all_weights ws < weight n

none_fewer : (n : ℕ) → IsFewer n []
none_fewer n = let r = weighs n in record { each = tt; weights = omega (arith, r) }

one_fewer : (w : WaitingValue) (n : ℕ) → all_nodes w.pieces < n → IsFewer n (w ∷ [])
one_fewer w n h = let r = heavier (all_nodes w.pieces) n h in record { each = (h, tt); weights = omega (arith, r) }

two_fewer : (v w : WaitingValue) (n : ℕ) → all_nodes v.pieces + 2 ≤ n → all_nodes w.pieces + 2 ≤ n → IsFewer n (v ∷ w ∷ [])
two_fewer v w n h k =
    let a = all_nodes v.pieces in
    let b = all_nodes w.pieces in
    let first : (weight a + weight a) + (weight a + weight a) ≤ weight n = no_lighter (suc (suc a)) n (omega (arith, h)) in
    let second : (weight b + weight b) + (weight b + weight b) ≤ weight n = no_lighter (suc (suc b)) n (omega (arith, k)) in
    let some = weighs a in
    record { each = (omega (arith, h), (omega (arith, k), tt)); weights = omega (arith, first, second, some) }

-- where turns are left, of p \/ q
split_fewer :
    (p a b : Nameless) (ps : List Nameless) (goal : GoalValue) → p ≡ disjunction a b → (tested : List (List ℕ)) (turns : ℕ) →
    IsFewer (nodes p + all_nodes ps) (parts_of (split_by a b ps goal tested turns))
split_fewer p a b ps goal is tested zero = none_fewer (nodes p + all_nodes ps)
split_fewer p a b ps goal is tested (suc turns) =
    let e : nodes p ≡ 1 + (1 + 1 + nodes a) + nodes b = ap nodes is in
    two_fewer (waiting (a ∷ ps) goal) (waiting (b ∷ ps) goal) (nodes p + all_nodes ps) (omega (arith, e)) (omega (arith, e))

pub parts_fewer :
    (avoided : AvoidedValue) (p : Nameless) (ps : List Nameless) (goal : GoalValue) (used : UsedValue) (c : Piece) → IsCompound p c →
    IsFewer (nodes p + all_nodes ps) (parts_of (becomes avoided p ps goal c used))
parts_fewer avoided p ps goal used (Conjuncts a b) h =
    let e : nodes p ≡ 1 + (1 + 1 + nodes a) + nodes b = ap nodes (h.conjuncts a b refl) in
    one_fewer (waiting (a ∷ b ∷ ps) goal) (nodes p + all_nodes ps) (omega (arith, e))
parts_fewer avoided p ps goal used (Disjuncts a b) h = split_fewer p a b ps goal (h.disjuncts a b refl) used.tested used.turns_left
parts_fewer avoided p ps goal used (Property x) h =
    let e : nodes p ≡ 1 + 1 + (1 + nodes x.body) = ap nodes (h.property x refl) in
    let v : List ℕ × TypeTree = ((new_name avoided (p ∷ ps) goal x).name, x.domain) in
    let same : nodes (open_with (free v) 0 x.body) ≡ nodes x.body = nodes_opened v 0 x.body in
    one_fewer (waiting (open_with (free v) 0 x.body ∷ ps) goal) (nodes p + all_nodes ps) (omega (arith, e, same))
parts_fewer avoided p ps goal used Closing h = none_fewer (nodes p + all_nodes ps)
parts_fewer avoided p ps goal used Dropped h = let r = some_node p in one_fewer (waiting ps goal) (nodes p + all_nodes ps) (omega (arith, r))
parts_fewer avoided p ps goal used Kept h = let r = some_node p in one_fewer (waiting ps (assuming goal p goal.conclusion)) (nodes p + all_nodes ps) (omega (arith, r))

-- ---- one after the other

also_same : (s : Stripped) (f g : UsedValue → Stripped) → ((t : UsedValue) → f t ≡ g t) → and_also s f ≡ and_also s g
also_same (Leaves goals used) f g same = ap (before_goals goals) (same used)
also_same (RunsOut tested) f g same = refl

each_same :
    (f g : WaitingValue → UsedValue → Stripped) (n : ℕ) (ws : List WaitingValue) (used : UsedValue) → ((w : WaitingValue) (t : UsedValue) → all_nodes w.pieces < n → f w t ≡ g w t) →
    AllByRecursion (λ w. all_nodes w.pieces < n) ws → strip_each f ws used ≡ strip_each g ws used
each_same f g n [] used same h = refl
each_same f g n (w ∷ ws) used same h =
    ap (λ s. and_also s (strip_each f ws)) (same w used h.0) ∙ also_same (g w used) (strip_each f ws) (strip_each g ws) (λ t. each_same f g n ws t same h.1)

parts_same :
    (f g : WaitingValue → UsedValue → Stripped) (n : ℕ) (tested : List (List ℕ)) (o : Option (List WaitingValue × UsedValue)) → ((w : WaitingValue) (t : UsedValue) → all_nodes w.pieces < n → f w t ≡ g w t) →
    AllByRecursion (λ w. all_nodes w.pieces < n) (parts_of o) → strip_parts f tested o ≡ strip_parts g tested o
parts_same f g n tested None same h = refl
parts_same f g n tested (Some r) same h = each_same f g n r.0 r.1 same h

-- ---- steps enough

module _ (avoided : AvoidedValue) where
  first_same :
      (m n : ℕ) (p : Nameless) (ps : List Nameless) (goal : GoalValue) (used : UsedValue) →
      ((w : WaitingValue) (t : UsedValue) → all_nodes w.pieces < nodes p + all_nodes ps → strip_in m avoided w t ≡ strip_in n avoided w t) →
      strip_in (suc m) avoided (waiting (p ∷ ps) goal) used ≡ strip_in (suc n) avoided (waiting (p ∷ ps) goal) used
  first_same m n p ps goal used same =
      parts_same (strip_in m avoided) (strip_in n avoided) (nodes p + all_nodes ps) used.tested (becomes avoided p ps goal (piece goal p) used) same
      (parts_fewer avoided p ps goal used (piece goal p) (is_compound p goal)).each

  enough : (m n : ℕ) (ps : List Nameless) (goal : GoalValue) (used : UsedValue) → all_nodes ps ≤ m → all_nodes ps ≤ n → strip_in m avoided (waiting ps goal) used ≡ strip_in n avoided (waiting ps goal) used
  enough zero zero ps goal used h k = refl
  enough zero (suc n) [] goal used h k = refl
  enough zero (suc n) (p ∷ ps) goal used h k = let r = some_node p in absurd (omega (arith, r, h))
  enough (suc m) zero [] goal used h k = refl
  enough (suc m) zero (p ∷ ps) goal used h k = let r = some_node p in absurd (omega (arith, r, k))
  enough (suc m) (suc n) [] goal used h k = refl
  enough (suc m) (suc n) (p ∷ ps) goal used h k =
      first_same m n p ps goal used (λ w t l. enough m n w.pieces w.goal t (omega (arith, h, l)) (omega (arith, k, l)))

  pub by_pieces : (p : Nameless) (ps : List Nameless) (goal : GoalValue) (used : UsedValue) → strip avoided (waiting (p ∷ ps) goal) used ≡ strip_parts (strip avoided) used.tested (becomes avoided p ps goal (piece goal p) used)
  by_pieces p ps goal used = by (nodes p + all_nodes ps) refl
    where
      by : (n : ℕ) → nodes p + all_nodes ps ≡ n → strip_in n avoided (waiting (p ∷ ps) goal) used ≡ strip_parts (strip avoided) used.tested (becomes avoided p ps goal (piece goal p) used)
      by zero e = let r = some_node p in absurd (omega (arith, r, e))
      by (suc n) e =
          parts_same (strip_in n avoided) (strip avoided) (nodes p + all_nodes ps) used.tested (becomes avoided p ps goal (piece goal p) used)
          (λ w t l. enough n (all_nodes w.pieces) w.pieces w.goal t (omega (arith, e, l)) (omega arith))
          (parts_fewer avoided p ps goal used (piece goal p) (is_compound p goal)).each

-- ---- goals before avoided

pub before_none : (s : Stripped) → before_goals [] s ≡ s
before_none (Leaves goals used) = refl
before_none (RunsOut tested) = refl

pub before_both : (first second : List GoalValue) (s : Stripped) → before_goals (first ++ second) s ≡ before_goals first (before_goals second s)
before_both first second (Leaves goals used) = λ i. Leaves (append_assoc first second goals i) used
before_both first second (RunsOut tested) = refl

before_also : (goals : List GoalValue) (s : Stripped) (f : UsedValue → Stripped) → and_also (before_goals goals s) f ≡ before_goals goals (and_also s f)
before_also goals (Leaves more used) f = before_both goals more (f used)
before_also goals (RunsOut tested) f = refl

also_again : (s : Stripped) (f g : UsedValue → Stripped) → and_also (and_also s f) g ≡ and_also s (λ t. and_also (f t) g)
also_again (Leaves goals used) f g = before_also goals (f used) g
also_again (RunsOut tested) f g = refl

each_append : (f : WaitingValue → UsedValue → Stripped) (vs ws : List WaitingValue) (used : UsedValue) → strip_each f (vs ++ ws) used ≡ and_also (strip_each f vs used) (strip_each f ws)
each_append f [] ws used = sym (before_none (strip_each f ws used))
each_append f (v ∷ vs) ws used =
    also_same (f v used) (strip_each f (vs ++ ws)) (λ t. and_also (strip_each f vs t) (strip_each f ws)) (λ t. each_append f vs ws t) ∙ sym (also_again (f v used) (strip_each f vs) (strip_each f ws))

-- ---- the first of what waits

module _ (avoided : AvoidedValue) (ws : List WaitingValue) (used : UsedValue) where
  pub next_done : (goal : GoalValue) → strip_each (strip avoided) (waiting [] goal ∷ ws) used ≡ before_goals (goal ∷ []) (strip_each (strip avoided) ws used)
  next_done goal = refl

  pub next_parts :
      (p : Nameless) (ps : List Nameless) (goal : GoalValue) (vs : List WaitingValue) (left : UsedValue) → becomes avoided p ps goal (piece goal p) used ≡ Some (vs, left) →
      strip_each (strip avoided) (waiting (p ∷ ps) goal ∷ ws) used ≡ strip_each (strip avoided) (vs ++ ws) left
  next_parts p ps goal vs left is =
      ap (λ s. and_also s (strip_each (strip avoided) ws)) (by_pieces avoided p ps goal used ∙ ap (strip_parts (strip avoided) used.tested) is) ∙ sym (each_append (strip avoided) vs ws left)

  pub next_none :
      (p : Nameless) (ps : List Nameless) (goal : GoalValue) → becomes avoided p ps goal (piece goal p) used ≡ None → strip_each (strip avoided) (waiting (p ∷ ps) goal ∷ ws) used ≡ RunsOut used.tested
  next_none p ps goal is = ap (λ s. and_also s (strip_each (strip avoided) ws)) (by_pieces avoided p ps goal used ∙ ap (strip_parts (strip avoided) used.tested) is)
