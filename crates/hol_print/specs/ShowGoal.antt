-- The texts of a goal: its assumptions, its free variables with their types, and its conclusion.
-- Source: this project; HOL Light's printer shows a goal's types only where asked.
use Rattle.std.specs.Prelude.{ℕ, List, [], ◌∷◌, ◌++◌, codes, cond, map, string_bytes}
use Rattle.std.specs.Ordering.{is_lt, ordering_then}
use Rattle.std.specs.declared.cmp.Ordering.{Ordering}
use Rattle.hol_types.specs.Tree.{TypeTree}
use Rattle.hol_types.specs.Order.{name_cmp}
use Rattle.hol_terms.specs.Nameless.{Nameless, free_occurrences}
use Rattle.hol_terms.specs.Scoped.{binds, add_all}
use Rattle.hol_print.specs.declared.shown_goal.ShownGoal.{ShownGoal}
use Rattle.hol_print.specs.ShowType.{show_type}
use Rattle.hol_print.specs.ShowTerm.{show}

-- by the bytes of the names, then of the types' texts
abbrev pub variable_order : List ℕ × TypeTree → List ℕ × TypeTree → Ordering
variable_order v w = ordering_then (name_cmp v.0 w.0) (name_cmp (show_type v.1) (show_type w.1))

-- v before the first variable that comes after it
abbrev pub put_in_order : List ℕ × TypeTree → List (List ℕ × TypeTree) → List (List ℕ × TypeTree)
put_in_order v [] = v ∷ []
put_in_order v (w ∷ ws) = cond (is_lt (variable_order v w)) (v ∷ w ∷ ws) (w ∷ put_in_order v ws)

-- each once
abbrev pub put_new : List ℕ × TypeTree → List (List ℕ × TypeTree) → List (List ℕ × TypeTree)
put_new v ws = cond (binds ws v) ws (put_in_order v ws)

abbrev pub put_all : List (List ℕ × TypeTree) → List (List ℕ × TypeTree) → List (List ℕ × TypeTree)
put_all ws [] = ws
put_all ws (v ∷ vs) = put_all (put_new v ws) vs

-- the free variables of a term, each once, by first occurrence
abbrev pub free_variables : Nameless → List (List ℕ × TypeTree)
free_variables t = add_all [] (free_occurrences t)

abbrev pub put_terms : List (List ℕ × TypeTree) → List Nameless → List (List ℕ × TypeTree)
put_terms ws [] = ws
put_terms ws (t ∷ ts) = put_terms (put_all ws (free_variables t)) ts

-- the free variables of a goal, each once, in order
abbrev pub goal_variables : List Nameless → Nameless → List (List ℕ × TypeTree)
goal_variables asl concl = put_terms (put_all [] (free_variables concl)) asl

-- `name:type`
abbrev pub variable_text : List ℕ × TypeTree → List ℕ
variable_text v = v.0 ++ codes ":" ++ show_type v.1

pub record GoalText : Type 0 where
  pub asl : List (List ℕ)
  pub free : List (List ℕ)
  pub goal : List ℕ

abbrev pub show_goal : List Nameless → Nameless → GoalText
show_goal asl concl = record {
  asl = map show asl;
  free = map variable_text (goal_variables asl concl);
  goal = show concl;
}

-- the texts that a shown goal of the code holds
abbrev pub goal_text : ShownGoal → GoalText
goal_text shown = record {
  asl = map string_bytes shown.asl.items;
  free = map string_bytes shown.free.items;
  goal = string_bytes shown.goal;
}
