-- No reply holds a floating point number.
use Rattle.std.proofs.Common.{◌≡◌, ℕ, List, [], ◌∷◌, map, Option, Some, None, false, refl}
use Rattle.serde_json.specs.Data.{string}
use Rattle.serde_json.specs.View.{items_of}
use Rattle.serde_json.specs.Written.{has_float, items_have_float}
use Rattle.hol_exec.specs.ShowGoal.{GoalText}
use Rattle.hol_exec.specs.ReportValue.{ReportValue, ShowsGoals, HasMade, WasRefused}
use Rattle.hol_wire.specs.Replies.{goal_data, report_data, Lists, RestsOn, reply_data}

pub no_text_float : (ts : List (List ℕ)) → items_have_float (items_of (map string ts)) ≡ false
no_text_float [] = refl
no_text_float (t ∷ ts) = no_text_float ts

pub no_goal_float : (g : GoalText) → has_float (goal_data g) ≡ false
no_goal_float g = rw (no_text_float g.asl, no_text_float g.free) refl

pub no_goals_float : (gs : List GoalText) → items_have_float (items_of (map goal_data gs)) ≡ false
no_goals_float [] = refl
no_goals_float (g ∷ gs) = rw (no_goal_float g, no_goals_float gs) refl

pub no_float : (report : ReportValue) → has_float (report_data report) ≡ false
no_float (ShowsGoals goals) = rw (no_goals_float goals) refl
no_float (HasMade texts) = rw (no_text_float texts) refl
no_float (WasRefused kind arg) = refl

pub no_items_float : (items : Option (List (List ℕ))) → has_float (reply_data (RestsOn items)) ≡ false
no_items_float None = refl
no_items_float (Some items) = rw (no_text_float items) refl

pub no_list_float : (texts : List (List ℕ)) → has_float (reply_data (Lists texts)) ≡ false
no_list_float texts = rw (no_text_float texts) refl
