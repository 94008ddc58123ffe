-- The replies, as JSON values (RFC 8259) and as bytes.
use Rattle.std.specs.Prelude.{ℕ, List, [], ◌∷◌, ◌++◌, Bool, true, false, map, codes, Option, Some, None}
use Rattle.serde_json.specs.Data.{Data, null, boolean, number, unsigned, string, array, object, no_members, member}
use Rattle.serde_json.specs.View.{items_of}
use Rattle.serde_json.specs.Written.{compact_text}
use Rattle.hol_exec.specs.Refusal.{kind_number, kind_text}
use Rattle.hol_exec.specs.ShowGoal.{GoalText}
use Rattle.hol_exec.specs.ReportValue.{ReportValue, ShowsGoals, HasMade, WasRefused}
use Rattle.hol_document.specs.declared.error.Refusal.{Refusal}
use Rattle.hol_document.specs.declared.error.Refusal.TheVariants.{UnknownTheory, TheoryNameTaken, BadTheoryName, PositionOutOfRange, TooMany}

-- why a request is refused, in the order in which the reasons are tested; the last can take the place of any answer
pub data RequestRefusal : Type 0 where
  LineTooLong : RequestRefusal
  NotJson : RequestRefusal
  Shape : RequestRefusal
  ByDocuments : Refusal → RequestRefusal
  Memory : RequestRefusal

abbrev pub refusal_number : RequestRefusal → ℕ
refusal_number LineTooLong = 1
refusal_number NotJson = 2
refusal_number Shape = 3
refusal_number (ByDocuments UnknownTheory) = 4
refusal_number (ByDocuments TheoryNameTaken) = 5
refusal_number (ByDocuments BadTheoryName) = 6
refusal_number (ByDocuments PositionOutOfRange) = 7
refusal_number (ByDocuments TooMany) = 8
refusal_number Memory = 9

abbrev pub refusal_text : RequestRefusal → List ℕ
refusal_text LineTooLong = codes "line too long"
refusal_text NotJson = codes "not JSON"
refusal_text Shape = codes "shape"
refusal_text (ByDocuments UnknownTheory) = codes "unknown theory"
refusal_text (ByDocuments TheoryNameTaken) = codes "theory name taken"
refusal_text (ByDocuments BadTheoryName) = codes "bad theory name"
refusal_text (ByDocuments PositionOutOfRange) = codes "position out of range"
refusal_text (ByDocuments TooMany) = codes "too many"
refusal_text Memory = codes "memory"

pub data ReplyValue : Type 0 where
  Refused : RequestRefusal → ReplyValue
  -- the edit is made
  Done : ReplyValue
  -- what a command's report says
  Reports : ReportValue → ReplyValue
  -- the theorems at the end of a theory
  Lists : List (List ℕ) → ReplyValue
  -- the items that a theorem rests on, or none where there is no such theorem
  RestsOn : Option (List (List ℕ)) → ReplyValue
  -- how many commands were run
  Counts : ℕ → ReplyValue
  -- the session ends
  Closed : ReplyValue

abbrev pub texts_data : List (List ℕ) → Data
texts_data texts = array (items_of (map string texts))

abbrev pub goal_data : GoalText → Data
goal_data goal =
    object (member (codes "asl") (texts_data goal.asl) (member (codes "free") (texts_data goal.free)
    (member (codes "goal") (string goal.goal) no_members)))

abbrev pub report_data : ReportValue → Data
report_data (ShowsGoals goals) =
    object (member (codes "goals") (array (items_of (map goal_data goals))) (member (codes "ok") (boolean true) no_members))
report_data (HasMade texts) = object (member (codes "made") (texts_data texts) (member (codes "ok") (boolean true) no_members))
report_data (WasRefused kind arg) =
    object (member (codes "arg") (string arg) (member (codes "ok") (boolean true)
    (member (codes "refusal") (number (unsigned (kind_number kind))) (member (codes "text") (string (kind_text kind)) no_members))))

abbrev pub items_data : Option (List (List ℕ)) → Data
items_data None = null
items_data (Some items) = texts_data items

abbrev pub reply_data : ReplyValue → Data
reply_data (Refused refusal) =
    object (member (codes "error") (number (unsigned (refusal_number refusal))) (member (codes "ok") (boolean false)
    (member (codes "text") (string (refusal_text refusal)) no_members)))
reply_data Done = object (member (codes "ok") (boolean true) no_members)
reply_data (Reports report) = report_data report
reply_data (Lists texts) = object (member (codes "ok") (boolean true) (member (codes "theorems") (texts_data texts) no_members))
reply_data (RestsOn items) = object (member (codes "items") (items_data items) (member (codes "ok") (boolean true) no_members))
reply_data (Counts ran) = object (member (codes "ok") (boolean true) (member (codes "ran") (number (unsigned ran)) no_members))
reply_data Closed = object (member (codes "ok") (boolean true) no_members)

-- compact JSON with its keys in byte order, and a newline
abbrev pub reply_line : ReplyValue → List ℕ
reply_line reply = compact_text (reply_data reply) ++ 10 ∷ []

-- whether the session ends with the reply
abbrev pub closes : ReplyValue → Bool
closes (Refused refusal) = false
closes Done = false
closes (Reports report) = false
closes (Lists texts) = false
closes (RestsOn items) = false
closes (Counts ran) = false
closes Closed = true
