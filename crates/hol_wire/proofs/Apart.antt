-- Replies are told apart by their lines: each is read back out of its JSON.
use Rattle.std.proofs.Common.{◌≡◌, ℕ, List, [], ◌∷◌, map, Bool, true, false, cond, Option, Some, None, refl, sym, ap, ap₂, ◌∙◌, arith, inl, inr}
use Rattle.std.specs.Prelude.{◌⊎◌, ◌<◌, ◌≤◌, ◌^◌, codes, decimal, slice_index_or}
use Rattle.std.specs.Str.{bytes_eq}
use Rattle.std.proofs.lemmas.List.{append_cancel_right}
use Rattle.std.proofs.lemmas.Option.{same_Some}
use Rattle.std.proofs.lemmas.Fmt.{decimal_is_IsNumeral}
use Rattle.std.specs.Str.Parse.{digits_value}
use Rattle.json.specs.Json as json
use Rattle.json.specs.Tree as tree
use Rattle.json.proofs.Printed.Trees.{document-print}
use Rattle.json.proofs.Printed.Decimals.{IsNumber-decimal}
use Rattle.serde_json.specs.Data.{string}
use Rattle.serde_json.specs.View.{items_of}
use Rattle.serde_json.specs.Written.{compact_text, outline, items_outline}
use Rattle.serde_json.proofs.Texts.{print-outline}
use Rattle.hol_exec.specs.ShowGoal.{GoalText}
use Rattle.hol_exec.specs.Refusal.{kind_number}
use Rattle.hol_exec.specs.declared.reports.refusal.RefusalKind.{RefusalKind}
use Rattle.hol_exec.specs.declared.reports.refusal.RefusalKind.TheVariants as kind
use Rattle.hol_exec.specs.ReportValue.{ReportValue, ShowsGoals, HasMade, WasRefused}
use Rattle.hol_wire.specs.Apart.{AreDoneAndClosed, HasCount}
use Rattle.hol_document.specs.declared.error.Refusal.TheVariants.{UnknownTheory, TheoryNameTaken, BadTheoryName, PositionOutOfRange, TooMany}
use Rattle.hol_wire.specs.Replies.{RequestRefusal, LineTooLong, NotJson, Shape, ByDocuments, Memory, ReplyValue, Refused, Done, Reports, Lists, RestsOn, Counts, Closed, refusal_number, goal_data, items_data, report_data, reply_data, reply_line, closes}

-- ---- what is read out of JSON

abbrev text_in : json.Json → List ℕ
text_in json.null = []
text_in (json.boolean b) = []
text_in (json.number s) = s
text_in (json.string s) = s
text_in (json.array js) = []
text_in (json.object ms) = []

abbrev number_in : json.Json → ℕ
number_in j = digits_value 10 (text_in j)

abbrev texts_of : json.Items → List (List ℕ)
texts_of json.no_items = []
texts_of (json.item j js) = text_in j ∷ texts_of js

abbrev texts_in : json.Json → List (List ℕ)
texts_in json.null = []
texts_in (json.boolean b) = []
texts_in (json.number s) = []
texts_in (json.string s) = []
texts_in (json.array js) = texts_of js
texts_in (json.object ms) = []

abbrev items_in : json.Json → Option (List (List ℕ))
items_in json.null = None
items_in (json.boolean b) = None
items_in (json.number s) = None
items_in (json.string s) = None
items_in (json.array js) = Some (texts_of js)
items_in (json.object ms) = None

-- the value under the first key, the second and the third
abbrev first : json.Members → json.Json
first json.no_members = json.null
first (json.member k j ms) = j

abbrev rest : json.Members → json.Members
rest json.no_members = json.no_members
rest (json.member k j ms) = ms

abbrev first_key : json.Members → List ℕ
first_key json.no_members = []
first_key (json.member k j ms) = k

abbrev members_in : json.Json → json.Members
members_in json.null = json.no_members
members_in (json.boolean b) = json.no_members
members_in (json.number s) = json.no_members
members_in (json.string s) = json.no_members
members_in (json.array js) = json.no_members
members_in (json.object ms) = ms

abbrev goal_of : json.Members → GoalText
goal_of ms = record { asl = texts_in (first ms); free = texts_in (first (rest ms)); goal = text_in (first (rest (rest ms))) }

abbrev goals_of : json.Items → List GoalText
goals_of json.no_items = []
goals_of (json.item j js) = goal_of (members_in j) ∷ goals_of js

abbrev goals_in : json.Json → List GoalText
goals_in json.null = []
goals_in (json.boolean b) = []
goals_in (json.number s) = []
goals_in (json.string s) = []
goals_in (json.array js) = goals_of js
goals_in (json.object ms) = []

-- the refusals by their numbers
abbrev request_refusals : List RequestRefusal
request_refusals = Memory ∷ LineTooLong ∷ NotJson ∷ Shape ∷ ByDocuments UnknownTheory ∷ ByDocuments TheoryNameTaken ∷ ByDocuments BadTheoryName ∷ ByDocuments PositionOutOfRange
    ∷ ByDocuments TooMany ∷ Memory ∷ []

abbrev kinds : List RefusalKind
kinds = kind.Syntax ∷ kind.Syntax ∷ kind.InProof ∷ kind.NoProofOpen ∷ kind.UnknownTheory ∷ kind.UnknownTheorem ∷ kind.UnknownTac ∷ kind.Untypable ∷ kind.NotBool ∷ kind.Arity ∷ kind.NameTaken
    ∷ kind.NotClosed ∷ kind.NotReflected ∷ kind.TooLarge ∷ kind.BadRule ∷ kind.HypsNotAssumed ∷ kind.NoGoalOpen ∷ kind.Refused ∷ kind.TurnLimit ∷ kind.GoalsRemain
    ∷ kind.NothingToUndo ∷ kind.ImportClash ∷ []

abbrev refusal_at : ℕ → RequestRefusal
refusal_at n = slice_index_or request_refusals n Memory

abbrev kind_at : ℕ → RefusalKind
kind_at n = slice_index_or kinds n kind.Syntax

-- a reply that says that it is accepted, by its second member
abbrev accepted : json.Members → ReplyValue
accepted json.no_members = Done
accepted (json.member k j ms) = cond (bytes_eq k (codes "ran")) (Counts (number_in j)) (Lists (texts_in j))

abbrev by_key : List ℕ → json.Members → ReplyValue
by_key k ms =
    cond (bytes_eq k (codes "ok")) (accepted (rest ms))
    (cond (bytes_eq k (codes "error")) (Refused (refusal_at (number_in (first ms))))
    (cond (bytes_eq k (codes "goals")) (Reports (ShowsGoals (goals_in (first ms))))
    (cond (bytes_eq k (codes "made")) (Reports (HasMade (texts_in (first ms))))
    (cond (bytes_eq k (codes "arg")) (Reports (WasRefused (kind_at (number_in (first (rest (rest ms))))) (text_in (first ms))))
    (RestsOn (items_in (first ms)))))))

abbrev reply_in : json.Json → ReplyValue
reply_in j = by_key (first_key (members_in j)) (members_in j)

-- ---- what is read out of a reply's JSON is the reply

number_back : (n : ℕ) → n < 2 ^ 64 → digits_value 10 (decimal n) ≡ n
number_back n h = (decimal_is_IsNumeral n h).1

texts_back : (texts : List (List ℕ)) → texts_of (items_outline (items_of (map string texts))) ≡ texts
texts_back [] = refl
texts_back (text ∷ texts) = ap (λ l. text ∷ l) (texts_back texts)

goal_back : (goal : GoalText) → goal_of (members_in (outline (goal_data goal))) ≡ goal
goal_back goal =
    ap₂ (λ a f. record { asl = a; free = f; goal = goal.goal }) (texts_back goal.asl) (texts_back goal.free)

goals_back : (goals : List GoalText) → goals_of (items_outline (items_of (map goal_data goals))) ≡ goals
goals_back [] = refl
goals_back (goal ∷ goals) = ap₂ (λ g l. g ∷ l) (goal_back goal) (goals_back goals)

kind_back : (k : RefusalKind) → kind_at (kind_number k) ≡ k
kind_back kind.Syntax = refl
kind_back kind.InProof = refl
kind_back kind.NoProofOpen = refl
kind_back kind.UnknownTheory = refl
kind_back kind.UnknownTheorem = refl
kind_back kind.UnknownTac = refl
kind_back kind.Untypable = refl
kind_back kind.NotBool = refl
kind_back kind.Arity = refl
kind_back kind.NameTaken = refl
kind_back kind.NotClosed = refl
kind_back kind.NotReflected = refl
kind_back kind.TooLarge = refl
kind_back kind.BadRule = refl
kind_back kind.HypsNotAssumed = refl
kind_back kind.NoGoalOpen = refl
kind_back kind.Refused = refl
kind_back kind.TurnLimit = refl
kind_back kind.GoalsRemain = refl
kind_back kind.NothingToUndo = refl
kind_back kind.ImportClash = refl

kind_small : (k : RefusalKind) → kind_number k < 2 ^ 64
kind_small kind.Syntax = omega arith
kind_small kind.InProof = omega arith
kind_small kind.NoProofOpen = omega arith
kind_small kind.UnknownTheory = omega arith
kind_small kind.UnknownTheorem = omega arith
kind_small kind.UnknownTac = omega arith
kind_small kind.Untypable = omega arith
kind_small kind.NotBool = omega arith
kind_small kind.Arity = omega arith
kind_small kind.NameTaken = omega arith
kind_small kind.NotClosed = omega arith
kind_small kind.NotReflected = omega arith
kind_small kind.TooLarge = omega arith
kind_small kind.BadRule = omega arith
kind_small kind.HypsNotAssumed = omega arith
kind_small kind.NoGoalOpen = omega arith
kind_small kind.Refused = omega arith
kind_small kind.TurnLimit = omega arith
kind_small kind.GoalsRemain = omega arith
kind_small kind.NothingToUndo = omega arith
kind_small kind.ImportClash = omega arith

refusal_back : (refusal : RequestRefusal) → refusal_at (refusal_number refusal) ≡ refusal
refusal_back LineTooLong = refl
refusal_back NotJson = refl
refusal_back Shape = refl
refusal_back (ByDocuments UnknownTheory) = refl
refusal_back (ByDocuments TheoryNameTaken) = refl
refusal_back (ByDocuments BadTheoryName) = refl
refusal_back (ByDocuments PositionOutOfRange) = refl
refusal_back (ByDocuments TooMany) = refl
refusal_back Memory = refl

refusal_small : (refusal : RequestRefusal) → refusal_number refusal < 2 ^ 64
refusal_small LineTooLong = omega arith
refusal_small NotJson = omega arith
refusal_small Shape = omega arith
refusal_small (ByDocuments UnknownTheory) = omega arith
refusal_small (ByDocuments TheoryNameTaken) = omega arith
refusal_small (ByDocuments BadTheoryName) = omega arith
refusal_small (ByDocuments PositionOutOfRange) = omega arith
refusal_small (ByDocuments TooMany) = omega arith
refusal_small Memory = omega arith

-- the reply to `close` reads as the one to an edit
abbrev opened : ReplyValue → ReplyValue
opened reply = cond (closes reply) Done reply

items_back : (items : Option (List (List ℕ))) → items_in (outline (items_data items)) ≡ items
items_back None = refl
items_back (Some items) = ap Some (texts_back items)

report_back : (report : ReportValue) → reply_in (outline (report_data report)) ≡ Reports report
report_back (ShowsGoals goals) = ap (λ l. Reports (ShowsGoals l)) (goals_back goals)
report_back (HasMade texts) = ap (λ l. Reports (HasMade l)) (texts_back texts)
report_back (WasRefused k arg) = ap (λ c. Reports (WasRefused c arg)) (ap kind_at (number_back (kind_number k) (kind_small k)) ∙ kind_back k)

reply_back : (reply : ReplyValue) → HasCount reply → reply_in (outline (reply_data reply)) ≡ opened reply
reply_back (Refused refusal) h = ap Refused (ap refusal_at (number_back (refusal_number refusal) (refusal_small refusal)) ∙ refusal_back refusal)
reply_back Done h = refl
reply_back (Reports report) h = report_back report
reply_back (Lists texts) h = ap Lists (texts_back texts)
reply_back (RestsOn items) h = ap RestsOn (items_back items)
reply_back (Counts ran) h = ap Counts (number_back ran h)
reply_back Closed h = refl

-- ---- the JSON is read out of its text: it has numbers, and few brackets in one another

texts_have_numbers : (texts : List (List ℕ)) → tree.ItemsHaveNumbers (items_outline (items_of (map string texts)))
texts_have_numbers [] = tt
texts_have_numbers (text ∷ texts) = (tt, texts_have_numbers texts)

goals_have_numbers : (goals : List GoalText) → tree.ItemsHaveNumbers (items_outline (items_of (map goal_data goals)))
goals_have_numbers [] = tt
goals_have_numbers (goal ∷ goals) = ((texts_have_numbers goal.asl, (texts_have_numbers goal.free, (tt, tt))), goals_have_numbers goals)

items_have_numbers : (items : Option (List (List ℕ))) → tree.HasNumbers (outline (items_data items))
items_have_numbers None = tt
items_have_numbers (Some items) = texts_have_numbers items

report_has_numbers : (report : ReportValue) → tree.HasNumbers (outline (report_data report))
report_has_numbers (ShowsGoals goals) = (goals_have_numbers goals, (tt, tt))
report_has_numbers (HasMade texts) = (texts_have_numbers texts, (tt, tt))
report_has_numbers (WasRefused k arg) = (tt, (tt, (IsNumber-decimal (kind_number k) (kind_small k), (tt, tt))))

has_numbers : (reply : ReplyValue) → HasCount reply → tree.HasNumbers (outline (reply_data reply))
has_numbers (Refused refusal) h = (IsNumber-decimal (refusal_number refusal) (refusal_small refusal), (tt, (tt, tt)))
has_numbers Done h = (tt, tt)
has_numbers (Reports report) h = report_has_numbers report
has_numbers (Lists texts) h = (tt, (texts_have_numbers texts, tt))
has_numbers (RestsOn items) h = (items_have_numbers items, (tt, tt))
has_numbers (Counts ran) h = (tt, (IsNumber-decimal ran h, tt))
has_numbers Closed h = (tt, tt)

texts_are_flat : (texts : List (List ℕ)) → tree.items_depth (items_outline (items_of (map string texts))) ≤ 0
texts_are_flat [] = omega arith
texts_are_flat (text ∷ texts) = omega (arith, texts_are_flat texts)

goals_are_shallow : (goals : List GoalText) → tree.items_depth (items_outline (items_of (map goal_data goals))) ≤ 2
goals_are_shallow [] = omega arith
goals_are_shallow (goal ∷ goals) = omega (arith, texts_are_flat goal.asl, texts_are_flat goal.free, goals_are_shallow goals)

items_are_shallow : (items : Option (List (List ℕ))) → tree.depth (outline (items_data items)) ≤ 1
items_are_shallow None = omega arith
items_are_shallow (Some items) = omega (arith, texts_are_flat items)

report_is_shallow : (report : ReportValue) → tree.depth (outline (report_data report)) ≤ 4
report_is_shallow (ShowsGoals goals) = omega (arith, goals_are_shallow goals)
report_is_shallow (HasMade texts) = omega (arith, texts_are_flat texts)
report_is_shallow (WasRefused k arg) = omega arith

is_shallow : (reply : ReplyValue) → tree.depth (outline (reply_data reply)) ≤ 4
is_shallow (Refused refusal) = omega arith
is_shallow Done = omega arith
is_shallow (Reports report) = report_is_shallow report
is_shallow (Lists texts) = omega (arith, texts_are_flat texts)
is_shallow (RestsOn items) = omega (arith, items_are_shallow items)
is_shallow (Counts ran) = omega arith
is_shallow Closed = omega arith

text_back : (reply : ReplyValue) → HasCount reply → json.document (compact_text (reply_data reply)) ≡ Some (outline (reply_data reply))
text_back reply h =
    ap json.document (sym (print-outline (reply_data reply))) ∙ document-print (outline (reply_data reply)) (has_numbers reply h) (omega (arith, is_shallow reply))

opened_same : (a b : ReplyValue) → HasCount a → HasCount b → reply_line a ≡ reply_line b → opened a ≡ opened b
opened_same a b h k e =
    let texts : compact_text (reply_data a) ≡ compact_text (reply_data b) = append_cancel_right (compact_text (reply_data a)) (compact_text (reply_data b)) (10 ∷ []) e in
    let values : Some (outline (reply_data a)) ≡ Some (outline (reply_data b)) = sym (text_back a h) ∙ ap json.document texts ∙ text_back b k in
    sym (reply_back a h) ∙ ap reply_in (same_Some _ _ values) ∙ reply_back b k

closed_is : (reply : ReplyValue) → closes reply ≡ true → reply ≡ Closed
closed_is (Refused refusal) e = absurd (cc)
closed_is Done e = absurd (cc)
closed_is (Reports report) e = absurd (cc)
closed_is (Lists texts) e = absurd (cc)
closed_is (RestsOn items) e = absurd (cc)
closed_is (Counts ran) e = absurd (cc)
closed_is Closed e = refl

pub lines_tell_apart : (a b : ReplyValue) → HasCount a → HasCount b → reply_line a ≡ reply_line b → (a ≡ b) ⊎ AreDoneAndClosed a b
lines_tell_apart a b h k e = by (closes a) (closes b) refl refl (opened_same a b h k e)
  where
    by : (x y : Bool) → closes a ≡ x → closes b ≡ y → cond x Done a ≡ cond y Done b → (a ≡ b) ⊎ AreDoneAndClosed a b
    by true true p q same = inl (closed_is a p ∙ sym (closed_is b q))
    by true false p q same = inr (inr (closed_is a p, sym same))
    by false true p q same = inr (inl (same, closed_is b q))
    by false false p q same = inl same
