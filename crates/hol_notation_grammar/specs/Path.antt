-- What only private clauses speak of: what was read, and what is still to be read.
use Rattle.std.specs.Prelude.{◌≡◌, Bool, true, false, ℕ, List, [], ◌∷◌, ◌++◌, Option, Some, None}
use Rattle.hol_notation_grammar.specs.declared.sort.Sort.{Sort}
use Rattle.hol_notation_tokens.specs.Lexeme.{Lexeme}
use Rattle.hol_notation_grammar.specs.declared.grammar.Rule.{Rule}
use Rattle.hol_notation_grammar.specs.declared.grammar.Production.{Production}
use Rattle.hol_notation_grammar.specs.declared.grammar.Symbol.{Symbol}
use Rattle.hol_notation_grammar.specs.declared.grammar.Symbol.TheVariants.{Token, Part}
use Rattle.hol_notation_grammar.specs.declared.grammar.Class.{Class}
use Rattle.hol_notation_grammar.specs.Sort.{sort_of}
use Rattle.hol_notation_grammar.specs.Table.{binds}
use Rattle.hol_notation_grammar.specs.Grammar.{Grammar, Tree, Trees, then, all_then, Stands, AllStand, StepText, steps, all_steps, opens, IsAmong, named, add_if, AreNew}
use Rattle.hol_notation_grammar.specs.Ending.{IsReady}
use Rattle.hol_notation_grammar.specs.Reading.{IsNext, IsText, Stops}

pub record Up (G : Grammar) (n : Rule) (front more : List Lexeme) (events : List StepText) (ts : Trees) : Type 0 where
  pub written : Tree
  pub stands : Stands G n written []
  pub whole : front ++ more ≡ then written []
  pub says : steps written ≡ events ++ all_steps ts

pub record Down (G : Grammar) (todo : List Symbol) (more : List Lexeme) (events : List StepText) (t : Tree) : Type 0 where
  pub written : Trees
  pub stands : AllStand G written todo []
  pub whole : more ≡ all_then written []
  pub says : steps t ≡ events ++ all_steps written

-- The front was read, by these steps, and these parts are still to be read: with them it is a text, and a text that
-- begins with the front has them, for what may come next.
pub record Path (G : Grammar) (n : Rule) (front : List Lexeme) (todo : List Symbol) (events : List StepText) (May : List Lexeme → Type 0) : Type 0 where
  pub up : (ts : Trees) (more : List Lexeme) → May more → AllStand G ts todo [] → more ≡ all_then ts [] → Up G n front more events ts
  pub ready : IsReady G None todo
  pub down : (t : Tree) (more : List Lexeme) → May more → Stands G n t [] → front ++ more ≡ then t [] → Down G todo more events t

-- anything may come next
abbrev pub Any : List Lexeme → Type 0
Any more = Unit {0}

abbrev pub sort_next : Option Lexeme → Option Sort
sort_next None = None
sort_next (Some x) = Some (sort_of x)

-- whether the next token can begin what is written of a rule
abbrev pub opens_next : Grammar → Rule → Option Sort → Bool
opens_next G n None = false
opens_next G n (Some k) = opens G n k

-- a rule of which nothing can be left out
abbrev pub IsFull : Grammar → Rule → Type 0
IsFull G n = (p : Production) → IsAmong p (G.productions n) → G.symbols p ≡ [] → ⊥

-- the production by which what is to be read next is left out
abbrev pub IsOmitted : Grammar → Option Sort → Production → Symbol → Type 0
IsOmitted G next p (Token c) = ⊥
IsOmitted G next p (Part n) = (opens_next G n next ≡ false) × (IsAmong p (G.productions n) × (G.symbols p ≡ []))

-- what is to be read next is not left out
abbrev pub IsNeeded : Grammar → Option Sort → Symbol → Type 0
IsNeeded G next (Token c) = Unit {0}
IsNeeded G next (Part n) = opens_next G n next ≡ false → IsFull G n

-- steps of the machine keep the path and the names, where a token of this sort comes next
abbrev pub Keeps : Grammar → Option Sort → List Symbol → List StepText → List Symbol → List StepText → Type 0
Keeps G k todo events todo_ events_ =
    (named events_ ≡ named events)
    × ((n : Rule) (front : List Lexeme) (next : Option Lexeme) → sort_next next ≡ k → Path G n front todo events (IsNext next) → Path G n front todo_ events_ (IsNext next))

-- what can be left out is left out, up to what can't, if there is such
abbrev pub Omits : Grammar → Option Sort → List Symbol → List StepText → Option Symbol → List Symbol → List StepText → Type 0
Omits G k todo events None todo_ events_ = Keeps G k todo events [] events_
Omits G k todo events (Some s) todo_ events_ = IsNeeded G k s × Keeps G k todo events (s ∷ todo_) events_

-- a token is taken as one of a class
abbrev pub Takes : Grammar → Lexeme → Class → (List Lexeme → Type 0) → List Symbol → List StepText → List Symbol → List StepText → Type 0
Takes G x c May todo events todo_ events_ =
    (named events_ ≡ named events ++ add_if (binds c) x.text [])
    × ((n : Rule) (front : List Lexeme) → Path G n front todo events May → Path G n (front ++ x ∷ []) todo_ events_ Any)

-- where it comes next
abbrev pub TakesFirst : Grammar → Lexeme → Class → List Symbol → List StepText → List Symbol → List StepText → Type 0
TakesFirst G x c todo events todo_ events_ = Takes G x c (IsNext (Some x)) todo events todo_ events_

-- no tree's lexemes begin with the front and go on with this lexeme, or end there
abbrev pub Halts : Grammar → Rule → List Lexeme → Option Lexeme → Type 0
Halts G n front next = (t : Tree) (more : List Lexeme) → Stands G n t [] → IsNext next more → front ++ more ≡ then t [] → ⊥

-- a token is taken, or no tree goes on with it
abbrev pub Accepts : Grammar → Lexeme → List Symbol → List StepText → Option Class → List Symbol → List StepText → Type 0
Accepts G x todo events (Some c) todo_ events_ = Takes G x c Any todo events todo_ events_
Accepts G x todo events None todo_ events_ = (n : Rule) (front : List Lexeme) → Path G n front todo events Any → Halts G n front (Some x)

-- a name is none of those before it, or it is one
abbrev pub Notes : List (List ℕ) → Class → Lexeme → Bool → List (List ℕ) → Type 0
Notes names c x true names_ = AreNew names (add_if (binds c) x.text []) × (names_ ≡ names ++ add_if (binds c) x.text [])
Notes names c x false names_ = AreNew names (add_if (binds c) x.text []) → ⊥

-- the front was read, and its names differ
pub record IsReadTo (G : Grammar) (n : Rule) (front : List Lexeme) (todo : List Symbol) (events : List StepText) (names : List (List ℕ)) : Type 0 where
  pub path : Path G n front todo events Any
  pub same : names ≡ named events
  pub new : AreNew [] names

-- a token is read, or no text goes on with it
abbrev pub GoesOn : Grammar → Lexeme → List Symbol → List StepText → List (List ℕ) → Bool → List Symbol → List StepText → List (List ℕ) → Type 0
GoesOn G x todo events names true todo_ events_ names_ = (n : Rule) (front : List Lexeme) → IsReadTo G n front todo events names → IsReadTo G n (front ++ x ∷ []) todo_ events_ names_
GoesOn G x todo events names false todo_ events_ names_ = (n : Rule) (front : List Lexeme) → IsReadTo G n front todo events names → Stops G n front (Some x)

-- the text ends, or no text ends here
abbrev pub Closes : Grammar → List Symbol → List StepText → Bool → List StepText → Type 0
Closes G todo events true events_ = (n : Rule) (words : List Lexeme) (names : List (List ℕ)) → IsReadTo G n words todo events names → IsText G n words events_
Closes G todo events false events_ = (n : Rule) (words : List Lexeme) → Path G n words todo events Any → Stops G n words None
