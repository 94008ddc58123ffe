-- What a text reads as: what is written there, or the place where nothing that is written goes on.
use Rattle.std.specs.Prelude.{◌≡◌, ℕ, List, [], ◌∷◌, ◌++◌, Option, Some, None}
use Rattle.hol_notation_tokens.specs.declared.error.SyntaxError.{SyntaxError}
use Rattle.hol_notation_tokens.specs.declared.error.SyntaxError.TheVariants.{Memory, Syntax}
use Rattle.hol_notation_tokens.specs.Lexeme.{Lexeme}
use Rattle.hol_notation_grammar.specs.declared.grammar.Rule.{Rule}
use Rattle.hol_notation_grammar.specs.Grammar.{Grammar, Tree, then, Stands, StepText, steps, named, AreNew}

-- the lexemes are a text, whose tree has these steps
pub record IsText (G : Grammar) (n : Rule) (words : List Lexeme) (events : List StepText) : Type 0 where
  pub written : Tree
  pub stands : Stands G n written []
  pub different : AreNew [] (named (steps written))
  pub whole : words ≡ then written []
  pub says : events ≡ steps written

-- some text begins with these lexemes
pub record IsBeginning (G : Grammar) (n : Rule) (front : List Lexeme) : Type 0 where
  pub written : Tree
  pub stands : Stands G n written []
  pub different : AreNew [] (named (steps written))
  pub more : List Lexeme
  pub whole : front ++ more ≡ then written []

-- what comes next is this lexeme, or nothing
abbrev pub IsNext : Option Lexeme → List Lexeme → Type 0
IsNext None [] = Unit {0}
IsNext None (y ∷ rest) = ⊥
IsNext (Some x) [] = ⊥
IsNext (Some x) (y ∷ rest) = x ≡ y

abbrev pub first : List Lexeme → Option Lexeme
first [] = None
first (x ∷ rest) = Some x

abbrev pub place_at : ℕ → List Lexeme → ℕ
place_at end [] = end
place_at end (x ∷ rest) = x.place

-- no text begins with the front and goes on with this lexeme, or ends there
abbrev pub Stops : Grammar → Rule → List Lexeme → Option Lexeme → Type 0
Stops G n front next = (t : Tree) (more : List Lexeme) → Stands G n t [] → AreNew [] (named (steps t)) → IsNext next more → front ++ more ≡ then t [] → ⊥

-- A text begins with all before the place, and none goes on with what stands at the place; or ends there, where the
-- lexemes do.
pub record IsStuck (G : Grammar) (n : Rule) (end : ℕ) (words : List Lexeme) (place : ℕ) : Type 0 where
  pub front : List Lexeme
  pub rest : List Lexeme
  pub whole : words ≡ front ++ rest
  pub here : place ≡ place_at end rest
  pub begins : IsBeginning G n front
  pub stops : Stops G n front (first rest)

abbrev pub Fails : Grammar → Rule → ℕ → List Lexeme → SyntaxError → Type 0
Fails G n end words Memory = Unit {0}
Fails G n end words (Syntax place) = IsStuck G n end words place
