-- What an error says of the text.
use Rattle.std.specs.Prelude.{◌≡◌, ℕ, List, [], ◌∷◌, ◌++◌, Result, Ok, Err}
use Rattle.hol_notation_tokens.specs.declared.error.SyntaxError.{SyntaxError}
use Rattle.hol_notation_tokens.specs.declared.error.SyntaxError.TheVariants.{Memory, Syntax}
use Rattle.hol_notation_tokens.specs.Lexeme.{Lexeme}
use Rattle.hol_notation_grammar.specs.Reading.{place_at}
use Rattle.hol_notation_commands.specs.Text.{CommandText}
use Rattle.hol_notation_reader.specs.Reading.{IsRead, Breaks, IsCommand, IsBeginning}

-- the text is no command, from this place on
abbrev pub IsSyntaxError : List ℕ → SyntaxError → Type 0
IsSyntaxError text (Syntax place) = IsRead text (Breaks place)
IsSyntaxError text Memory = Unit {0}

-- no command goes on with the next lexeme, or ends where there is none
abbrev pub IsDead : List Lexeme → List Lexeme → Type 0
IsDead front [] = (command : CommandText) → IsCommand front command → ⊥
IsDead front (x ∷ rest) = IsBeginning (front ++ x ∷ []) → ⊥

-- the place of the first lexeme with which no command goes on, or the end, where a command ends too soon
pub record IsFaultAt (end : ℕ) (words : List Lexeme) (place : ℕ) : Type 0 where
  pub front : List Lexeme
  pub rest : List Lexeme
  pub whole : words ≡ front ++ rest
  pub here : place ≡ place_at end rest
  pub viable : IsBeginning front
  pub dead : IsDead front rest

-- what a reading of all lexemes answers
abbrev pub IsAnswer : ℕ → List Lexeme → Result CommandText SyntaxError → Type 0
IsAnswer end words (Ok command) = IsCommand words command
IsAnswer end words (Err Memory) = Unit {0}
IsAnswer end words (Err (Syntax place)) = IsFaultAt end words place
