-- What a text reads as: a command, or the place where no command goes on.
use Rattle.std.specs.Prelude.{◌≡◌, ◌≤◌, ℕ, List, [], ◌∷◌, ◌++◌, length, Some}
use Rattle.hol_notation_tokens.specs.declared.token.Token.{Token}
use Rattle.hol_notation_tokens.specs.Token.{IsLexed, AreTokens, token_after}
use Rattle.hol_notation_tokens.specs.Lexeme.{Lexeme, lexemes}
use Rattle.hol_notation_grammar.specs.declared.grammar.Rule.{Rule}
use Rattle.hol_notation_grammar.specs.declared.grammar.Rule.TheVariants as rule
use Rattle.hol_notation_grammar.specs.Grammar.{language, Tree, then, Stands, steps, named, AreNew}
use Rattle.hol_notation_commands.specs.Text.{CommandText}
use Rattle.hol_notation_reader.specs.Piece.{PieceText, the_command}
use Rattle.hol_notation_reader.specs.Value.{value}

-- the lexemes are those of a way to write a rule that says this
pub record Says {V : Type 0} (n : Rule) (of : PieceText → V) (words : List Lexeme) (v : V) : Type 0 where
  pub written : Tree
  pub whole : words ≡ then written []
  pub stands : Stands language n written []
  pub different : AreNew [] (named (steps written))
  pub says : v ≡ of (value written)

abbrev pub IsCommand : List Lexeme → CommandText → Type 0
IsCommand words command = Says rule.Command the_command words command

-- some command begins with these lexemes
pub record IsBeginning (words : List Lexeme) : Type 0 where
  pub later : List Lexeme
  pub command : CommandText
  pub is : IsCommand (words ++ later) command

-- The place where a text is refused. Tokens go up to it with which a command begins, and none begins with these and
-- the token that stands at the place (a byte that begins no token, or a token that the limits don't allow, is none);
-- where the text ends at the place, its tokens are no command.
pub record IsBreak (text : List ℕ) (place : ℕ) : Type 0 where
  pub tokens : List Token
  pub before : IsLexed text [] 0 tokens place
  pub within : place ≤ length text
  pub begins : IsBeginning (lexemes text tokens)
  pub stops : (t : Token) → token_after text tokens place ≡ Some t → IsBeginning (lexemes text (tokens ++ t ∷ [])) → ⊥
  pub ends : place ≡ length text → (command : CommandText) → IsCommand (lexemes text tokens) command → ⊥

pub record IsCommandText (text : List ℕ) (command : CommandText) : Type 0 where
  pub tokens : List Token
  pub lexed : AreTokens text tokens
  pub is : IsCommand (lexemes text tokens) command

-- what a text reads as: a command, or the place where it breaks
pub data ReadText : Type 0 where
  Reads : CommandText → ReadText
  Breaks : ℕ → ReadText

abbrev pub IsRead : List ℕ → ReadText → Type 0
IsRead text (Reads command) = IsCommandText text command
IsRead text (Breaks place) = IsBreak text place
