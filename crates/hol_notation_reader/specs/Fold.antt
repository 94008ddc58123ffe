-- What only private clauses speak of: how the value is had from the steps of a tree, gone through from the last to the
-- first with a stack.
use Rattle.std.specs.Prelude.{◌≡◌, List, [], ◌∷◌}
use Rattle.hol_notation_tokens.specs.Lexeme.{Lexeme}
use Rattle.hol_notation_grammar.specs.declared.grammar.Rule.{Rule}
use Rattle.hol_notation_grammar.specs.Table.{symbols}
use Rattle.hol_notation_grammar.specs.Grammar.{language, Tree, then, Stands, StepText, choose, take, steps, named, AreNew}
use Rattle.hol_notation_reader.specs.Piece.{PieceText, a_word, AreOf}
use Rattle.hol_notation_reader.specs.Build.{reduced}
use Rattle.hol_notation_reader.specs.Value.{value}

-- the lexemes are a text, and this is what is built of them
pub record IsBuilt (n : Rule) (words : List Lexeme) (vs : List PieceText) : Type 0 where
  pub written : Tree
  pub whole : words ≡ then written []
  pub stands : Stands language n written []
  pub different : AreNew [] (named (steps written))
  pub says : vs ≡ value written ∷ []

-- the stack after these steps, from the last to the first
abbrev pub evaluate : List StepText → List PieceText → List PieceText
evaluate [] vs = vs
evaluate (take c x ∷ es) vs = a_word x ∷ evaluate es vs
evaluate (choose p ∷ es) vs = reduced p (evaluate es vs)

-- at each production its parts are on top
abbrev pub Fit : List StepText → List PieceText → Type 0
Fit [] vs = Unit {0}
Fit (take c x ∷ es) vs = Fit es vs
Fit (choose p ∷ es) vs = AreOf (symbols p) (evaluate es vs) × Fit es vs
