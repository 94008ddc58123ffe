-- What is written says: what is built of a tree, from the leaves up.
use Rattle.std.specs.Prelude.{List, [], ◌∷◌}
use Rattle.hol_notation_grammar.specs.Grammar.{Tree, node, Trees, done, leaf, tree}
use Rattle.hol_notation_reader.specs.Piece.{PieceText, a_word}
use Rattle.hol_notation_reader.specs.Build.{build}

abbrev mutual
  pub value : Tree → PieceText
  value (node p ts) = build p (values ts)

  pub values : Trees → List PieceText
  values done = []
  values (leaf c x ts) = a_word x ∷ values ts
  values (tree t ts) = value t ∷ values ts
