-- The list of pieces as what they stand for.
use Rattle.std.proofs.Common.{◌≡◌, List, [], ◌∷◌, ◌++◌, ap, ◌∙◌, map, reverse}
use Rattle.std.proofs.lemmas.List.{map-append, reverse-append}
use Rattle.hol_notation_reader.specs.declared.piece.Piece.{Piece}
use Rattle.hol_notation_reader.specs.Piece.{PieceText}
use Rattle.hol_notation_reader.specs.View.{piece_of, pieces_of}

pub pushed : (ps qs : List Piece) (p : Piece) → qs ≡ ps ++ p ∷ [] → pieces_of qs ≡ piece_of p ∷ pieces_of ps
pushed ps qs p e = ap (λ (l : List Piece). pieces_of l) e ∙ ap (λ (l : List PieceText). reverse l) (map-append piece_of ps (p ∷ [])) ∙ reverse-append (map piece_of ps) (piece_of p ∷ [])
