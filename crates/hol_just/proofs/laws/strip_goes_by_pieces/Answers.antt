use Rattle.hol_just.proofs.Pieces.{by_pieces}
use Rattle.hol_just.proofs.laws.strip_goes_by_pieces.Goals as goal

pub returns-clause-first : goal.returns-clause-first
returns-clause-first c = by_pieces
