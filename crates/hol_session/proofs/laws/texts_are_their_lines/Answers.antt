use Rattle.hol_session.proofs.Cutting.{text_is_its_lines}
use Rattle.hol_session.proofs.laws.texts_are_their_lines.Goals as goal

pub returns : goal.returns
returns c = text_is_its_lines
