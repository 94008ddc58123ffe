use Rattle.hol_notation_reader.proofs.Parts.{close_next}
use Rattle.hol_notation_reader.proofs.insides.lambda_inside.Goals as goal

pub pop_word-close-requires : goal.pop_word-close-requires
pop_word-close-requires c = close_next _ _ _ _ _ _ c.pop_word-binder.ensures c.pop_bound-variables.ensures c.in_ok-sides.ensures.1 c.requires
