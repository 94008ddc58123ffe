use Rattle.hol_notation_reader.proofs.Parts.{names_next, fourth_name, fifth_name, sixth_name}
use Rattle.hol_notation_reader.proofs.commands.make_type_definition.Goals as goal

pub pop_name-requires-4 : goal.pop_name-requires-4
pop_name-requires-4 c = fourth_name _ (names_next _ _ _ _ _ _ c.pop_word-word.ensures c.in_ok-pop_name.ensures.1 c.in_ok-pop_name-2.ensures.1 c.in_ok-pop_name-3.ensures.1 c.requires)

pub pop_name-requires-5 : goal.pop_name-requires-5
pop_name-requires-5 c = fifth_name _ _ c.in_ok-pop_name-4.ensures.1 (names_next _ _ _ _ _ _ c.pop_word-word.ensures c.in_ok-pop_name.ensures.1 c.in_ok-pop_name-2.ensures.1 c.in_ok-pop_name-3.ensures.1 c.requires)

pub pop_name-requires-6 : goal.pop_name-requires-6
pop_name-requires-6 c = sixth_name _ _ _ c.in_ok-pop_name-4.ensures.1 c.in_ok-pop_name-5.ensures.1 (names_next _ _ _ _ _ _ c.pop_word-word.ensures c.in_ok-pop_name.ensures.1 c.in_ok-pop_name-2.ensures.1 c.in_ok-pop_name-3.ensures.1 c.requires)
