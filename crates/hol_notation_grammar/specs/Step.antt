-- What the code's steps stand for.
use Rattle.std.specs.Prelude.{ℕ, List, map}
use Rattle.std.specs.Borrow.{Bor}
use Rattle.hol_notation_tokens.specs.Lexeme.{seen}
use Rattle.hol_notation_grammar.specs.declared.machine.Step.{Step}
use Rattle.hol_notation_grammar.specs.declared.machine.Step.TheVariants.{Choose, Take}
use Rattle.hol_notation_grammar.specs.Grammar.{StepText, choose, take}

abbrev pub step_text : Step → StepText
step_text (Choose p) = choose p
step_text (Take c w) = take c (seen w)

abbrev pub step_texts : List Step → List StepText
step_texts steps = map step_text steps

abbrev pub name_texts : List (Bor (List ℕ)) → List (List ℕ)
name_texts names = map (λ name. name.now) names
