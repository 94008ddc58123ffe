use Rattle.std.proofs.Common.{map}
use Rattle.hol_notation_tokens.specs.Lexeme.{seen}
use Rattle.hol_notation_grammar.specs.Step.{step_texts}
use Rattle.hol_notation_reader.specs.View.{pieces_of}
use Rattle.hol_notation_reader.proofs.Values.{text_fits, text_built}
use Rattle.hol_notation_reader.proofs.reader.built.Goals as goal

pub evaluate-requires : goal.evaluate-requires
evaluate-requires c = text_fits c.args.rule (map seen c.args.words.now) (step_texts c.in_ok-steps.steps.items) c.in_ok-steps.ensures

pub returns : goal.returns
returns c =
    text_built c.args.rule (map seen c.args.words.now) (step_texts c.in_ok-steps.steps.items) (pieces_of c.in_ok-evaluate.field-0.items) c.in_ok-steps.ensures c.in_ok-evaluate.ensures
