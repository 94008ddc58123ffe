use Rattle.std.proofs.lemmas.Result.{IfOk-weaker, IfErr-weaker}
use Rattle.hol_typing.specs.RawView.{raw_tree}
use Rattle.hol_infer.proofs.Readings.{closed_whole}
use Rattle.hol_infer.proofs.reading.read.Goals as goal

pub principal_typing-requires : goal.principal_typing-requires
principal_typing-requires c = closed_whole (raw_tree c.args.term.now) c.requires.scoped c.requires.rigid

pub returns-in-Ok-clause-reading : goal.returns-in-Ok-clause-reading
returns-in-Ok-clause-reading c = IfOk-weaker c.reading_of.result _ _ (λ t reads. reads (raw_tree c.args.term.now) c.in-Ok.ensures.general) c.reading_of.ensures.reading

pub returns-in-Ok-clause-too_large : goal.returns-in-Ok-clause-too_large
returns-in-Ok-clause-too_large c = IfErr-weaker c.reading_of.result _ _ (λ e large is. large is (raw_tree c.args.term.now) c.in-Ok.ensures.general) c.reading_of.ensures.too_large

pub returns-in-Err-Untypable-clause-untypable : goal.returns-in-Err-Untypable-clause-untypable
returns-in-Err-Untypable-clause-untypable c e = c.in-Err-Untypable.ensures.untypable c.in-Err-Untypable.field-0-is
