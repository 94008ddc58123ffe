use Rattle.std.proofs.Common.{[]}
use Rattle.hol_terms.specs.Nameless.{nameless}
use Rattle.hol_conv.proofs.Tracing.{end_alone}
use Rattle.hol_conv.proofs.beta.beta_all.Goals as goal

pub returns-clause-used : goal.returns-clause-used
returns-clause-used c = end_alone c.in_ok-ended.ended c.in_ok-of.field-0 (nameless [] c.args.term.now) (nameless [] c.in_ok-ended.ended.term) c.in_ok-of.ensures.trace c.in_ok-ended.ensures.traces
