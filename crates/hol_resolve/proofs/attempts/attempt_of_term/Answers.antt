use Rattle.std.proofs.Common.{subst}
use Rattle.hol_notation_terms.specs.Text.{QuotationText}
use Rattle.hol_resolve.specs.SignatureView.{signature_value}
use Rattle.hol_resolve.specs.Reading.{IsTermReadAs}
use Rattle.hol_resolve.specs.ReadingView.{reading_value}
use Rattle.hol_resolve.proofs.attempts.attempt_of_term.Goals as goal

pub returns : goal.returns
returns c = (
  reading_value c.in_ok-reading.reading,
  subst (λ (q : QuotationText). IsTermReadAs (signature_value c.args.over.now) q.term (reading_value c.in_ok-reading.reading)) c.term.view_is c.in_ok-reading.ensures,
  c.attempted.ensures,
)
