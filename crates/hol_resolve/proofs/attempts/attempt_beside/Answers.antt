use Rattle.std.proofs.Common.{sym, subst, length, refl}
use Rattle.std.proofs.lemmas.Bool.{ltb-true}
use Rattle.std.proofs.lemmas.Option.{slice_get_read}
use Rattle.std.proofs.lemmas.Result.{IfOk-weaker}
use Rattle.hol_resolve.specs.SignatureView.{signature_value}
use Rattle.hol_resolve.specs.Readings.{IsQuotedAs}
use Rattle.hol_resolve.proofs.Trying.{known_reads}
use Rattle.hol_resolve.proofs.attempts.attempt_beside.Goals as goal

pub returns-in-Some-get : goal.returns-in-Some-get
returns-in-Some-get c =
    let found = c.in-Some-get.ensures.lookup in
    let within = ltb-true c.in-Some.at (length c.args.attempts.now) (sym found.0) in
    let there = slice_get_read c.args.attempts.now (length c.args.attempts.now) c.in-Some.at c.in-Some-get.known.now refl within found.1 in
    let reads = known_reads (signature_value c.args.over.now) c.args.before.now c.args.attempts.now c.in-Some.at c.in-Some-get.known.now c.args.quotation.now c.requires c.in-Some.ensures (sym there) in
    IfOk-weaker c.copy.result _ _ (λ attempt e. subst (IsQuotedAs (signature_value c.args.over.now) c.args.quotation.now) (sym e) reads) c.copy.ensures
