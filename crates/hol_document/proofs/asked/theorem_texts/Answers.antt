use Rattle.std.proofs.Common.{◌∙◌, ap, sym, ◌++◌}
use Rattle.hol_document.specs.Asked.{theorem_texts_of}
use Rattle.hol_document.proofs.Reported.{texts_more}
use Rattle.hol_document.proofs.asked.theorem_texts.Goals as goal

pub loop-i-preserved : goal.loop-i-preserved
loop-i-preserved c =
    c.in_ok-add_theorem.ensures
    ∙ (ap (λ ts. ts ++ theorem_texts_of (c.entry.result.0.now, c.entry.result.1.now)) c.loop-i.invariant
    ∙ sym (texts_more c.args.env.now c.loop-i.i (c.entry.result.0.now, c.entry.result.1.now) c.entry.ensures))
