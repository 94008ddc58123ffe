use Rattle.std.proofs.Common.{string_bytes, String, Global}
use Rattle.hol_exec.specs.ReportOf.{entry_text}
use Rattle.hol_exec.proofs.NewEntries.{next_pushed}
use Rattle.hol_exec.proofs.reports.reporting.entry_texts.Goals as goal

pub loop-i-preserved : goal.loop-i-preserved
loop-i-preserved c =
    next_pushed c.args.entries.now c.loop-i.i (c.entry.result.0.now, c.entry.result.1.now) c.entry.ensures entry_text (λ (text : String Global). string_bytes text)
    c.loop-i.texts.items c.push.new.self.items c.in_ok-text.text c.in_ok-push.ensures.items c.in_ok-text.ensures c.loop-i.invariant
