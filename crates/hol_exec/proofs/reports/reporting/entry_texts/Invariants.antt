use Rattle.std.proofs.Common.{◌≡◌, map, take, string_bytes, String, Global}
use Rattle.hol_exec.specs.ReportOf.{entry_text}
use Rattle.hol_exec.proofs.reports.reporting.entry_texts.Given as goal

abbrev pub invariant-loop-i : goal.invariant-loop-i
invariant-loop-i l = map (λ (text : String Global). string_bytes text) l.texts.items ≡ map entry_text (take l.i l.entries)
