use Rattle.std.proofs.Common.{◌≡◌, ◌∙◌, ◌++◌, ◌+◌, List, ap, sym, drop, ℕ}
use Rattle.std.specs.Global.{Vec}
use Rattle.hol_resolve.specs.declared.readings.Quoted.{Quoted}
use Rattle.hol_resolve.specs.ReadingView.{list_value}
use Rattle.hol_exec.specs.OwnBases.{readings_of}
use Rattle.hol_exec.proofs.TheoremBases.{reading_kept, reading_left}
use Rattle.hol_exec.proofs.resolving.theorem_bases.readings_of.Goals as goal
use Rattle.hol_exec.proofs.resolving.theorem_bases.readings_of.Goals.{then-opens_any+in_ok-copy+in_ok-push, else-opens_any}

pub loop-reading-preserved : goal.loop-reading-preserved
loop-reading-preserved c =
    let all = readings_of (list_value c.args.readings.now) c.args.quotations.now in
    elim c.if-opens_any.branch [
      | then-opens_any+in_ok-copy+in_ok-push w ↦
          let grown : c.if-opens_any.own.items ≡ _ = ap (λ (v : Vec (ℕ × Quoted)). v.items) w.own-is ∙ w.in_ok-push.ensures.items in
          reading_kept c.args.readings.now c.args.quotations.now c.loop-reading.reading-index c.reading-item.result all c.loop-reading.own.items c.opens_any.result c.loop-reading-test.true c.reading-item.is c.opens_any.ensures c.loop-reading.invariant
          w.in_ok-copy.field-0 c.if-opens_any.own.items w.if-opens_any.true w.in_ok-copy.ensures grown
      | else-opens_any w ↦
          let same : c.if-opens_any.own.items ≡ c.loop-reading.own.items = ap (λ (v : Vec (ℕ × Quoted)). v.items) w.own-is in
          reading_left c.args.readings.now c.args.quotations.now c.loop-reading.reading-index c.reading-item.result all c.loop-reading.own.items c.opens_any.result c.loop-reading-test.true c.reading-item.is c.opens_any.ensures c.loop-reading.invariant
          w.if-opens_any.false
          ∙ sym (ap (λ (xs : List (ℕ × Quoted)). list_value xs ++ readings_of (list_value (drop (c.loop-reading.reading-index + 1) c.args.readings.now)) c.args.quotations.now) same)
    ]
