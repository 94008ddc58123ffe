use Rattle.std.proofs.Common.{ap, refl, subst}
use Rattle.hol_conv.specs.Traces.{traced, used}
use Rattle.hol_conv.specs.Tracing.{IsAfter}
use Rattle.hol_conv.proofs.Traces.{in_last_appended}
use Rattle.hol_conv.proofs.trace_node.+append_whole.Goals as goal

pub returns-then-count : goal.returns-then-count
returns-then-count t c =
    in_last_appended c.in-Both.a.value c.in-Both.b.value c.append_whole.new.first c.args.first.now _ (traced c.args.second) (used c.args.second)
    (record { gives = λ s. ap (λ z. traced z s) c.in-Both.is; given = ap used c.in-Both.is })
    (record { gives = λ s. refl; given = refl })
    (subst (λ z. IsAfter z c.args.second c.append_whole.new.first) c.deref_mut.ensures.value c.in_ok-append_whole-in-Both.ensures)
