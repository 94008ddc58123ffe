use Rattle.std.proofs.Common.{◌+◌, ◌*◌}
use Rattle.hol_print.specs.BareView.{bare_of, nodes}
use Rattle.hol_print.proofs.term_text.+write.Given as goal

abbrev pub decreases-write : goal.decreases-write
decreases-write l = 2 * nodes (bare_of l.t.now)

abbrev pub decreases-write_binder : goal.decreases-write_binder
decreases-write_binder l = 2 * nodes (bare_of l.body.now) + 1

abbrev pub decreases-write_infix : goal.decreases-write_infix
decreases-write_infix l = 2 * (nodes (bare_of l.left.now) + nodes (bare_of l.right.now)) + 1

abbrev pub decreases-write_negation : goal.decreases-write_negation
decreases-write_negation l = 2 * nodes (bare_of l.x.now) + 1

abbrev pub decreases-write_application : goal.decreases-write_application
decreases-write_application l = 2 * (nodes (bare_of l.f.now) + nodes (bare_of l.x.now)) + 1
