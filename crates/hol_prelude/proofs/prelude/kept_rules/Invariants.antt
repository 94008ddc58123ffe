use Rattle.std.proofs.Common.{◌≡◌, map, take}
use Rattle.hol_kernel.specs.Given.{proved}
use Rattle.hol_prelude.proofs.prelude.kept_rules.Given as goal

abbrev pub invariant-loop-entry : goal.invariant-loop-entry
invariant-loop-entry l = l.kept.items ≡ map proved (map (λ e. e.1) (take l.entry-index l.entries))
