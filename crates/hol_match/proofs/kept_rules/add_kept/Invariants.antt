use Rattle.std.proofs.Common.{◌≡◌, ◌+◌, ◌++◌, List, length}
use Rattle.hol_kernel.specs.Given.{Given}
use Rattle.hol_match.specs.Apart.{AddsVariables}
use Rattle.hol_match.specs.RulesKept.{FirstOf}
use Rattle.hol_match.specs.SetView.{set_rules, AreOf}
use Rattle.hol_match.proofs.Repeated.{HasFirst}
use Rattle.hol_match.proofs.kept_rules.add_kept.Given as goal

abbrev pub invariant-loop-i : goal.invariant-loop-i
invariant-loop-i l =
    ((thms : List Given) → length thms ≡ l.from → FirstOf thms (set_rules l.fn.all.items) → HasFirst (thms ++ l.kept) (l.from + l.i) (set_rules l.all.items))
    × ((thms : List Given) → length thms ≡ l.from → AreOf thms l.fn.all.items → AreOf (thms ++ l.kept) l.all.items)
    × AddsVariables (set_rules l.fn.all.items) (set_rules l.all.items) l.fn.variables.items l.variables.items
