use Rattle.std.proofs.Common.{◌≡◌, map, take, string_bytes, String, Global}
use Rattle.hol_print.specs.ShowGoal.{variable_text}
use Rattle.hol_print.proofs.goal_text.variable_texts.Given as goal

abbrev pub invariant-loop-v : goal.invariant-loop-v
invariant-loop-v l = map (λ (text : String Global). string_bytes text) l.texts.items ≡ map variable_text (take l.v-index l.variables)
