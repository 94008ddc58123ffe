use Rattle.std.specs.Prelude.{reverse}
use Rattle.std.proofs.Common.{[], map, rules, ap, ◌∙◌}
use Rattle.hol_terms.specs.Nameless.{nameless}
use Rattle.hol_goal.specs.UsedView.{used_value}
use Rattle.hol_just.specs.Strip.{avoiding, piece}
use Rattle.hol_steps.specs.Parts.{ArePartsBy, Becomes}
use Rattle.hol_steps.specs.Progress.{ProgressValue, progress_value, again}
use Rattle.hol_steps.specs.declared.pieces.Becoming.TheVariants as becoming
use Rattle.hol_steps.proofs.ProgressLaws.{done_goes, parts_go, none_goes}
use Rattle.hol_steps.proofs.stripping.go_on.Goals as goal

pub returns-in_default : goal.returns-in_default
returns-in_default c = λ avoided alike.
    done_goes avoided c.args.next c.take.new.self (progress_value c.args.progress.now) (progress_value c.finish.new.self) c.into_goal.result c.in_default.ensures.first.0 c.in_default.ensures.first.1 c.into_goal.ensures c.in_ok-finish.ensures

pub returns : goal.returns
returns c =
    let others = avoiding (map (nameless []) c.args.others.now) c.args.names.now in
    let n = nameless [] c.in-Some.piece in
    let rest = c.take.new.self in
    let none : Becomes others n rest (used_value c.take_used-used.result) (piece rest.goal n) (becoming.RunsOut c.in-RunsOut.tested) = search rules in
    λ avoided alike. none_goes avoided n rest c.args.next (progress_value c.args.progress.now) c.in-Some.ensures.first (used_value c.take_used-used.result) c.in-RunsOut.tested.items c.take_used-used.ensures.used none.1 (none.0 avoided)

pub returns-in-Parts : goal.returns-in-Parts
returns-in-Parts c =
    let others = avoiding (map (nameless []) c.args.others.now) c.args.names.now in
    let n = nameless [] c.in-Some.piece in
    let rest = c.take.new.self in
    let parts = c.in-Parts.parts in
    let all : ArePartsBy others n rest (used_value c.take_used-used.result) (piece rest.goal n) parts = search rules in
    λ avoided alike. parts_go avoided n rest c.args.next (progress_value c.args.progress.now) c.in-Some.ensures.first (used_value c.take_used-used.result) parts (progress_value c.again.new.self) c.take_used-used.ensures.used (all avoided alike)
    (c.in_ok-again-in-Parts.ensures ∙ ap (λ (p : ProgressValue). again p (reverse parts.waiting.items) parts.just (used_value parts.used)) c.take_used-used.ensures.rest)
