use Rattle.std.specs.Prelude.{◌≡◌, List, ℕ}
use Rattle.std.proofs.Common.{[], map, ap, sym, ◌∙◌, subst}
use Rattle.std.specs.Global.{Vec}
use Rattle.std.specs.Option.{option_map}
use Rattle.hol_terms.specs.Nameless.{nameless}
use Rattle.hol_just.specs.Strip.{avoiding}
use Rattle.hol_steps.specs.Progress.{ProgressValue, progress_value}
use Rattle.hol_steps.proofs.UnderWay.{none_told, IsUnderWay, begins, goes_on, lighter, runs_out, ends, ends_valid}
use Rattle.hol_steps.proofs.stripping.strip.Goals as goal

pub pieces-init : goal.pieces-init
pieces-init c = begins (avoiding (map (nameless []) c.args.others.now) c.args.names.now) c.args.before c.args.first c.args.turns (progress_value c.in_ok-progress.progress) c.in_ok-progress.ensures

pub pieces-preserved : goal.pieces-preserved
pieces-preserved c =
    let names = λ (tested : Vec (List ℕ)). tested.items in
    goes_on (avoiding (map (nameless []) c.args.others.now) c.args.names.now) c.args.before c.args.first c.args.turns (progress_value c.pieces.progress) (progress_value c.next.new.self) (progress_value c.go_on.new.progress) c.in-Some.next c.in-Some.ensures
    (option_map names c.in_ok-tested.field-0) c.in_ok-tested.ensures (none_told names c.in_ok-tested.field-0 c.in_default-2.not-Some) c.pieces.invariant

pub pieces-smaller : goal.pieces-smaller
pieces-smaller c =
    let names = λ (tested : Vec (List ℕ)). tested.items in
    lighter (avoiding (map (nameless []) c.args.others.now) c.args.names.now) c.args.before c.args.first c.args.turns (progress_value c.pieces.progress) (progress_value c.next.new.self) (progress_value c.go_on.new.progress) c.in-Some.next c.in-Some.ensures
    (option_map names c.in_ok-tested.field-0) c.in_ok-tested.ensures (none_told names c.in_ok-tested.field-0 c.in_default-2.not-Some)

pub returns-in-Some-2-clause-answer : goal.returns-in-Some-2-clause-answer
returns-in-Some-2-clause-answer c =
    let names = λ (tested : Vec (List ℕ)). tested.items in
    runs_out (avoiding (map (nameless []) c.args.others.now) c.args.names.now) c.args.before c.args.first c.args.turns (progress_value c.pieces.progress) (progress_value c.next.new.self) (progress_value c.go_on.new.progress) c.in-Some.next c.in-Some.ensures
    (option_map names c.in_ok-tested.field-0) c.in_ok-tested.ensures c.in-Some-2.tested.items (sym (ap (option_map names) c.in-Some-2.is)) c.pieces.invariant

pub returns-clause-answer : goal.returns-clause-answer
returns-clause-answer c = λ avoided alike.
    let others = avoiding (map (nameless []) c.args.others.now) c.args.names.now in
    let p = progress_value c.next.new.self in
    let is : p ≡ progress_value c.pieces.progress = c.in_default.ensures.1 in
    let h = subst (λ (q : ProgressValue). IsUnderWay others c.args.before c.args.first c.args.turns q) (sym is) c.pieces.invariant in
    ends others c.args.before c.args.first c.args.turns p h (ap (λ (q : ProgressValue). q.waiting) is ∙ c.in_default.ensures.0) c.end.result.step c.end.ensures.goals c.end.result.left c.end.result.tested.items c.end.ensures.left c.end.ensures.tested avoided alike

pub returns-clause-valid : goal.returns-clause-valid
returns-clause-valid c = λ avoided alike.
    let others = avoiding (map (nameless []) c.args.others.now) c.args.names.now in
    let p = progress_value c.next.new.self in
    let is : p ≡ progress_value c.pieces.progress = c.in_default.ensures.1 in
    let h = subst (λ (q : ProgressValue). IsUnderWay others c.args.before c.args.first c.args.turns q) (sym is) c.pieces.invariant in
    ends_valid others c.args.before c.args.first c.args.turns p h (ap (λ (q : ProgressValue). q.waiting) is ∙ c.in_default.ensures.0) c.end.result.step c.end.ensures.goals c.end.ensures.just avoided alike
