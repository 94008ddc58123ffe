use Rattle.std.specs.Prelude.{◌≡◌, ℕ, ◌||◌, List}
use Rattle.std.proofs.Common.{[], ◌++◌, map, ap, ◌∙◌}
use Rattle.hol_terms.specs.Nameless.{nameless}
use Rattle.hol_subst.specs.FreeName.{is_taken}
use Rattle.hol_just.specs.Leaving.{goal_terms}
use Rattle.hol_just.specs.Strip.{WaitingValue}
use Rattle.hol_steps.proofs.WaitingLaws.{pieces_of, collects, on_ok}
use Rattle.hol_steps.proofs.waiting.Waiting.add_terms.Goals as goal

pub returns : goal.returns
returns c =
    let w = c.args.self.now in
    let first = c.args.to.now.items in
    let all = c.add_copies-2.new.to.items in
    on_ok c.add_copies-2.result (all ≡ c.push.new.self.items ++ c.deref.result.now) ((a : List ℕ) → is_taken (map (nameless []) all) a ≡ (is_taken (map (nameless []) first) a || is_taken (w.pieces ++ goal_terms w.goal) a))
    (λ three a.
    collects first c.add_copies.new.to.items c.push.new.self.items all c.deref.result.now c.assumptions.result.now c.in_ok-copy.field-0 w.goal w.pieces a c.in_ok-add_copies.ensures c.in_ok-push.ensures.items three
    (c.assumptions.ensures.terms ∙ ap (λ (v : WaitingValue). v.goal.assumptions) c.self.view_is)
    (ap (nameless []) c.in_ok-copy.ensures ∙ c.conclusion.ensures.term ∙ ap (λ (v : WaitingValue). v.goal.conclusion) c.self.view_is)
    (ap pieces_of c.deref.ensures.value ∙ ap (λ (v : WaitingValue). v.pieces) c.self.view_is))
    c.add_copies-2.ensures
