use Rattle.std.specs.List.{remove}
use Rattle.std.proofs.Common.{◌≡◌, ◌++◌, ◌∷◌, [], ◌+◌, ap, sym, ◌∙◌, subst, map, take, string_bytes, rules}
use Rattle.hol_exec.specs.StateValue.{start}
use Rattle.hol_document.specs.RunnerView.{setup_of}
use Rattle.hol_document.specs.Affected.{DropsTheory}
use Rattle.hol_document.specs.Alike.{EndAlike}
use Rattle.hol_document.specs.Documents.{Documents}
use Rattle.hol_document.specs.Slots.{ended_of, text_of}
use Rattle.hol_document.proofs.Edited.{removed_map}
use Rattle.hol_document.proofs.Followed.{within_of, standing_here, rest_of, drop_after, runs_as, docs_as, standing_as}
use Rattle.hol_document.proofs.Standing.{alike_dropped}
use Rattle.hol_document.proofs.theories.Theories.without_theory.Goals as goal

pub follow-requires : goal.follow-requires
follow-requires g c =
    let same = ap (λ (d : Documents). d.setup) c.self.view_is ∙ c.requires.setup in
    let within = within_of c.self.inside.standing.items c.args.self.now.theories c.args.i (ap (λ (d : Documents). d.theories) c.self.view_is) c.requires.within in
    let here = standing_here c.self.inside.setup.value (setup_of c.args.runner.now) c.self.inside.standing.items c.in_ok-done.done.items c.args.i c.index-theory.result.now same c.self.invariant within c.index-theory.ensures
    (c.in_ok-done.ensures ∙ ap (take c.args.i) c.deref.ensures.value) in
    let own : string_bytes c.in_ok-clone.field-0.value ≡ c.index-theory.result.now.name = search rules in
    let names = ap (map (λ name. string_bytes name.value)) (c.in_ok-push.ensures.items ∙ ap (λ xs. xs ++ c.in_ok-clone.field-0 ∷ []) c.new-names.ensures.items) ∙ ap (λ name. name ∷ []) own in (
      map ended_of c.in_ok-done.done.items ++ ended_of c.index-theory.result.now ∷ [],
      rw (rest_of c.self.inside.standing.items c.deref-2.result.now (c.args.i + 1) c.deref-2.ensures.value) here.1,
      subst (λ ns. EndAlike ns (map ended_of c.in_ok-done.done.items ++ ended_of c.index-theory.result.now ∷ []) (map ended_of c.in_ok-done.done.items)) (sym names)
          (alike_dropped (map ended_of c.in_ok-done.done.items) (ended_of c.index-theory.result.now)),
    )

pub leave_each-requires : goal.leave_each-requires
leave_each-requires g c =
    let same = ap (λ (d : Documents). d.setup) c.self.view_is ∙ c.requires.setup in
    let within = within_of c.self.inside.standing.items c.args.self.now.theories c.args.i (ap (λ (d : Documents). d.theories) c.self.view_is) c.requires.within in
    let here = standing_here c.self.inside.setup.value (setup_of c.args.runner.now) c.self.inside.standing.items c.in_ok-done.done.items c.args.i c.index-theory.result.now same c.self.invariant within c.index-theory.ensures
    (c.in_ok-done.ensures ∙ ap (take c.args.i) c.deref.ensures.value) in
    (map ended_of c.in_ok-done.done.items, start, c.index-theory.result.now.last, rw (c.follow.ensures.goes.0, c.slots.ensures) here.0)

pub invariant_of-result : goal.invariant_of-result
invariant_of-result g c =
    let same = ap (λ (d : Documents). d.setup) c.self.view_is ∙ c.requires.setup in
    let after = drop_after c.self.inside.setup.value (setup_of c.args.runner.now) c.self.inside.standing.items c.in_ok-done.done.items _ c.follow.new.done.items
    c.args.i _ _ same c.self.invariant (c.in_ok-done.ensures ∙ ap (take c.args.i) c.deref.ensures.value)
    (rest_of c.self.inside.standing.items c.deref-2.result.now (c.args.i + 1) c.deref-2.ensures.value) c.in_ok-follow.ensures.follow in
    let own : c.in_ok-clone-2.field-0.value ≡ c.self.inside.setup.value = search rules in
    standing_as (setup_of c.args.runner.now) c.in_ok-clone-2.field-0.value c.follow.new.done.items (own ∙ same) after.stand

pub returns-clause-theories : goal.returns-clause-theories
returns-clause-theories g c =
    let same = ap (λ (d : Documents). d.setup) c.self.view_is ∙ c.requires.setup in
    let after = drop_after c.self.inside.setup.value (setup_of c.args.runner.now) c.self.inside.standing.items c.in_ok-done.done.items _ c.follow.new.done.items
    c.args.i _ _ same c.self.invariant (c.in_ok-done.ensures ∙ ap (take c.args.i) c.deref.ensures.value)
    (rest_of c.self.inside.standing.items c.deref-2.result.now (c.args.i + 1) c.deref-2.ensures.value) c.in_ok-follow.ensures.follow in
    after.texts_are ∙ (sym (removed_map text_of c.self.inside.standing.items c.args.i) ∙ ap (λ (d : Documents). remove d.theories c.args.i) c.self.view_is)

pub returns-clause-affected : goal.returns-clause-affected
returns-clause-affected g c =
    let same = ap (λ (d : Documents). d.setup) c.self.view_is ∙ c.requires.setup in
    let after = drop_after c.self.inside.setup.value (setup_of c.args.runner.now) c.self.inside.standing.items c.in_ok-done.done.items _ c.follow.new.done.items
    c.args.i _ _ same c.self.invariant (c.in_ok-done.ensures ∙ ap (take c.args.i) c.deref.ensures.value)
    (rest_of c.self.inside.standing.items c.deref-2.result.now (c.args.i + 1) c.deref-2.ensures.value) c.in_ok-follow.ensures.follow in
    let own : c.in_ok-clone-2.field-0.value ≡ c.self.inside.setup.value = search rules in
    rw c.leave_each.ensures.1 (runs_as _ _ _ _ (DropsTheory c.args.i) _ _
    (docs_as (map text_of c.self.inside.standing.items) c.self.inside.setup.value (setup_of c.args.runner.now) c.self.inside.cache same ∙ c.self.view_is)
    (docs_as (map text_of c.follow.new.done.items) c.in_ok-clone-2.field-0.value (setup_of c.args.runner.now) c.self.inside.cache (own ∙ same)) (after.runs c.self.inside.cache))
