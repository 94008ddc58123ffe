use Rattle.std.specs.List.{insert}
use Rattle.std.proofs.Common.{◌≡◌, ◌++◌, ◌∷◌, [], ◌+◌, ap, sym, ◌∙◌, subst, map, take, string_bytes, rules}
use Rattle.hol_document.specs.RunnerView.{setup_of}
use Rattle.hol_exec.specs.StateValue.{start}
use Rattle.hol_document.specs.Affected.{AddsTheory}
use Rattle.hol_document.specs.Alike.{EndAlike}
use Rattle.hol_document.specs.Documents.{Documents}
use Rattle.hol_document.specs.Slots.{AreStanding, ended_of, text_of}
use Rattle.hol_document.proofs.Followed.{rest_of, new_after, runs_as, docs_as, standing_as, texts_inserted}
use Rattle.hol_document.proofs.Redone.{pushed}
use Rattle.hol_document.proofs.Standing.{alike_new, standing_split}
use Rattle.hol_document.proofs.theories.Theories.with_theory.Goals as goal

pub follow-requires : goal.follow-requires
follow-requires g c =
    let same = ap (λ (d : Documents). d.setup) c.self.view_is ∙ c.requires.setup in
    let front = c.in_ok-done.ensures ∙ ap (take c.args.at) c.deref.ensures.value in
    let own : string_bytes c.in_ok-name.name.value ≡ c.in_ok-theory.theory.name = search rules in
    let names = ap (map (λ name. string_bytes name.value)) (c.in_ok-push-2.ensures.items ∙ ap (λ xs. xs ++ c.in_ok-name.name ∷ []) c.new-names.ensures.items) ∙ ap (λ name. name ∷ []) own in
    let parts = standing_split (setup_of c.args.runner.now) [] c.args.at c.self.inside.standing.items (subst (λ s. AreStanding s [] c.self.inside.standing.items) same c.self.invariant) in (
      map ended_of c.in_ok-done.done.items,
      rw (rest_of c.self.inside.standing.items c.deref-2.result.now c.args.at c.deref-2.ensures.value, front) parts.1,
      subst (λ ns. EndAlike ns (map ended_of c.in_ok-done.done.items) (map ended_of c.push.new.self.items)) (sym names)
          (subst (EndAlike (c.in_ok-theory.theory.name ∷ []) (map ended_of c.in_ok-done.done.items)) (sym (pushed ended_of c.in_ok-done.done.items c.push.new.self.items c.in_ok-theory.theory c.in_ok-push.ensures.items))
          (alike_new (map ended_of c.in_ok-done.done.items) (ended_of c.in_ok-theory.theory))),
    )

pub invariant_of-result : goal.invariant_of-result
invariant_of-result g c =
    let same = ap (λ (d : Documents). d.setup) c.self.view_is ∙ c.requires.setup in
    let none : c.in_ok-theory.theory.slots ≡ [] = search rules in
    let begins : c.in_ok-theory.theory.last ≡ start = search rules in
    let after = new_after c.self.inside.setup.value (setup_of c.args.runner.now) c.self.inside.standing.items c.in_ok-done.done.items c.push.new.self.items _ c.follow.new.done.items c.in_ok-theory.theory
    c.args.at _ _ same c.self.invariant (c.in_ok-done.ensures ∙ ap (take c.args.at) c.deref.ensures.value) none begins c.in_ok-push.ensures.items
    (rest_of c.self.inside.standing.items c.deref-2.result.now c.args.at c.deref-2.ensures.value) c.in_ok-follow.ensures.follow in
    let own : c.in_ok-clone-2.field-0.value ≡ c.self.inside.setup.value = search rules in
    standing_as (setup_of c.args.runner.now) c.in_ok-clone-2.field-0.value c.follow.new.done.items (own ∙ same) after.stand

pub returns-clause-theories : goal.returns-clause-theories
returns-clause-theories g c =
    let same = ap (λ (d : Documents). d.setup) c.self.view_is ∙ c.requires.setup in
    let none : c.in_ok-theory.theory.slots ≡ [] = search rules in
    let begins : c.in_ok-theory.theory.last ≡ start = search rules in
    let after = new_after c.self.inside.setup.value (setup_of c.args.runner.now) c.self.inside.standing.items c.in_ok-done.done.items c.push.new.self.items _ c.follow.new.done.items c.in_ok-theory.theory
    c.args.at _ _ same c.self.invariant (c.in_ok-done.ensures ∙ ap (take c.args.at) c.deref.ensures.value) none begins c.in_ok-push.ensures.items
    (rest_of c.self.inside.standing.items c.deref-2.result.now c.args.at c.deref-2.ensures.value) c.in_ok-follow.ensures.follow in
    let own : text_of c.in_ok-theory.theory ≡ record { name = c.args.name.now; commands = [] } = search rules in
    after.texts_are
    ∙ (texts_inserted c.self.inside.standing.items c.args.at c.in_ok-theory.theory
    ∙ (ap (insert (map text_of c.self.inside.standing.items) c.args.at) own
    ∙ ap (λ (d : Documents). insert d.theories c.args.at (record { name = c.args.name.now; commands = [] })) c.self.view_is))

pub returns-clause-affected : goal.returns-clause-affected
returns-clause-affected g c =
    let same = ap (λ (d : Documents). d.setup) c.self.view_is ∙ c.requires.setup in
    let none : c.in_ok-theory.theory.slots ≡ [] = search rules in
    let begins : c.in_ok-theory.theory.last ≡ start = search rules in
    let after = new_after c.self.inside.setup.value (setup_of c.args.runner.now) c.self.inside.standing.items c.in_ok-done.done.items c.push.new.self.items _ c.follow.new.done.items c.in_ok-theory.theory
    c.args.at _ _ same c.self.invariant (c.in_ok-done.ensures ∙ ap (take c.args.at) c.deref.ensures.value) none begins c.in_ok-push.ensures.items
    (rest_of c.self.inside.standing.items c.deref-2.result.now c.args.at c.deref-2.ensures.value) c.in_ok-follow.ensures.follow in
    let own : c.in_ok-clone-2.field-0.value ≡ c.self.inside.setup.value = search rules in
    runs_as _ _ _ _ (AddsTheory c.args.at) _ _
    (docs_as (map text_of c.self.inside.standing.items) c.self.inside.setup.value (setup_of c.args.runner.now) c.self.inside.cache same ∙ c.self.view_is)
    (docs_as (map text_of c.follow.new.done.items) c.in_ok-clone-2.field-0.value (setup_of c.args.runner.now) c.self.inside.cache (own ∙ same)) (after.runs c.self.inside.cache)
