use Rattle.std.specs.Prelude.{slice_set, slice_index_or}
use Rattle.std.proofs.Common.{◌≡◌, ◌++◌, ◌∷◌, [], ◌+◌, ap, sym, ◌∙◌, subst, map, take, string_bytes, rules}
use Rattle.hol_document.specs.RunnerView.{setup_of}
use Rattle.hol_document.specs.Alike.{EndAlike}
use Rattle.hol_document.specs.Documents.{Documents, no_theory}
use Rattle.hol_document.specs.Settled.{FitsAt, edit_place, edited_texts}
use Rattle.hol_document.specs.Slots.{ended_of, text_of}
use Rattle.hol_document.proofs.Followed.{within_of, standing_here, count_there, rest_of, edit_after, runs_as, docs_as, standing_as, texts_edited}
use Rattle.hol_document.proofs.Redone.{pushed}
use Rattle.hol_document.proofs.Standing.{alike_none}
use Rattle.hol_document.proofs.theories.Theories.with_edit.Goals as goal

pub edited-requires : goal.edited-requires
edited-requires g c =
    let same = ap (λ (d : Documents). d.setup) c.self.view_is ∙ c.requires.setup in
    let within = within_of c.self.inside.standing.items c.args.self.now.theories c.args.i (ap (λ (d : Documents). d.theories) c.self.view_is) c.requires.within in
    let here = standing_here c.self.inside.setup.value (setup_of c.args.runner.now) c.self.inside.standing.items c.in_ok-done.done.items c.args.i c.index-theory.result.now same c.self.invariant within c.index-theory.ensures
    (c.in_ok-done.ensures ∙ ap (take c.args.i) c.deref.ensures.value) in
    record {
      fits = subst (FitsAt c.args.edit.now c.args.at) (count_there c.args.self.now c.self.inside.standing.items c.args.i c.index-theory.result.now (sym (ap (λ (d : Documents). d.theories) c.self.view_is)) within c.index-theory.ensures) c.requires.fits;
      stood = rw c.deref-2.ensures.value here.0;
    }

pub follow-requires : goal.follow-requires
follow-requires g c =
    let same = ap (λ (d : Documents). d.setup) c.self.view_is ∙ c.requires.setup in
    let within = within_of c.self.inside.standing.items c.args.self.now.theories c.args.i (ap (λ (d : Documents). d.theories) c.self.view_is) c.requires.within in
    let here = standing_here c.self.inside.setup.value (setup_of c.args.runner.now) c.self.inside.standing.items c.in_ok-done.done.items c.args.i c.index-theory.result.now same c.self.invariant within c.index-theory.ensures
    (c.in_ok-done.ensures ∙ ap (take c.args.i) c.deref.ensures.value) in
    let none : EndAlike (map (λ name. string_bytes name.value) c.new-names.result.items) (map ended_of c.in_ok-done.done.items) (map ended_of c.in_ok-done.done.items) = rw c.new-names.ensures.items (alike_none (map ended_of c.in_ok-done.done.items)) in
    let alike = c.in_ok-add_unless.ensures (map ended_of c.in_ok-done.done.items) (map ended_of c.in_ok-done.done.items) (ended_of c.in_ok-new.new.theory) c.in_ok-new.ensures.name c.in_ok-new.ensures.same none in (
      map ended_of c.in_ok-done.done.items ++ ended_of c.index-theory.result.now ∷ [],
      rw (c.in_ok-new.ensures.goes.0, rest_of c.self.inside.standing.items c.deref-3.result.now (c.args.i + 1) c.deref-3.ensures.value) here.1,
      subst (EndAlike (map (λ name. string_bytes name.value) c.add_unless.new.names.items) (map ended_of c.in_ok-done.done.items ++ ended_of c.index-theory.result.now ∷ []))
          (sym (pushed ended_of c.in_ok-done.done.items c.push.new.self.items c.in_ok-new.new.theory c.in_ok-push.ensures.items)) alike,
    )

pub invariant_of-result : goal.invariant_of-result
invariant_of-result g c =
    let same = ap (λ (d : Documents). d.setup) c.self.view_is ∙ c.requires.setup in
    let within = within_of c.self.inside.standing.items c.args.self.now.theories c.args.i (ap (λ (d : Documents). d.theories) c.self.view_is) c.requires.within in
    let after = edit_after c.self.inside.setup.value (setup_of c.args.runner.now) c.self.inside.standing.items c.in_ok-done.done.items c.push.new.self.items _ c.follow.new.done.items c.index-theory.result.now c.in_ok-new.new.theory
    c.args.i c.args.at c.args.edit.now _ _ _ same c.self.invariant within c.index-theory.ensures
    (c.in_ok-done.ensures ∙ ap (take c.args.i) c.deref.ensures.value) (rw c.deref-2.ensures.value at c.in_ok-new.ensures.edited) c.in_ok-push.ensures.items
    (rest_of c.self.inside.standing.items c.deref-3.result.now (c.args.i + 1) c.deref-3.ensures.value) (rw c.in_ok-new.ensures.goes.0 at c.in_ok-follow.ensures.follow) in
    let own : c.in_ok-clone.field-0.value ≡ c.self.inside.setup.value = search rules in
    standing_as (setup_of c.args.runner.now) c.in_ok-clone.field-0.value c.follow.new.done.items (own ∙ same) after.stand

pub returns-clause-theories : goal.returns-clause-theories
returns-clause-theories g c =
    let same = ap (λ (d : Documents). d.setup) c.self.view_is ∙ c.requires.setup in
    let within = within_of c.self.inside.standing.items c.args.self.now.theories c.args.i (ap (λ (d : Documents). d.theories) c.self.view_is) c.requires.within in
    let after = edit_after c.self.inside.setup.value (setup_of c.args.runner.now) c.self.inside.standing.items c.in_ok-done.done.items c.push.new.self.items _ c.follow.new.done.items c.index-theory.result.now c.in_ok-new.new.theory
    c.args.i c.args.at c.args.edit.now _ _ _ same c.self.invariant within c.index-theory.ensures
    (c.in_ok-done.ensures ∙ ap (take c.args.i) c.deref.ensures.value) (rw c.deref-2.ensures.value at c.in_ok-new.ensures.edited) c.in_ok-push.ensures.items
    (rest_of c.self.inside.standing.items c.deref-3.result.now (c.args.i + 1) c.deref-3.ensures.value) (rw c.in_ok-new.ensures.goes.0 at c.in_ok-follow.ensures.follow) in
    after.texts_are
    ∙ (texts_edited c.self.inside.standing.items c.args.i c.index-theory.result.now c.in_ok-new.new.theory (edited_texts c.args.edit.now c.args.at) within c.index-theory.ensures c.in_ok-new.ensures.name c.in_ok-new.ensures.edited.texts_are
    ∙ ap (λ (d : Documents). slice_set d.theories c.args.i (record { name = (slice_index_or d.theories c.args.i no_theory).name; commands = edited_texts c.args.edit.now c.args.at (slice_index_or d.theories c.args.i no_theory).commands })) c.self.view_is)

pub returns-clause-affected : goal.returns-clause-affected
returns-clause-affected g c =
    let same = ap (λ (d : Documents). d.setup) c.self.view_is ∙ c.requires.setup in
    let within = within_of c.self.inside.standing.items c.args.self.now.theories c.args.i (ap (λ (d : Documents). d.theories) c.self.view_is) c.requires.within in
    let after = edit_after c.self.inside.setup.value (setup_of c.args.runner.now) c.self.inside.standing.items c.in_ok-done.done.items c.push.new.self.items _ c.follow.new.done.items c.index-theory.result.now c.in_ok-new.new.theory
    c.args.i c.args.at c.args.edit.now _ _ _ same c.self.invariant within c.index-theory.ensures
    (c.in_ok-done.ensures ∙ ap (take c.args.i) c.deref.ensures.value) (rw c.deref-2.ensures.value at c.in_ok-new.ensures.edited) c.in_ok-push.ensures.items
    (rest_of c.self.inside.standing.items c.deref-3.result.now (c.args.i + 1) c.deref-3.ensures.value) (rw c.in_ok-new.ensures.goes.0 at c.in_ok-follow.ensures.follow) in
    let own : c.in_ok-clone.field-0.value ≡ c.self.inside.setup.value = search rules in
    runs_as _ _ _ _ (edit_place c.args.edit.now c.args.at c.args.i) _ _
    (docs_as (map text_of c.self.inside.standing.items) c.self.inside.setup.value (setup_of c.args.runner.now) c.self.inside.cache same ∙ c.self.view_is)
    (docs_as (map text_of c.follow.new.done.items) c.in_ok-clone.field-0.value (setup_of c.args.runner.now) c.self.inside.cache (own ∙ same)) (after.runs c.self.inside.cache)
