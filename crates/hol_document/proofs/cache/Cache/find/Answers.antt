-- What is found is one of the entries, and so a run; of this text and these reads, it is the command's where the tested names are as they were.
use Rattle.std.proofs.Common.{◌≡◌, sym, ◌∙◌, subst, refl, rules}
use Rattle.lru.proofs.CallerLemmas.{Contains-lookup}
use Rattle.hol_theory.specs.Constants.{constant_names}
use Rattle.hol_exec.specs.CommandView.{local_text}
use Rattle.hol_exec.specs.Local.{IsLocalOutcome}
use Rattle.hol_document.proofs.Runs.{found_run}
use Rattle.hol_document.proofs.cache.Cache.find.Goals as goal

pub returns-then-agrees : goal.returns-then-agrees
returns-then-agrees c =
    let run = c.in-Some.run'.now in
    let there = Contains-lookup _ _ run (sym c.in-Some.ensures) in
    let is = c.self.invariant (there.0, run) there.1 in
    let outcome : c.in_ok-outcome.outcome.value ≡ run.outcome = search rules in
    let tested : c.in_ok-tested.tested.value ≡ run.tested = search rules in
    subst (λ s. IsLocalOutcome s (constant_names c.args.env.now) (local_text c.args.command.now) c.args.reads.now.value (record { outcome = c.in_ok-outcome.outcome.value; tested = c.in_ok-tested.tested.value })) c.self.view_is
    (subst (λ l. IsLocalOutcome c.self.inside.setup.value (constant_names c.args.env.now) (local_text c.args.command.now) c.args.reads.now.value l) (λ i. record { outcome = sym outcome i; tested = sym tested i })
    (found_run c.self.inside.setup.value (constant_names c.args.env.now) run c.args.line.now.text c.args.line.now.value (local_text c.args.command.now) c.args.reads.now.value is c.parsed.ensures.read
    (c.if-is_of.ensures.text refl) c.requires (c.if-is_of.ensures.reads refl ∙ c.deref-2.ensures) (search rules)))
