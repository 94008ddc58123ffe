-- What all entries have is kept, where the run is put in.
use Rattle.std.proofs.Common.{◌≡◌, sym, ◌∙◌, subst}
use Rattle.hol_document.specs.contracts.cache.RunKeyPartialEq.TheImpl as key
use Rattle.hol_document.specs.Runs.{IsRun}
use Rattle.hol_document.proofs.Runs.{put_keeps}
use Rattle.hol_document.proofs.cache.Cache.put_run.Goals as goal

pub invariant_of-self : goal.invariant_of-self
invariant_of-self c =
    put_keeps key.ghosts.eq c.self.inside.runs c.push.new.self c.args.key c.args.run (IsRun c.self.inside.setup.value) c.self.invariant
    (subst (λ s. IsRun s c.args.run) (sym c.make_room.ensures ∙ sym c.self.view_is) c.requires) c.push.result c.push.ensures.entries c.push.ensures.err

pub invariant_of-self-in-Ok-2 : goal.invariant_of-self-in-Ok-2
invariant_of-self-in-Ok-2 c =
    put_keeps key.ghosts.eq c.self.inside.runs c.push.new.self c.args.key c.args.run (IsRun c.self.inside.setup.value) c.self.invariant
    (subst (λ s. IsRun s c.args.run) (sym c.make_room.ensures ∙ sym c.self.view_is) c.requires) c.push.result c.push.ensures.entries c.push.ensures.err

pub invariant_of-self-in_default : goal.invariant_of-self-in_default
invariant_of-self-in_default c =
    put_keeps key.ghosts.eq c.self.inside.runs c.push.new.self c.args.key c.args.run (IsRun c.self.inside.setup.value) c.self.invariant
    (subst (λ s. IsRun s c.args.run) (sym c.make_room.ensures ∙ sym c.self.view_is) c.requires) c.push.result c.push.ensures.entries c.push.ensures.err
