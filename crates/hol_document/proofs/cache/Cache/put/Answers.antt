-- The run of the slot is one of the set-up.
use Rattle.std.specs.Prelude.{Some}
use Rattle.std.specs.Option.{option_map}
use Rattle.std.proofs.Common.{◌≡◌, ap, sym, ◌∙◌, subst}
use Rattle.hol_document.specs.Runs.{IsRun}
use Rattle.hol_document.proofs.Runs.{slot_run}
use Rattle.hol_document.proofs.cache.Cache.put.Goals as goal

pub put_run-requires : goal.put_run-requires
put_run-requires c =
    let read : c.args.slot.now.row.reads ≡ Some c.in-Some.reads.value = sym c.reads.ensures ∙ ap (option_map (λ r. r.value)) c.in-Some.is in
    subst (IsRun c.args.self.now) (sym c.in-Ok.ensures) (slot_run c.args.self.now c.requires.0 c.requires.1 c.args.slot.now c.in-Some.reads.value read c.requires.2)
