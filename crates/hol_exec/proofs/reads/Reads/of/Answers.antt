use Rattle.std.proofs.Common.{ap, ◌∙◌}
use Rattle.hol_notation_commands.specs.CommandView.{local_text}
use Rattle.hol_exec.specs.Keys.{CommandKeysValue}
use Rattle.hol_exec.proofs.CitedBases.{keyed}
use Rattle.hol_exec.proofs.reads.Reads.of.Goals as goal

pub returns-clause-keys : goal.returns-clause-keys
returns-clause-keys c =
    keyed c.args.state.now.entries (local_text c.args.command.now) _ _ _
    (c.cited.ensures ∙ ap (λ (k : CommandKeysValue). k.cited) c.requires) (c.made.ensures ∙ ap (λ (k : CommandKeysValue). k.made) c.requires) c.in_ok-cited.ensures c.in_ok-made.ensures
