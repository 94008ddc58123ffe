use Rattle.std.proofs.Common.{map}
use Rattle.std.proofs.lemmas.Result.{on_ok_weaker}
use Rattle.hol_exec.proofs.Changing.{listed_added}
use Rattle.hol_exec.proofs.reads.changed_keys.ChangedKeys.add_listed.Goals as goal

pub returns : goal.returns
returns c =
    on_ok_weaker c.add_keys_of.result (λ more.
    listed_added c.self.inside.listed c.add_keys_of.new.self c.args.self.now c.self.inside.theories.items (map (λ entry. entry.0) c.args.entries.now) c.self.view_is more)
    c.add_keys_of.ensures
