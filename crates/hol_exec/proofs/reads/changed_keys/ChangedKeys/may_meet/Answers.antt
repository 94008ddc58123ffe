use Rattle.std.proofs.Common.{◌≡◌, length, arith}
use Rattle.hol_exec.proofs.Changing.{none_meets, no_theories}
use Rattle.hol_exec.proofs.reads.changed_keys.ChangedKeys.may_meet.Goals as goal

pub returns : goal.returns
returns c =
    let len : length c.self.inside.theories.items ≡ c.self.inside.theories.len = omega (arith, c.self.inside.theories.ok.0) in
    none_meets c.args.names.bits c.names.result.bits c.self.inside.listed c.args.self.now c.self.inside.theories.items c.meets.result
    (no_theories c.self.inside.theories.items c.self.inside.theories.len len c.if-not-is_empty.ensures) c.self.view_is c.names.ensures c.meets.ensures
