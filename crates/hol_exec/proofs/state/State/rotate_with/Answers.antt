use Rattle.std.proofs.Common.{rules, Some}
use Rattle.hol_exec.specs.Valid.{IsProofWithin}
use Rattle.hol_exec.proofs.Entries.{rotate_within}
use Rattle.hol_exec.proofs.state.State.rotate_with.Goals as goal
use Rattle.hol_exec.proofs.state.State.rotate_with.Goals.{in-Some, in-None}

pub invariant_of-self : goal.invariant_of-self
invariant_of-self c = elim c.match-self.branch [
  | in-Some w ↦
      let h : IsProofWithin c.self.inside.env (Some w.in-Some.proof) = rw w.in-Some.is at c.self.invariant.1 in
      let k : IsProofWithin c.self.inside.env (Some w.rotate_with.new.self) = rotate_within c.self.inside.env c.args.times w.in-Some.proof w.rotate_with.new.self w.rotate_with.result w.rotate_with.ensures.ok w.rotate_with.ensures.err h in
      search rules
  | in-None w ↦ search rules
]
