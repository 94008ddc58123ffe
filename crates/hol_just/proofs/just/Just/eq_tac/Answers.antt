use Rattle.hol_just.proofs.Joined.{splits_into_implications}
use Rattle.std.proofs.Common.{ap, ◌∙◌, ◌++◌}
use Rattle.hol_just.specs.Gives.{moved}
use Rattle.hol_just.proofs.just.Just.eq_tac.Goals as goal

pub returns : goal.returns
returns c =
    splits_into_implications c.in_ok-just.just c.in_ok-taking.taking c.then_at-2.new.self c.in_ok-just.ensures c.in_ok-taking.ensures
    (c.in_ok-then_at-2.ensures ∙ ap (λ ms. ms ++ moved 1 c.in_ok-taking.taking) c.in_ok-then_at.ensures)
