use Rattle.std.proofs.Common.{[], ap}
use Rattle.std.specs.Prelude.{is_some}
use Rattle.std.specs.Option.{option_map}
use Rattle.hol_terms.specs.Nameless.{nameless}
use Rattle.hol_kernel.specs.Rules.{refl_of, reflexive}
use Rattle.hol_equal.proofs.Steps.{known}
use Rattle.hol_equal.proofs.applied.refl.Goals as goal

pub refl_typed-requires : goal.refl_typed-requires
refl_typed-requires c = record { typed = ap is_some c.requires.typed }

pub returns : goal.returns
returns c =
    let B = c.args.basis.now in
    let t = nameless [] c.args.t.now in
    known B (refl_of B t) (reflexive t c.args.ty.now) (ap (option_map (reflexive t)) c.requires.typed) c.refl_typed.result c.refl_typed.ensures.sequent
