use Rattle.std.specs.Prelude.{IsSome}
use Rattle.std.specs.Option.{option_map}
use Rattle.std.proofs.Common.{◌≡◌, Option, Some, None, refl}
use Rattle.hol_formulas.specs.Equation.{Sides, dest_eq}
use Rattle.hol_kernel.specs.Sequent.{Sequent}
use Rattle.hol_equal.proofs.Steps.{known}
use Rattle.hol_equal.specs.Applied.{symmetric}
use Rattle.hol_equal.specs.Rules.{reversed, sym_of}
use Rattle.hol_equal.proofs.applied.sym.Goals as goal

found : (f : Sides → Sequent) (o : Option Sides) (s : Sequent) → option_map f o ≡ Some s → IsSome o
found f (Some x) s e = refl
found f None s e = absurd (cc)

pub sym-requires : goal.sym-requires
sym-requires c =
    let a = c.args.a.now.sequent in
    record { equation = found (reversed a.hyps) (dest_eq a.concl) (symmetric a) c.requires.applies }

pub returns : goal.returns
returns c =
    let a = c.args.a.now.sequent in
    known c.args.a.now.basis (sym_of a) (symmetric a) c.requires.applies c.sym.result c.sym.ensures
