use Rattle.std.proofs.Common.{◌≡◌, [], Some, refl}
use Rattle.hol_terms.specs.Nameless.{nameless}
use Rattle.hol_equal.specs.Applied.{symmetric}
use Rattle.hol_equal.specs.Rules.{sym_of}
use Rattle.hol_equal.proofs.Answered.{gives, sym_applies}
use Rattle.hol_equal.proofs.rules.sym.Goals as goal

pub sym-requires : goal.sym-requires
sym-requires c =
    let a = c.args.a.now.sequent in
    let s = c.in-Some._sides.ty.now in
    let l = nameless [] c.in-Some._sides.left.now in
    let r = nameless [] c.in-Some._sides.right.now in
    let applies : sym_of a ≡ Some (symmetric a) = sym_applies a s l r c.in-Some.ensures in
    record { applies = applies }

pub returns : goal.returns
returns c =
    let B = c.args.a.now.basis in
    let a = c.args.a.now.sequent in
    let s = c.in-Some._sides.ty.now in
    let l = nameless [] c.in-Some._sides.left.now in
    let r = nameless [] c.in-Some._sides.right.now in
    let applies : sym_of a ≡ Some (symmetric a) = sym_applies a s l r c.in-Some.ensures in
    record { sequent = gives B (sym_of a) (symmetric a) c.in_ok-sym.field-0 applies c.in_ok-sym.ensures; basis = rw c.in_ok-sym.ensures refl }
