use Rattle.std.specs.Prelude.{◌≡◌, ℕ, ◌++◌, drop, Result, Ok, Err, IfOk, Some}
use Rattle.std.proofs.Common.{ap, sym, ◌∙◌, subst, arith}
use Rattle.hol_just.specs.Gives.{gives}
use Rattle.hol_just.specs.Over.{sequents}
use Rattle.hol_just.proofs.justifying.justify.Goals as goal

then_so : {A E : Type 0} (r : Result A E) (P Q : A → Type 0) → ((x : A) → P x → Q x) → IfOk r P → IfOk r Q
then_so (Ok x) P Q f h = f x h
then_so (Err e) P Q f h = h

pub returns-clause-gives : goal.returns-clause-gives
returns-clause-gives c =
    let B = c.args.basis.now in
    let J = c.args.just.now in
    let S = sequents c.args.thms.items in
    let none : c.moves.left ≡ 0 = omega (arith, c.moves-test.false) in
    let all : gives B J S ≡ Some (c.moves.cursor.before ++ c.moves.cursor.after) = subst (λ (n : ℕ). gives B (drop n J) S ≡ Some (c.moves.cursor.before ++ c.moves.cursor.after)) none c.moves.invariant.so_far in
    then_so c.finish.result _ _ (λ out same. all ∙ ap Some (sym same)) c.finish.ensures.same
