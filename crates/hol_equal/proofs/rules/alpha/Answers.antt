use Rattle.std.proofs.Common.{◌≡◌, [], true, rules}
use Rattle.hol_terms.specs.Nameless.{nameless}
use Rattle.hol_terms.specs.Alpha.{alpha_eq}
use Rattle.hol_formulas.specs.Equation.{equation}
use Rattle.hol_kernel.specs.Sequent.{no_hyps, sequent_of}
use Rattle.hol_kernel.specs.Typing.{HasType, is_typed}
use Rattle.hol_kernel.proofs.Typed.{typed_type}
use Rattle.hol_equal.proofs.Answered.{gives, alpha_gives}
use Rattle.hol_equal.specs.Rules.{alpha_of}
use Rattle.hol_equal.proofs.rules.alpha.Goals as goal

pub alpha-requires : goal.alpha-requires
alpha-requires c =
    let B = c.args.basis.now in
    let s = nameless [] c.args.s.now in
    let t = nameless [] c.args.t.now in
    let same : alpha_eq s t ≡ true = search rules in
    let first : is_typed B s ≡ true = search rules in
    let second : is_typed B t ≡ true = search rules in
    record { typed = typed_type B c.args.s.now c.type_of.result.now c.type_of.ensures.named first; second = second; equal = same }

pub returns-clause-sequent : goal.returns-clause-sequent
returns-clause-sequent c =
    let B = c.args.basis.now in
    let s = nameless [] c.args.s.now in
    let t = nameless [] c.args.t.now in
    let a = c.type_of.result.now in
    let same : alpha_eq s t ≡ true = search rules in
    let first : is_typed B s ≡ true = search rules in
    let second : is_typed B t ≡ true = search rules in
    let typed : HasType B s a = typed_type B c.args.s.now a c.type_of.ensures.named first in
    gives B (alpha_of B s t) (sequent_of no_hyps (equation a s t)) c.in_ok-alpha.field-0 (alpha_gives B s t a same second typed) c.in_ok-alpha.ensures
