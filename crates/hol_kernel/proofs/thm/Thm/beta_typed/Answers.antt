use Rattle.std.proofs.Common.{◌≡◌, [], Some, refl, ap, sym, ◌∙◌, rules}
use Rattle.std.proofs.lemmas.Result.{IfOk-weaker}
use Rattle.std.specs.Option.{option_map}
use Rattle.hol_terms.specs.Named.{var, comb, abs}
use Rattle.hol_terms.specs.Nameless.{nameless}
use Rattle.hol_kernel.specs.Sequent.{no_hyps}
use Rattle.hol_kernel.specs.Theorem.{theorem_on, theorem_over}
use Rattle.hol_kernel.proofs.TermRules.{reduces, beta_derived, beta_gives, body_type}
use Rattle.hol_kernel.proofs.thm.Thm.beta_typed.Goals as goal

pub equation-requires-clause-right : goal.equation-requires-clause-right
equation-requires-clause-right c =
    let t = c.args.redex.now in
    let is : t ≡ comb (abs c.in-Abs._v c.in-Abs.body) c.in-Comb._argument = search rules in
    let r = reduces c.args.basis.now t c.in-Abs._v c.in-Abs.body c.in-Comb._argument is c.requires.applies in
    body_type t c.in-Abs._v c.in-Abs.body (var r.argument) c.type_of.result.now r.is c.type_of.ensures.named

pub unconditional-requires : goal.unconditional-requires
unconditional-requires c =
    let t = c.args.redex.now in
    let is : t ≡ comb (abs c.in-Abs._v c.in-Abs.body) c.in-Comb._argument = search rules in
    let r = reduces c.args.basis.now t c.in-Abs._v c.in-Abs.body c.in-Comb._argument is c.requires.applies in
    beta_derived c.args.basis.now t c.in-Abs._v r.argument c.in-Abs.body c.type_of.result.now r.is c.type_of.ensures.named r.same r.typed
    c.args.basis.now no_hyps c.in_ok-concl.concl refl refl c.in_ok-concl.ensures.is
    (body_type t c.in-Abs._v c.in-Abs.body (var r.argument) c.type_of.result.now r.is c.type_of.ensures.named)

pub returns-clause-sequent : goal.returns-clause-sequent
returns-clause-sequent c =
    let t = c.args.redex.now in
    let is : t ≡ comb (abs c.in-Abs._v c.in-Abs.body) c.in-Comb._argument = search rules in
    let r = reduces c.args.basis.now t c.in-Abs._v c.in-Abs.body c.in-Comb._argument is c.requires.applies in
    IfOk-weaker c.unconditional.result _ _
    (λ th made.
    ap (option_map (theorem_on c.args.basis.now)) (beta_gives c.args.basis.now t c.in-Abs._v r.argument c.in-Abs.body c.type_of.result.now r.is c.type_of.ensures.named r.same r.typed)
    ∙ ap Some (sym (made ∙ (λ i. theorem_over c.args.basis.now no_hyps (nameless [] (c.in_ok-concl.ensures.is i))))))
    c.unconditional.ensures
