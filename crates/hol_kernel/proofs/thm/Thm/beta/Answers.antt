use Rattle.std.proofs.Common.{refl, sym, subst, rules}
use Rattle.std.specs.Prelude.{IsSome}
use Rattle.hol_kernel.proofs.TermRules.{beta_gives}
use Rattle.hol_kernel.proofs.thm.Thm.beta.Goals as goal

pub beta_typed-requires : goal.beta_typed-requires
beta_typed-requires c =
    record { applies = subst IsSome (sym (beta_gives c.args.basis.now c.args.redex.now c.in-Abs-Var.v c.in-Abs-Var.w c.in-Abs-Var._body c.type_of-ty.result.now (search rules) c.type_of-ty.ensures.named (search rules) (search rules))) refl }
