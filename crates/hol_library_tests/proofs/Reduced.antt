-- A reduction that came to an end has its theorem.
use Rattle.std.proofs.Common.{◌≡◌, ℕ, [], sym, subst, refl, true, Option, Some, None}
use Rattle.std.specs.Prelude.{IsSome, is_some, Ok}
use Rattle.std.specs.Option.{option_map}
use Rattle.std.proofs.lemmas.Bool.{false≢true}
use Rattle.hol_types.specs.Tree.{TypeTree}
use Rattle.hol_terms.specs.Nameless.{Nameless, nameless}
use Rattle.hol_kernel.specs.Items.{Items}
use Rattle.hol_kernel.specs.Typing.{type_over, is_typed}
use Rattle.hol_conv.specs.Beta.{beta_turn}
use Rattle.hol_conv.specs.Outcomes.{Tells}
use Rattle.hol_conv.specs.Turns.{all_turns}
use Rattle.hol_conv.specs.declared.rewritten.Rewritten.{Rewritten}
use Rattle.hol_replay.specs.Equations.{equation_on, ended_equation, beta_conversion}

pub comes_to_an_end : (basis : Items) (turns : ℕ) (t : Nameless) (r : Rewritten) → Tells (Ok r) (all_turns beta_turn turns t) → is_typed basis t ≡ true → IsSome (beta_conversion basis turns t)
comes_to_an_end basis turns t r h e = subst (λ o. IsSome (ended_equation basis t o)) (sym h) (by (type_over basis t) e)
  where
    by : (o : Option TypeTree) → is_some o ≡ true → IsSome (option_map (λ a. equation_on basis a t (nameless [] r.term)) o)
    by None k = absurd (false≢true k)
    by (Some a) k = refl
