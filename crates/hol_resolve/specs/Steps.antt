-- What only private clauses speak of: rules on theorems over one basis.
use Rattle.std.specs.Prelude.{◌≡◌, IsTrue, Option, Some, None, Result, Ok, Err, IfOk}
use Rattle.hol_terms.specs.Nameless.{Nameless}
use Rattle.hol_kernel.specs.Items.{Items}
use Rattle.hol_kernel.specs.Sequent.{Sequent}
use Rattle.hol_kernel.specs.Theorem.{Theorem, theorem_on}
use Rattle.hol_kernel.specs.Typing.{is_typed}
use Rattle.hol_resolve.specs.declared.forward_rule.ForwardRule.{ForwardRule}
use Rattle.hol_resolve.specs.declared.refusal.Refusal.{Refusal}
use Rattle.hol_resolve.specs.Forward.{given_by}

-- the theorem of a sequent over a basis, or the refusal
abbrev pub placed : Items → Result Sequent Refusal → Result Theorem Refusal
placed basis (Ok s) = Ok (theorem_on basis s)
placed basis (Err r) = Err r

abbrev pub IsPlaced : Items → Result Theorem Refusal → Type 0
IsPlaced basis result = IfOk result (λ th. th.basis ≡ basis)

-- a rule on what comes before it
abbrev pub then_step : ForwardRule → (Sequent → Option Sequent) → Result Theorem Refusal → Result Theorem Refusal
then_step by f (Ok th) = placed th.basis (given_by by (f th.sequent))
then_step by f (Err r) = Err r

abbrev pub then_step_both : ForwardRule → (Sequent → Sequent → Option Sequent) → Result Theorem Refusal → Result Theorem Refusal → Result Theorem Refusal
then_step_both by f (Ok th) b = then_step by (f th.sequent) b
then_step_both by f (Err r) b = Err r

-- a term is over the basis
abbrev pub IsTermOver : Items → Option Nameless → Type 0
IsTermOver basis None = Unit {0}
IsTermOver basis (Some t) = IsTrue (is_typed basis t)
