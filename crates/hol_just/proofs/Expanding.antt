-- From what a conversion made of a term, the term: the calls by which the code goes there.
use Rattle.std.specs.Prelude.{◌≡◌, Bool, true, false, cond, Option, Some, None, Result, Ok, Err, IfOk, IsSome, refl}
use Rattle.std.specs.Option.{option_map, option_and_then}
use Rattle.std.proofs.Common.{ap, sym, ◌∙◌, subst}
use Rattle.hol_kernel.specs.Items.{Items}
use Rattle.hol_kernel.specs.Sequent.{Sequent, sequent_of}
use Rattle.hol_kernel.specs.Theorem.{Theorem, theorem_on, over}
use Rattle.hol_kernel.specs.Rules.{eq_mp_of}
use Rattle.hol_equal.specs.Rules.{sym_of}
use Rattle.hol_types.specs.Tree.{TypeTree}
use Rattle.hol_formulas.specs.Equation.{equation}
use Rattle.hol_kernel.specs.Typing.{type_over}
use Rattle.hol_match.specs.Givens.{all_hold, all_hyps}
use Rattle.hol_conv.specs.Traces.{TraceValue}
use Rattle.hol_replay.specs.Replays.{trace_equation}
use Rattle.hol_just.specs.Reasons.{expanded_by}

pub over_sequent : (basis : Items) (o : Option Sequent) (th : Theorem) → over basis o ≡ Some th → o ≡ Some th.sequent
over_sequent basis None th e = absurd (cc)
over_sequent basis (Some s) th e = let is : theorem_on basis s ≡ th = cc in ap (λ (r : Theorem). Some r.sequent) is

-- the theorem of a trace is over its basis
pub equation_basis : (basis : Items) (t : TraceValue) (th : Theorem) → trace_equation basis t ≡ Some th → th.basis ≡ basis
equation_basis basis t th e = by (all_hold t.used basis) (type_over basis t.old) e
  where
    by : (b : Bool) (p : Option TypeTree) → cond b (option_map (λ a. theorem_on basis (sequent_of (all_hyps t.used) (equation a t.old t.new))) p) None ≡ Some th → th.basis ≡ basis
    by false p k = absurd (cc)
    by true None k = absurd (cc)
    by true (Some a) k = let is : theorem_on basis (sequent_of (all_hyps t.used) (equation a t.old t.new)) ≡ th = cc in sym (ap (λ (r : Theorem). r.basis) is)

-- an answer that is what another one was
pub ok_after : {T E F : Type 0} (r : Result T E) (answer : Result T F) (P : T → Type 0) → ((t : T) → answer ≡ Ok t → P t) → IfOk r (λ t. answer ≡ Ok t) → IfOk r P
ok_after (Ok t) answer P f h = f t h
ok_after (Err e) answer P f h = tt

module _ (basis : Items) (a : Sequent) where
  pub equation_some : (o : Option Theorem) → IsSome (over basis (expanded_by o a)) → IsSome o
  equation_some None h = h
  equation_some (Some th) h = refl

  module _ (o : Option Theorem) (th : Theorem) (is : o ≡ Some th) (some : IsSome (over basis (expanded_by o a))) where
    there : IsSome (over basis (option_and_then (λ s. eq_mp_of s a) (sym_of th.sequent)))
    there = subst (λ (p : Option Theorem). IsSome (over basis (expanded_by p a))) is some

    pub sym_applies : IsSome (over th.basis (sym_of th.sequent))
    sym_applies = by (sym_of th.sequent) there
      where
        by : (p : Option Sequent) → IsSome (over basis (option_and_then (λ s. eq_mp_of s a) p)) → IsSome (over th.basis p)
        by None h = h
        by (Some s) h = refl

    module _ (back : Theorem) (turned : over th.basis (sym_of th.sequent) ≡ Some back) where
      as_back : over basis (option_and_then (λ s. eq_mp_of s a) (sym_of th.sequent)) ≡ over basis (eq_mp_of back.sequent a)
      as_back = ap (λ p. over basis (option_and_then (λ s. eq_mp_of s a) p)) (over_sequent th.basis (sym_of th.sequent) back turned)

      pub eq_mp_applies : back.basis ≡ basis → IsSome (over back.basis (eq_mp_of back.sequent a))
      eq_mp_applies same =
          subst (λ (b : Items). IsSome (over b (eq_mp_of back.sequent a))) (sym same) (subst (λ (p : Option Theorem). IsSome p) as_back there)

      pub expanded_gives : (r : Theorem) → back.basis ≡ basis → over back.basis (eq_mp_of back.sequent a) ≡ Some r → over basis (expanded_by o a) ≡ Some r
      expanded_gives r same gives =
          ap (λ p. over basis (expanded_by p a)) is ∙ as_back ∙ subst (λ (b : Items). over b (eq_mp_of back.sequent a) ≡ Some r) same gives
