-- BETA_CONV: BETA of the abstraction at its own variable, and INST of the argument for it.
use Rattle.std.specs.Prelude.{◌≡◌, ℕ, Bool, true, false, cond, ◌&&◌, List, [], ◌∷◌, map, Option, Some, None, unwrap_or, is_some, refl}
use Rattle.std.specs.Option.{option_map}
use Rattle.std.specs.FinSet as set
use Rattle.std.proofs.Common.{ap, sym, ◌∙◌, subst}
use mathlib.Core.Bool.{true≢false}
use Rattle.hol_types.specs.Tree.{TypeTree}
use Rattle.hol_types.specs.Equal.{variable_eq}
use Rattle.hol_types.specs.Fun.{fun_type}
use Rattle.hol_terms.specs.Named.{Named, var, comb, abs, named_type}
use Rattle.hol_terms.specs.Nameless.{Nameless, free, app, lam, base_of, nameless, nameless_type, free_occurrences}
use Rattle.hol_terms.specs.Alpha.{strip}
use Rattle.hol_terms.specs.Scoped.{binds}
use Rattle.hol_terms.proofs.Same.{variable_eq_decides}
use Rattle.hol_terms.proofs.Typing.{type_outside}
use Rattle.hol_subst.specs.Closing.{close, bind}
use Rattle.hol_subst.specs.Shift.{shift}
use Rattle.hol_subst.specs.Substitution.{term_subst}
use Rattle.hol_subst.specs.Laws.{IsUntouched}
use Rattle.hol_subst.proofs.Closing.{IsClosed, eq_same, closed_named, shift_whole, nameless_abs, close_binds, open_close}
use Rattle.hol_subst.proofs.Composition.{subst_untouched}
use Rattle.hol_subst.proofs.Opening.{open_close_subst}
use Rattle.hol_subst.proofs.Typing.{mapped_part}
use Rattle.hol_formulas.specs.Equation.{bool_type, equation}
use Rattle.hol_formulas.proofs.EquationTypes.{type_eq_itself}
use Rattle.hol_kernel.specs.Items.{Items}
use Rattle.hol_kernel.specs.Sequent.{Hyps, no_hyps, hyps_image, sequent_of}
use Rattle.hol_kernel.specs.Typing.{is_base, is_type, is_type_at, is_known, HasType}
use Rattle.hol_kernel.specs.Rules.{beta_of}
use Rattle.hol_kernel.specs.Derivation.{Derives, by_beta, by_inst}
use Rattle.hol_kernel.specs.Theorem.{theorem_over}
use Rattle.hol_kernel.proofs.HypothesisLists.{hyps_total}
use Rattle.hol_kernel.proofs.Sets.{items_empty}
use Rattle.hol_kernel.proofs.Stands.{both, some_is}
use Rattle.hol_kernel.proofs.TermRules.{beta_gives}
use Rattle.hol_kernel.proofs.Variables.{known_typed, variable_typed}
use Rattle.hol_kernel.proofs.WellTyped.{sides_typed, theorem_typed}
use Rattle.hol_equal.specs.Applied.{reduct, contraction}
use Rattle.hol_equal.specs.Rules.{m_with}
use Rattle.hol_equal.proofs.Typings.{AreParts, parts_typed, applied_typed}

-- no hypotheses stay none
pub image_none : (f : Nameless → Nameless) → hyps_image f no_hyps ≡ no_hyps
image_none f = ap (λ (ks : List Nameless). set.from_list (map (λ h. strip (f h)) ks)) (items_empty hyps_total)

-- What a well typed abstraction says of its variable.
record IsFunction (items : Items) (v : List ℕ × TypeTree) (d : TypeTree) : Type 0 where
  domain : d ≡ v.1
  stands : is_type items v.1 ≡ true

function_is : (items : Items) (v : List ℕ × TypeTree) (b : Nameless) (d a : TypeTree) → HasType items (lam (base_of v.0) v.1 b) (fun_type d a) → IsFunction items v d
function_is items v b d a h =
    let p = known_typed items (lam (base_of v.0) v.1 b) (fun_type d a) h in
    let known = both (is_base (base_of v.0)) (is_type items v.1 && is_known items b) p.0 in
    let under = mapped_part (λ t. fun_type v.1 t) (nameless_type (v.1 ∷ []) b) (fun_type d a) p.1 in
    let is : fun_type v.1 under.0 ≡ fun_type d a = some_is (fun_type v.1 under.0) (fun_type d a) (sym (ap (option_map (λ t. fun_type v.1 t)) under.1) ∙ p.1) in
    let same : v.1 ≡ d = cc in
    record { domain = sym same; stands = (both (is_type items v.1) (is_known items b) known.1).0 }

-- a term in which v is bound stays where v is substituted for
bound_stays : (v : List ℕ × TypeTree) (r n : Nameless) → binds (free_occurrences n) v ≡ false → term_subst ((r, v) ∷ []) 0 n ≡ n
bound_stays v r n absent = subst_untouched ((r, v) ∷ []) 0 n untouched
  where
    by : (w : List ℕ × TypeTree) (k : Bool) → variable_eq v w ≡ k → binds (free_occurrences n) w ≡ true → cond {A = Option Nameless} k (Some r) None ≡ None
    by w false e f = refl
    by w true e f = absurd (true≢false (sym f ∙ ap (binds (free_occurrences n)) (sym ((variable_eq_decides v w).0 e)) ∙ absent))

    untouched : IsUntouched ((r, v) ∷ []) n
    untouched w f = by w (variable_eq v w) refl f

-- for the abstraction of v in n, and the argument r
module _ (basis : Items) (v : List ℕ × TypeTree) (n r : Nameless) (a : TypeTree) (closed : IsClosed 0 r) (typed : HasType basis (app (bind v n) r) a) where
  parts : AreParts basis (bind v n) r a
  parts = parts_typed basis (bind v n) r a typed

  own : IsFunction basis v parts.domain
  own = function_is basis v (close v 0 n) parts.domain a parts.function

  pub argument_typed : HasType basis r v.1
  argument_typed = parts.argument ∙ ap Some own.domain

  general_typed : HasType basis (app (bind v n) (free v)) a
  general_typed = applied_typed basis v.1 a (bind v n) (free v) (subst (λ (d : TypeTree). HasType basis (bind v n) (fun_type d a)) own.domain parts.function) (variable_typed basis v own.stands)

  put : Nameless → Nameless
  put = term_subst ((r, v) ∷ []) 0

  function_stays : put (bind v n) ≡ bind v n
  unfolding put
  function_stays = bound_stays v r (bind v n) (close_binds v 0 n)

  variable_becomes : put (free v) ≡ r
  unfolding put
  variable_becomes = ap (λ k. shift 0 0 (unwrap_or (cond k (Some r) None) (free v))) (eq_same v) ∙ shift_whole 0 0 r closed

  general_derived : Derives basis no_hyps (equation a (app (bind v n) (free v)) n)
  general_derived =
      subst (λ (t : Nameless). Derives basis no_hyps (equation a (app (bind v n) (free v)) t)) (open_close v 0 n)
      (by_beta a v (close v 0 n) general_typed (close_binds v 0 n))

  pub image_derived : Derives basis no_hyps (equation a (app (bind v n) r) (m_with r v n))
  unfolding put
  image_derived =
      let fits = (λ i. is_type_at (argument_typed i) v.1 && true) ∙ ap (λ k. k && true) (type_eq_itself v.1) in
      let whole = by_inst no_hyps (equation a (app (bind v n) (free v)) n) ((r, v) ∷ []) fits general_derived in
      subst (λ (hs : Hyps). Derives basis hs (equation a (app (bind v n) r) (m_with r v n))) (image_none put)
      (subst (λ (t : Nameless). Derives basis (hyps_image put no_hyps) (equation a t (m_with r v n))) (λ i. app (function_stays i) (variable_becomes i)) whole)

  pub image_typed : HasType basis (m_with r v n) a
  image_typed = (sides_typed basis a bool_type (app (bind v n) r) (m_with r v n) (theorem_typed (theorem_over basis no_hyps (equation a (app (bind v n) r) (m_with r v n))) image_derived).conclusion).1

  pub image_is : reduct (app (bind v n) r) ≡ m_with r v n
  image_is = open_close_subst v r 0 n

-- for a redex
module _ (basis : Items) (v : List ℕ × TypeTree) (b x : Named) (a : TypeTree) (typed : HasType basis (nameless [] (comb (abs v b) x)) a) where
  pub redex_is : nameless [] (comb (abs v b) x) ≡ app (bind v (nameless [] b)) (nameless [] x)
  redex_is = ap (λ (f : Nameless). app f (nameless [] x)) (nameless_abs v b)

  pub redex_typed : HasType basis (app (bind v (nameless [] b)) (nameless [] x)) a
  redex_typed = subst (λ (t : Nameless). HasType basis t a) redex_is typed

  own_typed : HasType basis (nameless [] (comb (abs v b) (var v))) a
  own_typed = subst (λ (f : Nameless). HasType basis (app f (free v)) a) (sym (nameless_abs v b)) (general_typed basis v (nameless [] b) (nameless [] x) a (closed_named x) redex_typed)

  own_fits : named_type (comb (abs v b) (var v)) ≡ Some a
  own_fits = sym (type_outside (comb (abs v b) (var v))) ∙ (known_typed basis (nameless [] (comb (abs v b) (var v))) a own_typed).1

  -- at the variable itself, BETA gives it at once
  pub own_gives : x ≡ var v → beta_of basis (comb (abs v b) x) ≡ Some (contraction a (nameless [] (comb (abs v b) x)))
  own_gives e =
      let general = comb (abs v b) (var v) in
      let stays : nameless [] b ≡ reduct (nameless [] general) = sym (ap (λ (f : Nameless). reduct (app f (free v))) (nameless_abs v b) ∙ open_close v 0 (nameless [] b)) in
      subst (λ (y : Named). beta_of basis (comb (abs v b) y) ≡ Some (contraction a (nameless [] (comb (abs v b) y)))) (sym e)
      (beta_gives basis general v v b a refl own_fits (eq_same v) (ap is_some own_typed) ∙ ap (λ n. Some (sequent_of no_hyps (equation a (nameless [] general) n))) stays)
