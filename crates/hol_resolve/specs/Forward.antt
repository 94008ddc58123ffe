-- Theorems as they are written: what rules make of theorems that are cited, innermost first and from left to right.
-- Sources: the HOL Light Reference Manual (ASSUME, REFL, SPEC, SYM, CONJUNCT1, CONJUNCT2, MP, INST_TYPE), whose rules are those of hol_kernel, hol_equal and hol_bool;
-- the order of refusals and the largest size are this project's.
use Rattle.std.specs.Prelude.{ℕ, ◌+◌, List, [], ◌∷◌, cond, codes, nat_lt, bytes_eq, Option, Some, None, Result, Ok, Err}
use Rattle.std.specs.Option.{option_map, option_and_then}
use Rattle.std.specs.Map.{lookup}
use Rattle.hol_types.specs.Tree.{TypeTree, TyVar, TyApp}
use Rattle.hol_terms.specs.Nameless.{Nameless, nameless_type}
use Rattle.hol_terms.specs.Size.{term_size}
use Rattle.hol_subst.specs.Closing.{open_with}
use Rattle.hol_subst.specs.Substitution.{types_inst}
use Rattle.hol_formulas.specs.Equation.{bool_type}
use Rattle.hol_formulas.specs.Formula.{Abstraction, dest_forall}
use Rattle.hol_kernel.specs.Rules.{reflexive, sequent_image}
use Rattle.hol_kernel.specs.Sequent.{Hyps, only_hyp, Sequent, sequent_of}
use Rattle.hol_kernel.specs.Theorem.{Theorem}
use Rattle.hol_kernel.specs.Typing.{is_type_at}
use Rattle.hol_match.specs.Listed.{listed}
use Rattle.hol_equal.specs.Rules.{sym_of}
use Rattle.hol_bool.specs.Rules.{conjunct1_of, conjunct2_of, mp_of}
use Rattle.hol_notation_tactics.specs.Text.{TypePairText, ThmText, Cited, Assume, Refl, Spec, Sym, Conjunct1, Conjunct2, Mp, InstType}
use Rattle.hol_goal.specs.Goal.{terms_size}
use Rattle.hol_resolve.specs.declared.forward_rule.ForwardRule.{ForwardRule}
use Rattle.hol_resolve.specs.declared.forward_rule.ForwardRule.TheVariants as rule
use Rattle.hol_resolve.specs.declared.refusal.Refusal.{Refusal}
use Rattle.hol_resolve.specs.declared.refusal.Refusal.TheVariants as refusal
use Rattle.hol_resolve.specs.Readings.{ReadingsValue, term_at, type_at}

-- the words of the rules
abbrev pub rule_word : ForwardRule → List ℕ
rule_word rule.Assume = codes "ASSUME"
rule_word rule.Refl = codes "REFL"
rule_word rule.Spec = codes "SPEC"
rule_word rule.Sym = codes "SYM"
rule_word rule.Conjunct1 = codes "CONJUNCT1"
rule_word rule.Conjunct2 = codes "CONJUNCT2"
rule_word rule.Mp = codes "MP"
rule_word rule.InstType = codes "INST_TYPE"

-- theorems by the names under which they stand
abbrev pub CitedValue : Type 0
CitedValue = List (List ℕ × Theorem)

-- ---- the rules, for terms and types that stand

-- ASSUME: {p} |- p, for p of type bool
abbrev pub assumed : Nameless → Option Sequent
assumed p = cond (is_type_at (nameless_type [] p) bool_type) (Some (sequent_of (only_hyp p) p)) None

-- REFL: |- t = t
abbrev pub reflected : Nameless → Option Sequent
reflected t = option_map (reflexive t) (nameless_type [] t)

-- SPEC: from !x. p, p with t for x, for t of the type of x
abbrev pub specialized_at : Nameless → Hyps → Abstraction → Option Sequent
specialized_at t hs x = cond (is_type_at (nameless_type [] t) x.domain) (Some (sequent_of hs (open_with t 0 x.body))) None

abbrev pub specialized : Sequent → Nameless → Option Sequent
specialized a t = option_and_then (specialized_at t a.hyps) (dest_forall a.concl)

-- INST_TYPE: types for type variables, by pairs of a new type and a type variable
abbrev pub variable_in : Option TypeTree → Option (List ℕ)
variable_in None = None
variable_in (Some (TyVar a)) = Some a
variable_in (Some (TyApp c ts)) = None

abbrev pub both : {X Y : Type 0} → Option X → Option Y → Option (X × Y)
both (Some x) (Some y) = Some (x, y)
both (Some x) None = None
both None y = None

abbrev pub pair_at : ReadingsValue → TypePairText → Option (TypeTree × List ℕ)
pair_at readings p = both (type_at readings p.new_type.place) (variable_in (type_at readings p.old_type.place))

abbrev pub pairs_at : ReadingsValue → List TypePairText → Option (List (TypeTree × List ℕ))
pairs_at readings [] = Some []
pairs_at readings (p ∷ pairs) = option_map (λ ps. ps.0 ∷ ps.1) (both (pair_at readings p) (pairs_at readings pairs))

abbrev pub instantiated : Sequent → List (TypeTree × List ℕ) → Sequent
instantiated a pairs = sequent_image (types_inst pairs) a

-- ---- sizes: a theorem counts all its terms, each hypothesis once

abbrev pub sequent_size : Sequent → ℕ
sequent_size s = term_size [] s.concl + terms_size (listed s.hyps)

-- what a rule gives: it may have 20,000 nodes
abbrev pub small : Sequent → Result Sequent Refusal
small s = cond (nat_lt 20000 (sequent_size s)) (Err refusal.TooLarge) (Ok s)

abbrev pub given_by : ForwardRule → Option Sequent → Result Sequent Refusal
given_by by None = Err (refusal.BadRule by)
given_by by (Some s) = small s

-- ---- theorems

-- a rule on what comes before it
abbrev pub then_by : ForwardRule → (Sequent → Option Sequent) → Result Sequent Refusal → Result Sequent Refusal
then_by by f (Ok a) = given_by by (f a)
then_by by f (Err r) = Err r

abbrev pub then_by_both : ForwardRule → (Sequent → Sequent → Option Sequent) → Result Sequent Refusal → Result Sequent Refusal → Result Sequent Refusal
then_by_both by f (Ok a) b = then_by by (f a) b
then_by_both by f (Err r) b = Err r

abbrev pub standing : List ℕ → Option Theorem → Result Sequent Refusal
standing name None = Err (refusal.UnknownTheorem name)
standing name (Some th) = Ok th.sequent

-- what a theorem as it is written comes to, by the theorems that are cited and the readings of its quotations
abbrev pub theorem_written : CitedValue → ReadingsValue → ThmText → Result Sequent Refusal
theorem_written cited readings (Cited name) = standing name (lookup (bytes_eq name) cited)
theorem_written cited readings (Assume p) = given_by rule.Assume (option_and_then assumed (term_at readings p.place))
theorem_written cited readings (Refl t) = given_by rule.Refl (option_and_then reflected (term_at readings t.place))
theorem_written cited readings (Spec t th) = then_by rule.Spec (λ a. option_and_then (specialized a) (term_at readings t.place)) (theorem_written cited readings th)
theorem_written cited readings (Sym th) = then_by rule.Sym sym_of (theorem_written cited readings th)
theorem_written cited readings (Conjunct1 th) = then_by rule.Conjunct1 conjunct1_of (theorem_written cited readings th)
theorem_written cited readings (Conjunct2 th) = then_by rule.Conjunct2 conjunct2_of (theorem_written cited readings th)
theorem_written cited readings (Mp a b) = then_by_both rule.Mp mp_of (theorem_written cited readings a) (theorem_written cited readings b)
theorem_written cited readings (InstType pairs th) = then_by rule.InstType (λ a. option_map (instantiated a) (pairs_at readings pairs)) (theorem_written cited readings th)
