-- Traces: how a term was rewritten, as a tree that follows the term.
-- Source: HOL Light's conversions (equal.ml; REWR_CONV of simp.ml), of which each node of a trace is one: ALL_CONV, COMB2_CONV, ABS_CONV, REWR_CONV,
-- BETA_CONV, THENC.
use Rattle.std.specs.Prelude.{ℕ, List, [], ◌∷◌, ◌++◌, Bool, cond, not, ◌&&◌, bytes_eq, Option, Some, None, IsTrue, refl}
use Rattle.std.specs.List.{list_all}
use Rattle.std.specs.Option.{option_map, option_and_then}
use Rattle.std.specs.FinSet as set
use Rattle.std.specs.Coded.{Coded, code_by, coded×, coded_list}
use Rattle.hol_types.specs.Tree.{TypeTree}
use Rattle.hol_types.specs.Equal.{type_eq}
use Rattle.hol_terms.specs.Nameless.{Nameless, free, bound, fixed, app, lam, free_occurrences, base_of}
use Rattle.hol_terms.specs.Code.{coded_nameless}
use Rattle.hol_terms.specs.Scoped.{binds}
use Rattle.hol_subst.specs.Closing.{bind, open_with}
use Rattle.hol_subst.specs.Variant.{is_free_in}
use Rattle.hol_formulas.specs.Equation.{dest_comb}
use Rattle.hol_kernel.specs.Given.{Given, given_code, given_sequent}
use Rattle.hol_kernel.specs.Items.{Items}
use Rattle.hol_kernel.specs.Typing.{HasType}
use Rattle.hol_match.specs.Contracta.{contracted}
use Rattle.hol_match.specs.Givens.{all_hold}
use Rattle.hol_match.specs.SetView.{set_rule, set_given}
use Rattle.hol_conv.specs.Redexes.{beta_contractum}
use Rattle.hol_conv.specs.declared.trace_node.TraceNode.{TraceNode, Parts', Body', Both'}
use Rattle.hol_conv.specs.declared.trace_node.TraceNode.TheVariants.{Same, Rule, Beta}

-- what was given for the rules that were used, in order
abbrev pub used : TraceNode → List Given
used Same = []
used (Parts' p f q x) = used f ++ used x
used (Body' v p b) = used b
used (Rule r) = set_given r.value ∷ []
used Beta = []
used (Both' n p a q b) = used a ++ used b

-- the variable is free in no hypothesis of what was given
abbrev pub is_outside : List ℕ × TypeTree → List Given → Bool
is_outside v gs = list_all (λ g. not (is_free_in (set.items (given_sequent g).hyps) v)) gs

-- the body of an abstraction at the variable v, which has its base name and type and isn't free in it
abbrev pub opened : List ℕ × TypeTree → Nameless → Option Nameless
opened v (free w) = None
opened v (bound i) = None
opened v (fixed c s) = None
opened v (app f x) = None
opened v (lam a s b) = cond (bytes_eq a (base_of v.0) && (type_eq s v.1 && not (binds (free_occurrences b) v))) (Some (open_with (free v) 0 b)) None

-- in the parts of an application, and in the body of an abstraction, where v was free
abbrev pub in_parts : (Nameless → Option Nameless) → (Nameless → Option Nameless) → Nameless → Option Nameless
in_parts F X t = option_and_then (λ d. option_and_then (λ g. option_map (λ y. app g y) (X d.1)) (F d.0)) (dest_comb t)

abbrev pub in_body : List ℕ × TypeTree → List Given → (Nameless → Option Nameless) → Nameless → Option Nameless
in_body v gs B t = cond (is_outside v gs) (option_and_then (λ n. option_map (bind v) (B n)) (opened v t)) None

-- what becomes of a term
abbrev pub traced : TraceNode → Nameless → Option Nameless
traced Same t = Some t
traced (Parts' p f q x) t = in_parts (λ u. traced f u) (λ u. traced x u) t
traced (Body' v p b) t = in_body v (used b) (λ u. traced b u) t
traced (Rule r) t = contracted [] (set_rule r.value) t
traced Beta t = beta_contractum t
traced (Both' n p a q b) t = option_and_then (λ u. traced b u) (traced a t)

-- ---- whole traces

-- the term that was rewritten, what it became, and what was given for the rules that were used
pub record TraceValue : Type 0 where
  pub old : Nameless
  pub new : Nameless
  pub used : List Given

abbrev pub trace_code : Coded TraceValue
trace_code = code_by (Nameless × (Nameless × List Given)) (coded× coded_nameless (coded× coded_nameless (coded_list given_code))) (λ t. (t.old, (t.new, t.used))) (λ p. record { old = p.0; new = p.1.0; used = p.1.1 }) (λ _. refl)

-- wherever all that was used can be read, what became of a term of a type has the type too
abbrev pub KeepsTypes : TraceValue → Type 0
KeepsTypes t = (basis : Items) (a : TypeTree) → IsTrue (all_hold t.used basis) → HasType basis t.old a → HasType basis t.new a
