-- What private functions promise each other of traces.
use Rattle.std.specs.Prelude.{◌≡◌, [], ◌∷◌, ◌++◌, ℕ, List, Option, Some}
use Rattle.std.specs.Option.{option_and_then}
use Rattle.hol_types.specs.Tree.{TypeTree}
use Rattle.hol_terms.specs.Nameless.{Nameless}
use Rattle.hol_kernel.specs.Given.{Given}
use Rattle.hol_match.specs.Contracta.{contracted}
use Rattle.hol_match.specs.SetView.{set_rule, set_given, set_givens, AreGivenIn}
use Rattle.hol_conv.specs.Traces.{used, traced, in_parts, in_body}
use Rattle.hol_conv.specs.declared.redexes.Redexes.{Redexes}
use Rattle.hol_conv.specs.declared.redexes.Redexes.TheVariants.{Beta, Rules}
use Rattle.hol_match.specs.declared.set_rule.SetRule.{SetRule}
use Rattle.hol_conv.specs.declared.trace_node.TraceNode.{TraceNode}

-- what was given for the redexes' rules
abbrev pub redex_givens : Redexes → List Given
redex_givens Beta = []
redex_givens (Rules set) = set_givens set.now.rules.items

-- the trace makes u of t, by what was given alone
pub record Traces (all : List Given) (n : TraceNode) (t u : Nameless) : Type 0 where
  pub gives : traced n t ≡ Some u
  pub given : AreGivenIn all (used n)

-- ---- how a trace is made of others

-- in the function so, and in the argument so
pub record IsParts (f x n : TraceNode) : Type 0 where
  pub gives : (t : Nameless) → traced n t ≡ in_parts (traced f) (traced x) t
  pub given : used n ≡ used f ++ used x

-- in the body so, where the variable was free
pub record IsBody (v : List ℕ × TypeTree) (b n : TraceNode) : Type 0 where
  pub gives : (t : Nameless) → traced n t ≡ in_body v (used b) (traced b) t
  pub given : used n ≡ used b

-- by the rule
pub record IsRule (r : SetRule) (n : TraceNode) : Type 0 where
  pub gives : (t : Nameless) → traced n t ≡ contracted [] (set_rule r) t
  pub given : used n ≡ set_given r ∷ []

-- the one and then the other
pub record IsBoth (a b n : TraceNode) : Type 0 where
  pub gives : (t : Nameless) → traced n t ≡ option_and_then (traced b) (traced a t)
  pub given : used n ≡ used a ++ used b

-- what the one function and then the other make of a term, by what was given alone
pub record IsThen (A B : Nameless → Option Nameless) (all : List Given) (n : TraceNode) : Type 0 where
  pub gives : (t u w : Nameless) → A t ≡ Some u → B u ≡ Some w → traced n t ≡ Some w
  pub given : AreGivenIn all (used n)

-- the same of traces
abbrev pub IsAfter : TraceNode → TraceNode → TraceNode → Type 0
IsAfter a b n = IsThen (traced a) (traced b) (used a ++ used b) n
