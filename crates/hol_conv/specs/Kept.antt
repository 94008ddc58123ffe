-- Traces that are kept of the terms around a part, the innermost first. Cited by private clauses alone.
use Rattle.std.specs.Prelude.{◌≡◌, ℕ, suc, ◌<◌, ◌==◌, List, [], ◌∷◌, ◌++◌, map, length, reverse, Bool, false, cond, Option, Some, None, Box}
use Rattle.std.specs.Global.{Global}
use Rattle.hol_terms.specs.Named.{Named}
use Rattle.hol_terms.specs.Nameless.{Nameless, app, nameless}
use Rattle.hol_subst.specs.Closing.{bind}
use Rattle.hol_conv.specs.Places.{around, NoneLeft}
use Rattle.hol_conv.specs.Tracing.{Traces, redex_givens}
use Rattle.hol_conv.specs.declared.frame.Frame.{Frame}
use Rattle.hol_conv.specs.declared.frame.Step.{Step}
use Rattle.hol_conv.specs.declared.frame.Step.TheVariants.{Function, Argument, Body}
use Rattle.hol_conv.specs.declared.kept.Kept.{Kept}
use Rattle.hol_conv.specs.declared.place.Place.{Place}
use Rattle.hol_conv.specs.declared.redexes.Redexes.{Redexes}
use Rattle.hol_conv.specs.declared.trace_node.TraceNode.{TraceNode}
use Rattle.hol_conv.specs.declared.trace_node.TraceNode.TheVariants.{Same}

-- the trace: that nothing became of the term, where there is none
abbrev pub node_of : Option (Box TraceNode Global) → TraceNode
node_of None = Same
node_of (Some n) = n.value

-- ---- what is kept of the term at one depth
abbrev pub is_kept : ℕ → List Kept → Bool
is_kept d [] = false
is_kept d (k ∷ ks) = k.depth == d

abbrev pub kept_at : ℕ → List Kept → TraceNode
kept_at d [] = Same
kept_at d (k ∷ ks) = cond (k.depth == d) k.node.value Same

-- and of those around it
abbrev pub kept_outside : ℕ → List Kept → List Kept
kept_outside d [] = []
kept_outside d (k ∷ ks) = cond (k.depth == d) ks (k ∷ ks)

-- all are of terms less deep
abbrev pub AreAbove : ℕ → List Kept → Type 0
AreAbove d [] = Unit {0}
AreAbove d (k ∷ ks) = k.depth < d

-- the trace of the term at this depth was put to those of terms less deep
pub record IsPut (d : ℕ) (a : TraceNode) (ks ls : List Kept) : Type 0 where
  pub at : AreAbove d ks → kept_at d ls ≡ a
  pub outside : AreAbove d ks → kept_outside d ls ≡ ks
  pub above : AreAbove d ks → AreAbove (suc d) ls

-- ---- steps
abbrev pub steps_of : List Frame → List Step
steps_of fs = map (λ f. f.step) fs

-- the term around the part, after all these steps
abbrev pub outward : List Step → Nameless → Nameless
outward [] n = n
outward (s ∷ ss) n = outward ss (around s n)

abbrev pub NoneLeftOf : Redexes → List Step → Type 0
NoneLeftOf r [] = Unit {0}
NoneLeftOf r (s ∷ ss) = NoneLeft r s × NoneLeftOf r ss

-- these are the first of the steps, and lead from the part n to m
pub record Leaves (left steps rest : List Step) (n m : Nameless) : Type 0 where
  pub split : steps ≡ left ++ rest
  pub out : m ≡ outward left n

-- ---- what became of a term
-- the term u around a part became what it is around n: the part by the trace a, and the function to its left by e
abbrev pub Became : Redexes → Step → TraceNode → TraceNode → Nameless → Nameless → Type 0
Became r (Function x) e a u n = (m : Nameless) × (u ≡ app m (nameless [] x)) × Traces (redex_givens r) a m n
Became r (Argument f) e a u n = (g : Nameless) × (m : Nameless) × (u ≡ app g m) × Traces (redex_givens r) e g (nameless [] f) × Traces (redex_givens r) a m n
Became r (Body v) e a u n = (m : Nameless) × (u ≡ bind v m) × Traces (redex_givens r) a m n

-- so the trace says of that term
abbrev pub LeadsOut : Step → TraceNode → TraceNode → TraceNode → Type 0
LeadsOut s e a n = (r : Redexes) (u m : Nameless) → NoneLeft r s → Became r s e a u m → Traces (redex_givens r) n u (around s m)

-- the depth above which functions are kept where the part is inside by this step, of a term at the depth d
abbrev pub own_depth : Step → ℕ → ℕ
own_depth (Function x) d = d
own_depth (Argument f) d = suc d
own_depth (Body v) d = d

-- The term t became what it is around the part n: the part since it was come to by the trace a, the terms around it until they were stepped into
-- by those in bs, and the functions beside by those in es.
abbrev pub Led : Redexes → List Step → List Kept → List Kept → TraceNode → Nameless → Nameless → Type 0
Led r [] bs es a t n = (bs ≡ []) × (es ≡ []) × Traces (redex_givens r) a t n
Led r (s ∷ ss) bs es a t n =
    (u : Nameless) × Led r ss (kept_outside (length ss) bs) (kept_outside (length ss) es) (kept_at (length ss) bs) t u
    × Became r s (kept_at (length ss) es) a u n × AreAbove (suc (length ss)) bs × AreAbove (own_depth s (length ss)) es

-- the same at a place
abbrev pub HasLed : Redexes → Nameless → Place → Type 0
HasLed r t p = Led r (steps_of (reverse p.frames.items)) (reverse p.before.items) (reverse p.functions.items) (node_of p.node) t (nameless [] p.part)

-- what comes of it where the part is left by the step: on to the argument, or out
abbrev pub LeadsOn : Redexes → Step → List Step → List Kept → List Kept → TraceNode → Nameless → Nameless → Type 0
LeadsOn r (Function x) ss bs es a t n = (q : Named) → nameless [] q ≡ n → Led r (Argument q ∷ ss) bs es a t (nameless [] x)
LeadsOn r (Argument f) ss bs es a t n = Led r ss bs es a t (around (Argument f) n)
LeadsOn r (Body v) ss bs es a t n = Led r ss bs es a t (around (Body v) n)
