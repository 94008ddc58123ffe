-- Uses of named expressions, and which nodes are uses.
use Rattle.std.specs.Prelude.{◌≡◌, ◌+◌, ℕ, suc, List, [], ◌∷◌, Result, Ok, Err, IfOk, refl}
use Rattle.std.proofs.Common.{ap, sym, ◌∙◌, subst, arith}
use Rattle.hol_combine.specs.declared.expr.Handing.{Handing}
use Rattle.hol_combine.specs.declared.expr.Handing.TheVariants as handing
use Rattle.hol_combine.specs.declared.expr.ExprNode.{ExprNode}
use Rattle.hol_combine.specs.declared.expr.ExprNode.TheVariants as node
use Rattle.hol_combine.specs.Chains.{Chain, Steps, Alternatives, Uses, NoChain, chain_of}
use Rattle.hol_combine.specs.ExprValue.{TheoremTacValue, ExprValue, Then, Defined, then_all, used_through}
use Rattle.hol_combine.specs.ExprView.{expr_of_handing, expr_of_node, theorem_tac_value}

-- one use more
pub used_again : {E : Type 0} (result : Result ExprValue E) (self part copied : ExprValue) (more next : ℕ) → self ≡ used_through (suc more) part → copied ≡ part → next ≡ more + 1 → IfOk result (λ expr. expr ≡ used_through (suc next) copied) → IfOk result (λ expr. expr ≡ Defined self)
used_again (Ok expr) self part copied more next is same one h =
    let n : next ≡ suc more = omega (arith, one) in
    h ∙ (λ i. used_through (suc (n i)) (same i)) ∙ ap Defined (sym is)
used_again (Err e) self part copied more next is same one h = tt

-- ---- what is no use

abbrev IsNoUse : Chain → Type 0
IsNoUse Steps = Unit {0}
IsNoUse Alternatives = Unit {0}
IsNoUse Uses = ⊥
IsNoUse NoChain = Unit {0}

then_no_use : (t u : ExprValue) (us : List ExprValue) → IsNoUse (chain_of (then_all (Then t u) us))
then_no_use t u [] = tt
then_no_use t u (v ∷ us) = then_no_use (Then t u) v us

handing_no_use : (how : Handing) (called : TheoremTacValue) → IsNoUse (chain_of (expr_of_handing how called))
handing_no_use handing.DischThen called = tt
handing_no_use handing.PopAssum called = tt
handing_no_use handing.FirstAssum called = tt
handing_no_use (handing.SubgoalThen p) called = tt

node_no_use : (n : ExprNode) → ((more : ℕ) (part : ExprValue) → n ≡ node.Defined more part → ⊥) → IsNoUse (chain_of (expr_of_node n))
node_no_use (node.Call call) h = tt
node_no_use (node.Then t u us) h = then_no_use t u us.items
node_no_use (node.ThenL t us) h = tt
node_no_use (node.OrElse t u us) h = tt
node_no_use (node.Try t) h = tt
node_no_use (node.Repeat t) h = tt
node_no_use (node.Every ts) h = tt
node_no_use (node.First ts) h = tt
node_no_use (node.Replicate n t) h = tt
node_no_use (node.Changed t) h = tt
node_no_use (node.Hand how called) h = handing_no_use how (theorem_tac_value called)
node_no_use (node.Defined more t) h = h more t refl

not_uses : (c : Chain) → IsNoUse c → c ≡ Uses → ⊥
not_uses c h is = subst IsNoUse is h

pub no_use : (n : ExprNode) (self copied : ExprValue) → expr_of_node n ≡ self → copied ≡ self → ((more : ℕ) (part : ExprValue) → n ≡ node.Defined more part → ⊥) → chain_of copied ≡ Uses → ⊥
no_use n self copied is same h = not_uses (chain_of copied) (subst (λ (e : ExprValue). IsNoUse (chain_of e)) (is ∙ sym same) (node_no_use n h))
