-- Nodes of expressions: where a chain is one node, no two nodes are one expression; and what a node's parts have of its nodes.
use mathlib.Core.Bool.{true≢false}
use Rattle.std.specs.Prelude.{◌≡◌, ◌↔◌, ◌+◌, ◌≤◌, ◌<◌, ℕ, zero, suc, Bool, true, false, IsTrue, List, [], ◌∷◌, ◌++◌, length, refl}
use Rattle.std.specs.Global.{Vec}
use Rattle.std.proofs.Common.{ap, sym, ◌∙◌, subst, arith, get_or}
use Rattle.std.proofs.lemmas.List.{append-nil, append_assoc}
use Rattle.hol_combine.specs.declared.expr.TacCall.{TacCall}
use Rattle.hol_combine.specs.declared.expr.TheoremTac.{TheoremTac}
use Rattle.hol_combine.specs.declared.expr.Handing.{Handing}
use Rattle.hol_combine.specs.declared.expr.Handing.TheVariants as handing
use Rattle.hol_combine.specs.declared.expr.ExprNode.{ExprNode}
use Rattle.hol_combine.specs.declared.expr.ExprNode.TheVariants as node
use Rattle.hol_combine.specs.Chains.{Steps, Alternatives, Uses, chain_of, last_chain}
use Rattle.hol_combine.specs.ExprValue.{TheoremTacValue, ExprValue, Call, Then, ThenL, OrElse, Try, Repeat, Every, First, Replicate, Changed, DischThen, PopAssum, FirstAssum, SubgoalThen, Defined, exprs, then_all, or_else_all, used_through, expr_nodes, exprs_nodes}
use Rattle.hol_combine.specs.ExprView.{expr_of_node, expr_of_handing}

-- ---- numbers of nodes

pub nodes_at : (ts : List ExprValue) (i : ℕ) (d : ExprValue) → i < length ts → expr_nodes (get_or ts i d) ≤ exprs_nodes (exprs ts)
nodes_at [] i d h = absurd (omega (arith, h))
nodes_at (t ∷ ts) zero d h = omega arith
nodes_at (t ∷ ts) (suc i) d h = let l : i < length ts = omega (arith, h) in omega (arith, nodes_at ts i d l)

nodes_in_then : (t : ExprValue) (us : List ExprValue) → expr_nodes t + exprs_nodes (exprs us) ≤ expr_nodes (then_all t us)
nodes_in_then t [] = omega arith
nodes_in_then t (u ∷ us) = omega (arith, nodes_in_then (Then t u) us)

nodes_in_or_else : (t : ExprValue) (us : List ExprValue) → expr_nodes t + exprs_nodes (exprs us) ≤ expr_nodes (or_else_all t us)
nodes_in_or_else t [] = omega arith
nodes_in_or_else t (u ∷ us) = omega (arith, nodes_in_or_else u us)

-- ---- which node an expression has

pub data Shape : Type 0 where
  ACall AThen AThenL AnOrElse ATry ARepeat AnEvery AFirst AReplicate AChanged AHand AUse : Shape

abbrev value_shape : ExprValue → Shape
value_shape (Call c) = ACall
value_shape (Then t u) = AThen
value_shape (ThenL t us) = AThenL
value_shape (OrElse t u) = AnOrElse
value_shape (Try t) = ATry
value_shape (Repeat t) = ARepeat
value_shape (Every ts) = AnEvery
value_shape (First ts) = AFirst
value_shape (Replicate n t) = AReplicate
value_shape (Changed t) = AChanged
value_shape (DischThen called) = AHand
value_shape (PopAssum called) = AHand
value_shape (FirstAssum called) = AHand
value_shape (SubgoalThen p called) = AHand
value_shape (Defined t) = AUse

abbrev pub node_shape : ExprNode → Shape
node_shape (node.Call call) = ACall
node_shape (node.Then t u us) = AThen
node_shape (node.ThenL t us) = AThenL
node_shape (node.OrElse t u us) = AnOrElse
node_shape (node.Try t) = ATry
node_shape (node.Repeat t) = ARepeat
node_shape (node.Every ts) = AnEvery
node_shape (node.First ts) = AFirst
node_shape (node.Replicate n t) = AReplicate
node_shape (node.Changed t) = AChanged
node_shape (node.Hand how called) = AHand
node_shape (node.Defined more t) = AUse

then_shape : (t : ExprValue) (us : List ExprValue) → value_shape t ≡ AThen → value_shape (then_all t us) ≡ AThen
then_shape t [] h = h
then_shape t (u ∷ us) h = then_shape (Then t u) us refl

hand_shape : (how : Handing) (called : TheoremTacValue) → value_shape (expr_of_handing how called) ≡ AHand
hand_shape handing.DischThen called = refl
hand_shape handing.PopAssum called = refl
hand_shape handing.FirstAssum called = refl
hand_shape (handing.SubgoalThen p) called = refl

shape_is : (n : ExprNode) → value_shape (expr_of_node n) ≡ node_shape n
shape_is (node.Call call) = refl
shape_is (node.Then t u us) = then_shape (Then t u) us.items refl
shape_is (node.ThenL t us) = refl
shape_is (node.OrElse t u us) = refl
shape_is (node.Try t) = refl
shape_is (node.Repeat t) = refl
shape_is (node.Every ts) = refl
shape_is (node.First ts) = refl
shape_is (node.Replicate n t) = refl
shape_is (node.Changed t) = refl
shape_is (node.Hand how called) = hand_shape how _
shape_is (node.Defined more t) = refl

-- the node is this one
abbrev pub IsShaped : Shape → ExprNode → Type 0
IsShaped ACall n = (call : TacCall) × (n ≡ node.Call call)
IsShaped AThen n = (t : ExprValue) × (u : ExprValue) × (us : Vec ExprValue) × (n ≡ node.Then t u us)
IsShaped AThenL n = (t : ExprValue) × (us : Vec ExprValue) × (n ≡ node.ThenL t us)
IsShaped AnOrElse n = (t : ExprValue) × (u : ExprValue) × (us : Vec ExprValue) × (n ≡ node.OrElse t u us)
IsShaped ATry n = (t : ExprValue) × (n ≡ node.Try t)
IsShaped ARepeat n = (t : ExprValue) × (n ≡ node.Repeat t)
IsShaped AnEvery n = (ts : Vec ExprValue) × (n ≡ node.Every ts)
IsShaped AFirst n = (ts : Vec ExprValue) × (n ≡ node.First ts)
IsShaped AReplicate n = (times : ℕ) × (t : ExprValue) × (n ≡ node.Replicate times t)
IsShaped AChanged n = (t : ExprValue) × (n ≡ node.Changed t)
IsShaped AHand n = (how : Handing) × (called : TheoremTac) × (n ≡ node.Hand how called)
IsShaped AUse n = (more : ℕ) × (t : ExprValue) × (n ≡ node.Defined more t)

shaped : (n : ExprNode) → IsShaped (node_shape n) n
shaped (node.Call call) = (call, refl)
shaped (node.Then t u us) = (t, u, us, refl)
shaped (node.ThenL t us) = (t, us, refl)
shaped (node.OrElse t u us) = (t, u, us, refl)
shaped (node.Try t) = (t, refl)
shaped (node.Repeat t) = (t, refl)
shaped (node.Every ts) = (ts, refl)
shaped (node.First ts) = (ts, refl)
shaped (node.Replicate n t) = (n, t, refl)
shaped (node.Changed t) = (t, refl)
shaped (node.Hand how called) = (how, called, refl)
shaped (node.Defined more t) = (more, t, refl)

-- expressions of which one alone has such a node are two
pub differ : (k : Shape) (n m : ExprNode) (a b : ExprValue) → expr_of_node n ≡ a → expr_of_node m ≡ b → node_shape n ≡ k → (IsShaped k m → ⊥) → IsTrue false ↔ (a ≡ b)
differ k n m a b of_n of_m is not = (
  (λ e. absurd (cc)),
  (λ e.
      let same : node_shape m ≡ k = sym (shape_is m) ∙ ap value_shape (of_m ∙ sym e ∙ sym of_n) ∙ shape_is n ∙ is in
      absurd (not (subst (λ (s : Shape). IsShaped s m) same (shaped m)))),
)

-- ---- chains as lists

abbrev steps : ExprValue → List ExprValue
steps (Call c) = Call c ∷ []
steps (Then t u) = steps t ++ u ∷ []
steps (ThenL t us) = ThenL t us ∷ []
steps (OrElse t u) = OrElse t u ∷ []
steps (Try t) = Try t ∷ []
steps (Repeat t) = Repeat t ∷ []
steps (Every ts) = Every ts ∷ []
steps (First ts) = First ts ∷ []
steps (Replicate n t) = Replicate n t ∷ []
steps (Changed t) = Changed t ∷ []
steps (DischThen called) = DischThen called ∷ []
steps (PopAssum called) = PopAssum called ∷ []
steps (FirstAssum called) = FirstAssum called ∷ []
steps (SubgoalThen p called) = SubgoalThen p called ∷ []
steps (Defined t) = Defined t ∷ []

one_step : (t : ExprValue) → (chain_of t ≡ Steps → ⊥) → steps t ≡ t ∷ []
one_step (Call c) free = refl
one_step (Then t u) free = absurd (free refl)
one_step (ThenL t us) free = refl
one_step (OrElse t u) free = refl
one_step (Try t) free = refl
one_step (Repeat t) free = refl
one_step (Every ts) free = refl
one_step (First ts) free = refl
one_step (Replicate n t) free = refl
one_step (Changed t) free = refl
one_step (DischThen called) free = refl
one_step (PopAssum called) free = refl
one_step (FirstAssum called) free = refl
one_step (SubgoalThen p called) free = refl
one_step (Defined t) free = refl

then_steps : (t : ExprValue) (us : List ExprValue) → steps (then_all t us) ≡ steps t ++ us
then_steps t [] = sym (append-nil (steps t))
then_steps t (u ∷ us) = then_steps (Then t u) us ∙ append_assoc (steps t) (u ∷ []) us

chain_steps : (t u : ExprValue) (us : List ExprValue) → (chain_of t ≡ Steps → ⊥) → steps (then_all (Then t u) us) ≡ t ∷ u ∷ us
chain_steps t u us free = then_steps (Then t u) us ∙ ap (λ (ts : List ExprValue). (ts ++ u ∷ []) ++ us) (one_step t free)

abbrev branches : ExprValue → List ExprValue
branches (Call c) = Call c ∷ []
branches (Then t u) = Then t u ∷ []
branches (ThenL t us) = ThenL t us ∷ []
branches (OrElse t u) = t ∷ branches u
branches (Try t) = Try t ∷ []
branches (Repeat t) = Repeat t ∷ []
branches (Every ts) = Every ts ∷ []
branches (First ts) = First ts ∷ []
branches (Replicate n t) = Replicate n t ∷ []
branches (Changed t) = Changed t ∷ []
branches (DischThen called) = DischThen called ∷ []
branches (PopAssum called) = PopAssum called ∷ []
branches (FirstAssum called) = FirstAssum called ∷ []
branches (SubgoalThen p called) = SubgoalThen p called ∷ []
branches (Defined t) = Defined t ∷ []

one_branch : (t : ExprValue) → (chain_of t ≡ Alternatives → ⊥) → branches t ≡ t ∷ []
one_branch (Call c) free = refl
one_branch (Then t u) free = refl
one_branch (ThenL t us) free = refl
one_branch (OrElse t u) free = absurd (free refl)
one_branch (Try t) free = refl
one_branch (Repeat t) free = refl
one_branch (Every ts) free = refl
one_branch (First ts) free = refl
one_branch (Replicate n t) free = refl
one_branch (Changed t) free = refl
one_branch (DischThen called) free = refl
one_branch (PopAssum called) free = refl
one_branch (FirstAssum called) free = refl
one_branch (SubgoalThen p called) free = refl
one_branch (Defined t) free = refl

chain_branches : (u : ExprValue) (us : List ExprValue) → (last_chain u us ≡ Alternatives → ⊥) → branches (or_else_all u us) ≡ u ∷ us
chain_branches u [] free = one_branch u free
chain_branches u (v ∷ us) free = ap (λ (ts : List ExprValue). u ∷ ts) (chain_branches v us free)

-- ---- uses as numbers

abbrev count : ExprValue → ℕ
count (Call c) = 0
count (Then t u) = 0
count (ThenL t us) = 0
count (OrElse t u) = 0
count (Try t) = 0
count (Repeat t) = 0
count (Every ts) = 0
count (First ts) = 0
count (Replicate n t) = 0
count (Changed t) = 0
count (DischThen called) = 0
count (PopAssum called) = 0
count (FirstAssum called) = 0
count (SubgoalThen p called) = 0
count (Defined t) = suc (count t)

no_use : (t : ExprValue) → (chain_of t ≡ Uses → ⊥) → count t ≡ 0
no_use (Call c) free = refl
no_use (Then t u) free = refl
no_use (ThenL t us) free = refl
no_use (OrElse t u) free = refl
no_use (Try t) free = refl
no_use (Repeat t) free = refl
no_use (Every ts) free = refl
no_use (First ts) free = refl
no_use (Replicate n t) free = refl
no_use (Changed t) free = refl
no_use (DischThen called) free = refl
no_use (PopAssum called) free = refl
no_use (FirstAssum called) free = refl
no_use (SubgoalThen p called) free = refl
no_use (Defined t) free = absurd (free refl)

use_count : (n : ℕ) (t : ExprValue) → (chain_of t ≡ Uses → ⊥) → count (used_through n t) ≡ n
use_count zero t free = no_use t free
use_count (suc n) t free = ap suc (use_count n t free)

used_same : (n : ℕ) (t u : ExprValue) → used_through n t ≡ used_through n u → t ≡ u
used_same zero t u e = e
used_same (suc n) t u e = used_same n t u (defined_same e)
  where
    defined_same : {a b : ExprValue} → Defined a ≡ Defined b → a ≡ b
    defined_same e = cc

-- ---- lists of parts

pub exprs_same : (ts us : List ExprValue) → exprs ts ≡ exprs us → ts ≡ us
exprs_same [] [] e = refl
exprs_same [] (u ∷ us) e = absurd (cc)
exprs_same (t ∷ ts) [] e = absurd (cc)
exprs_same (t ∷ ts) (u ∷ us) e =
    let first : t ≡ u = cc in
    let rest : exprs ts ≡ exprs us = cc in
    let more : ts ≡ us = exprs_same ts us rest in
    λ i. first i ∷ more i

-- ---- what the parts of a node have of its nodes

module _ (n : ExprNode) (a : ExprValue) (of_n : expr_of_node n ≡ a) where
  pub then_parts : (t u : ExprValue) (us : Vec ExprValue) → n ≡ node.Then t u us → 1 + expr_nodes t + expr_nodes u + exprs_nodes (exprs us.items) ≤ expr_nodes a
  then_parts t u us e = subst (λ (x : ExprValue). 1 + expr_nodes t + expr_nodes u + exprs_nodes (exprs us.items) ≤ expr_nodes x) (ap expr_of_node (sym e) ∙ of_n) (nodes_in_then (Then t u) us.items)

  pub or_else_parts : (t u : ExprValue) (us : Vec ExprValue) → n ≡ node.OrElse t u us → 1 + expr_nodes t + expr_nodes u + exprs_nodes (exprs us.items) ≤ expr_nodes a
  or_else_parts t u us e =
      let here : 1 + expr_nodes t + expr_nodes u + exprs_nodes (exprs us.items) ≤ 1 + expr_nodes t + expr_nodes (or_else_all u us.items) = omega (arith, nodes_in_or_else u us.items) in
      subst (λ (x : ExprValue). 1 + expr_nodes t + expr_nodes u + exprs_nodes (exprs us.items) ≤ expr_nodes x) (ap expr_of_node (sym e) ∙ of_n) here

  pub used_part : (more : ℕ) (t : ExprValue) → n ≡ node.Defined more t → 1 + expr_nodes t ≤ expr_nodes a
  used_part more t e = subst (λ (x : ExprValue). 1 + expr_nodes t ≤ expr_nodes x) (ap expr_of_node (sym e) ∙ of_n) (through more t)
    where
      through : (k : ℕ) (t : ExprValue) → 1 + expr_nodes t ≤ expr_nodes (used_through (suc k) t)
      through zero t = omega arith
      through (suc k) t = omega (arith, through k t)

-- ---- two nodes of one kind are one expression where their parts are the same

module _ (n m : ExprNode) (a b : ExprValue) (of_n : expr_of_node n ≡ a) (of_m : expr_of_node m ≡ b) where
  pub same_then : (t u t2 u2 : ExprValue) (us us2 : Vec ExprValue) → n ≡ node.Then t u us → m ≡ node.Then t2 u2 us2 → (chain_of t ≡ Steps → ⊥) → (chain_of t2 ≡ Steps → ⊥)
      → ((t ≡ t2) × ((u ≡ u2) × (us.items ≡ us2.items))) ↔ (a ≡ b)
  same_then t u t2 u2 us us2 is_n is_m free no2 = (
    (λ e. sym (ap expr_of_node (sym is_n) ∙ of_n) ∙ (λ i. then_all (Then (e.0 i) (e.1.0 i)) (e.1.1 i)) ∙ (ap expr_of_node (sym is_m) ∙ of_m)),
    (λ e.
        let whole : then_all (Then t u) us.items ≡ then_all (Then t2 u2) us2.items = (ap expr_of_node (sym is_n) ∙ of_n) ∙ e ∙ sym (ap expr_of_node (sym is_m) ∙ of_m) in
        let lists : t ∷ u ∷ us.items ≡ t2 ∷ u2 ∷ us2.items = sym (chain_steps t u us.items free) ∙ ap steps whole ∙ chain_steps t2 u2 us2.items no2 in
        let first : t ≡ t2 = cc in
        let second : u ≡ u2 = cc in
        let more : us.items ≡ us2.items = cc in
        (first, (second, more))),
  )

  pub same_or_else : (t u t2 u2 : ExprValue) (us us2 : Vec ExprValue) → n ≡ node.OrElse t u us → m ≡ node.OrElse t2 u2 us2
      → (last_chain u us.items ≡ Alternatives → ⊥) → (last_chain u2 us2.items ≡ Alternatives → ⊥) → ((t ≡ t2) × ((u ≡ u2) × (us.items ≡ us2.items))) ↔ (a ≡ b)
  same_or_else t u t2 u2 us us2 is_n is_m free no2 = (
    (λ e. sym (ap expr_of_node (sym is_n) ∙ of_n) ∙ (λ i. OrElse (e.0 i) (or_else_all (e.1.0 i) (e.1.1 i))) ∙ (ap expr_of_node (sym is_m) ∙ of_m)),
    (λ e.
        let whole : OrElse t (or_else_all u us.items) ≡ OrElse t2 (or_else_all u2 us2.items) = (ap expr_of_node (sym is_n) ∙ of_n) ∙ e ∙ sym (ap expr_of_node (sym is_m) ∙ of_m) in
        let first : t ≡ t2 = cc in
        let rest : or_else_all u us.items ≡ or_else_all u2 us2.items = cc in
        let lists : u ∷ us.items ≡ u2 ∷ us2.items = sym (chain_branches u us.items free) ∙ ap branches rest ∙ chain_branches u2 us2.items no2 in
        let second : u ≡ u2 = cc in
        let more : us.items ≡ us2.items = cc in
        (first, (second, more))),
  )

  pub same_use : (k l : ℕ) (t u : ExprValue) → n ≡ node.Defined k t → m ≡ node.Defined l u → (chain_of t ≡ Uses → ⊥) → (chain_of u ≡ Uses → ⊥) → ((k ≡ l) × (t ≡ u)) ↔ (a ≡ b)
  same_use k l t u is_n is_m free no2 = (
    (λ e. sym (ap expr_of_node (sym is_n) ∙ of_n) ∙ (λ i. used_through (suc (e.0 i)) (e.1 i)) ∙ (ap expr_of_node (sym is_m) ∙ of_m)),
    (λ e.
        let whole : used_through (suc k) t ≡ used_through (suc l) u = (ap expr_of_node (sym is_n) ∙ of_n) ∙ e ∙ sym (ap expr_of_node (sym is_m) ∙ of_m) in
        let counts : suc k ≡ suc l = sym (use_count (suc k) t free) ∙ ap count whole ∙ use_count (suc l) u no2 in
        let times : k ≡ l = omega (arith, counts) in
        let used : used_through (suc k) t ≡ used_through (suc k) u = whole ∙ ap (λ (j : ℕ). used_through (suc j) u) (sym times) in
        (times, used_same (suc k) t u used)),
  )

  pub same_every : (ts us : Vec ExprValue) → n ≡ node.Every ts → m ≡ node.Every us → (ts.items ≡ us.items) ↔ (a ≡ b)
  same_every ts us is_n is_m = (
    (λ e. sym (ap expr_of_node (sym is_n) ∙ of_n) ∙ (λ i. Every (exprs (e i))) ∙ (ap expr_of_node (sym is_m) ∙ of_m)),
    (λ e.
        let whole : Every (exprs ts.items) ≡ Every (exprs us.items) = (ap expr_of_node (sym is_n) ∙ of_n) ∙ e ∙ sym (ap expr_of_node (sym is_m) ∙ of_m) in
        let lists : exprs ts.items ≡ exprs us.items = cc in
        exprs_same ts.items us.items lists),
  )

  pub same_first : (ts us : Vec ExprValue) → n ≡ node.First ts → m ≡ node.First us → (ts.items ≡ us.items) ↔ (a ≡ b)
  same_first ts us is_n is_m = (
    (λ e. sym (ap expr_of_node (sym is_n) ∙ of_n) ∙ (λ i. First (exprs (e i))) ∙ (ap expr_of_node (sym is_m) ∙ of_m)),
    (λ e.
        let whole : First (exprs ts.items) ≡ First (exprs us.items) = (ap expr_of_node (sym is_n) ∙ of_n) ∙ e ∙ sym (ap expr_of_node (sym is_m) ∙ of_m) in
        let lists : exprs ts.items ≡ exprs us.items = cc in
        exprs_same ts.items us.items lists),
  )

  pub same_then_l : (t u : ExprValue) (ts us : Vec ExprValue) → n ≡ node.ThenL t ts → m ≡ node.ThenL u us → ((t ≡ u) × (ts.items ≡ us.items)) ↔ (a ≡ b)
  same_then_l t u ts us is_n is_m = (
    (λ e. sym (ap expr_of_node (sym is_n) ∙ of_n) ∙ (λ i. ThenL (e.0 i) (exprs (e.1 i))) ∙ (ap expr_of_node (sym is_m) ∙ of_m)),
    (λ e.
        let whole : ThenL t (exprs ts.items) ≡ ThenL u (exprs us.items) = (ap expr_of_node (sym is_n) ∙ of_n) ∙ e ∙ sym (ap expr_of_node (sym is_m) ∙ of_m) in
        let first : t ≡ u = cc in
        let lists : exprs ts.items ≡ exprs us.items = cc in
        (first, exprs_same ts.items us.items lists)),
  )

-- ---- parts that are compared one after the other

pub over : (r : Bool) (a b x y : List ExprValue) → IsTrue r ↔ (a ≡ b) → a ≡ x → b ≡ y → IsTrue r ↔ (x ≡ y)
over r a b x y h p q = ((λ t. sym p ∙ h.0 t ∙ q), (λ e. h.1 (p ∙ e ∙ sym q)))

module _ {P Q G : Type 0} where
  pub all_two : (x y : Bool) → IsTrue x ↔ P → IsTrue y ↔ Q → (P × Q) ↔ G → x ≡ true → IsTrue y ↔ G
  all_two x y p q g is = ((λ t. g.0 (p.0 is, q.0 t)), (λ e. q.1 (g.1 e).1))

  pub first_fails : (x v : Bool) → IsTrue x ↔ P → (P × Q) ↔ G → x ≡ false → v ≡ false → IsTrue v ↔ G
  first_fails x v p g is fails = (
    (λ t. absurd (true≢false (sym t ∙ fails))),
    (λ e. absurd (true≢false (sym (p.1 (g.1 e).0) ∙ is))),
  )

module _ {P Q R G : Type 0} where
  pub all_three : (x y z : Bool) → IsTrue x ↔ P → IsTrue y ↔ Q → IsTrue z ↔ R → (P × (Q × R)) ↔ G → x ≡ true → y ≡ true → IsTrue z ↔ G
  all_three x y z p q r g is too = ((λ t. g.0 (p.0 is, (q.0 too, r.0 t))), (λ e. r.1 (g.1 e).1.1))

  pub second_fails : (y v : Bool) → IsTrue y ↔ Q → (P × (Q × R)) ↔ G → y ≡ false → v ≡ false → IsTrue v ↔ G
  second_fails y v q g is fails = (
    (λ t. absurd (true≢false (sym t ∙ fails))),
    (λ e. absurd (true≢false (sym (q.1 (g.1 e).1.0) ∙ is))),
  )
