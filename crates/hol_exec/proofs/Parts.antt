-- Parts of expressions that are resolved one after the other.
use Rattle.std.specs.Prelude.{◌≡◌, ◌⊎◌, ◌<◌, ◌≤◌, ◌+◌, Option, Some, None, ℕ, zero, suc, List, [], ◌∷◌, ◌++◌, length, get_or, Result, Ok, Err, refl, string_bytes}
use Rattle.std.specs.List.{remove}
use Rattle.std.proofs.Common.{ap, sym, ◌∙◌, arith, drop, subst, inl, inr}
use Rattle.hol_terms.specs.Nameless.{Nameless}
use Rattle.hol_notation_tactics.specs.Text.{TacText, more_tacs, tac_texts}
use Rattle.hol_notation_tactics.specs.Text as text
use Rattle.hol_notation_tactics.specs.TacView.{tac_of_node}
use Rattle.hol_notation_tactics.specs.declared.tac_expr.TacExprNode.{TacExprNode}
use Rattle.hol_notation_tactics.specs.declared.tac_expr.TacExprNode.TheVariants as node
use Rattle.hol_notation_tactics.specs.declared.parts.Role.TheVariants.{Whole}
use Rattle.hol_combine.specs.Chains.{Chain, Steps, Alternatives, Uses, NoChain, chain_of}
use Rattle.hol_combine.specs.ExprValue as expr
use Rattle.hol_resolve.specs.Forms.{WrittenArgsValue}
use Rattle.hol_resolve.specs.Readings.{term_at}
use Rattle.hol_exec.specs.Callee.{CalleeValue, Registered, Defined, called}
use Rattle.hol_combine.specs.ExprValue.{TheoremTacValue, ExprValue, ExprValues, Then, OrElse, SubgoalThen, no_exprs, more_exprs, exprs, then_all}
use Rattle.hol_exec.specs.declared.resolving.unresolved.Unresolved.{Unresolved as Fault}
use Rattle.hol_exec.specs.declared.resolving.unresolved.Unresolved.TheVariants as fault
use Rattle.hol_exec.specs.Expr.{RefusedValue, mapped, both, ContextValue, formula, given, resolved_call, resolved_handing, resolved_expr, resolved_exprs}
use Rattle.hol_exec.specs.ExprView.{IsRefusal, IsFault, IsFound, IsChain, AreAlternatives}

-- ---- what refuses a part refuses the whole

pub fails_by : {X Y : Type 0} (r : Result X RefusedValue) (s : Result Y RefusedValue) (f : Fault) → ((e : RefusedValue) → r ≡ Err e → s ≡ Err e) → IsFault r f → IsFault s f
fails_by r s (fault.Refused kind arg) g h = g (kind, string_bytes arg) h
fails_by r s fault.Memory g h = tt

-- the whole is this refusal
pub refuses : {X : Type 0} (s : Result X RefusedValue) (refused : RefusedValue) (f : Fault) → s ≡ Err refused → IsRefusal refused f → IsFault s f
refuses s refused (fault.Refused kind arg) e h = e ∙ ap Err h
refuses s refused fault.Memory e h = tt

pub first_fails : {X Y Z : Type 0} (f : X → Y → Z) (r : Result X RefusedValue) (s : Result Y RefusedValue) (x : Fault) → IsFault r x → IsFault (both f r s) x
first_fails f r s x h = fails_by r (both f r s) x (λ e i. ap (λ w. both f w s) i) h

pub second_fails : {X Y Z : Type 0} (f : X → Y → Z) (r : Result X RefusedValue) (s : Result Y RefusedValue) (a : X) (x : Fault) → r ≡ Ok a → IsFault s x → IsFault (both f r s) x
second_fails f r s a x is h = fails_by s (both f r s) x (λ e i. ap (λ w. both f w s) is ∙ ap (mapped (f a)) i) h

pub both_found : {X Y Z : Type 0} (f : X → Y → Z) (r : Result X RefusedValue) (s : Result Y RefusedValue) (a : X) (b : Y) → r ≡ Ok a → s ≡ Ok b → both f r s ≡ Ok (f a b)
both_found f r s a b d e = ap (λ w. both f w s) d ∙ ap (mapped (f a)) e

-- ---- parts in a list

-- parts before others
abbrev pub before : List ExprValue → ExprValues → ExprValues
before [] us = us
before (x ∷ xs) us = more_exprs x (before xs us)

before_none : (xs : List ExprValue) → before xs no_exprs ≡ exprs xs
before_none [] = refl
before_none (x ∷ xs) = ap (more_exprs x) (before_none xs)

before_more : (xs : List ExprValue) (x : ExprValue) (us : ExprValues) → before (xs ++ x ∷ []) us ≡ before xs (more_exprs x us)
before_more [] x us = refl
before_more (y ∷ xs) x us = ap (more_exprs y) (before_more xs x us)

drop_text : (ts : List TacText) (i : ℕ) (t : TacText) → i < length ts → t ≡ get_or ts i t → tac_texts (drop i ts) ≡ more_tacs t (tac_texts (drop (i + 1) ts))
drop_text [] i t h e = absurd (omega (arith, h))
drop_text (x ∷ ts) zero t h e = λ j. more_tacs (sym e j) (tac_texts ts)
drop_text (x ∷ ts) (suc i) t h e = drop_text ts i t (omega (arith, h)) e ∙ ap (λ j. more_tacs t (tac_texts (drop j (x ∷ ts)))) (more i)
  where
    more : (i : ℕ) → suc (i + 1) ≡ suc i + 1
    more i = omega arith

module _ (context : ContextValue) (ts : List TacText) where
  abbrev rest : ℕ → Result ExprValues RefusedValue
  rest i = resolved_exprs context (tac_texts (drop i ts))

  each_next : (i : ℕ) (t : TacText) → i < length ts → t ≡ get_or ts i t → rest i ≡ both more_exprs (resolved_expr context t) (rest (i + 1))
  each_next i t h e = ap (resolved_exprs context) (drop_text ts i t h e)

  pub each_goes_on : (xs ys : List ExprValue) (i : ℕ) (t : TacText) (x : ExprValue) → i < length ts → t ≡ get_or ts i t → resolved_expr context t ≡ Ok x → ys ≡ xs ++ x ∷ []
      → resolved_exprs context (tac_texts ts) ≡ mapped (before xs) (rest i) → resolved_exprs context (tac_texts ts) ≡ mapped (before ys) (rest (i + 1))
  each_goes_on xs ys i t x h e found grown is =
      is ∙ ap (mapped (before xs)) (each_next i t h e ∙ ap (λ w. both more_exprs w (rest (i + 1))) found) ∙ joined (rest (i + 1)) ∙ ap (λ zs. mapped (before zs) (rest (i + 1))) (sym grown)
    where
      joined : (r : Result ExprValues RefusedValue) → mapped (before xs) (mapped (more_exprs x) r) ≡ mapped (before (xs ++ x ∷ [])) r
      joined (Ok us) = ap Ok (sym (before_more xs x us))
      joined (Err y) = refl

  pub each_ends : (xs : List ExprValue) (i : ℕ) → drop i ts ≡ [] → resolved_exprs context (tac_texts ts) ≡ mapped (before xs) (rest i) → resolved_exprs context (tac_texts ts) ≡ Ok (exprs xs)
  each_ends xs i none is = is ∙ ap (λ us. mapped (before xs) (resolved_exprs context (tac_texts us))) none ∙ ap Ok (before_none xs)

pub nothing_more : (ts : List TacText) (i : ℕ) → length ts ≤ i → drop i ts ≡ []
nothing_more [] zero h = refl
nothing_more [] (suc i) h = refl
nothing_more (t ∷ ts) zero h = absurd (omega (arith, h))
nothing_more (t ∷ ts) (suc i) h = let n : length ts ≤ i = omega (arith, h) in nothing_more ts i n

-- ---- chains

then_last : (t : ExprValue) (us : List ExprValue) (u : ExprValue) → then_all t (us ++ (u ∷ [])) ≡ Then (then_all t us) u
then_last t [] u = refl
then_last t (x ∷ us) u = then_last (Then t x) us u

append_assoc : (xs ys zs : List ExprValue) → (xs ++ ys) ++ zs ≡ xs ++ (ys ++ zs)
append_assoc [] ys zs = refl
append_assoc (x ∷ xs) ys zs = ap (λ (ws : List ExprValue). x ∷ ws) (append_assoc xs ys zs)

-- a part by itself
pub chain_of_one : (r : Result ExprValue RefusedValue) (old new : List ExprValue) (x : ExprValue) → r ≡ Ok x → new ≡ old ++ x ∷ [] → (chain_of x ≡ Steps → ⊥) → IsChain r old new
chain_of_one r old new x is grown whole = record { first = x; more = []; added = grown; is = is; whole = whole }

-- a chain, and one more
pub chain_longer : (r s : Result ExprValue RefusedValue) (old mid new : List ExprValue) (x : ExprValue) → IsChain r old mid → s ≡ Ok x → new ≡ mid ++ x ∷ [] → IsChain (both Then r s) old new
chain_longer r s old mid new x h is grown = record {
  first = h.first;
  more = h.more ++ (x ∷ []);
  added = grown ∙ ap (λ (ws : List ExprValue). ws ++ (x ∷ [])) h.added ∙ append_assoc old (h.first ∷ h.more) (x ∷ []);
  is = both_found Then r s (then_all h.first h.more) x h.is is ∙ ap Ok (sym (then_last h.first h.more x));
  whole = h.whole;
}

pub one_alternative : (r : Result ExprValue RefusedValue) (old new : List ExprValue) (x : ExprValue) → r ≡ Ok x → new ≡ old ++ x ∷ [] → (chain_of x ≡ Alternatives → ⊥) → AreAlternatives r old new
one_alternative r old new x is grown whole = record { first = x; more = []; added = grown; is = is; whole = whole }

-- a chain of two parts or more, as the node has it
pub chain_node : (r : Result ExprValue RefusedValue) (items after rest : List ExprValue) (head next : ExprValue) → IsChain r [] items → 1 < length items → head ≡ get_or items 0 head → after ≡ remove items 0 → next ≡ get_or after 0 next → rest ≡ remove after 0
    → r ≡ Ok (then_all (Then head next) rest)
chain_node r items after rest head next h two d e f g = by h.more h.added h.is
  where
    by : (more : List ExprValue) → items ≡ h.first ∷ more → r ≡ Ok (then_all h.first more) → r ≡ Ok (then_all (Then head next) rest)
    by [] is found = absurd (let n : length items ≡ 1 = ap length is in omega (arith, n, two))
    by (m ∷ more) is found =
        let first : head ≡ h.first = d ∙ ap (λ (ws : List ExprValue). get_or ws 0 head) is in
        let then : after ≡ m ∷ more = e ∙ ap (λ (ws : List ExprValue). remove ws 0) is in
        let second : next ≡ m = f ∙ ap (λ (ws : List ExprValue). get_or ws 0 next) then in
        let others : rest ≡ more = g ∙ ap (λ (ws : List ExprValue). remove ws 0) then in
        found ∙ sym (λ i. Ok (then_all (Then (first i) (second i)) (others i)))

-- a formula that is found, and what it is handed to
pub formula_handed : (r : Result Nameless RefusedValue) (s : Result TheoremTacValue RefusedValue) (p : Nameless) (result : Result ExprValue Fault) → r ≡ Ok p → IsFound (mapped (SubgoalThen p) s) result → IsFound (both SubgoalThen r s) result
formula_handed r s p result e h = subst (λ (w : Result Nameless RefusedValue). IsFound (both SubgoalThen w s) result) (sym e) h

-- what is found of an expression is so of an equal one
pub found_at : (context : ContextValue) (t u : TacText) (result : Result ExprValue Fault) → t ≡ u → IsFound (resolved_expr context t) result → IsFound (resolved_expr context u) result
found_at context t u result e h = subst (λ (x : TacText). IsFound (resolved_expr context x) result) e h

-- ---- which chain is resolved

abbrev text_chain : TacText → Chain
text_chain (text.Call call) = NoChain
text_chain (text.Then t u) = Steps
text_chain (text.ThenL t us) = NoChain
text_chain (text.OrElse t u) = Alternatives
text_chain (text.Repeat t) = NoChain
text_chain (text.Try t) = NoChain
text_chain (text.Changed t) = NoChain
text_chain (text.Every ts) = NoChain
text_chain (text.First ts) = NoChain
text_chain (text.Replicate n t) = NoChain
text_chain (text.DischThen call) = NoChain
text_chain (text.PopAssum call) = NoChain
text_chain (text.FirstAssum call) = NoChain
text_chain (text.SubgoalThen p call) = NoChain

-- it is the one that is written, or a use
abbrev Chained : Chain → Result ExprValue RefusedValue → Type 0
Chained k (Ok e) = (chain_of e ≡ Uses) ⊎ (chain_of e ≡ k)
Chained k (Err r) = Unit {0}

mapped_chained : {X : Type 0} (k : Chain) (f : X → ExprValue) → ((x : X) → chain_of (f x) ≡ k) → (r : Result X RefusedValue) → Chained k (mapped f r)
mapped_chained k f h (Ok x) = inr (h x)
mapped_chained k f h (Err e) = tt

both_chained : {X Y : Type 0} (k : Chain) (f : X → Y → ExprValue) → ((x : X) (y : Y) → chain_of (f x y) ≡ k) → (r : Result X RefusedValue) (s : Result Y RefusedValue) → Chained k (both f r s)
both_chained k f h (Ok x) s = mapped_chained k (f x) (h x) s
both_chained k f h (Err e) s = tt

module _ (context : ContextValue) where
  call_chained : (name : List ℕ) (o : Option (CalleeValue × WrittenArgsValue)) → Chained NoChain (resolved_call context name o)
  call_chained name None = tt
  call_chained name (Some (Registered index code, w)) = mapped_chained NoChain _ (λ a. refl) (given context name w)
  call_chained name (Some (Defined e bases, w)) = inl refl

  chained : (t : TacText) → Chained (text_chain t) (resolved_expr context t)
  chained (text.Call call) = call_chained call.name (called context.table Whole call context.cited)
  chained (text.Then t u) = both_chained Steps Then (λ x y. refl) (resolved_expr context t) (resolved_expr context u)
  chained (text.ThenL t us) = both_chained NoChain expr.ThenL (λ x y. refl) (resolved_expr context t) (resolved_exprs context us)
  chained (text.OrElse t u) = both_chained Alternatives OrElse (λ x y. refl) (resolved_expr context t) (resolved_expr context u)
  chained (text.Repeat t) = mapped_chained NoChain expr.Repeat (λ x. refl) (resolved_expr context t)
  chained (text.Try t) = mapped_chained NoChain expr.Try (λ x. refl) (resolved_expr context t)
  chained (text.Changed t) = mapped_chained NoChain expr.Changed (λ x. refl) (resolved_expr context t)
  chained (text.Every ts) = mapped_chained NoChain expr.Every (λ x. refl) (resolved_exprs context ts)
  chained (text.First ts) = mapped_chained NoChain expr.First (λ x. refl) (resolved_exprs context ts)
  chained (text.Replicate n t) = mapped_chained NoChain (expr.Replicate n) (λ x. refl) (resolved_expr context t)
  chained (text.DischThen call) = mapped_chained NoChain expr.DischThen (λ x. refl) (resolved_handing context call)
  chained (text.PopAssum call) = mapped_chained NoChain expr.PopAssum (λ x. refl) (resolved_handing context call)
  chained (text.FirstAssum call) = mapped_chained NoChain expr.FirstAssum (λ x. refl) (resolved_handing context call)
  chained (text.SubgoalThen p call) = both_chained NoChain SubgoalThen (λ x y. refl) (formula p.place (term_at context.readings p.place)) (resolved_handing context call)

  -- what is written as no chain of a kind is resolved to none of it
  other_chain : (k : Chain) (t : TacText) (e : ExprValue) → resolved_expr context t ≡ Ok e → (Uses ≡ k → ⊥) → (text_chain t ≡ k → ⊥) → chain_of e ≡ k → ⊥
  other_chain k t e found never not is =
      elim (subst (Chained (text_chain t)) found (chained t)) [ inl u ↦ never (sym u ∙ is) | inr own ↦ not (sym own ∙ is) ]

  pub no_steps : (n : TacExprNode) (t : TacText) (e : ExprValue) → tac_of_node n ≡ t → resolved_expr context t ≡ Ok e → ((a b : TacText) → n ≡ node.Then a b → ⊥) → chain_of e ≡ Steps → ⊥
  no_steps n t e is found not k = other_chain Steps t e found (λ u. absurd (cc)) (λ own. by n not (ap text_chain is ∙ own)) k
    where
      by : (m : TacExprNode) → ((a b : TacText) → m ≡ node.Then a b → ⊥) → text_chain (tac_of_node m) ≡ Steps → ⊥
      by (node.Call call) never own = absurd (cc)
      by (node.Then a b) never own = never a b refl
      by (node.ThenL a bs) never own = absurd (cc)
      by (node.OrElse a b) never own = absurd (cc)
      by (node.Repeat a) never own = absurd (cc)
      by (node.Try a) never own = absurd (cc)
      by (node.Changed a) never own = absurd (cc)
      by (node.Every xs) never own = absurd (cc)
      by (node.First xs) never own = absurd (cc)
      by (node.Replicate n a) never own = absurd (cc)
      by (node.DischThen call) never own = absurd (cc)
      by (node.PopAssum call) never own = absurd (cc)
      by (node.FirstAssum call) never own = absurd (cc)
      by (node.SubgoalThen p call) never own = absurd (cc)

  pub no_alternatives : (n : TacExprNode) (t : TacText) (e : ExprValue) → tac_of_node n ≡ t → resolved_expr context t ≡ Ok e → ((a b : TacText) → n ≡ node.OrElse a b → ⊥) → chain_of e ≡ Alternatives → ⊥
  no_alternatives n t e is found not k = other_chain Alternatives t e found (λ u. absurd (cc)) (λ own. by n not (ap text_chain is ∙ own)) k
    where
      by : (m : TacExprNode) → ((a b : TacText) → m ≡ node.OrElse a b → ⊥) → text_chain (tac_of_node m) ≡ Alternatives → ⊥
      by (node.Call call) never own = absurd (cc)
      by (node.Then a b) never own = absurd (cc)
      by (node.ThenL a bs) never own = absurd (cc)
      by (node.OrElse a b) never own = never a b refl
      by (node.Repeat a) never own = absurd (cc)
      by (node.Try a) never own = absurd (cc)
      by (node.Changed a) never own = absurd (cc)
      by (node.Every xs) never own = absurd (cc)
      by (node.First xs) never own = absurd (cc)
      by (node.Replicate n a) never own = absurd (cc)
      by (node.DischThen call) never own = absurd (cc)
      by (node.PopAssum call) never own = absurd (cc)
      by (node.FirstAssum call) never own = absurd (cc)
      by (node.SubgoalThen p call) never own = absurd (cc)
