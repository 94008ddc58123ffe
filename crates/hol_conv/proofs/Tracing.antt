-- Traces of turns, and of topmost redexes.
use Rattle.std.proofs.Common.{◌≡◌, ℕ, List, [], ◌∷◌, ◌++◌, refl, sym, ap, ◌∙◌, subst, Bool, true, false, not, ◌&&◌, slice_get, Some}
use Rattle.std.specs.Prelude.{Ok, Err}
use Rattle.std.specs.FinSet as set
use Rattle.std.proofs.lemmas.Bool.{false≢true}
use Rattle.hol_types.specs.Tree.{TypeTree}
use Rattle.hol_terms.specs.Named.{Named, comb, abs}
use Rattle.hol_terms.specs.Nameless.{Nameless, free, nameless}
use Rattle.hol_terms.specs.Scoped.{binds}
use Rattle.hol_subst.specs.Closing.{bind}
use Rattle.hol_subst.specs.Variant.{is_free_in}
use Rattle.hol_subst.proofs.Closing.{nameless_abs}
use Rattle.hol_kernel.specs.Given.{Given, given_sequent}
use Rattle.hol_match.specs.Apart.{IsApart}
use Rattle.hol_match.specs.Contracta.{contracted}
use Rattle.hol_match.specs.SetView.{set_rule, set_rules, set_given, set_givens, IsGivenIn, AreGivenIn}
use Rattle.hol_match.specs.declared.set_rule.SetRule.{SetRule}
use Rattle.hol_match.specs.declared.source.Source.{Source}
use Rattle.hol_match.proofs.Lookups.{own_variables}
use Rattle.hol_conv.specs.declared.ended.Ended.{Ended}
use Rattle.hol_conv.specs.declared.error.ConvError.{ConvError}
use Rattle.hol_conv.specs.declared.error.ConvError.TheVariants.{Limit, TooLarge, Memory}
use Rattle.hol_conv.specs.declared.redexes.Redexes.{Redexes}
use Rattle.hol_conv.specs.declared.redexes.Redexes.TheVariants.{Beta as BetaRedexes, Rules}
use Rattle.hol_conv.specs.declared.rewritten.Rewritten.{Rewritten}
use Rattle.hol_conv.specs.declared.trace_node.TraceNode.{TraceNode}
use Rattle.hol_conv.specs.declared.trace_node.TraceNode.TheVariants.{Same, Beta}
use Rattle.hol_conv.specs.Ends.{TellsEnd}
use Rattle.hol_conv.specs.Outcomes.{Tells, IsTraceOf}
use Rattle.hol_conv.specs.Redexes.{beta_contractum, IsOutside}
use Rattle.hol_conv.specs.Turns.{Outcome, finished}
use Rattle.hol_conv.specs.Traces.{TraceValue, used, is_outside, in_body, traced}
use Rattle.hol_conv.specs.Tracing.{IsParts, IsBody, IsRule, IsAfter, Traces, redex_givens}
use Rattle.hol_conv.proofs.Traces.{given_both, given_through, all_given, parts_give, body_gives, opened_again}

-- ---- of what was given
-- a variable that is bound above a redex is free in no hypothesis
apart_given : (rules : List SetRule) (v : List ℕ × TypeTree) → IsApart (set_rules rules) v → is_outside v (set_givens rules) ≡ true
apart_given [] v h = refl
apart_given (r ∷ rules) v h = λ i. not (absent i) && apart_given rules v h.2 i
  where
    s : Source
    s = r.source.value

    not_there : binds s.fixed.variables.items v ≡ false
    not_there = ap (λ vs. binds vs v) (sym (own_variables s.fixed.variables.items)) ∙ h.0

    absent : is_free_in (set.items (given_sequent s.given).hyps) v ≡ false
    absent = by (is_free_in (set.items (given_sequent s.given).hyps) v) refl
      where
        by : (b : Bool) → is_free_in (set.items (given_sequent s.given).hyps) v ≡ b → b ≡ false
        by true e = absurd (false≢true (sym not_there ∙ s.variables_stay v e))
        by false e = refl

outside_redexes : (r : Redexes) (v : List ℕ × TypeTree) → IsOutside r v → is_outside v (redex_givens r) ≡ true
outside_redexes BetaRedexes v h = refl
outside_redexes (Rules set) v h = apart_given set.now.rules.items v h

-- it is free in no hypothesis of what was used
pub outside_used : (r : Redexes) (v : List ℕ × TypeTree) (n : TraceNode) → IsOutside r v → AreGivenIn (redex_givens r) (used n) → is_outside v (used n) ≡ true
outside_used r v n out h = all_given (λ g. not (is_free_in (set.items (given_sequent g).hyps) v)) (redex_givens r) (used n) (outside_redexes r v out) h

-- ---- a redex
pub beta_traces : (t u : Nameless) → beta_contractum t ≡ Some u → Traces [] Beta t u
beta_traces t u e = record { gives = e; given = tt }

pub ruleset redex_traces = (beta_traces)

pub by_rule_traces : (all : List Given) (n : TraceNode) (r s : SetRule) (t u : Nameless) → IsRule s n → set_rule s ≡ set_rule r → set_given s ≡ set_given r → contracted [] (set_rule r) t ≡ Some u → IsGivenIn all (set_given r) → Traces all n t u
by_rule_traces all n r s t u e same given c h = record {
  gives = e.gives t ∙ ap (λ z. contracted [] z t) same ∙ c;
  given = subst (AreGivenIn all) (sym e.given) (subst (IsGivenIn all) (sym given) h, tt);
}

pub ruleset rule_traces = (by_rule_traces)

-- ---- in the parts of a term
pub both_traces : (all : List Given) (a b n : TraceNode) (f x g y u : Named) → IsParts a b n → u ≡ comb g y → Traces all a (nameless [] f) (nameless [] g) → Traces all b (nameless [] x) (nameless [] y) → Traces all n (nameless [] (comb f x)) (nameless [] u)
both_traces all a b n f x g y u h e k l = record {
  gives = h.gives (nameless [] (comb f x)) ∙ parts_give (traced a) (traced b) (nameless [] f) (nameless [] x) (nameless [] g) (nameless [] y) k.gives l.gives ∙ ap (λ z. Some (nameless [] z)) (sym e);
  given = subst (AreGivenIn all) (sym h.given) (given_both all (used a) (used b) k.given l.given);
}

pub ruleset in_application = (both_traces)

pub body_traces : (r : Redexes) (n m : TraceNode) (v w : List ℕ × TypeTree) (b c d u : Named) → IsBody w n m → u ≡ abs w d → nameless [] (abs w c) ≡ nameless [] (abs v b) → IsOutside r w → Traces (redex_givens r) n (nameless [] c) (nameless [] d) → Traces (redex_givens r) m (nameless [] (abs v b)) (nameless [] u)
body_traces r n m v w b c d u h e same out k = record {
  gives =
      h.gives (nameless [] (abs v b)) ∙ ap (in_body w (used n) (traced n)) (sym same ∙ nameless_abs w c)
      ∙ body_gives w (used n) (traced n) (bind w (nameless [] c)) (nameless [] c) (nameless [] d) outside (opened_again w (nameless [] c)) k.gives
      ∙ ap (λ z. Some z) (sym (nameless_abs w d)) ∙ ap (λ z. Some (nameless [] z)) (sym e);
  given = subst (AreGivenIn (redex_givens r)) (sym h.given) k.given;
}
  where
    outside : is_outside w (used n) ≡ true
    outside = outside_used r w n out k.given

pub ruleset in_abstraction = (body_traces)

pub same_traces : (all : List Given) (n : TraceNode) (t u : Named) → n ≡ Same → u ≡ t → Traces all n (nameless [] t) (nameless [] u)
same_traces all n t u e f = subst (λ z. Traces all z (nameless [] t) (nameless [] u)) (sym e) (record { gives = ap (λ z. Some (nameless [] z)) (sym f); given = tt })

pub kept_traces : (all : List Given) (n m : TraceNode) (t : Nameless) (u w : Named) → n ≡ m → u ≡ w → Traces all m t (nameless [] w) → Traces all n t (nameless [] u)
kept_traces all n m t u w e f h = subst (λ z. Traces all z t (nameless [] u)) (sym e) (subst (λ z. Traces all m t (nameless [] z)) (sym f) h)

pub ruleset part_traces = (same_traces, kept_traces)

-- ---- turns
pub after_traces : (all : List Given) (a b n : TraceNode) (t u w : Nameless) → IsAfter a b n → Traces all a t u → Traces all b u w → Traces all n t w
after_traces all a b n t u w h k l = record { gives = h.gives t u w k.gives l.gives; given = given_through all (used a ++ used b) (used n) (given_both all (used a) (used b) k.given l.given) h.given }

pub ruleset in_turns = (same_traces, after_traces)

-- ---- the end
pub err_told : (e : ConvError) (o : Outcome) → TellsEnd (Err e) o → Tells (Err e) o
err_told Limit o h = h
err_told TooLarge o h = h
err_told Memory o h = tt

pub ok_told : (x : Ended) (r : Rewritten) (o : Outcome) → TellsEnd (Ok x) o → r.term ≡ x.term → r.left ≡ x.left → Tells (Ok r) o
ok_told x r o h e f = h ∙ (λ i. finished (nameless [] (sym e i)) (sym f i))

pub end_traced : (all : List Given) (n : TraceNode) (t u : Nameless) → Traces all n t u → traced n t ≡ Some u
end_traced all n t u h = h.gives

pub is_trace_of : (t : Named) (x : Ended) (r : Rewritten) → r.trace ≡ record { old = nameless [] t; new = nameless [] x.term; used = used x.node.value } → r.term ≡ x.term → IsTraceOf t r
is_trace_of t x r h e = (ap (λ (z : TraceValue). z.old) h, ap (λ (z : TraceValue). z.new) h ∙ ap (nameless []) (sym e))

pub end_given : (all : List Given) (x : Ended) (r : Rewritten) (t u : Nameless) → r.trace ≡ record { old = t; new = u; used = used x.node.value } → Traces all x.node.value t u → AreGivenIn all r.trace.used
end_given all x r t u h k = subst (AreGivenIn all) (sym (ap (λ (z : TraceValue). z.used) h)) k.given

pub ruleset ends = (err_told, ok_told, end_traced, is_trace_of, end_given)

none_of : (gs : List Given) → AreGivenIn [] gs → gs ≡ []
none_of [] h = refl
none_of (g ∷ gs) h = absurd (no_item h.0)
  where
    no_item : IsGivenIn [] g → ⊥
    no_item k = nothing k.0 k.1
      where
        nothing : (i : ℕ) → slice_get [] i ≡ Some g → ⊥
        nothing i e = absurd (cc)

pub end_alone : (x : Ended) (r : Rewritten) (t u : Nameless) → r.trace ≡ record { old = t; new = u; used = used x.node.value } → Traces [] x.node.value t u → r.trace.used ≡ []
end_alone x r t u h k = ap (λ (z : TraceValue). z.used) h ∙ none_of (used x.node.value) k.given

pub ruleset nothing_given = (end_alone)
