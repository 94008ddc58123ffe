-- Rules that are kept are put behind those of other theorems.
use Rattle.std.proofs.Common.{◌≡◌, ℕ, ◌+◌, ◌<◌, ◌≤◌, List, [], ◌∷◌, ◌++◌, map, length, take, get_or, slice_get, refl, sym, ap, ◌∙◌, subst, Some, arith}
use Rattle.std.specs.List.{AllByRecursion}
use Rattle.std.specs.List.Sorted.{IsStrictlySortedBy}
use Rattle.std.proofs.Math.Seq.{take-append_seam}
use Rattle.std.proofs.lemmas.List.{length-append, get_or-append-add, get_or_append_left}
use Rattle.std.proofs.lemmas.Option.{slice_get-get_or, slice_get_within, get_or_from_slice_get}
use Rattle.hol_types.specs.Tree.{TypeTree}
use Rattle.hol_terms.specs.Named.{Named}
use Rattle.hol_terms.specs.Nameless.{Nameless, nameless}
use Rattle.hol_subst.specs.AlphaOrder.{nameless_cmp}
use Rattle.hol_subst.specs.Hypotheses.{hyp_of, hyps_of}
use Rattle.hol_kernel.specs.Given.{Given, given_sequent}
use Rattle.hol_match.specs.Fixed.{stays, stays_of, AreFixed}
use Rattle.hol_match.specs.Instance.{staying}
use Rattle.hol_match.specs.Listed.{listed}
use Rattle.hol_match.specs.Rules.{rules_of}
use Rattle.hol_match.specs.RuleSets.{RuleEntry, rule_entries, first_entry}
use Rattle.hol_match.specs.RuleView.{rule_values}
use Rattle.hol_match.specs.Sources.{IsFrom}
use Rattle.hol_match.specs.Ways.{rule_ways}
use Rattle.hol_match.specs.RulesKept.{AreKeptOf, FirstOf}
use Rattle.hol_match.specs.SetView.{Adds, AddsFrom, AreOf}
use Rattle.hol_match.specs.declared.rule.Rule.{Rule}
use Rattle.hol_match.specs.declared.set_rule.SetRule.{SetRule}
use Rattle.hol_match.specs.declared.source.Source.{Source}
use Rattle.hol_match.proofs.OrderedHyps.{stays_same, rules_same}
use Rattle.hol_match.proofs.Repeated.{HasFirst, first_next, first_last}

-- ---- the rules of what was given

pub kept_of : (s : Source) (rules : List Rule) (hyps : List Named) → hyps_of hyps ≡ (given_sequent s.given).hyps → IsStrictlySortedBy nameless_cmp (map hyp_of hyps) → AreFixed (map (λ t. nameless [] t) hyps) s.fixed
    → rule_values rules ≡ rules_of (map (λ t. nameless [] t) hyps) (given_sequent s.given).concl → AllByRecursion (IsFrom s) (rule_ways rules) → AreKeptOf s rules
kept_of s rules hyps h o f e from = record {
  are = e ∙ rules_same hyps (given_sequent s.given).hyps (given_sequent s.given).concl h o;
  stay = (λ k. staying (f.0 k) (f.1 k)) ∙ stays_same hyps (given_sequent s.given).hyps h o;
  from = from;
}

-- ---- behind those of other theorems

-- what stands at a place of the first ones stands there
longer : (gs more : List Given) (i : ℕ) (g : Given) → slice_get gs i ≡ Some g → slice_get (gs ++ more) i ≡ Some g
longer gs more i g e =
    let within : i < length gs = slice_get_within gs i g e in
    slice_get-get_or (gs ++ more) i g (omega (arith, within, length-append gs more))
    ∙ ap (λ x. Some x) (get_or_append_left gs more g i within ∙ get_or_from_slice_get gs i g g e)

of_longer : (gs more : List Given) (rules : List SetRule) → AreOf gs rules → AreOf (gs ++ more) rules
of_longer gs more [] h = tt
of_longer gs more (r ∷ rules) h = (longer gs more r.theorem _ h.0, of_longer gs more rules h.1)

module _ (thms kept : List Given) (from : ℕ) (count : length thms ≡ from) where
  begun : take (from + 0) (thms ++ kept) ≡ thms
  begun = let n : from + 0 ≡ length thms = omega (arith, count) in ap (λ i. take i (thms ++ kept)) n ∙ take-append_seam thms kept

  there : (i : ℕ) (g : Given) → i < length kept → g ≡ get_or kept i g → g ≡ get_or (thms ++ kept) (from + i) g
  there i g l e = e ∙ sym (get_or-append-add thms kept i g) ∙ ap (λ n. get_or (thms ++ kept) (n + i) g) count

  within : (i : ℕ) → i < length kept → from + i < length (thms ++ kept)
  within i l = omega (arith, l, count, length-append thms kept)

  -- the first to match
  pub first_begun : (rules : List RuleEntry) → FirstOf thms rules → HasFirst (thms ++ kept) (from + 0) rules
  first_begun rules h = λ env t. ap (λ f. f env t) h ∙ ap (λ gs. first_entry (rule_entries 0 (map given_sequent gs)) env t) (sym begun)

  pub first_more : (before after : List RuleEntry) (i : ℕ) (g : Given) → i < length kept → g ≡ get_or kept i g → Adds (from + i) (given_sequent g) before after → HasFirst (thms ++ kept) (from + i) before → HasFirst (thms ++ kept) (from + (i + 1)) after
  first_more before after i g l e a h =
      let n : from + i + 1 ≡ from + (i + 1) = omega arith in
      subst (λ k. HasFirst (thms ++ kept) k after) n (first_next (thms ++ kept) before after (from + i) g (within i l) (there i g l e) h a)

  pub first_done : (rules : List RuleEntry) (i : ℕ) → length kept ≤ i → HasFirst (thms ++ kept) (from + i) rules → FirstOf (thms ++ kept) rules
  first_done rules i l h = first_last (thms ++ kept) (from + i) rules (omega (arith, l, count, length-append thms kept)) h

  -- what the rules were made of
  pub given_begun : (rules : List SetRule) → AreOf thms rules → AreOf (thms ++ kept) rules
  given_begun rules h = of_longer thms kept rules h

  pub given_next : (before after : List SetRule) (i : ℕ) (g : Given) → i < length kept → g ≡ get_or kept i g → AddsFrom (from + i) g before after → AreOf (thms ++ kept) before → AreOf (thms ++ kept) after
  given_next before after i g l e a h = a (thms ++ kept) (slice_get-get_or (thms ++ kept) (from + i) g (within i l) ∙ ap (λ x. Some x) (sym (there i g l e))) h
