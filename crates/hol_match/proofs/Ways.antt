-- Ways from conclusions to rules.
use Rattle.std.proofs.Common.{◌≡◌, ℕ, List, [], ◌∷◌, ◌++◌, map, refl, sym, ap, ◌∙◌, subst, cond, Some, None}
use Rattle.std.specs.Option.{option_map, option_and_then}
use Rattle.std.specs.List.{AllByRecursion}
use Rattle.std.proofs.lemmas.List.{map-append}
use Rattle.hol_types.specs.Tree.{TypeTree}
use Rattle.hol_types.specs.Equal.{type_eq}
use Rattle.hol_terms.specs.Nameless.{Nameless, free}
use Rattle.hol_subst.specs.Closing.{open_with}
use Rattle.hol_formulas.specs.Formula.{Abstraction, dest_forall, dest_conj}
use Rattle.hol_formulas.proofs.EquationTypes.{type_eq_itself}
use Rattle.hol_match.specs.Rules.{single_rule}
use Rattle.hol_match.specs.RuleView.{rule_value, rule_values}
use Rattle.hol_match.specs.declared.rule.Rule.{Rule}
use Rattle.hol_match.specs.declared.rule_step.RuleStep.{RuleStep}
use Rattle.hol_match.specs.declared.rule_step.RuleStep.TheVariants.{At, First, Second}
use Rattle.hol_match.specs.Ways.{body_at, stepped, way, RuleWay, rule_way, rule_ways, IsOnWay}
use Rattle.hol_match.specs.Opening.{IsOpenedAt, AreAddedOnWay}
use Rattle.hol_match.specs.declared.source.Source.{Source}
use Rattle.hol_match.specs.Sources.{IsFrom}

module _ (names : List (List ℕ)) (variables : List (List ℕ × TypeTree)) where
  -- one step more
  along : (steps more : List RuleStep) (s : RuleStep) (p q : Nameless) (old new : List RuleWay) → more ≡ s ∷ steps → stepped s p ≡ Some q → AreAddedOnWay names variables more q old new → AreAddedOnWay names variables steps p old new
  along steps more s p q old new m e h = λ whole k. h whole (ap (λ l. way l whole) m ∙ ap (option_and_then (stepped s)) k ∙ e)

  pub along_body : (steps more : List RuleStep) (hyps : List Nameless) (p n : Nameless) (x : Abstraction) (v : List ℕ × TypeTree) (old new : List RuleWay) → more ≡ At v ∷ steps → dest_forall p ≡ Some x → IsOpenedAt hyps p x v n → AreAddedOnWay names variables more n old new → AreAddedOnWay names variables steps p old new
  along_body steps more hyps p n x v old new m e o h =
      along steps more (At v) p n old new m
      (ap (option_and_then (body_at v)) e ∙ ap (λ c. cond c (Some (open_with (free v) 0 x.body)) None) (ap (λ a. type_eq a x.domain) o.typed ∙ type_eq_itself x.domain) ∙ ap (λ z. Some z) (sym o.is)) h

  pub along_parts : (steps left right : List RuleStep) (p : Nameless) (q : Nameless × Nameless) (old mid new : List RuleWay) → left ≡ First ∷ steps → right ≡ Second ∷ steps → dest_conj p ≡ Some q → AreAddedOnWay names variables left q.0 old mid → AreAddedOnWay names variables right q.1 mid new → AreAddedOnWay names variables steps p old new
  along_parts steps left right p q old mid new l r e f s = λ whole k g.
      along steps right Second p q.1 mid new r (ap (option_map (λ z. z.1)) e) s whole k (along steps left First p q.0 old mid l (ap (option_map (λ z. z.0)) e) f whole k g)

  pub at_end : (steps : List RuleStep) (p : Nameless) (r : Rule) (old new : List RuleWay) → rule_value r ≡ single_rule names variables p → r.way ≡ steps → new ≡ old ++ rule_way r ∷ [] → AreAddedOnWay names variables steps p old new
  at_end steps p r old new is e a = λ whole k g.
      rw a (joined whole old g (ap (λ l. option_map (single_rule names variables) (way l whole)) e ∙ ap (option_map (single_rule names variables)) k ∙ ap (λ z. Some z) (sym is), tt))
    where
      joined : (whole : Nameless) (xs : List RuleWay) → AllByRecursion (IsOnWay names variables whole) xs → AllByRecursion (IsOnWay names variables whole) (rule_way r ∷ []) → AllByRecursion (IsOnWay names variables whole) (xs ++ rule_way r ∷ [])
      joined whole [] g h = h
      joined whole (x ∷ xs) g h = (g.0, joined whole xs g.1 h)

-- ---- lists of rules

values_of : (rules : List Rule) → map (λ w. w.rule) (rule_ways rules) ≡ rule_values rules
values_of [] = refl
values_of (r ∷ rules) = λ i. rule_value r ∷ values_of rules i

pub values_added : (old new : List Rule) (r : Rule) → rule_ways new ≡ rule_ways old ++ rule_way r ∷ [] → rule_values new ≡ rule_values old ++ rule_value r ∷ []
values_added old new r e =
    sym (values_of new) ∙ ap (map (λ w. w.rule)) e ∙ map-append (λ w. w.rule) (rule_ways old) (rule_way r ∷ []) ∙ (λ i. values_of old i ++ rule_value r ∷ [])

ways_more : (rules : List Rule) (r : Rule) → rule_ways (rules ++ r ∷ []) ≡ rule_ways rules ++ rule_way r ∷ []
ways_more [] r = refl
ways_more (s ∷ rules) r = λ i. rule_way s ∷ ways_more rules r i

pub ways_added : (rules new : List Rule) (r : Rule) → new ≡ rules ++ r ∷ [] → rule_ways new ≡ rule_ways rules ++ rule_way r ∷ []
ways_added rules new r e = ap rule_ways e ∙ ways_more rules r

-- a copy of a rule has its way
pub way_kept : (s t : Source) (r q : Rule) → IsFrom s (rule_way r) → rule_way q ≡ rule_way r → t ≡ s → IsFrom t (rule_way q)
way_kept s t r q h e f = subst (λ z. IsFrom z (rule_way q)) (sym f) (subst (λ w. IsFrom s w) (sym e) h)
