-- A theorem that comes again in a list adds no rule that is ever the first to match.
use Rattle.std.proofs.Common.{◌≡◌, ℕ, zero, suc, ◌+◌, ◌<◌, ◌≤◌, List, [], ◌∷◌, ◌++◌, map, length, take, get_or, slice_get, refl, sym, ap, ◌∙◌, Option, Some, None, take_all, arith}
use Rattle.std.specs.Option.{option_map, option_or}
use Rattle.std.proofs.lemmas.List.{append-nil, length-map, length-take-le, map-append, take_more}
use Rattle.hol_types.specs.Tree.{TypeTree}
use Rattle.hol_terms.specs.Named.{Named}
use Rattle.hol_terms.specs.Nameless.{Nameless, nameless}
use Rattle.hol_kernel.specs.Given.{Given, given_sequent}
use Rattle.hol_kernel.specs.Sequent.{Sequent, sequent_of, hyps_of}
use Rattle.hol_match.specs.Instance.{InstanceValue}
use Rattle.hol_match.specs.Fixed.{stays_of}
use Rattle.hol_match.specs.Listed.{listed}
use Rattle.hol_match.specs.Rules.{RuleValue, rules_of}
use Rattle.hol_match.specs.Matching.{matched_under}
use Rattle.hol_match.specs.RuleSets.{RuleEntry, beside, entries, rule_entries, fit_under, first_entry}
use Rattle.hol_match.specs.SetView.{Adds, IsStated}

-- ---- the first of some alternatives
or_three : (a b c : Option RuleEntry) → option_or (option_or a b) c ≡ option_or a (option_or b c)
or_three None b c = refl
or_three (Some e) b c = refl

-- where there is none of the last without one of the first, the last counts for nothing
pub or_spared : (a b : Option RuleEntry) → (a ≡ None → b ≡ None) → option_or a b ≡ a
or_spared None b h = h refl
or_spared (Some e) b h = refl

or_none : (a b : Option RuleEntry) → option_or a b ≡ None → (a ≡ None) × (b ≡ None)
or_none None b h = (refl, h)
or_none (Some e) b h = absurd (cc)

-- ---- the first rule of theorems that matches a term
abbrev own : ℕ → Sequent → List RuleEntry
own i s = entries i 0 (stays_of (listed s.hyps)) (rules_of (listed s.hyps) s.concl)

module _ (env : List TypeTree) (t : Nameless) where
  -- whether there is one doesn't go by numbers
  none_numbered : (i j k l : ℕ) (s : InstanceValue) (rules : List RuleValue) → first_entry (entries i k s rules) env t ≡ None → first_entry (entries j l s rules) env t ≡ None
  none_numbered i j k l s [] h = refl
  none_numbered i j k l s (r ∷ rules) h =
      by (option_map (beside s) (matched_under env 0 r.left s t)) (none_numbered i j (k + 1) (l + 1) s rules) h
    where
      by : (o : Option InstanceValue) → (first_entry (entries i (k + 1) s rules) env t ≡ None → first_entry (entries j (l + 1) s rules) env t ≡ None) → option_or (option_map (λ a. record { rule = r; theorem = i; place = k; stays = s }) o) (first_entry (entries i (k + 1) s rules) env t) ≡ None → option_or (option_map (λ a. record { rule = r; theorem = j; place = l; stays = s }) o) (first_entry (entries j (l + 1) s rules) env t) ≡ None
      by None n g = n g
      by (Some a) n g = absurd (cc)

  pub joined : (xs ys : List RuleEntry) → first_entry (xs ++ ys) env t ≡ option_or (first_entry xs env t) (first_entry ys env t)
  joined [] ys = refl
  joined (e ∷ xs) ys =
      let o = option_map (λ (a : InstanceValue). e) (fit_under env e t) in
      ap (option_or o) (joined xs ys) ∙ sym (or_three o (first_entry xs env t) (first_entry ys env t))

  one_more : (k : ℕ) (xs : List Sequent) (s : Sequent) → first_entry (rule_entries k (xs ++ s ∷ [])) env t ≡ option_or (first_entry (rule_entries k xs) env t) (first_entry (own (k + length xs) s) env t)
  one_more k [] s =
      let here : k ≡ k + 0 = omega arith in
      ap (λ es. first_entry es env t) (append-nil (own k s)) ∙ ap (λ i. first_entry (own i s) env t) here
  one_more k (x ∷ xs) s =
      let n = k + suc (length xs) in
      let same : k + 1 + length xs ≡ n = omega arith in
      joined (own k x) (rule_entries (k + 1) (xs ++ s ∷ []))
      ∙ ap (option_or (first_entry (own k x) env t)) (one_more (k + 1) xs s ∙ ap (λ i. option_or (first_entry (rule_entries (k + 1) xs) env t) (first_entry (own i s) env t)) same)
      ∙ sym (or_three (first_entry (own k x) env t) (first_entry (rule_entries (k + 1) xs) env t) (first_entry (own n s) env t))
      ∙ ap (λ o. option_or o (first_entry (own n s) env t)) (sym (joined (own k x) (rule_entries (k + 1) xs)))

  -- where no rule of theorems matches, none of one of them does
  none_again : (k m : ℕ) (xs : List Sequent) (j : ℕ) (s : Sequent) → slice_get xs j ≡ Some s → first_entry (rule_entries k xs) env t ≡ None → first_entry (own m s) env t ≡ None
  none_again k m [] j s e h = absurd (cc)
  none_again k m (x ∷ xs) zero s e h =
      let same : s ≡ x = cc in
      let none = or_none (first_entry (own k x) env t) (first_entry (rule_entries (k + 1) xs) env t) (sym (joined (own k x) (rule_entries (k + 1) xs)) ∙ h) in
      ap (λ z. first_entry (own m z) env t) same ∙ none_numbered k m 0 0 (stays_of (listed x.hyps)) (rules_of (listed x.hyps) x.concl) none.0
  none_again k m (x ∷ xs) (suc j) s e h =
      let none = or_none (first_entry (own k x) env t) (first_entry (rule_entries (k + 1) xs) env t) (sym (joined (own k x) (rule_entries (k + 1) xs)) ∙ h) in
      none_again (k + 1) m xs j s e none.1

  no_more : (m : ℕ) (xs : List Sequent) (s : Sequent) → IsStated xs s → option_or (first_entry (rule_entries 0 xs) env t) (first_entry (own m s) env t) ≡ first_entry (rule_entries 0 xs) env t
  no_more m xs s h = or_spared (first_entry (rule_entries 0 xs) env t) (first_entry (own m s) env t) (none_again 0 m xs h.0 s h.1)

-- ---- the rules of the first theorems
abbrev pub HasFirst : List Given → ℕ → List RuleEntry → Type 0
HasFirst thms i es = (env : List TypeTree) (t : Nameless) → first_entry es env t ≡ first_entry (rule_entries 0 (map given_sequent (take i thms))) env t

pub first_begins : (thms : List Given) → HasFirst thms 0 []
first_begins thms = λ env t. refl

taken : (thms : List Given) (i : ℕ) (g : Given) → i < length thms → g ≡ get_or thms i g → map given_sequent (take (i + 1) thms) ≡ map given_sequent (take i thms) ++ given_sequent g ∷ []
taken thms i g l e = ap (map given_sequent) (take_more thms i g l ∙ ap (λ h. take i thms ++ h ∷ []) (sym e)) ∙ map-append given_sequent (take i thms) (g ∷ [])

pub first_next : (thms : List Given) (es new : List RuleEntry) (i : ℕ) (g : Given) → i < length thms → g ≡ get_or thms i g → HasFirst thms i es → Adds i (given_sequent g) es new → HasFirst thms (i + 1) new
first_next thms es new i g l e h a = λ env t.
    let s = given_sequent g in
    let before = map given_sequent (take i thms) in
    let count : length before ≡ i = length-map (take i thms) given_sequent ∙ length-take-le i thms (omega (arith, l)) in
    let number : i ≡ 0 + length before = omega (arith, count) in
    ap (λ xs. first_entry xs env t) a ∙ joined env t es (own i s)
    ∙ (λ k. option_or (h env t k) (first_entry (own (number k) s) env t))
    ∙ sym (one_more env t 0 before s) ∙ ap (λ xs. first_entry (rule_entries 0 xs) env t) (sym (taken thms i g l e))

pub first_again : (thms : List Given) (es : List RuleEntry) (i : ℕ) (g : Given) → i < length thms → g ≡ get_or thms i g → IsStated (map given_sequent (take i thms)) (given_sequent g) → HasFirst thms i es → HasFirst thms (i + 1) es
first_again thms es i g l e there h = λ env t.
    let s = given_sequent g in
    let before = map given_sequent (take i thms) in
    h env t ∙ sym (no_more env t (0 + length before) before s there) ∙ sym (one_more env t 0 before s) ∙ ap (λ xs. first_entry (rule_entries 0 xs) env t) (sym (taken thms i g l e))

pub first_last : (thms : List Given) (i : ℕ) (es : List RuleEntry) → length thms ≤ i → HasFirst thms i es → first_entry es ≡ first_entry (rule_entries 0 (map given_sequent thms))
first_last thms i es l h = λ k env t. (h env t ∙ ap (λ gs. first_entry (rule_entries 0 (map given_sequent gs)) env t) (take_all i thms l)) k

pub ruleset making = (first_begins, first_next, first_again, first_last)

-- ---- theorems with the same nodes
pub same_sequent : (a b : Sequent) (p q : Named) (ps qs : List Named) → nameless [] p ≡ a.concl → nameless [] q ≡ b.concl → hyps_of ps ≡ a.hyps → hyps_of qs ≡ b.hyps → p ≡ q → ps ≡ qs → a ≡ b
same_sequent a b p q ps qs c d g h e f = λ i. sequent_of ((sym g ∙ ap hyps_of f ∙ h) i) ((sym c ∙ ap (nameless []) e ∙ d) i)

pub stated : (earlier : List Given) (j : ℕ) (g : Given) (s : Sequent) → j < length earlier → g ≡ get_or earlier j g → given_sequent g ≡ s → IsStated (map given_sequent earlier) s
stated earlier j g s l e same = (j, at earlier j l e)
  where
    at : (gs : List Given) (i : ℕ) → i < length gs → g ≡ get_or gs i g → slice_get (map given_sequent gs) i ≡ Some s
    at [] i l e = absurd (omega (arith, l))
    at (x ∷ gs) zero l e = ap (λ z. Some (given_sequent z)) (sym e) ∙ ap (λ z. Some z) same
    at (x ∷ gs) (suc i) l e = at gs i (omega (arith, l)) e
