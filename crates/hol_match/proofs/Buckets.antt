-- Rules in buckets: those that fit a term and of which something doesn't stay are in two of them, and the rules of a bucket are reached from one another.
use Rattle.std.proofs.Common.{◌≡◌, ◌≢◌, ℕ, zero, suc, ◌+◌, ◌-◌, ◌<◌, ◌≤◌, ◌⊎◌, inl, inr, List, [], ◌∷◌, length, drop, get_or, set, refl, sym, ap, ◌∙◌, subst, Bool, true, false, cond, not, ◌&&◌, ◌||◌, nat_eq, nat_lt, Option, Some, None, MatchOption, add-one, drop-cons, arith}
use Rattle.std.proofs.lemmas.Bool.{and_parts, eq-eqb, eqb-true, lt-ltb, le-ltb}
use Rattle.std.proofs.lemmas.List.{drop_all, get_or_default, get_or-set_same, get_or-set_other, length-set}
use Rattle.std.proofs.lemmas.Slice.Eq.{bytes_eq-Decides}
use Rattle.hol_types.specs.Tree.{TypeTree}
use Rattle.hol_types.proofs.Steps.{next_of}
use Rattle.hol_terms.specs.Nameless.{Nameless, free, bound, fixed, app, lam}
use Rattle.hol_match.specs.Instance.{InstanceValue}
use Rattle.hol_match.specs.RuleSets.{RuleEntry, fit, or_later, first_fit}
use Rattle.hol_match.specs.Outlines.{is_variable, may_match, rules_pass_over}
use Rattle.hol_match.specs.SetView.{set_rule, set_rules}
use Rattle.hol_match.specs.Heads.{head_bucket, rule_bucket, term_bucket, is_settled, is_bucketed, is_in, next_in, first_in, bucket_passes_over, earlier}
use Rattle.hol_match.specs.HeadView.{AreFirst, AreNext}
use Rattle.hol_match.specs.declared.set_rule.SetRule.{SetRule}
use Rattle.hol_match.proofs.Ground.{loose_head}
use Rattle.hol_match.proofs.Outlines.{fit_apart}

pub one_argument : (known : List ℕ × TypeTree → Bool) (m : ℕ) (f x : Nameless) (k : ℕ) → k ≢ 0 → head_bucket known m (app f x) k ≡ head_bucket known m f (k - 1)
one_argument known m f x zero h = absurd (h refl)
one_argument known m f x (suc k) h = let same : k ≡ suc k - 1 = omega arith in ap (head_bucket known m f) same

-- ---- a rule that may match has the bucket of the term, or has no head
abbrev none_known : List ℕ × TypeTree → Bool
none_known v = false

bucket_meets : (m : ℕ) (p t : Nameless) (k : ℕ) → may_match p t ≡ true → (head_bucket none_known m p k ≡ 0) ⊎ (head_bucket none_known m p k ≡ head_bucket none_known m t k)
bucket_meets m (free v) t k h = inl refl
bucket_meets m (bound i) t k h = inl refl
bucket_meets m (lam a s b) t k h = inl refl
bucket_meets m (fixed c s) (free v) k h = absurd (cc)
bucket_meets m (fixed c s) (bound i) k h = absurd (cc)
bucket_meets m (fixed c s) (fixed d u) k h = inr (ap (λ (n : List ℕ). head_bucket none_known m (fixed n s) k) ((bytes_eq-Decides c d).0 h))
bucket_meets m (fixed c s) (app f x) k h = absurd (cc)
bucket_meets m (fixed c s) (lam a u b) k h = absurd (cc)
bucket_meets m (app p q) (free v) k h = absurd (cc)
bucket_meets m (app p q) (bound i) k h = absurd (cc)
bucket_meets m (app p q) (fixed c s) k h = absurd (cc)
bucket_meets m (app p q) (lam a s b) k h = absurd (cc)
bucket_meets m (app p q) (app f x) zero h = inl refl
bucket_meets m (app p q) (app f x) (suc k) h = bucket_meets m p f k (and_parts (may_match p f) (may_match q x) h).0

-- a rule of neither bucket is apart from the term
neither : (m : ℕ) (e : RuleEntry) (t : Nameless) → nat_eq (rule_bucket false m e) 0 ≡ false → nat_eq (rule_bucket false m e) (term_bucket false m t) ≡ false → may_match e.rule.left t ≡ false
neither m e t none other = by (may_match e.rule.left t) refl
  where
    by : (b : Bool) → may_match e.rule.left t ≡ b → b ≡ false
    by false h = refl
    by true h = clash (bucket_meets m e.rule.left t 16 h)
      where
        clash : (rule_bucket false m e ≡ 0) ⊎ (rule_bucket false m e ≡ term_bucket false m t) → true ≡ false
        clash (inl z) = sym (eq-eqb (rule_bucket false m e) 0 z) ∙ none
        clash (inr z) = sym (eq-eqb (rule_bucket false m e) (term_bucket false m t) z) ∙ other

-- ---- the first rule that passes one of two tests is the first one of either
later_in : (p : RuleEntry → Bool) (i : ℕ) (es : List RuleEntry) (t : Nameless) (f : ℕ × InstanceValue) → first_in p i es t ≡ Some f → i ≤ f.0
later_in p i [] t f h = absurd (cc)
later_in p i (e ∷ es) t f h = by (cond (p e) (fit e t) None) h (later_in p (i + 1) es t f)
  where
    by : (o : Option InstanceValue) → or_later i o (first_in p (i + 1) es t) ≡ Some f → (first_in p (i + 1) es t ≡ Some f → i + 1 ≤ f.0) → i ≤ f.0
    by None k later = let more : i + 1 ≤ f.0 = later k in omega arith
    by (Some a) k later = let same : i ≡ f.0 = cc in omega arith

-- a rule that fits and passes one test comes before the later ones that pass the other
before_later : (p : RuleEntry → Bool) (i : ℕ) (es : List RuleEntry) (t : Nameless) (a : InstanceValue) → earlier (Some (i, a)) (first_in p (i + 1) es t) ≡ Some (i, a)
before_later p i es t a = by (first_in p (i + 1) es t) refl
  where
    by : (o : Option (ℕ × InstanceValue)) → first_in p (i + 1) es t ≡ o → earlier (Some (i, a)) o ≡ Some (i, a)
    by None h = refl
    by (Some f) h = let l : i ≤ f.0 = (let k : i + 1 ≤ f.0 = later_in p (i + 1) es t f h in omega arith) in ap (λ c. cond c (Some f) (Some (i, a))) (le-ltb f.0 i l)

after_later : (p : RuleEntry → Bool) (i : ℕ) (es : List RuleEntry) (t : Nameless) (a : InstanceValue) → earlier (first_in p (i + 1) es t) (Some (i, a)) ≡ Some (i, a)
after_later p i es t a = by (first_in p (i + 1) es t) refl
  where
    by : (o : Option (ℕ × InstanceValue)) → first_in p (i + 1) es t ≡ o → earlier o (Some (i, a)) ≡ Some (i, a)
    by None h = refl
    by (Some f) h = let l : i < f.0 = (let k : i + 1 ≤ f.0 = later_in p (i + 1) es t f h in omega arith) in ap (λ c. cond c (Some (i, a)) (Some f)) (lt-ltb i f.0 l)

at_both : (i : ℕ) (a : InstanceValue) → earlier (Some (i, a)) (Some (i, a)) ≡ Some (i, a)
at_both i a = same (nat_lt i i) (Some (i, a))
  where
    same : (b : Bool) (o : Option (ℕ × InstanceValue)) → cond b o o ≡ o
    same true o = refl
    same false o = refl

no_fit : (b : Bool) (i : ℕ) (later : Option (ℕ × InstanceValue)) → or_later i (cond b None None) later ≡ later
no_fit true i later = refl
no_fit false i later = refl

module _ (r p q : RuleEntry → Bool) (t : Nameless) (parts : (x : SetRule) (a : InstanceValue) → fit (set_rule x) t ≡ Some a → r (set_rule x) ≡ (p (set_rule x) || q (set_rule x))) where
  either : (i : ℕ) (rules : List SetRule) → first_in r i (set_rules rules) t ≡ earlier (first_in p i (set_rules rules) t) (first_in q i (set_rules rules) t)
  either i [] = refl
  either i (x ∷ rules) = by (fit (set_rule x) t) (r e) (p e) (q e) (parts x) refl refl (either (i + 1) rules)
    where
      e : RuleEntry
      e = set_rule x

      es : List RuleEntry
      es = set_rules rules

      mine : Option (ℕ × InstanceValue)
      mine = first_in p (i + 1) es t

      own : Option (ℕ × InstanceValue)
      own = first_in q (i + 1) es t

      by :
          (o : Option InstanceValue) (d b c : Bool) → ((a : InstanceValue) → o ≡ Some a → d ≡ (b || c)) → p e ≡ b → q e ≡ c → first_in r (i + 1) es t ≡ earlier mine own →
          or_later i (cond d o None) (first_in r (i + 1) es t) ≡ earlier (or_later i (cond b o None) mine) (or_later i (cond c o None) own)
      by None d b c f g h k = no_fit d i (first_in r (i + 1) es t) ∙ k ∙ sym (λ j. earlier (no_fit b i mine j) (no_fit c i own j))
      by (Some a) d true true f g h k = ap (λ x. or_later i (cond x (Some a) None) (first_in r (i + 1) es t)) (f a refl) ∙ sym (at_both i a)
      by (Some a) d true false f g h k = ap (λ x. or_later i (cond x (Some a) None) (first_in r (i + 1) es t)) (f a refl) ∙ sym (before_later q i es t a)
      by (Some a) d false true f g h k = ap (λ x. or_later i (cond x (Some a) None) (first_in r (i + 1) es t)) (f a refl) ∙ sym (after_later p i es t a)
      by (Some a) d false false f g h k = ap (λ x. or_later i (cond x (Some a) None) (first_in r (i + 1) es t)) (f a refl) ∙ k

abbrev any_rule : RuleEntry → Bool
any_rule e = true

all_in : (i : ℕ) (es : List RuleEntry) (t : Nameless) → first_fit i es t ≡ first_in any_rule i es t
all_in i [] t = refl
all_in i (e ∷ es) t = ap (or_later i (fit e t)) (all_in (i + 1) es t)

-- all are in loose buckets or settled
loose_or_settled : (i : ℕ) (rules : List SetRule) (t : Nameless) → first_fit i (set_rules rules) t ≡ earlier (first_in (is_bucketed true) i (set_rules rules) t) (first_in is_settled i (set_rules rules) t)
loose_or_settled i rules t = all_in i (set_rules rules) t ∙ either any_rule (is_bucketed true) is_settled t (λ x a h. one (is_settled (set_rule x))) i rules
  where
    one : (b : Bool) → true ≡ (not b || b)
    one true = refl
    one false = refl

-- one that fits has the bucket of the term, or has no head
head_meets : (loose : Bool) (x : SetRule) (m : ℕ) (t : Nameless) (a : InstanceValue) → fit (set_rule x) t ≡ Some a → (rule_bucket loose m (set_rule x) ≡ 0) ⊎ (rule_bucket loose m (set_rule x) ≡ term_bucket loose m t)
head_meets true x m t a h = loose_head x m t a h
head_meets false x m t a h = by (may_match (set_rule x).rule.left t) refl
  where
    by : (b : Bool) → may_match (set_rule x).rule.left t ≡ b → (rule_bucket false m (set_rule x) ≡ 0) ⊎ (rule_bucket false m (set_rule x) ≡ term_bucket false m t)
    by true e = bucket_meets m (set_rule x).rule.left t 16 e
    by false e = let none : None ≡ Some a = sym (fit_apart (set_rule x) (set_rule x).rule.left t refl e) ∙ h in absurd (cc)

-- so the first one in a bucket that fits is in one of two
two_buckets : (loose : Bool) (m i : ℕ) (rules : List SetRule) (t : Nameless) → first_in (is_bucketed loose) i (set_rules rules) t ≡ earlier (first_in (is_in loose m 0) i (set_rules rules) t) (first_in (is_in loose m (term_bucket loose m t)) i (set_rules rules) t)
two_buckets loose m i rules t = either (is_bucketed loose) (is_in loose m 0) (is_in loose m (term_bucket loose m t)) t parts i rules
  where
    parts : (x : SetRule) (a : InstanceValue) → fit (set_rule x) t ≡ Some a → is_bucketed loose (set_rule x) ≡ (is_in loose m 0 (set_rule x) || is_in loose m (term_bucket loose m t) (set_rule x))
    parts x a h = by (is_bucketed loose (set_rule x)) (nat_eq own 0) (nat_eq own (term_bucket loose m t)) refl refl (head_meets loose x m t a h)
      where
        own : ℕ
        own = rule_bucket loose m (set_rule x)

        by : (s b c : Bool) → nat_eq own 0 ≡ b → nat_eq own (term_bucket loose m t) ≡ c → (own ≡ 0) ⊎ (own ≡ term_bucket loose m t) → s ≡ ((s && b) || (s && c))
        by false b c k l g = refl
        by true true c k l g = refl
        by true false true k l g = refl
        by true false false k l (inl z) = sym (eq-eqb own 0 z) ∙ k
        by true false false k l (inr z) = sym (eq-eqb own (term_bucket loose m t) z) ∙ l

-- what a search tells: x is what it found
told : (x o : Option (ℕ × InstanceValue)) → MatchOption o (x ≡ None) (λ f. x ≡ Some (f.0, f.1)) → x ≡ o
told x None h = h
told x (Some f) h = h

tells : (x o : Option (ℕ × InstanceValue)) → x ≡ o → MatchOption o (x ≡ None) (λ f. x ≡ Some (f.0, f.1))
tells x None h = h
tells x (Some f) h = h

-- where z is the earlier of x and y, so is what was found of what was found of these
found_both :
    (x y z a b o : Option (ℕ × InstanceValue)) → z ≡ earlier x y → MatchOption a (x ≡ None) (λ f. x ≡ Some (f.0, f.1)) → MatchOption b (y ≡ None) (λ f. y ≡ Some (f.0, f.1)) → o ≡ earlier a b →
    MatchOption o (z ≡ None) (λ f. z ≡ Some (f.0, f.1))
found_both x y z a b o e first second is = tells z o (e ∙ (λ k. earlier (told x a first k) (told y b second k)) ∙ sym is)

-- where all are in buckets
pub found_all :
    (many : Bool) (rules : List SetRule) (t : Nameless) (o : Option (ℕ × InstanceValue)) → many ≡ false →
    MatchOption o (first_in (is_bucketed many) 0 (set_rules rules) t ≡ None) (λ f. first_in (is_bucketed many) 0 (set_rules rules) t ≡ Some (f.0, f.1)) →
    MatchOption o (first_fit 0 (set_rules rules) t ≡ None) (λ f. first_fit 0 (set_rules rules) t ≡ Some (f.0, f.1))
found_all many rules t o e found =
    tells (first_fit 0 (set_rules rules) t) o
    (all_in 0 (set_rules rules) t ∙ ap (λ b. first_in (is_bucketed b) 0 (set_rules rules) t) (sym e) ∙ told (first_in (is_bucketed many) 0 (set_rules rules) t) o found)

-- and where those of which all stays are in none
pub found_first :
    (many : Bool) (rules : List SetRule) (t : Nameless) (a b o : Option (ℕ × InstanceValue)) → many ≡ true →
    MatchOption a (first_in (is_bucketed many) 0 (set_rules rules) t ≡ None) (λ f. first_in (is_bucketed many) 0 (set_rules rules) t ≡ Some (f.0, f.1)) →
    MatchOption b (first_in is_settled 0 (set_rules rules) t ≡ None) (λ f. first_in is_settled 0 (set_rules rules) t ≡ Some (f.0, f.1)) → o ≡ earlier a b →
    MatchOption o (first_fit 0 (set_rules rules) t ≡ None) (λ f. first_fit 0 (set_rules rules) t ≡ Some (f.0, f.1))
found_first many rules t a b o e first second is =
    found_both (first_in (is_bucketed many) 0 (set_rules rules) t) (first_in is_settled 0 (set_rules rules) t) (first_fit 0 (set_rules rules) t) a b o
    (loose_or_settled 0 rules t ∙ ap (λ l. earlier (first_in (is_bucketed l) 0 (set_rules rules) t) (first_in is_settled 0 (set_rules rules) t)) (sym e)) first second is

pub found_bucketed :
    (loose : Bool) (m p : ℕ) (rules : List SetRule) (t : Nameless) (a b o : Option (ℕ × InstanceValue)) → p ≡ term_bucket loose m t →
    MatchOption a (first_in (is_in loose m 0) 0 (set_rules rules) t ≡ None) (λ f. first_in (is_in loose m 0) 0 (set_rules rules) t ≡ Some (f.0, f.1)) →
    MatchOption b (first_in (is_in loose m p) 0 (set_rules rules) t ≡ None) (λ f. first_in (is_in loose m p) 0 (set_rules rules) t ≡ Some (f.0, f.1)) → o ≡ earlier a b →
    MatchOption o (first_in (is_bucketed loose) 0 (set_rules rules) t ≡ None) (λ f. first_in (is_bucketed loose) 0 (set_rules rules) t ≡ Some (f.0, f.1))
found_bucketed loose m p rules t a b o at first second is =
    found_both (first_in (is_in loose m 0) 0 (set_rules rules) t) (first_in (is_in loose m p) 0 (set_rules rules) t) (first_in (is_bucketed loose) 0 (set_rules rules) t) a b o
    (two_buckets loose m 0 rules t ∙ ap (λ q. earlier (first_in (is_in loose m 0) 0 (set_rules rules) t) (first_in (is_in loose m q) 0 (set_rules rules) t)) (sym at)) first second is

-- where the term has no head, one bucket is enough
pub found_beside :
    (loose : Bool) (m p : ℕ) (rules : List SetRule) (t : Nameless) (o : Option (ℕ × InstanceValue)) → p ≡ term_bucket loose m t → p ≡ 0 →
    MatchOption o (first_in (is_in loose m 0) 0 (set_rules rules) t ≡ None) (λ f. first_in (is_in loose m 0) 0 (set_rules rules) t ≡ Some (f.0, f.1)) →
    MatchOption o (first_in (is_bucketed loose) 0 (set_rules rules) t ≡ None) (λ f. first_in (is_bucketed loose) 0 (set_rules rules) t ≡ Some (f.0, f.1))
found_beside loose m p rules t o at none found =
    tells (first_in (is_bucketed loose) 0 (set_rules rules) t) o
    (two_buckets loose m 0 rules t ∙ ap (λ b. earlier beside (first_in (is_in loose m b) 0 (set_rules rules) t)) (sym at ∙ none) ∙ twice beside ∙ told beside o found)
  where
    beside : Option (ℕ × InstanceValue)
    beside = first_in (is_in loose m 0) 0 (set_rules rules) t

    twice : (x : Option (ℕ × InstanceValue)) → earlier x x ≡ x
    twice None = refl
    twice (Some f) = at_both f.0 f.1

-- ---- and whether all pass over is seen in the two
pub passing_over : (m : ℕ) (es : List RuleEntry) (t : Nameless) → rules_pass_over es t ≡ (bucket_passes_over m 0 es t && bucket_passes_over m (term_bucket false m t) es t)
passing_over m [] t = refl
passing_over m (e ∷ es) t = by (is_variable e.rule.left || not (may_match e.rule.left t)) (is_in false m 0 e) (is_in false m (term_bucket false m t) e) refl refl refl (passing_over m es t)
  where
    rest : Bool
    rest = rules_pass_over es t

    mine : Bool
    mine = bucket_passes_over m 0 es t

    own : Bool
    own = bucket_passes_over m (term_bucket false m t) es t

    false_both : (x : Bool) → (x && false) ≡ false
    false_both true = refl
    false_both false = refl

    by : (o b c : Bool) → (is_variable e.rule.left || not (may_match e.rule.left t)) ≡ o → is_in false m 0 e ≡ b → is_in false m (term_bucket false m t) e ≡ c → rest ≡ (mine && own) → (o && rest) ≡ ((cond b o true && mine) && (cond c o true && own))
    by true true true h p q r = r
    by true true false h p q r = r
    by true false true h p q r = r
    by true false false h p q r = r
    by false true c h p q r = refl
    by false false true h p q r = sym (false_both mine)
    by false false false h p q r = absurd (clash (is_variable e.rule.left) (may_match e.rule.left t) (neither m e t p q) h)
      where
        clash : (v x : Bool) → x ≡ false → (v || not x) ≡ false → ⊥
        clash true x k l = absurd (cc)
        clash false true k l = absurd (cc)
        clash false false k l = absurd (cc)

pub passes_all : (m p : ℕ) (es : List RuleEntry) (t : Nameless) → p ≡ term_bucket false m t → bucket_passes_over m 0 es t ≡ true → bucket_passes_over m p es t ≡ rules_pass_over es t
passes_all m p es t at h = ap (λ q. bucket_passes_over m q es t) at ∙ sym (passing_over m es t ∙ ap (λ b. b && bucket_passes_over m (term_bucket false m t) es t) h)

pub passes_not : (m : ℕ) (es : List RuleEntry) (t : Nameless) → bucket_passes_over m 0 es t ≡ false → false ≡ rules_pass_over es t
passes_not m es t h = sym (passing_over m es t ∙ ap (λ b. b && bucket_passes_over m (term_bucket false m t) es t) h)

-- ---- from one rule that passes a test to the next
abbrev pub from : List SetRule → ℕ → List RuleEntry
from rules i = set_rules (drop i rules)

-- the i-th rule passes the test, or there are only i
abbrev pub IsOn : (RuleEntry → Bool) → List SetRule → ℕ → Type 0
IsOn p rules i = i ≡ next_in p i (from rules i)

some_at : (rules : List SetRule) (i : ℕ) → i < length rules → (r : SetRule) × (drop i rules ≡ r ∷ drop (i + 1) rules)
some_at [] i h = absurd (omega (arith, h))
some_at (r ∷ rules) i h = (get_or (r ∷ rules) i r, rw (add-one, drop-cons (r ∷ rules) i r h) refl)

next_after : (p : RuleEntry → Bool) (i : ℕ) (es : List RuleEntry) → i ≤ next_in p i es
next_after p i [] = omega arith
next_after p i (e ∷ es) = by (p e) (next_after p (i + 1) es)
  where
    by : (c : Bool) → i + 1 ≤ next_in p (i + 1) es → i ≤ cond c i (next_in p (i + 1) es)
    by true more = omega arith
    by false more = omega arith

-- what doesn't look at rules that fail the test is the same from the next rule that passes it on
module _ {A : Type 0} (p : RuleEntry → Bool) (rules : List SetRule) (F : ℕ → List RuleEntry → A) (passes : (i : ℕ) (e : RuleEntry) (es : List RuleEntry) → p e ≡ false → F i (e ∷ es) ≡ F (i + 1) es) where
  abbrev next : ℕ → ℕ
  next i = next_in p i (from rules i)

  abbrev Goes : ℕ → Type 0
  Goes i = (F i (from rules i) ≡ F (next i) (from rules (next i))) × IsOn p rules (next i)

  here : (i : ℕ) → next i ≡ i → Goes i
  here i e = (ap (λ j. F j (from rules j)) (sym e), ap next (sym e))

  goes : (d i : ℕ) → d + i ≡ length rules → Goes i
  goes zero i h = here i (ap (λ rs. next_in p i (set_rules rs)) (drop_all i rules (omega (arith, h))))
  goes (suc d) i h = let one = some_at rules i (omega (arith, h)) in by one.0 one.1 (p (set_rule one.0)) refl (goes d (i + 1) (omega (arith, h)))
    where
      by : (r : SetRule) → drop i rules ≡ r ∷ drop (i + 1) rules → (c : Bool) → p (set_rule r) ≡ c → Goes (i + 1) → Goes i
      by r one true e more = here i (ap (λ rs. next_in p i (set_rules rs)) one ∙ ap (λ c. cond c i (next (i + 1))) e)
      by r one false e more =
          let same : next i ≡ next (i + 1) = ap (λ rs. next_in p i (set_rules rs)) one ∙ ap (λ c. cond c i (next (i + 1))) e in
          let passed : F i (from rules i) ≡ F (i + 1) (from rules (i + 1)) = ap (λ rs. F i (set_rules rs)) one ∙ passes i (set_rule r) (from rules (i + 1)) e in
          (passed ∙ more.0 ∙ ap (λ j. F j (from rules j)) (sym same), same ∙ more.1 ∙ ap next (sym same))

  -- to the number j of the next rule
  goes_to : (i j : ℕ) → i ≤ length rules → j ≡ next i → (F i (from rules i) ≡ F j (from rules j)) × IsOn p rules j
  goes_to i j l e = let g = goes (length rules - i) i (omega (arith, l)) in (g.0 ∙ ap (λ k. F k (from rules k)) (sym e), e ∙ g.1 ∙ ap next (sym e))

all_from : (rules : List SetRule) → set_rules rules ≡ from rules 0
all_from [] = refl
all_from (r ∷ rules) = refl

-- the rule that was come to passes
on_rule : (p : RuleEntry → Bool) (rules : List SetRule) (i : ℕ) (r : SetRule) → i < length rules → r ≡ get_or rules i r → IsOn p rules i → p (set_rule r) ≡ true
on_rule p rules i r l e on = by (p (set_rule r)) refl
  where
    by : (c : Bool) → p (set_rule r) ≡ c → c ≡ true
    by true h = refl
    by false h =
        let same : i ≡ next_in p (i + 1) (from rules (i + 1)) = on ∙ ap (λ rs. next_in p i (set_rules rs)) (next_of rules i r l e) ∙ ap (λ c. cond c i (next_in p (i + 1) (from rules (i + 1)))) h in
        let more : i + 1 ≤ next_in p (i + 1) (from rules (i + 1)) = next_after p (i + 1) (from rules (i + 1)) in
        absurd (omega (arith, same, more))

first_passes : (p : RuleEntry → Bool) (t : Nameless) (i : ℕ) (e : RuleEntry) (es : List RuleEntry) → p e ≡ false → first_in p i (e ∷ es) t ≡ first_in p (i + 1) es t
first_passes p t i e es h = ap (λ c. or_later i (cond c (fit e t) None) (first_in p (i + 1) es t)) h

over_passes : (m b : ℕ) (t : Nameless) (i : ℕ) (e : RuleEntry) (es : List RuleEntry) → is_in false m b e ≡ false → bucket_passes_over m b (e ∷ es) t ≡ bucket_passes_over m b es t
over_passes m b t i e es h = ap (λ c. cond c (is_variable e.rule.left || not (may_match e.rule.left t)) true && bucket_passes_over m b es t) h

-- ---- the loop over a bucket: its start, a turn, and its end
module _ (loose : Bool) (rules : List SetRule) (first : List ℕ) (b : ℕ) (t : Nameless) (l : b < length first) (are : AreFirst loose rules first) (i : ℕ) (e : i ≡ get_or first b i) where
  starts : i ≡ next_in (is_in loose (length first) b) 0 (from rules 0)
  starts = e ∙ get_or_default first b i 0 l ∙ are b l ∙ ap (next_in (is_in loose (length first) b) 0) (all_from rules)

  pub first_start : (first_in (is_in loose (length first) b) 0 (set_rules rules) t ≡ first_in (is_in loose (length first) b) i (from rules i) t) × IsOn (is_in loose (length first) b) rules i
  first_start =
      let p = is_in loose (length first) b in
      let g = goes_to p rules (λ j es. first_in p j es t) (first_passes p t) 0 i (omega arith) starts in
      (ap (λ es. first_in p 0 es t) (all_from rules) ∙ g.0, g.1)

module _ (rules : List SetRule) (first : List ℕ) (b : ℕ) (t : Nameless) (l : b < length first) (are : AreFirst false rules first) (i : ℕ) (e : i ≡ get_or first b i) where
  pub over_start : (bucket_passes_over (length first) b (set_rules rules) t ≡ bucket_passes_over (length first) b (from rules i) t) × IsOn (is_in false (length first) b) rules i
  over_start =
      let g =
      goes_to (is_in false (length first) b) rules (λ j es. bucket_passes_over (length first) b es t) (over_passes (length first) b t) 0 i (omega arith) (starts false rules first b t l are i e) in
      (ap (λ es. bucket_passes_over (length first) b es t) (all_from rules) ∙ g.0, g.1)

-- on from a rule to the number j that is kept for the next one
module _ (loose : Bool) (m b : ℕ) (rules : List SetRule) (i : ℕ) (r : SetRule) (l : i < length rules) (e : r ≡ get_or rules i r) (on : IsOn (is_in loose m b) rules i) (kept : List ℕ) (long : length kept ≡ length rules) (are : AreNext loose m rules kept) (j : ℕ) (f : j ≡ get_or kept i j) where
  to_next : j ≡ next_in (is_in loose m b) (i + 1) (from rules (i + 1))
  to_next = f ∙ get_or_default kept i j 0 (omega (arith, l, long)) ∙ are i b r l e (on_rule (is_in loose m b) rules i r l e on)

  pub is_later : i < j
  is_later = let more : i + 1 ≤ next_in (is_in loose m b) (i + 1) (from rules (i + 1)) = next_after (is_in loose m b) (i + 1) (from rules (i + 1)) in omega (arith, more, to_next)

module _ (loose : Bool) (m b : ℕ) (rules : List SetRule) (t : Nameless) (i : ℕ) (r : SetRule) (l : i < length rules) (e : r ≡ get_or rules i r) (on : IsOn (is_in loose m b) rules i) where
  first_parts : first_in (is_in loose m b) i (from rules i) t ≡ or_later i (fit (set_rule r) t) (first_in (is_in loose m b) (i + 1) (from rules (i + 1)) t)
  first_parts =
      ap (λ rs. first_in (is_in loose m b) i (set_rules rs) t) (next_of rules i r l e)
      ∙ ap (λ c. or_later i (cond c (fit (set_rule r) t) None) (first_in (is_in loose m b) (i + 1) (from rules (i + 1)) t)) (on_rule (is_in loose m b) rules i r l e on)

  pub first_here : (a : InstanceValue) → fit (set_rule r) t ≡ Some a → first_in (is_in loose m b) i (from rules i) t ≡ Some (i, a)
  first_here a h = first_parts ∙ ap (λ o. or_later i o (first_in (is_in loose m b) (i + 1) (from rules (i + 1)) t)) h

  pub first_next : (kept : List ℕ) → length kept ≡ length rules → AreNext loose m rules kept → (j : ℕ) → j ≡ get_or kept i j → fit (set_rule r) t ≡ None → (first_in (is_in loose m b) i (from rules i) t ≡ first_in (is_in loose m b) j (from rules j) t) × IsOn (is_in loose m b) rules j
  first_next kept long are j f h =
      let p = is_in loose m b in
      let g = goes_to p rules (λ k es. first_in p k es t) (first_passes p t) (i + 1) j (omega (arith, l)) (to_next loose m b rules i r l e on kept long are j f) in
      (first_parts ∙ ap (λ o. or_later i o (first_in p (i + 1) (from rules (i + 1)) t)) h ∙ g.0, g.1)

module _ (m b : ℕ) (rules : List SetRule) (t : Nameless) (i : ℕ) (r : SetRule) (l : i < length rules) (e : r ≡ get_or rules i r) (on : IsOn (is_in false m b) rules i) where
  over_parts : bucket_passes_over m b (from rules i) t ≡ ((is_variable (set_rule r).rule.left || not (may_match (set_rule r).rule.left t)) && bucket_passes_over m b (from rules (i + 1)) t)
  over_parts =
      ap (λ rs. bucket_passes_over m b (set_rules rs) t) (next_of rules i r l e)
      ∙ ap (λ c. cond c (is_variable (set_rule r).rule.left || not (may_match (set_rule r).rule.left t)) true && bucket_passes_over m b (from rules (i + 1)) t) (on_rule (is_in false m b) rules i r l e on)

  pub over_here : (is_variable (set_rule r).rule.left || not (may_match (set_rule r).rule.left t)) ≡ false → bucket_passes_over m b (from rules i) t ≡ false
  over_here h = over_parts ∙ ap (λ c. c && bucket_passes_over m b (from rules (i + 1)) t) h

  pub over_next : (kept : List ℕ) → length kept ≡ length rules → AreNext false m rules kept → (j : ℕ) → j ≡ get_or kept i j → (is_variable (set_rule r).rule.left || not (may_match (set_rule r).rule.left t)) ≡ true → (bucket_passes_over m b (from rules i) t ≡ bucket_passes_over m b (from rules j) t) × IsOn (is_in false m b) rules j
  over_next kept long are j f h =
      let g =
      goes_to (is_in false m b) rules (λ k es. bucket_passes_over m b es t) (over_passes m b t) (i + 1) j (omega (arith, l)) (to_next false m b rules i r l e on kept long are j f) in
      (over_parts ∙ ap (λ c. c && bucket_passes_over m b (from rules (i + 1)) t) h ∙ g.0, g.1)

-- ---- the making of buckets, from the last rule down

-- of each bucket the number of its first rule from the i-th on
abbrev pub FirstFrom : Bool → ℕ → List SetRule → List ℕ → Type 0
FirstFrom loose i rules first = (b : ℕ) → b < length first → get_or first b 0 ≡ next_in (is_in loose (length first) b) i (from rules i)

-- of each rule from the i-th on that is in a bucket the number of the next one there
abbrev pub NextFrom : Bool → ℕ → ℕ → List SetRule → List ℕ → Type 0
NextFrom loose i m rules kept =
    (j b : ℕ) (r : SetRule) → i ≤ j → j < length rules → r ≡ get_or rules j r → is_in loose m b (set_rule r) ≡ true →
    get_or kept j 0 ≡ next_in (is_in loose m b) (j + 1) (from rules (j + 1))

-- a rule that is in a bucket
module _ (loose : Bool) (m b : ℕ) (e : RuleEntry) where
  in_bucket : is_in loose m b e ≡ true → rule_bucket loose m e ≡ b
  in_bucket h = eqb-true (rule_bucket loose m e) b (and_parts (not (loose && is_settled e)) (nat_eq (rule_bucket loose m e) b) h).1

  -- and one that is in none
  in_none : (loose && is_settled e) ≡ true → is_in loose m b e ≡ false
  in_none h = ap (λ c. not c && nat_eq (rule_bucket loose m e) b) h

  in_own : (loose && is_settled e) ≡ false → is_in loose m b e ≡ nat_eq (rule_bucket loose m e) b
  in_own h = ap (λ c. not c && nat_eq (rule_bucket loose m e) b) h

-- the i-th rule is put in no bucket, where those from n on are in theirs
module _ (loose : Bool) (rules : List SetRule) (n i : ℕ) (r : SetRule) (before : n ≡ i + 1) (l : i < length rules) (e : r ≡ get_or rules i r) (none : (loose && is_settled (set_rule r)) ≡ true) where
  pub first_left : (first : List ℕ) → FirstFrom loose n rules first → FirstFrom loose i rules first
  first_left first those b k =
      let p = is_in loose (length first) b in
      subst (λ z. FirstFrom loose z rules first) before those b k
      ∙ sym (ap (λ rs. next_in p i (set_rules rs)) (next_of rules i r l e) ∙ ap (λ c. cond c i (next_in p (i + 1) (from rules (i + 1)))) (in_none loose (length first) b (set_rule r) none))

  pub next_left : (m : ℕ) (kept : List ℕ) → NextFrom loose n m rules kept → NextFrom loose i m rules kept
  next_left m kept more j b q after k f is = by (nat_eq i j) refl
    where
      by : (c : Bool) → nat_eq i j ≡ c → get_or kept j 0 ≡ next_in (is_in loose m b) (j + 1) (from rules (j + 1))
      by true h =
          let at : i ≡ j = eqb-true i j h in
          let one : r ≡ q = e ∙ get_or_default rules i r q l ∙ ap (λ n. get_or rules n q) at ∙ sym f in
          let clash : true ≡ false = sym is ∙ ap (λ x. is_in loose m b (set_rule x)) (sym one) ∙ in_none loose m b (set_rule r) none in
          absurd (cc)
      by false h =
          let apart : j ≢ i = λ z. (let g : true ≡ false = sym (eq-eqb i j (sym z)) ∙ h in absurd (cc)) in
          more j b q (omega (arith, after, apart, before)) k f is

-- the i-th rule is put at the head of its bucket p, where those from n on are in theirs
module _ (loose : Bool) (rules : List SetRule) (n i : ℕ) (r : SetRule) (first : List ℕ) (p : ℕ) (before : n ≡ i + 1) (l : i < length rules) (e : r ≡ get_or rules i r) (some : (loose && is_settled (set_rule r)) ≡ false) (place : p ≡ rule_bucket loose (length first) (set_rule r)) (within : p < length first) (those : FirstFrom loose n rules first) where
  are : FirstFrom loose (i + 1) rules first
  are = subst (λ k. FirstFrom loose k rules first) before those

  pub first_put : FirstFrom loose i rules (set first p i)
  first_put b k = by (nat_eq p b) refl
    where
      same : length (set first p i) ≡ length first
      same = length-set first p i

      parts : next_in (is_in loose (length (set first p i)) b) i (from rules i) ≡ cond (nat_eq p b) i (next_in (is_in loose (length first) b) (i + 1) (from rules (i + 1)))
      parts =
          ap (λ m. next_in (is_in loose m b) i (from rules i)) same ∙ ap (λ rs. next_in (is_in loose (length first) b) i (set_rules rs)) (next_of rules i r l e)
          ∙ ap (λ c. cond c i (next_in (is_in loose (length first) b) (i + 1) (from rules (i + 1)))) (in_own loose (length first) b (set_rule r) some ∙ ap (λ q. nat_eq q b) (sym place))

      by : (c : Bool) → nat_eq p b ≡ c → get_or (set first p i) b 0 ≡ next_in (is_in loose (length (set first p i)) b) i (from rules i)
      by true h =
          let at : p ≡ b = eqb-true p b h in
          ap (λ q. get_or (set first p i) q 0) (sym at) ∙ get_or-set_same first p i 0 within ∙ sym (parts ∙ ap (λ c. cond c i (next_in (is_in loose (length first) b) (i + 1) (from rules (i + 1)))) h)
      by false h =
          let apart : b ≢ p = λ z. (let f : true ≡ false = sym (eq-eqb p b (sym z)) ∙ h in absurd (cc)) in
          let short : b < length first = omega (arith, k, same) in
          get_or-set_other first p b i 0 apart ∙ are b short ∙ sym (parts ∙ ap (λ c. cond c i (next_in (is_in loose (length first) b) (i + 1) (from rules (i + 1)))) h)

  pub next_put : (kept : List ℕ) → i < length kept → NextFrom loose n (length first) rules kept → NextFrom loose i (length first) rules (set kept i (get_or first p 0))
  next_put kept k more j b q after m f is = by (nat_eq i j) refl
    where
      by : (c : Bool) → nat_eq i j ≡ c → get_or (set kept i (get_or first p 0)) j 0 ≡ next_in (is_in loose (length first) b) (j + 1) (from rules (j + 1))
      by true h =
          let at : i ≡ j = eqb-true i j h in
          let one : r ≡ q = e ∙ get_or_default rules i r q l ∙ ap (λ n. get_or rules n q) at ∙ sym f in
          let bucket : p ≡ b = place ∙ ap (λ x. rule_bucket loose (length first) (set_rule x)) one ∙ in_bucket loose (length first) b (set_rule q) is in
          ap (λ n. get_or (set kept i (get_or first p 0)) n 0) (sym at) ∙ get_or-set_same kept i (get_or first p 0) 0 k ∙ are p within
          ∙ (λ z. next_in (is_in loose (length first) (bucket z)) (at z + 1) (from rules (at z + 1)))
      by false h =
          let apart : j ≢ i = λ z. (let g : true ≡ false = sym (eq-eqb i j (sym z)) ∙ h in absurd (cc)) in
          get_or-set_other kept i j (get_or first p 0) 0 apart ∙ more j b q (omega (arith, after, apart, before)) m f is

-- either, as it is
pub kept_length : (c : Bool) (kept new : List ℕ) (i x : ℕ) → new ≡ cond c kept (set kept i x) → length new ≡ length kept
kept_length true kept new i x is = ap length is
kept_length false kept new i x is = ap length is ∙ length-set kept i x

module _ (loose : Bool) (rules : List SetRule) (n i : ℕ) (r : SetRule) (first : List ℕ) (before : n ≡ i + 1) (l : i < length rules) (e : r ≡ get_or rules i r) (within : rule_bucket loose (length first) (set_rule r) < length first) (those : FirstFrom loose n rules first) where
  abbrev own : ℕ
  own = rule_bucket loose (length first) (set_rule r)

  pub first_step : (new : List ℕ) → new ≡ cond (loose && is_settled (set_rule r)) first (set first (rule_bucket loose (length first) (set_rule r)) i) → FirstFrom loose i rules new
  first_step new is = subst (FirstFrom loose i rules) (sym is) (by (loose && is_settled (set_rule r)) refl)
    where
      by : (b : Bool) → (loose && is_settled (set_rule r)) ≡ b → FirstFrom loose i rules (cond b first (set first own i))
      by true h = first_left loose rules n i r before l e h first those
      by false h = first_put loose rules n i r first own before l e h refl within those

  pub next_step :
      (kept new : List ℕ) → i < length kept → NextFrom loose n (length first) rules kept →
      new ≡ cond (loose && is_settled (set_rule r)) kept (set kept i (get_or first (rule_bucket loose (length first) (set_rule r)) 0)) → NextFrom loose i (length first) rules new
  next_step kept new k more is = subst (NextFrom loose i (length first) rules) (sym is) (by (loose && is_settled (set_rule r)) refl)
    where
      by : (b : Bool) → (loose && is_settled (set_rule r)) ≡ b → NextFrom loose i (length first) rules (cond b kept (set kept i (get_or first own 0)))
      by true h = next_left loose rules n i r before l e h (length first) kept more
      by false h = next_put loose rules n i r first own before l e h refl within those kept k more
