-- Terms that have none of the constants at the heads of left sides: no rule matches any part of them.
use Rattle.std.proofs.Common.{◌≡◌, ℕ, ◌+◌, ◌<◌, ◌≤◌, List, [], ◌∷◌, length, drop, get_or, refl, sym, ap, ◌∙◌, subst, Bool, true, false, cond, ◌&&◌, bytes_eq, Option, Some, None, arith}
use Rattle.std.specs.Option.{option_map, option_and_then, option_or}
use Rattle.std.specs.Int.{bit_at}
use Rattle.std.specs.Int.Bits.{or_zero_r}
use lib.Bits.{bit_and, bit_or}
use Rattle.std.proofs.lemmas.List.{drop_all}
use Rattle.std.proofs.lemmas.Nat.Bits.{bit_at_or, same_from_bits}
use Rattle.std.proofs.lemmas.Slice.Eq.{bytes_eq-Decides}
use Rattle.hol_types.specs.Tree.{TypeTree}
use Rattle.hol_types.specs.Filter.{name_place, name_bit}
use Rattle.hol_types.specs.Equal.{variable_eq}
use Rattle.hol_types.proofs.Filters.{Apart, apart_bits, own_bit, or_has_left, or_has_right}
use Rattle.hol_types.proofs.Steps.{next_of}
use Rattle.hol_terms.specs.Named.{Named, var, constant, comb, abs}
use Rattle.hol_terms.specs.Nameless.{Nameless, free, bound, fixed, app, lam, nameless, place}
use Rattle.hol_terms.specs.Filter.{constant_filter_of}
use Rattle.hol_match.specs.Instance.{instantiated}
use Rattle.hol_match.specs.RuleSets.{RuleEntry, beside}
use Rattle.hol_match.specs.Contracta.{contracted, contractum, MakeNothing, HasNoRedex}
use Rattle.hol_match.specs.Outlines.{may_match}
use Rattle.hol_match.specs.HeadNames.{head_bit, head_bits}
use Rattle.hol_match.specs.SetView.{set_rule, set_rules}
use Rattle.hol_match.specs.declared.set_rule.SetRule.{SetRule}
use Rattle.hol_match.proofs.Outlines.{apart_under}

-- ---- the names at the heads of rules: a loop over them
or_assoc : (a b c : ℕ) → bit_or (bit_or a b) c ≡ bit_or a (bit_or b c)
or_assoc a b c = same_from_bits _ _ at_bit
  where
    at_bit : (i : ℕ) → bit_at (bit_or (bit_or a b) c) i ≡ bit_at (bit_or a (bit_or b c)) i
    at_bit i = omega (arith, bit_at_or (bit_or a b) c i, bit_at_or a b i, bit_at_or a (bit_or b c) i, bit_at_or b c i)

-- these bits and those of the rules that are still to come
abbrev pub with_heads : ℕ → List RuleEntry → Option ℕ
with_heads n es = option_map (bit_or n) (head_bits es)

pub heads_end : (n : ℕ) (rules : List SetRule) (i : ℕ) → length rules ≤ i → with_heads n (set_rules (drop i rules)) ≡ Some n
heads_end n rules i h = ap (λ rs. with_heads n (set_rules rs)) (drop_all i rules h) ∙ ap Some (or_zero_r n)

module _ (n : ℕ) (rules : List SetRule) (i : ℕ) (r : SetRule) (l : i < length rules) (e : r ≡ get_or rules i r) where
  heads_at : with_heads n (set_rules (drop i rules)) ≡ option_map (bit_or n) (option_and_then (λ m. option_map (bit_or m) (head_bits (set_rules (drop (i + 1) rules)))) (head_bit (set_rule r).rule.left))
  heads_at = ap (λ rs. with_heads n (set_rules rs)) (next_of rules i r l e)

  pub heads_next : (m : ℕ) → head_bit (set_rule r).rule.left ≡ Some m → with_heads n (set_rules (drop i rules)) ≡ with_heads (bit_or n m) (set_rules (drop (i + 1) rules))
  heads_next m h = heads_at ∙ ap (λ o. option_map (bit_or n) (option_and_then (λ k. option_map (bit_or k) (head_bits (set_rules (drop (i + 1) rules)))) o)) h ∙ by (head_bits (set_rules (drop (i + 1) rules)))
    where
      by : (o : Option ℕ) → option_map (bit_or n) (option_map (bit_or m) o) ≡ option_map (bit_or (bit_or n m)) o
      by None = refl
      by (Some k) = ap Some (sym (or_assoc n m k))

-- ---- the bits of a nameless term's constants
abbrev constant_bits : Nameless → ℕ
constant_bits (free v) = 0
constant_bits (bound i) = 0
constant_bits (fixed c s) = name_bit c
constant_bits (app f x) = bit_or (constant_bits f) (constant_bits x)
constant_bits (lam a s b) = constant_bits b

no_constant : (env : List (List ℕ × TypeTree)) (i : ℕ) (v : List ℕ × TypeTree) → constant_bits (place env i v) ≡ 0
no_constant [] i v = refl
no_constant (u ∷ env) i v = by (variable_eq u v) (no_constant env (i + 1) v)
  where
    by : (b : Bool) → constant_bits (place env (i + 1) v) ≡ 0 → constant_bits (cond b (bound i) (place env (i + 1) v)) ≡ 0
    by true h = refl
    by false h = h

constants_are : (env : List (List ℕ × TypeTree)) (t : Named) → constant_bits (nameless env t) ≡ constant_filter_of t
constants_are env (var v) = no_constant env 0 v
constants_are env (constant c s) = refl
constants_are env (comb f x) = λ i. bit_or (constants_are env f i) (constants_are env x i)
constants_are env (abs v b) = constants_are (v ∷ env) b

-- ---- a left side whose head is among the bits matches no term whose constants are apart from them
head_apart : (bits : ℕ) (p t : Nameless) (m : ℕ) → head_bit p ≡ Some m → ((k : ℕ) → bit_at m k ≡ 1 → bit_at bits k ≡ 1) → Apart (constant_bits t) bits → may_match p t ≡ false
head_apart bits (free v) t m e within h = absurd (cc)
head_apart bits (bound i) t m e within h = absurd (cc)
head_apart bits (lam a s b) t m e within h = absurd (cc)
head_apart bits (fixed c s) (free v) m e within h = refl
head_apart bits (fixed c s) (bound i) m e within h = refl
head_apart bits (fixed c s) (app f x) m e within h = refl
head_apart bits (fixed c s) (lam a u b) m e within h = refl
head_apart bits (fixed c s) (fixed d u) m e within h = by (bytes_eq c d) refl
  where
    own : bit_at m (name_place 0 c) ≡ 1
    own = let same : name_bit c ≡ m = cc in ap (λ n. bit_at n (name_place 0 c)) (sym same) ∙ own_bit c

    by : (b : Bool) → bytes_eq c d ≡ b → b ≡ false
    by false f = refl
    by true f = absurd (h (name_place 0 c) (subst (λ (n : List ℕ). bit_at (name_bit n) (name_place 0 c) ≡ 1) ((bytes_eq-Decides c d).0 f) (own_bit c)) (within (name_place 0 c) own))
head_apart bits (app p q) (free v) m e within h = refl
head_apart bits (app p q) (bound i) m e within h = refl
head_apart bits (app p q) (fixed c s) m e within h = refl
head_apart bits (app p q) (lam a s b) m e within h = refl
head_apart bits (app p q) (app f x) m e within h =
    ap (λ b. b && may_match q x) (head_apart bits p f m e within (λ k i j. h k (or_has_left (constant_bits f) (constant_bits x) k i) j))

-- ---- no rule of a list matches it
none_contracts : (es : List RuleEntry) (bits n : ℕ) (t : Nameless) → head_bits es ≡ Some n → ((k : ℕ) → bit_at n k ≡ 1 → bit_at bits k ≡ 1) → Apart (constant_bits t) bits → MakeNothing es t
none_contracts [] bits n t e within h env = refl
none_contracts (r ∷ es) bits n t e within h env = by (head_bit r.rule.left) (head_bits es) refl refl e (λ k g w. none_contracts es bits k t g w h env)
  where
    Within : ℕ → Type 0
    Within m = (k : ℕ) → bit_at m k ≡ 1 → bit_at bits k ≡ 1

    by : (o p : Option ℕ) → head_bit r.rule.left ≡ o → head_bits es ≡ p → option_and_then (λ m. option_map (bit_or m) p) o ≡ Some n → ((k : ℕ) → head_bits es ≡ Some k → Within k → contractum env es t ≡ None) → contractum env (r ∷ es) t ≡ None
    by None p f g i later = absurd (cc)
    by (Some m) None f g i later = absurd (cc)
    by (Some m) (Some k) f g i later =
        let both : bit_or m k ≡ n = cc in
        let own : Within m = λ j q. within j (ap (λ z. bit_at z j) (sym both) ∙ or_has_left m k j q) in
        let rest : Within k = λ j q. within j (ap (λ z. bit_at z j) (sym both) ∙ or_has_right m k j q) in
        let none : contracted env r t ≡ None = ap (λ o. option_map (λ a. instantiated a 0 r.rule.right) (option_map (beside r.stays) o)) (apart_under env 0 r.rule.left r.stays t (head_apart bits r.rule.left t m f own h)) in
        ap (λ o. option_or o (contractum env es t)) none ∙ later k g rest

-- nor any part of it
no_part : (es : List RuleEntry) (bits : ℕ) (t : Nameless) → head_bits es ≡ Some bits → Apart (constant_bits t) bits → HasNoRedex es t
no_part es bits (free v) e h = none_contracts es bits bits (free v) e (λ k q. q) h
no_part es bits (bound i) e h = none_contracts es bits bits (bound i) e (λ k q. q) h
no_part es bits (fixed c s) e h = none_contracts es bits bits (fixed c s) e (λ k q. q) h
no_part es bits (app f x) e h = (
  none_contracts es bits bits (app f x) e (λ k q. q) h,
  no_part es bits f e (λ k i j. h k (or_has_left (constant_bits f) (constant_bits x) k i) j),
  no_part es bits x e (λ k i j. h k (or_has_right (constant_bits f) (constant_bits x) k i) j),
)
no_part es bits (lam a s b) e h = (none_contracts es bits bits (lam a s b) e (λ k q. q) h, no_part es bits b e h)

pub apart_from_heads : (es : List RuleEntry) (bits : ℕ) (t : Named) → head_bits es ≡ Some bits → bit_and (constant_filter_of t) bits ≡ 0 → HasNoRedex es (nameless [] t)
apart_from_heads es bits t e h =
    no_part es bits (nameless [] t) e (apart_bits (constant_bits (nameless [] t)) bits (ap (λ n. bit_and n bits) (constants_are [] t) ∙ h))

pub ruleset no_redex = (apart_from_heads)
