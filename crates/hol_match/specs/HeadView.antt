-- What private clauses see of the program's buckets of rules, and of what finds those of which all stays.
use Rattle.std.specs.Prelude.{◌≡◌, ℕ, ◌+◌, ◌<◌, List, [], length, get_or, drop, Bool, true}
use Rattle.std.specs.declared.cmp.Ordering.{Ordering}
use Rattle.std.specs.BTreeMap.{BTreeMap, get}
use Rattle.hol_types.specs.Tree.{TypeTree}
use Rattle.hol_terms.specs.Nameless.{nameless, free}
use Rattle.hol_subst.specs.AlphaOrder.{alpha_cmp}
use Rattle.hol_match.specs.Fixed.{all_stay}
use Rattle.hol_match.specs.declared.fixed.Fixed.{Fixed}
use Rattle.hol_match.specs.Heads.{is_in, next_in, first_settled}
use Rattle.hol_match.specs.SetView.{set_rule, set_rules}
use Rattle.hol_match.specs.declared.set_rule.SetRule.{SetRule}
use Rattle.hol_match.specs.declared.side.Side.{Side}

-- of each bucket the number of its first rule
abbrev pub AreFirst : Bool → List SetRule → List ℕ → Type 0
AreFirst loose rules first = (b : ℕ) → b < length first → get_or first b 0 ≡ next_in (is_in loose (length first) b) 0 (set_rules rules)

-- of each rule in a bucket, of m, the number of the next one there
abbrev pub AreNext : Bool → ℕ → List SetRule → List ℕ → Type 0
AreNext loose m rules next =
    (i b : ℕ) (r : SetRule) → i < length rules → r ≡ get_or rules i r → is_in loose m b (set_rule r) ≡ true →
    get_or next i 0 ≡ next_in (is_in loose m b) (i + 1) (set_rules (drop (i + 1) rules))

-- sides in the order of terms up to bound names
abbrev pub side_cmp : Side → Side → Ordering
side_cmp a b = alpha_cmp (nameless [] a.term) (nameless [] b.term)

-- at each side the number of the first rule of which all stays that has it
abbrev pub ArePlaces : List SetRule → BTreeMap Side ℕ → Type 0
ArePlaces rules places = (q : Side) → get side_cmp places q ≡ first_settled 0 (set_rules rules) (nameless [] q.term)

-- the variable and its type variables are among those that stay
abbrev pub is_known : Fixed → List ℕ × TypeTree → Bool
is_known f v = all_stay f.names.items f.variables.items (free v)
