-- Rules that are left out, since one before them matches the same terms. Only private clauses speak of this.
-- Source: this project.
use Rattle.std.specs.Prelude.{◌≡◌, ℕ, List, true, slice_get, Some}
use Rattle.hol_types.specs.Tree.{TypeTree}
use Rattle.hol_terms.specs.Alpha.{strip}
use Rattle.hol_kernel.specs.Given.{Given}
use Rattle.hol_match.specs.Apart.{are_apart}
use Rattle.hol_match.specs.RuleSets.{first_entry}
use Rattle.hol_match.specs.SetView.{set_rule, set_rules, AreOf}
use Rattle.hol_match.specs.declared.set_rule.SetRule.{SetRule}

-- one left side up to bound names, and the same stays
pub record IsAgain (e r : SetRule) : Type 0 where
  pub side : strip (set_rule e).rule.left ≡ strip (set_rule r).rule.left
  pub stays : (set_rule e).stays ≡ (set_rule r).stays

-- that of one of these rules
pub record ComesAgain (rules : List SetRule) (r : SetRule) : Type 0 where
  pub place : ℕ
  pub earlier : SetRule
  pub at : slice_get rules place ≡ Some earlier
  pub again : IsAgain earlier r

-- the rules that are kept are as good as all: the first to match is the same, each is of what was given, and what is apart from all is from them
pub record IsSpared (all kept : List SetRule) : Type 0 where
  pub first : first_entry (set_rules kept) ≡ first_entry (set_rules all)
  pub given : (gs : List Given) → AreOf gs all → AreOf gs kept
  pub apart : (v : List ℕ × TypeTree) → are_apart (set_rules all) v ≡ true → are_apart (set_rules kept) v ≡ true
