-- What rules make of a part of an abstraction, by what they make of it where the variable is free.
-- Source: HOL Light's ABS_CONV, which calls the bound variable by a name that is not in use, and the locally nameless form of terms.
use Rattle.std.specs.Prelude.{◌≡◌, ℕ, List, [], ◌∷◌, ◌++◌, length}
use Rattle.std.specs.Option.{option_map}
use Rattle.hol_types.specs.Tree.{TypeTree}
use Rattle.hol_terms.specs.Nameless.{Nameless}
use Rattle.hol_subst.specs.Closing.{close}
use Rattle.hol_match.specs.Apart.{IsApart}
use Rattle.hol_match.specs.Contracta.{contractum}
use Rattle.hol_match.specs.SetView.{set_rules}
use Rattle.hol_match.specs.declared.set_rule.SetRule.{SetRule}

-- a variable that is apart from the rules may be bound outside before or after
abbrev pub BindingCommutes : Type 0
BindingCommutes = (rules : List SetRule) (v : List ℕ × TypeTree) (env : List TypeTree) (t : Nameless) → IsApart (set_rules rules) v → contractum (env ++ v.1 ∷ []) (set_rules rules) (close v (length env) t) ≡ option_map (close v (length env)) (contractum env (set_rules rules) t)
