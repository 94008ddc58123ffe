-- The bytes of what a name is kept as, of which only private clauses speak.
use Rattle.std.specs.Prelude.{◌≡◌, ℕ, List, None}
use Rattle.std.specs.Rc.{rc_str_bytes}
use Rattle.hol_types.specs.declared.name.Text.{Text}
use Rattle.hol_types.specs.declared.name.Text.TheVariants.{Known, Own}
use Rattle.hol_types.specs.Known.{known_text, known_at}

abbrev pub text_of : Text → List ℕ
text_of (Known name) = known_text name
text_of (Own text) = rc_str_bytes text

-- a text that takes memory is none of those that take none
abbrev pub IsKept : Text → Type 0
IsKept (Known name) = Unit {0}
IsKept (Own text) = known_at (rc_str_bytes text) ≡ None
