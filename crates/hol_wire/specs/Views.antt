-- What the values of the code stand for.
use Rattle.std.specs.Prelude.{ℕ, List, Option, String, option_map, map, string_bytes}
use Rattle.std.specs.Global.{Vec, Global}
use Rattle.hol_wire.specs.declared.requests.Request.{Request}
use Rattle.hol_wire.specs.declared.requests.Request.TheVariants as code
use Rattle.hol_wire.specs.Requests.{RequestText, NewTheory, DropTheory, Insert, Replace, Remove, Report, Theorems, Basis, Stats, Close}

abbrev pub request_text : Request → RequestText
request_text (code.NewTheory name at) = NewTheory name.now at
request_text (code.DropTheory name) = DropTheory name.now
request_text (code.Insert theory at text) = Insert theory.now at text.now
request_text (code.Replace theory at text) = Replace theory.now at text.now
request_text (code.Remove theory at) = Remove theory.now at
request_text (code.Report theory at) = Report theory.now at
request_text (code.Theorems theory) = Theorems theory.now
request_text (code.Basis theory name) = Basis theory.now name.now
request_text code.Stats = Stats
request_text code.Close = Close

-- the texts of items, or none
abbrev pub items_text : Option (Vec (String Global)) → Option (List (List ℕ))
items_text items = option_map (λ (texts : Vec (String Global)). map string_bytes texts.items) items
