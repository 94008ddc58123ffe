-- Which request a JSON value is: an object with the member `op` and the members that the op names; other members are ignored.
use Rattle.std.specs.Prelude.{ℕ, List, if◌then◌else◌, Option, Some, None, option_and_then, option_map, codes}
use Rattle.std.specs.Str.{bytes_eq}
use Rattle.serde_json.specs.Data.{Data}
use Rattle.serde_json.specs.Find.{get, as_str, as_number, as_u64}

pub data RequestText : Type 0 where
  NewTheory : List ℕ → ℕ → RequestText
  DropTheory : List ℕ → RequestText
  Insert : List ℕ → ℕ → List ℕ → RequestText
  Replace : List ℕ → ℕ → List ℕ → RequestText
  Remove : List ℕ → ℕ → RequestText
  Report : List ℕ → ℕ → RequestText
  Theorems : List ℕ → RequestText
  Basis : List ℕ → List ℕ → RequestText
  Stats : RequestText
  Close : RequestText

-- the string under a key
abbrev pub text_at : List ℕ → Data → Option (List ℕ)
text_at key d = option_and_then as_str (get key d)

-- the number from 0 to 2^64 - 1 under a key
abbrev pub number_at : List ℕ → Data → Option ℕ
number_at key d = option_and_then as_u64 (option_and_then as_number (get key d))

abbrev pub new_theory_of : Data → Option RequestText
new_theory_of d = option_and_then (λ name. option_map (NewTheory name) (number_at (codes "at") d)) (text_at (codes "name") d)

abbrev pub drop_theory_of : Data → Option RequestText
drop_theory_of d = option_map DropTheory (text_at (codes "name") d)

-- a request on a place of a theory
abbrev pub at_place : (List ℕ → ℕ → RequestText) → Data → Option RequestText
at_place request d = option_and_then (λ theory. option_map (request theory) (number_at (codes "at") d)) (text_at (codes "theory") d)

-- a request on a place of a theory, with a text
abbrev pub text_at_place : (List ℕ → ℕ → List ℕ → RequestText) → Data → Option RequestText
text_at_place request d = option_and_then (λ theory. option_and_then (λ at. option_map (request theory at) (text_at (codes "text") d))
    (number_at (codes "at") d)) (text_at (codes "theory") d)

abbrev pub theorems_of : Data → Option RequestText
theorems_of d = option_map Theorems (text_at (codes "theory") d)

abbrev pub basis_of : Data → Option RequestText
basis_of d = option_and_then (λ theory. option_map (Basis theory) (text_at (codes "name") d)) (text_at (codes "theory") d)

abbrev pub request_for : List ℕ → Data → Option RequestText
request_for op d =
    if bytes_eq op (codes "new_theory") then new_theory_of d else
    (if bytes_eq op (codes "drop_theory") then drop_theory_of d else
    (if bytes_eq op (codes "insert") then text_at_place Insert d else
    (if bytes_eq op (codes "replace") then text_at_place Replace d else
    (if bytes_eq op (codes "remove") then at_place Remove d else
    (if bytes_eq op (codes "report") then at_place Report d else
    (if bytes_eq op (codes "theorems") then theorems_of d else
    (if bytes_eq op (codes "basis") then basis_of d else
    (if bytes_eq op (codes "stats") then Some Stats else
    (if bytes_eq op (codes "close") then Some Close else None)))))))))

-- the request, or none where an op is unknown, or a key is missing or of the wrong kind
abbrev pub request_of : Data → Option RequestText
request_of d = option_and_then (λ op. request_for op d) (text_at (codes "op") d)
