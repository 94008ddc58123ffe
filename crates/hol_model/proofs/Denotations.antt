-- Values of the finite universe: a truth value, or the table of a function, with an entry for each argument.
use Rattle.std.specs.Prelude.{Bool, true, false, ◌&&◌, cond, List, [], ◌∷◌, ◌++◌, map}

-- off also ends a table, and is the value of what has no other
pub data Denotation : Type 0 where
  off : Denotation
  on : Denotation
  entry : Denotation → Denotation → Denotation → Denotation

abbrev pub same : Denotation → Denotation → Bool
same off off = true
same off on = false
same off (entry k v r) = false
same on off = false
same on on = true
same on (entry k v r) = false
same (entry k v r) off = false
same (entry k v r) on = false
same (entry k v r) (entry l w s) = same k l && (same v w && same r s)

-- what a table has at an argument
abbrev pub apply : Denotation → Denotation → Denotation
apply off x = off
apply on x = off
apply (entry k v rest) x = cond (same k x) v (apply rest x)

-- the table of a function over its arguments
abbrev pub table : (Denotation → Denotation) → List Denotation → Denotation
table f [] = off
table f (x ∷ xs) = entry x (f x) (table f xs)

-- each of the tables with an entry for x and each of the values
abbrev pub each : Denotation → List Denotation → List Denotation → List Denotation
each x [] rests = []
each x (y ∷ ys) rests = map (entry x y) rests ++ each x ys rests

-- an entry for each of the arguments, in each way
abbrev pub choices : List Denotation → List Denotation → List Denotation
choices [] ys = off ∷ []
choices (x ∷ xs) ys = each x ys (choices xs ys)

-- the tables of the functions from the first values to the second
abbrev pub tables : List Denotation → List Denotation → List Denotation
tables xs ys = map (λ t. table (apply t) xs) (choices xs ys)

-- the first of the values, or off
abbrev pub first : List Denotation → Denotation
first [] = off
first (x ∷ xs) = x

-- the first of the values that the predicate's table takes to on, or else d
abbrev pub chosen : Denotation → Denotation → List Denotation → Denotation
chosen d p [] = d
chosen d p (x ∷ xs) = cond (same (apply p x) on) x (chosen d p xs)

-- those of the values that the predicate's table takes to on
abbrev pub members : Denotation → List Denotation → List Denotation
members p [] = []
members p (x ∷ xs) = cond (same (apply p x) on) (x ∷ members p xs) (members p xs)
