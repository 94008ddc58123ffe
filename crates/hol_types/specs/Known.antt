-- The texts of the names that take no memory. No contract of another crate rests on which these are.
use Rattle.std.specs.Prelude.{ℕ, List, [], ◌∷◌, cond, bytes_eq, codes, Option, Some, None}
use Rattle.hol_types.specs.declared.known.KnownName.{KnownName}
use Rattle.hol_types.specs.declared.known.KnownName.TheVariants.{FunType, BoolType, IndType, Equality, Choice, Truth, Falsity, Conjunction, Disjunction, Implication, Negation, Forall, Exists, ExistsUnique, OneOne, Onto, UpperA, UpperP, LowerP, LowerQ, LowerX}

abbrev pub known_text : KnownName → List ℕ
known_text FunType = codes "fun"
known_text BoolType = codes "bool"
known_text IndType = codes "ind"
known_text Equality = codes "="
known_text Choice = codes "@"
known_text Truth = codes "T"
known_text Falsity = codes "F"
known_text Conjunction = codes "/\\"
known_text Disjunction = codes "\\/"
known_text Implication = codes "==>"
known_text Negation = codes "~"
known_text Forall = codes "!"
known_text Exists = codes "?"
known_text ExistsUnique = codes "?!"
known_text OneOne = codes "ONE_ONE"
known_text Onto = codes "ONTO"
known_text UpperA = codes "A"
known_text UpperP = codes "P"
known_text LowerP = codes "p"
known_text LowerQ = codes "q"
known_text LowerX = codes "x"

-- each with its text
abbrev pub known_names : List (List ℕ × KnownName)
known_names =
    (codes "fun", FunType)
    ∷ (codes "bool", BoolType)
    ∷ (codes "ind", IndType)
    ∷ (codes "=", Equality)
    ∷ (codes "@", Choice)
    ∷ (codes "T", Truth)
    ∷ (codes "F", Falsity)
    ∷ (codes "/\\", Conjunction)
    ∷ (codes "\\/", Disjunction)
    ∷ (codes "==>", Implication)
    ∷ (codes "~", Negation)
    ∷ (codes "!", Forall)
    ∷ (codes "?", Exists)
    ∷ (codes "?!", ExistsUnique)
    ∷ (codes "ONE_ONE", OneOne)
    ∷ (codes "ONTO", Onto)
    ∷ (codes "A", UpperA)
    ∷ (codes "P", UpperP)
    ∷ (codes "p", LowerP)
    ∷ (codes "q", LowerQ)
    ∷ (codes "x", LowerX)
    ∷ []

-- the name of the text among these
abbrev pub known_in : List (List ℕ × KnownName) → List ℕ → Option KnownName
known_in [] c = None
known_in (p ∷ names) c = cond (bytes_eq c p.0) (Some p.1) (known_in names c)

abbrev pub known_at : List ℕ → Option KnownName
known_at c = known_in known_names c
