-- What only private clauses speak of: how what is still to be read can be ended, by the first production of each rule.
use Rattle.std.specs.Prelude.{◌≡◌, Bool, true, false, ◌||◌, ◌&&◌, ℕ, zero, suc, List, [], ◌∷◌, Option, Some, None}
use Rattle.hol_notation_grammar.specs.declared.sort.Sort.{Sort}
use Rattle.hol_notation_grammar.specs.declared.grammar.Class.{Class}
use Rattle.hol_notation_grammar.specs.declared.sort.Sort.TheVariants as sort
use Rattle.hol_notation_grammar.specs.declared.grammar.Class.TheVariants as class
use Rattle.hol_notation_grammar.specs.declared.grammar.Rule.{Rule}
use Rattle.hol_notation_grammar.specs.declared.grammar.Production.{Production}
use Rattle.hol_notation_grammar.specs.declared.grammar.Symbol.{Symbol}
use Rattle.hol_notation_grammar.specs.declared.grammar.Symbol.TheVariants.{Token, Part}
use Rattle.hol_notation_grammar.specs.Grammar.{Grammar, opens}

-- a token of each class
abbrev pub sample : Class → Sort
sample class.Identifier = sort.Name
sample class.Parameter = sort.Name
sample class.FreeName = sort.Name
sample class.Constant = sort.Name
sample class.Number = sort.Small
sample class.Arity = sort.Small
sample class.Infix = sort.Equals
sample class.Binder = sort.Lambda
sample class.Quantifier = sort.ForAll
sample class.Goal = sort.Goal
sample class.Apply = sort.Apply
sample class.DefineTac = sort.DefineTac
sample class.Back = sort.Back
sample class.Rotate = sort.Rotate
sample class.Qed = sort.Qed
sample class.Oops = sort.Oops
sample class.Import = sort.Import
sample class.NewType = sort.NewType
sample class.NewConstant = sort.NewConstant
sample class.NewAxiom = sort.NewAxiom
sample class.NewDefinition = sort.NewDefinition
sample class.NewBasicTypeDefinition = sort.NewBasicTypeDefinition
sample class.OrElse = sort.OrElse
sample class.Then = sort.Then
sample class.ThenL = sort.ThenL
sample class.Open = sort.Open
sample class.Close = sort.Close
sample class.Every = sort.Every
sample class.First = sort.First
sample class.Repeat = sort.Repeat
sample class.Try = sort.Try
sample class.Changed = sort.Changed
sample class.Replicate = sort.Replicate
sample class.DischThen = sort.DischThen
sample class.PopAssum = sort.PopAssum
sample class.FirstAssum = sort.FirstAssum
sample class.SubgoalThen = sort.SubgoalThen
sample class.OpenList = sort.OpenList
sample class.CloseList = sort.CloseList
sample class.Semicolon = sort.Semicolon
sample class.Comma = sort.Comma
sample class.Assume = sort.Assume
sample class.Refl = sort.Refl
sample class.Spec = sort.Spec
sample class.Sym = sort.Sym
sample class.Conjunct1 = sort.Conjunct1
sample class.Conjunct2 = sort.Conjunct2
sample class.Mp = sort.Mp
sample class.InstType = sort.InstType
sample class.Backquote = sort.Backquote
sample class.Colon = sort.Colon
sample class.Equals = sort.Equals
sample class.Iff = sort.Iff
sample class.Arrow = sort.Arrow
sample class.Implies = sort.Implies
sample class.Or = sort.Or
sample class.And = sort.And
sample class.Not = sort.Not
sample class.Lambda = sort.Lambda
sample class.Dot = sort.Dot

-- the parts of the first of the productions
abbrev pub parts_of_first : Grammar → List Production → List Symbol
parts_of_first G [] = []
parts_of_first G (p ∷ ps) = G.symbols p

-- the token with which the shortest of a rule begins: none, where it is empty
abbrev pub head_sort : (Rule → Option Sort) → List Symbol → Option Sort
head_sort b [] = None
head_sort b (Token c ∷ ss) = Some (sample c)
head_sort b (Part m ∷ ss) = b m

abbrev pub start_sort : Grammar → ℕ → Rule → Option Sort
start_sort G zero n = None
start_sort G (suc f) n = head_sort (λ m. start_sort G f m) (parts_of_first G (G.productions n))

abbrev pub or_else : Option Sort → Option Sort → Option Sort
or_else None o = o
or_else (Some k) o = Some k

-- the token with which the shortest of these parts begins, before a token or the end
abbrev pub next_of : Grammar → Option Sort → List Symbol → Option Sort
next_of G o [] = o
next_of G o (Token c ∷ ss) = Some (sample c)
next_of G o (Part m ∷ ss) = or_else (start_sort G 12 m) (next_of G o ss)

abbrev pub is_none : Option Sort → Bool
is_none None = true
is_none (Some k) = false

abbrev pub is_empty : List Symbol → Bool
is_empty [] = true
is_empty (s ∷ ss) = false

abbrev pub can_be_empty : Grammar → List Symbol → Bool
can_be_empty G [] = true
can_be_empty G (Token c ∷ ss) = false
can_be_empty G (Part m ∷ ss) = is_none (start_sort G 12 m) && can_be_empty G ss

abbrev pub any_empty : Grammar → List Production → Bool
any_empty G [] = false
any_empty G (p ∷ ps) = is_empty (G.symbols p) || any_empty G ps

-- whether the end of these parts may go on with a token
abbrev pub trails : Grammar → (Rule → Sort → Bool) → List Symbol → Sort → Bool
trails G b [] k = false
trails G b (Token c ∷ ss) k = trails G b ss k
trails G b (Part m ∷ ss) k = (can_be_empty G ss && b m k) || trails G b ss k

abbrev pub some_trails : Grammar → (Rule → Sort → Bool) → List Production → Sort → Bool
some_trails G b [] k = false
some_trails G b (p ∷ ps) k = trails G b (G.symbols p) k || some_trails G b ps k

-- whether what is written of a rule may go on with a token
abbrev pub extends : Grammar → ℕ → Rule → Sort → Bool
extends G zero n k = false
extends G (suc f) n k = (any_empty G (G.productions n) && opens G n k) || some_trails G (λ m j. extends G f m j) (G.productions n) k

-- what is written of a rule ends before a token, or at the end
abbrev pub IsShut : Grammar → Rule → Option Sort → Type 0
IsShut G n None = Unit {0}
IsShut G n (Some k) = extends G 12 n k ≡ false

-- each of these parts ends before the shortest of those behind it
abbrev pub IsReady : Grammar → Option Sort → List Symbol → Type 0
IsReady G o [] = Unit {0}
IsReady G o (Token c ∷ ss) = IsReady G o ss
IsReady G o (Part m ∷ ss) = IsShut G m (next_of G o ss) × IsReady G o ss
