-- Grammars by tables, and what is written by one: a tree of productions with its tokens. What may be left out is left out
-- only where the next token can't begin what is written in its place, so that a text is read in one way.
use Rattle.std.specs.Prelude.{◌≡◌, ◌⊎◌, Bool, true, false, ◌||◌, ℕ, zero, suc, List, [], ◌∷◌, ◌++◌}
use Rattle.hol_notation_grammar.specs.declared.sort.Sort.{Sort}
use Rattle.hol_notation_tokens.specs.Token.{is_among}
use Rattle.hol_notation_tokens.specs.Lexeme.{Lexeme}
use Rattle.hol_notation_grammar.specs.declared.grammar.Rule.{Rule}
use Rattle.hol_notation_grammar.specs.declared.grammar.Production.{Production}
use Rattle.hol_notation_grammar.specs.declared.grammar.Symbol.{Symbol}
use Rattle.hol_notation_grammar.specs.declared.grammar.Symbol.TheVariants.{Token, Part}
use Rattle.hol_notation_grammar.specs.declared.grammar.Class.{Class}
use Rattle.hol_notation_grammar.specs.Sort.{sort_of}
use Rattle.hol_notation_grammar.specs.Table.{has, binds, productions, symbols}

-- the ways to write each rule, and the parts of each
pub record Grammar : Type 0 where
  pub productions : Rule → List Production
  pub symbols : Production → List Symbol

abbrev pub language : Grammar
language = record { productions = λ n. productions n; symbols = λ p. symbols p }

mutual
  -- what is written of a rule: a production, and what is written of its parts
  pub data Tree : Type 0 where
    node : Production → Trees → Tree

  pub data Trees : Type 0 where
    done : Trees
    leaf : Class → Lexeme → Trees → Trees
    tree : Tree → Trees → Trees

-- the lexemes of what is written, and then others
abbrev mutual
  pub then : Tree → List Lexeme → List Lexeme
  then (node p ts) rest = all_then ts rest

  pub all_then : Trees → List Lexeme → List Lexeme
  all_then done rest = rest
  all_then (leaf c x ts) rest = x ∷ all_then ts rest
  all_then (tree t ts) rest = then t (all_then ts rest)

-- whether the first of these parts may begin with a token of a sort
abbrev pub leads : (Rule → Sort → Bool) → List Symbol → Sort → Bool
leads b [] k = false
leads b (Token c ∷ ss) k = has c k
leads b (Part m ∷ ss) k = b m k

abbrev pub some_leads : (Rule → Sort → Bool) → (Production → List Symbol) → List Production → Sort → Bool
some_leads b f [] k = false
some_leads b f (p ∷ ps) k = leads b (f p) k || some_leads b f ps k

-- whether what is written of a rule may begin with a token of a sort, through so many productions
abbrev pub begins : Grammar → ℕ → Rule → Sort → Bool
begins G zero n k = false
begins G (suc f) n k = some_leads (λ m j. begins G f m j) G.symbols (G.productions n) k

-- through any number: no chain of these grammars is longer
abbrev pub opens : Grammar → Rule → Sort → Bool
opens G n k = begins G 12 n k

abbrev pub IsNotNext : Grammar → Rule → List Lexeme → Type 0
IsNotNext G n [] = Unit {0}
IsNotNext G n (x ∷ rest) = opens G n (sort_of x) ≡ false

abbrev pub WhereEmpty : List Symbol → Type 0 → Type 0
WhereEmpty [] A = A
WhereEmpty (s ∷ ss) A = Unit {0}

abbrev pub IsAmong : Production → List Production → Type 0
IsAmong p [] = ⊥
IsAmong p (q ∷ qs) = (p ≡ q) ⊎ IsAmong p qs

-- before these lexemes stands what is written of a rule, and of some parts
abbrev mutual
  pub Stands : Grammar → Rule → Tree → List Lexeme → Type 0
  Stands G n (node p ts) rest = IsAmong p (G.productions n) × (WhereEmpty (G.symbols p) (IsNotNext G n rest) × AllStand G ts (G.symbols p) rest)

  pub AllStand : Grammar → Trees → List Symbol → List Lexeme → Type 0
  AllStand G done [] rest = Unit {0}
  AllStand G (leaf d x ts) (Token c ∷ ss) rest = ((d ≡ c) × (has c (sort_of x) ≡ true)) × AllStand G ts ss rest
  AllStand G (tree t ts) (Part n ∷ ss) rest = Stands G n t (all_then ts rest) × AllStand G ts ss rest
  AllStand G _ _ rest = ⊥

-- a step of writing: a production is chosen, or a token of a class is written
pub data StepText : Type 0 where
  choose : Production → StepText
  take : Class → Lexeme → StepText

-- the tree as a list of steps: each node before its parts
abbrev mutual
  pub steps : Tree → List StepText
  steps (node p ts) = choose p ∷ all_steps ts

  pub all_steps : Trees → List StepText
  all_steps done = []
  all_steps (leaf c x ts) = take c x ∷ all_steps ts
  all_steps (tree t ts) = steps t ++ all_steps ts

abbrev pub add_if : Bool → List ℕ → List (List ℕ) → List (List ℕ)
add_if true name names = name ∷ names
add_if false name names = names

-- the names that have to differ: those of the constant that is defined and of its parameters
abbrev pub named : List StepText → List (List ℕ)
named [] = []
named (choose p ∷ ss) = named ss
named (take c x ∷ ss) = add_if (binds c) x.text (named ss)

-- none of these names is one of those before it
abbrev pub AreNew : List (List ℕ) → List (List ℕ) → Type 0
AreNew before [] = Unit {0}
AreNew before (name ∷ names) = (is_among before name ≡ false) × AreNew (before ++ name ∷ []) names
