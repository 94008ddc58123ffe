-- What a token is for the grammar: an identifier by its word, a number by its size, or a symbol. Source: this project.
use Rattle.std.specs.Prelude.{ℕ, List, [], ◌∷◌, codes, bytes_eq, nat_le, if◌then◌else◌}
use Rattle.hol_notation_tokens.specs.declared.token.Kind.{Kind}
use Rattle.hol_notation_tokens.specs.declared.token.Kind.TheVariants as token
use Rattle.hol_notation_tokens.specs.Lexeme.{Lexeme}
use Rattle.hol_notation_grammar.specs.Number.{number_value}
use Rattle.hol_notation_grammar.specs.declared.sort.Sort.{Sort}
use Rattle.hol_notation_grammar.specs.declared.sort.Sort.TheVariants as sort

-- the reserved words, and then those with which commands begin
abbrev pub words : List (List ℕ × Sort)
words =
    (codes "THEN", sort.Then) ∷ (codes "THENL", sort.ThenL) ∷ (codes "ORELSE", sort.OrElse) ∷ (codes "REPEAT", sort.Repeat) ∷ (codes "TRY", sort.Try) ∷ (codes "CHANGED_TAC", sort.Changed)
    ∷ (codes "EVERY", sort.Every) ∷ (codes "FIRST", sort.First) ∷ (codes "REPLICATE_TAC", sort.Replicate) ∷ (codes "DISCH_THEN", sort.DischThen) ∷ (codes "POP_ASSUM", sort.PopAssum) ∷ (codes "FIRST_ASSUM", sort.FirstAssum)
    ∷ (codes "SUBGOAL_THEN", sort.SubgoalThen) ∷ (codes "ASSUME", sort.Assume) ∷ (codes "REFL", sort.Refl) ∷ (codes "SPEC", sort.Spec) ∷ (codes "SYM", sort.Sym) ∷ (codes "CONJUNCT1", sort.Conjunct1)
    ∷ (codes "CONJUNCT2", sort.Conjunct2) ∷ (codes "MP", sort.Mp) ∷ (codes "INST_TYPE", sort.InstType) ∷ (codes "g", sort.Goal) ∷ (codes "e", sort.Apply) ∷ (codes "deftac", sort.DefineTac)
    ∷ (codes "b", sort.Back) ∷ (codes "r", sort.Rotate) ∷ (codes "qed", sort.Qed) ∷ (codes "oops", sort.Oops) ∷ (codes "import", sort.Import) ∷ (codes "new_type", sort.NewType)
    ∷ (codes "new_constant", sort.NewConstant) ∷ (codes "new_axiom", sort.NewAxiom) ∷ (codes "new_definition", sort.NewDefinition) ∷ (codes "new_basic_type_definition", sort.NewBasicTypeDefinition) ∷ []

abbrev pub first_word : List (List ℕ × Sort) → List ℕ → Sort
first_word [] text = sort.Name
first_word (w ∷ ws) text = if bytes_eq text w.0 then w.1 else first_word ws text

abbrev pub word_sort : List ℕ → Sort
word_sort text = first_word words text

-- a type constructor takes at most 16 arguments
abbrev pub number_sort : List ℕ → Sort
number_sort text = if nat_le (number_value text) 16 then sort.Small else sort.Large

abbrev pub kind_sort : Kind → List ℕ → Sort
kind_sort token.Ident text = word_sort text
kind_sort token.Number text = number_sort text
kind_sort token.Iff text = sort.Iff
kind_sort token.Implies text = sort.Implies
kind_sort token.Or text = sort.Or
kind_sort token.And text = sort.And
kind_sort token.Arrow text = sort.Arrow
kind_sort token.ExistsUnique text = sort.ExistsUnique
kind_sort token.Equals text = sort.Equals
kind_sort token.Not text = sort.Not
kind_sort token.Lambda text = sort.Lambda
kind_sort token.ForAll text = sort.ForAll
kind_sort token.Exists text = sort.Exists
kind_sort token.Choice text = sort.Choice
kind_sort token.Open text = sort.Open
kind_sort token.Close text = sort.Close
kind_sort token.OpenList text = sort.OpenList
kind_sort token.CloseList text = sort.CloseList
kind_sort token.Dot text = sort.Dot
kind_sort token.Colon text = sort.Colon
kind_sort token.Comma text = sort.Comma
kind_sort token.Semicolon text = sort.Semicolon
kind_sort token.Backquote text = sort.Backquote

abbrev pub sort_of : Lexeme → Sort
sort_of x = kind_sort x.kind x.text
