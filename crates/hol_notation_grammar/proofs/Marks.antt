-- A token of each sort.
use Rattle.std.proofs.Common.{◌≡◌, ℕ, zero, suc, List, [], ◌∷◌, length, refl, ap, true}
use Rattle.std.specs.Prelude.{codes}
use Rattle.std.proofs.lemmas.Bool.{false≢true}
use Rattle.hol_notation_tokens.specs.declared.token.Kind.TheVariants as token
use Rattle.hol_notation_tokens.specs.Lexeme.{Lexeme}
use Rattle.hol_notation_grammar.specs.declared.sort.Sort.{Sort}
use Rattle.hol_notation_grammar.specs.declared.sort.Sort.TheVariants as sort
use Rattle.hol_notation_grammar.specs.declared.grammar.Class.{Class}
use Rattle.hol_notation_grammar.specs.declared.grammar.Class.TheVariants as class
use Rattle.hol_notation_grammar.specs.Sort.{sort_of}
use Rattle.hol_notation_grammar.specs.Table.{binds}
use Rattle.hol_notation_grammar.specs.Ending.{sample}

abbrev zeros : ℕ → List ℕ
zeros zero = []
zeros (suc n) = 0 ∷ zeros n

zeros_length : (n : ℕ) → length (zeros n) ≡ n
zeros_length zero = refl
zeros_length (suc n) = ap suc (zeros_length n)

-- with a name of a length over this
abbrev pub mark : Sort → ℕ → Lexeme
mark sort.Name n = record { kind = token.Ident; text = zeros (suc n); place = 0 }
mark sort.Then n = record { kind = token.Ident; text = codes "THEN"; place = 0 }
mark sort.ThenL n = record { kind = token.Ident; text = codes "THENL"; place = 0 }
mark sort.OrElse n = record { kind = token.Ident; text = codes "ORELSE"; place = 0 }
mark sort.Repeat n = record { kind = token.Ident; text = codes "REPEAT"; place = 0 }
mark sort.Try n = record { kind = token.Ident; text = codes "TRY"; place = 0 }
mark sort.Changed n = record { kind = token.Ident; text = codes "CHANGED_TAC"; place = 0 }
mark sort.Every n = record { kind = token.Ident; text = codes "EVERY"; place = 0 }
mark sort.First n = record { kind = token.Ident; text = codes "FIRST"; place = 0 }
mark sort.Replicate n = record { kind = token.Ident; text = codes "REPLICATE_TAC"; place = 0 }
mark sort.DischThen n = record { kind = token.Ident; text = codes "DISCH_THEN"; place = 0 }
mark sort.PopAssum n = record { kind = token.Ident; text = codes "POP_ASSUM"; place = 0 }
mark sort.FirstAssum n = record { kind = token.Ident; text = codes "FIRST_ASSUM"; place = 0 }
mark sort.SubgoalThen n = record { kind = token.Ident; text = codes "SUBGOAL_THEN"; place = 0 }
mark sort.Assume n = record { kind = token.Ident; text = codes "ASSUME"; place = 0 }
mark sort.Refl n = record { kind = token.Ident; text = codes "REFL"; place = 0 }
mark sort.Spec n = record { kind = token.Ident; text = codes "SPEC"; place = 0 }
mark sort.Sym n = record { kind = token.Ident; text = codes "SYM"; place = 0 }
mark sort.Conjunct1 n = record { kind = token.Ident; text = codes "CONJUNCT1"; place = 0 }
mark sort.Conjunct2 n = record { kind = token.Ident; text = codes "CONJUNCT2"; place = 0 }
mark sort.Mp n = record { kind = token.Ident; text = codes "MP"; place = 0 }
mark sort.InstType n = record { kind = token.Ident; text = codes "INST_TYPE"; place = 0 }
mark sort.Goal n = record { kind = token.Ident; text = codes "g"; place = 0 }
mark sort.Apply n = record { kind = token.Ident; text = codes "e"; place = 0 }
mark sort.DefineTac n = record { kind = token.Ident; text = codes "deftac"; place = 0 }
mark sort.Back n = record { kind = token.Ident; text = codes "b"; place = 0 }
mark sort.Rotate n = record { kind = token.Ident; text = codes "r"; place = 0 }
mark sort.Qed n = record { kind = token.Ident; text = codes "qed"; place = 0 }
mark sort.Oops n = record { kind = token.Ident; text = codes "oops"; place = 0 }
mark sort.Import n = record { kind = token.Ident; text = codes "import"; place = 0 }
mark sort.NewType n = record { kind = token.Ident; text = codes "new_type"; place = 0 }
mark sort.NewConstant n = record { kind = token.Ident; text = codes "new_constant"; place = 0 }
mark sort.NewAxiom n = record { kind = token.Ident; text = codes "new_axiom"; place = 0 }
mark sort.NewDefinition n = record { kind = token.Ident; text = codes "new_definition"; place = 0 }
mark sort.NewBasicTypeDefinition n = record { kind = token.Ident; text = codes "new_basic_type_definition"; place = 0 }
mark sort.Small n = record { kind = token.Number; text = []; place = 0 }
mark sort.Large n = record { kind = token.Number; text = codes "17"; place = 0 }
mark sort.Iff n = record { kind = token.Iff; text = []; place = 0 }
mark sort.Implies n = record { kind = token.Implies; text = []; place = 0 }
mark sort.Or n = record { kind = token.Or; text = []; place = 0 }
mark sort.And n = record { kind = token.And; text = []; place = 0 }
mark sort.Arrow n = record { kind = token.Arrow; text = []; place = 0 }
mark sort.ExistsUnique n = record { kind = token.ExistsUnique; text = []; place = 0 }
mark sort.Equals n = record { kind = token.Equals; text = []; place = 0 }
mark sort.Not n = record { kind = token.Not; text = []; place = 0 }
mark sort.Lambda n = record { kind = token.Lambda; text = []; place = 0 }
mark sort.ForAll n = record { kind = token.ForAll; text = []; place = 0 }
mark sort.Exists n = record { kind = token.Exists; text = []; place = 0 }
mark sort.Choice n = record { kind = token.Choice; text = []; place = 0 }
mark sort.Open n = record { kind = token.Open; text = []; place = 0 }
mark sort.Close n = record { kind = token.Close; text = []; place = 0 }
mark sort.OpenList n = record { kind = token.OpenList; text = []; place = 0 }
mark sort.CloseList n = record { kind = token.CloseList; text = []; place = 0 }
mark sort.Dot n = record { kind = token.Dot; text = []; place = 0 }
mark sort.Colon n = record { kind = token.Colon; text = []; place = 0 }
mark sort.Comma n = record { kind = token.Comma; text = []; place = 0 }
mark sort.Semicolon n = record { kind = token.Semicolon; text = []; place = 0 }
mark sort.Backquote n = record { kind = token.Backquote; text = []; place = 0 }

pub mark_sort : (s : Sort) (n : ℕ) → sort_of (mark s n) ≡ s
mark_sort sort.Name n = refl
mark_sort _ n = refl

pub mark_length : (c : Class) (n : ℕ) → binds c ≡ true → length (mark (sample c) n).text ≡ suc n
mark_length class.Parameter n e = ap suc (zeros_length n)
mark_length class.Constant n e = ap suc (zeros_length n)
mark_length _ n e = absurd (false≢true e)
