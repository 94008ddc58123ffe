-- What is written in an expression, in text order: its calls, each before its arguments, the formulas of SUBGOAL_THEN, the quotations and the names of the
-- theorems that are cited. What a command reads, what it quotes and what it calls all go by this one list.
-- Source: this project.
use Rattle.std.specs.Prelude.{List, [], ◌∷◌, ◌++◌}
use Rattle.hol_notation_tactics.specs.Text.{TypePairText, ThmText, Cited, Assume, Refl, Spec, Sym, Conjunct1, Conjunct2, Mp, InstType, ArgumentText, Term, Theorem, Pair, Theorems, CallText, TacText, TacTexts, Call, Then, ThenL, OrElse, Repeat, Try, Changed, Every, First, Replicate, DischThen, PopAssum, FirstAssum, SubgoalThen, no_tacs, more_tacs}
use Rattle.hol_notation_tactics.specs.declared.parts.Role.{Role}
use Rattle.hol_notation_tactics.specs.declared.parts.Role.TheVariants.{Whole, TheoremTactic}
use Rattle.hol_notation_tactics.specs.declared.parts.Part.{Part}
use Rattle.hol_notation_tactics.specs.declared.parts.Part.TheVariants as part

abbrev pub parts_of_pairs : List TypePairText → List Part
parts_of_pairs [] = []
parts_of_pairs (p ∷ pairs) = part.Type p.new_type ∷ part.Type p.old_type ∷ parts_of_pairs pairs

abbrev pub parts_of_theorem : ThmText → List Part
parts_of_theorem (Cited name) = part.Theorem name ∷ []
parts_of_theorem (Assume p) = part.Term p ∷ []
parts_of_theorem (Refl t) = part.Term t ∷ []
parts_of_theorem (Spec t th) = part.Term t ∷ parts_of_theorem th
parts_of_theorem (Sym th) = parts_of_theorem th
parts_of_theorem (Conjunct1 th) = parts_of_theorem th
parts_of_theorem (Conjunct2 th) = parts_of_theorem th
parts_of_theorem (Mp a b) = parts_of_theorem a ++ parts_of_theorem b
parts_of_theorem (InstType pairs th) = parts_of_pairs pairs ++ parts_of_theorem th

abbrev pub parts_of_theorems : List ThmText → List Part
parts_of_theorems [] = []
parts_of_theorems (th ∷ ths) = parts_of_theorem th ++ parts_of_theorems ths

abbrev pub parts_of_argument : ArgumentText → List Part
parts_of_argument (Term t) = part.Term t ∷ []
parts_of_argument (Theorem th) = parts_of_theorem th
parts_of_argument (Pair s t) = part.Term s ∷ part.Term t ∷ []
parts_of_argument (Theorems ths) = parts_of_theorems ths

abbrev pub parts_of_arguments : List ArgumentText → List Part
parts_of_arguments [] = []
parts_of_arguments (a ∷ arguments) = parts_of_argument a ++ parts_of_arguments arguments

abbrev pub parts_of_call : Role → CallText → List Part
parts_of_call role call = part.Call role call ∷ parts_of_arguments call.arguments

abbrev mutual
  pub parts_of : TacText → List Part
  parts_of (Call call) = parts_of_call Whole call
  parts_of (Then t u) = parts_of t ++ parts_of u
  parts_of (ThenL t us) = parts_of t ++ parts_of_each us
  parts_of (OrElse t u) = parts_of t ++ parts_of u
  parts_of (Repeat t) = parts_of t
  parts_of (Try t) = parts_of t
  parts_of (Changed t) = parts_of t
  parts_of (Every ts) = parts_of_each ts
  parts_of (First ts) = parts_of_each ts
  parts_of (Replicate n t) = parts_of t
  parts_of (DischThen call) = parts_of_call TheoremTactic call
  parts_of (PopAssum call) = parts_of_call TheoremTactic call
  parts_of (FirstAssum call) = parts_of_call TheoremTactic call
  parts_of (SubgoalThen p call) = part.Formula p ∷ parts_of_call TheoremTactic call

  pub parts_of_each : TacTexts → List Part
  parts_of_each no_tacs = []
  parts_of_each (more_tacs t ts) = parts_of t ++ parts_of_each ts

-- a list of what each part adds, as the keys that it cites
abbrev pub calls_in : List Part → List (Role × CallText)
calls_in [] = []
calls_in (part.Term t ∷ parts) = calls_in parts
calls_in (part.Type a ∷ parts) = calls_in parts
calls_in (part.Theorem name ∷ parts) = calls_in parts
calls_in (part.Call role call ∷ parts) = (role, call) ∷ calls_in parts
calls_in (part.Formula p ∷ parts) = calls_in parts
