-- The refusals of commands: their numbers and their texts, as clients see them.
-- Source: this project.
use Rattle.std.specs.Prelude.{ℕ, List, codes}
use Rattle.hol_exec.specs.declared.reports.refusal.RefusalKind.{RefusalKind}
use Rattle.hol_exec.specs.declared.reports.refusal.RefusalKind.TheVariants.{Syntax, InProof, NoProofOpen, UnknownTheory, UnknownTheorem, UnknownTac, Untypable, NotBool, Arity, NameTaken, NotClosed, NotReflected, TooLarge, BadRule, HypsNotAssumed, NoGoalOpen, Refused, TurnLimit, GoalsRemain, NothingToUndo, ImportClash}

abbrev pub kind_number : RefusalKind → ℕ
kind_number Syntax = 1
kind_number InProof = 2
kind_number NoProofOpen = 3
kind_number UnknownTheory = 4
kind_number UnknownTheorem = 5
kind_number UnknownTac = 6
kind_number Untypable = 7
kind_number NotBool = 8
kind_number Arity = 9
kind_number NameTaken = 10
kind_number NotClosed = 11
kind_number NotReflected = 12
kind_number TooLarge = 13
kind_number BadRule = 14
kind_number HypsNotAssumed = 15
kind_number NoGoalOpen = 16
kind_number Refused = 17
kind_number TurnLimit = 18
kind_number GoalsRemain = 19
kind_number NothingToUndo = 20
kind_number ImportClash = 21

abbrev pub kind_text : RefusalKind → List ℕ
kind_text Syntax = codes "syntax"
kind_text InProof = codes "in a proof"
kind_text NoProofOpen = codes "no proof open"
kind_text UnknownTheory = codes "unknown theory"
kind_text UnknownTheorem = codes "unknown theorem"
kind_text UnknownTac = codes "unknown TAC or wrong arguments"
kind_text Untypable = codes "untypable"
kind_text NotBool = codes "not bool"
kind_text Arity = codes "type constructor's arity"
kind_text NameTaken = codes "name taken"
kind_text NotClosed = codes "not closed"
kind_text NotReflected = codes "type variables not reflected"
kind_text TooLarge = codes "too large"
kind_text BadRule = codes "bad rule"
kind_text HypsNotAssumed = codes "hypotheses not among assumptions"
kind_text NoGoalOpen = codes "no goal open"
kind_text Refused = codes "refused"
kind_text TurnLimit = codes "turn limit"
kind_text GoalsRemain = codes "goals remain"
kind_text NothingToUndo = codes "nothing to undo"
kind_text ImportClash = codes "import clash"
