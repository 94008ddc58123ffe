-- What the functions on goals take (HOL Light Reference Manual; where that has several forms, this project's).
use Rattle.std.specs.Prelude.{List}
use Rattle.hol_terms.specs.Nameless.{Nameless}
use Rattle.hol_kernel.specs.Given.{Given}
use Rattle.hol_goal.specs.declared.tac_args.ArgumentKind.{ArgumentKind}
use Rattle.hol_goal.specs.declared.tac_args.ArgumentKind.TheVariants as kind
use Rattle.hol_goal.specs.declared.tac_code.TacCode.{TacCode}
use Rattle.hol_goal.specs.declared.tac_code.TacCode.TheVariants.{AllTac, NoTac, ReflTac, AcceptTac, ConjTac, Disj1Tac, Disj2Tac, EqTac, DischTac, GenTac, XGenTac, ExistsTac, SpecTac, MpTac, AssumeTac, ContrTac, ChooseTac, XChooseTac, DisjCasesTac, Subst1Tac, ApTermTac, ApThmTac, MkCombTac, UndischTac, StripAssumeTac, StripTac, MatchMpTac, BetaTac, RewriteTac, OnceRewriteTac, AsmRewriteTac, OnceAsmRewriteTac, PureRewriteTac}

-- the kind of arguments that a function takes
abbrev pub arguments_of : TacCode → ArgumentKind
arguments_of AllTac = kind.Nothing
arguments_of NoTac = kind.Nothing
arguments_of ReflTac = kind.Nothing
arguments_of AcceptTac = kind.Theorem
arguments_of ConjTac = kind.Nothing
arguments_of Disj1Tac = kind.Nothing
arguments_of Disj2Tac = kind.Nothing
arguments_of EqTac = kind.Nothing
arguments_of DischTac = kind.Nothing
arguments_of GenTac = kind.Nothing
arguments_of XGenTac = kind.Term
arguments_of ExistsTac = kind.Term
arguments_of SpecTac = kind.Pair
arguments_of MpTac = kind.Theorem
arguments_of AssumeTac = kind.Theorem
arguments_of ContrTac = kind.Theorem
arguments_of ChooseTac = kind.Theorem
arguments_of XChooseTac = kind.TermAndTheorem
arguments_of DisjCasesTac = kind.Theorem
arguments_of Subst1Tac = kind.Theorem
arguments_of ApTermTac = kind.Nothing
arguments_of ApThmTac = kind.Nothing
arguments_of MkCombTac = kind.Nothing
arguments_of UndischTac = kind.Term
arguments_of StripAssumeTac = kind.Theorem
arguments_of StripTac = kind.Nothing
arguments_of MatchMpTac = kind.Theorem
arguments_of BetaTac = kind.Nothing
arguments_of RewriteTac = kind.Theorems
arguments_of OnceRewriteTac = kind.Theorems
arguments_of AsmRewriteTac = kind.Theorems
arguments_of OnceAsmRewriteTac = kind.Theorems
arguments_of PureRewriteTac = kind.Theorems

-- Arguments. A term that has to be a variable is a free one.
pub data TacArgsValue : Type 0 where
  Nothing : TacArgsValue
  Term : Nameless → TacArgsValue
  Pair : Nameless → Nameless → TacArgsValue
  Theorem : Given → TacArgsValue
  TermAndTheorem : Nameless → Given → TacArgsValue
  Theorems : List Given → TacArgsValue

abbrev pub kind_of : TacArgsValue → ArgumentKind
kind_of Nothing = kind.Nothing
kind_of (Term t) = kind.Term
kind_of (Pair s t) = kind.Pair
kind_of (Theorem th) = kind.Theorem
kind_of (TermAndTheorem t th) = kind.TermAndTheorem
kind_of (Theorems ths) = kind.Theorems
