-- The functions on goals whose names end in `_TAC` (HOL Light Reference Manual): what each leaves of a goal, by its code.
use Rattle.std.specs.Prelude.{ℕ, List, [], ◌∷◌, Some, None}
use Rattle.hol_goal.specs.Goal.{GoalValue}
use Rattle.hol_goal.specs.Answer.{UsedValue, AnswerValue, answered, naming}
use Rattle.hol_goal.specs.Arguments.{TacArgsValue}
use Rattle.hol_goal.specs.declared.tac_code.TacCode.{TacCode}
use Rattle.hol_goal.specs.declared.tac_code.TacCode.TheVariants.{AllTac, NoTac, ReflTac, AcceptTac, ConjTac, Disj1Tac, Disj2Tac, EqTac, DischTac, GenTac, XGenTac, ExistsTac, SpecTac, MpTac, AssumeTac, ContrTac, ChooseTac, XChooseTac, DisjCasesTac, Subst1Tac, ApTermTac, ApThmTac, MkCombTac, UndischTac, StripAssumeTac, StripTac, MatchMpTac, BetaTac, RewriteTac, OnceRewriteTac, AsmRewriteTac, OnceAsmRewriteTac, PureRewriteTac}
use Rattle.hol_just.specs.Leaving.{with_nothing, with_term, with_pair, with_theorem, with_term_and_theorem, with_theorems}
use Rattle.hol_just.specs.EquationTacs.{refl_tac, eq_tac, subst1_tac, ap_term_tac, ap_thm_tac, mk_comb_tac}
use Rattle.hol_just.specs.ConnectiveTacs.{accept_tac, conj_tac, disj1_tac, disj2_tac, disch_tac, undisch_tac, mp_tac, assume_tac, contr_tac, disj_cases_tac}
use Rattle.hol_just.specs.Strip.{strip_assume_tac, strip_tac, stripped}
use Rattle.hol_just.specs.MatchMp.{match_mp_tac}
use Rattle.hol_just.specs.ConversionTacs.{beta_tac, rewrite_tac, once_rewrite_tac, asm_rewrite_tac, once_asm_rewrite_tac, pure_rewrite_tac, converted}
use Rattle.hol_just.specs.QuantifierTacs.{gen_tac, x_gen_tac, exists_tac, spec_tac, choose_tac, x_choose_tac}

-- what a function answers, from its arguments, the goal, and what the run may still use
abbrev pub Meaning : Type 0
Meaning = TacArgsValue → GoalValue → UsedValue → AnswerValue

-- The meaning of each code, where constants have these names. A function doesn't fit a goal either where its arguments are of another kind. Only those that
-- strip and those that convert use turns, and only those that call variables by new names test any.
module _ (names : List (List ℕ)) where
  abbrev pub tac : TacCode → Meaning
  tac AllTac = λ args goal used. answered (with_nothing args (Some (goal ∷ []))) used
  tac NoTac = λ args goal used. answered None used
  tac ReflTac = λ args goal used. answered (with_nothing args (refl_tac goal)) used
  tac AcceptTac = λ args goal used. answered (with_theorem args (λ th. accept_tac th goal)) used
  tac ConjTac = λ args goal used. answered (with_nothing args (conj_tac goal)) used
  tac Disj1Tac = λ args goal used. answered (with_nothing args (disj1_tac goal)) used
  tac Disj2Tac = λ args goal used. answered (with_nothing args (disj2_tac goal)) used
  tac EqTac = λ args goal used. answered (with_nothing args (eq_tac goal)) used
  tac DischTac = λ args goal used. answered (with_nothing args (disch_tac goal)) used
  tac GenTac = λ args goal used. naming (with_nothing args (gen_tac names goal)) used
  tac XGenTac = λ args goal used. answered (with_term args (λ t. x_gen_tac t goal)) used
  tac ExistsTac = λ args goal used. answered (with_term args (λ t. exists_tac t goal)) used
  tac SpecTac = λ args goal used. answered (with_pair args (λ t x. spec_tac t x goal)) used
  tac MpTac = λ args goal used. answered (with_theorem args (λ th. mp_tac th goal)) used
  tac AssumeTac = λ args goal used. answered (with_theorem args (λ th. assume_tac th goal)) used
  tac ContrTac = λ args goal used. answered (with_theorem args (λ th. contr_tac th goal)) used
  tac ChooseTac = λ args goal used. naming (with_theorem args (λ th. choose_tac names th goal)) used
  tac XChooseTac = λ args goal used. answered (with_term_and_theorem args (λ t th. x_choose_tac t th goal)) used
  tac DisjCasesTac = λ args goal used. answered (with_theorem args (λ th. disj_cases_tac th goal)) used
  tac Subst1Tac = λ args goal used. answered (with_theorem args (λ th. subst1_tac th goal)) used
  tac ApTermTac = λ args goal used. answered (with_nothing args (ap_term_tac goal)) used
  tac ApThmTac = λ args goal used. answered (with_nothing args (ap_thm_tac goal)) used
  tac MkCombTac = λ args goal used. answered (with_nothing args (mk_comb_tac goal)) used
  tac UndischTac = λ args goal used. answered (with_term args (λ t. undisch_tac t goal)) used
  tac StripAssumeTac = λ args goal used. stripped (with_theorem args (λ th. strip_assume_tac names th goal used)) used
  tac StripTac = λ args goal used. stripped (with_nothing args (strip_tac names goal used)) used
  tac MatchMpTac = λ args goal used. answered (with_theorem args (λ th. match_mp_tac th goal)) used
  tac BetaTac = λ args goal used. converted (with_nothing args (beta_tac goal used.turns_left)) goal used
  tac RewriteTac = λ args goal used. converted (with_theorems args (λ ths. rewrite_tac ths goal used.turns_left)) goal used
  tac OnceRewriteTac = λ args goal used. converted (with_theorems args (λ ths. once_rewrite_tac ths goal used.turns_left)) goal used
  tac AsmRewriteTac = λ args goal used. converted (with_theorems args (λ ths. asm_rewrite_tac ths goal used.turns_left)) goal used
  tac OnceAsmRewriteTac = λ args goal used. converted (with_theorems args (λ ths. once_asm_rewrite_tac ths goal used.turns_left)) goal used
  tac PureRewriteTac = λ args goal used. converted (with_theorems args (λ ths. pure_rewrite_tac ths goal used.turns_left)) goal used
