-- No run leaves more turns than it had, or forgets a tested name.
use Rattle.std.specs.Prelude.{◌≤◌, ℕ, zero, suc, Bool, true, false, cond, nat_eq, length, map, List, [], ◌∷◌, ◌++◌, Option, Some, None}
use Rattle.std.proofs.Common.{arith}
use Rattle.hol_terms.specs.Nameless.{Nameless}
use Rattle.hol_kernel.specs.Given.{assumed}
use Rattle.hol_goal.specs.Goal.{GoalValue}
use Rattle.hol_goal.specs.Answer.{UsedValue, starting, naming, AnswerResult, AnswerValue, Left, Unfit, OutOfTurns, TooLarge}
use Rattle.hol_goal.specs.Arguments.{TacArgsValue}
use Rattle.hol_goal.proofs.Testing.{extends_itself, extends_by}
use Rattle.hol_goal.specs.declared.tac_code.TacCode.{TacCode}
use Rattle.hol_goal.specs.declared.tac_code.TacCode.TheVariants.{AllTac, NoTac, ReflTac, AcceptTac, ConjTac, Disj1Tac, Disj2Tac, EqTac, DischTac, GenTac, XGenTac, ExistsTac, SpecTac, MpTac, AssumeTac, ContrTac, ChooseTac, XChooseTac, DisjCasesTac, Subst1Tac, ApTermTac, ApThmTac, MkCombTac, UndischTac, StripAssumeTac, StripTac, MatchMpTac, BetaTac, RewriteTac, OnceRewriteTac, AsmRewriteTac, OnceAsmRewriteTac, PureRewriteTac}
use Rattle.hol_just.specs.Leaving.{concluding, with_nothing, with_theorem}
use Rattle.hol_just.specs.QuantifierTacs.{gen_tac, choose_tac}
use Rattle.hol_just.specs.Strip.{antecedent}
use Rattle.hol_just.specs.ConversionTacs.{basic}
use Rattle.hol_just.specs.Tac.{Meaning, tac}
use Rattle.hol_just.specs.Answering.{are_assumed}
use Rattle.hol_just.proofs.StripFalls.{strip_assume_falls, strip_tac_falls}
use Rattle.hol_just.proofs.Converting.{beta_falls, rewrite_falls, once_falls}
use Rattle.hol_combine.specs.ExprValue.{CallValue, TheoremTacValue, ExprValue, ExprValues, Call, Then, ThenL, OrElse, Try, Repeat, Every, First, Replicate, Changed, DischThen, PopAssum, FirstAssum, SubgoalThen, Defined, no_exprs, more_exprs}
use Rattle.hol_combine.specs.Runs.{KnownValue, RunValue, Leaves, Refuses, LacksHyps, Stops, LargeGoal, before_goals, then_on, each, unchanged, has_large, answer_of, run_meaning, meaning_at, call_paid, run_call, handed, hand, disch_then, pop_assum, first_assum, subgoal_then, is_just, changed, replicate, as_many, count, run, run_every, run_first, run_each}
use Rattle.hol_combine.proofs.Falling.{IsAfter, after_itself, IsWithin, Falls, within_before, within_then, within_otherwise, within_paying, each_falls, repeated_falls}

within_cond : (n : UsedValue) (b : Bool) (x y : RunValue) → IsWithin n x → IsWithin n y → IsWithin n (cond b x y)
within_cond n true x y a b = a
within_cond n false x y a b = b

-- ---- calls

abbrev pub MeaningFalls : Option Meaning → Type 0
MeaningFalls None = Unit {0}
MeaningFalls (Some f) = (args : TacArgsValue) (goal : GoalValue) (turns : ℕ) → (f args goal (starting turns)).used.turns_left ≤ turns

naming_falls : (o : Option (List GoalValue × List (List ℕ))) (turns : ℕ) → (naming o (starting turns)).used.turns_left ≤ turns
naming_falls None turns = omega arith
naming_falls (Some r) turns = omega arith

module _ (names : List (List ℕ)) where
  tac_falls : (code : TacCode) → MeaningFalls (Some (tac names code))
  tac_falls AllTac = λ args goal turns. omega arith
  tac_falls NoTac = λ args goal turns. omega arith
  tac_falls ReflTac = λ args goal turns. omega arith
  tac_falls AcceptTac = λ args goal turns. omega arith
  tac_falls ConjTac = λ args goal turns. omega arith
  tac_falls Disj1Tac = λ args goal turns. omega arith
  tac_falls Disj2Tac = λ args goal turns. omega arith
  tac_falls EqTac = λ args goal turns. omega arith
  tac_falls DischTac = λ args goal turns. omega arith
  tac_falls GenTac = λ args goal turns. naming_falls (with_nothing args (gen_tac names goal)) turns
  tac_falls XGenTac = λ args goal turns. omega arith
  tac_falls ExistsTac = λ args goal turns. omega arith
  tac_falls SpecTac = λ args goal turns. omega arith
  tac_falls MpTac = λ args goal turns. omega arith
  tac_falls AssumeTac = λ args goal turns. omega arith
  tac_falls ContrTac = λ args goal turns. omega arith
  tac_falls ChooseTac = λ args goal turns. naming_falls (with_theorem args (λ th. choose_tac names th goal)) turns
  tac_falls XChooseTac = λ args goal turns. omega arith
  tac_falls DisjCasesTac = λ args goal turns. omega arith
  tac_falls Subst1Tac = λ args goal turns. omega arith
  tac_falls ApTermTac = λ args goal turns. omega arith
  tac_falls ApThmTac = λ args goal turns. omega arith
  tac_falls MkCombTac = λ args goal turns. omega arith
  tac_falls UndischTac = λ args goal turns. omega arith
  tac_falls StripAssumeTac = λ args goal turns. strip_assume_falls names args goal (starting turns)
  tac_falls StripTac = λ args goal turns. strip_tac_falls names args goal (starting turns)
  tac_falls MatchMpTac = λ args goal turns. omega arith
  tac_falls BetaTac = beta_falls
  tac_falls RewriteTac = λ args goal turns. rewrite_falls args goal turns (λ ths. ths ++ basic)
  tac_falls OnceRewriteTac = λ args goal turns. once_falls args goal turns (λ ths. ths ++ basic)
  tac_falls AsmRewriteTac = λ args goal turns. rewrite_falls args goal turns (λ ths. ths ++ (map assumed goal.assumptions ++ basic))
  tac_falls OnceAsmRewriteTac = λ args goal turns. once_falls args goal turns (λ ths. ths ++ (map assumed goal.assumptions ++ basic))
  tac_falls PureRewriteTac = λ args goal turns. rewrite_falls args goal turns (λ ths. ths)

  pub at_falls : (rows : List (List ℕ × TacCode)) (index : ℕ) → MeaningFalls (meaning_at names rows index)
  at_falls [] index = tt
  at_falls (row ∷ rows) zero = tac_falls row.1
  at_falls (row ∷ rows) (suc index) = at_falls rows index

answer_falls : (name : List ℕ) (result : AnswerResult) (left used : UsedValue) → IsAfter used left → IsWithin used (answer_of name result left)
answer_falls name (Left goals) left used h = within_cond used (has_large goals) (Stops LargeGoal left.tested) (Leaves goals left) h.tested h
answer_falls name Unfit left used h = h
answer_falls name OutOfTurns left used h = h.tested
answer_falls name TooLarge left used h = h.tested

meaning_falls : (meaning : Option Meaning) (name : List ℕ) (args : TacArgsValue) (goal : GoalValue) (used : UsedValue) → MeaningFalls meaning → IsWithin used (run_meaning meaning name args goal used)
meaning_falls None name args goal used h = after_itself used
meaning_falls (Some f) name args goal used h =
    let answer : AnswerValue = f args goal (starting used.turns_left) in
    answer_falls name answer.result (record { turns_left = answer.used.turns_left; tested = used.tested ++ answer.used.tested }) used (record { turns = h args goal used.turns_left; tested = extends_by used.tested answer.used.tested })

paid_falls : (known : KnownValue) (call : CallValue) (goal : GoalValue) (used : UsedValue) → IsWithin used (call_paid known call goal used)
paid_falls known call goal used = meaning_falls (meaning_at known.names known.table call.index) call.name call.args goal used (at_falls known.names known.table call.index)

call_falls : (known : KnownValue) (call : CallValue) (goal : GoalValue) (used : UsedValue) → IsWithin used (run_call known call goal used)
call_falls known call goal used =
    within_paying (λ left. cond (are_assumed call.args goal) (call_paid known call goal left) (Refuses (LacksHyps call.name) left)) used
    (λ l. within_cond l (are_assumed call.args goal) (call_paid known call goal l) (Refuses (LacksHyps call.name) l) (paid_falls known call goal l) (after_itself l))

-- ---- theorems that are handed over

module _ (known : KnownValue) (called : TheoremTacValue) where
  pub hand_falls : (p : Nameless) (goal : GoalValue) (used : UsedValue) → IsWithin used (hand known called p goal used)
  hand_falls p goal used = within_paying (call_paid known (handed called p) goal) used (λ l. paid_falls known (handed called p) goal l)

  disch_falls : (goal : GoalValue) (o : Option (Nameless × Nameless)) (used : UsedValue) → IsWithin used (disch_then known called goal o used)
  disch_falls goal None used = after_itself used
  disch_falls goal (Some (p, q)) used = hand_falls p (concluding goal q) used

  pop_falls : (ps : List Nameless) (w : Nameless) (used : UsedValue) → IsWithin used (pop_assum known called ps w used)
  pop_falls [] w used = after_itself used
  pop_falls (p ∷ ps) w used = hand_falls p (record { assumptions = ps; conclusion = w }) used

  pub first_assum_falls : (ps : List Nameless) (goal : GoalValue) (used : UsedValue) → IsWithin used (first_assum known called ps goal used)
  first_assum_falls [] goal used = after_itself used
  first_assum_falls (p ∷ ps) goal used = within_otherwise used (hand known called p goal used) (first_assum known called ps goal) (hand_falls p goal used) (λ l. first_assum_falls ps goal l)

  subgoal_falls : (p : Nameless) (goal : GoalValue) (used : UsedValue) → IsWithin used (subgoal_then known p called goal used)
  subgoal_falls p goal used =
      within_cond used (has_large (concluding goal p ∷ [])) (Stops LargeGoal used.tested) (before_goals (concluding goal p ∷ []) (hand known called p goal used)) (extends_itself used.tested)
      (within_before used (concluding goal p ∷ []) (hand known called p goal used) (hand_falls p goal used))

-- ---- tacticals

changed_falls : (goal : GoalValue) (n : UsedValue) (a : RunValue) → IsWithin n a → IsWithin n (changed goal a)
changed_falls goal n (Leaves goals left) w = within_cond n (is_just goal goals) (Refuses _ left) (Leaves goals left) w w
changed_falls goal n (Refuses why left) w = w
changed_falls goal n (Stops why tested) w = w

pub replicate_falls : (f : GoalValue → UsedValue → RunValue) → Falls f → (n : ℕ) → Falls (replicate f n)
replicate_falls f falls zero goal used = after_itself used
replicate_falls f falls (suc n) goal used =
    within_paying (λ left. then_on (f goal left) (each (replicate f n))) used
    (λ l. within_then l (f goal l) (each (replicate f n)) (falls goal l) (λ g k. each_falls (replicate f n) (replicate_falls f falls n) g k))

mutual
  pub run_falls : (known : KnownValue) (expr : ExprValue) (goal : GoalValue) (used : UsedValue) → IsWithin used (run known expr goal used)
  run_falls known (Call call) goal used = call_falls known call goal used
  run_falls known (Then t u) goal used = within_then used (run known t goal used) (each (run known u)) (run_falls known t goal used) (λ g l. each_falls (run known u) (run_falls known u) g l)
  run_falls known (ThenL t us) goal used = within_then used (run known t goal used) (λ g l. as_many (count us) g l (run_each known us g l)) (run_falls known t goal used) (λ g l. within_cond l (nat_eq (count us) (length g)) (run_each known us g l) (Refuses _ l) (parts_falls known us g l) (after_itself l))
  run_falls known (OrElse t u) goal used = within_otherwise used (run known t goal used) (run known u goal) (run_falls known t goal used) (λ l. run_falls known u goal l)
  run_falls known (Try t) goal used = within_otherwise used (run known t goal used) (unchanged goal) (run_falls known t goal used) (λ l. after_itself l)
  run_falls known (Repeat t) goal used = repeated_falls (run known t) (run_falls known t) goal used
  run_falls known (Every ts) goal used = every_falls known ts goal used
  run_falls known (First ts) goal used = first_falls known ts goal used
  run_falls known (Replicate n t) goal used = replicate_falls (run known t) (run_falls known t) n goal used
  run_falls known (Changed t) goal used = changed_falls goal used (run known t goal used) (run_falls known t goal used)
  run_falls known (DischThen called) goal used = disch_falls known called goal (antecedent goal.conclusion) used
  run_falls known (PopAssum called) goal used = pop_falls known called goal.assumptions goal.conclusion used
  run_falls known (FirstAssum called) goal used = first_assum_falls known called goal.assumptions goal used
  run_falls known (SubgoalThen p called) goal used = subgoal_falls known called p goal used
  run_falls known (Defined t) goal used = within_paying (run known t goal) used (λ l. run_falls known t goal l)

  pub every_falls : (known : KnownValue) (ts : ExprValues) (goal : GoalValue) (used : UsedValue) → IsWithin used (run_every known ts goal used)
  every_falls known no_exprs goal used = after_itself used
  every_falls known (more_exprs t ts) goal used = within_then used (run known t goal used) (each (run_every known ts)) (run_falls known t goal used) (λ g l. each_falls (run_every known ts) (every_falls known ts) g l)

  pub first_falls : (known : KnownValue) (ts : ExprValues) (goal : GoalValue) (used : UsedValue) → IsWithin used (run_first known ts goal used)
  first_falls known no_exprs goal used = after_itself used
  first_falls known (more_exprs t no_exprs) goal used = run_falls known t goal used
  first_falls known (more_exprs t (more_exprs u us)) goal used = within_otherwise used (run known t goal used) (run_first known (more_exprs u us) goal) (run_falls known t goal used) (λ l. first_falls known (more_exprs u us) goal l)

  pub parts_falls : (known : KnownValue) (ts : ExprValues) (goals : List GoalValue) (used : UsedValue) → IsWithin used (run_each known ts goals used)
  parts_falls known no_exprs goals used = after_itself used
  parts_falls known (more_exprs t ts) [] used = after_itself used
  parts_falls known (more_exprs t ts) (g ∷ goals) used = within_then used (run known t g used) (λ new l. before_goals new (run_each known ts goals l)) (run_falls known t g used) (λ new l. within_before l new (run_each known ts goals l) (parts_falls known ts goals l))
