-- Names of constants that agree on what a run tested give the same run.
use Rattle.std.specs.Prelude.{◌≡◌, ℕ, zero, suc, Bool, true, false, cond, nat_eq, length, List, [], ◌∷◌, ◌++◌, Option, Some, None, refl}
use Rattle.std.specs.Option.{option_map, option_or}
use Rattle.std.proofs.Common.{ap, sym, ◌∙◌, subst}
use Rattle.hol_terms.specs.Nameless.{Nameless}
use Rattle.hol_formulas.specs.Formula.{Abstraction, dest_forall, dest_exists}
use Rattle.hol_kernel.specs.Given.{Given, given_sequent}
use Rattle.hol_goal.specs.Goal.{GoalValue}
use Rattle.hol_goal.specs.Answer.{UsedValue, starting, testing, AnswerResult, AnswerValue, Left, Unfit, OutOfTurns, TooLarge, naming}
use Rattle.hol_goal.specs.Arguments.{TacArgsValue, Nothing, Term, Pair, Theorem, TermAndTheorem, Theorems}
use Rattle.hol_goal.specs.Names.{AgreeOn}
use Rattle.hol_goal.specs.declared.tac_code.TacCode.{TacCode}
use Rattle.hol_goal.specs.declared.tac_code.TacCode.TheVariants.{AllTac, NoTac, ReflTac, AcceptTac, ConjTac, Disj1Tac, Disj2Tac, EqTac, DischTac, GenTac, XGenTac, ExistsTac, SpecTac, MpTac, AssumeTac, ContrTac, ChooseTac, XChooseTac, DisjCasesTac, Subst1Tac, ApTermTac, ApThmTac, MkCombTac, UndischTac, StripAssumeTac, StripTac, MatchMpTac, BetaTac, RewriteTac, OnceRewriteTac, AsmRewriteTac, OnceAsmRewriteTac, PureRewriteTac}
use Rattle.hol_goal.proofs.Testing.{agree_back, agree_before}
use Rattle.hol_just.specs.Answering.{are_assumed}
use Rattle.hol_just.specs.ConnectiveTacs.{conj_tac}
use Rattle.hol_just.specs.Fresh.{FreshValue, fresh}
use Rattle.hol_just.specs.Leaving.{concluding, goal_terms, theorem_terms, with_nothing, with_theorem}
use Rattle.hol_just.specs.QuantifierTacs.{terms_by, of_fresh, gen_tac, assuming_fresh, choose_tac}
use Rattle.hol_just.specs.Strip.{avoiding, waiting, Stripped, Leaves as Ends, RunsOut, strip, strip_assume_tac, antecedent, strip_tac, stripped}
use Rattle.hol_just.specs.Tac.{tac}
use Rattle.hol_just.proofs.FreshLaws.{fresh_agrees}
use Rattle.hol_just.proofs.StripFalls.{tested_in, strip_agrees}
use Rattle.hol_combine.specs.ExprValue.{CallValue, TheoremTacValue, ExprValue, ExprValues, Call, Then, ThenL, OrElse, Try, Repeat, Every, First, Replicate, Changed, DischThen, PopAssum, FirstAssum, SubgoalThen, Defined, no_exprs, more_exprs}
use Rattle.hol_combine.specs.Runs.{KnownValue, RunValue, Leaves, Refuses, LacksHyps, Stops, LargeGoal, before_goals, then_on, otherwise, each, unchanged, paying_from, paying, has_large, answer_of, run_meaning, meaning_at, call_paid, run_call, handed, hand, disch_then, pop_assum, first_assum, subgoal_then, is_just, changed, repeat, replicate, as_many, count, run, run_every, run_first, run_each}
use Rattle.hol_combine.specs.Agreeing.{known, tested_of}
use Rattle.hol_combine.proofs.Falling.{IsWithin, Falls, one_less, after_itself, within_before, within_then, within_otherwise, each_falls, repeat_falls}
use Rattle.hol_combine.proofs.Turns.{replicate_falls, first_assum_falls, run_falls, every_falls, first_falls, parts_falls}

module _ (names more : List (List ℕ)) where
  abbrev Agrees : RunValue → Type 0
  Agrees x = AgreeOn names more (tested_of x)

  -- ---- runs after runs

  within_agrees : (u : UsedValue) (x : RunValue) → IsWithin u x → Agrees x → AgreeOn names more u.tested
  within_agrees u (Leaves goals left) w h = agree_before names more u.tested left.tested w.tested h
  within_agrees u (Refuses why left) w h = agree_before names more u.tested left.tested w.tested h
  within_agrees u (Stops why tested) w h = agree_before names more u.tested tested w h

  agrees_after : (goals : List GoalValue) (x : RunValue) → Agrees (before_goals goals x) → Agrees x
  agrees_after goals (Leaves gs left) h = h
  agrees_after goals (Refuses why left) h = h
  agrees_after goals (Stops why tested) h = h

  then_begins : (x : RunValue) (f : List GoalValue → UsedValue → RunValue) → ((g : List GoalValue) (l : UsedValue) → IsWithin l (f g l)) → Agrees (then_on x f) → Agrees x
  then_begins (Leaves g l) f w h = within_agrees l (f g l) (w g l) h
  then_begins (Refuses why l) f w h = h
  then_begins (Stops why tested) f w h = h

  then_goes : (x : RunValue) (f k : List GoalValue → UsedValue → RunValue) → ((g : List GoalValue) (l : UsedValue) → Agrees (f g l) → k g l ≡ f g l) → Agrees (then_on x f) → then_on x k ≡ then_on x f
  then_goes (Leaves g l) f k e h = e g l h
  then_goes (Refuses why l) f k e h = refl
  then_goes (Stops why tested) f k e h = refl

  then_agrees :
      (x y : RunValue) (f k : List GoalValue → UsedValue → RunValue) → (Agrees x → y ≡ x) → ((g : List GoalValue) (l : UsedValue) → IsWithin l (f g l)) → ((g : List GoalValue) (l : UsedValue) → Agrees (f g l) → k g l ≡ f g l) →
      Agrees (then_on x f) → then_on y k ≡ then_on x f
  then_agrees x y f k same w e h = ap (λ z. then_on z k) (same (then_begins x f w h)) ∙ then_goes x f k e h

  otherwise_begins : (x : RunValue) (f : UsedValue → RunValue) → ((l : UsedValue) → IsWithin l (f l)) → Agrees (otherwise x f) → Agrees x
  otherwise_begins (Leaves g l) f w h = h
  otherwise_begins (Refuses why l) f w h = within_agrees l (f l) (w l) h
  otherwise_begins (Stops why tested) f w h = h

  otherwise_goes : (x : RunValue) (f k : UsedValue → RunValue) → ((l : UsedValue) → Agrees (f l) → k l ≡ f l) → Agrees (otherwise x f) → otherwise x k ≡ otherwise x f
  otherwise_goes (Leaves g l) f k e h = refl
  otherwise_goes (Refuses why l) f k e h = e l h
  otherwise_goes (Stops why tested) f k e h = refl

  otherwise_agrees :
      (x y : RunValue) (f k : UsedValue → RunValue) → (Agrees x → y ≡ x) → ((l : UsedValue) → IsWithin l (f l)) → ((l : UsedValue) → Agrees (f l) → k l ≡ f l) → Agrees (otherwise x f) → otherwise y k ≡ otherwise x f
  otherwise_agrees x y f k same w e h = ap (λ z. otherwise z k) (same (otherwise_begins x f w h)) ∙ otherwise_goes x f k e h

  each_agrees : {X : Type 0} (f k : X → UsedValue → RunValue) → Falls f → ((x : X) (l : UsedValue) → Agrees (f x l) → k x l ≡ f x l) → (xs : List X) (used : UsedValue) → Agrees (each f xs used) → each k xs used ≡ each f xs used
  each_agrees f k falls e [] used h = refl
  each_agrees f k falls e (x ∷ xs) used h =
      then_agrees (f x used) (k x used) (λ g l. before_goals g (each f xs l)) (λ g l. before_goals g (each k xs l)) (e x used) (λ g l. within_before l g (each f xs l) (each_falls f falls xs l))
      (λ g l a. ap (before_goals g) (each_agrees f k falls e xs l (agrees_after g (each f xs l) a))) h

  paying_agrees : (f k : UsedValue → RunValue) → ((l : UsedValue) → Agrees (f l) → k l ≡ f l) → (tested : List (List ℕ)) (turns : ℕ) → Agrees (paying_from f tested turns) → paying_from k tested turns ≡ paying_from f tested turns
  paying_agrees f k e tested zero h = refl
  paying_agrees f k e tested (suc turns) h = e (one_less tested turns) h

  first_agrees : (b : Bool) (x y z : RunValue) → (Agrees x → y ≡ x) → Agrees (cond b x z) → cond b y z ≡ cond b x z
  first_agrees true x y z e h = e h
  first_agrees false x y z e h = refl

  second_agrees : (b : Bool) (x y z : RunValue) → (Agrees x → y ≡ x) → Agrees (cond b z x) → cond b z y ≡ cond b z x
  second_agrees true x y z e h = refl
  second_agrees false x y z e h = e h

  -- ---- calls

  stripped_tested : (s : Stripped) (used : UsedValue) → AgreeOn names more (stripped (Some s) used).used.tested → AgreeOn names more (tested_in s)
  stripped_tested (Ends goals left) used h = h
  stripped_tested (RunsOut tested) used h = h

  gen_agrees : (args : TacArgsValue) (goal : GoalValue) (turns : ℕ) → AgreeOn names more (naming (with_nothing args (gen_tac names goal)) (starting turns)).used.tested →
      naming (with_nothing args (gen_tac more goal)) (starting turns) ≡ naming (with_nothing args (gen_tac names goal)) (starting turns)
  gen_agrees Nothing goal turns h = by (dest_forall goal.conclusion) h
    where
      by : (o : Option Abstraction) → AgreeOn names more (naming (option_map (λ x. of_fresh goal x (fresh names (goal_terms goal) x.base)) o) (starting turns)).used.tested →
          naming (option_map (λ x. of_fresh goal x (fresh more (goal_terms goal) x.base)) o) (starting turns) ≡ naming (option_map (λ x. of_fresh goal x (fresh names (goal_terms goal) x.base)) o) (starting turns)
      by None a = refl
      by (Some x) a = ap (λ (f : FreshValue). naming (Some (of_fresh goal x f)) (starting turns)) (fresh_agrees (goal_terms goal) names more x.base a)
  gen_agrees (Term t) goal turns h = refl
  gen_agrees (Pair s t) goal turns h = refl
  gen_agrees (Theorem th) goal turns h = refl
  gen_agrees (TermAndTheorem t th) goal turns h = refl
  gen_agrees (Theorems ths) goal turns h = refl

  choose_agrees : (args : TacArgsValue) (goal : GoalValue) (turns : ℕ) → AgreeOn names more (naming (with_theorem args (λ th. choose_tac names th goal)) (starting turns)).used.tested →
      naming (with_theorem args (λ th. choose_tac more th goal)) (starting turns) ≡ naming (with_theorem args (λ th. choose_tac names th goal)) (starting turns)
  choose_agrees Nothing goal turns h = refl
  choose_agrees (Term t) goal turns h = refl
  choose_agrees (Pair s t) goal turns h = refl
  choose_agrees (Theorem th) goal turns h = by (dest_exists (given_sequent th).concl) h
    where
      by : (o : Option Abstraction) → AgreeOn names more (naming (option_map (λ x. assuming_fresh goal x (fresh names (terms_by th goal) x.base)) o) (starting turns)).used.tested →
          naming (option_map (λ x. assuming_fresh goal x (fresh more (terms_by th goal) x.base)) o) (starting turns) ≡ naming (option_map (λ x. assuming_fresh goal x (fresh names (terms_by th goal) x.base)) o) (starting turns)
      by None a = refl
      by (Some x) a = ap (λ (f : FreshValue). naming (Some (assuming_fresh goal x f)) (starting turns)) (fresh_agrees (terms_by th goal) names more x.base a)
  choose_agrees (TermAndTheorem t th) goal turns h = refl
  choose_agrees (Theorems ths) goal turns h = refl

  assumed_agrees : (args : TacArgsValue) (goal : GoalValue) (turns : ℕ) → AgreeOn names more (stripped (with_theorem args (λ th. strip_assume_tac names th goal (starting turns))) (starting turns)).used.tested →
      stripped (with_theorem args (λ th. strip_assume_tac more th goal (starting turns))) (starting turns) ≡ stripped (with_theorem args (λ th. strip_assume_tac names th goal (starting turns))) (starting turns)
  assumed_agrees Nothing goal turns h = refl
  assumed_agrees (Term t) goal turns h = refl
  assumed_agrees (Pair s t) goal turns h = refl
  assumed_agrees (Theorem th) goal turns h =
      let w = waiting ((given_sequent th).concl ∷ []) goal in
      ap (λ s. stripped (Some s) (starting turns)) (strip_agrees names more (theorem_terms th) w (starting turns) (stripped_tested (strip (avoiding (theorem_terms th) names) w (starting turns)) (starting turns) h))
  assumed_agrees (TermAndTheorem t th) goal turns h = refl
  assumed_agrees (Theorems ths) goal turns h = refl

  -- what STRIP_TAC does, by what it finds
  abbrev found : List (List ℕ) → GoalValue → ℕ → Option Abstraction → Option (List GoalValue) → Option (Nameless × Nameless) → Option Stripped
  found ns goal turns o gs p =
      option_or (option_map (λ r. Ends r.0 (testing r.1 (starting turns))) (option_map (λ x. of_fresh goal x (fresh ns (goal_terms goal) x.base)) o))
      (option_or (option_map (λ goals. Ends goals (starting turns)) gs) (option_map (λ r. strip (avoiding [] ns) (waiting (r.0 ∷ []) (concluding goal r.1)) (starting turns)) p))

  found_agrees : (goal : GoalValue) (turns : ℕ) (o : Option Abstraction) (gs : Option (List GoalValue)) (p : Option (Nameless × Nameless)) → AgreeOn names more (stripped (found names goal turns o gs p) (starting turns)).used.tested →
      stripped (found more goal turns o gs p) (starting turns) ≡ stripped (found names goal turns o gs p) (starting turns)
  found_agrees goal turns (Some x) gs p h = ap (λ (f : FreshValue). stripped (Some (Ends (of_fresh goal x f).0 (testing (of_fresh goal x f).1 (starting turns)))) (starting turns)) (fresh_agrees (goal_terms goal) names more x.base h)
  found_agrees goal turns None (Some goals) p h = refl
  found_agrees goal turns None None None h = refl
  found_agrees goal turns None None (Some r) h =
      let w = waiting (r.0 ∷ []) (concluding goal r.1) in
      ap (λ s. stripped (Some s) (starting turns)) (strip_agrees names more [] w (starting turns) (stripped_tested (strip (avoiding [] names) w (starting turns)) (starting turns) h))

  stripping_agrees : (args : TacArgsValue) (goal : GoalValue) (turns : ℕ) → AgreeOn names more (stripped (with_nothing args (strip_tac names goal (starting turns))) (starting turns)).used.tested →
      stripped (with_nothing args (strip_tac more goal (starting turns))) (starting turns) ≡ stripped (with_nothing args (strip_tac names goal (starting turns))) (starting turns)
  stripping_agrees Nothing goal turns h = found_agrees goal turns (dest_forall goal.conclusion) (conj_tac goal) (antecedent goal.conclusion) h
  stripping_agrees (Term t) goal turns h = refl
  stripping_agrees (Pair s t) goal turns h = refl
  stripping_agrees (Theorem th) goal turns h = refl
  stripping_agrees (TermAndTheorem t th) goal turns h = refl
  stripping_agrees (Theorems ths) goal turns h = refl

  tac_agrees : (code : TacCode) (args : TacArgsValue) (goal : GoalValue) (turns : ℕ) → AgreeOn names more (tac names code args goal (starting turns)).used.tested → tac more code args goal (starting turns) ≡ tac names code args goal (starting turns)
  tac_agrees AllTac args goal turns h = refl
  tac_agrees NoTac args goal turns h = refl
  tac_agrees ReflTac args goal turns h = refl
  tac_agrees AcceptTac args goal turns h = refl
  tac_agrees ConjTac args goal turns h = refl
  tac_agrees Disj1Tac args goal turns h = refl
  tac_agrees Disj2Tac args goal turns h = refl
  tac_agrees EqTac args goal turns h = refl
  tac_agrees DischTac args goal turns h = refl
  tac_agrees GenTac args goal turns h = gen_agrees args goal turns h
  tac_agrees XGenTac args goal turns h = refl
  tac_agrees ExistsTac args goal turns h = refl
  tac_agrees SpecTac args goal turns h = refl
  tac_agrees MpTac args goal turns h = refl
  tac_agrees AssumeTac args goal turns h = refl
  tac_agrees ContrTac args goal turns h = refl
  tac_agrees ChooseTac args goal turns h = choose_agrees args goal turns h
  tac_agrees XChooseTac args goal turns h = refl
  tac_agrees DisjCasesTac args goal turns h = refl
  tac_agrees Subst1Tac args goal turns h = refl
  tac_agrees ApTermTac args goal turns h = refl
  tac_agrees ApThmTac args goal turns h = refl
  tac_agrees MkCombTac args goal turns h = refl
  tac_agrees UndischTac args goal turns h = refl
  tac_agrees StripAssumeTac args goal turns h = assumed_agrees args goal turns h
  tac_agrees StripTac args goal turns h = stripping_agrees args goal turns h
  tac_agrees MatchMpTac args goal turns h = refl
  tac_agrees BetaTac args goal turns h = refl
  tac_agrees RewriteTac args goal turns h = refl
  tac_agrees OnceRewriteTac args goal turns h = refl
  tac_agrees AsmRewriteTac args goal turns h = refl
  tac_agrees OnceAsmRewriteTac args goal turns h = refl
  tac_agrees PureRewriteTac args goal turns h = refl

  small_tested : (b : Bool) (goals : List GoalValue) (used : UsedValue) → Agrees (cond b (Stops LargeGoal used.tested) (Leaves goals used)) → AgreeOn names more used.tested
  small_tested true goals used h = h
  small_tested false goals used h = h

  answer_tested : (name : List ℕ) (result : AnswerResult) (used : UsedValue) → Agrees (answer_of name result used) → AgreeOn names more used.tested
  answer_tested name (Left goals) used h = small_tested (has_large goals) goals used h
  answer_tested name Unfit used h = h
  answer_tested name OutOfTurns used h = h
  answer_tested name TooLarge used h = h

  at_agrees : (rows : List (List ℕ × TacCode)) (index : ℕ) (name : List ℕ) (args : TacArgsValue) (goal : GoalValue) (used : UsedValue) → Agrees (run_meaning (meaning_at names rows index) name args goal used) →
      run_meaning (meaning_at more rows index) name args goal used ≡ run_meaning (meaning_at names rows index) name args goal used
  at_agrees [] index name args goal used h = refl
  at_agrees (row ∷ rows) zero name args goal used h =
      let answer : AnswerValue = tac names row.1 args goal (starting used.turns_left) in
      let tested = answer_tested name answer.result (record { turns_left = answer.used.turns_left; tested = used.tested ++ answer.used.tested }) h in
      ap (λ (a : AnswerValue). answer_of name a.result (record { turns_left = a.used.turns_left; tested = used.tested ++ a.used.tested }))
      (tac_agrees row.1 args goal used.turns_left (agree_back names more used.tested answer.used.tested tested))
  at_agrees (row ∷ rows) (suc index) name args goal used h = at_agrees rows index name args goal used h

  -- ---- rounds

  module _ (f k : GoalValue → UsedValue → RunValue) (falls : Falls f) (e : (goal : GoalValue) (l : UsedValue) → Agrees (f goal l) → k goal l ≡ f goal l) where
    repeat_agrees : (most : ℕ) (goal : GoalValue) (used : UsedValue) → Agrees (repeat f most goal used) → repeat k most goal used ≡ repeat f most goal used
    repeat_agrees zero goal used h = refl
    repeat_agrees (suc most) goal used h =
        paying_agrees (λ left. otherwise (then_on (f goal left) (each (repeat f most))) (unchanged goal)) (λ left. otherwise (then_on (k goal left) (each (repeat k most))) (unchanged goal))
        (λ l a. otherwise_agrees (then_on (f goal l) (each (repeat f most))) (then_on (k goal l) (each (repeat k most))) (unchanged goal) (unchanged goal)
        (λ b. then_agrees (f goal l) (k goal l) (each (repeat f most)) (each (repeat k most)) (e goal l) (λ g m. each_falls (repeat f most) (repeat_falls f falls most) g m)
        (λ g m c. each_agrees (repeat f most) (repeat k most) (repeat_falls f falls most) (λ x n d. repeat_agrees most x n d) g m c) b)
        (λ m. after_itself m) (λ m c. refl) a)
        used.tested used.turns_left h

    replicate_agrees : (n : ℕ) (goal : GoalValue) (used : UsedValue) → Agrees (replicate f n goal used) → replicate k n goal used ≡ replicate f n goal used
    replicate_agrees zero goal used h = refl
    replicate_agrees (suc n) goal used h =
        paying_agrees (λ left. then_on (f goal left) (each (replicate f n))) (λ left. then_on (k goal left) (each (replicate k n)))
        (λ l a. then_agrees (f goal l) (k goal l) (each (replicate f n)) (each (replicate k n)) (e goal l) (λ g m. each_falls (replicate f n) (replicate_falls f falls n) g m)
        (λ g m c. each_agrees (replicate f n) (replicate k n) (replicate_falls f falls n) (λ x j d. replicate_agrees n x j d) g m c) a)
        used.tested used.turns_left h

  many_within : (b : Bool) (x : RunValue) (why : _) (l : UsedValue) → IsWithin l x → IsWithin l (cond b x (Refuses why l))
  many_within true x why l w = w
  many_within false x why l w = after_itself l

  changed_tested : (b : Bool) (goals : List GoalValue) (why : _) (left : UsedValue) → Agrees (cond b (Refuses why left) (Leaves goals left)) → AgreeOn names more left.tested
  changed_tested true goals why left h = h
  changed_tested false goals why left h = h

  changed_begins : (goal : GoalValue) (x : RunValue) → Agrees (changed goal x) → Agrees x
  changed_begins goal (Leaves goals left) h = changed_tested (is_just goal goals) goals _ left h
  changed_begins goal (Refuses why left) h = h
  changed_begins goal (Stops why tested) h = h

  -- ---- expressions

  module _ (table : List (List ℕ × TacCode)) where
    paid_agrees : (call : CallValue) (goal : GoalValue) (used : UsedValue) → Agrees (call_paid (known table names) call goal used) → call_paid (known table more) call goal used ≡ call_paid (known table names) call goal used
    paid_agrees call goal used h = at_agrees table call.index call.name call.args goal used h

    call_agrees : (call : CallValue) (goal : GoalValue) (used : UsedValue) → Agrees (run_call (known table names) call goal used) → run_call (known table more) call goal used ≡ run_call (known table names) call goal used
    call_agrees call goal used h =
        paying_agrees (λ left. cond (are_assumed call.args goal) (call_paid (known table names) call goal left) (Refuses (LacksHyps call.name) left)) (λ left. cond (are_assumed call.args goal) (call_paid (known table more) call goal left) (Refuses (LacksHyps call.name) left))
        (λ l a. first_agrees (are_assumed call.args goal) (call_paid (known table names) call goal l) (call_paid (known table more) call goal l) (Refuses (LacksHyps call.name) l) (paid_agrees call goal l) a)
        used.tested used.turns_left h

    module _ (called : TheoremTacValue) where
      hand_agrees : (p : Nameless) (goal : GoalValue) (used : UsedValue) → Agrees (hand (known table names) called p goal used) → hand (known table more) called p goal used ≡ hand (known table names) called p goal used
      hand_agrees p goal used h =
          paying_agrees (call_paid (known table names) (handed called p) goal) (call_paid (known table more) (handed called p) goal) (λ l a. paid_agrees (handed called p) goal l a) used.tested used.turns_left h

      disch_agrees : (goal : GoalValue) (o : Option (Nameless × Nameless)) (used : UsedValue) → Agrees (disch_then (known table names) called goal o used) → disch_then (known table more) called goal o used ≡ disch_then (known table names) called goal o used
      disch_agrees goal None used h = refl
      disch_agrees goal (Some (p, q)) used h = hand_agrees p (concluding goal q) used h

      pop_agrees : (ps : List Nameless) (w : Nameless) (used : UsedValue) → Agrees (pop_assum (known table names) called ps w used) → pop_assum (known table more) called ps w used ≡ pop_assum (known table names) called ps w used
      pop_agrees [] w used h = refl
      pop_agrees (p ∷ ps) w used h = hand_agrees p (record { assumptions = ps; conclusion = w }) used h

      first_assum_agrees : (ps : List Nameless) (goal : GoalValue) (used : UsedValue) → Agrees (first_assum (known table names) called ps goal used) → first_assum (known table more) called ps goal used ≡ first_assum (known table names) called ps goal used
      first_assum_agrees [] goal used h = refl
      first_assum_agrees (p ∷ ps) goal used h =
          otherwise_agrees (hand (known table names) called p goal used) (hand (known table more) called p goal used) (first_assum (known table names) called ps goal) (first_assum (known table more) called ps goal)
          (hand_agrees p goal used) (λ l. first_assum_falls (known table names) called ps goal l) (λ l a. first_assum_agrees ps goal l a) h

      subgoal_agrees : (p : Nameless) (goal : GoalValue) (used : UsedValue) → Agrees (subgoal_then (known table names) p called goal used) → subgoal_then (known table more) p called goal used ≡ subgoal_then (known table names) p called goal used
      subgoal_agrees p goal used h =
          second_agrees (has_large (concluding goal p ∷ [])) (before_goals (concluding goal p ∷ []) (hand (known table names) called p goal used)) (before_goals (concluding goal p ∷ []) (hand (known table more) called p goal used)) (Stops LargeGoal used.tested)
          (λ a. ap (before_goals (concluding goal p ∷ [])) (hand_agrees p goal used (agrees_after (concluding goal p ∷ []) (hand (known table names) called p goal used) a))) h

    mutual
      run_agrees : (t : ExprValue) (goal : GoalValue) (used : UsedValue) → Agrees (run (known table names) t goal used) → run (known table more) t goal used ≡ run (known table names) t goal used
      run_agrees (Call call) goal used h = call_agrees call goal used h
      run_agrees (Then t u) goal used h =
          then_agrees (run (known table names) t goal used) (run (known table more) t goal used) (each (run (known table names) u)) (each (run (known table more) u)) (run_agrees t goal used)
          (λ g l. each_falls (run (known table names) u) (run_falls (known table names) u) g l) (λ g l a. each_agrees (run (known table names) u) (run (known table more) u) (run_falls (known table names) u) (λ x m b. run_agrees u x m b) g l a) h
      run_agrees (ThenL t us) goal used h =
          then_agrees (run (known table names) t goal used) (run (known table more) t goal used) (λ g l. as_many (count us) g l (run_each (known table names) us g l)) (λ g l. as_many (count us) g l (run_each (known table more) us g l)) (run_agrees t goal used)
          (λ g l. many_within (nat_eq (count us) (length g)) (run_each (known table names) us g l) _ l (parts_falls (known table names) us g l))
          (λ g l a. first_agrees (nat_eq (count us) (length g)) (run_each (known table names) us g l) (run_each (known table more) us g l) _ (parts_agree us g l) a) h
      run_agrees (OrElse t u) goal used h =
          otherwise_agrees (run (known table names) t goal used) (run (known table more) t goal used) (run (known table names) u goal) (run (known table more) u goal) (run_agrees t goal used) (λ l. run_falls (known table names) u goal l) (λ l a. run_agrees u goal l a) h
      run_agrees (Try t) goal used h =
          otherwise_agrees (run (known table names) t goal used) (run (known table more) t goal used) (unchanged goal) (unchanged goal) (run_agrees t goal used) (λ l. after_itself l) (λ l a. refl) h
      run_agrees (Repeat t) goal used h = repeat_agrees (run (known table names) t) (run (known table more) t) (run_falls (known table names) t) (λ x l a. run_agrees t x l a) used.turns_left goal used h
      run_agrees (Every ts) goal used h = every_agrees ts goal used h
      run_agrees (First ts) goal used h = firsts_agree ts goal used h
      run_agrees (Replicate n t) goal used h = replicate_agrees (run (known table names) t) (run (known table more) t) (run_falls (known table names) t) (λ x l a. run_agrees t x l a) n goal used h
      run_agrees (Changed t) goal used h = ap (changed goal) (run_agrees t goal used (changed_begins goal (run (known table names) t goal used) h))
      run_agrees (DischThen called) goal used h = disch_agrees called goal (antecedent goal.conclusion) used h
      run_agrees (PopAssum called) goal used h = pop_agrees called goal.assumptions goal.conclusion used h
      run_agrees (FirstAssum called) goal used h = first_assum_agrees called goal.assumptions goal used h
      run_agrees (SubgoalThen p called) goal used h = subgoal_agrees called p goal used h
      run_agrees (Defined t) goal used h = paying_agrees (run (known table names) t goal) (run (known table more) t goal) (λ l a. run_agrees t goal l a) used.tested used.turns_left h

      every_agrees : (ts : ExprValues) (goal : GoalValue) (used : UsedValue) → Agrees (run_every (known table names) ts goal used) → run_every (known table more) ts goal used ≡ run_every (known table names) ts goal used
      every_agrees no_exprs goal used h = refl
      every_agrees (more_exprs t ts) goal used h =
          then_agrees (run (known table names) t goal used) (run (known table more) t goal used) (each (run_every (known table names) ts)) (each (run_every (known table more) ts)) (run_agrees t goal used)
          (λ g l. each_falls (run_every (known table names) ts) (every_falls (known table names) ts) g l)
          (λ g l a. each_agrees (run_every (known table names) ts) (run_every (known table more) ts) (every_falls (known table names) ts) (λ x m b. every_agrees ts x m b) g l a) h

      firsts_agree : (ts : ExprValues) (goal : GoalValue) (used : UsedValue) → Agrees (run_first (known table names) ts goal used) → run_first (known table more) ts goal used ≡ run_first (known table names) ts goal used
      firsts_agree no_exprs goal used h = refl
      firsts_agree (more_exprs t no_exprs) goal used h = run_agrees t goal used h
      firsts_agree (more_exprs t (more_exprs u us)) goal used h =
          otherwise_agrees (run (known table names) t goal used) (run (known table more) t goal used) (run_first (known table names) (more_exprs u us) goal) (run_first (known table more) (more_exprs u us) goal) (run_agrees t goal used)
          (λ l. first_falls (known table names) (more_exprs u us) goal l) (λ l a. firsts_agree (more_exprs u us) goal l a) h

      parts_agree : (ts : ExprValues) (goals : List GoalValue) (used : UsedValue) → Agrees (run_each (known table names) ts goals used) → run_each (known table more) ts goals used ≡ run_each (known table names) ts goals used
      parts_agree no_exprs goals used h = refl
      parts_agree (more_exprs t ts) [] used h = refl
      parts_agree (more_exprs t ts) (g ∷ goals) used h =
          then_agrees (run (known table names) t g used) (run (known table more) t g used) (λ new l. before_goals new (run_each (known table names) ts goals l)) (λ new l. before_goals new (run_each (known table more) ts goals l)) (run_agrees t g used)
          (λ new l. within_before l new (run_each (known table names) ts goals l) (parts_falls (known table names) ts goals l))
          (λ new l a. ap (before_goals new) (parts_agree ts goals l (agrees_after new (run_each (known table names) ts goals l) a))) h

pub needs_tested : (table : List (List ℕ × TacCode)) (a b : List (List ℕ)) (t : ExprValue) (goal : GoalValue) (turns : ℕ) → AgreeOn a b (tested_of (run (known table a) t goal (starting turns))) →
    run (known table b) t goal (starting turns) ≡ run (known table a) t goal (starting turns)
needs_tested table a b t goal turns h = run_agrees a b table t goal (starting turns) h
