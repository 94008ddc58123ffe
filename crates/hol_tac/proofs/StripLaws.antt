-- What stripping answers, and that its moves are valid.
use Rattle.std.specs.Prelude.{◌≡◌, ℕ, true, false, ◌||◌, List, [], ◌∷◌, ◌++◌, map, Option, Some, None, is_some, Result, Ok, Err, IfOk, refl}
use Rattle.std.specs.Option.{option_map, option_or}
use Rattle.std.specs.FinSet as set
use Rattle.std.proofs.Common.{ap, sym, ◌∙◌, subst}
use Rattle.std.proofs.lemmas.Bool.{or_parts}
use Rattle.hol_terms.specs.Named.{Named}
use Rattle.hol_terms.specs.Nameless.{Nameless, nameless, free_occurrences}
use Rattle.hol_terms.specs.Scoped.{binds}
use Rattle.hol_subst.specs.FreeName.{has_name, is_taken}
use Rattle.hol_subst.specs.Variant.{is_free_in}
use Rattle.hol_subst.specs.Hypotheses.{hyps_of}
use Rattle.hol_formulas.specs.Formula.{Abstraction, falsity, dest_conj, dest_forall, dest_imp, dest_neg}
use Rattle.hol_kernel.specs.Given.{Given, given_sequent}
use Rattle.hol_kernel.specs.Sequent.{Hyps, no_hyps}
use Rattle.hol_kernel.proofs.HypothesisLists.{hyps_total, hyps_same}
use Rattle.hol_kernel.proofs.Members.{in_union_left}
use Rattle.hol_kernel.proofs.Sets.{items_empty}
use Rattle.hol_goal.specs.Goal.{GoalValue}
use Rattle.hol_goal.specs.Answer.{UsedValue, starting, testing, answered, naming}
use Rattle.hol_goal.specs.Achieves.{assumed, AreAllowed}
use Rattle.hol_goal.specs.Arguments.{TacArgsValue, Nothing, Term, Pair, Theorem, TermAndTheorem, Theorems}
use Rattle.hol_goal.specs.declared.tac_args.TacArgs.TheVariants as args
use Rattle.hol_goal.specs.declared.tac_code.TacCode.TheVariants as code
use Rattle.hol_just.specs.Fresh.{fresh}
use Rattle.hol_just.specs.Leaving.{concluding, assuming, goal_terms, theorem_terms, with_nothing}
use Rattle.hol_just.specs.ConnectiveTacs.{conj_tac}
use Rattle.hol_just.specs.QuantifierTacs.{of_fresh, gen_tac}
use Rattle.hol_just.specs.Strip.{avoiding, WaitingValue, waiting, Stripped, Leaves, RunsOut, strip, antecedent, strip_tac, stripped}
use Rattle.hol_just.specs.Valid.{IsValid}
use Rattle.hol_just.specs.Justifies.{always, holds_given, LeavesAssuming}
use Rattle.hol_just.specs.Answering.{IsAnswered, AnswersCode, IsJustified}
use Rattle.hol_just.specs.declared.reason.Move.{Move}
use Rattle.hol_just.specs.declared.tried.Step.{Step}
use Rattle.hol_just.specs.declared.tried.Tried.{Tried}
use Rattle.hol_just.specs.declared.tried.TacFault.{TacFault}
use Rattle.hol_just.specs.declared.tried.TacFault.TheVariants.{Refused, TurnLimit, TooLarge, Memory}
use Rattle.hol_just.proofs.QuantifierRules.{allowed_fresh}
use Rattle.hol_steps.specs.Fresh.{AreAlike, AreApart}
use Rattle.hol_steps.specs.Parts.{with_pieces}
use Rattle.hol_steps.specs.Stripping.{IsStripped, KeepsValid}
use Rattle.hol_tac.proofs.Justified.{by_nothing}
use Rattle.hol_steps.proofs.TermsBy.{collected, taken_in_hyps}

-- ---- the answer

answers_by : (s : Stripped) (used : UsedValue) (r : Result Tried TacFault) → IsStripped s r → IsAnswered (stripped (Some s) used) r
answers_by s used (Ok tried) h = subst (λ (t : Stripped). IsAnswered (stripped (Some t) used) (Ok tried)) (sym h) (refl, (refl, refl))
answers_by s used (Err (Refused left tested)) h = absurd h
answers_by s used (Err (TurnLimit tested)) h = subst (λ (t : Stripped). IsAnswered (stripped (Some t) used) (Err (TurnLimit tested))) (sym h) (refl, refl)
answers_by s used (Err (TooLarge tested)) h = absurd h
answers_by (Leaves goals left) used (Err Memory) h = tt
answers_by (RunsOut tested) used (Err Memory) h = tt

pub assumes : (th : Given) (goal : GoalValue) (names : List (List ℕ)) (turns : ℕ) (r : Result Tried TacFault) → IsStripped (strip (avoiding (theorem_terms th) names) (waiting ((given_sequent th).concl ∷ []) goal) (starting turns)) r → AnswersCode code.StripAssumeTac (Theorem th) goal names turns r
assumes th goal names turns r h = answers_by (strip (avoiding (theorem_terms th) names) (waiting ((given_sequent th).concl ∷ []) goal) (starting turns)) (starting turns) r h

module _ (goal : GoalValue) (names : List (List ℕ)) (turns : ℕ) (r : Result Tried TacFault) where
  -- what is done, by what the three find
  abbrev whole : Option (List GoalValue × List (List ℕ)) → Option (List GoalValue) → Option (Nameless × Nameless) → Option Stripped
  whole f gs o =
      option_or (option_map (λ p. Leaves p.0 (testing p.1 (starting turns))) f)
      (option_or (option_map (λ goals. Leaves goals (starting turns)) gs) (option_map (λ a. strip (avoiding [] names) (waiting (a.0 ∷ []) (concluding goal a.1)) (starting turns)) o))

  abbrev freed_by : Option Abstraction → Option (List GoalValue × List (List ℕ))
  freed_by o = option_map (λ x. of_fresh goal x (fresh names (goal_terms goal) x.base)) o

  abbrev split_by_conj : Option (Nameless × Nameless) → Option (List GoalValue)
  split_by_conj o = option_map (λ p. concluding goal p.0 ∷ concluding goal p.1 ∷ []) o

  by_freed : (args : TacArgsValue) (f : List GoalValue × List (List ℕ)) → gen_tac names goal ≡ Some f → IsAnswered (naming (with_nothing args (gen_tac names goal)) (starting turns)) r → AnswersCode code.StripTac args goal names turns r
  by_freed Nothing f is h =
      subst (λ (p : Option (List GoalValue × List (List ℕ))). IsAnswered (stripped (whole p (conj_tac goal) (antecedent goal.conclusion)) (starting turns)) r) (sym is)
      (subst (λ (p : Option (List GoalValue × List (List ℕ))). IsAnswered (naming p (starting turns)) r) is h)
  by_freed (Term t) f is h = h
  by_freed (Pair s t) f is h = h
  by_freed (Theorem th) f is h = h
  by_freed (TermAndTheorem t th) f is h = h
  by_freed (Theorems ths) f is h = h

  by_split : (args : TacArgsValue) (goals : List GoalValue) → gen_tac names goal ≡ None → conj_tac goal ≡ Some goals → IsAnswered (answered (with_nothing args (conj_tac goal)) (starting turns)) r → AnswersCode code.StripTac args goal names turns r
  by_split Nothing goals none is h =
      subst (λ (p : Option (List GoalValue × List (List ℕ))). IsAnswered (stripped (whole p (conj_tac goal) (antecedent goal.conclusion)) (starting turns)) r) (sym none)
      (subst (λ (p : Option (List GoalValue)). IsAnswered (stripped (whole None p (antecedent goal.conclusion)) (starting turns)) r) (sym is)
      (subst (λ (p : Option (List GoalValue)). IsAnswered (answered p (starting turns)) r) is h))
  by_split (Term t) goals none is h = h
  by_split (Pair s t) goals none is h = h
  by_split (Theorem th) goals none is h = h
  by_split (TermAndTheorem t th) goals none is h = h
  by_split (Theorems ths) goals none is h = h

  pub generalizes : (args : TacArgsValue) (x : Abstraction) → dest_forall goal.conclusion ≡ Some x → AnswersCode code.GenTac args goal names turns r → AnswersCode code.StripTac args goal names turns r
  generalizes args x is h = by_freed args (of_fresh goal x (fresh names (goal_terms goal) x.base)) (ap freed_by is) h

  pub splits : (args : TacArgsValue) (p : Nameless × Nameless) → dest_forall goal.conclusion ≡ None → dest_conj goal.conclusion ≡ Some p → AnswersCode code.ConjTac args goal names turns r → AnswersCode code.StripTac args goal names turns r
  splits args p none is h = by_split args (concluding goal p.0 ∷ concluding goal p.1 ∷ []) (ap freed_by none) (ap split_by_conj is) h

  -- where neither fits
  module _ (none : dest_forall goal.conclusion ≡ None) (neither : dest_conj goal.conclusion ≡ None) where
    rest : (o : Option (Nameless × Nameless)) → antecedent goal.conclusion ≡ o → strip_tac names goal (starting turns) ≡ option_map (λ a. strip (avoiding [] names) (waiting (a.0 ∷ []) (concluding goal a.1)) (starting turns)) o
    rest o is = λ i. whole (freed_by (none i)) (split_by_conj (neither i)) (is i)

    by_antecedent : (p q : Nameless) → antecedent goal.conclusion ≡ Some (p, q) → IsStripped (strip (avoiding [] names) (waiting (p ∷ []) (concluding goal q)) (starting turns)) r → AnswersCode code.StripTac Nothing goal names turns r
    by_antecedent p q is h =
        subst (λ (o : Option Stripped). IsAnswered (stripped o (starting turns)) r) (sym (rest (Some (p, q)) is))
        (answers_by (strip (avoiding [] names) (waiting (p ∷ []) (concluding goal q)) (starting turns)) (starting turns) r h)

    pub strips_imp : (p q : Nameless) → dest_imp goal.conclusion ≡ Some (p, q) → IsStripped (strip (avoiding [] names) (waiting (p ∷ []) (concluding goal q)) (starting turns)) r → AnswersCode code.StripTac Nothing goal names turns r
    strips_imp p q is h = by_antecedent p q (ap (λ o. option_or o (option_map (λ d. (d, falsity)) (dest_neg goal.conclusion))) is) h

    pub strips_neg : (p : Nameless) → dest_imp goal.conclusion ≡ None → dest_neg goal.conclusion ≡ Some p → IsStripped (strip (avoiding [] names) (waiting (p ∷ []) (concluding goal falsity)) (starting turns)) r → AnswersCode code.StripTac Nothing goal names turns r
    strips_neg p nor is h = by_antecedent p falsity (λ i. option_or (nor i) (option_map (λ d. (d, falsity)) (is i))) h

    pub strips_nothing : dest_imp goal.conclusion ≡ None → dest_neg goal.conclusion ≡ None → IsAnswered (answered None (starting turns)) r → AnswersCode code.StripTac Nothing goal names turns r
    strips_nothing nor not is = subst (λ (o : Option Stripped). IsAnswered (stripped o (starting turns)) r) (sym (rest None (λ i. option_or (nor i) (option_map (λ d. (d, falsity)) (not i))))) is

-- ---- extra hypotheses

pub apart_of : (th : Given) (extra : Hyps) → set.is_subset extra (given_sequent th).hyps ≡ true → AreApart (theorem_terms th) extra
apart_of th extra among v h =
    let hs = (given_sequent th).hyps in
    let parts = or_parts (binds (free_occurrences (given_sequent th).concl) v) (is_free_in (set.items hs) v) h in
    let within : AreAllowed hs [] extra = λ p k. in_union_left hyps_total hyps_same hs (assumed []) p (set.is_subset-contains hyps_total extra hs among p k) in
    allowed_fresh hs [] extra v parts.1 refl within

pub none_apart : (names : List Nameless) → AreApart names no_hyps
none_apart names v h = ap (λ (ns : List Nameless). is_free_in ns v) (items_empty hyps_total)

pub theorem_alike :
    (th : Given) (first pushed all hyps : List Named) (c : Named) → first ≡ [] → pushed ≡ first ++ (c ∷ []) → all ≡ pushed ++ hyps → nameless [] c ≡ (given_sequent th).concl → hyps_of hyps ≡ (given_sequent th).hyps →
    AreAlike (map (nameless []) all) (theorem_terms th)
theorem_alike th first pushed all hyps c none push copies is are a =
    ap (λ ns. is_taken ns a) (collected first pushed all hyps c [] (given_sequent th).concl (ap (map (nameless [])) none) push copies is)
    ∙ ap (λ b. has_name a (given_sequent th).concl || b) (sym (taken_in_hyps (given_sequent th).hyps hyps a are))

-- ---- the justification

pub each_ok : {X E : Type 0} (r : Result X E) (P Q : X → Type 0) → ((x : X) → P x → Q x) → IfOk r P → IfOk r Q
each_ok (Ok x) P Q f h = f x h
each_ok (Err e) P Q f h = h

pub theorem_valid :
    (th : Given) (goal : GoalValue) (names : List (List ℕ)) (before : List Move) (w : WaitingValue) (step : Step) → w ≡ waiting ((given_sequent th).concl ∷ []) goal → LeavesAssuming th before → KeepsValid (avoiding (theorem_terms th) names) before w step →
    IsJustified (Theorem th) goal step
theorem_valid th goal names before w step is leaves keeps extra over =
    keeps (holds_given th) extra (goal ∷ []) (apart_of th extra over.among)
    (subst (λ (v : WaitingValue). IsValid (holds_given th) extra before (goal ∷ []) (with_pieces v ∷ [])) (sym is) (leaves extra goal.assumptions goal.conclusion over.all))

pub antecedent_valid :
    (goal : GoalValue) (names : List (List ℕ)) (before : List Move) (w : WaitingValue) (step : Step) (p q : Nameless) → w ≡ waiting (p ∷ []) (concluding goal q) → IsValid always no_hyps before (goal ∷ []) (assuming goal p q ∷ []) →
    KeepsValid (avoiding [] names) before w step → IsJustified Nothing goal step
antecedent_valid goal names before w step p q is valid keeps =
    by_nothing goal step step.just step.goals.items refl refl args.Nothing refl
    (keeps always no_hyps (goal ∷ []) (none_apart []) (subst (λ (v : WaitingValue). IsValid always no_hyps before (goal ∷ []) (with_pieces v ∷ [])) (sym is) valid))

-- ---- whether there is one

pub found : {X : Type 0} (o : Option X) → true ≡ is_some o → (x : X) × (o ≡ Some x)
found (Some x) h = (x, refl)
found None h = absurd cc

pub not_found : {X : Type 0} (o : Option X) → false ≡ is_some o → o ≡ None
not_found (Some x) h = absurd cc
not_found None h = refl
