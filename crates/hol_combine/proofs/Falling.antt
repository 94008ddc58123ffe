-- Turns never grow, and no tested name is forgotten.
use Rattle.std.specs.Prelude.{◌≡◌, ◌≤◌, ℕ, zero, suc, List, [], ◌∷◌, ◌++◌, refl}
use Rattle.std.proofs.Common.{ap, sym, ◌∙◌, arith}
use Rattle.hol_goal.specs.Goal.{GoalValue}
use Rattle.hol_goal.specs.Answer.{UsedValue}
use Rattle.hol_goal.proofs.Testing.{Extends, extends_itself, extends_both}
use Rattle.hol_combine.specs.Runs.{RunValue, Leaves, Refuses, Stops, TurnLimit, before_goals, then_on, otherwise, each, unchanged, paying_from, paying, repeat, repeated}
use Rattle.hol_combine.proofs.After.{each_append, each_first}
use Rattle.hol_combine.proofs.Paying.{IsPaid, pays_for, pays_not}

-- what may still be used after that: no more turns, and the names that were tested before first
pub record IsAfter (used left : UsedValue) : Type 0 where
  pub turns : left.turns_left ≤ used.turns_left
  pub tested : Extends used.tested left.tested

pub after_itself : (used : UsedValue) → IsAfter used used
after_itself used = record { turns = omega arith; tested = extends_itself used.tested }

pub after_both : (a b c : UsedValue) → IsAfter a b → IsAfter b c → IsAfter a c
after_both a b c h k = record { turns = (let m = h.turns in let n = k.turns in omega (arith, m, n)); tested = extends_both a.tested b.tested c.tested h.tested k.tested }

abbrev pub one_less : List (List ℕ) → ℕ → UsedValue
one_less tested turns = record { turns_left = turns; tested = tested }

pub after_paid : (tested : List (List ℕ)) (turns : ℕ) → IsAfter (one_less tested (suc turns)) (one_less tested turns)
after_paid tested turns = record { turns = omega arith; tested = extends_itself tested }

abbrev pub IsWithin : UsedValue → RunValue → Type 0
IsWithin used (Leaves goals left) = IsAfter used left
IsWithin used (Refuses why left) = IsAfter used left
IsWithin used (Stops why tested) = Extends used.tested tested

abbrev pub Falls : {X : Type 0} → (X → UsedValue → RunValue) → Type 0
Falls {X} f = (x : X) (used : UsedValue) → IsWithin used (f x used)

pub within_more : (m n : UsedValue) (a : RunValue) → IsAfter n m → IsWithin m a → IsWithin n a
within_more m n (Leaves goals left) h w = after_both n m left h w
within_more m n (Refuses why left) h w = after_both n m left h w
within_more m n (Stops why tested) h w = extends_both n.tested m.tested tested h.tested w

pub within_before : (n : UsedValue) (goals : List GoalValue) (a : RunValue) → IsWithin n a → IsWithin n (before_goals goals a)
within_before n goals (Leaves more left) w = w
within_before n goals (Refuses why left) w = w
within_before n goals (Stops why tested) w = w

pub within_then : (n : UsedValue) (a : RunValue) (next : List GoalValue → UsedValue → RunValue) → IsWithin n a → ((g : List GoalValue) (l : UsedValue) → IsWithin l (next g l)) → IsWithin n (then_on a next)
within_then n (Leaves goals left) next w h = within_more left n (next goals left) w (h goals left)
within_then n (Refuses why left) next w h = w
within_then n (Stops why tested) next w h = w

pub within_otherwise : (n : UsedValue) (a : RunValue) (next : UsedValue → RunValue) → IsWithin n a → ((l : UsedValue) → IsWithin l (next l)) → IsWithin n (otherwise a next)
within_otherwise n (Leaves goals left) next w h = w
within_otherwise n (Refuses why left) next w h = within_more left n (next left) w (h left)
within_otherwise n (Stops why tested) next w h = w

within_paying_from : (next : UsedValue → RunValue) (tested : List (List ℕ)) (turns : ℕ) → ((l : UsedValue) → IsWithin l (next l)) → IsWithin (one_less tested turns) (paying_from next tested turns)
within_paying_from next tested zero h = extends_itself tested
within_paying_from next tested (suc turns) h = within_more (one_less tested turns) (one_less tested (suc turns)) (next (one_less tested turns)) (after_paid tested turns) (h (one_less tested turns))

pub within_paying : (next : UsedValue → RunValue) (used : UsedValue) → ((l : UsedValue) → IsWithin l (next l)) → IsWithin used (paying next used)
within_paying next used h = within_paying_from next used.tested used.turns_left h

pub each_falls : {X : Type 0} (f : X → UsedValue → RunValue) → Falls f → (xs : List X) (used : UsedValue) → IsWithin used (each f xs used)
each_falls f falls [] used = after_itself used
each_falls f falls (x ∷ xs) used = within_then used (f x used) (λ g l. before_goals g (each f xs l)) (falls x used) (λ g l. within_before l g (each f xs l) (each_falls f falls xs l))

module _ (f : GoalValue → UsedValue → RunValue) (falls : Falls f) where
  pub repeat_falls : (most : ℕ) (goal : GoalValue) (used : UsedValue) → IsWithin used (repeat f most goal used)
  repeat_falls zero goal used = extends_itself used.tested
  repeat_falls (suc most) goal used =
      within_paying (λ left. otherwise (then_on (f goal left) (each (repeat f most))) (unchanged goal)) used
      (λ u. within_otherwise u (then_on (f goal u) (each (repeat f most))) (unchanged goal) (within_then u (f goal u) (each (repeat f most)) (falls goal u) (λ g l. each_falls (repeat f most) (repeat_falls most) g l)) (λ l. after_itself l))

-- ---- runs that agree up to so many turns

pub then_same : (n : ℕ) (used : UsedValue) (a : RunValue) (f h : List GoalValue → UsedValue → RunValue) → used.turns_left ≤ n → IsWithin used a → ((g : List GoalValue) (l : UsedValue) → l.turns_left ≤ n → f g l ≡ h g l) → then_on a f ≡ then_on a h
then_same n used (Leaves g l) f h le w e = e g l (let t = w.turns in omega (arith, le, t))
then_same n used (Refuses why l) f h le w e = refl
then_same n used (Stops why tested) f h le w e = refl

pub each_same : {X : Type 0} (f h : X → UsedValue → RunValue) → Falls f → (n : ℕ) → ((x : X) (l : UsedValue) → l.turns_left ≤ n → f x l ≡ h x l) → (xs : List X) (used : UsedValue) → used.turns_left ≤ n → each f xs used ≡ each h xs used
each_same f h falls n e [] used le = refl
each_same f h falls n e (x ∷ xs) used le =
    then_same n used (f x used) (λ g l. before_goals g (each f xs l)) (λ g l. before_goals g (each h xs l)) le (falls x used)
    (λ g l m. ap (before_goals g) (each_same f h falls n e xs l m))
    ∙ ap (λ a. then_on a (λ g l. before_goals g (each h xs l))) (e x used le)

-- ---- REPEAT

paying_same : (n : ℕ) (f h : UsedValue → RunValue) (tested : List (List ℕ)) (turns : ℕ) → turns ≤ suc n → ((l : UsedValue) → l.turns_left ≤ n → f l ≡ h l) → paying_from f tested turns ≡ paying_from h tested turns
paying_same n f h tested zero le e = refl
paying_same n f h tested (suc turns) le e = e (one_less tested turns) (omega (arith, le))

module _ (f : GoalValue → UsedValue → RunValue) (falls : Falls f) where
  -- one round more or less
  round_same : (n : ℕ) (g h : GoalValue → UsedValue → RunValue) → Falls g → ((x : GoalValue) (l : UsedValue) → l.turns_left ≤ n → g x l ≡ h x l) → (goal : GoalValue) (used : UsedValue) → used.turns_left ≤ suc n →
      paying (λ left. otherwise (then_on (f goal left) (each g)) (unchanged goal)) used ≡ paying (λ left. otherwise (then_on (f goal left) (each h)) (unchanged goal)) used
  round_same n g h g_falls e goal used le =
      paying_same n (λ left. otherwise (then_on (f goal left) (each g)) (unchanged goal)) (λ left. otherwise (then_on (f goal left) (each h)) (unchanged goal)) used.tested used.turns_left le
      (λ l m. ap (λ x. otherwise x (unchanged goal)) (then_same n l (f goal l) (each g) (each h) m (falls goal l) (λ gs k few. each_same g h g_falls n e gs k few)))

  -- where no turn is left
  rounds_out : (a : ℕ) (goal : GoalValue) (used : UsedValue) → used.turns_left ≡ 0 → repeat f a goal used ≡ Stops TurnLimit used.tested
  rounds_out zero goal used none = refl
  rounds_out (suc a) goal used none = pays_not used (λ left. otherwise (then_on (f goal left) (each (repeat f a))) (unchanged goal)) none

  -- more rounds than turns change nothing
  pub repeat_rounds : (n a b : ℕ) (goal : GoalValue) (used : UsedValue) → n ≤ a → n ≤ b → used.turns_left ≤ n → repeat f a goal used ≡ repeat f b goal used
  repeat_rounds zero a b goal used h k le = let none : used.turns_left ≡ 0 = omega (arith, le) in rounds_out a goal used none ∙ sym (rounds_out b goal used none)
  repeat_rounds (suc n) zero b goal used h k le = absurd (omega (arith, h))
  repeat_rounds (suc n) (suc a) zero goal used h k le = absurd (omega (arith, k))
  repeat_rounds (suc n) (suc a) (suc b) goal used h k le =
      round_same n (repeat f a) (repeat f b) (repeat_falls f falls a) (λ x l few. repeat_rounds n a b x l (omega (arith, h)) (omega (arith, k)) few) goal used le

  -- REPEAT pays, and then does it and repeats, or leaves the goal unchanged.
  pub repeat_law : (goal : GoalValue) (used : UsedValue) → repeated f goal used ≡ paying (λ left. otherwise (then_on (f goal left) (each (repeated f))) (unchanged goal)) used
  repeat_law goal used = by used.turns_left refl
    where
      by : (n : ℕ) → used.turns_left ≡ n → repeat f n goal used ≡ paying (λ left. otherwise (then_on (f goal left) (each (repeated f))) (unchanged goal)) used
      by zero is = sym (pays_not used (λ left. otherwise (then_on (f goal left) (each (repeated f))) (unchanged goal)) is)
      by (suc n) is =
          round_same n (repeat f n) (repeated f) (repeat_falls f falls n) (λ x l few. repeat_rounds l.turns_left n l.turns_left x l few (omega arith) (omega arith)) goal used (omega (arith, is))

  pub repeated_falls : (goal : GoalValue) (used : UsedValue) → IsWithin used (repeated f goal used)
  repeated_falls goal used = repeat_falls f falls used.turns_left goal used

-- what is never refused
abbrev GoesThrough : RunValue → Type 0
GoesThrough (Leaves goals left) = Unit {0}
GoesThrough (Refuses why left) = ⊥
GoesThrough (Stops why tested) = Unit {0}

kept_through : (a : RunValue) (next : UsedValue → RunValue) → GoesThrough a → otherwise a next ≡ a
kept_through (Leaves goals left) next t = refl
kept_through (Refuses why left) next t = absurd t
kept_through (Stops why tested) next t = refl

unchanged_through : (a : RunValue) (goal : GoalValue) → GoesThrough (otherwise a (unchanged goal))
unchanged_through (Leaves goals left) goal = tt
unchanged_through (Refuses why left) goal = tt
unchanged_through (Stops why tested) goal = tt

paying_through : (next : UsedValue → RunValue) (tested : List (List ℕ)) (turns : ℕ) → ((l : UsedValue) → GoesThrough (next l)) → GoesThrough (paying_from next tested turns)
paying_through next tested zero h = tt
paying_through next tested (suc turns) h = h (one_less tested turns)

repeat_through : (f : GoalValue → UsedValue → RunValue) (most : ℕ) (goal : GoalValue) (used : UsedValue) → GoesThrough (repeat f most goal used)
repeat_through f zero goal used = tt
repeat_through f (suc most) goal used =
    paying_through (λ left. otherwise (then_on (f goal left) (each (repeat f most))) (unchanged goal)) used.tested used.turns_left (λ l. unchanged_through (then_on (f goal l) (each (repeat f most))) goal)

before_through : (goals : List GoalValue) (a : RunValue) → GoesThrough a → GoesThrough (before_goals goals a)
before_through goals (Leaves more left) t = tt
before_through goals (Refuses why left) t = t
before_through goals (Stops why tested) t = tt

each_through : (f : GoalValue → UsedValue → RunValue) → ((goal : GoalValue) (used : UsedValue) → GoesThrough (f goal used)) → (goals : List GoalValue) (used : UsedValue) → GoesThrough (each f goals used)
each_through f through [] used = tt
each_through f through (g ∷ goals) used = go (f g used) (through g used) (λ l. each_through f through goals l)
  where
    go : (a : RunValue) → GoesThrough a → ((l : UsedValue) → GoesThrough (each f goals l)) → GoesThrough (then_on a (λ new l. before_goals new (each f goals l)))
    go (Leaves new l) t h = before_through new (each f goals l) (h l)
    go (Refuses why l) t h = t
    go (Stops why tested) t h = tt

-- ---- rounds of REPEAT, on the first of the goals that wait

module _ (f : GoalValue → UsedValue → RunValue) (falls : Falls f) (goal : GoalValue) (rest : List GoalValue) (used : UsedValue) where
  round_paid : (paid : UsedValue) → IsPaid used paid → repeated f goal used ≡ otherwise (then_on (f goal paid) (each (repeated f))) (unchanged goal)
  round_paid paid pays = repeat_law f falls goal used ∙ pays_for used paid (λ left. otherwise (then_on (f goal left) (each (repeated f))) (unchanged goal)) pays

  pub round_left : (paid left : UsedValue) (new : List GoalValue) → IsPaid used paid → f goal paid ≡ Leaves new left → each (repeated f) (goal ∷ rest) used ≡ each (repeated f) (new ++ rest) left
  round_left paid left new pays is =
      ap (λ a. then_on a (λ g l. before_goals g (each (repeated f) rest l)))
      (round_paid paid pays
      ∙ ap (λ a. otherwise (then_on a (each (repeated f))) (unchanged goal)) is
      ∙ kept_through (each (repeated f) new left) (unchanged goal) (each_through (repeated f) (λ g l. repeat_through f l.turns_left g l) new left))
      ∙ sym (each_append (repeated f) new rest left)

  pub round_kept : (paid left : UsedValue) (why : _) → IsPaid used paid → f goal paid ≡ Refuses why left → each (repeated f) (goal ∷ rest) used ≡ before_goals (goal ∷ []) (each (repeated f) rest left)
  round_kept paid left why pays is =
      each_first (repeated f) goal rest used left (goal ∷ []) (round_paid paid pays ∙ ap (λ a. otherwise (then_on a (each (repeated f))) (unchanged goal)) is)

  pub round_stops : (paid : UsedValue) (why : _) (tested : List (List ℕ)) → IsPaid used paid → f goal paid ≡ Stops why tested → each (repeated f) (goal ∷ rest) used ≡ Stops why tested
  round_stops paid why tested pays is =
      ap (λ a. then_on a (λ g l. before_goals g (each (repeated f) rest l))) (round_paid paid pays ∙ ap (λ a. otherwise (then_on a (each (repeated f))) (unchanged goal)) is)

  pub round_out : used.turns_left ≡ 0 → each (repeated f) (goal ∷ rest) used ≡ Stops TurnLimit used.tested
  round_out none =
      ap (λ a. then_on a (λ g l. before_goals g (each (repeated f) rest l)))
      (repeat_law f falls goal used ∙ pays_not used (λ left. otherwise (then_on (f goal left) (each (repeated f))) (unchanged goal)) none)
