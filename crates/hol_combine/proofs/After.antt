-- Runs after runs.
use Rattle.std.specs.Prelude.{◌≡◌, List, [], ◌∷◌, ◌++◌, refl}
use Rattle.std.proofs.Common.{ap, sym, ◌∙◌, append_assoc}
use Rattle.std.proofs.lemmas.List.{append-nil}
use Rattle.hol_goal.specs.Goal.{GoalValue}
use Rattle.hol_goal.specs.Answer.{UsedValue}
use Rattle.hol_combine.specs.Runs.{RunValue, Leaves, Refuses, Stops, before_goals, then_on, otherwise, each, unchanged}

pub before_both : (a b : List GoalValue) (x : RunValue) → before_goals a (before_goals b x) ≡ before_goals (a ++ b) x
before_both a b (Leaves c n) = λ i. Leaves (sym (append_assoc a b c) i) n
before_both a b (Refuses why n) = refl
before_both a b (Stops why tested) = refl

pub before_none : (x : RunValue) → before_goals [] x ≡ x
before_none (Leaves c n) = refl
before_none (Refuses why n) = refl
before_none (Stops why tested) = refl

-- a goal list after which nothing comes
pub none_after : (x : RunValue) → then_on x (λ g l. before_goals g (Leaves [] l)) ≡ x
none_after (Leaves g l) = λ i. Leaves (append-nil g i) l
none_after (Refuses why l) = refl
none_after (Stops why tested) = refl

pub then_leaves : (x : RunValue) → then_on x (λ g l. Leaves g l) ≡ x
then_leaves (Leaves g l) = refl
then_leaves (Refuses why l) = refl
then_leaves (Stops why tested) = refl

pub then_then : (x : RunValue) (f h : List GoalValue → UsedValue → RunValue) → then_on (then_on x f) h ≡ then_on x (λ g l. then_on (f g l) h)
then_then (Leaves g l) f h = refl
then_then (Refuses why l) f h = refl
then_then (Stops why tested) f h = refl

pub then_same_on : (x : RunValue) (f h : List GoalValue → UsedValue → RunValue) → ((g : List GoalValue) (l : UsedValue) → f g l ≡ h g l) → then_on x f ≡ then_on x h
then_same_on (Leaves g l) f h e = e g l
then_same_on (Refuses why l) f h e = refl
then_same_on (Stops why tested) f h e = refl

pub before_on : (new : List GoalValue) (h : UsedValue → RunValue) (a : RunValue) → before_goals new (then_on a (λ g l. before_goals g (h l))) ≡ then_on (before_goals new a) (λ g l. before_goals g (h l))
before_on new h (Leaves g l) = before_both new g (h l)
before_on new h (Refuses why l) = refl
before_on new h (Stops why tested) = refl

pub otherwise_same : (x : RunValue) (f h : UsedValue → RunValue) → ((l : UsedValue) → f l ≡ h l) → otherwise x f ≡ otherwise x h
otherwise_same (Leaves g l) f h e = refl
otherwise_same (Refuses why l) f h e = e l
otherwise_same (Stops why tested) f h e = refl

module _ {X : Type 0} (f : X → UsedValue → RunValue) where
  pub each_append : (xs ys : List X) (used : UsedValue) → each f (xs ++ ys) used ≡ then_on (each f xs used) (λ g l. before_goals g (each f ys l))
  each_append [] ys used = sym (before_none (each f ys used))
  each_append (x ∷ xs) ys used = go (f x used) (λ left. each_append xs ys left)
    where
      go : (a : RunValue) → ((left : UsedValue) → each f (xs ++ ys) left ≡ then_on (each f xs left) (λ g l. before_goals g (each f ys l))) → then_on a (λ g l. before_goals g (each f (xs ++ ys) l)) ≡ then_on (then_on a (λ g l. before_goals g (each f xs l))) (λ g l. before_goals g (each f ys l))
      go (Leaves new left) ih = ap (before_goals new) (ih left) ∙ before_on new (each f ys) (each f xs left)
      go (Refuses why left) ih = refl
      go (Stops why tested) ih = refl

  pub each_one : (x : X) (used : UsedValue) → each f (x ∷ []) used ≡ f x used
  each_one x used = none_after (f x used)

  pub each_first : (x : X) (xs : List X) (used left : UsedValue) (new : List GoalValue) → f x used ≡ Leaves new left → each f (x ∷ xs) used ≡ before_goals new (each f xs left)
  each_first x xs used left new is = ap (λ a. then_on a (λ g l. before_goals g (each f xs l))) is

pub each_unchanged : (goals : List GoalValue) (used : UsedValue) → each unchanged goals used ≡ Leaves goals used
each_unchanged [] used = refl
each_unchanged (g ∷ goals) used = ap (before_goals (g ∷ [])) (each_unchanged goals used)
