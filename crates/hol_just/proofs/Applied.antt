-- Rules applied after a cut.
use Rattle.std.specs.Prelude.{◌≡◌, List, [], ◌∷◌, Option, Some, None, refl}
use Rattle.std.specs.Option.{option_map}
use Rattle.std.specs.Prelude.{Result, Ok, Err, OnOk, IfOk, IsSome, is_some}
use Rattle.std.proofs.Common.{ap, sym, ◌∙◌, subst}
use mathlib.Core.Bool.{true≢false}
use Rattle.hol_kernel.specs.Gives.{Failure, by_rule, of_memory, otherwise, FailsBy, Gives}
use Rattle.hol_just.specs.Made.{IsMade}
use Rattle.hol_kernel.specs.Items.{Items}
use Rattle.hol_kernel.specs.Sequent.{Sequent}
use Rattle.hol_kernel.specs.Theorem.{Theorem, theorem_on, over}
use Rattle.hol_just.specs.Inference.{from_one, from_two, from_three, inferred}
use Rattle.hol_just.specs.Over.{CutValue, IsFirst, IsTaken, Infers}

-- the sequent of a theorem that a rule gave
put_given : (s : Option Sequent) (basis : Items) (th : Theorem) (rest : List Sequent) → over basis s ≡ Some th → option_map (λ r. r ∷ rest) s ≡ Some (th.sequent ∷ rest)
put_given (Some s) basis th rest e = let h : theorem_on basis s ≡ th = cc in λ i. Some ((h i).sequent ∷ rest)
put_given None basis th rest e = absurd cc

-- a rule that asks nothing of it
pub second_taken :
    (rule : Sequent → Option Sequent) (basis : Items) (old last new : CutValue) (a th : Theorem) → IsFirst old last a → over basis (rule a.sequent) ≡ Some th →
    new ≡ record last { after = th.sequent ∷ last.after } → Infers (from_one rule) old new
second_taken rule basis old last new a th p given put =
    record {
      basis = ap (λ (c : CutValue). c.basis) put ∙ p.basis;
      before = ap (λ (c : CutValue). c.before) put ∙ p.before;
      after = ap (inferred (from_one rule)) p.after ∙ put_given (rule a.sequent) basis th last.after given ∙ ap (λ (c : CutValue). Some c.after) (sym put);
    }

-- a rule that asks something of the basis
pub from_one_taken :
    (rule : Items → Sequent → Option Sequent) (old last new : CutValue) (a th : Theorem) → IsFirst old last a → over a.basis (rule a.basis a.sequent) ≡ Some th →
    new ≡ record last { after = th.sequent ∷ last.after } → Infers (from_one (rule old.basis)) old new
from_one_taken rule old last new a th p given put =
    record {
      basis = ap (λ (c : CutValue). c.basis) put ∙ p.basis;
      before = ap (λ (c : CutValue). c.before) put ∙ p.before;
      after =
          ap (inferred (from_one (rule old.basis))) p.after
          ∙ put_given (rule old.basis a.sequent) a.basis th last.after (subst (λ (b : Items). over a.basis (rule b a.sequent) ≡ Some th) p.over given)
          ∙ ap (λ (c : CutValue). Some c.after) (sym put);
    }

-- ---- what calls say

-- the theorem after the cut
pub is_first : (old new : CutValue) (r : Option Theorem) (a : Theorem) → IsTaken old new r → r ≡ Some a → IsFirst old new a
is_first old new r a taken is = subst (IsTaken old new) is taken

-- what a rule gave
pub gave : {R E : Type 0} (reads : E → Failure R) (rule : R) (expected : Option Theorem) (answer : Result Theorem E) (th : Theorem) → Gives reads rule expected answer → answer ≡ Ok th → expected ≡ Some th
gave reads rule expected answer th gives is = subst (Gives reads rule expected) is gives

pub where_ok : {X E P Q : Type 0} (r : Result X E) → (P → Q) → OnOk r P → OnOk r Q
where_ok (Ok x) f h = f h
where_ok (Err e) f h = h

-- what is made is as it should be, by what it is made of
pub made_as : {X Y E : Type 0} (r : Result X E) (P : X → Type 0) (make : Y → X) (given kept : Y) → P (make given) → kept ≡ given → IfOk r (λ x. x ≡ make kept) → IfOk r P
made_as (Ok x) P make given kept p same h = subst P (sym (h ∙ ap make same)) p
made_as (Err e) P make given kept p same h = h

pub made_pair :
    {X Y Z E : Type 0} (r : Result X E) (P : X → Type 0) (make : Y → Z → X) (given kept : Y) (other other_kept : Z) → P (make given other) → kept ≡ given → other_kept ≡ other →
    IfOk r (λ x. x ≡ make kept other_kept) → IfOk r P
made_pair (Ok x) P make given kept other other_kept p same also h = subst P (sym (h ∙ (λ i. make (same i) (also i)))) p
made_pair (Err e) P make given kept other other_kept p same also h = h

pub made_three :
    {W X Y Z E : Type 0} (r : Result W E) (P : W → Type 0) (make : X → Y → Z → W) (given kept : X) (other other_kept : Y) (third third_kept : Z) → P (make given other third) → kept ≡ given → other_kept ≡ other →
    third_kept ≡ third → IfOk r (λ x. x ≡ make kept other_kept third_kept) → IfOk r P
made_three (Ok x) P make given kept other other_kept third third_kept p same also too h = subst P (sym (h ∙ (λ i. make (same i) (also i) (too i)))) p
made_three (Err e) P make given kept other other_kept third third_kept p same also too h = h

pub made_plain : {X E : Type 0} (r : Result X E) (P : X → Type 0) (made : X) → P made → IfOk r (λ x. x ≡ made) → IfOk r P
made_plain (Ok x) P made p h = subst P (sym h) p
made_plain (Err e) P made p h = h

-- ---- rules that apply

-- what is not refused is made, or memory is short
pub made_or_short : {R T E : Type 0} (reads : E → Failure R) (rule : R) (expected : Option T) (answer : Result T E) → IsSome expected → Gives reads rule expected answer → IsMade reads answer
made_or_short reads rule expected (Ok t) some gives = tt
made_or_short {R} reads rule expected (Err e) some gives = by (reads e) refl gives
  where
    by : (f : Failure R) → reads e ≡ f → FailsBy rule (expected ≡ None) f → reads e ≡ of_memory
    by (by_rule r) is h = absurd (true≢false (sym some ∙ ap is_some h.1))
    by of_memory is h = is
    by otherwise is h = absurd h

pub some_mapped : {X Y : Type 0} (f : X → Y) (o : Option X) → IsSome (option_map f o) → IsSome o
some_mapped f (Some x) h = refl
some_mapped f None h = h

mapped_some : {X Y : Type 0} (f : X → Y) (o : Option X) → IsSome o → IsSome (option_map f o)
mapped_some f (Some x) h = refl
mapped_some f None h = h

pub one_applies :
    (rule : Items → Sequent → Option Sequent) (old last : CutValue) (a : Theorem) → IsFirst old last a → IsSome (inferred (from_one (rule old.basis)) old.after) → IsSome (over a.basis (rule a.basis a.sequent))
one_applies rule old last a p some =
    mapped_some (theorem_on a.basis) (rule a.basis a.sequent)
    (subst (λ (b : Items). IsSome (rule b a.sequent)) (sym p.over)
    (some_mapped (λ r. r ∷ last.after) (rule old.basis a.sequent) (subst (λ (ss : List Sequent). IsSome (inferred (from_one (rule old.basis)) ss)) p.after some)))

pub second_applies :
    (rule : Sequent → Option Sequent) (basis : Items) (old last : CutValue) (a : Theorem) → IsFirst old last a → IsSome (inferred (from_one rule) old.after) → IsSome (over basis (rule a.sequent))
second_applies rule basis old last a p some =
    mapped_some (theorem_on basis) (rule a.sequent) (some_mapped (λ r. r ∷ last.after) (rule a.sequent) (subst (λ (ss : List Sequent). IsSome (inferred (from_one rule) ss)) p.after some))

-- ---- rules of two theorems, the first of which was taken

first_given : (rule : Sequent → Sequent → Option Sequent) (s : Sequent) (rest : List Sequent) → inferred (from_two rule) (s ∷ rest) ≡ inferred (from_one (rule s)) rest
first_given rule s [] = refl
first_given rule s (b ∷ rest) = refl

module _ (rule : Sequent → Sequent → Option Sequent) (old mid : CutValue) (a : Theorem) (p : IsFirst old mid a) where
  pub first_over : a.basis ≡ mid.basis
  first_over = p.over ∙ sym p.basis

  pub first_applies : IsSome (inferred (from_two rule) old.after) → IsSome (inferred (from_one (rule a.sequent)) mid.after)
  first_applies some = subst (λ (o : Option (List Sequent)). IsSome o) (ap (inferred (from_two rule)) p.after ∙ first_given rule a.sequent mid.after) some

  pub first_infers : (new : CutValue) → Infers (from_one (rule a.sequent)) mid new → Infers (from_two rule) old new
  first_infers new rest =
      record {
        basis = rest.basis ∙ p.basis;
        before = rest.before ∙ p.before;
        after = ap (inferred (from_two rule)) p.after ∙ first_given rule a.sequent mid.after ∙ rest.after;
      }

-- ---- rules of three theorems, the first of which was taken

two_left : (rule : Sequent → Sequent → Sequent → Option Sequent) (s : Sequent) (rest : List Sequent) → inferred (from_three rule) (s ∷ rest) ≡ inferred (from_two (rule s)) rest
two_left rule s [] = refl
two_left rule s (b ∷ []) = refl
two_left rule s (b ∷ c ∷ rest) = refl

module _ (rule : Sequent → Sequent → Sequent → Option Sequent) (old mid : CutValue) (a : Theorem) (p : IsFirst old mid a) where
  pub third_over : a.basis ≡ mid.basis
  third_over = p.over ∙ sym p.basis

  pub third_applies : IsSome (inferred (from_three rule) old.after) → IsSome (inferred (from_two (rule a.sequent)) mid.after)
  third_applies some = subst (λ (o : Option (List Sequent)). IsSome o) (ap (inferred (from_three rule)) p.after ∙ two_left rule a.sequent mid.after) some

  pub third_infers : (new : CutValue) → Infers (from_two (rule a.sequent)) mid new → Infers (from_three rule) old new
  third_infers new rest =
      record {
        basis = rest.basis ∙ p.basis;
        before = rest.before ∙ p.before;
        after = ap (inferred (from_three rule)) p.after ∙ two_left rule a.sequent mid.after ∙ rest.after;
      }
