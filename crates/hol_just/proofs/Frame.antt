-- Justifications compose: moves after moves, and moves on some goals among others.
use Rattle.std.specs.Prelude.{◌≡◌, ℕ, zero, suc, ◌+◌, List, [], ◌∷◌, ◌++◌, Option, Some, None, length, refl}
use Rattle.std.specs.Option.{option_map}
use Rattle.std.proofs.Common.{ap, sym, ◌∙◌, subst, arith}
use Rattle.hol_kernel.specs.Items.{Items}
use Rattle.hol_kernel.specs.Sequent.{Hyps, Sequent}
use Rattle.hol_goal.specs.Goal.{GoalValue}
use Rattle.hol_just.specs.Inference.{Inference, from_none, from_one, from_two, from_three, inferred}
use Rattle.hol_just.specs.Reasons.{inference}
use Rattle.hol_just.specs.Gives.{inferred_at, then_by, gives, moved, move_by}
use Rattle.hol_just.specs.Valid.{AchieveAll, Answers}
use Rattle.hol_just.specs.declared.reason.Move.{Move}

-- what a rule puts before a list it puts before a longer one
put_post : (s : Option Sequent) (ss post out : List Sequent) → option_map (λ r. r ∷ ss) s ≡ Some out → option_map (λ r. r ∷ (ss ++ post)) s ≡ Some (out ++ post)
put_post (Some s) ss post out e = let h : s ∷ ss ≡ out = cc in λ i. Some (h i ++ post)
put_post None ss post out e = cc

inferred_post : (rule : Inference) (ss post out : List Sequent) → inferred rule ss ≡ Some out → inferred rule (ss ++ post) ≡ Some (out ++ post)
inferred_post (from_none s) ss post out e = put_post s ss post out e
inferred_post (from_one rule) [] post out e = cc
inferred_post (from_one rule) (a ∷ ss) post out e = put_post (rule a) ss post out e
inferred_post (from_two rule) [] post out e = cc
inferred_post (from_two rule) (a ∷ []) post out e = cc
inferred_post (from_two rule) (a ∷ b ∷ ss) post out e = put_post (rule a b) ss post out e
inferred_post (from_three rule) [] post out e = cc
inferred_post (from_three rule) (a ∷ []) post out e = cc
inferred_post (from_three rule) (a ∷ b ∷ []) post out e = cc
inferred_post (from_three rule) (a ∷ b ∷ c ∷ ss) post out e = put_post (rule a b c) ss post out e

pub at_post : (n : ℕ) (rule : Inference) (ss post out : List Sequent) → inferred_at n rule ss ≡ Some out → inferred_at n rule (ss ++ post) ≡ Some (out ++ post)
at_post zero rule ss post out e = inferred_post rule ss post out e
at_post (suc n) rule [] post out e = cc
at_post (suc n) rule (t ∷ ss) post out e = go (inferred_at n rule ss) (λ rest is. at_post n rule ss post rest is) e
  where
    go : (o : Option (List Sequent)) → ((rest : List Sequent) → o ≡ Some rest → inferred_at n rule (ss ++ post) ≡ Some (rest ++ post)) → option_map (λ rest. t ∷ rest) o ≡ Some out → option_map (λ rest. t ∷ rest) (inferred_at n rule (ss ++ post)) ≡ Some (out ++ post)
    go (Some rest) ih e =
        let h : t ∷ rest ≡ out = cc in
        ap (option_map (λ rest. t ∷ rest)) (ih rest refl) ∙ (λ i. Some (h i ++ post))
    go None ih e = cc

pub at_pre : (pre : List Sequent) (n p : ℕ) (rule : Inference) (ss out : List Sequent) → p ≡ length pre + n → inferred_at n rule ss ≡ Some out → inferred_at p rule (pre ++ ss) ≡ Some (pre ++ out)
at_pre [] n p rule ss out at e = let same : p ≡ n = omega (arith, at) in ap (λ q. inferred_at q rule ss) same ∙ e
at_pre (t ∷ pre) n zero rule ss out at e = absurd (omega (arith, at))
at_pre (t ∷ pre) n (suc p) rule ss out at e = ap (option_map (λ rest. t ∷ rest)) (at_pre pre n p rule ss out (omega (arith, at)) e)

pub gives_framed : (basis : Items) (moves : List Move) (pre ss post out : List Sequent) → gives basis moves ss ≡ Some out → gives basis (moved (length pre) moves) (pre ++ (ss ++ post)) ≡ Some (pre ++ (out ++ post))
gives_framed basis [] pre ss post out e = let h : ss ≡ out = cc in λ i. Some (pre ++ (h i ++ post))
gives_framed basis (m ∷ moves) pre ss post out e = go (gives basis moves ss) (λ mid is. gives_framed basis moves pre ss post mid is) e
  where
    go : (o : Option (List Sequent)) → ((mid : List Sequent) → o ≡ Some mid → gives basis (moved (length pre) moves) (pre ++ (ss ++ post)) ≡ Some (pre ++ (mid ++ post))) → then_by basis m o ≡ Some out → gives basis (moved (length pre) (m ∷ moves)) (pre ++ (ss ++ post)) ≡ Some (pre ++ (out ++ post))
    go (Some mid) ih e =
        ap (then_by basis (move_by (length pre) m)) (ih mid refl)
        ∙ at_pre pre m.place _ (inference basis m.reason) (mid ++ post) (out ++ post) refl (at_post m.place (inference basis m.reason) mid post out e)
    go None ih e = cc

pub gives_append : (basis : Items) (first second : List Move) (ss mid : List Sequent) → gives basis second ss ≡ Some mid → gives basis (first ++ second) ss ≡ gives basis first mid
gives_append basis [] second ss mid e = e
gives_append basis (m ∷ first) second ss mid e = ap (then_by basis m) (gives_append basis first second ss mid e)

-- ---- sequents for lists of goals

module _ (extra : Hyps) where
  pub achieve_both : (ss ts : List Sequent) (gs hs : List GoalValue) → AchieveAll extra ss gs → AchieveAll extra ts hs → AchieveAll extra (ss ++ ts) (gs ++ hs)
  achieve_both [] ts [] hs a b = b
  achieve_both (s ∷ ss) ts (g ∷ gs) hs a b = (a.0, achieve_both ss ts gs hs a.1 b)
  achieve_both [] ts (g ∷ gs) hs a b = absurd a
  achieve_both (s ∷ ss) ts [] hs a b = absurd a

  -- sequents of two lists of goals, one after the other
  pub record Parts (ss : List Sequent) (gs hs : List GoalValue) : Type 0 where
    pub first : List Sequent
    pub second : List Sequent
    pub is : ss ≡ first ++ second
    pub of_first : AchieveAll extra first gs
    pub of_second : AchieveAll extra second hs

  pub parts : (ss : List Sequent) (gs hs : List GoalValue) → AchieveAll extra ss (gs ++ hs) → Parts ss gs hs
  parts ss [] hs a = record { first = []; second = ss; is = refl; of_first = tt; of_second = a }
  parts [] (g ∷ gs) hs a = absurd a
  parts (s ∷ ss) (g ∷ gs) hs a =
      let p = parts ss gs hs a.1 in
      record { first = s ∷ p.first; second = p.second; is = ap (λ r. s ∷ r) p.is; of_first = (a.0, p.of_first); of_second = p.of_second }

  pub achieve_length : (ss : List Sequent) (gs : List GoalValue) → AchieveAll extra ss gs → length ss ≡ length gs
  achieve_length [] [] a = refl
  achieve_length (s ∷ ss) (g ∷ gs) a = ap suc (achieve_length ss gs a.1)
  achieve_length [] (g ∷ gs) a = absurd a
  achieve_length (s ∷ ss) [] a = absurd a

  answered : (o : Option (List Sequent)) (gs : List GoalValue) → Answers extra o gs → (out : List Sequent) × (o ≡ Some out) × AchieveAll extra out gs
  answered (Some out) gs a = (out, refl, a)
  answered None gs a = absurd a

  -- what achieves the goals after gives what achieves those before
  abbrev pub Through : Items → List Move → List GoalValue → List GoalValue → Type 0
  Through basis moves before after = (ss : List Sequent) → AchieveAll extra ss after → Answers extra (gives basis moves ss) before

  pub through_append : (basis : Items) (first second : List Move) (gs hs ks : List GoalValue) → Through basis first gs hs → Through basis second hs ks → Through basis (first ++ second) gs ks
  through_append basis first second gs hs ks f s ss a =
      let v = answered _ hs (s ss a) in
      subst (λ (o : Option (List Sequent)). Answers extra o gs) (sym (gives_append basis first second ss v.0 v.1)) (f v.0 v.2)

  pub through_framed : (basis : Items) (moves : List Move) (pre gs hs post : List GoalValue) (k : ℕ) → k ≡ length pre → Through basis moves gs hs → Through basis (moved k moves) (pre ++ (gs ++ post)) (pre ++ (hs ++ post))
  through_framed basis moves pre gs hs post k at f ss a =
      let p = parts ss pre (hs ++ post) a in
      let q = parts p.second hs post p.of_second in
      let v = answered _ gs (f q.first q.of_first) in
      let len : length p.first ≡ k = achieve_length p.first pre p.of_first ∙ sym at in
      let whole : ss ≡ p.first ++ (q.first ++ q.second) = p.is ∙ ap (λ (r : List Sequent). p.first ++ r) q.is in
      let g : gives basis (moved k moves) ss ≡ Some (p.first ++ (v.0 ++ q.second)) =
      ap (gives basis (moved k moves)) whole
      ∙ ap (λ j. gives basis (moved j moves) (p.first ++ (q.first ++ q.second))) (sym len)
      ∙ gives_framed basis moves p.first q.first q.second v.0 v.1 in
      subst (λ (o : Option (List Sequent)). Answers extra o (pre ++ (gs ++ post))) (sym g)
      (achieve_both p.first (v.0 ++ q.second) pre (gs ++ post) p.of_first (achieve_both v.0 q.second gs post v.2 q.of_second))
