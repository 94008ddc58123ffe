-- What becomes of a piece: which kind it is, and that the moves are valid where pieces are assumptions.
use Rattle.std.specs.Prelude.{◌≡◌, ◌-◌, ℕ, zero, suc, true, false, cond, ◌||◌, List, [], ◌∷◌, ◌++◌, map, reverse, codes, Some, None, Result, Ok, Err, IfOk, refl}
use Rattle.std.specs.Option.{option_map, option_or, unwrap_or}
use Rattle.std.specs.List.{list_any}
use Rattle.std.proofs.Common.{ap, sym, ◌∙◌, subst, inl, inr, arith}
use Rattle.std.proofs.lemmas.Bool.{or_parts}
use Rattle.hol_types.specs.Tree.{TypeTree}
use Rattle.hol_terms.specs.Nameless.{Nameless, free, free_occurrences}
use Rattle.hol_terms.specs.Scoped.{binds}
use Rattle.hol_terms.specs.Alpha.{strip, alpha_eq}
use Rattle.hol_subst.specs.Closing.{open_with}
use Rattle.hol_subst.specs.Variant.{is_free_in}
use Rattle.hol_formulas.specs.Equation.{bool_type}
use Rattle.hol_formulas.specs.Formula.{connective_type, Abstraction, existential, is_truth, is_falsity, dest_conj, dest_disj, dest_exists}
use Rattle.hol_formulas.proofs.FormulaLaws.{dest_binary_is, dest_quantifier_is, is_constant_is}
use Rattle.hol_kernel.specs.Given.{assumed}
use Rattle.hol_kernel.specs.Sequent.{Hyps}
use Rattle.hol_kernel.proofs.Members.{Among}
use Rattle.hol_goal.specs.Goal.{GoalValue}
use Rattle.hol_just.specs.Leaving.{assuming, goal_terms}
use Rattle.hol_goal.specs.Answer.{UsedValue}
use Rattle.hol_goal.specs.UsedView.{used_value}
use Rattle.hol_just.specs.Strip.{AvoidedValue, split_by, Piece, Conjuncts, Disjuncts, Property, Closing, Dropped, Kept, plain_piece, piece, WaitingValue, waiting, becomes}
use Rattle.hol_just.specs.Valid.{IsValid}
use Rattle.hol_just.specs.Justifies.{goal_at, always, holds_given, ClosesByGiven, ClosesByFalsity, LeavesConjuncts, LeavesCases, LeavesChosen}
use Rattle.hol_just.specs.declared.reason.Move.{Move}
use Rattle.hol_just.proofs.Validity.{valid_none}
use Rattle.hol_just.proofs.Weaker.{AreAmong, IsWeaker, valid_weaker, valid_assumed, assumed_allowed}
use Rattle.hol_steps.specs.Fresh.{AvoidAlike, AreApart, terms_of}
use Rattle.hol_steps.specs.Parts.{with_pieces, AreParts, ArePartsBy, Becomes}
use Rattle.hol_steps.specs.declared.pieces.Parts.{Parts}
use Rattle.hol_steps.specs.declared.pieces.Becoming.{Becoming}
use Rattle.hol_steps.proofs.TermsBy.{free_in_both}

-- ---- which piece is which

pub conj_piece : (goal : GoalValue) (p a b : Nameless) → dest_conj p ≡ Some (a, b) → piece goal p ≡ Conjuncts a b
conj_piece goal p a b is = ap (λ o. unwrap_or (option_or (option_map (λ r. Conjuncts r.0 r.1) o) (option_or (option_map (λ r. Disjuncts r.0 r.1) (dest_disj p)) (option_map (λ x. Property x) (dest_exists p)))) (plain_piece goal p)) is

pub disj_piece : (goal : GoalValue) (p a b : Nameless) → dest_conj p ≡ None → dest_disj p ≡ Some (a, b) → piece goal p ≡ Disjuncts a b
disj_piece goal p a b none is =
    λ i. unwrap_or (option_or (option_map (λ r. Conjuncts r.0 r.1) (none i)) (option_or (option_map (λ r. Disjuncts r.0 r.1) (is i)) (option_map (λ x. Property x) (dest_exists p)))) (plain_piece goal p)

pub exists_piece : (goal : GoalValue) (p : Nameless) (x : Abstraction) → dest_conj p ≡ None → dest_disj p ≡ None → dest_exists p ≡ Some x → piece goal p ≡ Property x
exists_piece goal p x none neither is =
    λ i. unwrap_or (option_or (option_map (λ r. Conjuncts r.0 r.1) (none i)) (option_or (option_map (λ r. Disjuncts r.0 r.1) (neither i)) (option_map (λ y. Property y) (is i)))) (plain_piece goal p)

pub other_piece : (goal : GoalValue) (p : Nameless) → dest_conj p ≡ None → dest_disj p ≡ None → dest_exists p ≡ None → piece goal p ≡ plain_piece goal p
other_piece goal p none neither nor =
    λ i. unwrap_or (option_or (option_map (λ r. Conjuncts r.0 r.1) (none i)) (option_or (option_map (λ r. Disjuncts r.0 r.1) (neither i)) (option_map (λ x. Property x) (nor i)))) (plain_piece goal p)

-- ---- assumptions among others

module _ (p : Nameless) (ps qs : List Nameless) where
  in_first : Among p ps → Among p (ps ++ qs)
  in_first = go ps
    where
      go : (rs : List Nameless) → Among p rs → Among p (rs ++ qs)
      go [] h = absurd h
      go (r ∷ rs) (inl e) = inl e
      go (r ∷ rs) (inr h) = inr (go rs h)

  in_second : Among p qs → Among p (ps ++ qs)
  in_second h = go ps
    where
      go : (rs : List Nameless) → Among p (rs ++ qs)
      go [] = h
      go (r ∷ rs) = inr (go rs)

-- one taken out of its place, and put first
first_among : (p : Nameless) (ps qs : List Nameless) → AreAmong (ps ++ (p ∷ qs)) (p ∷ (ps ++ qs))
first_among p [] qs r h = h
first_among p (n ∷ ps) qs r (inl e) = inr (inl e)
first_among p (n ∷ ps) qs r (inr h) =
    elim (first_among p ps qs r h) [
      | inl e ↦ inl e
      | inr k ↦ inr (inr k)
    ]

-- ---- a step by the assumption p

module _ (p : Nameless) (w : WaitingValue) (extra : Hyps) (moves : List Move) where
  all : List Nameless
  all = p ∷ (w.pieces ++ w.goal.assumptions)

  own : Among p (p ∷ (w.pieces ++ w.goal.assumptions))
  own = inl refl

  pub conj_valid : (a b : Nameless) → dest_conj p ≡ Some (a, b) → LeavesConjuncts (assumed p) moves → IsValid always extra moves (with_pieces (waiting (p ∷ w.pieces) w.goal) ∷ []) (with_pieces (waiting (a ∷ b ∷ w.pieces) w.goal) ∷ [])
  conj_valid a b is leaves =
      let here = p ∷ (w.pieces ++ w.goal.assumptions) in
      valid_assumed extra moves here w.goal.conclusion p (with_pieces (waiting (a ∷ b ∷ w.pieces) w.goal) ∷ []) own
      (valid_weaker (holds_given (assumed p)) extra moves (goal_at here w.goal.conclusion ∷ []) (goal_at (b ∷ a ∷ here) w.goal.conclusion ∷ []) (with_pieces (waiting (a ∷ b ∷ w.pieces) w.goal) ∷ [])
      (record { conclusion = refl; assumptions = λ q h. elim h [ inl e ↦ inr (inl e) | inr k ↦ elim k [ inl f ↦ inl f | inr m ↦ inr (inr (inr m)) ] ] }, tt)
      (leaves extra here a b w.goal.conclusion (dest_binary_is (codes "/\\") connective_type p (a, b) is) (assumed_allowed extra here p own)))

  pub disj_valid :
      (a b : Nameless) → dest_disj p ≡ Some (a, b) → LeavesCases (assumed p) moves →
      IsValid always extra moves (with_pieces (waiting (p ∷ w.pieces) w.goal) ∷ []) (with_pieces (waiting (a ∷ w.pieces) w.goal) ∷ with_pieces (waiting (b ∷ w.pieces) w.goal) ∷ [])
  disj_valid a b is leaves =
      let here = p ∷ (w.pieces ++ w.goal.assumptions) in
      let left = with_pieces (waiting (a ∷ w.pieces) w.goal) in
      let right = with_pieces (waiting (b ∷ w.pieces) w.goal) in
      valid_assumed extra moves here w.goal.conclusion p (left ∷ right ∷ []) own
      (valid_weaker (holds_given (assumed p)) extra moves (goal_at here w.goal.conclusion ∷ []) (goal_at (a ∷ here) w.goal.conclusion ∷ goal_at (b ∷ here) w.goal.conclusion ∷ []) (left ∷ right ∷ [])
      (without a, (without b, tt))
      (leaves extra here a b w.goal.conclusion (dest_binary_is (codes "\\/") connective_type p (a, b) is) (assumed_allowed extra here p own)))
    where
      without : (q : Nameless) → IsWeaker (with_pieces (waiting (q ∷ w.pieces) w.goal)) (goal_at (q ∷ p ∷ (w.pieces ++ w.goal.assumptions)) w.goal.conclusion)
      without q = record { conclusion = refl; assumptions = λ r h. elim h [ inl e ↦ inl e | inr k ↦ inr (inr k) ] }

  pub chosen_valid :
      (names : List Nameless) (x : Abstraction) (v : List ℕ × TypeTree) → AreApart names extra → dest_exists p ≡ Some x → v.1 ≡ x.domain → is_free_in (terms_of names p w) v ≡ false → LeavesChosen v (assumed p) moves →
      IsValid always extra moves (with_pieces (waiting (p ∷ w.pieces) w.goal) ∷ []) (with_pieces (waiting (open_with (free v) 0 x.body ∷ w.pieces) w.goal) ∷ [])
  chosen_valid names x v apart is same absent leaves =
      let here = p ∷ (w.pieces ++ w.goal.assumptions) in
      let left = with_pieces (waiting (open_with (free v) 0 x.body ∷ w.pieces) w.goal) in
      let whole : p ≡ existential x = dest_quantifier_is (codes "?") p x is in
      let all_parts = or_parts (is_free_in names v) (is_free_in ((p ∷ w.pieces) ++ goal_terms w.goal) v) (sym (free_in_both names ((p ∷ w.pieces) ++ goal_terms w.goal) v) ∙ absent) in
      let own_parts = or_parts (is_free_in (p ∷ w.pieces) v) (is_free_in (goal_terms w.goal) v) (sym (free_in_both (p ∷ w.pieces) (goal_terms w.goal) v) ∙ all_parts.1) in
      let of_pieces = or_parts (binds (free_occurrences p) v) (is_free_in w.pieces v) own_parts.0 in
      let of_goal = or_parts (binds (free_occurrences w.goal.conclusion) v) (is_free_in w.goal.assumptions v) own_parts.1 in
      valid_assumed extra moves here w.goal.conclusion p (left ∷ []) own
      (valid_weaker (holds_given (assumed p)) extra moves (goal_at here w.goal.conclusion ∷ []) (goal_at (open_with (free v) 0 x.body ∷ here) w.goal.conclusion ∷ []) (left ∷ [])
      (record { conclusion = refl; assumptions = λ r h. elim h [ inl e ↦ inl e | inr k ↦ inr (inr k) ] }, tt)
      (leaves extra here x w.goal.conclusion whole same
      (record {
        of_extra = apart v all_parts.0;
        of_assumptions = (λ i. of_pieces.0 i || is_free_in (w.pieces ++ w.goal.assumptions) v) ∙ free_in_both w.pieces w.goal.assumptions v ∙ (λ i. of_pieces.1 i || of_goal.1 i);
        of_conclusion = of_goal.0;
      })
      (ap (λ t. binds (free_occurrences t) v) (sym whole) ∙ of_pieces.0)
      (assumed_allowed extra here p own)))

  pub contr_piece_valid : is_falsity p ≡ true → ClosesByFalsity w.goal.conclusion (assumed p) moves → IsValid always extra moves (with_pieces (waiting (p ∷ w.pieces) w.goal) ∷ []) []
  contr_piece_valid false_is closes =
      let here = p ∷ (w.pieces ++ w.goal.assumptions) in
      valid_assumed extra moves here w.goal.conclusion p [] own (closes extra here (is_constant_is (codes "F") bool_type p false_is) (assumed_allowed extra here p own))

  pub accept_piece_valid : strip p ≡ strip w.goal.conclusion → ClosesByGiven (assumed p) moves → IsValid always extra moves (with_pieces (waiting (p ∷ w.pieces) w.goal) ∷ []) []
  accept_piece_valid same closes =
      let here = p ∷ (w.pieces ++ w.goal.assumptions) in
      valid_assumed extra moves here w.goal.conclusion p [] own (closes extra (goal_at here w.goal.conclusion) same (assumed_allowed extra here p own))

pub dropped_valid : (p : Nameless) (w : WaitingValue) (extra : Hyps) → IsValid always extra [] (with_pieces (waiting (p ∷ w.pieces) w.goal) ∷ []) (with_pieces w ∷ [])
dropped_valid p w extra =
    valid_weaker always extra [] (with_pieces (waiting (p ∷ w.pieces) w.goal) ∷ []) (with_pieces (waiting (p ∷ w.pieces) w.goal) ∷ []) (with_pieces w ∷ [])
    (record { conclusion = refl; assumptions = λ r h. inr h }, tt) (valid_none always extra (with_pieces (waiting (p ∷ w.pieces) w.goal) ∷ []))

pub kept_valid : (p : Nameless) (w : WaitingValue) (extra : Hyps) → IsValid always extra [] (with_pieces (waiting (p ∷ w.pieces) w.goal) ∷ []) (with_pieces (waiting w.pieces (assuming w.goal p w.goal.conclusion)) ∷ [])
kept_valid p w extra =
    valid_weaker always extra [] (with_pieces (waiting (p ∷ w.pieces) w.goal) ∷ []) (with_pieces (waiting (p ∷ w.pieces) w.goal) ∷ []) (with_pieces (waiting w.pieces (assuming w.goal p w.goal.conclusion)) ∷ [])
    (record { conclusion = refl; assumptions = first_among p w.pieces w.goal.assumptions }, tt) (valid_none always extra (with_pieces (waiting (p ∷ w.pieces) w.goal) ∷ []))

-- ---- parts

module _ (avoided : AvoidedValue) (p : Nameless) (w : WaitingValue) (used : UsedValue) (c : Piece) (ws : List WaitingValue) (moves : List Move) (left : UsedValue)
    (is : becomes avoided p w.pieces w.goal c used ≡ Some (ws, left))
    (valid : (extra : Hyps) → AreApart avoided.terms extra → IsValid always extra moves (with_pieces (waiting (p ∷ w.pieces) w.goal) ∷ []) (map with_pieces ws)) where
  -- what is made of what waits, in reverse, of the moves and of the used
  pub parts_are : (parts : Parts) → ws ≡ reverse parts.waiting.items → parts.just ≡ moves → used_value parts.used ≡ left → AreParts avoided p w used c parts
  parts_are parts all kept same =
      record {
        is = is ∙ (λ i. Some (all i, sym same i));
        valid = λ extra apart. subst (λ (ms : List Move). IsValid always extra ms (with_pieces (waiting (p ∷ w.pieces) w.goal) ∷ []) (map with_pieces (reverse parts.waiting.items))) (sym kept)
            (subst (λ (vs : List WaitingValue). IsValid always extra moves (with_pieces (waiting (p ∷ w.pieces) w.goal) ∷ []) (map with_pieces vs)) all (valid extra apart));
      }

-- an answer that was made of one, where a condition on what is avoided holds, and names were tested for it
pub freeing_answers :
    {E : Type 0} (r : Result Parts E) (Q : AvoidedValue → Type 0) (p : Nameless) (w : WaitingValue) (used left : UsedValue) (c : Piece) (made new : WaitingValue) (moves : List Move) → made ≡ new →
    ((avoided : AvoidedValue) → Q avoided → becomes avoided p w.pieces w.goal c used ≡ Some (new ∷ [], left)) →
    ((avoided : AvoidedValue) → Q avoided → (extra : Hyps) → AreApart avoided.terms extra → IsValid always extra moves (with_pieces (waiting (p ∷ w.pieces) w.goal) ∷ []) (with_pieces new ∷ [])) →
    IfOk r (λ parts. parts.waiting.items ≡ made ∷ []) → IfOk r (λ parts. parts.just ≡ moves) → (told : UsedValue) → IfOk r (λ parts. used_value parts.used ≡ told) → told ≡ left →
    IfOk r (λ parts. (avoided : AvoidedValue) → Q avoided → AreParts avoided p w used c parts)
freeing_answers (Ok parts) Q p w used left c made new moves same is valid all kept told uses told_is =
    λ avoided q. parts_are avoided p w used c (new ∷ []) moves left (is avoided q) (valid avoided q) parts (ap reverse (sym (all ∙ ap (λ v. v ∷ []) same))) kept (uses ∙ told_is)
freeing_answers (Err e) Q p w used left c made new moves same is valid all kept told uses told_is = all

-- the same for all that may be avoided
pub one_always :
    {E : Type 0} (r : Result Parts E) (p : Nameless) (w : WaitingValue) (used : UsedValue) (c : Piece) (made new : WaitingValue) (moves : List Move) → made ≡ new →
    ((avoided : AvoidedValue) → becomes avoided p w.pieces w.goal c used ≡ Some (new ∷ [], used)) →
    ((extra : Hyps) → IsValid always extra moves (with_pieces (waiting (p ∷ w.pieces) w.goal) ∷ []) (with_pieces new ∷ [])) →
    IfOk r (λ parts. parts.waiting.items ≡ made ∷ []) → IfOk r (λ parts. parts.just ≡ moves) → IfOk r (λ parts. used_value parts.used ≡ used) →
    IfOk r (λ parts. (avoided : AvoidedValue) → AreParts avoided p w used c parts)
one_always (Ok parts) p w used c made new moves same is valid all kept left =
    λ avoided. parts_are avoided p w used c (new ∷ []) moves used (is avoided) (λ extra apart. valid extra) parts (ap reverse (sym (all ∙ ap (λ v. v ∷ []) same))) kept left
one_always (Err e) p w used c made new moves same is valid all kept left = all

-- parts that were made of two
pub two_always :
    (parts : Parts) (p : Nameless) (w : WaitingValue) (used left : UsedValue) (c : Piece) (made_first made_second first second : WaitingValue) (moves : List Move) → made_first ≡ first → made_second ≡ second →
    ((avoided : AvoidedValue) → becomes avoided p w.pieces w.goal c used ≡ Some (first ∷ second ∷ [], left)) →
    ((extra : Hyps) → IsValid always extra moves (with_pieces (waiting (p ∷ w.pieces) w.goal) ∷ []) (with_pieces first ∷ with_pieces second ∷ [])) →
    parts.waiting.items ≡ made_second ∷ made_first ∷ [] → parts.just ≡ moves → used_value parts.used ≡ left → (avoided : AvoidedValue) → AreParts avoided p w used c parts
two_always parts p w used left c made_first made_second first second moves one two is valid all kept same avoided =
    parts_are avoided p w used c (first ∷ second ∷ []) moves left (is avoided) (λ extra apart. valid extra) parts (ap reverse (sym (all ∙ (λ i. two i ∷ one i ∷ [])))) kept same

-- nothing is left of it
pub none_always :
    (parts : Parts) (p : Nameless) (w : WaitingValue) (used : UsedValue) (moves : List Move) → ((extra : Hyps) → IsValid always extra moves (with_pieces (waiting (p ∷ w.pieces) w.goal) ∷ []) []) →
    parts.waiting.items ≡ [] → parts.just ≡ moves → used_value parts.used ≡ used → (avoided : AvoidedValue) → AreParts avoided p w used Closing parts
none_always parts p w used moves valid all kept same avoided =
    parts_are avoided p w used Closing [] moves used refl (λ extra apart. valid extra) parts (ap reverse (sym all)) kept same

-- parts of another name for the kind
pub kind_is :
    {E : Type 0} (r : Result Parts E) (p : Nameless) (w : WaitingValue) (used : UsedValue) (c d : Piece) → c ≡ d → IfOk r (λ parts. (avoided : AvoidedValue) → AreParts avoided p w used c parts) →
    IfOk r (λ parts. (avoided : AvoidedValue) → AreParts avoided p w used d parts)
kind_is r p w used c d e h = subst (λ (k : Piece). IfOk r (λ parts. (avoided : AvoidedValue) → AreParts avoided p w used k parts)) e h

-- ---- disjunctions cost a turn

pub turn_paid : (a b : Nameless) (w : WaitingValue) (tested : List (List ℕ)) (turns left : ℕ) → (turns ≡ 0 → ⊥) → left ≡ turns - 1 →
    split_by a b w.pieces w.goal tested turns ≡ Some (waiting (a ∷ w.pieces) w.goal ∷ waiting (b ∷ w.pieces) w.goal ∷ [], record { turns_left = left; tested = tested })
turn_paid a b w tested zero left some is = absurd (some refl)
turn_paid a b w tested (suc n) left some is = let same : n ≡ left = omega (arith, is) in λ i. Some (waiting (a ∷ w.pieces) w.goal ∷ waiting (b ∷ w.pieces) w.goal ∷ [], record { turns_left = same i; tested = tested })

-- ---- what is no compound formula

module _ (goal : GoalValue) (p : Nameless) where
  pub closing_false : is_falsity p ≡ true → plain_piece goal p ≡ Closing
  closing_false e = ap (λ b. cond (b || alpha_eq p goal.conclusion) Closing (cond (is_truth p || list_any (alpha_eq p) goal.assumptions) Dropped Kept)) e

  pub closing_same : is_falsity p ≡ false → alpha_eq p goal.conclusion ≡ true → plain_piece goal p ≡ Closing
  closing_same e f = λ i. cond (e i || f i) Closing (cond (is_truth p || list_any (alpha_eq p) goal.assumptions) Dropped Kept)

  pub dropped_piece : is_falsity p ≡ false → alpha_eq p goal.conclusion ≡ false → (is_truth p || list_any (alpha_eq p) goal.assumptions) ≡ true → plain_piece goal p ≡ Dropped
  dropped_piece e f g = λ i. cond (e i || f i) Closing (cond (g i) Dropped Kept)

  pub kept_piece : is_falsity p ≡ false → alpha_eq p goal.conclusion ≡ false → (is_truth p || list_any (alpha_eq p) goal.assumptions) ≡ false → plain_piece goal p ≡ Kept
  kept_piece e f g = λ i. cond (e i || f i) Closing (cond (g i) Dropped Kept)

-- ---- what becomes of it, whichever it is

module _ (others : AvoidedValue) (p : Nameless) (w : WaitingValue) (used : UsedValue) where
  pub become_as : (c : Piece) (parts : Parts) → piece w.goal p ≡ c → ((avoided : AvoidedValue) → AvoidAlike others avoided → AreParts avoided p w used c parts) → ArePartsBy others p w used (piece w.goal p) parts
  become_as c parts is h avoided alike = subst (λ (k : Piece). AreParts avoided p w used k parts) (sym is) (h avoided alike)

  pub becomes_as : {E : Type 0} (r : Result Becoming E) (c : Piece) → piece w.goal p ≡ c → IfOk r (Becomes others p w used c) → IfOk r (Becomes others p w used (piece w.goal p))
  becomes_as r c is h = subst (λ (k : Piece). IfOk r (Becomes others p w used k)) (sym is) h
