-- Slots that are settled one after the other, and a theory that is put together of them.
use Rattle.std.specs.Prelude.{◌≡◌, ◌≤◌, ◌<◌, ◌+◌, ◌-◌, ℕ, true, zero, suc, List, [], ◌∷◌, ◌++◌, map, take, drop, length, Some, get_or, refl}
use Rattle.std.proofs.Common.{ap, sym, ◌∙◌, subst, append_assoc, inl, inr, arith, add-one}
use Rattle.std.proofs.lemmas.List.{length-drop, take_all}
use Rattle.std.proofs.Math.ListN.{drop_of_length-le}
use Rattle.std.proofs.Math.Nat.{eq-or-lt_of_le}
use Rattle.std.proofs.Math.Seq.{drop-cons, take-suc}
use Rattle.hol_exec.specs.OutcomeValue.{OutcomeValue, after}
use Rattle.hol_exec.specs.Setup.{SetupValue}
use Rattle.hol_exec.specs.StateValue.{StateValue, EndedTheory, start}
use Rattle.hol_document.specs.Affected.{counts, affected_rows}
use Rattle.hol_document.specs.Alike.{DriftValue, AreAlike, EachImportsAlike}
use Rattle.hol_document.specs.Settled.{AreRedone, HaveAdded, HaveLeft, LeadTo, rows_of, texts_of}
use Rattle.hol_document.specs.Slots.{SlotValue, IsSlot, AreSlots}
use Rattle.hol_document.proofs.Alike.{states_one}
use Rattle.hol_document.proofs.Counting.{rows_append, rows_same}
use Rattle.hol_document.proofs.Standing.{slots_append, slots_split, slots_elsewhere, kept_here, imports_later}

pub map_more : {X Y : Type 0} (f : X → Y) (xs ys : List X) → map f (xs ++ ys) ≡ map f xs ++ map f ys
map_more f [] ys = refl
map_more f (x ∷ xs) ys = ap (λ zs. f x ∷ zs) (map_more f xs ys)

pub append_none : {X : Type 0} (xs : List X) → xs ++ [] ≡ xs
append_none [] = refl
append_none (x ∷ xs) = ap (λ ys. x ∷ ys) (append_none xs)

pub map_length : {X Y : Type 0} (f : X → Y) (xs : List X) → length (map f xs) ≡ length xs
map_length f [] = refl
map_length f (x ∷ xs) = ap suc (map_length f xs)

module _ {A X : Type 0} (f : A → X) where
  pub drop_map : (xs : List A) (i : ℕ) → map f (drop i xs) ≡ drop i (map f xs)
  drop_map xs zero = refl
  drop_map [] (suc i) = refl
  drop_map (x ∷ xs) (suc i) = drop_map xs i

  pub take_map : (xs : List A) (i : ℕ) → map f (take i xs) ≡ take i (map f xs)
  take_map xs zero = refl
  take_map [] (suc i) = refl
  take_map (x ∷ xs) (suc i) = ap (λ ys. f x ∷ ys) (take_map xs i)

-- as many rows as texts
as_many : (xs ys : List SlotValue) → texts_of xs ≡ texts_of ys → length xs ≡ length ys
as_many xs ys e = sym (map_length (λ (slot : SlotValue). slot.text) xs) ∙ (ap length e ∙ map_length (λ (slot : SlotValue). slot.text) ys)

lengths : (xs ys : List SlotValue) → texts_of xs ≡ texts_of ys → length (map Some (rows_of xs)) ≡ length (rows_of ys)
lengths xs ys e = map_length Some (rows_of xs) ∙ (map_length (λ (slot : SlotValue). slot.row) xs ∙ (as_many xs ys e ∙ sym (map_length (λ (slot : SlotValue). slot.row) ys)))

olds_more : (xs ys : List SlotValue) → map Some (rows_of (xs ++ ys)) ≡ map Some (rows_of xs) ++ map Some (rows_of ys)
olds_more xs ys = ap (map Some) (map_more (λ (slot : SlotValue). slot.row) xs ys) ∙ map_more Some (rows_of xs) (rows_of ys)

-- what was redone, and after that what was redone of more
pub redone_append : (setup : SetupValue) (earlier : List EndedTheory) (s mid last : StateValue) (olds olds' news news' : List SlotValue) (n m r : ℕ)
    → AreRedone setup earlier s (map Some (rows_of olds)) (texts_of olds) n m news mid → AreRedone setup earlier mid (map Some (rows_of olds')) (texts_of olds') m r news' last
    → AreRedone setup earlier s (map Some (rows_of (olds ++ olds'))) (texts_of (olds ++ olds')) n r (news ++ news') last
redone_append setup earlier s mid last olds olds' news news' n m r h k = record {
  are = slots_append setup earlier s mid last news news' h.are k.are;
  texts_are = map_more (λ (slot : SlotValue). slot.text) news news' ∙ ((λ i. h.texts_are i ++ k.texts_are i) ∙ sym (map_more (λ (slot : SlotValue). slot.text) olds olds'));
  few =
      let rows : rows_of (news ++ news') ≡ rows_of news ++ rows_of news' = map_more (λ (slot : SlotValue). slot.row) news news' in
      let sum : affected_rows (map Some (rows_of (olds ++ olds'))) (rows_of (news ++ news')) ≡ affected_rows (map Some (rows_of olds)) (rows_of news) + affected_rows (map Some (rows_of olds')) (rows_of news')
      = (λ i. affected_rows (olds_more olds olds' i) (rows i)) ∙ rows_append (map Some (rows_of olds)) (map Some (rows_of olds')) (rows_of news) (rows_of news') (lengths olds news (sym h.texts_are)) in
      rw sum (omega (arith, h.few, k.few));
}

-- slots that stand at the state as they are
pub redone_same : (setup : SetupValue) (earlier : List EndedTheory) (s last : StateValue) (slots : List SlotValue) (n : ℕ)
    → AreSlots setup earlier s slots last → AreRedone setup earlier s (map Some (rows_of slots)) (texts_of slots) n n slots last
redone_same setup earlier s last slots n h = record { are = h; texts_are = refl; few = omega (arith, rows_same (rows_of slots)) }

-- one slot
pub redone_one : (setup : SetupValue) (earlier : List EndedTheory) (s last : StateValue) (old new : SlotValue) (n m : ℕ)
    → IsSlot setup earlier s new → new.text ≡ old.text → last ≡ after s new.row.outcome → m ≤ n + counts (Some old.row) new.row
    → AreRedone setup earlier s (map Some (rows_of (old ∷ []))) (texts_of (old ∷ [])) n m (new ∷ []) last
redone_one setup earlier s last old new n m is text e few = record { are = (is, e); texts_are = ap (λ t. t ∷ []) text; few = omega (arith, few) }

-- ---- in terms of lists of which the slots are values

module _ {A : Type 0} (f : A → SlotValue) where
  -- the first ones, and one more
  pub taken : (xs : List A) (i : ℕ) (x : A) → i < length xs → x ≡ get_or xs i x → map f (take (i + 1) xs) ≡ map f (take i xs) ++ f x ∷ []
  taken xs i x h is =
      let all : take (i + 1) xs ≡ take i xs ++ x ∷ [] = rw (add-one, take-suc xs i x h, ← is) refl in
      ap (map f) all ∙ map_more f (take i xs) (x ∷ [])

  -- the one there, and the later ones
  pub left : (xs : List A) (i : ℕ) (x : A) → i < length xs → x ≡ get_or xs i x → map f (drop i xs) ≡ f x ∷ map f (drop (i + 1) xs)
  left xs i x h is =
      let all : drop i xs ≡ x ∷ drop (i + 1) xs = rw (add-one, drop-cons xs i x h, ← is) refl in
      ap (map f) all

  -- one turn of the loop: what is done, and what is left
  pub added_next : (setup : SetupValue) (earlier : List EndedTheory) (s mid next : StateValue) (xs : List A) (i : ℕ) (x : A) (front slots slots' : List SlotValue) (new : SlotValue) (n m r : ℕ)
      → i < length xs → x ≡ get_or xs i x → slots' ≡ slots ++ new ∷ [] → HaveAdded setup earlier s (map f (take i xs)) n m front slots mid
      → IsSlot setup earlier mid new → new.text ≡ (f x).text → next ≡ after mid new.row.outcome → r ≤ m + counts (Some (f x).row) new.row
      → HaveAdded setup earlier s (map f (take (i + 1) xs)) n r front slots' next
  added_next setup earlier s mid next xs i x front slots slots' new n m r h is more (news, all, redone) one text leads few = (
    news ++ new ∷ [],
    more ∙ (ap (λ zs. zs ++ new ∷ []) all ∙ append_assoc front news (new ∷ [])),
    subst (λ olds. AreRedone setup earlier s (map Some (rows_of olds)) (texts_of olds) n r (news ++ new ∷ []) next) (sym (taken xs i x h is))
        (redone_append setup earlier s mid next (map f (take i xs)) (f x ∷ []) news (new ∷ []) n m r redone (redone_one setup earlier mid next (f x) new m r one text leads few)),
  )

  pub slot_here : (setup : SetupValue) (before : List EndedTheory) (s last : StateValue) (xs : List A) (i : ℕ) (x : A) → i < length xs → x ≡ get_or xs i x
      → AreSlots setup before s (map f (drop i xs)) last → IsSlot setup before s (f x) × AreSlots setup before (after s (f x).row.outcome) (map f (drop (i + 1) xs)) last
  slot_here setup before s last xs i x h is slots = subst (λ zs. AreSlots setup before s zs last) (left xs i x h is) slots

  pub left_next : (setup : SetupValue) (before : List EndedTheory) (drift next : DriftValue) (last state state' : StateValue) (new : OutcomeValue) (xs : List A) (i : ℕ) (x : A)
      → i < length xs → x ≡ get_or xs i x → state' ≡ after state new
      → ((s : StateValue) → IsSlot setup before s (f x) → AreAlike drift s state → AreAlike next (after s (f x).row.outcome) (after state new))
      → HaveLeft setup before drift (map f (drop i xs)) last state → HaveLeft setup before next (map f (drop (i + 1) xs)) last state'
  left_next setup before drift next last state state' new xs i x h is leads go (s, slots, alike) =
      let here = slot_here setup before s last xs i x h is slots in
      (after s (f x).row.outcome, here.1, subst (λ t. AreAlike next (after s (f x).row.outcome) t) (sym leads) (go s here.0 alike))

  -- from the place of a slot that keeps its state, the slots stand from that state on
  pub kept_leads : (xs : List A) (i : ℕ) (x : A) (s : StateValue) → i < length xs → x ≡ get_or xs i x → (f x).kept ≡ Some s → LeadTo (map f xs) (map f (drop i xs)) s
  kept_leads xs i x s h is e = λ setup before last are.
      let split = slots_split setup before start last i (map f xs) are in
      let there : AreSlots setup before split.0 (map f (drop i xs)) last = subst (λ zs. AreSlots setup before split.0 zs last) (sym (drop_map f xs i)) split.2 in
      let here = slot_here setup before split.0 last xs i x h is there in
      subst (λ t. AreSlots setup before t (map f (drop i xs)) last) (sym (kept_here setup before split.0 s (f x) e here.0)) there

module _ {A X : Type 0} (f : A → X) where
  -- one more at the end
  pub pushed : (xs ys : List A) (y : A) → ys ≡ xs ++ y ∷ [] → map f ys ≡ map f xs ++ f y ∷ []
  pushed xs ys y e = ap (map f) e ∙ map_more f xs (y ∷ [])

  none : (n : ℕ) → n < 0 → ⊥
  none n h = omega (arith, h)

  -- the last one of those that are left, where there is one
  pub last_left : (xs : List A) (n : ℕ) (x : A) → n < length xs → x ≡ get_or xs n x → drop n (map f xs) ≡ f x ∷ drop (suc n) (map f xs)
  last_left [] n x h is = absurd (none n h)
  last_left (y ∷ xs) zero x h is = ap (λ z. f z ∷ map f xs) (sym is)
  last_left (y ∷ xs) (suc n) x h is = last_left xs n x (omega (arith, h)) is

  -- a list from a place on
  pub from_here : (xs : List A) (n : ℕ) → map f (take (length xs - n) (drop n xs)) ≡ drop n (map f xs)
  from_here xs n = ap (map f) (take_all (length xs - n) (drop n xs) (omega (arith, length-drop n xs))) ∙ drop_map f xs n

  pub rest_here : (xs : List A) (n : ℕ) → map f (take (length xs - n) (drop n xs)) ≡ map f (drop n xs)
  rest_here xs n = ap (map f) (take_all (length xs - n) (drop n xs) (omega (arith, length-drop n xs)))

  parts_of : (xs : List A) (n : ℕ) → map f xs ≡ map f (take n xs) ++ map f (drop n xs)
  parts_of xs zero = refl
  parts_of [] (suc n) = refl
  parts_of (x ∷ xs) (suc n) = ap (λ ys. f x ∷ ys) (parts_of xs n)

-- ---- the end of the loop

module _ {A : Type 0} (f : A → SlotValue) where
  -- all slots were settled
  pub added_all : (setup : SetupValue) (earlier : List EndedTheory) (s last last' : StateValue) (xs : List A) (at n m : ℕ) (olds front slots slots' : List SlotValue) → olds ≡ map f xs → length xs ≤ at
      → slots' ≡ slots → last' ≡ last → HaveAdded setup earlier s (map f (take at xs)) n m front slots last → HaveAdded setup earlier s olds n m front slots' last'
  added_all setup earlier s last last' xs at n m olds front slots slots' is end same ends added =
      let all : map f (take at xs) ≡ olds = ap (map f) (take_all at xs end) ∙ sym is in
      subst (λ os. HaveAdded setup earlier s os n m front slots' last') all
      (subst (λ zs. HaveAdded setup earlier s (map f (take at xs)) n m front zs last') (sym same)
      (subst (λ t. HaveAdded setup earlier s (map f (take at xs)) n m front slots t) (sym ends) added))

  -- from a place on the slots are taken as they stand, since the states are one there
  pub added_cut : (setup : SetupValue) (before earlier : List EndedTheory) (drift : DriftValue) (s mid last last' : StateValue) (xs : List A) (at n m : ℕ) (olds front slots slots' : List SlotValue) → olds ≡ map f xs
      → slots' ≡ slots ++ map f (drop at xs) → last' ≡ last → drift.entries ≡ true → drift.proof ≡ true → EachImportsAlike before earlier (drop at olds)
      → HaveLeft setup before drift (map f (drop at xs)) last mid → HaveAdded setup earlier s (map f (take at xs)) n m front slots mid → HaveAdded setup earlier s olds n m front slots' last'
  added_cut setup before earlier drift s mid last last' xs at n m olds front slots slots' is more ends entries proof same (t, left, alike) (news, all, redone) =
      let one : t ≡ mid = states_one drift t mid entries proof alike in
      let later : drop at olds ≡ map f (drop at xs) = ap (drop at) is ∙ sym (drop_map f xs at) in
      let rest : AreSlots setup earlier mid (map f (drop at xs)) last' =
      subst (λ (e : StateValue). AreSlots setup earlier mid (map f (drop at xs)) e) (sym ends)
      (slots_elsewhere setup before earlier mid (map f (drop at xs)) last (subst (EachImportsAlike before earlier) later same) (subst (λ (u : StateValue). AreSlots setup before u (map f (drop at xs)) last) one left)) in
      let whole : map f (take at xs) ++ map f (drop at xs) ≡ olds = sym (parts_of f xs at) ∙ sym is in (
        news ++ map f (drop at xs),
        more ∙ (ap (λ zs. zs ++ map f (drop at xs)) all ∙ append_assoc front news (map f (drop at xs))),
        subst (λ os. AreRedone setup earlier s (map Some (rows_of os)) (texts_of os) n m (news ++ map f (drop at xs)) last') whole
            (redone_append setup earlier s mid last' (map f (take at xs)) (map f (drop at xs)) news (map f (drop at xs)) n m m redone (redone_same setup earlier mid last' (map f (drop at xs)) m rest)),
      )

  -- the last entries are the same, where no difference is known of them
  pub end_same : (setup : SetupValue) (before : List EndedTheory) (drift : DriftValue) (state last : StateValue) (xs : List A) (at : ℕ) → length xs ≤ at → drift.entries ≡ true
      → HaveLeft setup before drift (map f (drop at xs)) last state → state.entries ≡ last.entries
  end_same setup before drift state last xs at end entries (t, left, alike) =
      let none : map f (drop at xs) ≡ [] = ap (map f) (drop_of_length-le xs end) in
      let here : last ≡ t = subst (λ zs. AreSlots setup before t zs last) none left in
      sym (alike.whole entries) ∙ ap (λ (s : StateValue). s.entries) (sym here)

  -- the state after slots from a place on, where they lead there
  pub led_here : (xs : List A) (i : ℕ) (s t : StateValue) → LeadTo (map f xs) (map f (drop i xs)) s
      → ((setup : SetupValue) (before : List EndedTheory) (last : StateValue) → AreSlots setup before s (map f (take (length xs - i) (drop i xs))) last → t ≡ last)
      → (setup : SetupValue) (before : List EndedTheory) (last : StateValue) → AreSlots setup before start (map f xs) last → t ≡ last
  led_here xs i s t leads ends = λ setup before last are. ends setup before last (subst (λ zs. AreSlots setup before s zs last) (sym (rest_here f xs i)) (leads setup before last are))

  rest_all : (xs : List A) (at : ℕ) → take (length xs - at) (drop at xs) ≡ drop at xs
  rest_all xs at = take_all (length xs - at) (drop at xs) (omega (arith, length-drop at xs))

  rest_none : (xs : List A) (at : ℕ) → at ≡ length xs → take (length xs - at) (drop at xs) ≡ []
  rest_none xs at e = rest_all xs at ∙ drop_of_length-le xs (omega (arith, e))

  rest_some : (xs : List A) (at : ℕ) → at < length xs → 0 < length (take (length xs - at) (drop at xs))
  rest_some xs at h = rw (rest_all xs at) (omega (arith, h, length-drop at xs))

  -- from a place on the slots are taken as they stand, if any are left there: the states are one
  pub added_either : (setup : SetupValue) (before earlier : List EndedTheory) (drift : DriftValue) (s mid last last' : StateValue) (xs : List A) (at until n m : ℕ) (olds front slots slots' : List SlotValue)
      → olds ≡ map f xs → at ≤ length xs → slots' ≡ slots ++ map f (take (length xs - at) (drop at xs))
      → (length (take (length xs - at) (drop at xs)) ≡ 0 → last' ≡ mid) → (0 < length (take (length xs - at) (drop at xs)) → last' ≡ last)
      → (at < length xs → drift.entries ≡ true) → (at < length xs → drift.proof ≡ true) → (at < length xs → until ≤ at) → EachImportsAlike before earlier (drop until olds)
      → HaveLeft setup before drift (map f (drop at xs)) last mid → HaveAdded setup earlier s (map f (take at xs)) n m front slots mid → HaveAdded setup earlier s olds n m front slots' last'
  added_either setup before earlier drift s mid last last' xs at until n m olds front slots slots' is within more all cut entries proof past same left added =
      elim (eq-or-lt_of_le {n = at} {m = length xs} within) [
        | inl e ↦
            added_all setup earlier s mid last' xs at n m olds front slots slots' is (omega (arith, e))
            (more ∙ (ap (λ zs. slots ++ map f zs) (rest_none xs at e) ∙ append_none slots)) (all (ap length (rest_none xs at e))) added
        | inr h ↦
            added_cut setup before earlier drift s mid last last' xs at n m olds front slots slots' is
            (more ∙ ap (λ zs. slots ++ map f zs) (rest_all xs at)) (cut (rest_some xs at h)) (entries h) (proof h) (imports_later before earlier until at olds (past h) same) left added
      ]

  -- the last entries are the same, where no difference is known of them
  pub end_either : (setup : SetupValue) (before : List EndedTheory) (drift : DriftValue) (state last last' : StateValue) (xs : List A) (at : ℕ) → at ≤ length xs
      → (length (take (length xs - at) (drop at xs)) ≡ 0 → last' ≡ state) → (0 < length (take (length xs - at) (drop at xs)) → last' ≡ last)
      → drift.entries ≡ true → HaveLeft setup before drift (map f (drop at xs)) last state → last'.entries ≡ last.entries
  end_either setup before drift state last last' xs at within all cut entries left =
      elim (eq-or-lt_of_le {n = at} {m = length xs} within) [
        | inl e ↦ ap (λ (s : StateValue). s.entries) (all (ap length (rest_none xs at e))) ∙ end_same setup before drift state last xs at (omega (arith, e)) entries left
        | inr h ↦ ap (λ (s : StateValue). s.entries) (cut (rest_some xs at h))
      ]
