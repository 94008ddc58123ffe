-- Slots and theories that stand: put one after the other, split, and taken as they are.
use Rattle.std.specs.Prelude.{◌≡◌, ◌≤◌, ◌+◌, ◌||◌, ℕ, zero, suc, List, [], ◌∷◌, ◌++◌, Bool, true, false, cond, bytes_eq, map, take, drop, Option, Some, None, IfSome, refl}
use Rattle.std.specs.List.{list_any}
use Rattle.std.proofs.Common.{ap, sym, ◌∙◌, subst, append_assoc, arith}
use Rattle.hol_exec.specs.At.{IsOutcomeAt, entries_named}
use Rattle.hol_exec.specs.CommandText.{Back, Rotate, Oops, Import, Local, Direct}
use Rattle.hol_exec.specs.OutcomeValue.{after}
use Rattle.hol_exec.specs.Reading.{ReadText, Reads, Breaks}
use Rattle.hol_exec.specs.Setup.{SetupValue}
use Rattle.hol_exec.specs.StateValue.{StateValue, EndedTheory, AreTheories, start}
use Rattle.hol_theory.specs.Entry.{Entries}
use Rattle.hol_document.specs.Afresh.{Row, IsRow, AreRows, AreRuns}
use Rattle.hol_document.specs.Alike.{ImportsAlike, EachImportsAlike, EndAlike}
use Rattle.hol_document.specs.Settled.{rows_of, texts_of}
use Rattle.hol_document.specs.Slots.{SlotValue, IsSlot, AreSlots, StandingValue, AreStanding, ended_of, text_of, run_of}
use Rattle.hol_document.proofs.Alike.{row_elsewhere}

pub append_none : {A : Type 0} (xs : List A) → xs ++ [] ≡ xs
append_none [] = refl
append_none (x ∷ xs) = ap (λ ys. x ∷ ys) (append_none xs)

-- ---- slots

pub slots_append : (setup : SetupValue) (earlier : List EndedTheory) (s mid last : StateValue) (front slots : List SlotValue)
    → AreSlots setup earlier s front mid → AreSlots setup earlier mid slots last → AreSlots setup earlier s (front ++ slots) last
slots_append setup earlier s mid last [] slots h k = subst (λ t. AreSlots setup earlier t slots last) h k
slots_append setup earlier s mid last (slot ∷ front) slots h k = (h.0, slots_append setup earlier (after s slot.row.outcome) mid last front slots h.1 k)

-- one slot more
pub slots_more : (setup : SetupValue) (earlier : List EndedTheory) (s mid next : StateValue) (front : List SlotValue) (slot : SlotValue)
    → AreSlots setup earlier s front mid → IsSlot setup earlier mid slot → next ≡ after mid slot.row.outcome → AreSlots setup earlier s (front ++ slot ∷ []) next
slots_more setup earlier s mid next front slot h k e = slots_append setup earlier s mid next front (slot ∷ []) h (k, e)

-- the state after the first slots
pub slots_split : (setup : SetupValue) (earlier : List EndedTheory) (s last : StateValue) (i : ℕ) (slots : List SlotValue)
    → AreSlots setup earlier s slots last → (mid : StateValue) × AreSlots setup earlier s (take i slots) mid × AreSlots setup earlier mid (drop i slots) last
slots_split setup earlier s last zero slots h = (s, refl, h)
slots_split setup earlier s last (suc i) [] h = (s, refl, h)
slots_split setup earlier s last (suc i) (slot ∷ slots) h =
    let rest = slots_split setup earlier (after s slot.row.outcome) last i slots h.1 in
    (rest.0, (h.0, rest.1), rest.2)

-- a state that a slot keeps is the one there
pub kept_here : (setup : SetupValue) (earlier : List EndedTheory) (s t : StateValue) (slot : SlotValue) → slot.kept ≡ Some t → IsSlot setup earlier s slot → t ≡ s
kept_here setup earlier s t slot e is = subst (λ kept. IfSome kept (λ u. u ≡ s)) e is.kept

-- slots lead to one state
pub slots_end : (setup setup' : SetupValue) (earlier earlier' : List EndedTheory) (s p q : StateValue) (slots : List SlotValue)
    → AreSlots setup earlier s slots p → AreSlots setup' earlier' s slots q → p ≡ q
slots_end setup setup' earlier earlier' s p q [] h k = h ∙ sym k
slots_end setup setup' earlier earlier' s p q (slot ∷ slots) h k = slots_end setup setup' earlier earlier' (after s slot.row.outcome) p q slots h.1 k.1

-- slots at the same state, after theories that end alike
pub slots_elsewhere : (setup : SetupValue) (before earlier : List EndedTheory) (s : StateValue) (slots : List SlotValue) (last : StateValue)
    → EachImportsAlike before earlier slots → AreSlots setup before s slots last → AreSlots setup earlier s slots last
slots_elsewhere setup before earlier s [] last same h = h
slots_elsewhere setup before earlier s (slot ∷ slots) last same h = (
  record { row = row_elsewhere setup before earlier s slot.text slot.row same.0 h.0.row; opened = h.0.opened; stands = h.0.stands; kept = h.0.kept },
  slots_elsewhere setup before earlier (after s slot.row.outcome) slots last same.1 h.1,
)

-- the outcome of a slot may come to the state
pub slot_at : (setup : SetupValue) (earlier : List EndedTheory) (s : StateValue) (text : List ℕ) (row : Row) → AreTheories earlier → IsRow setup earlier s text row → IsOutcomeAt s row.outcome
slot_at setup earlier s text row theories is = record { setup = setup; earlier = earlier; theories = theories; value = row.value; reads = row.reads; tested = row.tested; read = is.read; gets = is.gets }

pub rows_of_slots : (setup : SetupValue) (earlier : List EndedTheory) (s : StateValue) (slots : List SlotValue) (last : StateValue)
    → AreSlots setup earlier s slots last → AreRows setup earlier s (texts_of slots) (rows_of slots) last
rows_of_slots setup earlier s [] last h = h
rows_of_slots setup earlier s (slot ∷ slots) last h = (h.0.row, rows_of_slots setup earlier (after s slot.row.outcome) slots last h.1)

-- ---- imports

imports_same : (earlier : List EndedTheory) (value : ReadText) → ImportsAlike earlier earlier value
imports_same earlier (Reads (Local command)) = tt
imports_same earlier (Reads (Direct Back)) = tt
imports_same earlier (Reads (Direct (Rotate times))) = tt
imports_same earlier (Reads (Direct Oops)) = tt
imports_same earlier (Reads (Direct (Import name))) = refl
imports_same earlier (Breaks place) = tt

pub each_imports_same : (earlier : List EndedTheory) (slots : List SlotValue) → EachImportsAlike earlier earlier slots
each_imports_same earlier [] = tt
each_imports_same earlier (slot ∷ slots) = (imports_same earlier slot.row.value, each_imports_same earlier slots)

-- the later ones alone
pub imports_later : (before earlier : List EndedTheory) (i j : ℕ) (slots : List SlotValue) → i ≤ j → EachImportsAlike before earlier (drop i slots) → EachImportsAlike before earlier (drop j slots)
imports_later before earlier zero zero slots h same = same
imports_later before earlier zero (suc j) [] h same = tt
imports_later before earlier zero (suc j) (slot ∷ slots) h same = imports_later before earlier zero j slots (omega arith) same.1
imports_later before earlier (suc i) zero slots h same = absurd (none i h)
  where
    none : (i : ℕ) → suc i ≤ 0 → ⊥
    none i h = omega (arith, h)
imports_later before earlier (suc i) (suc j) [] h same = tt
imports_later before earlier (suc i) (suc j) (slot ∷ slots) h same = imports_later before earlier i j slots (omega (arith, h)) same

-- ---- theories that stand earlier

abbrev found_or : Option Entries → Option Entries → Option Entries
found_or None o = o
found_or (Some es) o = Some es

found : (b : Bool) (es : Entries) (rest all more : Option Entries) → all ≡ found_or rest more → cond b (Some es) all ≡ found_or (cond b (Some es) rest) more
found true es rest all more h = refl
found false es rest all more h = h

-- what is named in one more
pub named_more : (name : List ℕ) (front more : List EndedTheory) → entries_named name (front ++ more) ≡ found_or (entries_named name front) (entries_named name more)
named_more name [] more = refl
named_more name (theory ∷ front) more =
    found (bytes_eq theory.name name) theory.entries (entries_named name front) (entries_named name (front ++ more)) (entries_named name more) (named_more name front more)

-- theories that end alike, and after these one that ends the same
pub alike_more : (names : List (List ℕ)) (before earlier : List EndedTheory) (old new : EndedTheory) → new.name ≡ old.name → new.entries ≡ old.entries
    → EndAlike names before earlier → EndAlike names (before ++ old ∷ []) (earlier ++ new ∷ [])
alike_more names before earlier old new n e h = λ name k.
    named_more name before (old ∷ []) ∙ (ap (λ o. found_or o (entries_named name (old ∷ []))) (h name k)
    ∙ (ap (found_or (entries_named name earlier)) (λ i. cond (bytes_eq (sym n i) name) (Some (sym e i)) None) ∙ sym (named_more name earlier (new ∷ []))))

found_none : (o : Option Entries) → found_or o None ≡ o
found_none None = refl
found_none (Some es) = refl

-- one more of another name
named_other : (name : List ℕ) (front : List EndedTheory) (theory : EndedTheory) → bytes_eq theory.name name ≡ false → entries_named name (front ++ theory ∷ []) ≡ entries_named name front
named_other name front theory h =
    named_more name front (theory ∷ []) ∙ (ap (λ b. found_or (entries_named name front) (cond b (Some theory.entries) None)) h ∙ found_none (entries_named name front))

either_false : (b c : Bool) → (b || c) ≡ false → (b ≡ false) × (c ≡ false)
either_false true c h = absurd (cc)
either_false false c h = (refl, h)

any_parts : (name : List ℕ) (names : List (List ℕ)) (own : List ℕ) → list_any (λ changed. bytes_eq changed name) (names ++ own ∷ []) ≡ false
    → (list_any (λ changed. bytes_eq changed name) names ≡ false) × (bytes_eq own name ≡ false)
any_parts name [] own h = (refl, (either_false (bytes_eq own name) false h).0)
any_parts name (x ∷ names) own h =
    let parts = either_false (bytes_eq x name) (list_any (λ changed. bytes_eq changed name) (names ++ own ∷ [])) h in
    let rest = any_parts name names own parts.1 in
    (ap (λ b. b || list_any (λ changed. bytes_eq changed name) names) parts.0 ∙ rest.0, rest.1)

-- after these two that may end otherwise, whose name is changed then
pub alike_other : (names : List (List ℕ)) (before earlier : List EndedTheory) (old new : EndedTheory) → new.name ≡ old.name
    → EndAlike names before earlier → EndAlike (names ++ old.name ∷ []) (before ++ old ∷ []) (earlier ++ new ∷ [])
alike_other names before earlier old new n h = λ name k.
    let parts = any_parts name names old.name k in
    named_other name before old parts.1 ∙ (h name parts.0 ∙ sym (named_other name earlier new (ap (λ m. bytes_eq m name) n ∙ parts.1)))

-- a theory that is new, or dropped
pub alike_new : (before : List EndedTheory) (new : EndedTheory) → EndAlike (new.name ∷ []) before (before ++ new ∷ [])
alike_new before new = λ name k. sym (named_other name before new (either_false (bytes_eq new.name name) false k).0)

pub alike_dropped : (before : List EndedTheory) (old : EndedTheory) → EndAlike (old.name ∷ []) (before ++ old ∷ []) before
alike_dropped before old = λ name k. named_other name before old (either_false (bytes_eq old.name name) false k).0

pub alike_none : (before : List EndedTheory) → EndAlike [] before before
alike_none before = λ name k. refl

-- ---- theories

pub standing_append : (setup : SetupValue) (earlier : List EndedTheory) (front more : List StandingValue)
    → AreStanding setup earlier front → AreStanding setup (earlier ++ map ended_of front) more → AreStanding setup earlier (front ++ more)
standing_append setup earlier [] more h k =
    let none : earlier ++ [] ≡ earlier = append_none earlier in
    subst (λ e. AreStanding setup e more) none k
standing_append setup earlier (t ∷ front) more h k =
    (h.0, standing_append setup (earlier ++ ended_of t ∷ []) front more h.1 (subst (λ e. AreStanding setup e more) (sym (append_assoc earlier (ended_of t ∷ []) (map ended_of front))) k))

pub standing_split : (setup : SetupValue) (earlier : List EndedTheory) (i : ℕ) (theories : List StandingValue)
    → AreStanding setup earlier theories → AreStanding setup earlier (take i theories) × AreStanding setup (earlier ++ map ended_of (take i theories)) (drop i theories)
standing_split setup earlier zero theories h = (tt, subst (λ e. AreStanding setup e theories) (sym (append_none earlier)) h)
standing_split setup earlier (suc i) [] h = (tt, tt)
standing_split setup earlier (suc i) (t ∷ theories) h =
    let rest = standing_split setup (earlier ++ ended_of t ∷ []) i theories h.1 in
    ((h.0, rest.0), subst (λ e. AreStanding setup e (drop i theories)) (append_assoc earlier (ended_of t ∷ []) (map ended_of (take i theories))) rest.1)

-- theories that stand were run so
pub runs_of_standing : (setup : SetupValue) (earlier : List EndedTheory) (theories : List StandingValue)
    → AreStanding setup earlier theories → AreRuns setup earlier (map text_of theories) (map run_of theories)
runs_of_standing setup earlier [] h = tt
runs_of_standing setup earlier (t ∷ theories) h =
    (record { named = refl; are = rows_of_slots setup earlier start t.slots t.last h.0 }, runs_of_standing setup (earlier ++ ended_of t ∷ []) theories h.1)

-- the state that the first slots lead to, where it is known to be that
pub front_split : (setup : SetupValue) (before : List EndedTheory) (last state : StateValue) (at : ℕ) (slots : List SlotValue) → AreSlots setup before start slots last
    → ((mid : StateValue) → AreSlots setup before start (take at slots) mid → state ≡ mid) → AreSlots setup before start (take at slots) state × AreSlots setup before state (drop at slots) last
front_split setup before last state at slots h is =
    let split = slots_split setup before start last at slots h in
    let one : split.0 ≡ state = sym (is split.0 split.1) in
    (subst (λ (t : StateValue). AreSlots setup before start (take at slots) t) one split.1, subst (λ (t : StateValue). AreSlots setup before t (drop at slots) last) one split.2)
