-- Theories after an edit: those before it as they were, one that is edited, new or dropped, and those that follow.
use Rattle.std.specs.Prelude.{◌≡◌, ◌≤◌, ◌<◌, ◌+◌, ◌-◌, ℕ, zero, suc, List, [], ◌∷◌, ◌++◌, map, take, drop, length, get_or, slice_set, slice_index_or, cond, nat_lt, Bool, bytes_eq, position, Option, Some, None, refl}
use Rattle.std.specs.List.{insert, position_or_len}
use Rattle.std.proofs.lemmas.List.Recursion.{is_position_or_len}
use Rattle.std.proofs.Common.{ap, sym, ◌∙◌, subst, append_assoc, arith, add-one}
use Rattle.std.proofs.lemmas.List.{length-drop, take_all}
use Rattle.std.proofs.Math.Seq.{drop-cons, take-suc}
use Rattle.hol_exec.specs.Setup.{SetupValue}
use Rattle.hol_exec.specs.StateValue.{StateValue, EndedTheory, start}
use Rattle.hol_document.specs.Affected.{EditPlace, AddsTheory, DropsTheory, affected_rows, affected_in, rows_before, changed_at, beside, affected, RunsAffected}
use Rattle.hol_document.specs.Afresh.{Row, AreRuns, ended}
use Rattle.hol_document.specs.Documents.{Documents, TheoryText, find_theory, no_theory}
use Rattle.hol_document.specs.Settled.{HaveAdded, IsEdited, AreFollowing, HaveFollowed, rows_of, texts_of, rows_beside, edit_place, edited_texts}
use Rattle.hol_document.specs.Slots.{SlotValue, AreSlots, StandingValue, AreStanding, IsStandingAt, ended_of, text_of, run_of}
use Rattle.hol_document.specs.declared.redo.Edit.{Edit}
use Rattle.hol_document.specs.declared.redo.Edit.TheVariants as edit
use Rattle.hol_document.proofs.Counting.{theories_append, theories_same, changed_there}
use Rattle.hol_document.proofs.Edited.{inserted_map, replaced_map, removed_map}
use Rattle.hol_document.proofs.Redone.{append_none, map_more, map_length, take_map, drop_map}
use Rattle.hol_document.proofs.Standing.{standing_append, standing_split, runs_of_standing}

-- ---- one theory after those before it

-- a theory that was redone from its first slot on
pub redone_whole : (setup : SetupValue) (earlier : List EndedTheory) (last : StateValue) (olds front slots : List SlotValue) (n m : ℕ)
    → front ≡ [] → HaveAdded setup earlier start olds n m front slots last → IsEdited setup earlier (texts_of olds) (map Some (rows_of olds)) n m slots last
redone_whole setup earlier last olds front slots n m none (news, all, redone) =
    let same : slots ≡ news = all ∙ ap (λ xs. xs ++ news) none in
    record {
      are = subst (λ xs. AreSlots setup earlier start xs last) (sym same) redone.are;
      texts_are = ap texts_of same ∙ redone.texts_are;
      few = subst (λ xs. m ≤ n + affected_rows (map Some (rows_of olds)) (rows_of xs)) (sym same) redone.few;
    }

-- ---- the theories that follow

runs_length : (theories : List StandingValue) → length (map rows_before (map run_of theories)) ≡ length theories
runs_length theories = map_length rows_before (map run_of theories) ∙ map_length run_of theories

olds_append : (xs ys : List StandingValue) → map rows_before (map run_of (xs ++ ys)) ≡ map rows_before (map run_of xs) ++ map rows_before (map run_of ys)
olds_append xs ys = ap (map rows_before) (map_more run_of xs ys) ∙ map_more rows_before (map run_of xs) (map run_of ys)

text_lengths : (news olds : List StandingValue) → map text_of news ≡ map text_of olds → length news ≡ length olds
text_lengths news olds e = sym (map_length text_of news) ∙ (ap length e ∙ map_length text_of olds)

text_same : (t t' : StandingValue) → t'.name ≡ t.name → texts_of t'.slots ≡ texts_of t.slots → text_of t' ≡ text_of t
text_same t t' n e = λ i. record { name = n i; commands = e i }

-- one theory more
pub following_more : (setup : SetupValue) (earlier : List EndedTheory) (olds news : List StandingValue) (t t' : StandingValue) (n m r : ℕ)
    → AreFollowing setup earlier olds n m news → AreSlots setup (earlier ++ map ended_of news) start t'.slots t'.last → t'.name ≡ t.name → texts_of t'.slots ≡ texts_of t.slots
    → r ≤ m + affected_rows (map Some (rows_of t.slots)) (rows_of t'.slots) → AreFollowing setup earlier (olds ++ t ∷ []) n r (news ++ t' ∷ [])
following_more setup earlier olds news t t' n m r h are name texts few = record {
  are = standing_append setup earlier news (t' ∷ []) h.are (are, tt);
  texts_are = map_more text_of news (t' ∷ []) ∙ ((λ i. h.texts_are i ++ text_same t t' name texts i ∷ []) ∙ sym (map_more text_of olds (t ∷ [])));
  few =
      let sum : affected_in (map rows_before (map run_of (olds ++ t ∷ []))) (map run_of (news ++ t' ∷ []))
      ≡ affected_in (map rows_before (map run_of olds)) (map run_of news) + affected_in (map rows_before (map run_of (t ∷ []))) (map run_of (t' ∷ []))
      = (λ i. affected_in (olds_append olds (t ∷ []) i) (map_more run_of news (t' ∷ []) i))
      ∙ theories_append (map rows_before (map run_of olds)) (map rows_before (map run_of (t ∷ []))) (map run_of news) (map run_of (t' ∷ []))
      (runs_length olds ∙ (sym (text_lengths news olds h.texts_are) ∙ sym (map_length run_of news))) in
      rw sum (omega (arith, h.few, few));
}

-- one turn of the loop over theories
pub followed_next : (setup : SetupValue) (front done done' theories : List StandingValue) (i : ℕ) (t t' : StandingValue) (n m r : ℕ)
    → i < length theories → t ≡ get_or theories i t → done' ≡ done ++ t' ∷ [] → HaveFollowed setup front (take i theories) n m done
    → AreSlots setup (map ended_of done) start t'.slots t'.last → t'.name ≡ t.name → texts_of t'.slots ≡ texts_of t.slots
    → r ≤ m + affected_rows (map Some (rows_of t.slots)) (rows_of t'.slots) → HaveFollowed setup front (take (i + 1) theories) n r done'
followed_next setup front done done' theories i t t' n m r h is more (news, all, follow) are name texts few =
    let olds : take (i + 1) theories ≡ take i theories ++ t ∷ [] = rw (add-one, take-suc theories i t h, ← is) refl in
    let ends : map ended_of done ≡ map ended_of front ++ map ended_of news = ap (map ended_of) all ∙ map_more ended_of front news in (
      news ++ t' ∷ [],
      more ∙ (ap (λ xs. xs ++ t' ∷ []) all ∙ append_assoc front news (t' ∷ [])),
      subst (λ xs. AreFollowing setup (map ended_of front) xs n r (news ++ t' ∷ [])) (sym olds)
          (following_more setup (map ended_of front) (take i theories) news t t' n m r follow (subst (λ e. AreSlots setup e start t'.slots t'.last) ends are) name texts few),
    )

pub theory_here : (setup : SetupValue) (before : List EndedTheory) (theories : List StandingValue) (i : ℕ) (t : StandingValue) → i < length theories → t ≡ get_or theories i t
    → AreStanding setup before (drop i theories) → AreSlots setup before start t.slots t.last × AreStanding setup (before ++ ended_of t ∷ []) (drop (i + 1) theories)
theory_here setup before theories i t h is stand =
    let all : drop i theories ≡ t ∷ drop (i + 1) theories = rw (add-one, drop-cons theories i t h, ← is) refl in
    subst (λ xs. AreStanding setup before xs) all stand

-- ---- all theories after an edit

none : (n : ℕ) → n < 0 → ⊥
none n h = omega (arith, h)

split_next : {A : Type 0} (xs : List A) (i : ℕ) (x : A) → i < length xs → x ≡ get_or xs i x → xs ≡ take i xs ++ x ∷ drop (suc i) xs
split_next [] i x h is = absurd (none i h)
split_next (y ∷ xs) zero x h is = ap (λ z. z ∷ xs) (sym is)
split_next (y ∷ xs) (suc i) x h is = ap (λ zs. y ∷ zs) (split_next xs i x (omega (arith, h)) is)

split_at : {A : Type 0} (xs : List A) (i : ℕ) (x : A) → i < length xs → x ≡ get_or xs i x → xs ≡ take i xs ++ x ∷ drop (i + 1) xs
split_at xs i x h is = rw add-one (split_next xs i x h is)

take_length : {A : Type 0} (xs : List A) (i : ℕ) → i < length xs → length (take i xs) ≡ i
take_length [] i h = absurd (none i h)
take_length (y ∷ xs) zero h = refl
take_length (y ∷ xs) (suc i) h = ap suc (take_length xs i (omega (arith, h)))

-- nothing is affected in the theories before
affected_after : (front mids news : List StandingValue) (omids more : List (List (Option Row))) → length omids ≡ length mids
    → affected_in (map rows_before (map run_of front) ++ (omids ++ more)) (map run_of (front ++ (mids ++ news))) ≡ affected_in omids (map run_of mids) + affected_in more (map run_of news)
affected_after front mids news omids more len =
    let all : affected_in (map rows_before (map run_of front) ++ (omids ++ more)) (map run_of (front ++ (mids ++ news)))
    ≡ affected_in (map rows_before (map run_of front)) (map run_of front) + affected_in (omids ++ more) (map run_of (mids ++ news))
    = ap (affected_in (map rows_before (map run_of front) ++ (omids ++ more))) (map_more run_of front (mids ++ news))
    ∙ theories_append (map rows_before (map run_of front)) (omids ++ more) (map run_of front) (map run_of (mids ++ news)) (map_length rows_before (map run_of front)) in
    let middle : affected_in (omids ++ more) (map run_of (mids ++ news)) ≡ affected_in omids (map run_of mids) + affected_in more (map run_of news)
    = ap (affected_in (omids ++ more)) (map_more run_of mids news)
    ∙ theories_append omids more (map run_of mids) (map run_of news) (len ∙ sym (map_length run_of mids)) in
    omega (arith, all, middle, theories_same (map run_of front))

-- the theories after an edit stand, and it affects no more than was run
pub record IsAfter (setup : SetupValue) (standing : List StandingValue) (place : EditPlace) (texts : List TheoryText) (n r : ℕ) (done : List StandingValue) : Type 0 where
  pub stand : AreStanding setup [] done
  pub texts_are : map text_of done ≡ texts
  pub runs : (cache : ℕ) → RunsAffected (record { theories = map text_of standing; setup = setup; cache = cache }) (record { theories = map text_of done; setup = setup; cache = cache }) place n r

after_all : (setup : SetupValue) (standing front mids rest done : List StandingValue) (place : EditPlace) (omids : List (List (Option Row))) (n m r : ℕ)
    → AreStanding setup [] standing → AreStanding setup [] (front ++ mids) → length omids ≡ length mids
    → beside place (map rows_before (map run_of standing)) ≡ map rows_before (map run_of front) ++ (omids ++ map rows_before (map run_of rest))
    → m ≤ n + affected_in omids (map run_of mids) → HaveFollowed setup (front ++ mids) rest m r done
    → IsAfter setup standing place (map text_of (front ++ mids) ++ map text_of rest) n r done
after_all setup standing front mids rest done place omids n m r old stand len sides few (news, all, follow) =
    let whole : done ≡ front ++ (mids ++ news) = all ∙ append_assoc front mids news in
    let new : AreStanding setup [] done = subst (AreStanding setup []) (sym all) (standing_append setup [] (front ++ mids) news stand follow.are) in
    record {
      stand = new;
      texts_are = ap (map text_of) all ∙ (map_more text_of (front ++ mids) news ∙ ap (λ ts. map text_of (front ++ mids) ++ ts) follow.texts_are);
      runs = λ cache. record {
        before = map run_of standing;
        stood = runs_of_standing setup [] standing old;
        runs = map run_of done;
        stand = runs_of_standing setup [] done new;
        few =
            let sum : affected place (map run_of standing) (map run_of done) ≡ affected_in omids (map run_of mids) + affected_in (map rows_before (map run_of rest)) (map run_of news)
            = (λ i. affected_in (sides i) (map run_of (whole i))) ∙ affected_after front mids news omids (map rows_before (map run_of rest)) len in
            rw sum (omega (arith, few, follow.few));
      };
    }

beside_edit : (e : Edit) (at i : ℕ) (olds : List (List (Option Row))) → beside (edit_place e at i) olds ≡ changed_at (rows_beside e at) i olds
beside_edit (edit.Insert line) at i olds = refl
beside_edit (edit.Replace line) at i olds = refl
beside_edit edit.Remove at i olds = refl

-- with an edit in one of them
pub after_edit : (setup : SetupValue) (standing done : List StandingValue) (t t' : StandingValue) (i at : ℕ) (e : Edit) (n m r : ℕ)
    → i < length standing → t ≡ get_or standing i t → AreStanding setup [] standing → AreStanding setup [] (take i standing)
    → AreSlots setup (map ended_of (take i standing)) start t'.slots t'.last → m ≤ n + affected_rows (rows_beside e at (map Some (rows_of t.slots))) (rows_of t'.slots)
    → HaveFollowed setup (take i standing ++ t' ∷ []) (drop (i + 1) standing) m r done
    → IsAfter setup standing (edit_place e at i) (map text_of (take i standing ++ t' ∷ []) ++ map text_of (drop (i + 1) standing)) n r done
after_edit setup standing done t t' i at e n m r h is old front are few follow =
    let olds = λ (xs : List StandingValue). map rows_before (map run_of xs) in
    let place : beside (edit_place e at i) (olds standing) ≡ olds (take i standing) ++ (rows_beside e at (map Some (rows_of t.slots)) ∷ [] ++ olds (drop (i + 1) standing)) =
    beside_edit e at i (olds standing)
    ∙ (ap (λ xs. changed_at (rows_beside e at) i (olds xs)) (split_at standing i t h is)
    ∙ (ap (changed_at (rows_beside e at) i) (olds_append (take i standing) (t ∷ drop (i + 1) standing))
    ∙ (ap (λ k. changed_at (rows_beside e at) k (olds (take i standing) ++ olds (t ∷ drop (i + 1) standing))) (sym (runs_length (take i standing) ∙ take_length standing i h))
    ∙ changed_there (rows_beside e at) (olds (take i standing)) (map Some (rows_of t.slots)) (olds (drop (i + 1) standing))))) in
    after_all setup standing (take i standing) (t' ∷ []) (drop (i + 1) standing) done (edit_place e at i) (rows_beside e at (map Some (rows_of t.slots)) ∷ []) n m r
    old (standing_append setup [] (take i standing) (t' ∷ []) front (are, tt)) refl place (omega (arith, few)) follow

-- with one more
pub after_new : (setup : SetupValue) (standing done : List StandingValue) (t' : StandingValue) (at n r : ℕ)
    → AreStanding setup [] standing → AreStanding setup [] (take at standing) → t'.slots ≡ [] → t'.last ≡ start
    → HaveFollowed setup (take at standing ++ t' ∷ []) (drop at standing) n r done
    → IsAfter setup standing (AddsTheory at) (map text_of (take at standing ++ t' ∷ []) ++ map text_of (drop at standing)) n r done
after_new setup standing done t' at n r old front none begins follow =
    let olds = λ (xs : List StandingValue). map rows_before (map run_of xs) in
    let place : beside (AddsTheory at) (olds standing) ≡ olds (take at standing) ++ ([] ∷ [] ++ olds (drop at standing)) =
    inserted_map rows_before (map run_of standing) at [] ∙ (λ i. map rows_before (sym (take_map run_of standing at) i) ++ [] ∷ map rows_before (sym (drop_map run_of standing at) i)) in
    let are : AreSlots setup (map ended_of (take at standing)) start t'.slots t'.last = subst (λ xs. AreSlots setup (map ended_of (take at standing)) start xs t'.last) (sym none) begins in
    after_all setup standing (take at standing) (t' ∷ []) (drop at standing) done (AddsTheory at) ([] ∷ []) n n r
    old (standing_append setup [] (take at standing) (t' ∷ []) front (are, tt)) refl place (omega arith) follow

-- without one
pub after_drop : (setup : SetupValue) (standing done : List StandingValue) (i n r : ℕ)
    → AreStanding setup [] standing → AreStanding setup [] (take i standing) → HaveFollowed setup (take i standing) (drop (i + 1) standing) n r done
    → IsAfter setup standing (DropsTheory i) (map text_of (take i standing) ++ map text_of (drop (i + 1) standing)) n r done
after_drop setup standing done i n r old front follow =
    let olds = λ (xs : List StandingValue). map rows_before (map run_of xs) in
    let place : beside (DropsTheory i) (olds standing) ≡ olds (take i standing) ++ olds (drop (i + 1) standing) =
    removed_map rows_before (map run_of standing) i ∙ (λ j. map rows_before (sym (take_map run_of standing i) j) ++ map rows_before (sym (drop_map run_of standing (i + 1)) j)) in
    let none : take i standing ++ [] ≡ take i standing = append_none (take i standing) in
    subst (λ xs. IsAfter setup standing (DropsTheory i) (map text_of xs ++ map text_of (drop (i + 1) standing)) n r done) none
    (after_all setup standing (take i standing) [] (drop (i + 1) standing) done (DropsTheory i) [] n n r
    old (subst (AreStanding setup []) (sym none) front) refl place (omega arith) (subst (λ xs. HaveFollowed setup xs (drop (i + 1) standing) n r done) (sym none) follow))

-- ---- the theory at a place

ends_of_runs : (theories : List StandingValue) → map ended (map run_of theories) ≡ map ended_of theories
ends_of_runs [] = refl
ends_of_runs (t ∷ theories) = ap (λ es. ended_of t ∷ es) (ends_of_runs theories)

text_there : (standing : List StandingValue) (i : ℕ) (t : StandingValue) → i < length standing → t ≡ get_or standing i t → slice_index_or (map text_of standing) i no_theory ≡ text_of t
text_there [] i t h is = absurd (none i h)
text_there (x ∷ standing) zero t h is = ap text_of (sym is)
text_there (x ∷ standing) (suc i) t h is = text_there standing i t (omega (arith, h)) is

pub standing_at : (docs : Documents) (setup : SetupValue) (cache : ℕ) (standing : List StandingValue) (i : ℕ) (t : StandingValue) → record { theories = map text_of standing; setup = setup; cache = cache } ≡ docs
    → AreStanding setup [] standing → i < length standing → t ≡ get_or standing i t → IsStandingAt docs i t
standing_at docs setup cache standing i t is stand h here =
    let parts = standing_split setup [] i standing stand in
    let slots = theory_here setup (map ended_of (take i standing)) standing i t h here parts.1 in
    subst (λ (d : Documents). IsStandingAt d i t) is (record {
      before = map run_of (take i standing);
      runs = subst (λ ts. AreRuns setup [] ts (map run_of (take i standing))) (take_map text_of standing i) (runs_of_standing setup [] (take i standing) parts.0);
      are = subst (λ es. AreSlots setup es start t.slots t.last) (sym (ends_of_runs (take i standing))) slots.0;
      is = text_there standing i t h here;
    })

-- ---- the texts of all theories after an edit

pub texts_edited : (standing : List StandingValue) (i : ℕ) (t t' : StandingValue) (change : List (List ℕ) → List (List ℕ)) → i < length standing → t ≡ get_or standing i t → t'.name ≡ t.name
    → texts_of t'.slots ≡ change (texts_of t.slots)
    → map text_of (take i standing ++ t' ∷ []) ++ map text_of (drop (i + 1) standing)
    ≡ slice_set (map text_of standing) i (record { name = (slice_index_or (map text_of standing) i no_theory).name; commands = change (slice_index_or (map text_of standing) i no_theory).commands })
texts_edited standing i t t' change h is name texts =
    let there : slice_index_or (map text_of standing) i no_theory ≡ text_of t = text_there standing i t h is in
    let own : text_of t' ≡ record { name = (slice_index_or (map text_of standing) i no_theory).name; commands = change (slice_index_or (map text_of standing) i no_theory).commands } =
    (λ j. record { name = name j; commands = texts j }) ∙ (λ j. record { name = (sym there j).name; commands = change (sym there j).commands }) in
    ap (λ ts. ts ++ map text_of (drop (i + 1) standing)) (map_more text_of (take i standing) (t' ∷ []))
    ∙ (append_assoc (map text_of (take i standing)) (text_of t' ∷ []) (map text_of (drop (i + 1) standing))
    ∙ (ap (λ text. map text_of (take i standing) ++ text ∷ map text_of (drop (i + 1) standing)) own
    ∙ sym (replaced_map text_of standing i _ h)))

pub texts_inserted : (standing : List StandingValue) (at : ℕ) (t' : StandingValue) → map text_of (take at standing ++ t' ∷ []) ++ map text_of (drop at standing) ≡ insert (map text_of standing) at (text_of t')
texts_inserted standing at t' =
    ap (λ ts. ts ++ map text_of (drop at standing)) (map_more text_of (take at standing) (t' ∷ []))
    ∙ (append_assoc (map text_of (take at standing)) (text_of t' ∷ []) (map text_of (drop at standing)) ∙ sym (inserted_map text_of standing at (text_of t')))

-- the place of a name
abbrev place_in : {A : Type 0} → (A → Bool) → List A → ℕ
place_in p [] = 0
place_in p (x ∷ xs) = cond (p x) 0 (1 + place_in p xs)

pub find_text : (name : List ℕ) (standing : List StandingValue) → position (λ t. bytes_eq t.name name) standing ≡ find_theory name (map text_of standing)
find_text name standing =
    let of_texts : place_in (λ (t : TheoryText). bytes_eq t.name name) (map text_of standing) ≡ position_or_len (λ (t : TheoryText). bytes_eq t.name name) (map text_of standing) =
    is_position_or_len (place_in (λ (t : TheoryText). bytes_eq t.name name)) (λ (t : TheoryText). bytes_eq t.name name) refl (λ x xs. refl) (map text_of standing) in
    let of_theories : place_in (λ (t : TheoryText). bytes_eq t.name name) (map text_of standing) ≡ position_or_len (λ (t : StandingValue). bytes_eq t.name name) standing =
    is_position_or_len (λ xs. place_in (λ (t : TheoryText). bytes_eq t.name name) (map text_of xs)) (λ (t : StandingValue). bytes_eq t.name name) refl (λ x xs. refl) standing in
    let same = sym of_texts ∙ of_theories in
    λ i. cond (nat_lt (sym same i) (sym (map_length text_of standing) i)) (Some (sym same i)) None

-- ---- of the program's values, which are known to be these

-- what stands before the theory at a place, it, and what follows it
pub standing_here : (setup other : SetupValue) (standing front : List StandingValue) (i : ℕ) (t : StandingValue) → setup ≡ other → AreStanding setup [] standing → i < length standing → t ≡ get_or standing i t → front ≡ take i standing
    → AreSlots other (map ended_of front) start t.slots t.last × AreStanding other (map ended_of front ++ ended_of t ∷ []) (drop (i + 1) standing)
standing_here setup other standing front i t same stand h is first =
    let whole = subst (λ s. AreStanding s [] standing) same stand in
    let parts = standing_split other [] i standing whole in
    subst (λ xs. AreSlots other (map ended_of xs) start t.slots t.last × AreStanding other (map ended_of xs ++ ended_of t ∷ []) (drop (i + 1) standing)) (sym first)
    (theory_here other (map ended_of (take i standing)) standing i t h is parts.1)

pub count_there : (docs : Documents) (standing : List StandingValue) (i : ℕ) (t : StandingValue) → docs.theories ≡ map text_of standing → i < length standing → t ≡ get_or standing i t
    → length (slice_index_or docs.theories i no_theory).commands ≡ length t.slots
count_there docs standing i t view h is =
    ap (λ ts. length (slice_index_or ts i no_theory).commands) view
    ∙ (ap (λ (text : TheoryText). length text.commands) (text_there standing i t h is) ∙ map_length (λ (slot : SlotValue). slot.text) t.slots)

pub rest_of : (standing items : List StandingValue) (n : ℕ) → items ≡ standing → take (length items - n) (drop n items) ≡ drop n standing
rest_of standing items n is = take_all (length items - n) (drop n items) (omega (arith, length-drop n items)) ∙ ap (drop n) is

pub edit_after : (setup other : SetupValue) (standing front pushed rest done : List StandingValue) (t t' : StandingValue) (i at : ℕ) (e : Edit) (n m r : ℕ)
    → setup ≡ other → AreStanding setup [] standing → i < length standing → t ≡ get_or standing i t → front ≡ take i standing
    → IsEdited other (map ended_of front) (edited_texts e at (texts_of t.slots)) (rows_beside e at (map Some (rows_of t.slots))) n m t'.slots t'.last
    → pushed ≡ front ++ t' ∷ [] → rest ≡ drop (i + 1) standing → HaveFollowed other pushed rest m r done
    → IsAfter other standing (edit_place e at i) (map text_of (take i standing ++ t' ∷ []) ++ map text_of (drop (i + 1) standing)) n r done
edit_after setup other standing front pushed rest done t t' i at e n m r same stand h is first edited more later follow =
    let whole = subst (λ s. AreStanding s [] standing) same stand in
    let all : pushed ≡ take i standing ++ t' ∷ [] = more ∙ ap (λ xs. xs ++ t' ∷ []) first in
    after_edit other standing done t t' i at e n m r h is whole (standing_split other [] i standing whole).0
    (subst (λ xs. AreSlots other (map ended_of xs) start t'.slots t'.last) first edited.are) edited.few
    (subst (λ xs. HaveFollowed other xs (drop (i + 1) standing) m r done) all (subst (λ xs. HaveFollowed other pushed xs m r done) later follow))

pub new_after : (setup other : SetupValue) (standing front pushed rest done : List StandingValue) (t' : StandingValue) (at n r : ℕ)
    → setup ≡ other → AreStanding setup [] standing → front ≡ take at standing → t'.slots ≡ [] → t'.last ≡ start
    → pushed ≡ front ++ t' ∷ [] → rest ≡ drop at standing → HaveFollowed other pushed rest n r done
    → IsAfter other standing (AddsTheory at) (map text_of (take at standing ++ t' ∷ []) ++ map text_of (drop at standing)) n r done
new_after setup other standing front pushed rest done t' at n r same stand first none begins more later follow =
    let whole = subst (λ s. AreStanding s [] standing) same stand in
    let all : pushed ≡ take at standing ++ t' ∷ [] = more ∙ ap (λ xs. xs ++ t' ∷ []) first in
    after_new other standing done t' at n r whole (standing_split other [] at standing whole).0 none begins
    (subst (λ xs. HaveFollowed other xs (drop at standing) n r done) all (subst (λ xs. HaveFollowed other pushed xs n r done) later follow))

pub drop_after : (setup other : SetupValue) (standing front rest done : List StandingValue) (i n r : ℕ)
    → setup ≡ other → AreStanding setup [] standing → front ≡ take i standing → rest ≡ drop (i + 1) standing → HaveFollowed other front rest n r done
    → IsAfter other standing (DropsTheory i) (map text_of (take i standing) ++ map text_of (drop (i + 1) standing)) n r done
drop_after setup other standing front rest done i n r same stand first later follow =
    let whole = subst (λ s. AreStanding s [] standing) same stand in
    after_drop other standing done i n r whole (standing_split other [] i standing whole).0
    (subst (λ xs. HaveFollowed other xs (drop (i + 1) standing) n r done) first (subst (λ xs. HaveFollowed other front xs n r done) later follow))

-- what an edit affects, of documents that are these
pub runs_as : (a a' b b' : Documents) (place : EditPlace) (n r : ℕ) → a ≡ a' → b ≡ b' → RunsAffected a b place n r → RunsAffected a' b' place n r
runs_as a a' b b' place n r e f h = subst (λ d. RunsAffected d b' place n r) e (subst (λ d. RunsAffected a d place n r) f h)

-- documents by another name of their set-up
pub docs_as : (theories : List TheoryText) (setup other : SetupValue) (cache : ℕ) → setup ≡ other
    → ◌≡◌ {A = Documents} (record { theories = theories; setup = other; cache = cache }) (record { theories = theories; setup = setup; cache = cache })
docs_as theories setup other cache e = λ i. record { theories = theories; setup = sym e i; cache = cache }

pub standing_as : (setup other : SetupValue) (done : List StandingValue) → other ≡ setup → AreStanding setup [] done → AreStanding other [] done
standing_as setup other done e h = subst (λ s. AreStanding s [] done) (sym e) h

-- a place of the documents is one of the theories that stand
pub within_of : (standing : List StandingValue) (theories : List TheoryText) (i : ℕ) → map text_of standing ≡ theories → i < length theories → i < length standing
within_of standing theories i view h = subst (λ n. i < n) (sym (ap length view) ∙ map_length text_of standing) h
