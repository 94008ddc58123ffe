-- Sizes of lists, and of what is given.
use Rattle.std.specs.Prelude.{◌≡◌, ◌≤◌, ◌<◌, ◌+◌, ◌||◌, ℕ, zero, suc, min, List, [], ◌∷◌, length, map, refl}
use Rattle.std.proofs.Common.{ap, sym, ◌∙◌, subst, arith, get_or, drop}
use Rattle.std.proofs.Math.Bool.{or-false}
use Rattle.std.specs.Ordering.{eq_by_cmp}
use Rattle.std.specs.FinSet as set
use Rattle.std.specs.List.Sorted.{IsStrictlySortedBy}
use Rattle.hol_types.specs.Tree.{TypeTree, type_size}
use Rattle.hol_terms.specs.Named.{Named}
use Rattle.hol_terms.specs.Nameless.{Nameless, free, bound, fixed, app, lam, nameless}
use Rattle.hol_terms.specs.Alpha.{strip}
use Rattle.hol_terms.specs.Size.{term_size}
use Rattle.hol_subst.specs.AlphaOrder.{nameless_cmp}
use Rattle.hol_subst.specs.Hypotheses.{Hyps, hyp_of, hyps_of, only_hyp}
use Rattle.hol_subst.proofs.HypothesisLists.{hyps_total, hyps_same}
use Rattle.hol_subst.proofs.SortedSets.{sorted_none, sorted_one, sorted_merged, set_merged}
use Rattle.hol_kernel.specs.Given.{Given, proved, assumed}
use Rattle.hol_kernel.specs.Theorem.{Theorem}
use Rattle.hol_kernel.proofs.Members.{from_list_items}
use Rattle.hol_kernel.proofs.Ordered.{sorted_is}
use Rattle.hol_match.specs.Listed.{in_order, listed}
use Rattle.hol_goal.specs.Goal.{terms_size}
use Rattle.hol_combine.specs.ExprValue.{ExprValue, Then, exprs, then_all, or_else_all, used_through}
use Rattle.hol_combine.specs.ExprSize.{given_size, givens_size, expr_size, exprs_size}
use Rattle.hol_combine.proofs.Lists.{drop_item, dropped_all}

-- ---- lists that are gone through

pub part_added : (ts : List ExprValue) (i : ℕ) (t : ExprValue) (size s new whole : ℕ) → i < length ts → t ≡ get_or ts i t → s ≡ min (expr_size t) 20001 → new ≡ min (size + s) 20001 →
    min (size + exprs_size (exprs (drop i ts))) 20001 ≡ min whole 20001 → min (new + exprs_size (exprs (drop (i + 1) ts))) 20001 ≡ min whole 20001
part_added ts i t size s new whole h is one sum all = let at = ap exprs_size (drop_item ts i t h is) in omega (arith, at, one, sum, all)

pub parts_added : (ts : List ExprValue) (i size whole : ℕ) → length ts ≤ i → size ≤ 20001 → min (size + exprs_size (exprs (drop i ts))) 20001 ≡ min whole 20001 → size ≡ min whole 20001
parts_added ts i size whole h few all = let at = ap exprs_size (dropped_all ts i h) in omega (arith, at, few, all)

more : (i : ℕ) → suc (i + 1) ≡ suc i + 1
more i = omega arith

drop_less : {X : Type 0} (xs : List X) (i : ℕ) → i < length xs → length (drop i xs) ≡ suc (length (drop (i + 1) xs))
drop_less [] i h = absurd (omega (arith, h))
drop_less (x ∷ xs) zero h = refl
drop_less (x ∷ xs) (suc i) h = drop_less xs i (omega (arith, h)) ∙ ap (λ j. suc (length (drop j (x ∷ xs)))) (more i)

drop_none : {X : Type 0} (xs : List X) (i : ℕ) → length xs ≤ i → length (drop i xs) ≡ 0
drop_none [] zero h = refl
drop_none [] (suc i) h = refl
drop_none (x ∷ xs) zero h = absurd (omega (arith, h))
drop_none (x ∷ xs) (suc i) h = drop_none xs i (omega (arith, h))

pub link_added : (ts : List ExprValue) (i : ℕ) (t : ExprValue) (size s one new whole : ℕ) → i < length ts → t ≡ get_or ts i t → s ≡ min (expr_size t) 20001 → one ≡ min (1 + s) 20001 → new ≡ min (size + one) 20001 →
    min (size + (length (drop i ts) + exprs_size (exprs (drop i ts)))) 20001 ≡ min whole 20001 → min (new + (length (drop (i + 1) ts) + exprs_size (exprs (drop (i + 1) ts)))) 20001 ≡ min whole 20001
link_added ts i t size s one new whole h is first more sum all = let at = ap exprs_size (drop_item ts i t h is) in let fewer = drop_less ts i h in omega (arith, at, fewer, first, more, sum, all)

pub links_added : (ts : List ExprValue) (i size whole : ℕ) → length ts ≤ i → size ≤ 20001 → min (size + (length (drop i ts) + exprs_size (exprs (drop i ts)))) 20001 ≡ min whole 20001 → size ≡ min whole 20001
links_added ts i size whole h few all = let at = ap exprs_size (dropped_all ts i h) in let none = drop_none ts i h in omega (arith, at, none, few, all)

given_at : (ths : List Given) (i : ℕ) (th : Given) → i < length ths → th ≡ get_or ths i th → givens_size (drop i ths) ≡ given_size th + givens_size (drop (i + 1) ths)
given_at [] i th h is = absurd (omega (arith, h))
given_at (x ∷ ths) zero th h is = ap (λ y. given_size y + givens_size ths) (sym is)
given_at (x ∷ ths) (suc i) th h is = given_at ths i th (omega (arith, h)) is ∙ ap (λ j. given_size th + givens_size (drop j (x ∷ ths))) (more i)

given_none : (ths : List Given) (i : ℕ) → length ths ≤ i → givens_size (drop i ths) ≡ 0
given_none [] zero h = refl
given_none [] (suc i) h = refl
given_none (x ∷ ths) zero h = absurd (omega (arith, h))
given_none (x ∷ ths) (suc i) h = given_none ths i (omega (arith, h))

pub given_added : (ths : List Given) (i : ℕ) (th : Given) (size s new whole : ℕ) → i < length ths → th ≡ get_or ths i th → s ≡ min (given_size th) 20001 → new ≡ min (size + s) 20001 →
    min (size + givens_size (drop i ths)) 20001 ≡ min whole 20001 → min (new + givens_size (drop (i + 1) ths)) 20001 ≡ min whole 20001
given_added ths i th size s new whole h is one sum all = let at = given_at ths i th h is in omega (arith, at, one, sum, all)

pub givens_added : (ths : List Given) (i size whole : ℕ) → length ths ≤ i → size ≤ 20001 → min (size + givens_size (drop i ths)) 20001 ≡ min whole 20001 → size ≡ min whole 20001
givens_added ths i size whole h few all = let at = given_none ths i h in omega (arith, at, few, all)

-- ---- chains

pub then_size : (t : ExprValue) (us : List ExprValue) → expr_size (then_all t us) ≡ expr_size t + (length us + exprs_size (exprs us))
then_size t [] = omega arith
then_size t (u ∷ us) = omega (arith, then_size (Then t u) us)

pub or_size : (t : ExprValue) (us : List ExprValue) → expr_size (or_else_all t us) ≡ expr_size t + (length us + exprs_size (exprs us))
or_size t [] = omega arith
or_size t (u ∷ us) = omega (arith, or_size u us)

pub used_size : (n : ℕ) (t : ExprValue) → expr_size (used_through n t) ≡ expr_size t
used_size zero t = refl
used_size (suc n) t = used_size n t

-- ---- hypotheses

strip_size : (env : List TypeTree) (t : Nameless) → term_size env (strip t) ≡ term_size env t
strip_size env (free v) = refl
strip_size env (bound i) = refl
strip_size env (fixed c s) = refl
strip_size env (app f x) = λ i. 1 + strip_size env f i + strip_size env x i
strip_size env (lam a s b) = λ i. 1 + type_size s + strip_size (s ∷ env) b i

stripped_size : (ps : List Named) → terms_size (map (nameless []) ps) ≡ terms_size (map hyp_of ps)
stripped_size [] = refl
stripped_size (p ∷ ps) = λ i. sym (strip_size [] (nameless [] p)) i + stripped_size ps i

order_sorted : (ns : List Nameless) → IsStrictlySortedBy nameless_cmp (in_order ns)
order_sorted [] = sorted_none hyps_total
order_sorted (n ∷ ns) = sorted_merged hyps_total (n ∷ []) (in_order ns) (sorted_one hyps_total n) (order_sorted ns)

one_more : (s : Hyps) (n : Nameless) → set.union (set.insert set.empty n) s ≡ set.insert s n
one_more s n =
    set.same_set hyps_total hyps_same (set.union (set.insert set.empty n) s) (set.insert s n)
    (λ q. set.contains-union hyps_total (set.insert set.empty n) s q
    ∙ ap (λ b. b || set.contains s q) (set.contains-insert hyps_total set.empty n q ∙ ap (λ b. eq_by_cmp nameless_cmp q n || b) (set.contains-empty nameless_cmp q) ∙ or-false (eq_by_cmp nameless_cmp q n))
    ∙ sym (set.contains-insert hyps_total s n q))

order_set : (ns : List Nameless) → set.from_list {R = nameless_cmp} (in_order ns) ≡ set.from_list ns
order_set [] = refl
order_set (n ∷ ns) = set_merged hyps_total hyps_same (n ∷ []) (in_order ns) ∙ one_more (set.from_list (in_order ns)) n ∙ ap (λ (s : Hyps). set.insert s n) (order_set ns)

-- a list in order is the set's
listed_is : (xs : List Nameless) (hs : Hyps) → IsStrictlySortedBy nameless_cmp xs → set.from_list xs ≡ hs → xs ≡ listed hs
listed_is xs hs o e =
    sorted_is hyps_total hyps_same xs hs o e
    ∙ sym (sorted_is hyps_total hyps_same (listed hs) hs (order_sorted (set.items hs)) (order_set (set.items hs) ∙ from_list_items hyps_total hyps_same hs))

-- ---- what is given

pub theorem_size : (given : Given) (th : Theorem) (ps : List Named) (concl : Named) (n : ℕ) → given ≡ proved th → hyps_of ps ≡ th.sequent.hyps → IsStrictlySortedBy nameless_cmp (map hyp_of ps) → nameless [] concl ≡ th.sequent.concl →
    n ≡ min (term_size [] (nameless [] concl) + terms_size (map (nameless []) ps)) 20001 → n ≡ min (given_size given) 20001
theorem_size given th ps concl n is hyps ordered last size =
    let all = stripped_size ps ∙ ap terms_size (listed_is (map hyp_of ps) th.sequent.hyps ordered hyps) in
    let one = ap (term_size []) last in
    subst (λ (g : Given). n ≡ min (given_size g) 20001) (sym is) (omega (arith, all, one, size))

pub assumed_size : (given : Given) (p : Named) (m k n : ℕ) → given ≡ assumed (nameless [] p) → m ≡ min (term_size [] (nameless [] p)) 20001 → k ≡ min (term_size [] (nameless [] p)) 20001 → n ≡ min (m + k) 20001 → n ≡ min (given_size given) 20001
assumed_size given p m k n is one other sum =
    let alone = ap terms_size (listed_is (hyp_of p ∷ []) (only_hyp (nameless [] p)) (sorted_one hyps_total (hyp_of p)) refl) in
    let same = strip_size [] (nameless [] p) in
    subst (λ (g : Given). n ≡ min (given_size g) 20001) (sym is) (omega (arith, alone, same, one, other, sum))
