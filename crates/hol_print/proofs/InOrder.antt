-- Variables put in their places.
use Rattle.std.proofs.Common.{◌≡◌, ℕ, zero, suc, ◌+◌, ◌-◌, ◌<◌, ◌≤◌, List, [], ◌∷◌, ◌++◌, take, drop, length, get_or, insert, map, Bool, true, false, cond, ◌||◌, refl, sym, ap, subst, ◌∙◌, true≢false, add-one, drop-cons, take-append-drop, drop_of_length-le, take_all, is_lt, is_gt, is_eq, arith}
use Rattle.std.specs.Cmp.{IsTotalOrder, then_total, on_total, upto, tied_itself}
use Rattle.std.specs.Cmp.Lexicographic.{nat_list_cmp_total}
use Rattle.std.specs.Ordering.{ordering_reverse}
use Rattle.std.specs.declared.cmp.Ordering.{Ordering}
use Rattle.std.specs.declared.cmp.Ordering.TheVariants.{Less, Equal, Greater}
use Rattle.hol_types.specs.Tree.{TypeTree}
use Rattle.hol_types.specs.Order.{name_cmp}
use Rattle.hol_types.specs.Equal.{variable_eq}
use Rattle.hol_types.proofs.Names.{or_swap}
use Rattle.hol_terms.specs.Named.{Named}
use Rattle.hol_terms.specs.Nameless.{Nameless, nameless, free_occurrences}
use Rattle.hol_terms.specs.Scoped.{binds, add_new, add_all}
use Rattle.hol_terms.proofs.Same.{variable_eq_decides}
use Rattle.hol_print.specs.ShowType.{show_type}
use Rattle.hol_print.specs.ShowGoal.{variable_order, put_in_order, put_new, put_all, put_terms, free_variables}
use Rattle.hol_print.specs.InOrder.{IsNotAfter, IsInOrder, IsAfter}

abbrev Var : Type 0
Var = List ℕ × TypeTree

-- ---- the order

ordered : IsTotalOrder variable_order
ordered = then_total (on_total (λ (v : Var). v.0) nat_list_cmp_total) (on_total (λ (v : Var). show_type v.1) nat_list_cmp_total)

turned : (v w : Var) (r : Ordering) → variable_order v w ≡ r → variable_order w v ≡ ordering_reverse r
turned v w r e = ordered.antisymm w v ∙ ap ordering_reverse e

-- variables that one of them comes after are two
apart : (v w : Var) (b : Bool) → variable_eq w v ≡ b → is_eq (variable_order v w) ≡ false → b ≡ false
apart v w false e h = refl
apart v w true e h = absurd (true≢false (sym (ap is_eq (ap (λ u. variable_order v u) ((variable_eq_decides w v).0 e) ∙ tied_itself ordered v)) ∙ h))

pub not_same : (v w : Var) (r : Ordering) → variable_order v w ≡ r → is_eq r ≡ false → variable_eq w v ≡ false
not_same v w r e h = apart v w (variable_eq w v) refl (ap is_eq e ∙ h)

not_less : (v w : Var) (r : Ordering) → variable_order v w ≡ r → is_lt r ≡ false → is_gt (variable_order w v) ≡ false
not_less v w Less e h = absurd (true≢false h)
not_less v w Equal e h = ap is_gt (turned v w Equal e)
not_less v w Greater e h = ap is_gt (turned v w Greater e)

less : (r : Ordering) → is_lt r ≡ true → is_gt r ≡ false
less Less e = refl
less Equal e = refl
less Greater e = absurd (true≢false (sym e))

-- ---- a variable put in its place leaves the list in order

not_after_more : (v w : Var) (ws : List Var) → is_gt (variable_order v w) ≡ false → IsNotAfter w ws → IsNotAfter v ws
not_after_more v w [] h k = tt
not_after_more v w (u ∷ ws) h k = (upto ordered v w u h k.0, not_after_more v w ws h k.1)

not_after_put : (w v : Var) (ws : List Var) → is_gt (variable_order w v) ≡ false → IsNotAfter w ws → IsNotAfter w (put_in_order v ws)
not_after_put w v [] h k = (h, tt)
not_after_put w v (u ∷ ws) h k = by (is_lt (variable_order v u)) (not_after_put w v ws h k.1)
  where
    by : (b : Bool) → IsNotAfter w (put_in_order v ws) → IsNotAfter w (cond b (v ∷ u ∷ ws) (u ∷ put_in_order v ws))
    by true r = (h, k)
    by false r = (k.0, r)

put_in_order_ordered : (v : Var) (ws : List Var) → IsInOrder ws → IsInOrder (put_in_order v ws)
put_in_order_ordered v [] h = (tt, tt)
put_in_order_ordered v (w ∷ ws) h = by (is_lt (variable_order v w)) refl (put_in_order_ordered v ws h.1)
  where
    by : (b : Bool) → is_lt (variable_order v w) ≡ b → IsInOrder (put_in_order v ws) → IsInOrder (cond b (v ∷ w ∷ ws) (w ∷ put_in_order v ws))
    by true e r = let first : is_gt (variable_order v w) ≡ false = less (variable_order v w) e in ((first, not_after_more v w ws first h.0), h)
    by false e r = (not_after_put w v ws (not_less v w (variable_order v w) refl e) h.0, r)

pub put_ordered : (v : Var) (ws : List Var) → IsInOrder ws → IsInOrder (put_new v ws)
put_ordered v ws h = by (binds ws v) (put_in_order_ordered v ws h)
  where
    by : (b : Bool) → IsInOrder (put_in_order v ws) → IsInOrder (cond b ws (put_in_order v ws))
    by true r = h
    by false r = r

-- ---- those that come before it are passed over

put_past : (v w : Var) (ws : List Var) → variable_eq w v ≡ false → is_lt (variable_order v w) ≡ false → put_new v (w ∷ ws) ≡ w ∷ put_new v ws
put_past v w ws e l = rw (e, l) (by (binds ws v))
  where
    by : (b : Bool) → cond b (w ∷ ws) (w ∷ put_in_order v ws) ≡ w ∷ cond b ws (put_in_order v ws)
    by true = refl
    by false = refl

pub split : (v : Var) (ws : List Var) (n : ℕ) → IsAfter v (take n ws) → put_new v ws ≡ take n ws ++ put_new v (drop n ws)
split v ws zero h = refl
split v [] (suc n) h = refl
split v (w ∷ ws) (suc n) h = put_past v w ws (not_same v w Greater h.0 refl) (ap is_lt h.0) ∙ ap (λ us. w ∷ us) (split v ws n h.1)

-- ---- halving

not_after_at : (v : Var) (ws : List Var) (i : ℕ) (d : Var) → IsNotAfter v ws → i < length ws → is_gt (variable_order v (get_or ws i d)) ≡ false
not_after_at v [] i d h l = absurd (omega (arith, l))
not_after_at v (w ∷ ws) zero d h l = h.0
not_after_at v (w ∷ ws) (suc i) d h l = not_after_at v ws i d h.1 (omega (arith, l))

-- u, which does not come after w, comes before what w comes before
below : (v u w : Var) → is_gt (variable_order u w) ≡ false → variable_order v w ≡ Greater → variable_order v u ≡ Greater
below v u w h e = by (variable_order v u) refl
  where
    by : (r : Ordering) → variable_order v u ≡ r → r ≡ Greater
    by Less p = absurd (true≢false (sym (ap is_gt e) ∙ upto ordered v u w (ap is_gt p) h))
    by Equal p = absurd (true≢false (sym (ap is_gt e) ∙ upto ordered v u w (ap is_gt p) h))
    by Greater p = refl

after_suc : (v : Var) (ws : List Var) (i : ℕ) (w : Var) → IsInOrder ws → i < length ws → w ≡ get_or ws i w → variable_order v w ≡ Greater → IsAfter v (take (suc i) ws)
after_suc v [] i w h l e g = absurd (omega (arith, l))
after_suc v (u ∷ ws) zero w h l e g = (ap (λ x. variable_order v x) (sym e) ∙ g, tt)
after_suc v (u ∷ ws) (suc i) w h l e g =
    let within : i < length ws = omega (arith, l) in
    let first : is_gt (variable_order u w) ≡ false = ap (λ x. is_gt (variable_order u x)) e ∙ not_after_at u ws i w h.0 within in
    (below v u w first g, after_suc v ws i w h.1 within e g)

pub after_more : (v : Var) (ws : List Var) (i : ℕ) (w : Var) → IsInOrder ws → i < length ws → w ≡ get_or ws i w → variable_order v w ≡ Greater → IsAfter v (take (i + 1) ws)
after_more v ws i w h l e g = rw add-one (after_suc v ws i w h l e g)

greater : (r : Ordering) → is_gt r ≡ true → r ≡ Greater
greater Less e = absurd (true≢false (sym e))
greater Equal e = absurd (true≢false (sym e))
greater Greater e = refl

pub after_last : (v : Var) (ws : List Var) (w : Var) → IsInOrder ws → w ≡ get_or ws (length ws - 1) w → is_gt (variable_order v w) ≡ true → IsAfter v (take (length ws) ws)
after_last v [] w h e g = tt
after_last v (u ∷ ws) w h e g = after_suc v (u ∷ ws) (length ws) w h (omega arith) (e ∙ ap (λ k. get_or (u ∷ ws) k w) (omega arith)) (greater (variable_order v w) g)

-- ---- going through

next_of : (ws : List Var) (i : ℕ) (w : Var) → i < length ws → w ≡ get_or ws i w → drop i ws ≡ w ∷ drop (i + 1) ws
next_of ws i w h e = rw (add-one, drop-cons ws i w, ← e) refl

ordered_from : (ws : List Var) (i : ℕ) → IsInOrder ws → IsInOrder (drop i ws)
ordered_from ws zero h = h
ordered_from [] (suc i) h = tt
ordered_from (w ∷ ws) (suc i) h = ordered_from ws i h.1

taken_suc : (ws us : List Var) (i : ℕ) (w : Var) → i < length ws → w ≡ get_or ws i w → take i ws ++ w ∷ us ≡ take (suc i) ws ++ us
taken_suc [] us i w h e = absurd (omega (arith, h))
taken_suc (u ∷ ws) us zero w h e = ap (λ x. x ∷ us) e
taken_suc (u ∷ ws) us (suc i) w h e = ap (λ xs. u ∷ xs) (taken_suc ws us i w (omega (arith, h)) e)

taken_more : (ws us : List Var) (i : ℕ) (w : Var) → i < length ws → w ≡ get_or ws i w → take i ws ++ w ∷ us ≡ take (i + 1) ws ++ us
taken_more ws us i w h e = rw add-one (taken_suc ws us i w h e)

pub passed : (v : Var) (ws : List Var) (i : ℕ) (w : Var) → i < length ws → w ≡ get_or ws i w → variable_eq w v ≡ false → is_lt (variable_order v w) ≡ false → put_new v ws ≡ take i ws ++ put_new v (drop i ws) → put_new v ws ≡ take (i + 1) ws ++ put_new v (drop (i + 1) ws)
passed v ws i w h e n l k =
    k ∙ ap (λ us. take i ws ++ us) (ap (put_new v) (next_of ws i w h e) ∙ put_past v w (drop (i + 1) ws) n l) ∙ taken_more ws (put_new v (drop (i + 1) ws)) i w h e

pub stands : (v : Var) (ws : List Var) (i : ℕ) (w : Var) → i < length ws → w ≡ get_or ws i w → variable_eq w v ≡ true → put_new v ws ≡ take i ws ++ put_new v (drop i ws) → put_new v ws ≡ ws
stands v ws i w h e s k =
    let there : put_new v (w ∷ drop (i + 1) ws) ≡ w ∷ drop (i + 1) ws = rw s refl in
    k ∙ ap (λ us. take i ws ++ us) (ap (put_new v) (next_of ws i w h e) ∙ there ∙ sym (next_of ws i w h e)) ∙ take-append-drop i ws

unbound : (v w : Var) (ws : List Var) → variable_order v w ≡ Less → IsNotAfter w ws → binds ws v ≡ false
unbound v w [] e h = refl
unbound v w (u ∷ ws) e h = rw (by (variable_order v u) refl) (unbound v w ws e h.1)
  where
    by : (r : Ordering) → variable_order v u ≡ r → variable_eq u v ≡ false
    by Less p = not_same v u Less p refl
    by Equal p = absurd (true≢false (sym (ap is_gt (turned v w Less e)) ∙ upto ordered w u v h.0 (ap is_gt (turned v u Equal p))))
    by Greater p = not_same v u Greater p refl

pub found : (v : Var) (ws : List Var) (i : ℕ) (w : Var) → IsInOrder ws → i < length ws → w ≡ get_or ws i w → variable_order v w ≡ Less → put_new v ws ≡ take i ws ++ put_new v (drop i ws) → put_new v ws ≡ insert ws i v
found v ws i w o h e l k =
    let rest : IsInOrder (w ∷ drop (i + 1) ws) = subst IsInOrder (next_of ws i w h e) (ordered_from ws i o) in
    let new : put_new v (w ∷ drop (i + 1) ws) ≡ v ∷ w ∷ drop (i + 1) ws = rw (not_same v w Less l refl, unbound v w (drop (i + 1) ws) l rest.0, l) refl in
    k ∙ ap (λ us. take i ws ++ us) (ap (put_new v) (next_of ws i w h e) ∙ new ∙ ap (λ us. v ∷ us) (sym (next_of ws i w h e)))

pub at_end : (v : Var) (ws : List Var) (i : ℕ) → length ws ≤ i → put_new v ws ≡ take i ws ++ put_new v (drop i ws) → put_new v ws ≡ insert ws (length ws) v
at_end v ws i h k =
    k ∙ ap (λ us. take i ws ++ put_new v us) (drop_of_length-le ws h) ∙ ap (λ us. us ++ v ∷ []) (take_all i ws h ∙ sym (take_all (length ws) ws (omega arith))) ∙ ap (λ us. take (length ws) ws ++ v ∷ us) (sym (drop_of_length-le ws (omega arith)))

-- ---- occurrences put one by one

pub put_all_append : (ws xs ys : List Var) → put_all ws (xs ++ ys) ≡ put_all (put_all ws xs) ys
put_all_append ws [] ys = refl
put_all_append ws (x ∷ xs) ys = put_all_append (put_new x ws) xs ys

binds_put : (v : Var) (ws : List Var) (x : Var) → binds (put_in_order v ws) x ≡ (variable_eq v x || binds ws x)
binds_put v [] x = refl
binds_put v (w ∷ ws) x = by (is_lt (variable_order v w)) (binds_put v ws x)
  where
    by : (b : Bool) → binds (put_in_order v ws) x ≡ (variable_eq v x || binds ws x) → binds (cond b (v ∷ w ∷ ws) (w ∷ put_in_order v ws)) x ≡ (variable_eq v x || binds (w ∷ ws) x)
    by true h = refl
    by false h = ap (λ c. variable_eq w x || c) h ∙ or_swap (variable_eq w x) (variable_eq v x) (binds ws x)

or_true : (b c : Bool) → c ≡ true → (b || c) ≡ true
or_true true c e = refl
or_true false c e = e

binds_keep_new : (v : Var) (ws : List Var) (x : Var) → binds ws x ≡ true → binds (put_new v ws) x ≡ true
binds_keep_new v ws x e = by (binds ws v)
  where
    by : (b : Bool) → binds (cond b ws (put_in_order v ws)) x ≡ true
    by true = e
    by false = binds_put v ws x ∙ or_true (variable_eq v x) (binds ws x) e

binds_keep : (ws us : List Var) (x : Var) → binds ws x ≡ true → binds (put_all ws us) x ≡ true
binds_keep ws [] x e = e
binds_keep ws (u ∷ us) x e = binds_keep (put_new u ws) us x (binds_keep_new u ws x e)

binds_new : (v : Var) (ws : List Var) (x : Var) → variable_eq v x ≡ true → binds (put_new v ws) x ≡ true
binds_new v ws x e = by (binds ws v) refl
  where
    by : (b : Bool) → binds ws v ≡ b → binds (cond b ws (put_in_order v ws)) x ≡ true
    by true h = ap (binds ws) (sym ((variable_eq_decides v x).0 e)) ∙ h
    by false h = binds_put v ws x ∙ ap (λ c. c || binds ws x) e

binds_all : (ws us : List Var) (x : Var) → binds us x ≡ true → binds (put_all ws us) x ≡ true
binds_all ws [] x e = absurd (true≢false (sym e))
binds_all ws (u ∷ us) x e = by (variable_eq u x) refl e (binds_all (put_new u ws) us x)
  where
    by : (b : Bool) → variable_eq u x ≡ b → (b || binds us x) ≡ true → (binds us x ≡ true → binds (put_all (put_new u ws) us) x ≡ true) → binds (put_all (put_new u ws) us) x ≡ true
    by true h k f = binds_keep (put_new u ws) us x (binds_new u ws x h)
    by false h k f = f k

once : (ws us occ : List Var) → put_all ws (add_all us occ) ≡ put_all (put_all ws us) occ
once ws us [] = refl
once ws us (x ∷ occ) = once ws (add_new us x) occ ∙ ap (λ zs. put_all zs occ) (by (binds us x) refl)
  where
    again : (b : Bool) → b ≡ true → cond b (put_all ws us) (put_in_order x (put_all ws us)) ≡ put_all ws us
    again true e = refl
    again false e = absurd (true≢false (sym e))

    by : (b : Bool) → binds us x ≡ b → put_all ws (cond b us (us ++ x ∷ [])) ≡ put_new x (put_all ws us)
    by true e = sym (again (binds (put_all ws us) x) (binds_all ws us x e))
    by false e = put_all_append ws us (x ∷ [])

pub put_once : (ws : List Var) (t : Nameless) → put_all ws (free_variables t) ≡ put_all ws (free_occurrences t)
put_once ws t = once ws [] (free_occurrences t)

-- ---- variables of equal names and types

pub same_type : (v w : Var) → name_cmp v.0 w.0 ≡ Equal → v.1 ≡ w.1 → variable_order v w ≡ Equal
same_type v w n t = rw (n, t) (tied_itself nat_list_cmp_total (show_type w.1))

-- ---- those of a list in order are put as those that it was made of

abbrev IsBefore : Var → List Var → Type 0
IsBefore v [] = Unit {0}
IsBefore v (w ∷ ws) = (variable_order v w ≡ Less) × IsBefore v ws

-- v comes before what does not come before w, which it comes before
before_more : (v w u : Var) → variable_order v w ≡ Less → is_gt (variable_order w u) ≡ false → variable_order v u ≡ Less
before_more v w u e h = by (variable_order v u) refl
  where
    never : (r : Ordering) → variable_order v u ≡ r → is_gt (ordering_reverse r) ≡ false → ⊥
    never r p g = true≢false (sym (ap is_gt (turned v w Less e)) ∙ upto ordered w u v h (ap is_gt (turned v u r p) ∙ g))

    by : (r : Ordering) → variable_order v u ≡ r → r ≡ Less
    by Less p = refl
    by Equal p = absurd (never Equal p refl)
    by Greater p = absurd (never Greater p refl)

before_all : (v w : Var) (ws : List Var) → variable_order v w ≡ Less → IsNotAfter w ws → IsBefore v ws
before_all v w [] e h = tt
before_all v w (u ∷ ws) e h = (before_more v w u e h.0, before_all v w ws e h.1)

swap_places : (v u : Var) (ws : List Var) → variable_order v u ≡ Less → put_in_order u (put_in_order v ws) ≡ put_in_order v (put_in_order u ws)
swap_places v u [] e = rw (e, turned v u Less e) refl
swap_places v u (w ∷ ws) e = by (is_lt (variable_order v w)) (is_lt (variable_order u w)) refl refl (swap_places v u ws e)
  where
    by : (a b : Bool) → is_lt (variable_order v w) ≡ a → is_lt (variable_order u w) ≡ b → put_in_order u (put_in_order v ws) ≡ put_in_order v (put_in_order u ws) → put_in_order u (cond a (v ∷ w ∷ ws) (w ∷ put_in_order v ws)) ≡ put_in_order v (cond b (u ∷ w ∷ ws) (w ∷ put_in_order u ws))
    by true true f g h = rw (e, turned v u Less e, g) refl
    by true false f g h = rw (turned v u Less e, g, f) refl
    by false true f g h = absurd (true≢false (sym (ap is_lt (before_more v u w e (less (variable_order u w) g))) ∙ f))
    by false false f g h = rw (f, g) (ap (λ us. w ∷ us) h)

or_false : (b c : Bool) → b ≡ false → c ≡ false → (b || c) ≡ false
or_false true c e f = absurd (true≢false e)
or_false false c e f = f

swap_new : (v u : Var) (ws : List Var) → variable_order v u ≡ Less → put_new u (put_new v ws) ≡ put_new v (put_new u ws)
swap_new v u ws e = by (binds ws v) (binds ws u) refl refl
  where
    by : (a b : Bool) → binds ws v ≡ a → binds ws u ≡ b → put_new u (cond a ws (put_in_order v ws)) ≡ put_new v (cond b ws (put_in_order u ws))
    by true true f g = rw (f, g) refl
    by true false f g = rw (g, binds_put u ws v ∙ or_true (variable_eq u v) (binds ws v) f) refl
    by false true f g = rw (f, binds_put v ws u ∙ or_true (variable_eq v u) (binds ws u) g) refl
    by false false f g =
        let no_u : binds (put_in_order v ws) u ≡ false = binds_put v ws u ∙ or_false (variable_eq v u) (binds ws u) (not_same u v Greater (turned v u Less e) refl) g in
        let no_v : binds (put_in_order u ws) v ≡ false = binds_put u ws v ∙ or_false (variable_eq u v) (binds ws v) (not_same v u Less e refl) f in
        rw (no_u, no_v) (swap_places v u ws e)

first_or_last : (v : Var) (ws us : List Var) → IsBefore v us → put_all (put_new v ws) us ≡ put_new v (put_all ws us)
first_or_last v ws [] h = refl
first_or_last v ws (u ∷ us) h = ap (λ xs. put_all xs us) (swap_new v u ws h.0) ∙ first_or_last v (put_new u ws) us h.1

put_placed : (ws us : List Var) (v : Var) → IsInOrder us → put_all ws (put_in_order v us) ≡ put_new v (put_all ws us)
put_placed ws [] v h = refl
put_placed ws (u ∷ us) v h = by (variable_order v u) refl (put_placed (put_new u ws) us v h.1)
  where
    by : (r : Ordering) → variable_order v u ≡ r → put_all (put_new u ws) (put_in_order v us) ≡ put_new v (put_all (put_new u ws) us) → put_all ws (cond (is_lt r) (v ∷ u ∷ us) (u ∷ put_in_order v us)) ≡ put_new v (put_all (put_new u ws) us)
    by Less e k = first_or_last v ws (u ∷ us) (e, before_all v u us e h.0)
    by Equal e k = k
    by Greater e k = k

put_one : (ws us : List Var) (v : Var) → IsInOrder us → put_all ws (put_new v us) ≡ put_new v (put_all ws us)
put_one ws us v h = by (binds us v) refl
  where
    by : (b : Bool) → binds us v ≡ b → put_all ws (cond b us (put_in_order v us)) ≡ put_new v (put_all ws us)
    by true e = rw (binds_all ws us v e) refl
    by false e = put_placed ws us v h

put_more : (ws us occ : List Var) → IsInOrder us → put_all ws (put_all us occ) ≡ put_all (put_all ws us) occ
put_more ws us [] h = refl
put_more ws us (v ∷ occ) h = put_more ws (put_new v us) occ (put_ordered v us h) ∙ ap (λ xs. put_all xs occ) (put_one ws us v h)

pub put_sorted : (ws occ : List Var) → put_all ws (put_all [] occ) ≡ put_all ws occ
put_sorted ws occ = put_more ws [] occ tt

-- ---- assumptions that goals have in common

put_all_ordered : (ws us : List Var) → IsInOrder ws → IsInOrder (put_all ws us)
put_all_ordered ws [] h = h
put_all_ordered ws (u ∷ us) h = put_all_ordered (put_new u ws) us (put_ordered u ws h)

put_terms_from : (ws : List Var) (ts : List Nameless) → put_terms ws ts ≡ put_all ws (put_terms [] ts)
put_terms_from ws [] = refl
put_terms_from ws (t ∷ ts) =
    let occ : List Var = free_variables t in
    let us : List Var = put_terms [] ts in
    put_terms_from (put_all ws occ) ts ∙ ap (λ xs. put_all xs us) (sym (put_sorted ws occ)) ∙ sym (put_more ws (put_all [] occ) us (put_all_ordered [] occ tt)) ∙ ap (put_all ws) (sym (put_terms_from (put_all [] occ) ts))

pub common_put : (ws : List Var) (n : ℕ) (asl common : List Named) → drop n asl ≡ common → put_terms ws (map (nameless []) asl) ≡ put_all (put_terms ws (map (nameless []) (take n asl))) (put_terms [] (map (nameless []) common))
common_put ws zero asl common e = put_terms_from ws (map (nameless []) asl) ∙ ap (λ ts. put_all ws (put_terms [] (map (nameless []) ts))) e
common_put ws (suc n) [] common e = ap (λ ts. put_all ws (put_terms [] (map (nameless []) ts))) e
common_put ws (suc n) (t ∷ asl) common e = common_put (put_all ws (free_variables (nameless [] t))) n asl common e
