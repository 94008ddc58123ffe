-- Laws of tables.
use Rattle.std.proofs.Common.{◌≡◌, ◌⊎◌, inl, inr, List, [], ◌∷◌, ◌++◌, map, refl, ap, sym, ◌∙◌, subst, Bool, true, false, cond, ◌&&◌}
use mathlib.Core.Bool.{true≢false}
use Rattle.hol_kernel.proofs.Members.{Among}
use Rattle.hol_model.proofs.Denotations.{Denotation, off, on, entry, same, apply, table, each, choices, tables, first, chosen, members}

both : (a b : Bool) → (a && b) ≡ true → (a ≡ true) × (b ≡ true)
both true b e = (refl, e)
both false b e = absurd (true≢false (sym e))

pub same_is : (a b : Denotation) → same a b ≡ true → a ≡ b
same_is off off e = refl
same_is off on e = absurd (true≢false (sym e))
same_is off (entry k v r) e = absurd (true≢false (sym e))
same_is on off e = absurd (true≢false (sym e))
same_is on on e = refl
same_is on (entry k v r) e = absurd (true≢false (sym e))
same_is (entry k v r) off e = absurd (true≢false (sym e))
same_is (entry k v r) on e = absurd (true≢false (sym e))
same_is (entry k v r) (entry l w s) e =
    let p = both (same k l) (same v w && same r s) e in
    let q = both (same v w) (same r s) p.1 in
    λ i. entry (same_is k l p.0 i) (same_is v w q.0 i) (same_is r s q.1 i)

pub same_self : (a : Denotation) → same a a ≡ true
same_self off = refl
same_self on = refl
same_self (entry k v r) = λ i. same_self k i && (same_self v i && same_self r i)

-- ---- members

pub map_in : (f : Denotation → Denotation) (x : Denotation) (xs : List Denotation) → Among x xs → Among (f x) (map f xs)
map_in f x [] h = h
map_in f x (y ∷ ys) (inl e) = inl (ap f e)
map_in f x (y ∷ ys) (inr h) = inr (map_in f x ys h)

pub map_out : (f : Denotation → Denotation) (z : Denotation) (xs : List Denotation) → Among z (map f xs) → (x : Denotation) × Among x xs × (z ≡ f x)
map_out f z [] h = absurd h
map_out f z (y ∷ ys) (inl e) = (y, inl refl, e)
map_out f z (y ∷ ys) (inr h) = let r = map_out f z ys h in (r.0, inr r.1, r.2)

left_in : (x : Denotation) (xs ys : List Denotation) → Among x xs → Among x (xs ++ ys)
left_in x [] ys h = absurd h
left_in x (z ∷ xs) ys (inl e) = inl e
left_in x (z ∷ xs) ys (inr h) = inr (left_in x xs ys h)

right_in : (x : Denotation) (xs ys : List Denotation) → Among x ys → Among x (xs ++ ys)
right_in x [] ys h = h
right_in x (z ∷ xs) ys h = inr (right_in x xs ys h)

one_of : (x : Denotation) (xs ys : List Denotation) → Among x (xs ++ ys) → Among x xs ⊎ Among x ys
one_of x [] ys h = inr h
one_of x (z ∷ xs) ys (inl e) = inl (inl e)
one_of x (z ∷ xs) ys (inr h) = elim (one_of x xs ys h) [ inl i ↦ inl (inr i) | inr j ↦ inr j ]

-- ---- tables

pub apply_table : (f : Denotation → Denotation) (x : Denotation) (xs : List Denotation) → Among x xs → apply (table f xs) x ≡ f x
apply_table f x [] h = absurd h
apply_table f x (y ∷ ys) h = by (λ i. apply_table f x ys i) (same y x) refl h
  where
    by : (Among x ys → apply (table f ys) x ≡ f x) → (b : Bool) → same y x ≡ b → (x ≡ y) ⊎ Among x ys → cond b (f y) (apply (table f ys) x) ≡ f x
    by rest true e h = ap f (same_is y x e)
    by rest false e (inl i) = absurd (true≢false (sym (subst (λ (z : Denotation). same z x ≡ true) i (same_self x)) ∙ e))
    by rest false e (inr i) = rest i

-- tables are equal where their functions are
pub table_same : (f g : Denotation → Denotation) (xs : List Denotation) → ((x : Denotation) → Among x xs → f x ≡ g x) → table f xs ≡ table g xs
table_same f g [] h = refl
table_same f g (x ∷ xs) h = λ i. entry x (h x (inl refl) i) (table_same f g xs (λ y m. h y (inr m)) i)

each_in : (x y r : Denotation) (ys rs : List Denotation) → Among y ys → Among r rs → Among (entry x y r) (each x ys rs)
each_in x y r [] rs h g = absurd h
each_in x y r (z ∷ ys) rs (inl e) g = left_in (entry x y r) (map (entry x z) rs) (each x ys rs) (subst (λ (w : Denotation). Among (entry x w r) (map (entry x z) rs)) (sym e) (map_in (entry x z) r rs g))
each_in x y r (z ∷ ys) rs (inr h) g = right_in (entry x y r) (map (entry x z) rs) (each x ys rs) (each_in x y r ys rs h g)

each_out : (x t : Denotation) (ys rs : List Denotation) → Among t (each x ys rs) → (y : Denotation) × (r : Denotation) × Among y ys × Among r rs × (t ≡ entry x y r)
each_out x t [] rs h = absurd h
each_out x t (z ∷ ys) rs h = elim (one_of t (map (entry x z) rs) (each x ys rs) h) [
  | inl i ↦ let r = map_out (entry x z) t rs i in (z, r.0, inl refl, r.1, r.2)
  | inr i ↦ let r = each_out x t ys rs i in (r.0, r.1, inr r.2, r.3, r.4)
]

choice_in : (f : Denotation → Denotation) (xs ys : List Denotation) → ((x : Denotation) → Among x xs → Among (f x) ys) → Among (table f xs) (choices xs ys)
choice_in f [] ys h = inl refl
choice_in f (x ∷ xs) ys h = each_in x (f x) (table f xs) ys (choices xs ys) (h x (inl refl)) (choice_in f xs ys (λ y m. h y (inr m)))

choice_at : (t x : Denotation) (xs ys : List Denotation) → Among t (choices xs ys) → Among x xs → Among (apply t x) ys
choice_at t x [] ys h m = absurd m
choice_at t x (z ∷ xs) ys h m = let r = each_out z t ys (choices xs ys) h in
    subst (λ (w : Denotation). Among (apply w x) ys) (sym r.4) (by r.0 r.1 r.2 (λ i. choice_at r.1 x xs ys r.3 i) (same z x) refl m)
  where
    by : (y r : Denotation) → Among y ys → (Among x xs → Among (apply r x) ys) → (b : Bool) → same z x ≡ b → (x ≡ z) ⊎ Among x xs → Among (cond b y (apply r x)) ys
    by y r p q true e m = p
    by y r p q false e (inl i) = absurd (true≢false (sym (subst (λ (w : Denotation). same w x ≡ true) i (same_self x)) ∙ e))
    by y r p q false e (inr i) = q i

-- the table of a function is one of the tables
pub table_in : (f : Denotation → Denotation) (xs ys : List Denotation) → ((x : Denotation) → Among x xs → Among (f x) ys) → Among (table f xs) (tables xs ys)
table_in f xs ys h =
    subst (λ (t : Denotation). Among t (tables xs ys)) (table_same (apply (table f xs)) f xs (λ x m. apply_table f x xs m))
    (map_in (λ t. table (apply t) xs) (table f xs) (choices xs ys) (choice_in f xs ys h))

-- what a table has at an argument is one of the values
pub apply_in : (t x : Denotation) (xs ys : List Denotation) → Among t (tables xs ys) → Among x xs → Among (apply t x) ys
apply_in t x xs ys h m =
    let r = map_out (λ u. table (apply u) xs) t (choices xs ys) h in
    subst (λ (w : Denotation). Among w ys) (sym (ap (λ (u : Denotation). apply u x) r.2 ∙ apply_table (apply r.0) x xs m)) (choice_at r.0 x xs ys r.1 m)

-- a table is that of what it has at each argument
pub table_eta : (t : Denotation) (xs ys : List Denotation) → Among t (tables xs ys) → table (apply t) xs ≡ t
table_eta t xs ys h =
    let r = map_out (λ u. table (apply u) xs) t (choices xs ys) h in
    table_same (apply t) (apply r.0) xs (λ x m. ap (λ (u : Denotation). apply u x) r.2 ∙ apply_table (apply r.0) x xs m) ∙ sym r.2

-- ---- values of a type that has some

pub first_in : (x : Denotation) (xs : List Denotation) → Among x xs → Among (first xs) xs
first_in x [] h = h
first_in x (y ∷ ys) h = inl refl

pub chosen_in : (d p : Denotation) (xs ys : List Denotation) → Among d ys → ((x : Denotation) → Among x xs → Among x ys) → Among (chosen d p xs) ys
chosen_in d p [] ys h g = h
chosen_in d p (x ∷ xs) ys h g = by (chosen_in d p xs ys h (λ y m. g y (inr m))) (same (apply p x) on)
  where
    by : Among (chosen d p xs) ys → (b : Bool) → Among (cond b x (chosen d p xs)) ys
    by rest true = g x (inl refl)
    by rest false = rest

-- a predicate holds of what is chosen, where it holds of one
pub chosen_holds : (d p x : Denotation) (xs : List Denotation) → Among x xs → apply p x ≡ on → apply p (chosen d p xs) ≡ on
chosen_holds d p x [] h e = absurd h
chosen_holds d p x (y ∷ ys) h e = by (λ i. chosen_holds d p x ys i e) (same (apply p y) on) refl h
  where
    by : (Among x ys → apply p (chosen d p ys) ≡ on) → (b : Bool) → same (apply p y) on ≡ b → (x ≡ y) ⊎ Among x ys → apply p (cond b y (chosen d p ys)) ≡ on
    by rest true t h = same_is (apply p y) on t
    by rest false t (inl i) = absurd (true≢false (sym (ap (λ (z : Denotation). same z on) (ap (apply p) (sym i) ∙ e)) ∙ t))
    by rest false t (inr i) = rest i

-- ---- the members of a predicate's table

pub members_in : (p x : Denotation) (xs : List Denotation) → Among x (members p xs) → Among x xs × (apply p x ≡ on)
members_in p x [] h = absurd h
members_in p x (y ∷ ys) h = by (λ i. members_in p x ys i) (same (apply p y) on) refl h
  where
    by : (Among x (members p ys) → Among x ys × (apply p x ≡ on)) → (b : Bool) → same (apply p y) on ≡ b → Among x (cond b (y ∷ members p ys) (members p ys)) → Among x (y ∷ ys) × (apply p x ≡ on)
    by rest true e (inl i) = (inl i, ap (apply p) i ∙ same_is (apply p y) on e)
    by rest true e (inr i) = let r = rest i in (inr r.0, r.1)
    by rest false e i = let r = rest i in (inr r.0, r.1)

pub in_members : (p x : Denotation) (xs : List Denotation) → Among x xs → apply p x ≡ on → Among x (members p xs)
in_members p x [] h e = absurd h
in_members p x (y ∷ ys) h e = by (λ i. in_members p x ys i e) (same (apply p y) on) refl h
  where
    by : (Among x ys → Among x (members p ys)) → (b : Bool) → same (apply p y) on ≡ b → (x ≡ y) ⊎ Among x ys → Among x (cond b (y ∷ members p ys) (members p ys))
    by rest true t (inl i) = inl i
    by rest true t (inr i) = inr (rest i)
    by rest false t (inl i) = absurd (true≢false (sym (ap (λ (z : Denotation). same z on) (ap (apply p) (sym i) ∙ e)) ∙ t))
    by rest false t (inr i) = rest i
