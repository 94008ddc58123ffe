-- The finite universe: its values are truth values and tables, its sets are lists. It has one individual.
use Rattle.std.proofs.Common.{◌≡◌, ◌⊎◌, inl, inr, List, [], ◌∷◌, sym, subst, true}
use Rattle.std.specs.List.{list_any}
use Rattle.hol_kernel.proofs.SortedSets.{any_some, some_any}
use Rattle.hol_kernel.proofs.Members.{Among}
use Rattle.hol_model.specs.Universe.{UniverseOf}
use Rattle.hol_model.proofs.Universes.{Universe}
use Rattle.hol_model.proofs.Denotations.{Denotation, off, on, same, apply, table, tables, first, chosen, members}
use Rattle.hol_model.proofs.Tables.{same_is, same_self, first_in, apply_table, table_same, table_in, apply_in, table_eta, chosen_in, chosen_holds, members_in, in_members}

off_on : off ≡ on → ⊥
off_on e = cc

two_of : (x : Denotation) → Among x (off ∷ on ∷ []) → (x ≡ off) ⊎ (x ≡ on)
two_of x (inl e) = inl e
two_of x (inr (inl e)) = inr e
two_of x (inr (inr e)) = absurd e

-- ---- members as a test

to_among : (x : Denotation) (xs : List Denotation) → list_any (same x) xs ≡ true → Among x xs
to_among x xs h = let r = any_some (same x) xs h in subst (λ (y : Denotation). Among y xs) (sym (same_is x r.0 r.2)) r.1

from_among : (x : Denotation) (xs : List Denotation) → Among x xs → list_any (same x) xs ≡ true
from_among x xs h = some_any (same x) xs x h (same_self x)

tables_are_universe : UniverseOf Denotation (List Denotation)
tables_are_universe = record {
  is_in = λ x xs. list_any (same x) xs;
  same = same;
  same_is = same_is;
  same_self = same_self;
  first = first;
  first_in = λ x xs h. from_among (first xs) xs (first_in x xs (to_among x xs h));
  off = off;
  on = on;
  off_is_not_on = off_on;
  booleans = off ∷ on ∷ [];
  off_in = from_among off (off ∷ on ∷ []) (inl (λ _. off));
  on_in = from_among on (off ∷ on ∷ []) (inr (inl (λ _. on)));
  two = λ x h. two_of x (to_among x (off ∷ on ∷ []) h);
  apply = apply;
  table = table;
  tables = tables;
  apply_table = λ f x xs h. apply_table f x xs (to_among x xs h);
  table_same = λ f g xs h. table_same f g xs (λ x i. h x (from_among x xs i));
  table_in = λ f xs ys h. from_among (table f xs) (tables xs ys) (table_in f xs ys (λ x i. to_among (f x) ys (h x (from_among x xs i))));
  apply_in = λ t x xs ys h i. from_among (apply t x) ys (apply_in t x xs ys (to_among t (tables xs ys) h) (to_among x xs i));
  table_eta = λ t xs ys h. table_eta t xs ys (to_among t (tables xs ys) h);
  chosen = λ p xs. chosen (first xs) p xs;
  chosen_in = λ p xs h. from_among (chosen (first xs) p xs) xs (chosen_in (first xs) p xs xs (to_among (first xs) xs h) (λ x i. i));
  chosen_holds = λ p x xs h. chosen_holds (first xs) p x xs (to_among x xs h);
  members = members;
  members_in = λ p x xs h. let r = members_in p x xs (to_among x (members p xs) h) in (from_among x xs r.0, r.1);
  in_members = λ p x xs h e. from_among x (members p xs) (in_members p x xs (to_among x xs h) e);
  individuals = off ∷ [];
  individual = from_among off (off ∷ []) (inl (λ _. off));
}

pub finite : Universe
finite = record { Value = Denotation; Set = List Denotation; laws = tables_are_universe }
