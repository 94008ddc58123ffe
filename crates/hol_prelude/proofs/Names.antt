-- The theorems of the prelude, put together and looked up by their names.
use Rattle.std.specs.Prelude.{◌≡◌, ℕ, Bool, true, false, cond, bytes_eq, List, [], ◌∷◌, ◌++◌, take, drop, Option, Result, Ok, Err, IfOk, Some, refl}
use Rattle.std.specs.Option.{option_map}
use Rattle.std.proofs.Common.{ap, ◌∙◌, append_assoc}
use Rattle.hol_terms.specs.Named.{Named}
use Rattle.hol_kernel.specs.Theorem.{Theorem}
use Rattle.hol_clauses.specs.Statements.{stated}
use Rattle.hol_prelude.specs.Statements.{statement_in, prelude_statements}
use Rattle.hol_prelude.specs.Prelude.{named_theorems, prelude_theorems, theorem_in}

picked : (b : Bool) (p : Named) (o : Option Named) → cond b (Some (stated p)) (option_map stated o) ≡ option_map stated (cond b (Some p) o)
picked true p o = refl
picked false p o = refl

pub named_found : (ps : List (List ℕ × Named)) (name : List ℕ) → theorem_in (named_theorems ps) name ≡ option_map stated (statement_in ps name)
named_found [] name = refl
named_found (p ∷ more) name =
    ap (λ (o : Option Theorem). cond (bytes_eq name p.0) (Some (stated p.1)) o) (named_found more name) ∙ picked (bytes_eq name p.0) p.1 (statement_in more name)

-- ---- one theorem more

abbrev pub Entry : Type 0
Entry = List ℕ × Theorem

pub first : (old ys : List Entry) (e f : Entry) → ys ≡ old ++ e ∷ [] → e ≡ f → ys ≡ old ++ f ∷ []
first old ys e f g same = g ∙ (λ i. old ++ same i ∷ [])

pub further : (old xs ys part : List Entry) (e f : Entry) → xs ≡ old ++ part → ys ≡ xs ++ e ∷ [] → e ≡ f → ys ≡ old ++ (part ++ f ∷ [])
further old xs ys part e f h g same = g ∙ (λ i. h i ++ same i ∷ []) ∙ append_assoc old part (f ∷ [])

pub last : {U X : Type 0} (r : Result U X) (old xs ys part : List Entry) (e f : Entry) → xs ≡ old ++ part → IfOk r (λ _. ys ≡ xs ++ e ∷ []) → e ≡ f → IfOk r (λ _. ys ≡ old ++ (part ++ f ∷ []))
last (Ok u) old xs ys part e f h g same = further old xs ys part e f h g same
last (Err x) old xs ys part e f h g same = g

-- ---- further theorems, and all of them

pub joined : (old xs ys a b : List Entry) → xs ≡ old ++ a → ys ≡ xs ++ b → ys ≡ old ++ (a ++ b)
joined old xs ys a b g h = h ∙ ap (λ (s : List Entry). s ++ b) g ∙ append_assoc old a b

pub joined_last : {U X : Type 0} (r : Result U X) (old xs ys a b : List Entry) → xs ≡ old ++ a → IfOk r (λ _. ys ≡ xs ++ b) → IfOk r (λ _. ys ≡ old ++ (a ++ b))
joined_last (Ok u) old xs ys a b g h = joined old xs ys a b g h
joined_last (Err x) old xs ys a b g h = h

pub all_named : (a b c : List Entry) → a ≡ [] → b ≡ a ++ named_theorems (take 15 prelude_statements) → c ≡ b ++ named_theorems (drop 15 prelude_statements) → c ≡ prelude_theorems
all_named a b c g h k =
    k ∙ ap (λ (s : List Entry). s ++ named_theorems (drop 15 prelude_statements)) (h ∙ ap (λ (s : List Entry). s ++ named_theorems (take 15 prelude_statements)) g)
