-- What can be computed of a grammar, to show that it is certain.
use Rattle.std.proofs.Common.{◌≡◌, ◌⊎◌, inl, inr, Bool, true, false, ◌||◌, ◌&&◌, not, cond, List, [], ◌∷◌, refl, ap, ◌∙◌, sym, Option, Some, None}
use Rattle.std.proofs.lemmas.Bool.{false≢true}
use Rattle.hol_notation_grammar.specs.declared.sort.Sort.{Sort}
use Rattle.hol_notation_grammar.specs.declared.sort.Sort.TheVariants as sort
use Rattle.hol_notation_grammar.specs.declared.grammar.Rule.{Rule}
use Rattle.hol_notation_grammar.specs.declared.grammar.Production.{Production}
use Rattle.hol_notation_grammar.specs.declared.grammar.Symbol.{Symbol}
use Rattle.hol_notation_grammar.specs.declared.grammar.Symbol.TheVariants.{Token, Part}
use Rattle.hol_notation_grammar.specs.Grammar.{Grammar, IsAmong}
use Rattle.hol_notation_grammar.specs.Ending.{is_empty, next_of, extends, IsShut, IsReady}
use Rattle.hol_notation_grammar.proofs.Leads.{IsSolid}

and_left : (a b : Bool) → (a && b) ≡ true → a ≡ true
and_left true b e = refl
and_left false b e = absurd (false≢true e)

and_right : (a b : Bool) → (a && b) ≡ true → b ≡ true
and_right true b e = e
and_right false b e = absurd (false≢true e)

abbrev pub sorts : List Sort
sorts = sort.Name ∷ sort.Then ∷ sort.ThenL ∷ sort.OrElse ∷ sort.Repeat ∷ sort.Try ∷ sort.Changed ∷ sort.Every ∷ sort.First ∷ sort.Replicate ∷ sort.DischThen ∷ sort.PopAssum ∷ sort.FirstAssum ∷ sort.SubgoalThen ∷ sort.Assume ∷ sort.Refl ∷ sort.Spec ∷ sort.Sym ∷ sort.Conjunct1 ∷ sort.Conjunct2 ∷ sort.Mp ∷ sort.InstType ∷ sort.Goal ∷ sort.Apply ∷ sort.DefineTac ∷ sort.Back ∷ sort.Rotate ∷ sort.Qed ∷ sort.Oops ∷ sort.Import ∷ sort.NewType ∷ sort.NewConstant ∷ sort.NewAxiom ∷ sort.NewDefinition ∷ sort.NewBasicTypeDefinition ∷ sort.Small ∷ sort.Large ∷ sort.Iff ∷ sort.Implies ∷ sort.Or ∷ sort.And ∷ sort.Arrow ∷ sort.ExistsUnique ∷ sort.Equals ∷ sort.Not ∷ sort.Lambda ∷ sort.ForAll ∷ sort.Exists ∷ sort.Choice ∷ sort.Open ∷ sort.Close ∷ sort.OpenList ∷ sort.CloseList ∷ sort.Dot ∷ sort.Colon ∷ sort.Comma ∷ sort.Semicolon ∷ sort.Backquote ∷ []

abbrev IsSortAmong : Sort → List Sort → Type 0
IsSortAmong k [] = ⊥
IsSortAmong k (j ∷ js) = (k ≡ j) ⊎ IsSortAmong k js

sort_among : (k : Sort) → IsSortAmong k sorts
sort_among sort.Name = inl refl
sort_among sort.Then = inr (inl refl)
sort_among sort.ThenL = inr (inr (inl refl))
sort_among sort.OrElse = inr (inr (inr (inl refl)))
sort_among sort.Repeat = inr (inr (inr (inr (inl refl))))
sort_among sort.Try = inr (inr (inr (inr (inr (inl refl)))))
sort_among sort.Changed = inr (inr (inr (inr (inr (inr (inl refl))))))
sort_among sort.Every = inr (inr (inr (inr (inr (inr (inr (inl refl)))))))
sort_among sort.First = inr (inr (inr (inr (inr (inr (inr (inr (inl refl))))))))
sort_among sort.Replicate = inr (inr (inr (inr (inr (inr (inr (inr (inr (inl refl)))))))))
sort_among sort.DischThen = inr (inr (inr (inr (inr (inr (inr (inr (inr (inr (inl refl))))))))))
sort_among sort.PopAssum = inr (inr (inr (inr (inr (inr (inr (inr (inr (inr (inr (inl refl)))))))))))
sort_among sort.FirstAssum = inr (inr (inr (inr (inr (inr (inr (inr (inr (inr (inr (inr (inl refl))))))))))))
sort_among sort.SubgoalThen = inr (inr (inr (inr (inr (inr (inr (inr (inr (inr (inr (inr (inr (inl refl)))))))))))))
sort_among sort.Assume = inr (inr (inr (inr (inr (inr (inr (inr (inr (inr (inr (inr (inr (inr (inl refl))))))))))))))
sort_among sort.Refl = inr (inr (inr (inr (inr (inr (inr (inr (inr (inr (inr (inr (inr (inr (inr (inl refl)))))))))))))))
sort_among sort.Spec = inr (inr (inr (inr (inr (inr (inr (inr (inr (inr (inr (inr (inr (inr (inr (inr (inl refl))))))))))))))))
sort_among sort.Sym = inr (inr (inr (inr (inr (inr (inr (inr (inr (inr (inr (inr (inr (inr (inr (inr (inr (inl refl)))))))))))))))))
sort_among sort.Conjunct1 = inr (inr (inr (inr (inr (inr (inr (inr (inr (inr (inr (inr (inr (inr (inr (inr (inr (inr (inl refl))))))))))))))))))
sort_among sort.Conjunct2 = inr (inr (inr (inr (inr (inr (inr (inr (inr (inr (inr (inr (inr (inr (inr (inr (inr (inr (inr (inl refl)))))))))))))))))))
sort_among sort.Mp = inr (inr (inr (inr (inr (inr (inr (inr (inr (inr (inr (inr (inr (inr (inr (inr (inr (inr (inr (inr (inl refl))))))))))))))))))))
sort_among sort.InstType = inr (inr (inr (inr (inr (inr (inr (inr (inr (inr (inr (inr (inr (inr (inr (inr (inr (inr (inr (inr (inr (inl refl)))))))))))))))))))))
sort_among sort.Goal = inr (inr (inr (inr (inr (inr (inr (inr (inr (inr (inr (inr (inr (inr (inr (inr (inr (inr (inr (inr (inr (inr (inl refl))))))))))))))))))))))
sort_among sort.Apply = inr (inr (inr (inr (inr (inr (inr (inr (inr (inr (inr (inr (inr (inr (inr (inr (inr (inr (inr (inr (inr (inr (inr (inl refl)))))))))))))))))))))))
sort_among sort.DefineTac = inr (inr (inr (inr (inr (inr (inr (inr (inr (inr (inr (inr (inr (inr (inr (inr (inr (inr (inr (inr (inr (inr (inr (inr (inl refl))))))))))))))))))))))))
sort_among sort.Back = inr (inr (inr (inr (inr (inr (inr (inr (inr (inr (inr (inr (inr (inr (inr (inr (inr (inr (inr (inr (inr (inr (inr (inr (inr (inl refl)))))))))))))))))))))))))
sort_among sort.Rotate = inr (inr (inr (inr (inr (inr (inr (inr (inr (inr (inr (inr (inr (inr (inr (inr (inr (inr (inr (inr (inr (inr (inr (inr (inr (inr (inl refl))))))))))))))))))))))))))
sort_among sort.Qed = inr (inr (inr (inr (inr (inr (inr (inr (inr (inr (inr (inr (inr (inr (inr (inr (inr (inr (inr (inr (inr (inr (inr (inr (inr (inr (inr (inl refl)))))))))))))))))))))))))))
sort_among sort.Oops = inr (inr (inr (inr (inr (inr (inr (inr (inr (inr (inr (inr (inr (inr (inr (inr (inr (inr (inr (inr (inr (inr (inr (inr (inr (inr (inr (inr (inl refl))))))))))))))))))))))))))))
sort_among sort.Import = inr (inr (inr (inr (inr (inr (inr (inr (inr (inr (inr (inr (inr (inr (inr (inr (inr (inr (inr (inr (inr (inr (inr (inr (inr (inr (inr (inr (inr (inl refl)))))))))))))))))))))))))))))
sort_among sort.NewType = inr (inr (inr (inr (inr (inr (inr (inr (inr (inr (inr (inr (inr (inr (inr (inr (inr (inr (inr (inr (inr (inr (inr (inr (inr (inr (inr (inr (inr (inr (inl refl))))))))))))))))))))))))))))))
sort_among sort.NewConstant = inr (inr (inr (inr (inr (inr (inr (inr (inr (inr (inr (inr (inr (inr (inr (inr (inr (inr (inr (inr (inr (inr (inr (inr (inr (inr (inr (inr (inr (inr (inr (inl refl)))))))))))))))))))))))))))))))
sort_among sort.NewAxiom = inr (inr (inr (inr (inr (inr (inr (inr (inr (inr (inr (inr (inr (inr (inr (inr (inr (inr (inr (inr (inr (inr (inr (inr (inr (inr (inr (inr (inr (inr (inr (inr (inl refl))))))))))))))))))))))))))))))))
sort_among sort.NewDefinition = inr (inr (inr (inr (inr (inr (inr (inr (inr (inr (inr (inr (inr (inr (inr (inr (inr (inr (inr (inr (inr (inr (inr (inr (inr (inr (inr (inr (inr (inr (inr (inr (inr (inl refl)))))))))))))))))))))))))))))))))
sort_among sort.NewBasicTypeDefinition = inr (inr (inr (inr (inr (inr (inr (inr (inr (inr (inr (inr (inr (inr (inr (inr (inr (inr (inr (inr (inr (inr (inr (inr (inr (inr (inr (inr (inr (inr (inr (inr (inr (inr (inl refl))))))))))))))))))))))))))))))))))
sort_among sort.Small = inr (inr (inr (inr (inr (inr (inr (inr (inr (inr (inr (inr (inr (inr (inr (inr (inr (inr (inr (inr (inr (inr (inr (inr (inr (inr (inr (inr (inr (inr (inr (inr (inr (inr (inr (inl refl)))))))))))))))))))))))))))))))))))
sort_among sort.Large = inr (inr (inr (inr (inr (inr (inr (inr (inr (inr (inr (inr (inr (inr (inr (inr (inr (inr (inr (inr (inr (inr (inr (inr (inr (inr (inr (inr (inr (inr (inr (inr (inr (inr (inr (inr (inl refl))))))))))))))))))))))))))))))))))))
sort_among sort.Iff = inr (inr (inr (inr (inr (inr (inr (inr (inr (inr (inr (inr (inr (inr (inr (inr (inr (inr (inr (inr (inr (inr (inr (inr (inr (inr (inr (inr (inr (inr (inr (inr (inr (inr (inr (inr (inr (inl refl)))))))))))))))))))))))))))))))))))))
sort_among sort.Implies = inr (inr (inr (inr (inr (inr (inr (inr (inr (inr (inr (inr (inr (inr (inr (inr (inr (inr (inr (inr (inr (inr (inr (inr (inr (inr (inr (inr (inr (inr (inr (inr (inr (inr (inr (inr (inr (inr (inl refl))))))))))))))))))))))))))))))))))))))
sort_among sort.Or = inr (inr (inr (inr (inr (inr (inr (inr (inr (inr (inr (inr (inr (inr (inr (inr (inr (inr (inr (inr (inr (inr (inr (inr (inr (inr (inr (inr (inr (inr (inr (inr (inr (inr (inr (inr (inr (inr (inr (inl refl)))))))))))))))))))))))))))))))))))))))
sort_among sort.And = inr (inr (inr (inr (inr (inr (inr (inr (inr (inr (inr (inr (inr (inr (inr (inr (inr (inr (inr (inr (inr (inr (inr (inr (inr (inr (inr (inr (inr (inr (inr (inr (inr (inr (inr (inr (inr (inr (inr (inr (inl refl))))))))))))))))))))))))))))))))))))))))
sort_among sort.Arrow = inr (inr (inr (inr (inr (inr (inr (inr (inr (inr (inr (inr (inr (inr (inr (inr (inr (inr (inr (inr (inr (inr (inr (inr (inr (inr (inr (inr (inr (inr (inr (inr (inr (inr (inr (inr (inr (inr (inr (inr (inr (inl refl)))))))))))))))))))))))))))))))))))))))))
sort_among sort.ExistsUnique = inr (inr (inr (inr (inr (inr (inr (inr (inr (inr (inr (inr (inr (inr (inr (inr (inr (inr (inr (inr (inr (inr (inr (inr (inr (inr (inr (inr (inr (inr (inr (inr (inr (inr (inr (inr (inr (inr (inr (inr (inr (inr (inl refl))))))))))))))))))))))))))))))))))))))))))
sort_among sort.Equals = inr (inr (inr (inr (inr (inr (inr (inr (inr (inr (inr (inr (inr (inr (inr (inr (inr (inr (inr (inr (inr (inr (inr (inr (inr (inr (inr (inr (inr (inr (inr (inr (inr (inr (inr (inr (inr (inr (inr (inr (inr (inr (inr (inl refl)))))))))))))))))))))))))))))))))))))))))))
sort_among sort.Not = inr (inr (inr (inr (inr (inr (inr (inr (inr (inr (inr (inr (inr (inr (inr (inr (inr (inr (inr (inr (inr (inr (inr (inr (inr (inr (inr (inr (inr (inr (inr (inr (inr (inr (inr (inr (inr (inr (inr (inr (inr (inr (inr (inr (inl refl))))))))))))))))))))))))))))))))))))))))))))
sort_among sort.Lambda = inr (inr (inr (inr (inr (inr (inr (inr (inr (inr (inr (inr (inr (inr (inr (inr (inr (inr (inr (inr (inr (inr (inr (inr (inr (inr (inr (inr (inr (inr (inr (inr (inr (inr (inr (inr (inr (inr (inr (inr (inr (inr (inr (inr (inr (inl refl)))))))))))))))))))))))))))))))))))))))))))))
sort_among sort.ForAll = inr (inr (inr (inr (inr (inr (inr (inr (inr (inr (inr (inr (inr (inr (inr (inr (inr (inr (inr (inr (inr (inr (inr (inr (inr (inr (inr (inr (inr (inr (inr (inr (inr (inr (inr (inr (inr (inr (inr (inr (inr (inr (inr (inr (inr (inr (inl refl))))))))))))))))))))))))))))))))))))))))))))))
sort_among sort.Exists = inr (inr (inr (inr (inr (inr (inr (inr (inr (inr (inr (inr (inr (inr (inr (inr (inr (inr (inr (inr (inr (inr (inr (inr (inr (inr (inr (inr (inr (inr (inr (inr (inr (inr (inr (inr (inr (inr (inr (inr (inr (inr (inr (inr (inr (inr (inr (inl refl)))))))))))))))))))))))))))))))))))))))))))))))
sort_among sort.Choice = inr (inr (inr (inr (inr (inr (inr (inr (inr (inr (inr (inr (inr (inr (inr (inr (inr (inr (inr (inr (inr (inr (inr (inr (inr (inr (inr (inr (inr (inr (inr (inr (inr (inr (inr (inr (inr (inr (inr (inr (inr (inr (inr (inr (inr (inr (inr (inr (inl refl))))))))))))))))))))))))))))))))))))))))))))))))
sort_among sort.Open = inr (inr (inr (inr (inr (inr (inr (inr (inr (inr (inr (inr (inr (inr (inr (inr (inr (inr (inr (inr (inr (inr (inr (inr (inr (inr (inr (inr (inr (inr (inr (inr (inr (inr (inr (inr (inr (inr (inr (inr (inr (inr (inr (inr (inr (inr (inr (inr (inr (inl refl)))))))))))))))))))))))))))))))))))))))))))))))))
sort_among sort.Close = inr (inr (inr (inr (inr (inr (inr (inr (inr (inr (inr (inr (inr (inr (inr (inr (inr (inr (inr (inr (inr (inr (inr (inr (inr (inr (inr (inr (inr (inr (inr (inr (inr (inr (inr (inr (inr (inr (inr (inr (inr (inr (inr (inr (inr (inr (inr (inr (inr (inr (inl refl))))))))))))))))))))))))))))))))))))))))))))))))))
sort_among sort.OpenList = inr (inr (inr (inr (inr (inr (inr (inr (inr (inr (inr (inr (inr (inr (inr (inr (inr (inr (inr (inr (inr (inr (inr (inr (inr (inr (inr (inr (inr (inr (inr (inr (inr (inr (inr (inr (inr (inr (inr (inr (inr (inr (inr (inr (inr (inr (inr (inr (inr (inr (inr (inl refl)))))))))))))))))))))))))))))))))))))))))))))))))))
sort_among sort.CloseList = inr (inr (inr (inr (inr (inr (inr (inr (inr (inr (inr (inr (inr (inr (inr (inr (inr (inr (inr (inr (inr (inr (inr (inr (inr (inr (inr (inr (inr (inr (inr (inr (inr (inr (inr (inr (inr (inr (inr (inr (inr (inr (inr (inr (inr (inr (inr (inr (inr (inr (inr (inr (inl refl))))))))))))))))))))))))))))))))))))))))))))))))))))
sort_among sort.Dot = inr (inr (inr (inr (inr (inr (inr (inr (inr (inr (inr (inr (inr (inr (inr (inr (inr (inr (inr (inr (inr (inr (inr (inr (inr (inr (inr (inr (inr (inr (inr (inr (inr (inr (inr (inr (inr (inr (inr (inr (inr (inr (inr (inr (inr (inr (inr (inr (inr (inr (inr (inr (inr (inl refl)))))))))))))))))))))))))))))))))))))))))))))))))))))
sort_among sort.Colon = inr (inr (inr (inr (inr (inr (inr (inr (inr (inr (inr (inr (inr (inr (inr (inr (inr (inr (inr (inr (inr (inr (inr (inr (inr (inr (inr (inr (inr (inr (inr (inr (inr (inr (inr (inr (inr (inr (inr (inr (inr (inr (inr (inr (inr (inr (inr (inr (inr (inr (inr (inr (inr (inr (inl refl))))))))))))))))))))))))))))))))))))))))))))))))))))))
sort_among sort.Comma = inr (inr (inr (inr (inr (inr (inr (inr (inr (inr (inr (inr (inr (inr (inr (inr (inr (inr (inr (inr (inr (inr (inr (inr (inr (inr (inr (inr (inr (inr (inr (inr (inr (inr (inr (inr (inr (inr (inr (inr (inr (inr (inr (inr (inr (inr (inr (inr (inr (inr (inr (inr (inr (inr (inr (inl refl)))))))))))))))))))))))))))))))))))))))))))))))))))))))
sort_among sort.Semicolon = inr (inr (inr (inr (inr (inr (inr (inr (inr (inr (inr (inr (inr (inr (inr (inr (inr (inr (inr (inr (inr (inr (inr (inr (inr (inr (inr (inr (inr (inr (inr (inr (inr (inr (inr (inr (inr (inr (inr (inr (inr (inr (inr (inr (inr (inr (inr (inr (inr (inr (inr (inr (inr (inr (inr (inr (inl refl))))))))))))))))))))))))))))))))))))))))))))))))))))))))
sort_among sort.Backquote = inr (inr (inr (inr (inr (inr (inr (inr (inr (inr (inr (inr (inr (inr (inr (inr (inr (inr (inr (inr (inr (inr (inr (inr (inr (inr (inr (inr (inr (inr (inr (inr (inr (inr (inr (inr (inr (inr (inr (inr (inr (inr (inr (inr (inr (inr (inr (inr (inr (inr (inr (inr (inr (inr (inr (inr (inr (inl refl)))))))))))))))))))))))))))))))))))))))))))))))))))))))))

abbrev all : (Sort → Bool) → List Sort → Bool
all f [] = true
all f (k ∷ ks) = f k && all f ks

-- a test of each sort
abbrev pub every_sort : (Sort → Bool) → Bool
every_sort f = all f sorts

all_at : (f : Sort → Bool) (ks : List Sort) (k : Sort) → IsSortAmong k ks → all f ks ≡ true → f k ≡ true
all_at f [] k a h = absurd a
all_at f (j ∷ ks) k a h = elim a [
  | inl e ↦ ap f e ∙ and_left (f j) (all f ks) h
  | inr c ↦ all_at f ks k c (and_right (f j) (all f ks) h)
]

pub each_sort : (f : Sort → Bool) (k : Sort) → every_sort f ≡ true → f k ≡ true
each_sort f k h = all_at f sorts k (sort_among k) h

abbrev pub some : (Production → Bool) → List Production → Bool
some f [] = false
some f (p ∷ ps) = f p || some f ps

-- no two of the productions pass the test
abbrev pub at_most_one : (Production → Bool) → List Production → Bool
at_most_one f [] = true
at_most_one f (p ∷ ps) = cond (f p) (not (some f ps)) (at_most_one f ps)

some_among : (f : Production → Bool) (ps : List Production) (p : Production) → IsAmong p ps → f p ≡ true → some f ps ≡ true
some_among f [] p a e = absurd a
some_among f (q ∷ ps) p a e = elim a [
  | inl s ↦ ap (λ (b : Bool). b || some f ps) (sym (ap f s) ∙ e)
  | inr c ↦ later (f q) (some_among f ps p c e)
]
  where
    later : (b : Bool) → some f ps ≡ true → (b || some f ps) ≡ true
    later true e = refl
    later false e = e

not_true : (b : Bool) → b ≡ true → not b ≡ true → ⊥
not_true true e h = false≢true h
not_true false e h = false≢true e

pub only_one : (f : Production → Bool) (ps : List Production) (p q : Production) → at_most_one f ps ≡ true → IsAmong p ps → IsAmong q ps → f p ≡ true → f q ≡ true → p ≡ q
only_one f [] p q h a b s t = absurd a
only_one f (r ∷ ps) p q h a b s t = elim a [
  | inl x ↦ elim b [
    | inl y ↦ x ∙ sym y
    | inr d ↦ absurd (clash (f r) (sym (ap f x) ∙ s) (some_among f ps q d t) h)
  ]
  | inr c ↦ elim b [
    | inl y ↦ absurd (clash (f r) (sym (ap f y) ∙ t) (some_among f ps p c s) h)
    | inr d ↦ only_one f ps p q (rest (f r) (some_among f ps p c s) h) c d s t
  ]
]
  where
    clash : (b : Bool) → b ≡ true → some f ps ≡ true → cond b (not (some f ps)) (at_most_one f ps) ≡ true → ⊥
    clash true e g h = not_true _ g h
    clash false e g h = false≢true e

    rest : (b : Bool) → some f ps ≡ true → cond b (not (some f ps)) (at_most_one f ps) ≡ true → at_most_one f ps ≡ true
    rest true g h = absurd (not_true _ g h)
    rest false g h = h

pub empty_is : (ss : List Symbol) → ss ≡ [] → is_empty ss ≡ true
empty_is ss e = ap is_empty e

-- none of the productions is empty
abbrev pub all_full : Grammar → List Production → Bool
all_full G ps = not (some (λ p. is_empty (G.symbols p)) ps)

abbrev pub is_solid : Grammar → List Symbol → Bool
is_solid G [] = true
is_solid G (Token c ∷ ss) = true
is_solid G (Part m ∷ ss) = all_full G (G.productions m)

pub solid_by : (G : Grammar) (ss : List Symbol) → is_solid G ss ≡ true → IsSolid G ss
solid_by G [] h = tt
solid_by G (Token c ∷ ss) h = tt
solid_by G (Part m ∷ ss) h = λ q a e. not_true _ (some_among (λ p. is_empty (G.symbols p)) (G.productions m) q a (empty_is (G.symbols q) e)) h

abbrev pub implies : Bool → Bool → Bool
implies a b = not a || b

pub implied : (a b : Bool) → implies a b ≡ true → a ≡ true → b ≡ true
implied true b h e = h
implied false b h e = absurd (false≢true e)

-- a test of each of the productions
abbrev pub every : (Production → Bool) → List Production → Bool
every f [] = true
every f (p ∷ ps) = f p && every f ps

pub each_production : (f : Production → Bool) (ps : List Production) (p : Production) → IsAmong p ps → every f ps ≡ true → f p ≡ true
each_production f [] p a h = absurd a
each_production f (q ∷ ps) p a h = elim a [
  | inl e ↦ ap f e ∙ and_left (f q) (every f ps) h
  | inr c ↦ each_production f ps p c (and_right (f q) (every f ps) h)
]

abbrev pub is_shut : Grammar → Rule → Option Sort → Bool
is_shut G n None = true
is_shut G n (Some k) = not (extends G 12 n k)

abbrev pub is_ready : Grammar → Option Sort → List Symbol → Bool
is_ready G o [] = true
is_ready G o (Token c ∷ ss) = is_ready G o ss
is_ready G o (Part m ∷ ss) = is_shut G m (next_of G o ss) && is_ready G o ss

not_is : (b : Bool) → not b ≡ true → b ≡ false
not_is true h = absurd (false≢true h)
not_is false h = refl

is_not : (b : Bool) → b ≡ false → not b ≡ true
is_not true h = absurd (false≢true (sym h))
is_not false h = refl

shut_by : (G : Grammar) (n : Rule) (o : Option Sort) → is_shut G n o ≡ true → IsShut G n o
shut_by G n None h = tt
shut_by G n (Some k) h = not_is (extends G 12 n k) h

pub shut_is : (G : Grammar) (n : Rule) (o : Option Sort) → IsShut G n o → is_shut G n o ≡ true
shut_is G n None h = refl
shut_is G n (Some k) h = is_not (extends G 12 n k) h

pub ready_by : (G : Grammar) (o : Option Sort) (ss : List Symbol) → is_ready G o ss ≡ true → IsReady G o ss
ready_by G o [] h = tt
ready_by G o (Token c ∷ ss) h = ready_by G o ss h
ready_by G o (Part m ∷ ss) h = (shut_by G m (next_of G o ss) (and_left (is_shut G m (next_of G o ss)) (is_ready G o ss) h), ready_by G o ss (and_right (is_shut G m (next_of G o ss)) (is_ready G o ss) h))

pub not_false : (b : Bool) → not b ≡ true → b ≡ false
not_false b h = not_is b h

pub opened_not : (a b : Bool) → implies a b ≡ true → b ≡ false → a ≡ false
opened_not true b h e = absurd (false≢true (sym e ∙ h))
opened_not false b h e = refl
