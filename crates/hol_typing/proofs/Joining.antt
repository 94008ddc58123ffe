-- Two constructors make one type where their names and their parts do.
use Rattle.std.proofs.Common.{◌≡◌, ◌≢◌, ℕ, ◌<◌, List, [], ◌∷◌, ◌++◌, length, map, refl, sym, ◌∙◌, ap, arith}
use Rattle.std.specs.Prelude.{◌↔◌}
use Rattle.std.specs.List.{All}
use Rattle.std.proofs.lemmas.List.Elements.{All-nil, All-cons, All-head, All-tail, All-append}
use Rattle.hol_types.specs.Tree.{TypeTree, TypeList, TyApp, type_list}
use Rattle.hol_typing.specs.declared.cell.Equation.{Equation}
use Rattle.hol_typing.specs.Graph.{EquationHolds, AreBelow, part_equations}

pub type_list_inj : (ss ts : List TypeTree) → type_list ss ≡ type_list ts → ss ≡ ts
type_list_inj [] [] e = refl
type_list_inj [] (t ∷ ts) e = absurd (cc)
type_list_inj (s ∷ ss) [] e = absurd (cc)
type_list_inj (s ∷ ss) (t ∷ ts) e =
    let p : type_list ss ≡ type_list ts = cc in
    let q : s ≡ t = cc in
    let r : ss ≡ ts = type_list_inj ss ts p in
    cc

pub all_split : (P : Equation → Type 0) (xs ys : List Equation) → All P (xs ++ ys) → All P xs × All P ys
all_split P [] ys h = (All-nil P, h)
all_split P (x ∷ xs) ys h =
    let r = all_split P xs ys (All-tail P x (xs ++ ys) h) in
    (All-cons P x xs (All-head P x (xs ++ ys) h) r.0, r.1)

cons_same : (s t : TypeTree) (ss ts : List TypeTree) → s ≡ t → ss ≡ ts → s ∷ ss ≡ t ∷ ts
cons_same s t ss ts p q = cc

-- the equations between the parts hold where the parts have the same types
parts_same : (types : ℕ → TypeTree) (ls rs : List ℕ) → length ls ≡ length rs → All (EquationHolds types) (part_equations ls rs) → map types ls ≡ map types rs
parts_same types [] [] e h = refl
parts_same types [] (r ∷ rs) e h = absurd (omega arith)
parts_same types (l ∷ ls) [] e h = absurd (omega arith)
parts_same types (l ∷ ls) (r ∷ rs) e h =
    cons_same (types l) (types r) (map types ls) (map types rs)
    (All-head (EquationHolds types) (record { left = l; right = r }) (part_equations ls rs) h)
    (parts_same types ls rs (omega arith) (All-tail (EquationHolds types) (record { left = l; right = r }) (part_equations ls rs) h))

same_parts : (types : ℕ → TypeTree) (ls rs : List ℕ) → map types ls ≡ map types rs → All (EquationHolds types) (part_equations ls rs)
same_parts types [] rs e = All-nil (EquationHolds types)
same_parts types (l ∷ ls) [] e = All-nil (EquationHolds types)
same_parts types (l ∷ ls) (r ∷ rs) e =
    let p : types l ≡ types r = cc in
    let q : map types ls ≡ map types rs = cc in
    All-cons (EquationHolds types) (record { left = l; right = r }) (part_equations ls rs) p (same_parts types ls rs q)

app_args : (c d : List ℕ) (ss ts : TypeList) → TyApp c ss ≡ TyApp d ts → ss ≡ ts
app_args c d ss ts e = cc

app_same : (c d : List ℕ) (ss ts : List TypeTree) → c ≡ d → ss ≡ ts → TyApp c (type_list ss) ≡ TyApp d (type_list ts)
app_same c d ss ts p q = cc

pub parts_joined : (types : ℕ → TypeTree) (c d : List ℕ) (t : TypeTree) (ls rs : List ℕ) (before : List Equation) → c ≡ d → length ls ≡ length rs →
    t ≡ TyApp c (type_list (map types ls)) →
    All (EquationHolds types) (before ++ part_equations ls rs) ↔ ((t ≡ TyApp d (type_list (map types rs))) × All (EquationHolds types) before)
parts_joined types c d t ls rs before n len e = (
  λ h. let r = all_split (EquationHolds types) before (part_equations ls rs) h in
      (e ∙ app_same c d (map types ls) (map types rs) n (parts_same types ls rs len r.1), r.0),
  λ (f, h). All-append (EquationHolds types) before (part_equations ls rs) h
      (same_parts types ls rs (type_list_inj (map types ls) (map types rs) (app_args c d (type_list (map types ls)) (type_list (map types rs)) (sym e ∙ f)))),
)

length_parts : (types : ℕ → TypeTree) (ls : List ℕ) → length (map types ls) ≡ length ls
length_parts types [] = refl
length_parts types (l ∷ ls) = let r = length_parts types ls in omega (arith, r)

-- constructors of another number of parts are apart
pub lengths_apart : (types : ℕ → TypeTree) (c d : List ℕ) (t : TypeTree) (ls rs : List ℕ) → length ls ≢ length rs →
    t ≡ TyApp c (type_list (map types ls)) → t ≡ TyApp d (type_list (map types rs)) → ⊥
lengths_apart types c d t ls rs ne e f =
    let p : map types ls ≡ map types rs = type_list_inj (map types ls) (map types rs) (app_args c d (type_list (map types ls)) (type_list (map types rs)) (sym e ∙ f)) in
    ne (sym (length_parts types ls) ∙ ap length p ∙ length_parts types rs)

pub length_equations : (ls rs : List ℕ) → length ls ≡ length rs → length (part_equations ls rs) ≡ length ls
length_equations [] [] e = refl
length_equations [] (r ∷ rs) e = refl
length_equations (l ∷ ls) [] e = absurd (omega arith)
length_equations (l ∷ ls) (r ∷ rs) e = let q = length_equations ls rs (omega arith) in omega (arith, q)

-- the equations between parts that stand below n
pub equations_below : (n : ℕ) (ls rs : List ℕ) → All (λ p. p < n) ls → All (λ p. p < n) rs → AreBelow n (part_equations ls rs)
equations_below n [] rs p q = All-nil (λ (e : Equation). (e.left < n) × (e.right < n))
equations_below n (l ∷ ls) [] p q = All-nil (λ (e : Equation). (e.left < n) × (e.right < n))
equations_below n (l ∷ ls) (r ∷ rs) p q =
    All-cons (λ (e : Equation). (e.left < n) × (e.right < n)) (record { left = l; right = r }) (part_equations ls rs)
    (All-head (λ (k : ℕ). k < n) l ls p, All-head (λ (k : ℕ). k < n) r rs q)
    (equations_below n ls rs (All-tail (λ (k : ℕ). k < n) l ls p) (All-tail (λ (k : ℕ). k < n) r rs q))

pub joined_below : (n : ℕ) (before : List Equation) (ls rs : List ℕ) → All (λ p. p < n) ls → All (λ p. p < n) rs → AreBelow n before → AreBelow n (before ++ part_equations ls rs)
joined_below n before ls rs p q h = All-append (λ (e : Equation). (e.left < n) × (e.right < n)) before (part_equations ls rs) h (equations_below n ls rs p q)
