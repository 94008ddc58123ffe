-- Slots for types: the steps of the walk over a type.
use Rattle.std.proofs.Common.{◌≡◌, ℕ, zero, suc, ◌+◌, ◌<◌, ◌≤◌, List, [], ◌∷◌, ◌++◌, length, map, get_or, take, drop, sym, ◌∙◌, ap, subst, arith}
use Rattle.std.specs.Prelude.{◌↔◌, false}
use Rattle.std.proofs.lemmas.List.{take_more, take_all}
use Rattle.hol_types.specs.Tree.{TypeTree, TyVar, TyApp, type_list, type_size, types_size}
use Rattle.hol_types.specs.Names.{is_among}
use Rattle.hol_types.proofs.Steps.{next_of}
use Rattle.hol_typing.specs.Typing.{IsOpen}
use Rattle.hol_typing.specs.declared.cell.Cell.{Cell}
use Rattle.hol_typing.specs.declared.cell.Cell.TheVariants.{Rigid}
use Rattle.hol_typing.specs.declared.generate.Graph.{Graph}
use Rattle.hol_typing.specs.Graph.{CellHolds, IsExpandedCell}
use Rattle.hol_typing.specs.Generate.{slots, IsWellFormed, IsNewCell, IsFresh, HasNoPlace, IsRigidBut, AreRigidBut, BuildsType, BuildsTypes}
use Rattle.hol_typing.proofs.Extending.{builds_type_rigid, builds_types_more, builds_type_app}

pub types_step : (g g1 h : Graph) (names : List (List ℕ)) (base : ℕ) (parts parts' : List ℕ) (tys : List TypeTree) (i part : ℕ) (ty : TypeTree) → i < length tys → ty ≡ get_or tys i ty → parts' ≡ parts ++ part ∷ [] →
    BuildsTypes g g1 names base parts (take i tys) → BuildsType g1 h names base part ty → BuildsTypes g h names base parts' (take (i + 1) tys)
types_step g g1 h names base parts parts' tys i part ty lt e p b c =
    let q : take (i + 1) tys ≡ take i tys ++ ty ∷ [] = take_more tys i ty lt ∙ ap (λ (t : TypeTree). take i tys ++ t ∷ []) (sym e) in
    subst (λ (xs : List ℕ). BuildsTypes g h names base xs (take (i + 1) tys)) (sym p)
    (subst (λ (ts : List TypeTree). BuildsTypes g h names base (parts ++ part ∷ []) ts) (sym q)
    (builds_types_more g g1 h names base parts (take i tys) part ty b c))

pub rigid_step : (names : List (List ℕ)) (tys : List TypeTree) (i : ℕ) (ty : TypeTree) → i < length tys → ty ≡ get_or tys i ty → AreRigidBut names (type_list (drop i tys)) → IsRigidBut names ty × AreRigidBut names (type_list (drop (i + 1) tys))
rigid_step names tys i ty lt e h = subst (λ (ts : List TypeTree). AreRigidBut names (type_list ts)) (next_of tys i ty lt e) h

pub rigid_slot : (g h : Graph) (names : List (List ℕ)) (base slot : ℕ) (ty : TypeTree) (a b : List ℕ) → IsWellFormed g → TyVar a ≡ ty → b ≡ a → IsRigidBut names ty → HasNoPlace names a → IsFresh g h slot (Rigid b) → BuildsType g h names base slot ty
rigid_slot g h names base slot ty a b w e n rigid none fresh =
    let r : is_among names a ≡ false → IsOpen a → ⊥ = subst (λ (t : TypeTree). IsRigidBut names t) (sym e) rigid in
    subst (λ (t : TypeTree). BuildsType g h names base slot t) e
    (builds_type_rigid g h names base slot a w (r none.not_among) none (subst (λ (c : List ℕ). IsFresh g h slot (Rigid c)) n fresh))

pub app_slot : (g g1 h : Graph) (names : List (List ℕ)) (base slot : ℕ) (ty : TypeTree) (c b : List ℕ) (cell : Cell) (parts : List ℕ) (args items : List TypeTree) (i : ℕ) →
    ((types : ℕ → TypeTree) (t : TypeTree) → CellHolds types t cell ↔ (t ≡ TyApp b (type_list (map types parts)))) → IsNewCell (slots g1) cell → IsExpandedCell cell →
    TyApp c (type_list args) ≡ ty → b ≡ c → items ≡ args → length items ≤ i → BuildsTypes g g1 names base parts (take i items) → IsFresh g1 h slot cell → BuildsType g h names base slot ty
app_slot g g1 h names base slot ty c b cell parts args items i is new plain e n p len b' fresh =
    let all : BuildsTypes g g1 names base parts args = subst (λ (ts : List TypeTree). BuildsTypes g g1 names base parts ts) (take_all i items len ∙ p) b' in
    subst (λ (t : TypeTree). BuildsType g h names base slot t) e
    (subst (λ (d : List ℕ). BuildsType g h names base slot (TyApp d (type_list args))) n
    (builds_type_app g g1 h names base slot b cell parts args is new plain all fresh))

-- an argument has fewer nodes than the whole
item_size : (items : List TypeTree) (i : ℕ) (d : TypeTree) → i < length items → type_size (get_or items i d) ≤ types_size (type_list items)
item_size [] i d lt = absurd (omega arith)
item_size (t ∷ items) zero d lt = omega arith
item_size (t ∷ items) (suc i) d lt = let r = item_size items i d (omega arith) in omega (arith, r)

pub arg_falls : (ty : TypeTree) (c : List ℕ) (args items : List TypeTree) (i : ℕ) (arg : TypeTree) → TyApp c (type_list args) ≡ ty → items ≡ args → i < length items → arg ≡ get_or items i arg → type_size arg < type_size ty
arg_falls ty c args items i arg e p lt q =
    let whole : 1 + types_size (type_list args) ≡ type_size ty = ap type_size e in
    let same : types_size (type_list items) ≡ types_size (type_list args) = ap (λ (xs : List TypeTree). types_size (type_list xs)) p in
    let here : type_size arg ≡ type_size (get_or items i arg) = ap type_size q in
    let r = item_size items i arg lt in
    omega (arith, whole, same, here, r)
