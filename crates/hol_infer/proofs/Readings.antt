-- The most general typing, with its open types named as they occur, is the reading.
use Rattle.std.proofs.Common.{◌≡◌, ℕ, ◌+◌, ◌<◌, ◌^◌, zero, suc, List, [], ◌∷◌, ◌++◌, length, refl, sym, ◌∙◌, ap, subst, arith, true, length-append, inl, inr, Option, Some, None}
use Rattle.std.proofs.lemmas.Bool.{cases_eq}
use Rattle.hol_types.specs.Tree.{TypeTree, TypeList, TyVar, TyApp, no_types, more_types}
use Rattle.hol_terms.specs.Nameless.{Nameless}
use Rattle.hol_terms.specs.Size.{term_size}
use Rattle.hol_typing.specs.Raw.{RawTree, RawBound, RawConstant, RawFree, RawApply, RawAbstraction, RawAnnotated}
use Rattle.hol_typing.specs.Typing.{open_name, IsPrincipal}
use Rattle.hol_infer.specs.Reading.{IsReading, HasLargeReading, ComeInOrder, occurring_tyvars}
use Rattle.hol_typing.specs.Shape.{ShapeTree, ShapeList, Hole, Fixed, Built, no_shapes, more_shapes}
use Rattle.hol_typing.specs.SlotTree.{SlotTree, SlotBound, SlotConstant, SlotFree, SlotApply, SlotAbstraction, typed, AreSlotsIn}
use Rattle.hol_typing.specs.Scoped.{IsFirstAt, IsScoped, HasRigidAnnotations, IsRigid, HasNoOpenName, HaveNoOpenName}
use Rattle.hol_typing.specs.Generate.{IsClosedAt, IsRigidOption, IsRigidBut, AreRigidBut}
use Rattle.hol_typing.specs.Found.{shape_at, types_at, AreHolesBelow, AllHolesBelow}
use Rattle.hol_typing.specs.Holes.{add_holes, open_type, is_hole_among, hole_index}
use Rattle.hol_typing.specs.Solved.{IsGeneralTyping, term_holes, slot_term_size, IsWellTyped}
use Rattle.hol_infer.proofs.Naming.{pairs_of, pairs_open, AreHolesIn, AllHolesIn, AreTermHolesIn, instance_of, term_in_order, term_covered, grows_self, among_before, among_last}
use Rattle.hol_typing.proofs.Named.{typing_type}
use Rattle.hol_infer.proofs.Sizes.{typed_size}

-- with an order that has all the open slots, the typing is a most general one
pub principal_by : (raw : RawTree) (shapes : List ShapeTree) (term : SlotTree) (order : List ℕ) → length order < 2 ^ 64 → IsGeneralTyping raw shapes term → AreTermHolesIn shapes order term →
    IsPrincipal raw (typed (types_at shapes (open_type order)) term)
principal_by raw shapes term order small general covered = record {
  typing = general.typing (open_type order);
  most_general = λ q t.
      let x = general.instances q t in
      record {
        pairs = pairs_of x.0 0 order;
        are_open = pairs_open x.0 0 order;
        gives = instance_of x.0 shapes order term small covered general.rigid ∙ sym x.1;
      };
}

pub reading_of : (raw : RawTree) (shapes : List ShapeTree) (term : SlotTree) (order : List ℕ) → length order < 2 ^ 64 → IsGeneralTyping raw shapes term → order ≡ add_holes [] (term_holes shapes term) →
    IsReading raw (typed (types_at shapes (open_type order)) term)
reading_of raw shapes term order small general e =
    let whole = grows_self (add_holes [] (term_holes shapes term)) in
    record {
      principal = principal_by raw shapes term order small general (subst (λ (xs : List ℕ). AreTermHolesIn shapes xs term) (sym e) (term_covered shapes [] (add_holes [] (term_holes shapes term)) term whole));
      in_order = (
        length (add_holes [] (term_holes shapes term)),
        subst (λ (xs : List ℕ). ComeInOrder 0 (occurring_tyvars (typed (types_at shapes (open_type xs)) term)) (length (add_holes [] (term_holes shapes term)))) (sym e)
            (term_in_order shapes [] (add_holes [] (term_holes shapes term)) term general.rigid whole),
      );
    }

-- the same of the term that was built
pub reading_same : (raw : RawTree) (p q : Nameless) → p ≡ q → IsReading raw q → IsReading raw p
reading_same raw p q e r = subst (λ (x : Nameless). IsReading raw x) (sym e) r

pub well_typed_whole : (raw : RawTree) (shapes : List ShapeTree) (term : SlotTree) (at : ℕ → TypeTree) → IsGeneralTyping raw shapes term → IsWellTyped [] (typed (types_at shapes at) term)
well_typed_whole raw shapes term at general = (let x = general.typing at in (x.1.0, typing_type x.0 [] raw (typed (types_at shapes at) term) x.1.0 x.1.1))

-- ---- sizes

pub size_of : (shapes : List ShapeTree) (order : List ℕ) (term : SlotTree) → term_size [] (typed (types_at shapes (open_type order)) term) ≡ slot_term_size shapes [] term
size_of shapes order term = typed_size (λ k. open_name (hole_index order k)) shapes [] term

-- all slots below n, in order
abbrev below : ℕ → List ℕ
below zero = []
below (suc n) = below n ++ n ∷ []

among_below : (n k : ℕ) → k < n → is_hole_among (below n) k ≡ true
among_below zero k l = absurd (omega arith)
among_below (suc n) k l = elim (cases_eq k n) [
  | inl e ↦ subst (λ (j : ℕ). is_hole_among (below n ++ n ∷ []) j ≡ true) (sym e) (among_last (below n) n)
  | inr ne ↦ among_before (below n) (n ∷ []) k (among_below n k (omega arith))
]

length_below : (n : ℕ) → length (below n) ≡ n
length_below zero = refl
length_below (suc n) = length-append (below n) (n ∷ []) ∙ ap (λ (m : ℕ). m + 1) (length_below n) ∙ (omega arith)

mutual
  holes_below : (n : ℕ) (s : ShapeTree) → AreHolesBelow n s → AreHolesIn (below n) s
  holes_below n (Hole k) h = among_below n k h
  holes_below n (Fixed a) h = tt
  holes_below n (Built c ss) h = all_below n ss h

  all_below : (n : ℕ) (ss : ShapeList) → AllHolesBelow n ss → AllHolesIn (below n) ss
  all_below n no_shapes h = tt
  all_below n (more_shapes s ss) (h, hs) = (holes_below n s h, all_below n ss hs)

term_below : (limit : ℕ) (shapes : List ShapeTree) (term : SlotTree) → ((i : ℕ) → i < length shapes → AreHolesBelow limit (shape_at shapes i)) → AreSlotsIn (length shapes) term → AreTermHolesIn shapes (below limit) term
term_below limit shapes (SlotBound i) h in' = tt
term_below limit shapes (SlotConstant c s) h in' = holes_below limit (shape_at shapes s) (h s in')
term_below limit shapes (SlotFree x s) h in' = holes_below limit (shape_at shapes s) (h s in')
term_below limit shapes (SlotApply f a) h (p, q) = (term_below limit shapes f h p, term_below limit shapes a h q)
term_below limit shapes (SlotAbstraction x s b) h (p, q) = (holes_below limit (shape_at shapes s) (h s p), term_below limit shapes b h q)

-- where the term has over 20,000 nodes, so has a most general typing
pub large_of : (raw : RawTree) (shapes : List ShapeTree) (term : SlotTree) → IsGeneralTyping raw shapes term → 20000 < slot_term_size shapes [] term → HasLargeReading raw
large_of raw shapes term general large =
    let order = below general.limit in
    let len = length_below general.limit in
    let small = general.small in
    let size = size_of shapes order term in (
      typed (types_at shapes (open_type order)) term,
      principal_by raw shapes term order (omega (arith, len, small)) general (term_below general.limit shapes term general.below general.slots_in),
      omega (arith, size, large),
    )

-- ---- terms with resolved identifiers are closed, and their annotations have no open names

mutual
  rigid_but : (ty : TypeTree) → HasNoOpenName ty → IsRigidBut [] ty
  rigid_but (TyVar a) h = λ e. h
  rigid_but (TyApp c ts) h = rigids_but ts h

  rigids_but : (ts : TypeList) → HaveNoOpenName ts → AreRigidBut [] ts
  rigids_but no_types h = tt
  rigids_but (more_types t ts) (h, hs) = (rigid_but t h, rigids_but ts hs)

rigid_option : (annotation : Option TypeTree) → IsRigid annotation → IsRigidOption annotation
rigid_option None h = tt
rigid_option (Some a) h = rigid_but a h

first_below : (names : List (List ℕ)) (i : ℕ) (a : List ℕ) → IsFirstAt names i a → i < length names
first_below [] i a h = absurd h
first_below (b ∷ names) zero a h = omega arith
first_below (b ∷ names) (suc i) a (ne, h) = let r = first_below names i a h in omega (arith, r)

closed_under : (names : List (List ℕ)) (raw : RawTree) → IsScoped names raw → HasRigidAnnotations raw → IsClosedAt (length names) raw
closed_under names (RawBound i) (a, h) r = first_below names i a h
closed_under names (RawConstant c generic) h r = tt
closed_under names (RawFree x) h r = tt
closed_under names (RawApply f a) (h, k) (r, s) = (closed_under names f h r, closed_under names a k s)
closed_under names (RawAbstraction x annotation body) h (r, s) = (rigid_option annotation r, subst (λ (n : ℕ). IsClosedAt n body) (omega arith) (closed_under (x ∷ names) body h s))
closed_under names (RawAnnotated e a) h (r, s) = (rigid_but a r, closed_under names e h s)

pub closed_whole : (raw : RawTree) → IsScoped [] raw → HasRigidAnnotations raw → IsClosedAt 0 raw
closed_whole raw h r = closed_under [] raw h r
