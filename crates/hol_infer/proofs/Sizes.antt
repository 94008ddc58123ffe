-- The size of a term from the shapes of its slots; and all most general typings of a term have one size.
use Rattle.std.proofs.Common.{◌≡◌, ℕ, ◌+◌, ◌≤◌, List, [], ◌∷◌, map, refl, ap, subst, arith, slice_get, zero, suc}
use Rattle.hol_types.specs.Tree.{TypeTree, TypeList, TyVar, TyApp, no_types, more_types, type_size, types_size}
use Rattle.hol_types.specs.Subst.{type_for, type_subst, types_subst}
use Rattle.hol_terms.specs.Nameless.{Nameless, free, bound, fixed, app, lam}
use Rattle.hol_terms.specs.Size.{term_size, size_at}
use Rattle.hol_typing.specs.Raw.{RawTree}
use Rattle.hol_typing.specs.Typing.{instantiate_types, IsInstanceOf, IsPrincipal}
use Rattle.hol_typing.specs.Shape.{ShapeTree, ShapeList, Hole, Fixed, Built, no_shapes, more_shapes, shape_size, shapes_size, fill, fills}
use Rattle.hol_typing.specs.SlotTree.{SlotTree, SlotBound, SlotConstant, SlotFree, SlotApply, SlotAbstraction, typed}
use Rattle.hol_typing.specs.Found.{shape_at, types_at}
use Rattle.hol_typing.specs.Solved.{slot_size_of, slot_term_size}

-- type variables for open slots leave the size
mutual
  fill_size : (at : ℕ → List ℕ) (s : ShapeTree) → type_size (fill (λ k. TyVar (at k)) s) ≡ shape_size s
  fill_size at (Hole k) = refl
  fill_size at (Fixed a) = refl
  fill_size at (Built c ss) = ap (λ (n : ℕ). 1 + n) (fills_size at ss)

  fills_size : (at : ℕ → List ℕ) (ss : ShapeList) → types_size (fills (λ k. TyVar (at k)) ss) ≡ shapes_size ss
  fills_size at no_shapes = refl
  fills_size at (more_shapes s ss) = let p = fill_size at s in let q = fills_size at ss in omega (arith, p, q)

env_size : (at : ℕ → List ℕ) (shapes : List ShapeTree) (env : List ℕ) (i : ℕ) → size_at (slice_get (map (types_at shapes (λ k. TyVar (at k))) env) i) ≡ slot_size_of shapes (slice_get env i)
env_size at shapes [] i = refl
env_size at shapes (s ∷ env) zero = fill_size at (shape_at shapes s)
env_size at shapes (s ∷ env) (suc i) = env_size at shapes env i

pub typed_size : (at : ℕ → List ℕ) (shapes : List ShapeTree) (env : List ℕ) (term : SlotTree) → term_size (map (types_at shapes (λ k. TyVar (at k))) env) (typed (types_at shapes (λ k. TyVar (at k))) term) ≡ slot_term_size shapes env term
typed_size at shapes env (SlotBound i) = ap (λ (n : ℕ). 1 + n) (env_size at shapes env i)
typed_size at shapes env (SlotConstant c s) = ap (λ (n : ℕ). 1 + n) (fill_size at (shape_at shapes s))
typed_size at shapes env (SlotFree x s) = ap (λ (n : ℕ). 1 + n) (fill_size at (shape_at shapes s))
typed_size at shapes env (SlotApply f a) = let p = typed_size at shapes env f in let q = typed_size at shapes env a in omega (arith, p, q)
typed_size at shapes env (SlotAbstraction x s b) = let p = fill_size at (shape_at shapes s) in let q = typed_size at shapes (s ∷ env) b in omega (arith, p, q)

-- ---- types put for type variables take nothing away

some_node : (t : TypeTree) → 1 ≤ type_size t
some_node (TyVar a) = omega arith
some_node (TyApp c ts) = omega arith

mutual
  type_grows : (pairs : List (TypeTree × List ℕ)) (t : TypeTree) → type_size t ≤ type_size (type_subst pairs t)
  type_grows pairs (TyVar a) = some_node (type_for pairs a)
  type_grows pairs (TyApp c ts) = let r = types_grow pairs ts in omega (arith, r)

  types_grow : (pairs : List (TypeTree × List ℕ)) (ts : TypeList) → types_size ts ≤ types_size (types_subst pairs ts)
  types_grow pairs no_types = omega arith
  types_grow pairs (more_types t ts) = let p = type_grows pairs t in let q = types_grow pairs ts in omega (arith, p, q)

env_grows : (pairs : List (TypeTree × List ℕ)) (env : List TypeTree) (i : ℕ) → size_at (slice_get env i) ≤ size_at (slice_get (map (type_subst pairs) env) i)
env_grows pairs [] i = omega arith
env_grows pairs (t ∷ env) zero = type_grows pairs t
env_grows pairs (t ∷ env) (suc i) = env_grows pairs env i

term_grows : (pairs : List (TypeTree × List ℕ)) (env : List TypeTree) (p : Nameless) → term_size env p ≤ term_size (map (type_subst pairs) env) (instantiate_types pairs p)
term_grows pairs env (free v) = let r = type_grows pairs v.1 in omega (arith, r)
term_grows pairs env (bound i) = let r = env_grows pairs env i in omega (arith, r)
term_grows pairs env (fixed c s) = let r = type_grows pairs s in omega (arith, r)
term_grows pairs env (app f x) = let r = term_grows pairs env f in let s = term_grows pairs env x in omega (arith, r, s)
term_grows pairs env (lam a s b) = let r = type_grows pairs s in let q = term_grows pairs (s ∷ env) b in omega (arith, r, q)

instance_grows : (p q : Nameless) → IsInstanceOf p q → term_size [] p ≤ term_size [] q
instance_grows p q i = subst (λ (r : Nameless). term_size [] p ≤ term_size [] r) i.gives (term_grows i.pairs [] p)

-- all most general typings of a term have one size
pub principal_sizes : (raw : RawTree) (p q : Nameless) → IsPrincipal raw p → IsPrincipal raw q → term_size [] p ≡ term_size [] q
principal_sizes raw p q of_p of_q =
    let up = instance_grows p q (of_p.most_general q of_q.typing) in
    let down = instance_grows q p (of_q.most_general p of_p.typing) in
    omega (arith, up, down)
