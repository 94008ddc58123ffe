-- The equations of each kind of term say what its typings are.
use Rattle.std.proofs.Common.{◌≡◌, ℕ, zero, suc, ◌<◌, List, [], ◌∷◌, map, refl, sym, ◌∙◌, ap, subst, arith, Option, Some, None, Result, Ok, IfOk, slice_get}
use Rattle.std.specs.List.{All}
use Rattle.hol_types.specs.Tree.{TypeTree}
use Rattle.hol_types.specs.Fun.{fun_type}
use Rattle.hol_types.proofs.SubstLaws.{subst_none}
use Rattle.hol_terms.specs.Nameless.{Nameless, free, bound, fixed, app, lam, base_of}
use Rattle.hol_typing.specs.Raw.{RawTree, RawBound, RawConstant, RawFree, RawApply, RawAbstraction, RawAnnotated}
use Rattle.hol_typing.specs.Typing.{IsTyping}
use Rattle.hol_typing.specs.SlotTree.{SlotTree, SlotBound, SlotConstant, SlotFree, SlotApply, SlotAbstraction, typed}
use Rattle.hol_typing.specs.declared.cell.Cell.TheVariants.{Unknown}
use Rattle.hol_typing.specs.declared.generate.Graph.{Graph}
use Rattle.hol_typing.specs.Generate.{Solves, slots, IsWellFormed, Agree, IsFresh, IsFunction, IsEquated, BuildsType, Instantiates, FindsName, BuildsVariable, Generates}
use Rattle.hol_typing.proofs.Growing.{map_agree}
use Rattle.hol_typing.proofs.Extending.{agree_refl, agree_trans, term_agree, are_slots_in_more, typing_at, extend_fresh, extend_function, app_same, fun_same}

-- what holds of an answer, of what was answered
pub told : {S E : Type 0} (P : S → Type 0) (answer : Result S E) (x : S) → answer ≡ Ok x → IfOk answer P → P x
told P answer x e h = subst (λ z. IfOk z P) e h

lam_same : (x y : List ℕ) (a a' : TypeTree) (b b' : Nameless) → y ≡ x → a ≡ a' → b ≡ b' → lam y a b ≡ lam x a' b'
lam_same x y a a' b b' p q r = cc

fixed_same : (c d : List ℕ) (u t t' : TypeTree) → c ≡ d → u ≡ t → t ≡ t' → fixed d u ≡ fixed c t'
fixed_same c d u t t' p q r = cc

free_same : (v : List ℕ × TypeTree) (x : List ℕ) (t t' : TypeTree) → v ≡ (x, t) → t ≡ t' → free v ≡ free (x, t')
free_same v x t t' p q = cc

some_same : (s t : TypeTree) → Some s ≡ Some t → s ≡ t
some_same s t p = cc

list_same : (s s' : TypeTree) (b b' : List TypeTree) → s ≡ s' → b ≡ b' → s ∷ b ≡ s' ∷ b'
list_same s s' b b' p q = cc

-- the type of a bound variable
env_type : (types : ℕ → TypeTree) (env : List ℕ) (i s : ℕ) → slice_get env i ≡ Some s → slice_get (map types env) i ≡ Some (types s)
env_type types [] i s e = absurd (cc)
env_type types (k ∷ env) zero s e = (let f : k ≡ s = cc in ap (λ (n : ℕ). Some (types n)) f)
env_type types (k ∷ env) (suc i) s e = env_type types env i s e

module _ (g h : Graph) (env : List ℕ) (i e slot : ℕ) (w : IsWellFormed g) (e_in : e < slots g) (at : slice_get env i ≡ Some slot) (same : IsEquated g h slot e) where
  bound_complete : (type_of : List ℕ → TypeTree) (types : ℕ → TypeTree) (p : Nameless) → Solves g type_of types → IsTyping type_of (map types env) (RawBound i) p (types e) →
      (types' : ℕ → TypeTree) × Agree (slots g) types types' × Solves h type_of types' × (p ≡ typed types' (SlotBound i))
  bound_complete type_of types (free v) s t = absurd t
  bound_complete type_of types (bound j) s (j_is, t_is) =
      let n = same.slots_are in
      (types, agree_refl (slots g) types, (same.solves type_of types).1 (s, some_same (types slot) (types e) (sym (env_type types env i slot at) ∙ t_is)), ap bound (sym j_is))
  bound_complete type_of types (fixed c u) s t = absurd t
  bound_complete type_of types (app f a) s t = absurd t
  bound_complete type_of types (lam x u b) s t = absurd t

  pub generates_bound : Generates g h env (RawBound i) e (SlotBound i)
  generates_bound = record {
    well_formed = same.well_formed;
    more = (let n = same.slots_are in omega (arith, n));
    slots_in = tt;
    scoped = λ names h'. h';
    sound = λ type_of types s. (let p = (same.solves type_of types).0 s in (p.0, (refl, env_type types env i slot at ∙ ap (λ (t : TypeTree). Some t) p.1)));
    complete = bound_complete;
  }

-- a constant
module _ (g h : Graph) (env : List ℕ) (c : List ℕ) (generic : TypeTree) (e : ℕ) (e_in : e < slots g) (instance' : Instantiates g h generic e) where
  constant_complete : (type_of : List ℕ → TypeTree) (types : ℕ → TypeTree) (p : Nameless) → Solves g type_of types → IsTyping type_of (map types env) (RawConstant c generic) p (types e) →
      (types' : ℕ → TypeTree) × Agree (slots g) types types' × Solves h type_of types' × (p ≡ typed types' (SlotConstant c e))
  constant_complete type_of types (free v) s t = absurd t
  constant_complete type_of types (bound j) s t = absurd t
  constant_complete type_of types (fixed d u) s (c_is, u_is, i) =
      let x = instance'.complete type_of types s i in
      (x.0, x.1, x.2, fixed_same c d u (types e) (x.0 e) c_is u_is (x.1.agree e e_in))
  constant_complete type_of types (app f a) s t = absurd t
  constant_complete type_of types (lam x u b) s t = absurd t

  pub generates_constant : Generates g h env (RawConstant c generic) e (SlotConstant c e)
  generates_constant = record {
    well_formed = instance'.well_formed;
    more = instance'.more;
    slots_in = (let m = instance'.more in omega (arith, m, e_in));
    scoped = λ names h'. h';
    sound = λ type_of types s. (let p = instance'.sound type_of types s in (p.0, (refl, refl, p.1)));
    complete = constant_complete;
  }

-- a free variable
module _ (g g1 h : Graph) (env : List ℕ) (x : List ℕ) (e slot : ℕ) (e_in : e < slots g) (finds : FindsName g g1 x slot) (same : IsEquated g1 h slot e) where
  free_complete : (type_of : List ℕ → TypeTree) (types : ℕ → TypeTree) (p : Nameless) → Solves g type_of types → IsTyping type_of (map types env) (RawFree x) p (types e) →
      (types' : ℕ → TypeTree) × Agree (slots g) types types' × Solves h type_of types' × (p ≡ typed types' (SlotFree x e))
  free_complete type_of types (free v) s (v_is, t_is) =
      let y = finds.complete type_of types s in
      let e1 : types e ≡ y.0 e = y.1.agree e e_in in
      let found : type_of x ≡ y.0 slot = (finds.sound type_of y.0 y.2).1 in
      (y.0, y.1, (same.solves type_of y.0).1 (y.2, sym found ∙ sym t_is ∙ e1), free_same v x (types e) (y.0 e) v_is e1)
  free_complete type_of types (bound j) s t = absurd t
  free_complete type_of types (fixed d u) s t = absurd t
  free_complete type_of types (app f a) s t = absurd t
  free_complete type_of types (lam y u b) s t = absurd t

  pub generates_free : Generates g h env (RawFree x) e (SlotFree x e)
  generates_free = record {
    well_formed = same.well_formed;
    more = (let n = same.slots_are in let m = finds.more in omega (arith, n, m));
    slots_in = (let n = same.slots_are in let m = finds.more in omega (arith, n, m, e_in));
    scoped = λ names h'. h';
    sound = λ type_of types s.
        let p = (same.solves type_of types).0 s in
        let q = finds.sound type_of types p.0 in
        (q.0, (refl, sym p.1 ∙ sym q.1));
    complete = free_complete;
  }

-- an application
module _ (g g1 g2 g3 h : Graph) (env : List ℕ) (f a : RawTree) (e d fs : ℕ) (left right : SlotTree)
    (w : IsWellFormed g) (env_in : All (λ s. s < slots g) env) (e_in : e < slots g)
    (domain : IsFresh g g1 d Unknown) (function : IsFunction g1 g2 fs d e) (gf : Generates g2 g3 env f fs left) (ga : Generates g3 h env a d right) where
  apply_complete : (type_of : List ℕ → TypeTree) (types : ℕ → TypeTree) (p : Nameless) → Solves g type_of types → IsTyping type_of (map types env) (RawApply f a) p (types e) →
      (types' : ℕ → TypeTree) × Agree (slots g) types types' × Solves h type_of types' × (p ≡ typed types' (SlotApply left right))
  apply_complete type_of types (free v) s t = absurd t
  apply_complete type_of types (bound j) s t = absurd t
  apply_complete type_of types (fixed c u) s t = absurd t
  apply_complete type_of types (lam x u b) s t = absurd t
  apply_complete type_of types (app u v) s (s', tf, ta) =
      let n1 = domain.slots_are in
      let n2 = function.slots_are in
      let d_is = domain.slot_is in
      let x = extend_fresh g g1 d Unknown w tt domain type_of types s' s tt in
      let e1 : types e ≡ x.0 e = x.1.agree e e_in in
      let d1 : x.0 d ≡ s' = x.3 in
      let y = extend_function g1 g2 fs d e domain.well_formed (omega (arith, n1, d_is)) (omega (arith, n1)) function type_of x.0 x.2 in
      let fs_type : fun_type s' (types e) ≡ y.0 fs = fun_same s' (x.0 d) (types e) (x.0 e) (sym d1) e1 ∙ sym y.3 in
      let agree2 : Agree (slots g) types y.0 = agree_trans (slots g) (slots g1) types x.0 y.0 (omega (arith, n1)) x.1 y.1 in
      let z = gf.complete type_of y.0 u y.2
      (typing_at type_of (map types env) (map y.0 env) f u (fun_type s' (types e)) (y.0 fs) (map_agree (slots g) types y.0 env agree2 env_in) fs_type tf) in
      let agree3 : Agree (slots g) types z.0 = agree_trans (slots g) (slots g2) types y.0 z.0 (omega (arith, n1, n2)) agree2 z.1 in
      let d_same : s' ≡ z.0 d = sym d1 ∙ y.1.agree d (omega (arith, n1, d_is)) ∙ z.1.agree d (omega (arith, n1, n2, d_is)) in
      let v' = ga.complete type_of z.0 v z.2
      (typing_at type_of (map types env) (map z.0 env) a v s' (z.0 d) (map_agree (slots g) types z.0 env agree3 env_in) d_same ta) in
      let more2 = gf.more in
      let left_same : u ≡ typed v'.0 left = z.3 ∙ term_agree (slots g3) z.0 v'.0 left v'.1 gf.slots_in in
      let right_same : v ≡ typed v'.0 right = v'.3 in
      (v'.0, agree_trans (slots g) (slots g3) types z.0 v'.0 (omega (arith, n1, n2, more2)) agree3 v'.1, v'.2, app_same u (typed v'.0 left) v (typed v'.0 right) left_same right_same)

  pub generates_apply : Generates g h env (RawApply f a) e (SlotApply left right)
  generates_apply = record {
    well_formed = ga.well_formed;
    more = (let n1 = domain.slots_are in let n2 = function.slots_are in let m1 = gf.more in let m2 = ga.more in omega (arith, n1, n2, m1, m2));
    slots_in = (are_slots_in_more (slots g3) (slots h) left ga.more gf.slots_in, ga.slots_in);
    scoped = λ names (p, q). (gf.scoped names p, ga.scoped names q);
    sound = λ type_of types s.
        let x = ga.sound type_of types s in
        let y = gf.sound type_of types x.0 in
        let z = (function.solves type_of types).0 y.0 in
        let v = (domain.solves type_of types).0 z.0 in
        (v.0, (types d, subst (λ (t : TypeTree). IsTyping type_of (map types env) f (typed types left) t) z.1 y.1, x.1));
    complete = apply_complete;
  }

-- an abstraction
module _ (g g1 g2 g3 g4 h : Graph) (env : List ℕ) (x : List ℕ) (annotation : Option TypeTree) (body : RawTree) (e v r ws : ℕ) (inner : SlotTree)
    (w : IsWellFormed g) (env_in : All (λ s. s < slots g) env) (e_in : e < slots g)
    (variable : BuildsVariable g g1 v annotation) (range : IsFresh g1 g2 r Unknown) (whole : IsFunction g2 g3 ws v r) (same : IsEquated g3 g4 ws e) (gb : Generates g4 h (v ∷ env) body r inner) where
  abstraction_complete : (type_of : List ℕ → TypeTree) (types : ℕ → TypeTree) (p : Nameless) → Solves g type_of types → IsTyping type_of (map types env) (RawAbstraction x annotation body) p (types e) →
      (types' : ℕ → TypeTree) × Agree (slots g) types types' × Solves h type_of types' × (p ≡ typed types' (SlotAbstraction x v inner))
  abstraction_complete type_of types (free y) s t = absurd t
  abstraction_complete type_of types (bound j) s t = absurd t
  abstraction_complete type_of types (fixed c u) s t = absurd t
  abstraction_complete type_of types (app p q) s t = absurd t
  abstraction_complete type_of types (lam y a b) s (name_same, meets, (u, e_is, tb)) =
      let m1 = variable.more in
      let n2 = range.slots_are in
      let n3 = whole.slots_are in
      let n4 = same.slots_are in
      let v_in = variable.slot_in in
      let r_is = range.slot_is in
      let t1 = variable.complete type_of types a s meets in
      let t2 = extend_fresh g1 g2 r Unknown variable.well_formed tt range type_of t1.0 u t1.2 tt in
      let v2 : a ≡ t2.0 v = sym t1.3 ∙ t2.1.agree v v_in in
      let r2 : t2.0 r ≡ u = t2.3 in
      let t3 = extend_function g2 g3 ws v r range.well_formed (omega (arith, n2, v_in)) (omega (arith, n2, r_is)) whole type_of t2.0 t2.2 in
      let ws_type : t3.0 ws ≡ fun_type a u = t3.3 ∙ fun_same (t2.0 v) a (t2.0 r) u (sym v2) r2 in
      let agree2 : Agree (slots g) types t2.0 = agree_trans (slots g) (slots g1) types t1.0 t2.0 m1 t1.1 t2.1 in
      let agree3 : Agree (slots g) types t3.0 = agree_trans (slots g) (slots g2) types t2.0 t3.0 (omega (arith, m1, n2)) agree2 t3.1 in
      let v3 : a ≡ t3.0 v = v2 ∙ t3.1.agree v (omega (arith, n2, v_in)) in
      let r3 : u ≡ t3.0 r = sym r2 ∙ t3.1.agree r (omega (arith, n2, r_is)) in
      let e3 : t3.0 ws ≡ t3.0 e = ws_type ∙ sym e_is ∙ agree3.agree e e_in in
      let s4 : Solves g4 type_of t3.0 = (same.solves type_of t3.0).1 (t3.2, e3) in
      let env3 : map types env ≡ map t3.0 env = map_agree (slots g) types t3.0 env agree3 env_in in
      let inside : a ∷ map types env ≡ t3.0 v ∷ map t3.0 env = list_same a (t3.0 v) (map types env) (map t3.0 env) v3 env3 in
      let t4 = gb.complete type_of t3.0 b s4
      (typing_at type_of (a ∷ map types env) (map t3.0 (v ∷ env)) body b u (t3.0 r) inside r3 tb) in
      let v4 : a ≡ t4.0 v = v3 ∙ t4.1.agree v (omega (arith, n2, n3, n4, v_in)) in
      let b4 : b ≡ typed t4.0 inner = t4.3 in
      (t4.0, agree_trans (slots g) (slots g4) types t3.0 t4.0 (omega (arith, m1, n2, n3, n4)) agree3 t4.1, t4.2, lam_same (base_of x) y a (t4.0 v) b (typed t4.0 inner) name_same v4 b4)

  pub generates_abstraction : Generates g h env (RawAbstraction x annotation body) e (SlotAbstraction x v inner)
  generates_abstraction = record {
    well_formed = gb.well_formed;
    more = (let m1 = variable.more in let n2 = range.slots_are in let n3 = whole.slots_are in let n4 = same.slots_are in let m = gb.more in omega (arith, m1, n2, n3, n4, m));
    slots_in = ((let v_in = variable.slot_in in let n2 = range.slots_are in let n3 = whole.slots_are in let n4 = same.slots_are in let m = gb.more in omega (arith, v_in, n2, n3, n4, m)), gb.slots_in);
    scoped = λ names p. gb.scoped (x ∷ names) p;
    sound = λ type_of types s.
        let p = gb.sound type_of types s in
        let q = (same.solves type_of types).0 p.0 in
        let i = (whole.solves type_of types).0 q.0 in
        let j = (range.solves type_of types).0 i.0 in
        let k = variable.sound type_of types j.0 in
        (k.0, (refl, k.1, (types r, sym q.1 ∙ i.1, p.1)));
    complete = abstraction_complete;
  }

-- a term with an annotation
module _ (g g1 g2 h : Graph) (env : List ℕ) (raw : RawTree) (ty : TypeTree) (e slot : ℕ) (term : SlotTree)
    (env_in : All (λ s. s < slots g) env) (e_in : e < slots g)
    (builds : BuildsType g g1 [] 0 slot ty) (same : IsEquated g1 g2 slot e) (gi : Generates g2 h env raw e term) where
  pub generates_annotated : Generates g h env (RawAnnotated raw ty) e term
  generates_annotated = record {
    well_formed = gi.well_formed;
    more = (let m1 = builds.more in let n2 = same.slots_are in let m = gi.more in omega (arith, m1, n2, m));
    slots_in = gi.slots_in;
    scoped = gi.scoped;
    sound = λ type_of types s.
        let p = gi.sound type_of types s in
        let q = (same.solves type_of types).0 p.0 in
        let i = builds.sound type_of types q.0 in
        (i.0, (sym q.1 ∙ i.1 ∙ subst_none ty, p.1));
    complete = λ type_of types p s (e_is, t).
        let m1 = builds.more in
        let n2 = same.slots_are in
        let x = builds.complete type_of types s in
        let slot_is : x.0 slot ≡ ty = (builds.sound type_of x.0 x.2).1 ∙ subst_none ty in
        let e1 : types e ≡ x.0 e = x.1.agree e e_in in
        let s2 : Solves g2 type_of x.0 = (same.solves type_of x.0).1 (x.2, slot_is ∙ sym e_is ∙ e1) in
        let y = gi.complete type_of x.0 p s2
        (typing_at type_of (map types env) (map x.0 env) raw p (types e) (x.0 e) (map_agree (slots g) types x.0 env x.1 env_in) e1 t) in
        (y.0, agree_trans (slots g) (slots g2) types x.0 y.0 (omega (arith, m1, n2)) x.1 y.1, y.2, y.3);
  }

-- a bound variable with an annotation and without
pub builds_variable_some : (g h : Graph) (slot : ℕ) (annotation : Option TypeTree) (ty : TypeTree) → annotation ≡ Some ty → BuildsType g h [] 0 slot ty → BuildsVariable g h slot annotation
builds_variable_some g h slot annotation ty is b = record {
  well_formed = b.well_formed;
  more = b.more;
  slot_in = b.slot_in;
  sound = λ type_of types s. (let x = b.sound type_of types s in (x.0, rw is (x.1 ∙ subst_none ty)));
  complete = λ type_of types t s meets.
      let x = b.complete type_of types s in
      let e : t ≡ ty = rw is at meets in
      (x.0, x.1, x.2, (b.sound type_of x.0 x.2).1 ∙ subst_none ty ∙ sym e);
}

pub builds_variable_none : (g h : Graph) (slot : ℕ) (annotation : Option TypeTree) → annotation ≡ None → IsWellFormed g → IsFresh g h slot Unknown → BuildsVariable g h slot annotation
builds_variable_none g h slot annotation is w fresh = record {
  well_formed = fresh.well_formed;
  more = (let n = fresh.slots_are in omega (arith, n));
  slot_in = (let n = fresh.slots_are in let i = fresh.slot_is in omega (arith, n, i));
  sound = λ type_of types s. ((let x = (fresh.solves type_of types).0 s in (x.0, rw is tt)));
  complete = λ type_of types t s meets. extend_fresh g h slot Unknown w tt fresh type_of types t s tt;
}

-- the same of equal terms
pub generates_same : (g h : Graph) (env : List ℕ) (raw raw' : RawTree) (e : ℕ) (term term' : SlotTree) → raw ≡ raw' → term ≡ term' → Generates g h env raw e term → Generates g h env raw' e term'
generates_same g h env raw raw' e term term' p q gen =
    subst (λ (r : RawTree). Generates g h env r e term') p (subst (λ (t : SlotTree). Generates g h env raw e t) q gen)
