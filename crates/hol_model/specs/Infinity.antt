-- What uses the axiom of infinity: a derivation, and the derivations by which a list of items is legal.
use Rattle.std.specs.Prelude.{◌≡◌, ℕ, Bool, true, false, ◌||◌, List, [], ◌∷◌}
use Rattle.hol_terms.specs.Nameless.{Nameless}
use Rattle.hol_kernel.specs.Item.{Item, declared_type, declared_constant, defined_constant, defined_type, declared_axiom}
use Rattle.hol_kernel.specs.Items.{Items, Holds, item_set}
use Rattle.hol_formulas.specs.Formula.{falsity}
use Rattle.hol_kernel.specs.Sequent.{Hyps, no_hyps, sequent_of}
use Rattle.hol_kernel.specs.Derivation.{Derives, by_refl, by_trans, by_mk_comb, by_abs, by_beta, by_assume, by_eq_mp, by_deduct_antisym, by_inst_type, by_inst, by_postulate, by_axiom, by_definition, by_abs_rep, by_rep_abs}
use Rattle.hol_kernel.specs.Legal.{IsSound, IsLegal}
use Rattle.hol_kernel.specs.Theorem.{Theorem, IsTheorem}
use Rattle.hol_formulas.specs.declared.postulate.Postulate.{Postulate}
use Rattle.hol_formulas.specs.declared.postulate.Postulate.TheVariants.{TDef, AndDef, ImpDef, ForallDef, ExistsDef, OrDef, FDef, NotDef, ExistsUniqueDef, EtaAx, SelectAx, OneOne, Onto, InfinityAx}

abbrev pub is_infinity : Postulate → Bool
is_infinity TDef = false
is_infinity AndDef = false
is_infinity ImpDef = false
is_infinity ForallDef = false
is_infinity ExistsDef = false
is_infinity OrDef = false
is_infinity FDef = false
is_infinity NotDef = false
is_infinity ExistsUniqueDef = false
is_infinity EtaAx = false
is_infinity SelectAx = false
is_infinity OneOne = false
is_infinity Onto = false
is_infinity InfinityAx = true

-- a leaf of the derivation is INFINITY_AX
abbrev pub uses_infinity : (items : Items) (hs : Hyps) (c : Nameless) → Derives items hs c → Bool
uses_infinity items _ _ (by_refl t a h) = false
uses_infinity items _ _ (by_trans hs ks a b s m n t d e same) = uses_infinity items _ _ d || uses_infinity items _ _ e
uses_infinity items _ _ (by_mk_comb hs ks a b f g x y d e) = uses_infinity items _ _ d || uses_infinity items _ _ e
uses_infinity items _ _ (by_abs hs a v l r stands fresh d) = uses_infinity items _ _ d
uses_infinity items _ _ (by_beta a v b h fresh) = false
uses_infinity items _ _ (by_assume p h) = false
uses_infinity items _ _ (by_eq_mp hs ks a l r m d e same) = uses_infinity items _ _ d || uses_infinity items _ _ e
uses_infinity items _ _ (by_deduct_antisym hs ks p q d e) = uses_infinity items _ _ d || uses_infinity items _ _ e
uses_infinity items _ _ (by_inst_type hs p pairs ok d) = uses_infinity items _ _ d
uses_infinity items _ _ (by_inst hs p pairs ok d) = uses_infinity items _ _ d
uses_infinity items _ _ (by_postulate which) = is_infinity which
uses_infinity items _ _ (by_axiom n p h typed) = false
uses_infinity items _ _ (by_definition c r a h typed) = false
uses_infinity items _ _ (by_abs_rep c abs rep p s h typed) = false
uses_infinity items _ _ (by_rep_abs c abs rep p s h typed) = false

-- the derivation of the new type's member does, where the item defines a type
abbrev pub member_uses_infinity : (earlier : Items) (x : Item) → IsSound earlier x → Bool
member_uses_infinity earlier (declared_type c n) sound = false
member_uses_infinity earlier (declared_constant c a) sound = false
member_uses_infinity earlier (defined_constant c r) sound = false
member_uses_infinity earlier (defined_type c abs rep p) sound = uses_infinity earlier _ _ sound.1.1.inhabited
member_uses_infinity earlier (declared_axiom n p) sound = false

-- one of the type definitions of a legal list does
abbrev pub members_use_infinity : (order : List Item) → IsLegal order → Bool
members_use_infinity [] legal = false
members_use_infinity (x ∷ earlier) legal = member_uses_infinity (item_set earlier) x legal.1 || members_use_infinity earlier legal.2

-- the derivation of a theorem does, or one of the type definitions of its basis
abbrev pub theorem_uses_infinity : (t : Theorem) → IsTheorem t → Bool
theorem_uses_infinity t is = uses_infinity t.basis _ _ is.derives || members_use_infinity is.legal.0 is.legal.1

-- whatever shows that it is a theorem uses INFINITY_AX: it has no derivation without it, counting those of the members of the types that its basis defines
abbrev pub NeedsInfinity : Theorem → Type 0
NeedsInfinity t = (is : IsTheorem t) → theorem_uses_infinity t is ≡ true

-- |- F, without hypotheses
abbrev pub StatesFalsity : Theorem → Type 0
StatesFalsity t = t.sequent ≡ sequent_of no_hyps falsity

-- no item is an axiom
abbrev pub HasNoAxiom : Items → Type 0
HasNoAxiom items = (n : List ℕ) (p : Nameless) → Holds items (declared_axiom n p) → ⊥
