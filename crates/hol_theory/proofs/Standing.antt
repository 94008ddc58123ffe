-- What stands in a theory is an entry that rests on the theory's items, and each axiom is stated by the entry of its name.
use Rattle.std.specs.Prelude.{◌≡◌, ℕ, Bool, true, false, cond, List, [], ◌∷◌, Option, Some, None, refl}
use Rattle.std.proofs.Common.{ap, sym, ◌∙◌, subst, inl, inr}
use Rattle.std.specs.FinSet as set
use Rattle.hol_terms.specs.Nameless.{Nameless}
use Rattle.hol_kernel.specs.Item.{Item, declared_axiom}
use Rattle.hol_kernel.specs.Items.{Holds, IsSubset, item_set}
use Rattle.hol_kernel.specs.Sequent.{no_hyps, sequent_of}
use Rattle.hol_kernel.specs.Signature.{axiom_key}
use Rattle.hol_kernel.specs.Theorem.{Theorem}
use Rattle.hol_kernel.proofs.Declared.{own_name}
use Rattle.hol_kernel.proofs.Members.{Among}
use Rattle.hol_kernel.proofs.Subsets.{within_of_subset, subset_of_within}
use Rattle.hol_theory.specs.declared.key.Kind.TheVariants as key_kind
use Rattle.hol_theory.specs.Key.{KeyValue, theorem_key}
use Rattle.hol_theory.specs.Entry.{EntryValue, AType, AConstant, ATheorem, ATac, Entries, IsEntry, entry_at, entry_basis, stated_axiom, own_item}
use Rattle.hol_theory.specs.Theory.{with_item, items_after, items_in, RestsOn, IsTheory, StatesAxiom}
use Rattle.hol_theory.proofs.Defining.{each_at}
use Rattle.hol_theory.proofs.Entries.{found}
use Rattle.hol_theory.proofs.Items.{after_old}

-- ---- entries that stand

rests_among : (items : List Item) (es : Entries) (e : KeyValue × EntryValue) → RestsOn items es → Among e es → IsSubset (entry_basis e.1) (item_set (items_after items es))
rests_among items [] e h i = absurd i
rests_among items (f ∷ es) e h (inl is) =
    let next : List Item = with_item items (own_item f.0 f.1) in
    subst (λ (g : KeyValue × EntryValue). IsSubset (entry_basis g.1) (item_set (items_after next es))) (sym is)
    (subset_of_within (entry_basis f.1) (item_set (items_after next es)) (λ x k. after_old next es x (within_of_subset (entry_basis f.1) (item_set next) h.0 x k)))
rests_among items (f ∷ es) e h (inr i) = rests_among (with_item items (own_item f.0 f.1)) es e h.1 i

-- an entry rests on items of the theory
pub entry_within : (es : Entries) (key : KeyValue) (v : EntryValue) → IsTheory es → entry_at key es ≡ Some v → IsSubset (entry_basis v) (items_in es)
entry_within es key v t e = rests_among [] es (key, v) t.rests (found key es v e)

pub entry_is : (es : Entries) (key : KeyValue) (v : EntryValue) → IsTheory es → entry_at key es ≡ Some v → IsEntry key v
entry_is es key v t e = each_at es (key, v) t.each (found key es v e)

-- ---- axioms

-- an entry whose own item is an axiom under its name states it
axiom_stated : (es : Entries) (name : List ℕ) (p : Nameless) (v : EntryValue) → entry_at (theorem_key name) es ≡ Some v → IsEntry (theorem_key name) v →
    own_item (theorem_key name) v ≡ Some (declared_axiom name p) → StatesAxiom es name p
axiom_stated es name p (AType arity item basis) e is own = let under : key_kind.Theorem ≡ key_kind.Type = is.under in absurd (cc)
axiom_stated es name p (AConstant ty item basis) e is own = let under : key_kind.Theorem ≡ key_kind.Constant = is.under in absurd (cc)
axiom_stated es name p (ATac t bases basis) e is own = let under : key_kind.Theorem ≡ key_kind.Tac = is.under in absurd (cc)
axiom_stated es name p (ATheorem th) e is own = by (set.contains th.basis (stated_axiom (theorem_key name) th)) own
  where
    by : (b : Bool) → cond b (Some (declared_axiom name th.sequent.concl)) None ≡ Some (declared_axiom name p) → StatesAxiom es name p
    by true same =
        let concl : th.sequent.concl ≡ p = cc in
        record { th = th; stands = e; states = λ i. sequent_of (is.without_hypotheses i) (concl i) }
    by false same = absurd (cc)

-- each axiom on which a theory rests stands under its name
pub axiom_stands : (es : Entries) (name : List ℕ) (p : Nameless) → IsTheory es → Holds (items_in es) (declared_axiom name p) → StatesAxiom es name p
axiom_stands es name p t h =
    let r = t.named (declared_axiom name p) h (axiom_key name) (own_name (axiom_key name)) in
    axiom_stated es name p r.0 r.1 (entry_is es (theorem_key name) r.0 t r.1) r.2

-- an entry that rests on an axiom of its own name states that axiom
pub own_axiom_stated : (es : Entries) (name : List ℕ) (p : Nameless) (th : Theorem) → IsTheory es → entry_at (theorem_key name) es ≡ Some (ATheorem th) →
    Holds th.basis (declared_axiom name p) → th.sequent ≡ sequent_of no_hyps p
own_axiom_stated es name p th t e h =
    let s = axiom_stands es name p t (within_of_subset th.basis (items_in es) (entry_within es (theorem_key name) (ATheorem th) t e) (declared_axiom name p) h) in
    let same : Some (ATheorem th) ≡ Some (ATheorem s.th) = sym e ∙ s.stands in
    let is : th ≡ s.th = cc in
    ap (λ (u : Theorem). u.sequent) is ∙ s.states
