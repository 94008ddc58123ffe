-- What a command makes is not refused: its names are new over the basis of what it resolves, and what it makes is an entry.
use Rattle.std.specs.Prelude.{◌≡◌, ◌⊎◌, ◌||◌, ◌<◌, ℕ, zero, suc, Bool, true, false, cond, List, [], ◌∷◌, ◌++◌, length, get_or, codes, bytes_eq, Option, Some, None, is_some, refl}
use Rattle.std.specs.List.{list_any}
use Rattle.std.specs.Map.{keys_of}
use Rattle.std.specs.FinSet as set
use Rattle.std.proofs.Common.{sym, ◌∙◌, subst, inl, inr, arith}
use Rattle.std.proofs.lemmas.Bool.{or_parts}
use Rattle.hol_types.specs.Tree.{TypeTree, TyVar}
use Rattle.hol_terms.specs.Named.{Named, var}
use Rattle.hol_terms.specs.Nameless.{Nameless}
use Rattle.hol_formulas.specs.Equation.{bool_type}
use Rattle.hol_kernel.specs.declared.error.KernelError.{KernelError}
use Rattle.hol_kernel.specs.declared.error.KernelError.TheVariants.{Refused, Clash, Memory}
use Rattle.hol_kernel.specs.declared.error.Rule.{Rule}
use Rattle.hol_kernel.specs.Gives.{FailsBy, in_kernel}
use Rattle.hol_kernel.specs.Item.{Item, declared_type, declared_constant, declared_axiom}
use Rattle.hol_kernel.specs.Items.{Items, no_items, IsSubset}
use Rattle.hol_kernel.specs.Legal.{IsNew, IsLegalSet}
use Rattle.hol_kernel.specs.Sequent.{no_hyps}
use Rattle.hol_kernel.specs.Signature.{ItemKey, has_key, prelude_has}
use Rattle.hol_kernel.specs.Signature as item
use Rattle.hol_kernel.specs.Theorem.{theorem_over}
use Rattle.hol_kernel.specs.Typing.{is_type, HasType}
use Rattle.hol_kernel.proofs.Declared.{is_new_of, type_new, constant_new, axiom_new}
use Rattle.hol_kernel.proofs.Members.{Among}
use Rattle.hol_kernel.proofs.Subsets.{none_within, within_of_subset}
use Rattle.hol_prelude.specs.Statements.{prelude_statements}
use Rattle.hol_resolve.specs.Readings.{ReadingsValue}
use Rattle.hol_theory.specs.declared.key.Kind.TheVariants as key_kind
use Rattle.hol_theory.specs.Key.{KeyValue, key_eq, type_key, constant_key, theorem_key}
use Rattle.hol_theory.specs.Entry.{EntryValue, AType, AConstant, ATheorem, Entries, IsEntry, entry_at}
use Rattle.hol_theory.specs.Theory.{items_in, entry_key, IsTheory}
use Rattle.hol_theory.specs.Making.{IsNewType, IsNewConstant, IsNewAxiom}
use Rattle.hol_theory.proofs.Declaring.{type_follows, constant_follows, axiom_follows}
use Rattle.hol_theory.proofs.Theories.{free_name_is_new}
use Rattle.hol_exec.specs.ReadsValue.{Values}
use Rattle.hol_exec.specs.Resolved.{resolved_basis}
use Rattle.hol_exec.specs.Standing.{in_prelude, is_standing, first_taken}
use Rattle.hol_exec.specs.Valid.{StandIn, AreOfTheory}
use Rattle.hol_exec.proofs.CitedBases.{resolved_fine}

-- ---- errors of the kernel

-- where something is given, an error is want of memory
pub only_memory : (r : Rule) (none : Type 0) (e : KernelError) → FailsBy r none (in_kernel e) → (none → ⊥) → e ≡ Memory
only_memory r none (Refused q) h some = absurd (some h.1)
only_memory r none (Clash n) h some = absurd h
only_memory r none Memory h some = refl

-- ---- keys that are not taken

nothing : (o : Option EntryValue) → is_some o ≡ false → o ≡ None
nothing None e = refl
nothing (Some v) e = absurd (cc)

-- Nothing stands under the key, in the theory or in the prelude.
pub record IsFree (es : Entries) (key : KeyValue) : Type 0 where
  pub entry : entry_at key es ≡ None
  pub prelude : in_prelude key.kind key.name ≡ false

pub untaken : (b : Bool) (key : KeyValue) (o : Option KeyValue) → cond b (Some key) o ≡ None → (b ≡ false) × (o ≡ None)
untaken true key o e = absurd (cc)
untaken false key o e = (refl, e)

free_of : (es : Entries) (before : List KeyValue) (made : Values) → StandIn es made → first_taken before made ≡ None → (key : KeyValue) → Among key (keys_of made) → IsFree es key
free_of es before [] h e key i = absurd i
free_of es before ((k, o) ∷ made) h e key i =
    let first = untaken (is_standing k o || list_any (key_eq k) before) k (first_taken (before ++ k ∷ []) made) e in
    let standing = or_parts (is_standing k o) (list_any (key_eq k) before) first.0 in
    let own = or_parts (is_some o) (in_prelude k.kind k.name) standing.0 in
    by i (record { entry = sym h.0 ∙ nothing o own.0; prelude = own.1 }) (free_of es (before ++ k ∷ []) made h.1 first.1 key)
  where
    by : (key ≡ k) ⊎ Among key (keys_of made) → IsFree es k → (Among key (keys_of made) → IsFree es key) → IsFree es key
    by (inl is) here rest = subst (IsFree es) (sym is) here
    by (inr j) here rest = rest j

pub free_keys : (cited made : Values) (h : AreOfTheory cited made) (keys : List KeyValue) → keys_of made ≡ keys → first_taken [] made ≡ None → (key : KeyValue) → Among key keys → IsFree h.entries key
free_keys cited made h keys e none key i = free_of h.entries [] made h.made_stand none key (subst (λ (ks : List KeyValue). Among key ks) (sym e) i)

-- ---- names that are new

any_out : {X : Type 0} (q : X → Bool) (xs : List X) (k : ℕ) (d : X) → k < length xs → list_any q xs ≡ false → q (get_or xs k d) ≡ false
any_out q [] k d lt e = absurd (omega (arith, lt))
any_out q (x ∷ xs) zero d lt e = (or_parts (q x) (list_any q xs) e).0
any_out q (x ∷ xs) (suc k) d lt e = any_out q xs k d (omega (arith, lt)) (or_parts (q x) (list_any q xs) e).1

-- the three axioms of the prelude have the names of theorems of it: the ninth, the tenth and the thirteenth after the first
axiom_prelude : (name : List ℕ) → in_prelude key_kind.Theorem name ≡ false → prelude_has (item.axiom_key name) ≡ false
axiom_prelude name e =
    let own : List ℕ × Named → Bool = λ p. bytes_eq name p.0 in
    let other : List ℕ × Named = (name, var (name, TyVar name)) in
    let ninth : 9 < 21 = omega arith in
    let tenth : 10 < 21 = omega arith in
    let thirteenth : 13 < 21 = omega arith in
    let eta : bytes_eq name (codes "ETA_AX") ≡ false = any_out own prelude_statements 9 other ninth e in
    let select : bytes_eq name (codes "SELECT_AX") ≡ false = any_out own prelude_statements 10 other tenth e in
    let infinity : bytes_eq name (codes "INFINITY_AX") ≡ false = any_out own prelude_statements 13 other thirteenth e in
    λ i. eta i || (select i || (infinity i || false))

prelude_free : (k : ItemKey) → in_prelude (entry_key k).kind (entry_key k).name ≡ false → prelude_has k ≡ false
prelude_free (item.type_key c) e = e
prelude_free (item.constant_key c) e = e
prelude_free (item.axiom_key n) e = axiom_prelude n e

pub new_over : (es : Entries) (basis : Items) (k : ItemKey) → IsTheory es → IsSubset basis (items_in es) → IsFree es (entry_key k) → IsNew basis k
new_over es basis k t within free =
    let new = free_name_is_new es k t free.entry (prelude_free k free.prelude) in
    (new.0, λ y h. new.1 y (within_of_subset basis (items_in es) within y h))

-- ---- what is declared

module _ (cited made : Values) (h : AreOfTheory cited made) (readings : ReadingsValue) where
  within : IsSubset (resolved_basis cited readings) (items_in h.entries)
  within = (resolved_fine h.entries h.theory readings cited h.cited_stand).0

  legal : IsLegalSet (resolved_basis cited readings)
  legal = (resolved_fine h.entries h.theory readings cited h.cited_stand).1

  pub constant_unrefused : (name : List ℕ) (a : TypeTree) → keys_of made ≡ constant_key name ∷ [] → first_taken [] made ≡ None → is_type (resolved_basis cited readings) a ≡ true →
      ((e : KeyValue × EntryValue) → IsNewConstant (resolved_basis cited readings) name a e → ⊥) → ⊥
  constant_unrefused name a keys none stands refused =
      let b : Items = resolved_basis cited readings in
      let x : Item = declared_constant name a in
      let new = new_over h.entries b (item.constant_key name) h.theory within (free_keys cited made h (constant_key name ∷ []) keys none (constant_key name) (inl refl)) in
      refused (constant_key name, AConstant a x (set.insert b x)) (record { declared = (constant_new b name a (is_new_of b (item.constant_key name) new), stands, refl); entry_is = refl })

  pub constant_entry_is : (name : List ℕ) (a : TypeTree) (e : KeyValue × EntryValue) → IsNewConstant (resolved_basis cited readings) name a e → IsEntry e.0 e.1
  constant_entry_is name a e is = (constant_follows h.entries (resolved_basis cited readings) name a e legal within is).each.0

  pub axiom_unrefused : (name : List ℕ) (p : Nameless) → keys_of made ≡ theorem_key name ∷ [] → first_taken [] made ≡ None → HasType (resolved_basis cited readings) p bool_type →
      ((e : KeyValue × EntryValue) → IsNewAxiom (resolved_basis cited readings) name p e → ⊥) → ⊥
  axiom_unrefused name p keys none typed refused =
      let b : Items = resolved_basis cited readings in
      let x : Item = declared_axiom name p in
      let new = new_over h.entries b (item.axiom_key name) h.theory within (free_keys cited made h (theorem_key name ∷ []) keys none (theorem_key name) (inl refl)) in
      refused (theorem_key name, ATheorem (theorem_over (set.insert b x) no_hyps p)) (record { declared = (axiom_new b name p (is_new_of b (item.axiom_key name) new), typed, refl); entry_is = refl })

  pub axiom_entry_is : (name : List ℕ) (p : Nameless) (e : KeyValue × EntryValue) → IsNewAxiom (resolved_basis cited readings) name p e → IsEntry e.0 e.1
  axiom_entry_is name p e is = (axiom_follows h.entries (resolved_basis cited readings) name p e legal within is).each.0

module _ (cited made : Values) (h : AreOfTheory cited made) where
  pub type_unrefused : (name : List ℕ) (arity : ℕ) (own : Items) → own ≡ no_items → keys_of made ≡ type_key name ∷ [] → first_taken [] made ≡ None → ((e : KeyValue × EntryValue) → IsNewType own name arity e → ⊥) → ⊥
  type_unrefused name arity own e keys none refused =
      let x : Item = declared_type name arity in
      let new = new_over h.entries own (item.type_key name) h.theory (none_within own (items_in h.entries) e) (free_keys cited made h (type_key name ∷ []) keys none (type_key name) (inl refl)) in
      refused (type_key name, AType arity x (set.insert own x)) (record { declared = (type_new own name arity (is_new_of own (item.type_key name) new), tt, refl); entry_is = refl })

  pub type_entry_is : (name : List ℕ) (arity : ℕ) (e : KeyValue × EntryValue) → IsNewType no_items name arity e → IsEntry e.0 e.1
  type_entry_is name arity e is = (type_follows h.entries no_items name arity e ([], tt, refl) (none_within no_items (items_in h.entries) refl) is).each.0
