-- What definitions make: entries, no two of which have one key.
use Rattle.std.specs.Prelude.{◌≡◌, ℕ, List, [], ◌∷◌, ◌++◌, map, length, Option, Some, None, refl}
use Rattle.std.specs.List.{IsDistinct}
use Rattle.std.specs.Map.{keys_of}
use Rattle.std.proofs.Common.{ap, sym, ◌∙◌, subst}
use Rattle.hol_types.specs.Tree.{TypeTree}
use Rattle.hol_terms.specs.Nameless.{Nameless, fixed, nameless_type}
use Rattle.hol_kernel.specs.Extends.{IsTypeDefine}
use Rattle.hol_kernel.specs.Item.{Item, defined_constant}
use Rattle.hol_kernel.specs.Items.{Items}
use Rattle.hol_kernel.specs.Signature.{constant_of, bijections}
use Rattle.hol_kernel.specs.Sequent.{no_hyps}
use Rattle.hol_kernel.specs.Theorem.{Theorem, IsTheorem, theorem_over}
use Rattle.hol_kernel.proofs.Variables.{known_typed}
use Rattle.hol_definition.specs.ForAll.{for_all}
use Rattle.hol_notation_terms.specs.Text.{DefinitionText}
use Rattle.hol_theory.specs.Key.{KeyValue, key_eq, type_key, constant_key, theorem_key}
use Rattle.hol_theory.specs.Entry.{Entries, EntryValue, ATheorem, EachIsEntry, IsTheoremEntry}
use Rattle.hol_theory.specs.Making.{item_entries, type_entry, constant_entry, IsNewDefinition}
use Rattle.hol_theory.proofs.Entries.{each_joined}
use Rattle.hol_exec.specs.OutcomeValue.{OutcomeValue, Makes}
use Rattle.hol_exec.specs.Making.{MakesDefined}

-- ---- a constant and a theorem

with_theorem : (c name : List ℕ) (x : Item) (basis : Items) (th : Theorem) (o : Option TypeTree) → IsDistinct key_eq (keys_of (map (constant_entry x basis) (constant_of c o) ++ (theorem_key name, ATheorem th) ∷ []))
unfolding IsDistinct
with_theorem c name x basis th None = (tt, tt)
with_theorem c name x basis th (Some a) = ((refl, tt), (tt, tt))

pub definition_keys : (c name : List ℕ) (r : Nameless) (basis : Items) (th : Theorem) (es more : Entries) (key : KeyValue) (value : EntryValue) → es ≡ item_entries (defined_constant c r) basis → key ≡ theorem_key name → value ≡ ATheorem th → more ≡ es ++ (key, value) ∷ [] → IsDistinct key_eq (keys_of more)
definition_keys c name r basis th es more key value made own what is =
    subst (λ (l : Entries). IsDistinct key_eq (keys_of l)) (sym (is ∙ (λ i. made i ++ (own i, what i) ∷ []))) (with_theorem c name (defined_constant c r) basis th (nameless_type [] r))

pub with_theorem_entries : (es more : Entries) (key : KeyValue) (value : EntryValue) (name : List ℕ) (th : Theorem) → EachIsEntry es → IsTheoremEntry (theorem_key name) th → key ≡ theorem_key name → value ≡ ATheorem th → more ≡ es ++ (key, value) ∷ [] →
    EachIsEntry more
with_theorem_entries es more key value name th each entry own what is =
    subst EachIsEntry (sym (is ∙ (λ i. es ++ (own i, what i) ∷ []))) (each_joined es ((theorem_key name, ATheorem th) ∷ []) each (entry, tt))

-- a theorem without hypotheses as an entry
pub quantified_entry : (name : List ℕ) (basis : Items) (p : Nameless) (th : Theorem) → IsTheorem th → th ≡ theorem_over basis no_hyps p → IsTheoremEntry (theorem_key name) th
quantified_entry name basis p th is e = record { theorem = is; under = refl; without_hypotheses = ap (λ (t : Theorem). t.sequent.hyps) e }

-- ---- a type, two constants and two theorems

type_keys : (name abs rep one two : List ℕ) (x : Item) (basis : Items) (first second : Theorem) (new : TypeTree) (n : ℕ) (q : TypeTree × TypeTree) (o : Option (TypeTree × TypeTree)) → o ≡ Some q →
    keys_of (type_entry x basis (name, n) ∷ (map (constant_entry x basis) (bijections abs rep new o) ++ (theorem_key one, ATheorem first) ∷ (theorem_key two, ATheorem second) ∷ []))
    ≡ type_key name ∷ constant_key abs ∷ constant_key rep ∷ theorem_key one ∷ theorem_key two ∷ []
type_keys name abs rep one two x basis first second new n q None is = absurd (cc)
type_keys name abs rep one two x basis first second new n q (Some p) is = refl

-- ---- what a definition makes

pub makes_defined : (basis : Items) (name own : List ℕ) (d : DefinitionText) (r : Nameless) (es more : Entries) (definition th : Theorem) (n : ℕ) (key : KeyValue) (value : EntryValue) (outcome : OutcomeValue) →
    own ≡ d.name → n ≡ length d.parameters → (made : IsNewDefinition basis own r es definition) → th ≡ theorem_over definition.basis no_hyps (for_all n made.defined.of_type (fixed own made.defined.of_type) r) →
    key ≡ theorem_key name → value ≡ ATheorem th → more ≡ es ++ (key, value) ∷ [] → outcome ≡ Makes more → MakesDefined basis name d r outcome
makes_defined basis name own d r es more definition th n key value outcome named counted made quantified own_key what is makes =
    let a : TypeTree = made.defined.of_type in
    record {
      entries = es;
      definition = definition;
      of_type = a;
      typed = (known_typed basis r a made.defined.definable.typed).1;
      new = subst (λ (c : List ℕ). IsNewDefinition basis c r es definition) named made;
      makes = makes ∙ ap Makes (is ∙ (λ i. es ++ (own_key i, what i) ∷ []) ∙ ap (λ (t : Theorem). es ++ (theorem_key name, ATheorem t) ∷ []) (quantified ∙ (λ i. theorem_over definition.basis no_hyps (for_all (counted i) a (fixed (named i) a) r))));
    }

pub type_define_named : (basis own : Items) (n m a b r s : List ℕ) (member first second : Theorem) (larger : Items) → basis ≡ own → n ≡ m → a ≡ b → r ≡ s → IsTypeDefine basis n a r member larger first second →
    IsTypeDefine own m b s member larger first second
type_define_named basis own n m a b r s member first second larger e f g h d =
    subst (λ (x : Items). IsTypeDefine x m b s member larger first second) e
    (subst (λ (x : List ℕ). IsTypeDefine basis x b s member larger first second) f
    (subst (λ (x : List ℕ). IsTypeDefine basis n x s member larger first second) g (subst (λ (x : List ℕ). IsTypeDefine basis n a x member larger first second) h d)))
