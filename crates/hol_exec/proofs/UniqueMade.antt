-- What a command makes is determined by what it reads.
use Rattle.std.specs.Prelude.{◌≡◌, ℕ, Bool, true, false, List, [], ◌∷◌, ◌++◌, length, Option, Some, None}
use Rattle.std.specs.FinSet as set
use Rattle.std.proofs.Common.{ap, sym, ◌∙◌, subst}
use Rattle.hol_types.specs.Tree.{TypeTree}
use Rattle.hol_types.specs.Fun.{fun_type}
use Rattle.hol_terms.specs.Nameless.{Nameless, app, fixed, nameless_type}
use Rattle.hol_formulas.specs.Equation.{bool_type, dest_comb}
use Rattle.hol_kernel.specs.Bijections.{abs_rep, rep_abs}
use Rattle.hol_kernel.specs.Item.{Item, declared_type, declared_constant, declared_axiom, defined_constant, defined_type}
use Rattle.hol_kernel.specs.Items.{Items, no_items}
use Rattle.hol_kernel.specs.Sequent.{no_hyps}
use Rattle.hol_kernel.specs.Signature.{new_type, term_tyvars}
use Rattle.hol_kernel.specs.Theorem.{Theorem, theorem_over}
use Rattle.hol_kernel.specs.Typing.{is_type_at}
use Rattle.hol_kernel.proofs.Variables.{known_typed}
use Rattle.hol_equal.specs.Applied.{rand}
use Rattle.hol_definition.specs.ForAll.{for_all}
use Rattle.hol_notation_terms.specs.Text.{DefinitionText}
use Rattle.hol_notation_commands.specs.Text.{TypeDefinitionText, MakingText, NewType, NewConstant, NewAxiom, NewDefinition, NewBasicTypeDefinition}
use Rattle.hol_infer.specs.Resolving.{definition_has_arities, definition_raw}
use Rattle.hol_resolve.specs.Reading.{ReadingValue, WrongArity, NoTyping, LargeReading, ReadsAs, type_reading}
use Rattle.hol_theory.specs.Key.{KeyValue, type_key, constant_key, theorem_key}
use Rattle.hol_theory.specs.Entry.{EntryValue, AType, AConstant, ATheorem, Entries}
use Rattle.hol_theory.specs.Making.{IsNewType, IsNewConstant, IsNewAxiom, IsNewTypeDefinition, item_entries}
use Rattle.hol_exec.specs.ReadsValue.{ReadsValue}
use Rattle.hol_exec.specs.Signature.{signature_of}
use Rattle.hol_exec.specs.Resolved.{cited_theorem}
use Rattle.hol_exec.specs.Defining.{first_free, first_unreflected}
use Rattle.hol_exec.specs.OutcomeValue.{OutcomeValue, Makes}
use Rattle.hol_exec.specs.Making.{UnlessTaken, taken, MakesOne, constant_basis, MakesConstantOf, formula_basis, StatesAxiom, MakesAxiomOf, MakesDefined, UnlessOpen, MakesDefinitionOf, UnlessFree, MakesTypeBy, MakesTypeOf, MakesTypeFrom, IsMade, IsMaking}
use Rattle.hol_exec.proofs.Readings.{one_read, one_reading}

abbrev One : (OutcomeValue → Type 0) → Type 0
One Made = (a b : OutcomeValue) → Made a → Made b → a ≡ b

one_untaken : (o : Option KeyValue) (Made : OutcomeValue → Type 0) → One Made → One (UnlessTaken o Made)
one_untaken None Made u a b p q = u a b p q
one_untaken (Some key) Made u a b p q = p ∙ sym q

one_made : (Is : KeyValue × EntryValue → Type 0) → ((e f : KeyValue × EntryValue) → Is e → Is f → e ≡ f) → One (MakesOne Is)
one_made Is u a b p q = p.2 ∙ ap (λ (e : KeyValue × EntryValue). Makes (e ∷ [])) (u p.0 q.0 p.1 q.1) ∙ sym q.2

-- ---- declarations

type_is : (basis : Items) (name : List ℕ) (arity : ℕ) (e : KeyValue × EntryValue) → IsNewType basis name arity e → e ≡ (type_key name, AType arity (declared_type name arity) (set.insert basis (declared_type name arity)))
type_is basis name arity e h = h.entry_is ∙ ap (λ (b : Items). (type_key name, AType arity (declared_type name arity) b)) h.declared.2

constant_is : (basis : Items) (name : List ℕ) (a : TypeTree) (e : KeyValue × EntryValue) → IsNewConstant basis name a e → e ≡ (constant_key name, AConstant a (declared_constant name a) (set.insert basis (declared_constant name a)))
constant_is basis name a e h = h.entry_is ∙ ap (λ (b : Items). (constant_key name, AConstant a (declared_constant name a) b)) h.declared.2

axiom_is : (basis : Items) (name : List ℕ) (p : Nameless) (e : KeyValue × EntryValue) → IsNewAxiom basis name p e → e ≡ (theorem_key name, ATheorem (theorem_over (set.insert basis (declared_axiom name p)) no_hyps p))
axiom_is basis name p e h = h.entry_is ∙ ap (λ (b : Items). (theorem_key name, ATheorem (theorem_over b no_hyps p))) h.declared.2

one_type : (basis : Items) (name : List ℕ) (arity : ℕ) → One (MakesOne (IsNewType basis name arity))
one_type basis name arity = one_made (IsNewType basis name arity) (λ e f p q. type_is basis name arity e p ∙ sym (type_is basis name arity f q))

one_constant : (basis : Items) (name : List ℕ) (a : TypeTree) → One (MakesOne (IsNewConstant basis name a))
one_constant basis name a = one_made (IsNewConstant basis name a) (λ e f p q. constant_is basis name a e p ∙ sym (constant_is basis name a f q))

one_axiom : (basis : Items) (name : List ℕ) (p : Nameless) → One (MakesOne (IsNewAxiom basis name p))
one_axiom basis name p = one_made (IsNewAxiom basis name p) (λ e f h k. axiom_is basis name p e h ∙ sym (axiom_is basis name p f k))

one_constant_of : (name : List ℕ) (place : ℕ) (reads : ReadsValue) (r : ReadingValue TypeTree) → One (MakesConstantOf name place reads r)
one_constant_of name place reads WrongArity a b p q = p ∙ sym q
one_constant_of name place reads NoTyping a b p q = p ∙ sym q
one_constant_of name place reads LargeReading a b p q = p ∙ sym q
one_constant_of name place reads (ReadsAs ty) a b p q = one_untaken (taken reads) (MakesOne (IsNewConstant (constant_basis reads place ty) name ty)) (one_constant (constant_basis reads place ty) name ty) a b p q

one_axiom_stated : (name : List ℕ) (place : ℕ) (reads : ReadsValue) (s : Nameless) (t : Bool) → One (StatesAxiom name place reads s t)
one_axiom_stated name place reads s true a b p q = one_untaken (taken reads) (MakesOne (IsNewAxiom (formula_basis reads place s) name s)) (one_axiom (formula_basis reads place s) name s) a b p q
one_axiom_stated name place reads s false a b p q = p ∙ sym q

one_axiom_of : (name : List ℕ) (place : ℕ) (reads : ReadsValue) (r : ReadingValue Nameless) → One (MakesAxiomOf name place reads r)
one_axiom_of name place reads WrongArity a b p q = p ∙ sym q
one_axiom_of name place reads NoTyping a b p q = p ∙ sym q
one_axiom_of name place reads LargeReading a b p q = p ∙ sym q
one_axiom_of name place reads (ReadsAs s) a b p q = one_axiom_stated name place reads s (is_type_at (nameless_type [] s) bool_type) a b p q

-- ---- definitions

module _ (basis : Items) (name : List ℕ) (d : DefinitionText) (r : Nameless) where
  abbrev x : Item
  x = defined_constant d.name r

  abbrev made_of : Items → TypeTree → OutcomeValue
  made_of b ty = Makes (item_entries x b ++ (theorem_key name, ATheorem (theorem_over b no_hyps (for_all (length d.parameters) ty (fixed d.name ty) r))) ∷ [])

  defined_is : (a : OutcomeValue) (h : MakesDefined basis name d r a) → a ≡ made_of (set.insert basis x) h.of_type
  defined_is a h =
      h.makes
      ∙ ap (λ (es : Entries). Makes (es ++ (theorem_key name, ATheorem (theorem_over h.definition.basis no_hyps (for_all (length d.parameters) h.of_type (fixed d.name h.of_type) r))) ∷ [])) h.new.entries_are
      ∙ ap (λ (b : Items). made_of b h.of_type) h.new.defined.larger

  one_defined : One (MakesDefined basis name d r)
  one_defined a b p q =
      let same : Some p.of_type ≡ Some q.of_type = sym p.typed ∙ q.typed in
      let ty : p.of_type ≡ q.of_type = cc in
      defined_is a p ∙ ap (made_of (set.insert basis x)) ty ∙ sym (defined_is b q)

one_open : (o u : Option (List ℕ)) (Made : OutcomeValue → Type 0) → One Made → One (UnlessOpen o u Made)
one_open (Some y) u Made w a b p q = p ∙ sym q
one_open None (Some t) Made w a b p q = p ∙ sym q
one_open None None Made w a b p q = w a b p q

one_definition_of : (name : List ℕ) (d : DefinitionText) (reads : ReadsValue) (r : ReadingValue Nameless) → One (MakesDefinitionOf name d reads r)
one_definition_of name d reads WrongArity a b p q = p ∙ sym q
one_definition_of name d reads NoTyping a b p q = p ∙ sym q
one_definition_of name d reads LargeReading a b p q = p ∙ sym q
one_definition_of name d reads (ReadsAs s) a b p q =
    let r : Nameless = rand s in
    let Made : OutcomeValue → Type 0 = MakesDefined (formula_basis reads d.place s) name d r in
    one_untaken (taken reads) (UnlessOpen (first_free r) (first_unreflected r) Made) (one_open (first_free r) (first_unreflected r) Made (one_defined (formula_basis reads d.place s) name d r)) a b p q

-- ---- definitions of types

module _ (d : TypeDefinitionText) (member : Theorem) where
  abbrev entries_of : Nameless → TypeTree → Items → Entries
  entries_of p old larger =
      item_entries (defined_type d.ty d.abs d.rep p) larger
      ++ (theorem_key d.abs_rep, ATheorem (theorem_over larger no_hyps (abs_rep d.abs d.rep old (new_type d.ty (term_tyvars p)))))
      ∷ (theorem_key d.rep_abs, ATheorem (theorem_over larger no_hyps (rep_abs d.abs d.rep p old (new_type d.ty (term_tyvars p))))) ∷ []

  entries_are : (es : Entries) (h : IsNewTypeDefinition member.basis d.ty d.abs d.rep d.abs_rep d.rep_abs member es) →
      es ≡ entries_of h.defined.predicate h.defined.old (set.insert member.basis (defined_type d.ty d.abs d.rep h.defined.predicate))
  entries_are es h =
      h.entries_are
      ∙ (λ i. item_entries (defined_type d.ty d.abs d.rep h.defined.predicate) h.larger ++ (theorem_key d.abs_rep, ATheorem (h.defined.gives_first i)) ∷ (theorem_key d.rep_abs, ATheorem (h.defined.gives_second i)) ∷ [])
      ∙ ap (entries_of h.defined.predicate h.defined.old) h.defined.larger

  one_type_by : One (MakesTypeBy d member)
  one_type_by a b p q =
      let f = p.1.defined in
      let g = q.1.defined in
      let whole : app f.predicate f.element ≡ app g.predicate g.element = sym f.is_member ∙ g.is_member in
      let same : f.predicate ≡ g.predicate = cc in
      let types : Some (fun_type f.old bool_type) ≡ Some (fun_type g.old bool_type) =
      sym (known_typed member.basis f.predicate (fun_type f.old bool_type) f.typed).1 ∙ ap (nameless_type []) same ∙ (known_typed member.basis g.predicate (fun_type g.old bool_type) g.typed).1 in
      let old : f.old ≡ g.old = cc in
      p.2
      ∙ ap Makes (entries_are p.0 p.1 ∙ (λ i. entries_of (same i) (old i) (set.insert member.basis (defined_type d.ty d.abs d.rep (same i)))) ∙ sym (entries_are q.0 q.1))
      ∙ sym q.2

one_free : (o : Option (List ℕ)) (Made : OutcomeValue → Type 0) → One Made → One (UnlessFree o Made)
one_free None Made u a b p q = u a b p q
one_free (Some y) Made u a b p q = p ∙ sym q

one_type_of : (d : TypeDefinitionText) (member : Theorem) (o : Option (Nameless × Nameless)) → One (MakesTypeOf d member o)
one_type_of d member None a b p q = p ∙ sym q
one_type_of d member (Some parts) a b p q = one_free (first_free parts.0) (MakesTypeBy d member) (one_type_by d member) a b p q

one_type_from : (d : TypeDefinitionText) (reads : ReadsValue) (o : Option Theorem) → One (MakesTypeFrom d reads o)
one_type_from d reads None a b p q = p ∙ sym q
one_type_from d reads (Some member) a b p q = one_untaken (taken reads) (MakesTypeOf d member (dest_comb member.sequent.concl)) (one_type_of d member (dest_comb member.sequent.concl)) a b p q

-- ---- each command

one_command : (making : MakingText) (reads : ReadsValue) → One (IsMade making reads)
one_command (NewType name arity) reads a b p q = one_untaken (taken reads) (MakesOne (IsNewType no_items name arity)) (one_type no_items name arity) a b p q
one_command (NewConstant name quotation) reads a b p q = one_constant_of name quotation.place reads (type_reading (signature_of reads.cited) quotation.ty) a b p q
one_command (NewAxiom name quotation) reads a b p q =
    one_axiom_of name quotation.place reads p.0 a b p.2
    (subst (λ (r : ReadingValue Nameless). MakesAxiomOf name quotation.place reads r b) (one_reading (signature_of reads.cited) quotation.term q.0 p.0 q.1 p.1) q.2)
one_command (NewDefinition name d) reads a b p q =
    let over = signature_of reads.cited in
    one_definition_of name d reads p.0 a b p.2
    (subst (λ (r : ReadingValue Nameless). MakesDefinitionOf name d reads r b) (one_read (definition_has_arities over.types d) (definition_raw over.types over.constants d) q.0 p.0 q.1 p.1) q.2)
one_command (NewBasicTypeDefinition d) reads a b p q = one_type_from d reads (cited_theorem reads.cited) a b p q

pub one_making : (in_proof : Bool) (making : MakingText) (reads : ReadsValue) (a b : OutcomeValue) → IsMaking in_proof making reads a → IsMaking in_proof making reads b → a ≡ b
one_making true making reads a b p q = p ∙ sym q
one_making false making reads a b p q = one_command making reads a b p q
