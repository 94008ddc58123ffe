-- The theorem that a type definition cites: it has no hypotheses, and rests on what stands.
use Rattle.std.specs.Prelude.{◌≡◌, ℕ, List, [], ◌∷◌, Option, Some, None}
use Rattle.std.specs.Option.{option_map}
use Rattle.std.proofs.Common.{ap, sym, ◌∙◌, subst}
use Rattle.hol_terms.specs.Named.{Named}
use Rattle.hol_kernel.specs.Items.{IsSubset}
use Rattle.hol_kernel.specs.Sequent.{no_hyps}
use Rattle.hol_kernel.specs.Theorem.{Theorem}
use Rattle.hol_clauses.specs.Statements.{stated}
use Rattle.hol_prelude.specs.Statements.{prelude_statements, statement_in}
use Rattle.hol_theory.specs.declared.key.Kind.{Kind}
use Rattle.hol_theory.specs.declared.key.Kind.TheVariants as key_kind
use Rattle.hol_theory.specs.Entry.{AType, AConstant, ATheorem, ATac}
use Rattle.hol_theory.specs.Theory.{items_in}
use Rattle.hol_exec.specs.ReadsValue.{Values}
use Rattle.hol_exec.specs.Resolved.{prelude_theorem_at, cited_theorem}
use Rattle.hol_exec.specs.Valid.{AreOfTheory}
use Rattle.hol_theory.proofs.Standing.{entry_within, entry_is}
use Rattle.hol_exec.proofs.ReadOver.{prelude_within}

prelude_unconditional : (kind : Kind) (name : List ℕ) (th : Theorem) → prelude_theorem_at kind name ≡ Some th → th.sequent.hyps ≡ no_hyps
prelude_unconditional key_kind.Type name th e = absurd (cc)
prelude_unconditional key_kind.Constant name th e = absurd (cc)
prelude_unconditional key_kind.Tac name th e = absurd (cc)
prelude_unconditional key_kind.Theorem name th e = by (statement_in prelude_statements name) e
  where
    by : (o : Option Named) → option_map stated o ≡ Some th → th.sequent.hyps ≡ no_hyps
    by None e = absurd (cc)
    by (Some p) e = let is : stated p ≡ th = cc in ap (λ (s : Theorem). s.sequent.hyps) (sym is)

pub cited_unconditional : (cited made : Values) (h : AreOfTheory cited made) (th : Theorem) → cited_theorem cited ≡ Some th → th.sequent.hyps ≡ no_hyps
cited_unconditional [] made h th e = absurd (cc)
cited_unconditional ((key, None) ∷ more) made h th e = prelude_unconditional key.kind key.name th e
cited_unconditional ((key, Some (AType arity item basis)) ∷ more) made h th e = absurd (cc)
cited_unconditional ((key, Some (AConstant ty item basis)) ∷ more) made h th e = absurd (cc)
cited_unconditional ((key, Some (ATac x bases basis)) ∷ more) made h th e = absurd (cc)
cited_unconditional ((key, Some (ATheorem own)) ∷ more) made h th e =
    let is : own ≡ th = cc in
    ap (λ (s : Theorem). s.sequent.hyps) (sym is) ∙ (entry_is h.entries key (ATheorem own) h.theory (sym h.cited_stand.0)).without_hypotheses

pub cited_within : (cited made : Values) (h : AreOfTheory cited made) (th : Theorem) → cited_theorem cited ≡ Some th → IsSubset th.basis (items_in h.entries)
cited_within [] made h th e = absurd (cc)
cited_within ((key, None) ∷ more) made h th e = prelude_within (items_in h.entries) key.kind key.name th e
cited_within ((key, Some (AType arity item basis)) ∷ more) made h th e = absurd (cc)
cited_within ((key, Some (AConstant ty item basis)) ∷ more) made h th e = absurd (cc)
cited_within ((key, Some (ATac x bases basis)) ∷ more) made h th e = absurd (cc)
cited_within ((key, Some (ATheorem own)) ∷ more) made h th e =
    let is : own ≡ th = cc in
    subst (λ (s : Theorem). IsSubset s.basis (items_in h.entries)) is (entry_within h.entries key (ATheorem own) h.theory (sym h.cited_stand.0))
