use Rattle.std.specs.FinSet as set
use Rattle.std.proofs.Common.{[], ap, codes, false, subst, sym, ◌∙◌, ◌∷◌, ◌≡◌}
use Rattle.std.proofs.lemmas.Bool.{or_parts}
use Rattle.std.specs.Prelude.{◌||◌}
use Rattle.hol_terms.specs.Named.{named_type}
use Rattle.hol_terms.specs.Nameless.{Nameless, base_of, free, free_occurrences, lam, nameless}
use Rattle.hol_terms.specs.Alpha.{strip}
use Rattle.hol_terms.specs.Scoped.{binds}
use Rattle.hol_subst.specs.Closing.{bind, close, open_with}
use Rattle.hol_subst.specs.Variant.{is_free_in}
use Rattle.hol_subst.proofs.Closing.{close_under, nameless_abs}
use Rattle.hol_subst.proofs.Opening.{open_close_subst}
use Rattle.hol_formulas.proofs.FormulaLaws.{dest_exists_existential, dest_quantifier_is}
use Rattle.hol_formulas.specs.Formula.{dest_exists}
use Rattle.hol_kernel.specs.Sequent.{Hyps, sequent_of}
use Rattle.hol_kernel.specs.Theorem.{theorem_on, theorem_over}
use Rattle.hol_kernel.proofs.InstRules.{along_nameless}
use Rattle.hol_kernel.proofs.Sound.{second_over}
use Rattle.hol_equal.proofs.Outcomes.{became}
use Rattle.hol_equal.specs.Applied.{rand}
use Rattle.hol_equal.specs.Rules.{m_with}
use Rattle.hol_derived.specs.Applied.{abstraction_in, bound_type, chosen}
use Rattle.hol_derived.specs.Rules.{choose_left}
use Rattle.hol_derived.specs.Unfolded.{exists_in}
use Rattle.hol_derived.proofs.Choices.{choose_derived}
use Rattle.hol_derived.proofs.Disjunctions.{not_none}
use Rattle.hol_derived.proofs.existential.chosen.Goals as goal

pub unreachable-requires : goal.unreachable-requires
unreachable-requires c =
    let s = c.args.a.now.sequent in
    not_none (abstraction_in (rand s.concl)) (sym (ap dest_exists c.requires.is ∙ dest_exists_existential (abstraction_in (rand s.concl))) ∙ ap dest_exists (sym c.concl.ensures.concl) ∙ c.in_default.ensures.parts)

pub left_of_choice-requires : goal.left_of_choice-requires
left_of_choice-requires c =
    let B = c.args.a.now.basis in
    let s = c.args.a.now.sequent in
    let b = c.args.b.now.sequent in
    let v = c.args.v.now in
    let x = c.in-Some.x.now in
    let n = nameless [] c.in-Some.p.now in
    let inner = nameless (x ∷ []) c.in-Some.p.now in
    let found : s.concl ≡ exists_in x.1 (lam (base_of x.0) x.1 inner) = dest_quantifier_is (codes "?") s.concl (record { base = base_of x.0; domain = x.1; body = inner }) (ap dest_exists (sym c.concl.ensures.concl) ∙ c.in-Some.ensures.parts) in
    let domain : v.1 ≡ x.1 = c.requires.of_type ∙ ap (λ (u : Nameless). bound_type (rand u)) found in
    record { fits = domain }

pub closed-requires : goal.closed-requires
closed-requires c =
    let B = c.args.a.now.basis in
    let s = c.args.a.now.sequent in
    let b = c.args.b.now.sequent in
    let v = c.args.v.now in
    let x = c.in-Some.x.now in
    let n = nameless [] c.in-Some.p.now in
    let inner = nameless (x ∷ []) c.in-Some.p.now in
    let found : s.concl ≡ exists_in x.1 (lam (base_of x.0) x.1 inner) = dest_quantifier_is (codes "?") s.concl (record { base = base_of x.0; domain = x.1; body = inner }) (ap dest_exists (sym c.concl.ensures.concl) ∙ c.in-Some.ensures.parts) in
    let domain : v.1 ≡ x.1 = c.requires.of_type ∙ ap (λ (u : Nameless). bound_type (rand u)) found in
    let whole : s.concl ≡ exists_in v.1 (bind (x.0, v.1) n) = found ∙ ap (λ (u : Nameless). exists_in x.1 u) (nameless_abs x c.in-Some.p.now) ∙ (λ i. exists_in (sym domain i) (bind (x.0, sym domain i) n)) in
    let witness = m_with (free v) (x.0, v.1) n in
    let opened : open_with (free v) 0 inner ≡ witness = ap (open_with (free v) 0) (close_under [] x c.in-Some.p.now ∙ (λ i. close (x.0, sym domain i) 0 n)) ∙ open_close_subst (x.0, v.1) (free v) 0 n in
    let left : choose_left v b.hyps (abstraction_in (rand s.concl)) ≡ set.remove b.hyps (strip witness) = ap (λ (u : Nameless). choose_left v b.hyps (abstraction_in (rand u))) found ∙ ap (λ (u : Nameless). set.remove b.hyps (strip u)) opened in
    let rest : c.in_ok-rest.rest ≡ set.remove b.hyps (strip witness) = c.in_ok-rest.ensures ∙ ap (λ (u : Nameless). set.remove b.hyps (strip u)) opened in
    let hs : c.in_ok-hyps.hyps ≡ set.union s.hyps (set.remove b.hyps (strip witness)) = c.in_ok-hyps.ensures ∙ (λ i. set.union (c.hypotheses.ensures i) (rest i)) in
    let outside = or_parts (binds (free_occurrences s.concl) v) (binds (free_occurrences b.concl) v || is_free_in (set.items (choose_left v b.hyps (abstraction_in (rand s.concl)))) v) c.requires.absent in
    let beside = or_parts (binds (free_occurrences b.concl) v) (is_free_in (set.items (choose_left v b.hyps (abstraction_in (rand s.concl)))) v) outside.1 in
    along_nameless B c.basis.result.now (set.union s.hyps (set.remove b.hyps (strip witness))) c.in_ok-hyps.hyps b.concl c.in_ok-concl.concl c.basis.ensures
    hs
    (ap (nameless []) c.in_ok-concl.ensures ∙ c.concl-2.ensures.concl)
    (choose_derived B v x.0 n b.concl s b.hyps whole (subst (λ (u : Nameless). binds (free_occurrences u) v ≡ false) whole outside.0) beside.0 (subst (λ (ks : Hyps). is_free_in (set.items ks) v ≡ false) left beside.1)
    c.promise.ensures.derives (second_over c.args.a.now c.args.b.now c.requires.same_basis c.promise-2.ensures.derives))
    (ap named_type c.in_ok-concl.ensures ∙ c.concl-2.ensures.typed)

pub returns : goal.returns
returns c =
    let B = c.args.a.now.basis in
    let s = c.args.a.now.sequent in
    let b = c.args.b.now.sequent in
    let v = c.args.v.now in
    let x = c.in-Some.x.now in
    let n = nameless [] c.in-Some.p.now in
    let inner = nameless (x ∷ []) c.in-Some.p.now in
    let found : s.concl ≡ exists_in x.1 (lam (base_of x.0) x.1 inner) = dest_quantifier_is (codes "?") s.concl (record { base = base_of x.0; domain = x.1; body = inner }) (ap dest_exists (sym c.concl.ensures.concl) ∙ c.in-Some.ensures.parts) in
    let domain : v.1 ≡ x.1 = c.requires.of_type ∙ ap (λ (u : Nameless). bound_type (rand u)) found in
    let whole : s.concl ≡ exists_in v.1 (bind (x.0, v.1) n) = found ∙ ap (λ (u : Nameless). exists_in x.1 u) (nameless_abs x c.in-Some.p.now) ∙ (λ i. exists_in (sym domain i) (bind (x.0, sym domain i) n)) in
    let witness = m_with (free v) (x.0, v.1) n in
    let opened : open_with (free v) 0 inner ≡ witness = ap (open_with (free v) 0) (close_under [] x c.in-Some.p.now ∙ (λ i. close (x.0, sym domain i) 0 n)) ∙ open_close_subst (x.0, v.1) (free v) 0 n in
    let left : choose_left v b.hyps (abstraction_in (rand s.concl)) ≡ set.remove b.hyps (strip witness) = ap (λ (u : Nameless). choose_left v b.hyps (abstraction_in (rand u))) found ∙ ap (λ (u : Nameless). set.remove b.hyps (strip u)) opened in
    let rest : c.in_ok-rest.rest ≡ set.remove b.hyps (strip witness) = c.in_ok-rest.ensures ∙ ap (λ (u : Nameless). set.remove b.hyps (strip u)) opened in
    let hs : c.in_ok-hyps.hyps ≡ set.union s.hyps (set.remove b.hyps (strip witness)) = c.in_ok-hyps.ensures ∙ (λ i. set.union (c.hypotheses.ensures i) (rest i)) in
    let is : nameless [] c.in_ok-concl.concl ≡ b.concl = ap (nameless []) c.in_ok-concl.ensures ∙ c.concl-2.ensures.concl in
    became c.closed.result (theorem_over c.basis.result.now c.in_ok-hyps.hyps (nameless [] c.in_ok-concl.concl)) (theorem_on B (chosen v s b)) c.closed.ensures
    ((λ i. theorem_over (c.basis.ensures i) (hs i) (is i)) ∙ ap (λ (ks : Hyps). theorem_on B (sequent_of (set.union s.hyps ks) b.concl)) (sym left))
