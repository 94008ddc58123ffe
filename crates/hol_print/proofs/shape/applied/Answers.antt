use Rattle.std.proofs.Common.{◌≡◌, ap, sym, ◌∙◌, refl, true, false, inl, inr}
use Rattle.hol_print.specs.BareView.{bare_of}
use Rattle.hol_print.specs.ShowTerm.{syntax, prefixed, is_quantifier}
use Rattle.hol_print.proofs.Shapes.{quantified, unquantified, is_lam, plain, written_infix, no_infix, is_fixed, other_head}
use Rattle.hol_print.proofs.shape.applied.Goals as goal

pub returns-then-is_quantifier-clause-syntax : goal.returns-then-is_quantifier-clause-syntax
returns-then-is_quantifier-clause-syntax c env =
    let e : is_quantifier c.in-Constant.c.now ≡ true = ap is_quantifier (sym c.as_str.ensures) ∙ sym c.is_quantifier.ensures ∙ c.if-is_quantifier.true in
    quantified env _ _ _ _ _ _ _ _ _ (ap bare_of c.in-Constant.is) (ap bare_of c.in-Lam.is) c.as_str-then-is_quantifier.ensures (ap bare_of c.deref.ensures) e

pub returns-else-is_quantifier-clause-syntax : goal.returns-else-is_quantifier-clause-syntax
returns-else-is_quantifier-clause-syntax c env =
    let e : is_quantifier c.in-Constant.c.now ≡ false = ap is_quantifier (sym c.as_str.ensures) ∙ sym c.is_quantifier.ensures ∙ c.if-is_quantifier.false in
    unquantified env _ _ _ _ _ _ _ (ap bare_of c.in-Constant.is) (ap bare_of c.in-Lam.is) e
    ∙ ap (λ k. prefixed k (syntax env (bare_of c.args.f.now)) (syntax env (bare_of c.args.x.now))) (sym c.as_str-else-is_quantifier.ensures)
    ∙ c.prefixed.ensures.syntax env

pub returns-in-Free-x-clause-syntax : goal.returns-in-Free-x-clause-syntax
returns-in-Free-x-clause-syntax c env =
    let e : is_lam (bare_of c.args.x.now) ≡ false = elim c.in-Free-x.is [ inl h ↦ rw h.1 refl | inr k ↦ elim k [ inl h ↦ rw h.1 refl | inr j ↦ elim j [ inl h ↦ rw h.2 refl | inr h ↦ rw h.2 refl ] ] ] in
    plain env _ _ _ _ (ap bare_of c.in-Constant.is) e
    ∙ ap (λ k. prefixed k (syntax env (bare_of c.args.f.now)) (syntax env (bare_of c.args.x.now))) (sym c.as_str-in-Free-x.ensures)
    ∙ c.prefixed-in-Free-x.ensures.syntax env

pub returns-in-Some-clause-syntax : goal.returns-in-Some-clause-syntax
returns-in-Some-clause-syntax c env =
    written_infix env _ _ _ _ _ _ _ _ _ (ap bare_of c.in-App.is) (ap bare_of (sym c.deref-in-App.ensures ∙ c.in-Constant-deref.is)) c.symbol-symbol.ensures (sym c.infix_number.ensures ∙ c.in-Some.is) (ap bare_of c.deref-in-Some.ensures)

pub returns-in-None-clause-syntax : goal.returns-in-None-clause-syntax
returns-in-None-clause-syntax c env =
    no_infix env _ _ _ _ _ _ _ (ap bare_of c.in-App.is) (ap bare_of (sym c.deref-in-App.ensures ∙ c.in-Constant-deref.is)) c.symbol-symbol.ensures (sym c.infix_number.ensures ∙ c.in-None.is)

pub returns-in-Free-deref-clause-syntax : goal.returns-in-Free-deref-clause-syntax
returns-in-Free-deref-clause-syntax c env =
    let e : is_fixed (bare_of c.deref-in-App.result.now) ≡ false = elim c.in-Free-deref.is [ inl h ↦ rw h.1 refl | inr k ↦ elim k [ inl h ↦ rw h.1 refl | inr j ↦ elim j [ inl h ↦ rw h.2 refl | inr h ↦ rw h.2 refl ] ] ] in
    other_head env _ _ _ _ (ap bare_of c.in-App.is) (ap (λ y. is_fixed (bare_of y)) (sym c.deref-in-App.ensures) ∙ e)

pub returns-in-Free-clause-syntax : goal.returns-in-Free-clause-syntax
returns-in-Free-clause-syntax c env = elim c.in-Free.is [ inl h ↦ rw h.1 refl | inr k ↦ elim k [ inl h ↦ rw h.1 refl | inr h ↦ rw h.2 refl ] ]
