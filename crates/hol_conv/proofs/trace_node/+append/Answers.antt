use Rattle.std.proofs.Common.{rules, ◌≡◌, ◌++◌, ◌∙◌, ap, sym, refl, subst}
use Rattle.hol_terms.proofs.Same.{variable_eq_decides}
use Rattle.hol_conv.specs.Traces.{in_parts, in_body, traced, used}
use Rattle.hol_conv.specs.Tracing.{IsThen, IsAfter}
use Rattle.hol_conv.proofs.Traces.{second_is, none_then, then_none, in_parts_appended, in_body_appended, in_last_appended, on_ok}
use Rattle.hol_conv.proofs.trace_node.+append.Goals as goal

pub append-returns-in-Parts : goal.append-returns-in-Parts
append-returns-in-Parts t c =
    on_ok c.append_parts.result _ _
    (λ h. second_is (traced c.args.first.now) (traced c.args.second.value) (in_parts (traced c.in-Parts.g.value) (traced c.in-Parts.y.value)) (used c.args.first.now) (used c.in-Parts.g.value ++ used c.in-Parts.y.value) (used c.args.second.value) c.append_parts.new.first (λ s. ap (λ z. traced z s) (sym c.into_inner.ensures ∙ c.in-Parts.is)) (ap used (sym c.into_inner.ensures ∙ c.in-Parts.is)) h)
    c.append_parts.ensures

pub append-returns-in-Body : goal.append-returns-in-Body
append-returns-in-Body t c =
    on_ok c.append_body.result _ _
    (λ h. second_is (traced c.args.first.now) (traced c.args.second.value) (in_body c.in-Body.w (used c.in-Body.c.value) (traced c.in-Body.c.value)) (used c.args.first.now) (used c.in-Body.c.value) (used c.args.second.value) c.append_body.new.first (λ s. ap (λ z. traced z s) (sym c.into_inner.ensures ∙ c.in-Body.is)) (ap used (sym c.into_inner.ensures ∙ c.in-Body.is)) h)
    c.append_body.ensures

pub append-returns-in-Same : goal.append-returns-in-Same
append-returns-in-Same t c = then_none c.args.first.now c.args.second.value (sym c.into_inner.ensures ∙ c.in-Same.is)

pub append_body-returns-then-same : goal.append_body-returns-then-same
append_body-returns-then-same t c =
    on_ok c.append.result _ _
    (λ h.
    in_body_appended c.in-Body.v c.args.w c.in-Body.b.value c.args.c.value c.append.new.first c.args.first.now _ ((variable_eq_decides c.in-Body.v c.args.w).0 (sym c.if-same.ensures))
    (record { gives = λ s. ap (λ z. traced z s) c.in-Body.is; given = ap used c.in-Body.is }) (record { gives = λ s. refl; given = refl })
    (subst (λ z. IsAfter z c.args.c.value c.append.new.first) c.deref_mut.ensures.value h))
    c.append.ensures

pub append_body-returns-then-count : goal.append_body-returns-then-count
append_body-returns-then-count t c =
    in_last_appended c.in-Both.a.value c.in-Both.b.value c.append_body.new.first c.args.first.now _ (in_body c.args.w (used c.args.c.value) (traced c.args.c.value)) (used c.args.c.value)
    (record { gives = λ s. ap (λ z. traced z s) c.in-Both.is; given = ap used c.in-Both.is }) (record { gives = λ s. refl; given = refl })
    (subst (λ z. IsThen (traced z) (in_body c.args.w (used c.args.c.value) (traced c.args.c.value)) (used z ++ used c.args.c.value) c.append_body.new.first) c.deref_mut-then-count.ensures.value c.in_ok-append_body-in-Both.ensures)

pub append_body-returns : goal.append_body-returns
append_body-returns t c =
    let is : c.match-first.first ≡ c.args.first.now = search rules in
    on_ok c.follow.result _ _ (λ h. subst (λ z. IsThen (traced z) (in_body c.args.w (used c.args.c.value) (traced c.args.c.value)) (used z ++ used c.args.c.value) c.follow.new.first) is h) c.follow.ensures

pub append_parts-returns-in-Parts : goal.append_parts-returns-in-Parts
append_parts-returns-in-Parts t c =
    on_ok c.append-in-Parts.result _ _
    (λ h.
    in_parts_appended c.in-Parts.f.value c.in-Parts.x.value c.args.g.value c.args.y.value c.append.new.first c.append-in-Parts.new.first c.args.first.now _
    (record { gives = λ s. ap (λ z. traced z s) c.in-Parts.is; given = ap used c.in-Parts.is }) (record { gives = λ s. refl; given = refl })
    (subst (λ z. IsAfter z c.args.g.value c.append.new.first) c.deref_mut.ensures.value c.in_ok-append-in-Parts.ensures)
    (subst (λ z. IsAfter z c.args.y.value c.append-in-Parts.new.first) c.deref_mut-in-Parts.ensures.value h))
    c.append-in-Parts.ensures

pub append_parts-returns-then-count : goal.append_parts-returns-then-count
append_parts-returns-then-count t c =
    in_last_appended c.in-Both.a.value c.in-Both.b.value c.append_parts.new.first c.args.first.now _ (in_parts (traced c.args.g.value) (traced c.args.y.value)) (used c.args.g.value ++ used c.args.y.value)
    (record { gives = λ s. ap (λ z. traced z s) c.in-Both.is; given = ap used c.in-Both.is }) (record { gives = λ s. refl; given = refl })
    (subst (λ z. IsThen (traced z) (in_parts (traced c.args.g.value) (traced c.args.y.value)) (used z ++ (used c.args.g.value ++ used c.args.y.value)) c.append_parts.new.first) c.deref_mut-then-count.ensures.value c.in_ok-append_parts-in-Both.ensures)

pub append_parts-returns-in-Same : goal.append_parts-returns-in-Same
append_parts-returns-in-Same t c =
    none_then (in_parts (traced c.args.g.value) (traced c.args.y.value)) (used c.args.g.value ++ used c.args.y.value) c.args.first.now _ c.in-Same.is (λ s. refl) refl

pub append_parts-returns : goal.append_parts-returns
append_parts-returns t c =
    let is : c.match-first.first ≡ c.args.first.now = search rules in
    on_ok c.follow.result _ _ (λ h. subst (λ z. IsThen (traced z) (in_parts (traced c.args.g.value) (traced c.args.y.value)) (used z ++ (used c.args.g.value ++ used c.args.y.value)) c.follow.new.first) is h) c.follow.ensures
