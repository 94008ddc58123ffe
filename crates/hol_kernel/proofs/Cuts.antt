-- PROVE_HYP by DEDUCT_ANTISYM_RULE and EQ_MP, and what removing leaves.
use Rattle.std.specs.Prelude.{◌≡◌, true, false, not, ◌&&◌, ◌||◌, Bool, refl}
use Rattle.std.specs.Ordering.{eq_by_cmp}
use Rattle.std.specs.FinSet as set
use Rattle.std.proofs.Common.{ap, sym, ◌∙◌, subst}
use Rattle.hol_terms.specs.Nameless.{Nameless}
use Rattle.hol_terms.specs.Alpha.{strip}
use Rattle.hol_subst.specs.AlphaOrder.{nameless_cmp}
use Rattle.hol_formulas.specs.Equation.{bool_type}
use Rattle.hol_kernel.specs.Items.{Items}
use Rattle.hol_kernel.specs.Sequent.{Hyps, no_hyps, only_hyp, Sequent, sequent_of}
use Rattle.hol_kernel.specs.Derivation.{Derives, by_eq_mp, by_deduct_antisym}
use Rattle.hol_kernel.proofs.HypothesisLists.{hyps_total, hyps_same}
use Rattle.hol_kernel.proofs.Sound.{Derived}

-- two sets with the same members are one
pub same_hyps : (hs ks : Hyps) → ((q : Nameless) → set.contains hs q ≡ set.contains ks q) → hs ≡ ks
same_hyps hs ks e = set.same_set hyps_total hyps_same hs ks e

-- (A - q) u (B - p) u A is A u (B - p)
absorbed : (a b q p : Bool) → (((not q && a) || (not p && b)) || a) ≡ (a || (not p && b))
absorbed true true true true = refl
absorbed true true true false = refl
absorbed true true false true = refl
absorbed true true false false = refl
absorbed true false true true = refl
absorbed true false true false = refl
absorbed true false false true = refl
absorbed true false false false = refl
absorbed false true true true = refl
absorbed false true true false = refl
absorbed false true false true = refl
absorbed false true false false = refl
absorbed false false true true = refl
absorbed false false true false = refl
absorbed false false false true = refl
absorbed false false false false = refl

proved_from : (hs ks : Hyps) (p q : Nameless) → set.union (set.union (set.remove hs q) (set.remove ks p)) hs ≡ set.union hs (set.remove ks p)
proved_from hs ks p q =
    same_hyps _ _
    (λ n.
    set.contains-union hyps_total (set.union (set.remove hs q) (set.remove ks p)) hs n
    ∙ (λ i. (set.contains-union hyps_total (set.remove hs q) (set.remove ks p) n ∙ (λ j. set.contains-remove hyps_total hs q n j || set.contains-remove hyps_total ks p n j)) i || set.contains hs n)
    ∙ absorbed (set.contains hs n) (set.contains ks n) (eq_by_cmp nameless_cmp n q) (eq_by_cmp nameless_cmp n p)
    ∙ (λ i. set.contains hs n || sym (set.contains-remove hyps_total ks p n) i)
    ∙ sym (set.contains-union hyps_total hs (set.remove ks p) n))

pub cut_derived : (items : Items) (a b : Sequent) → Derived items a → Derived items b → Derived items (sequent_of (set.union a.hyps (set.remove b.hyps (strip a.concl))) b.concl)
cut_derived items a b d e =
    subst (λ (hs : Hyps). Derives items hs b.concl) (proved_from a.hyps b.hyps (strip a.concl) (strip b.concl))
    (by_eq_mp (set.union (set.remove a.hyps (strip b.concl)) (set.remove b.hyps (strip a.concl))) a.hyps bool_type a.concl b.concl a.concl
    (by_deduct_antisym a.hyps b.hyps a.concl b.concl d e) d refl)

-- ---- what removing leaves

removed_ways : (p : Bool) → (not p && (p || false)) ≡ false
removed_ways true = refl
removed_ways false = refl

pub one_removed : (p : Nameless) → set.remove (only_hyp p) (strip p) ≡ no_hyps
one_removed p =
    same_hyps _ _
    (λ q.
    set.contains-remove hyps_total (only_hyp p) (strip p) q
    ∙ ap (λ b. not (eq_by_cmp nameless_cmp q (strip p)) && b)
    (set.contains-insert hyps_total no_hyps (strip p) q ∙ ap (λ b. eq_by_cmp nameless_cmp q (strip p) || b) (set.contains-empty nameless_cmp q))
    ∙ removed_ways (eq_by_cmp nameless_cmp q (strip p)) ∙ sym (set.contains-empty nameless_cmp q))
