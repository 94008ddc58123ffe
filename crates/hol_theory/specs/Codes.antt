-- How the logic stores keys and entries.
use Rattle.std.specs.Prelude.{◌≡◌, ◌⊎◌, ◌==◌, ℕ, List, if◌then◌else◌, refl}
use Rattle.std.proofs.Common.{inl, inr}
use base.Stored.{Gv}
use Rattle.std.specs.Coded.{Coded, code_by, coded×, coded⊎, coded_ℕ, coded_list}
use Rattle.hol_types.specs.Tree.{TypeTree}
use Rattle.hol_types.specs.Code.{coded_name, coded_type}
use Rattle.hol_kernel.specs.Item.{Item, item_code}
use Rattle.hol_kernel.specs.Items.{Items, items_code}
use Rattle.hol_kernel.specs.Theorem.{Theorem, theorem_code}
use Rattle.hol_combine.specs.ExprValue.{ExprValue}
use Rattle.hol_combine.specs.Code.{coded_expr}
use Rattle.hol_theory.specs.declared.key.Kind.{Kind}
use Rattle.hol_theory.specs.declared.key.Kind.TheVariants as key_kind
use Rattle.hol_theory.specs.Key.{KeyValue, kind_rank}
use Rattle.hol_theory.specs.Entry.{EntryValue, AType, AConstant, ATheorem, ATac, Entries}

-- ---- keys

abbrev kind_at : ℕ → Kind
kind_at n = if n == 0 then key_kind.Type else if n == 1 then key_kind.Constant else if n == 2 then key_kind.Theorem else key_kind.Tac

pub kind_back : (k : Kind) → kind_at (kind_rank k) ≡ k
kind_back key_kind.Type = refl
kind_back key_kind.Constant = refl
kind_back key_kind.Theorem = refl
kind_back key_kind.Tac = refl

abbrev pub coded_key : Coded KeyValue
coded_key =
    code_by (Kind × List ℕ) (coded× (code_by ℕ coded_ℕ kind_rank kind_at kind_back) coded_name)
    (λ k. (k.kind, k.name))
    (λ p. record { kind = p.0; name = p.1 })
    (λ _. refl)

-- ---- entries

abbrev Cases : Type 0
Cases = (ℕ × (Item × Items)) ⊎ ((TypeTree × (Item × Items)) ⊎ (Theorem ⊎ (ExprValue × (List Items × Items))))

abbrev cases : EntryValue → Cases
cases (AType arity item basis) = inl (arity, (item, basis))
cases (AConstant ty item basis) = inr (inl (ty, (item, basis)))
cases (ATheorem th) = inr (inr (inl th))
cases (ATac e bases basis) = inr (inr (inr (e, (bases, basis))))

abbrev entry : Cases → EntryValue
entry (inl v) = AType v.0 v.1.0 v.1.1
entry (inr (inl v)) = AConstant v.0 v.1.0 v.1.1
entry (inr (inr (inl th))) = ATheorem th
entry (inr (inr (inr v))) = ATac v.0 v.1.0 v.1.1

pub entry_back : (e : EntryValue) → entry (cases e) ≡ e
entry_back (AType arity item basis) = refl
entry_back (AConstant ty item basis) = refl
entry_back (ATheorem th) = refl
entry_back (ATac e bases basis) = refl

abbrev pub coded_entry : Coded EntryValue
coded_entry =
    code_by Cases
    (coded⊎ (coded× coded_ℕ (coded× item_code items_code))
    (coded⊎ (coded× coded_type (coded× item_code items_code))
    (coded⊎ theorem_code (coded× coded_expr (coded× (coded_list items_code) items_code)))))
    cases entry entry_back

abbrev pub coded_entries : Coded Entries
coded_entries = coded_list (coded× coded_key coded_entry)

-- what a value's mark says
abbrev pub entry_code : EntryValue → Gv
entry_code = coded_entry.code
