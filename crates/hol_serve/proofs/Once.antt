-- The machine answers a line in one way, but for want of memory.
use Rattle.std.proofs.Common.{◌≡◌, ℕ, ◌<◌, ◌≤◌, List, length, ap, sym, ◌∙◌, arith, inl, inr}
use Rattle.std.specs.Prelude.{◌⊎◌, Result, Ok, Err, Option, Some, None}
use Rattle.hol_document.specs.declared.error.Refusal.{Refusal}
use Rattle.hol_document.specs.Documents.{TheoryText, with_theory, without_theory, with_command, with_text, without_command}
use Rattle.hol_document.proofs.Unique.{one_answer}
use Rattle.hol_document.proofs.Bases.{one_basis_answer, one_list_answer}
use Rattle.hol_wire.specs.Requests.{RequestText, NewTheory, DropTheory, Insert, Replace, Remove, Report, Theorems, Basis, Stats, Close, request_of}
use Rattle.hol_wire.specs.Replies.{Memory, ReplyValue, Refused, Reports, Lists, RestsOn}
use Rattle.hol_session.specs.Lines.{line_limit}
use Rattle.serde_json.specs.Data.{Data}
use Rattle.hol_session.specs.Machine.{Counted, ReadsAs, Machine, too_long, no_json, served, no_memory, Edits, reply_to, Serves, ServesIf}

documents_kept : (old m n : Counted) → m ≡ old → n ≡ old → m.documents ≡ n.documents
documents_kept old m n h k = ap (λ (c : Counted). c.documents) (h ∙ sym k)

edits_once : (old : Counted) (r : Result (List TheoryText) Refusal) (P Q : Type 0) (a b : ReplyValue) (m n : Counted) → Edits old r P a m → Edits old r Q b n → (a ≡ b) × (m.documents ≡ n.documents)
edits_once old (Ok theories) P Q a b m n h k = (h.0 ∙ sym k.0, h.1 ∙ sym k.1)
edits_once old (Err refusal) P Q a b m n h k = (h.0 ∙ sym k.0, documents_kept old m n h.1 k.1)

serves_once : (old : Counted) (request : RequestText) (a b : ReplyValue) (m n : Counted) → Serves old request a m → Serves old request b n → (a ≡ b) × (m.documents ≡ n.documents)
serves_once old (NewTheory name at) a b m n h k = edits_once old (with_theory old.documents.theories name at) _ _ a b m n h k
serves_once old (Insert theory at text) a b m n h k = edits_once old (with_command old.documents.theories theory at text) _ _ a b m n h k
serves_once old (DropTheory name) a b m n h k = edits_once old (without_theory old.documents.theories name) _ _ a b m n h k
serves_once old (Replace theory at text) a b m n h k = edits_once old (with_text old.documents.theories theory at text) _ _ a b m n h k
serves_once old (Remove theory at) a b m n h k = edits_once old (without_command old.documents.theories theory at) _ _ a b m n h k
serves_once old (Report theory at) a b m n h k =
    (h.3 ∙ (ap (reply_to Reports) (one_answer old.documents theory at h.0 k.0 h.1 k.1) ∙ sym k.3), documents_kept old m n h.4 k.4)
serves_once old (Theorems theory) a b m n h k =
    (h.3 ∙ (ap (reply_to Lists) (one_list_answer old.documents theory h.0 k.0 h.1 k.1) ∙ sym k.3), documents_kept old m n h.4 k.4)
serves_once old Stats a b m n h k = (h.0 ∙ sym k.0, documents_kept old m n h.1 k.1)
serves_once old Close a b m n h k = (h.0 ∙ sym k.0, documents_kept old m n h.1 k.1)
serves_once old (Basis theory name) a b m n h k =
    (h.3 ∙ (ap (reply_to RestsOn) (one_basis_answer old.documents theory name h.0 k.0 h.1 k.1) ∙ sym k.3), documents_kept old m n h.4 k.4)

serves_if_once : (old : Counted) (request : Option RequestText) (a b : ReplyValue) (m n : Counted) → ServesIf old request a m → ServesIf old request b n → (a ≡ b) × (m.documents ≡ n.documents)
serves_if_once old None a b m n h k = (h.0 ∙ sym k.0, documents_kept old m n h.1 k.1)
serves_if_once old (Some request) a b m n h k = serves_once old request a b m n h k

same_data : (line : List ℕ) (d e : Data) → ReadsAs line d → ReadsAs line e → d ≡ e
same_data line d e h k = let f : Some d ≡ Some e = sym h.1 ∙ k.1 in cc

apart : (line : List ℕ) → line_limit < length line → length line ≤ line_limit → ⊥
apart line h k = omega (arith, h, k)

abbrev OneOrMemory : ReplyValue → Counted → ReplyValue → Counted → Type 0
OneOrMemory a m b n = (a ≡ Refused Memory) ⊎ ((b ≡ Refused Memory) ⊎ ((a ≡ b) × (m.documents ≡ n.documents)))

pub one_answer_or_memory : (old : Counted) (line : List ℕ) (a b : ReplyValue) (m n : Counted) → Machine old line a m → Machine old line b n → OneOrMemory a m b n
one_answer_or_memory old line a b m n (no_memory h some is same rises) k = inl is
one_answer_or_memory old line a b m n (too_long h is same) (no_memory l some are alike rises) = inr (inl are)
one_answer_or_memory old line a b m n (too_long h is same) (too_long l are alike) = inr (inr (is ∙ sym are, documents_kept old m n same alike))
one_answer_or_memory old line a b m n (too_long h is same) (no_json l none are alike) = absurd (apart line h l)
one_answer_or_memory old line a b m n (too_long h is same) (served l d reads serves) = absurd (apart line h l)
one_answer_or_memory old line a b m n (no_json h none is same) (no_memory l some are alike rises) = inr (inl are)
one_answer_or_memory old line a b m n (no_json h none is same) (too_long l are alike) = absurd (apart line l h)
one_answer_or_memory old line a b m n (no_json h none is same) (no_json l other are alike) = inr (inr (is ∙ sym are, documents_kept old m n same alike))
one_answer_or_memory old line a b m n (no_json h none is same) (served l d reads serves) = absurd (none d reads)
one_answer_or_memory old line a b m n (served h d reads serves) (no_memory l some are alike rises) = inr (inl are)
one_answer_or_memory old line a b m n (served h d reads serves) (too_long l are alike) = absurd (apart line l h)
one_answer_or_memory old line a b m n (served h d reads serves) (no_json l none are alike) = absurd (none d reads)
one_answer_or_memory old line a b m n (served h d reads serves) (served l e others again) =
    inr (inr (serves_if_once old (request_of d) a b m n serves (rw (same_data line d e reads others) again)))
