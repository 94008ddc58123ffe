-- Cutting a text in pieces.
use Rattle.std.proofs.Common.{◌≡◌, ℕ, List, [], ◌∷◌, ◌++◌, Bool, true, false, ◌==◌, refl, sym, ◌∙◌, ap, cond, append_assoc, arith}
use Rattle.std.specs.List.{All}
use Rattle.std.proofs.lemmas.Bool.{eqb-true}
use Rattle.std.proofs.lemmas.Grind.{common_steps}
use Rattle.std.proofs.lemmas.List.Elements.{All-nil, All-cons, All-push}
use Rattle.hol_session.specs.Lines.{newline, ended_lines, begun_line, whole_lines, text_of_lines, HasNoNewline}

pub ended_lines_joined : (begun xs ys : List ℕ) → ended_lines begun (xs ++ ys) ≡ ended_lines begun xs ++ ended_lines (begun_line begun xs) ys
unfolding ended_lines begun_line
ended_lines_joined begun [] ys = refl
ended_lines_joined begun (b ∷ bs) ys =
    elim (b == newline) as (λ t. cond t (begun ∷ ended_lines [] (bs ++ ys)) (ended_lines (begun ++ b ∷ []) (bs ++ ys))
    ≡ cond t (begun ∷ ended_lines [] bs) (ended_lines (begun ++ b ∷ []) bs) ++ ended_lines (cond t (begun_line [] bs) (begun_line (begun ++ b ∷ []) bs)) ys)
    [ true ↦ ap (λ l. begun ∷ l) (ended_lines_joined [] bs ys) | false ↦ ended_lines_joined (begun ++ b ∷ []) bs ys ]

pub begun_line_joined : (begun xs ys : List ℕ) → begun_line begun (xs ++ ys) ≡ begun_line (begun_line begun xs) ys
unfolding begun_line
begun_line_joined begun [] ys = refl
begun_line_joined begun (b ∷ bs) ys =
    elim (b == newline) as (λ t. cond t (begun_line [] (bs ++ ys)) (begun_line (begun ++ b ∷ []) (bs ++ ys))
    ≡ begun_line (cond t (begun_line [] bs) (begun_line (begun ++ b ∷ []) bs)) ys)
    [ true ↦ begun_line_joined [] bs ys | false ↦ begun_line_joined (begun ++ b ∷ []) bs ys ]

pub ended_lines_at_newline : (begun : List ℕ) → ended_lines begun (newline ∷ []) ≡ begun ∷ []
unfolding ended_lines
ended_lines_at_newline begun = refl

pub begun_line_at_newline : (begun : List ℕ) → begun_line begun (newline ∷ []) ≡ []
unfolding begun_line
begun_line_at_newline begun = refl

pub ended_lines_at_other : (begun : List ℕ) (b : ℕ) → (b == newline) ≡ false → ended_lines begun (b ∷ []) ≡ []
unfolding ended_lines
ended_lines_at_other begun b e = rw e refl

pub begun_line_at_other : (begun : List ℕ) (b : ℕ) → (b == newline) ≡ false → begun_line begun (b ∷ []) ≡ begun ++ b ∷ []
unfolding begun_line
begun_line_at_other begun b e = rw e refl

-- what stood and the text are the lines with their newlines, and what follows the last
lines_joined : (begun text : List ℕ) → begun ++ text ≡ text_of_lines (ended_lines begun text) ++ begun_line begun text
unfolding ended_lines begun_line
lines_joined begun [] = grind (arith, common_steps)
lines_joined begun (b ∷ bs) = by (b == newline) refl (lines_joined [] bs) (lines_joined (begun ++ b ∷ []) bs)
  where
    by : (t : Bool) → (b == newline) ≡ t → bs ≡ text_of_lines (ended_lines [] bs) ++ begun_line [] bs
        → (begun ++ b ∷ []) ++ bs ≡ text_of_lines (ended_lines (begun ++ b ∷ []) bs) ++ begun_line (begun ++ b ∷ []) bs
        → begun ++ b ∷ bs ≡ text_of_lines (cond t (begun ∷ ended_lines [] bs) (ended_lines (begun ++ b ∷ []) bs)) ++ cond t (begun_line [] bs) (begun_line (begun ++ b ∷ []) bs)
    by true e rest more =
        let is : b ≡ newline = eqb-true b newline e in
        ap (λ n. begun ++ n ∷ bs) is ∙ (ap (λ l. begun ++ newline ∷ l) rest ∙ sym (append_assoc begun (newline ∷ text_of_lines (ended_lines [] bs)) (begun_line [] bs)))
    by false e rest more = sym (append_assoc begun (b ∷ []) bs) ∙ more

lines_without_newline : (begun text : List ℕ) → HasNoNewline begun → All HasNoNewline (ended_lines begun text) × HasNoNewline (begun_line begun text)
unfolding ended_lines begun_line
lines_without_newline begun [] h = (All-nil HasNoNewline, h)
lines_without_newline begun (b ∷ bs) h = by (b == newline) refl (lines_without_newline [] bs (All-nil (λ b. (b == newline) ≡ false))) (λ e. lines_without_newline (begun ++ b ∷ []) bs (All-push (λ b. (b == newline) ≡ false) begun b h e))
  where
    by : (t : Bool) → (b == newline) ≡ t → All HasNoNewline (ended_lines [] bs) × HasNoNewline (begun_line [] bs)
        → ((b == newline) ≡ false → All HasNoNewline (ended_lines (begun ++ b ∷ []) bs) × HasNoNewline (begun_line (begun ++ b ∷ []) bs))
        → All HasNoNewline (cond t (begun ∷ ended_lines [] bs) (ended_lines (begun ++ b ∷ []) bs)) × HasNoNewline (cond t (begun_line [] bs) (begun_line (begun ++ b ∷ []) bs))
    by true e rest more = (All-cons HasNoNewline begun (ended_lines [] bs) h rest.0, rest.1)
    by false e rest more = more e

pub text_is_its_lines : (text : List ℕ) → (text ≡ text_of_lines (whole_lines text) ++ begun_line [] text) × All HasNoNewline (whole_lines text) × HasNoNewline (begun_line [] text)
text_is_its_lines text =
    let (lines, last) = lines_without_newline [] text (All-nil (λ b. (b == newline) ≡ false)) in
    (lines_joined [] text, lines, last)
