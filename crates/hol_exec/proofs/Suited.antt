-- What a basis suits, each basis that contains it suits.
use Rattle.std.specs.Prelude.{◌≡◌, true, false, List, [], ◌∷◌, is_some, cond, Bool, None, refl}
use Rattle.std.specs.List.{list_all}
use Rattle.std.proofs.Common.{◌∙◌}
use Rattle.std.proofs.lemmas.Bool.{and_parts, and_from}
use Rattle.hol_terms.specs.Nameless.{Nameless, nameless_type}
use Rattle.hol_formulas.specs.Equation.{bool_type}
use Rattle.hol_kernel.specs.Items.{Items, IsSubset}
use Rattle.hol_kernel.specs.Given.{Given, proved, assumed}
use Rattle.hol_kernel.specs.Typing.{is_typed, is_known}
use Rattle.hol_kernel.proofs.Subsets.{within_of_subset, subset_trans}
use Rattle.hol_kernel.proofs.Weaken.{is_known_more, has_type_more}
use Rattle.hol_goal.specs.Arguments.{TacArgsValue, Nothing, Term, Pair, Theorem, TermAndTheorem, Theorems}
use Rattle.hol_just.specs.Answering.{suits}
use Rattle.hol_just.specs.Justifies.{holds_term, holds_given}
use Rattle.hol_combine.specs.ExprValue.{CallValue, ExprValue, ExprValues, Call, Then, ThenL, OrElse, Try, Repeat, Every, First, Replicate, Changed, DischThen, PopAssum, FirstAssum, SubgoalThen, Defined, no_exprs, more_exprs}
use Rattle.hol_combine.specs.Suits.{all_calls, all_calls_of, written, by_subgoal, suits_expr}

module _ (few more : Items) (sub : IsSubset few more) where
  term_larger : (t : Nameless) → holds_term t few ≡ true → holds_term t more ≡ true
  term_larger t h = by (is_known few t) refl h
    where
      by : (b : Bool) → is_known few t ≡ b → is_some (cond b (nameless_type [] t) None) ≡ true → is_typed more t ≡ true
      by true e g = (λ i. is_some (cond (is_known_more few more (within_of_subset few more sub) t e i) (nameless_type [] t) None)) ∙ g
      by false e g = absurd (cc)

  given_larger : (th : Given) → holds_given th few ≡ true → holds_given th more ≡ true
  given_larger (proved th) h = subset_trans th.basis few more h sub
  given_larger (assumed p) h = has_type_more few more (within_of_subset few more sub) p bool_type h

  givens_larger : (ths : List Given) → list_all (λ th. holds_given th few) ths ≡ true → list_all (λ th. holds_given th more) ths ≡ true
  givens_larger [] h = refl
  givens_larger (th ∷ ths) h =
      let parts = and_parts (holds_given th few) (list_all (λ g. holds_given g few) ths) h in
      and_from (holds_given th more) (list_all (λ g. holds_given g more) ths) (given_larger th parts.0) (givens_larger ths parts.1)

  args_larger : (args : TacArgsValue) → suits args few ≡ true → suits args more ≡ true
  args_larger Nothing h = refl
  args_larger (Term t) h = term_larger t h
  args_larger (Pair s t) h =
      let parts = and_parts (holds_term s few) (holds_term t few) h in and_from (holds_term s more) (holds_term t more) (term_larger s parts.0) (term_larger t parts.1)
  args_larger (Theorem th) h = given_larger th h
  args_larger (TermAndTheorem t th) h =
      let parts = and_parts (holds_term t few) (holds_given th few) h in and_from (holds_term t more) (holds_given th more) (term_larger t parts.0) (given_larger th parts.1)
  args_larger (Theorems ths) h = givens_larger ths h

-- ---- expressions

module _ (few more : CallValue → Bool) (h : (call : CallValue) → few call ≡ true → more call ≡ true) where
  mutual
    all_larger : (e : ExprValue) → all_calls few e ≡ true → all_calls more e ≡ true
    all_larger (Call call) k = h call k
    all_larger (Then t u) k = let parts = and_parts (all_calls few t) (all_calls few u) k in and_from (all_calls more t) (all_calls more u) (all_larger t parts.0) (all_larger u parts.1)
    all_larger (ThenL t us) k = let parts = and_parts (all_calls few t) (all_calls_of few us) k in and_from (all_calls more t) (all_calls_of more us) (all_larger t parts.0) (each_larger us parts.1)
    all_larger (OrElse t u) k = let parts = and_parts (all_calls few t) (all_calls few u) k in and_from (all_calls more t) (all_calls more u) (all_larger t parts.0) (all_larger u parts.1)
    all_larger (Try t) k = all_larger t k
    all_larger (Repeat t) k = all_larger t k
    all_larger (Every ts) k = each_larger ts k
    all_larger (First ts) k = each_larger ts k
    all_larger (Replicate n t) k = all_larger t k
    all_larger (Changed t) k = all_larger t k
    all_larger (Defined t) k = all_larger t k
    all_larger (DischThen tac) k = h (written tac) k
    all_larger (PopAssum tac) k = h (written tac) k
    all_larger (FirstAssum tac) k = h (written tac) k
    all_larger (SubgoalThen p tac) k =
        let parts = and_parts (few (by_subgoal p tac)) (few (written tac)) k in and_from (more (by_subgoal p tac)) (more (written tac)) (h (by_subgoal p tac) parts.0) (h (written tac) parts.1)

    each_larger : (ts : ExprValues) → all_calls_of few ts ≡ true → all_calls_of more ts ≡ true
    each_larger no_exprs k = refl
    each_larger (more_exprs t ts) k = let parts = and_parts (all_calls few t) (all_calls_of few ts) k in and_from (all_calls more t) (all_calls_of more ts) (all_larger t parts.0) (each_larger ts parts.1)

pub suits_larger : (e : ExprValue) (few more : Items) → IsSubset few more → suits_expr e few ≡ true → suits_expr e more ≡ true
suits_larger e few more sub h = all_larger (λ call. suits call.args few) (λ call. suits call.args more) (λ call. args_larger few more sub call.args) e h
