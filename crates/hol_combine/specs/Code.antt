-- How the logic stores expressions: as trees of numbers, by functions that map no two to one tree.
use Rattle.std.specs.Coded.{Coded, coded×, coded_ℕ, coded_list, coded_option, code_by}
use Rattle.std.proofs.Common.{◌≡◌, ℕ, List, Option, ap, arith, refl}
use base.Stored.{Gv, gnil, gnum, gcons}
use Rattle.hol_types.specs.Code.{head, tail, apart}
use Rattle.hol_terms.specs.Nameless.{Nameless}
use Rattle.hol_terms.specs.Code.{coded_nameless}
use Rattle.hol_kernel.specs.Given.{Given, given_code}
use Rattle.hol_goal.specs.Arguments.{TacArgsValue, Nothing, Term, Pair, Theorem, TermAndTheorem, Theorems}
use Rattle.hol_combine.specs.ExprValue.{CallValue, TheoremTacValue, ExprValue, ExprValues, Call, Then, ThenL, OrElse, Try, Repeat, Every, First, Replicate, Changed, DischThen, PopAssum, FirstAssum, SubgoalThen, Defined, no_exprs, more_exprs}

abbrev number_in : Gv → ℕ
number_in gnil = 0
number_in (gnum n) = n
number_in (gcons a b) = 0

abbrev pub coded_theorems : Coded (List Given)
coded_theorems = coded_list given_code

abbrev pub args_code : TacArgsValue → Gv
args_code Nothing = gcons (gnum 0) gnil
args_code (Term t) = gcons (gnum 1) (coded_nameless.code t)
args_code (Pair s t) = gcons (gnum 2) (gcons (coded_nameless.code s) (coded_nameless.code t))
args_code (Theorem th) = gcons (gnum 3) (given_code.code th)
args_code (TermAndTheorem t th) = gcons (gnum 4) (gcons (coded_nameless.code t) (given_code.code th))
args_code (Theorems ths) = gcons (gnum 5) (coded_theorems.code ths)

pub args_inj : (x y : TacArgsValue) → args_code x ≡ args_code y → x ≡ y
args_inj Nothing Nothing p = refl
args_inj Nothing _ p = absurd (apart _ _ p (omega arith))
args_inj (Term t) (Term t_) p = λ i. Term (coded_nameless.inj t t_ (ap (λ g. tail g) p) i)
args_inj (Term t) _ p = absurd (apart _ _ p (omega arith))
args_inj (Pair s t) (Pair s_ t_) p = λ i. Pair (coded_nameless.inj s s_ (ap (λ g. head (tail g)) p) i) (coded_nameless.inj t t_ (ap (λ g. tail (tail g)) p) i)
args_inj (Pair s t) _ p = absurd (apart _ _ p (omega arith))
args_inj (Theorem th) (Theorem th_) p = λ i. Theorem (given_code.inj th th_ (ap (λ g. tail g) p) i)
args_inj (Theorem th) _ p = absurd (apart _ _ p (omega arith))
args_inj (TermAndTheorem t th) (TermAndTheorem t_ th_) p = λ i. TermAndTheorem (coded_nameless.inj t t_ (ap (λ g. head (tail g)) p) i) (given_code.inj th th_ (ap (λ g. tail (tail g)) p) i)
args_inj (TermAndTheorem t th) _ p = absurd (apart _ _ p (omega arith))
args_inj (Theorems ths) (Theorems ths_) p = λ i. Theorems (coded_theorems.inj ths ths_ (ap (λ g. tail g) p) i)
args_inj (Theorems ths) _ p = absurd (apart _ _ p (omega arith))

abbrev pub coded_args : Coded TacArgsValue
coded_args = record { code = args_code; inj = args_inj }

abbrev pub coded_call : Coded CallValue
coded_call =
    code_by (ℕ × (List ℕ × TacArgsValue)) (coded× coded_ℕ (coded× (coded_list coded_ℕ) coded_args))
    (λ c. (c.index, (c.name, c.args)))
    (λ p. record { index = p.0; name = p.1.0; args = p.1.1 })
    (λ _. refl)

abbrev pub coded_theorem_tac : Coded TheoremTacValue
coded_theorem_tac =
    code_by (ℕ × (List ℕ × Option Nameless)) (coded× coded_ℕ (coded× (coded_list coded_ℕ) (coded_option coded_nameless)))
    (λ c. (c.index, (c.name, c.term)))
    (λ p. record { index = p.0; name = p.1.0; term = p.1.1 })
    (λ _. refl)

abbrev mutual
  pub expr_code : ExprValue → Gv
  expr_code (Call c) = gcons (gnum 0) (coded_call.code c)
  expr_code (Then t u) = gcons (gnum 1) (gcons (expr_code t) (expr_code u))
  expr_code (ThenL t us) = gcons (gnum 2) (gcons (expr_code t) (exprs_code us))
  expr_code (OrElse t u) = gcons (gnum 3) (gcons (expr_code t) (expr_code u))
  expr_code (Try t) = gcons (gnum 4) (expr_code t)
  expr_code (Repeat t) = gcons (gnum 5) (expr_code t)
  expr_code (Every ts) = gcons (gnum 6) (exprs_code ts)
  expr_code (First ts) = gcons (gnum 7) (exprs_code ts)
  expr_code (Replicate n t) = gcons (gnum 8) (gcons (gnum n) (expr_code t))
  expr_code (Changed t) = gcons (gnum 9) (expr_code t)
  expr_code (DischThen called) = gcons (gnum 10) (coded_theorem_tac.code called)
  expr_code (PopAssum called) = gcons (gnum 11) (coded_theorem_tac.code called)
  expr_code (FirstAssum called) = gcons (gnum 12) (coded_theorem_tac.code called)
  expr_code (SubgoalThen p called) = gcons (gnum 13) (gcons (coded_nameless.code p) (coded_theorem_tac.code called))
  expr_code (Defined t) = gcons (gnum 14) (expr_code t)

  pub exprs_code : ExprValues → Gv
  exprs_code no_exprs = gcons (gnum 0) gnil
  exprs_code (more_exprs t ts) = gcons (gnum 1) (gcons (expr_code t) (exprs_code ts))

mutual
  pub expr_inj : (x y : ExprValue) → expr_code x ≡ expr_code y → x ≡ y
  expr_inj (Call c) (Call c_) p = λ i. Call (coded_call.inj c c_ (ap (λ g. tail g) p) i)
  expr_inj (Call c) _ p = absurd (apart _ _ p (omega arith))
  expr_inj (Then t u) (Then t_ u_) p = λ i. Then (expr_inj t t_ (ap (λ g. head (tail g)) p) i) (expr_inj u u_ (ap (λ g. tail (tail g)) p) i)
  expr_inj (Then t u) _ p = absurd (apart _ _ p (omega arith))
  expr_inj (ThenL t us) (ThenL t_ us_) p = λ i. ThenL (expr_inj t t_ (ap (λ g. head (tail g)) p) i) (exprs_inj us us_ (ap (λ g. tail (tail g)) p) i)
  expr_inj (ThenL t us) _ p = absurd (apart _ _ p (omega arith))
  expr_inj (OrElse t u) (OrElse t_ u_) p = λ i. OrElse (expr_inj t t_ (ap (λ g. head (tail g)) p) i) (expr_inj u u_ (ap (λ g. tail (tail g)) p) i)
  expr_inj (OrElse t u) _ p = absurd (apart _ _ p (omega arith))
  expr_inj (Try t) (Try t_) p = λ i. Try (expr_inj t t_ (ap (λ g. tail g) p) i)
  expr_inj (Try t) _ p = absurd (apart _ _ p (omega arith))
  expr_inj (Repeat t) (Repeat t_) p = λ i. Repeat (expr_inj t t_ (ap (λ g. tail g) p) i)
  expr_inj (Repeat t) _ p = absurd (apart _ _ p (omega arith))
  expr_inj (Every ts) (Every ts_) p = λ i. Every (exprs_inj ts ts_ (ap (λ g. tail g) p) i)
  expr_inj (Every ts) _ p = absurd (apart _ _ p (omega arith))
  expr_inj (First ts) (First ts_) p = λ i. First (exprs_inj ts ts_ (ap (λ g. tail g) p) i)
  expr_inj (First ts) _ p = absurd (apart _ _ p (omega arith))
  expr_inj (Replicate n t) (Replicate n_ t_) p = λ i. Replicate (ap (λ g. number_in (head (tail g))) p i) (expr_inj t t_ (ap (λ g. tail (tail g)) p) i)
  expr_inj (Replicate n t) _ p = absurd (apart _ _ p (omega arith))
  expr_inj (Changed t) (Changed t_) p = λ i. Changed (expr_inj t t_ (ap (λ g. tail g) p) i)
  expr_inj (Changed t) _ p = absurd (apart _ _ p (omega arith))
  expr_inj (DischThen called) (DischThen called_) p = λ i. DischThen (coded_theorem_tac.inj called called_ (ap (λ g. tail g) p) i)
  expr_inj (DischThen called) _ p = absurd (apart _ _ p (omega arith))
  expr_inj (PopAssum called) (PopAssum called_) p = λ i. PopAssum (coded_theorem_tac.inj called called_ (ap (λ g. tail g) p) i)
  expr_inj (PopAssum called) _ p = absurd (apart _ _ p (omega arith))
  expr_inj (FirstAssum called) (FirstAssum called_) p = λ i. FirstAssum (coded_theorem_tac.inj called called_ (ap (λ g. tail g) p) i)
  expr_inj (FirstAssum called) _ p = absurd (apart _ _ p (omega arith))
  expr_inj (SubgoalThen q called) (SubgoalThen q_ called_) p = λ i. SubgoalThen (coded_nameless.inj q q_ (ap (λ g. head (tail g)) p) i) (coded_theorem_tac.inj called called_ (ap (λ g. tail (tail g)) p) i)
  expr_inj (SubgoalThen q called) _ p = absurd (apart _ _ p (omega arith))
  expr_inj (Defined t) (Defined t_) p = λ i. Defined (expr_inj t t_ (ap (λ g. tail g) p) i)
  expr_inj (Defined t) _ p = absurd (apart _ _ p (omega arith))

  pub exprs_inj : (x y : ExprValues) → exprs_code x ≡ exprs_code y → x ≡ y
  exprs_inj no_exprs no_exprs p = refl
  exprs_inj no_exprs (more_exprs t_ ts_) p = absurd (apart 0 1 p (omega arith))
  exprs_inj (more_exprs t ts) no_exprs p = absurd (apart 1 0 p (omega arith))
  exprs_inj (more_exprs t ts) (more_exprs t_ ts_) p = λ i. more_exprs (expr_inj t t_ (ap (λ g. head (tail g)) p) i) (exprs_inj ts ts_ (ap (λ g. tail (tail g)) p) i)

abbrev pub coded_expr : Coded ExprValue
coded_expr = record { code = expr_code; inj = expr_inj }
