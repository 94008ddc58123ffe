-- How the logic stores theorem and tactic expressions: as trees of numbers, by functions that map no two to one tree.
use Rattle.std.specs.Coded.{Coded, coded×, coded_list, code_by}
use Rattle.std.proofs.Common.{◌≡◌, ℕ, List, ap, arith, refl}
use base.Stored.{Gv, gnil, gnum, gcons}
use Rattle.hol_notation_terms.specs.Text.{TypeQuotationText}
use Rattle.hol_notation_terms.specs.Code.{head, tail, apart, coded_name, coded_quotation, coded_type_quotation}
use Rattle.hol_notation_tactics.specs.Text.{TypePairText, ThmText, Cited, Assume, Refl, Spec, Sym, Conjunct1, Conjunct2, Mp, InstType, ArgumentText, Term, Theorem, Pair, Theorems, CallText, TacText, TacTexts, Call, Then, ThenL, OrElse, Repeat, Try, Changed, Every, First, Replicate, DischThen, PopAssum, FirstAssum, SubgoalThen, no_tacs, more_tacs}

abbrev pub coded_pair : Coded TypePairText
coded_pair = code_by (TypeQuotationText × TypeQuotationText) (coded× coded_type_quotation coded_type_quotation) (λ q. (q.new_type, q.old_type)) (λ p. record { new_type = p.0; old_type = p.1 }) (λ _. refl)

abbrev coded_pairs : Coded (List TypePairText)
coded_pairs = coded_list coded_pair

abbrev pub thm_code : ThmText → Gv
thm_code (Cited x) = gcons (gnum 0) (coded_name.code x)
thm_code (Assume p) = gcons (gnum 1) (coded_quotation.code p)
thm_code (Refl t) = gcons (gnum 2) (coded_quotation.code t)
thm_code (Spec t a) = gcons (gnum 3) (gcons (coded_quotation.code t) (thm_code a))
thm_code (Sym a) = gcons (gnum 4) (thm_code a)
thm_code (Conjunct1 a) = gcons (gnum 5) (thm_code a)
thm_code (Conjunct2 a) = gcons (gnum 6) (thm_code a)
thm_code (Mp a b) = gcons (gnum 7) (gcons (thm_code a) (thm_code b))
thm_code (InstType ps a) = gcons (gnum 8) (gcons (coded_pairs.code ps) (thm_code a))

pub thm_inj : (x y : ThmText) → thm_code x ≡ thm_code y → x ≡ y
thm_inj (Cited x) (Cited x_) p = λ i. Cited (coded_name.inj x x_ (ap (λ g. tail g) p) i)
thm_inj (Cited x) _ p = absurd (apart _ _ p (omega arith))
thm_inj (Assume q) (Assume q_) p = λ i. Assume (coded_quotation.inj q q_ (ap (λ g. tail g) p) i)
thm_inj (Assume q) _ p = absurd (apart _ _ p (omega arith))
thm_inj (Refl t) (Refl t_) p = λ i. Refl (coded_quotation.inj t t_ (ap (λ g. tail g) p) i)
thm_inj (Refl t) _ p = absurd (apart _ _ p (omega arith))
thm_inj (Spec t a) (Spec t_ a_) p = λ i. Spec (coded_quotation.inj t t_ (ap (λ g. head (tail g)) p) i) (thm_inj a a_ (ap (λ g. tail (tail g)) p) i)
thm_inj (Spec t a) _ p = absurd (apart _ _ p (omega arith))
thm_inj (Sym a) (Sym a_) p = λ i. Sym (thm_inj a a_ (ap (λ g. tail g) p) i)
thm_inj (Sym a) _ p = absurd (apart _ _ p (omega arith))
thm_inj (Conjunct1 a) (Conjunct1 a_) p = λ i. Conjunct1 (thm_inj a a_ (ap (λ g. tail g) p) i)
thm_inj (Conjunct1 a) _ p = absurd (apart _ _ p (omega arith))
thm_inj (Conjunct2 a) (Conjunct2 a_) p = λ i. Conjunct2 (thm_inj a a_ (ap (λ g. tail g) p) i)
thm_inj (Conjunct2 a) _ p = absurd (apart _ _ p (omega arith))
thm_inj (Mp a b) (Mp a_ b_) p = λ i. Mp (thm_inj a a_ (ap (λ g. head (tail g)) p) i) (thm_inj b b_ (ap (λ g. tail (tail g)) p) i)
thm_inj (Mp a b) _ p = absurd (apart _ _ p (omega arith))
thm_inj (InstType ps a) (InstType ps_ a_) p = λ i. InstType (coded_pairs.inj ps ps_ (ap (λ g. head (tail g)) p) i) (thm_inj a a_ (ap (λ g. tail (tail g)) p) i)
thm_inj (InstType ps a) _ p = absurd (apart _ _ p (omega arith))

abbrev pub coded_thm : Coded ThmText
coded_thm = record { code = thm_code; inj = thm_inj }

abbrev coded_thms : Coded (List ThmText)
coded_thms = coded_list coded_thm

abbrev pub argument_code : ArgumentText → Gv
argument_code (Term t) = gcons (gnum 0) (coded_quotation.code t)
argument_code (Theorem a) = gcons (gnum 1) (coded_thm.code a)
argument_code (Pair t x) = gcons (gnum 2) (gcons (coded_quotation.code t) (coded_quotation.code x))
argument_code (Theorems ts) = gcons (gnum 3) (coded_thms.code ts)

pub argument_inj : (x y : ArgumentText) → argument_code x ≡ argument_code y → x ≡ y
argument_inj (Term t) (Term t_) p = λ i. Term (coded_quotation.inj t t_ (ap (λ g. tail g) p) i)
argument_inj (Term t) _ p = absurd (apart _ _ p (omega arith))
argument_inj (Theorem a) (Theorem a_) p = λ i. Theorem (coded_thm.inj a a_ (ap (λ g. tail g) p) i)
argument_inj (Theorem a) _ p = absurd (apart _ _ p (omega arith))
argument_inj (Pair t x) (Pair t_ x_) p = λ i. Pair (coded_quotation.inj t t_ (ap (λ g. head (tail g)) p) i) (coded_quotation.inj x x_ (ap (λ g. tail (tail g)) p) i)
argument_inj (Pair t x) _ p = absurd (apart _ _ p (omega arith))
argument_inj (Theorems ts) (Theorems ts_) p = λ i. Theorems (coded_thms.inj ts ts_ (ap (λ g. tail g) p) i)
argument_inj (Theorems ts) _ p = absurd (apart _ _ p (omega arith))

abbrev pub coded_argument : Coded ArgumentText
coded_argument = record { code = argument_code; inj = argument_inj }

abbrev pub coded_call : Coded CallText
coded_call = code_by (List ℕ × List ArgumentText) (coded× coded_name (coded_list coded_argument)) (λ c. (c.name, c.arguments)) (λ p. record { name = p.0; arguments = p.1 }) (λ _. refl)

abbrev mutual
  pub tac_code : TacText → Gv
  tac_code (Call c) = gcons (gnum 0) (coded_call.code c)
  tac_code (Then t u) = gcons (gnum 1) (gcons (tac_code t) (tac_code u))
  tac_code (ThenL t us) = gcons (gnum 2) (gcons (tac_code t) (tacs_code us))
  tac_code (OrElse t u) = gcons (gnum 3) (gcons (tac_code t) (tac_code u))
  tac_code (Repeat t) = gcons (gnum 4) (tac_code t)
  tac_code (Try t) = gcons (gnum 5) (tac_code t)
  tac_code (Changed t) = gcons (gnum 6) (tac_code t)
  tac_code (Every ts) = gcons (gnum 7) (tacs_code ts)
  tac_code (First ts) = gcons (gnum 8) (tacs_code ts)
  tac_code (Replicate n t) = gcons (gnum 9) (gcons (gnum n) (tac_code t))
  tac_code (DischThen c) = gcons (gnum 10) (coded_call.code c)
  tac_code (PopAssum c) = gcons (gnum 11) (coded_call.code c)
  tac_code (FirstAssum c) = gcons (gnum 12) (coded_call.code c)
  tac_code (SubgoalThen q c) = gcons (gnum 13) (gcons (coded_quotation.code q) (coded_call.code c))

  pub tacs_code : TacTexts → Gv
  tacs_code no_tacs = gcons (gnum 0) gnil
  tacs_code (more_tacs t ts) = gcons (gnum 1) (gcons (tac_code t) (tacs_code ts))

abbrev number_in : Gv → ℕ
number_in gnil = 0
number_in (gnum n) = n
number_in (gcons a b) = 0

mutual
  pub tac_inj : (x y : TacText) → tac_code x ≡ tac_code y → x ≡ y
  tac_inj (Call c) (Call c_) p = λ i. Call (coded_call.inj c c_ (ap (λ g. tail g) p) i)
  tac_inj (Call c) _ p = absurd (apart _ _ p (omega arith))
  tac_inj (Then t u) (Then t_ u_) p = λ i. Then (tac_inj t t_ (ap (λ g. head (tail g)) p) i) (tac_inj u u_ (ap (λ g. tail (tail g)) p) i)
  tac_inj (Then t u) _ p = absurd (apart _ _ p (omega arith))
  tac_inj (ThenL t us) (ThenL t_ us_) p = λ i. ThenL (tac_inj t t_ (ap (λ g. head (tail g)) p) i) (tacs_inj us us_ (ap (λ g. tail (tail g)) p) i)
  tac_inj (ThenL t us) _ p = absurd (apart _ _ p (omega arith))
  tac_inj (OrElse t u) (OrElse t_ u_) p = λ i. OrElse (tac_inj t t_ (ap (λ g. head (tail g)) p) i) (tac_inj u u_ (ap (λ g. tail (tail g)) p) i)
  tac_inj (OrElse t u) _ p = absurd (apart _ _ p (omega arith))
  tac_inj (Repeat t) (Repeat t_) p = λ i. Repeat (tac_inj t t_ (ap (λ g. tail g) p) i)
  tac_inj (Repeat t) _ p = absurd (apart _ _ p (omega arith))
  tac_inj (Try t) (Try t_) p = λ i. Try (tac_inj t t_ (ap (λ g. tail g) p) i)
  tac_inj (Try t) _ p = absurd (apart _ _ p (omega arith))
  tac_inj (Changed t) (Changed t_) p = λ i. Changed (tac_inj t t_ (ap (λ g. tail g) p) i)
  tac_inj (Changed t) _ p = absurd (apart _ _ p (omega arith))
  tac_inj (Every ts) (Every ts_) p = λ i. Every (tacs_inj ts ts_ (ap (λ g. tail g) p) i)
  tac_inj (Every ts) _ p = absurd (apart _ _ p (omega arith))
  tac_inj (First ts) (First ts_) p = λ i. First (tacs_inj ts ts_ (ap (λ g. tail g) p) i)
  tac_inj (First ts) _ p = absurd (apart _ _ p (omega arith))
  tac_inj (Replicate n t) (Replicate n_ t_) p = λ i. Replicate (ap (λ g. number_in (head (tail g))) p i) (tac_inj t t_ (ap (λ g. tail (tail g)) p) i)
  tac_inj (Replicate n t) _ p = absurd (apart _ _ p (omega arith))
  tac_inj (DischThen c) (DischThen c_) p = λ i. DischThen (coded_call.inj c c_ (ap (λ g. tail g) p) i)
  tac_inj (DischThen c) _ p = absurd (apart _ _ p (omega arith))
  tac_inj (PopAssum c) (PopAssum c_) p = λ i. PopAssum (coded_call.inj c c_ (ap (λ g. tail g) p) i)
  tac_inj (PopAssum c) _ p = absurd (apart _ _ p (omega arith))
  tac_inj (FirstAssum c) (FirstAssum c_) p = λ i. FirstAssum (coded_call.inj c c_ (ap (λ g. tail g) p) i)
  tac_inj (FirstAssum c) _ p = absurd (apart _ _ p (omega arith))
  tac_inj (SubgoalThen q c) (SubgoalThen q_ c_) p = λ i. SubgoalThen (coded_quotation.inj q q_ (ap (λ g. head (tail g)) p) i) (coded_call.inj c c_ (ap (λ g. tail (tail g)) p) i)
  tac_inj (SubgoalThen q c) _ p = absurd (apart _ _ p (omega arith))

  pub tacs_inj : (x y : TacTexts) → tacs_code x ≡ tacs_code y → x ≡ y
  tacs_inj no_tacs no_tacs p = refl
  tacs_inj no_tacs (more_tacs t_ ts_) p = absurd (apart 0 1 p (omega arith))
  tacs_inj (more_tacs t ts) no_tacs p = absurd (apart 1 0 p (omega arith))
  tacs_inj (more_tacs t ts) (more_tacs t_ ts_) p = λ i. more_tacs (tac_inj t t_ (ap (λ g. head (tail g)) p) i) (tacs_inj ts ts_ (ap (λ g. tail (tail g)) p) i)

abbrev pub coded_tac : Coded TacText
coded_tac = record { code = tac_code; inj = tac_inj }
