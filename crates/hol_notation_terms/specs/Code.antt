-- How the logic stores types, terms, quotations and definitions: as trees of numbers, by functions that map no two to one tree.
-- Source: this project.
use Rattle.std.specs.Coded.{Coded, coded×, coded_ℕ, coded_bool, coded_list, coded_option, code_by}
use Rattle.std.proofs.Common.{◌≡◌, ◌≢◌, ◌==◌, ℕ, Bool, List, Option, ap, arith, refl, if◌then◌else◌}
use base.Stored.{Gv, gnil, gnum, gcons}
use Rattle.hol_notation_terms.specs.declared.operator.Operator.{Operator}
use Rattle.hol_notation_terms.specs.declared.operator.Operator.TheVariants.{Iff, Implies, Or, And, Equals, Not, ForAll, Exists, ExistsUnique, Choice}
use Rattle.hol_notation_terms.specs.Text.{TypeText, TypeTexts, Ident, Arrow, Apply, no_types, more_types, VariableText, TermText, Named, Constant, Applied, Abstraction, Typed, QuotationText, TypeQuotationText, RightSideText, DefinitionText}

-- the parts of a pair of trees, and that trees of two numbers differ
abbrev pub head : Gv → Gv
head gnil = gnil
head (gnum n) = gnil
head (gcons a b) = a

abbrev pub tail : Gv → Gv
tail gnil = gnil
tail (gnum n) = gnil
tail (gcons a b) = b

pub apart : (m n : ℕ) {a b : Gv} → gcons (gnum m) a ≡ gcons (gnum n) b → m ≢ n → ⊥
apart m n p other = other (cc)

abbrev pub coded_name : Coded (List ℕ)
coded_name = coded_list coded_ℕ

abbrev operator_number : Operator → ℕ
operator_number Iff = 0
operator_number Implies = 1
operator_number Or = 2
operator_number And = 3
operator_number Equals = 4
operator_number Not = 5
operator_number ForAll = 6
operator_number Exists = 7
operator_number ExistsUnique = 8
operator_number Choice = 9

abbrev operator_at : ℕ → Operator
operator_at n = if n == 0 then Iff else if n == 1 then Implies else if n == 2 then Or else if n == 3 then And else if n == 4 then Equals else if n == 5 then Not else if n == 6 then ForAll else if n == 7 then Exists else if n == 8 then ExistsUnique else Choice

pub operator_back : (c : Operator) → operator_at (operator_number c) ≡ c
operator_back Iff = refl
operator_back Implies = refl
operator_back Or = refl
operator_back And = refl
operator_back Equals = refl
operator_back Not = refl
operator_back ForAll = refl
operator_back Exists = refl
operator_back ExistsUnique = refl
operator_back Choice = refl

abbrev coded_operator : Coded Operator
coded_operator = code_by ℕ coded_ℕ operator_number operator_at operator_back

abbrev mutual
  pub type_code : TypeText → Gv
  type_code (Ident a) = gcons (gnum 0) (coded_name.code a)
  type_code (Arrow s t) = gcons (gnum 1) (gcons (type_code s) (type_code t))
  type_code (Apply c ts) = gcons (gnum 2) (gcons (coded_name.code c) (types_code ts))

  pub types_code : TypeTexts → Gv
  types_code no_types = gcons (gnum 0) gnil
  types_code (more_types t ts) = gcons (gnum 1) (gcons (type_code t) (types_code ts))

mutual
  pub type_inj : (x y : TypeText) → type_code x ≡ type_code y → x ≡ y
  type_inj (Ident a) (Ident a_) p = λ i. Ident (coded_name.inj a a_ (ap (λ g. tail g) p) i)
  type_inj (Ident a) (Arrow s_ t_) p = absurd (apart 0 1 p (omega arith))
  type_inj (Ident a) (Apply c_ ts_) p = absurd (apart 0 2 p (omega arith))
  type_inj (Arrow s t) (Ident a_) p = absurd (apart 1 0 p (omega arith))
  type_inj (Arrow s t) (Arrow s_ t_) p = λ i. Arrow (type_inj s s_ (ap (λ g. head (tail g)) p) i) (type_inj t t_ (ap (λ g. tail (tail g)) p) i)
  type_inj (Arrow s t) (Apply c_ ts_) p = absurd (apart 1 2 p (omega arith))
  type_inj (Apply c ts) (Ident a_) p = absurd (apart 2 0 p (omega arith))
  type_inj (Apply c ts) (Arrow s_ t_) p = absurd (apart 2 1 p (omega arith))
  type_inj (Apply c ts) (Apply c_ ts_) p = λ i. Apply (coded_name.inj c c_ (ap (λ g. head (tail g)) p) i) (types_inj ts ts_ (ap (λ g. tail (tail g)) p) i)

  pub types_inj : (x y : TypeTexts) → types_code x ≡ types_code y → x ≡ y
  types_inj no_types no_types p = refl
  types_inj no_types (more_types t_ ts_) p = absurd (apart 0 1 p (omega arith))
  types_inj (more_types t ts) no_types p = absurd (apart 1 0 p (omega arith))
  types_inj (more_types t ts) (more_types t_ ts_) p = λ i. more_types (type_inj t t_ (ap (λ g. head (tail g)) p) i) (types_inj ts ts_ (ap (λ g. tail (tail g)) p) i)

abbrev pub coded_type : Coded TypeText
coded_type = record { code = type_code; inj = type_inj }

abbrev variable_fields : VariableText → List ℕ × Option TypeText
variable_fields v = (v.name, v.annotation)

abbrev variable_of : List ℕ × Option TypeText → VariableText
variable_of p = record { name = p.0; annotation = p.1 }

abbrev pub coded_variable : Coded VariableText
coded_variable = code_by (List ℕ × Option TypeText) (coded× coded_name (coded_option coded_type)) variable_fields variable_of (λ _. refl)

abbrev pub term_code : TermText → Gv
term_code (Named x) = gcons (gnum 0) (coded_name.code x)
term_code (Constant c) = gcons (gnum 1) (coded_operator.code c)
term_code (Applied f a) = gcons (gnum 2) (gcons (term_code f) (term_code a))
term_code (Abstraction v b) = gcons (gnum 3) (gcons (coded_variable.code v) (term_code b))
term_code (Typed t ty) = gcons (gnum 4) (gcons (term_code t) (coded_type.code ty))

pub term_inj : (x y : TermText) → term_code x ≡ term_code y → x ≡ y
term_inj (Named x) (Named x_) p = λ i. Named (coded_name.inj x x_ (ap (λ g. tail g) p) i)
term_inj (Named x) (Constant c_) p = absurd (apart 0 1 p (omega arith))
term_inj (Named x) (Applied f_ a_) p = absurd (apart 0 2 p (omega arith))
term_inj (Named x) (Abstraction v_ b_) p = absurd (apart 0 3 p (omega arith))
term_inj (Named x) (Typed t_ ty_) p = absurd (apart 0 4 p (omega arith))
term_inj (Constant c) (Named x_) p = absurd (apart 1 0 p (omega arith))
term_inj (Constant c) (Constant c_) p = λ i. Constant (coded_operator.inj c c_ (ap (λ g. tail g) p) i)
term_inj (Constant c) (Applied f_ a_) p = absurd (apart 1 2 p (omega arith))
term_inj (Constant c) (Abstraction v_ b_) p = absurd (apart 1 3 p (omega arith))
term_inj (Constant c) (Typed t_ ty_) p = absurd (apart 1 4 p (omega arith))
term_inj (Applied f a) (Named x_) p = absurd (apart 2 0 p (omega arith))
term_inj (Applied f a) (Constant c_) p = absurd (apart 2 1 p (omega arith))
term_inj (Applied f a) (Applied f_ a_) p = λ i. Applied (term_inj f f_ (ap (λ g. head (tail g)) p) i) (term_inj a a_ (ap (λ g. tail (tail g)) p) i)
term_inj (Applied f a) (Abstraction v_ b_) p = absurd (apart 2 3 p (omega arith))
term_inj (Applied f a) (Typed t_ ty_) p = absurd (apart 2 4 p (omega arith))
term_inj (Abstraction v b) (Named x_) p = absurd (apart 3 0 p (omega arith))
term_inj (Abstraction v b) (Constant c_) p = absurd (apart 3 1 p (omega arith))
term_inj (Abstraction v b) (Applied f_ a_) p = absurd (apart 3 2 p (omega arith))
term_inj (Abstraction v b) (Abstraction v_ b_) p = λ i. Abstraction (coded_variable.inj v v_ (ap (λ g. head (tail g)) p) i) (term_inj b b_ (ap (λ g. tail (tail g)) p) i)
term_inj (Abstraction v b) (Typed t_ ty_) p = absurd (apart 3 4 p (omega arith))
term_inj (Typed t ty) (Named x_) p = absurd (apart 4 0 p (omega arith))
term_inj (Typed t ty) (Constant c_) p = absurd (apart 4 1 p (omega arith))
term_inj (Typed t ty) (Applied f_ a_) p = absurd (apart 4 2 p (omega arith))
term_inj (Typed t ty) (Abstraction v_ b_) p = absurd (apart 4 3 p (omega arith))
term_inj (Typed t ty) (Typed t_ ty_) p = λ i. Typed (term_inj t t_ (ap (λ g. head (tail g)) p) i) (coded_type.inj ty ty_ (ap (λ g. tail (tail g)) p) i)

abbrev pub coded_term : Coded TermText
coded_term = record { code = term_code; inj = term_inj }

abbrev pub coded_quotation : Coded QuotationText
coded_quotation = code_by (ℕ × TermText) (coded× coded_ℕ coded_term) (λ q. (q.place, q.term)) (λ p. record { place = p.0; term = p.1 }) (λ _. refl)

abbrev pub coded_type_quotation : Coded TypeQuotationText
coded_type_quotation = code_by (ℕ × TypeText) (coded× coded_ℕ coded_type) (λ q. (q.place, q.ty)) (λ p. record { place = p.0; ty = p.1 }) (λ _. refl)

abbrev pub coded_right_side : Coded RightSideText
coded_right_side =
    code_by (Option TypeText × (Bool × TermText)) (coded× (coded_option coded_type) (coded× coded_bool coded_term))
    (λ r. (r.annotation, (r.is_iff, r.term))) (λ p. record { annotation = p.0; is_iff = p.1.0; term = p.1.1 }) (λ _. refl)

abbrev pub coded_definition : Coded DefinitionText
coded_definition =
    code_by (ℕ × (List ℕ × (List VariableText × RightSideText))) (coded× coded_ℕ (coded× coded_name (coded× (coded_list coded_variable) coded_right_side)))
    (λ d. (d.place, (d.name, (d.parameters, d.right)))) (λ p. record { place = p.0; name = p.1.0; parameters = p.1.1.0; right = p.1.1.1 }) (λ _. refl)
