-- Traces: one after the other, in parts, and of turns.
use Rattle.std.proofs.Common.{◌≡◌, ℕ, zero, suc, ◌+◌, List, [], ◌∷◌, ◌++◌, refl, sym, ap, ◌∙◌, subst, Bool, true, false, cond, not, ◌&&◌, slice_get, Option, Some, None, Result, Ok, Err, OnOk, Box, Global}
use Rattle.std.specs.List.{list_all}
use Rattle.std.specs.Option.{option_map, option_and_then}
use Rattle.std.specs.FinSet as set
use Rattle.std.proofs.lemmas.Bool.{and_parts, and_from}
use Rattle.std.proofs.lemmas.List.Folds.{list_all-append}
use Rattle.hol_types.specs.Tree.{TypeTree}
use Rattle.hol_types.proofs.OrderLaws.{type_cmp_decides}
use Rattle.std.proofs.lemmas.Slice.Eq.{bytes_eq-Decides}
use Rattle.hol_terms.specs.Nameless.{Nameless, free, bound, app, base_of}
use Rattle.hol_subst.specs.Closing.{bind, close, open_with}
use Rattle.hol_subst.proofs.Closing.{open_close, close_binds}
use Rattle.hol_formulas.specs.Equation.{dest_comb}
use Rattle.hol_formulas.proofs.FormulaLaws.{dest_comb_is}
use Rattle.hol_kernel.specs.Given.{Given, given_sequent}
use Rattle.hol_subst.specs.Variant.{is_free_in}
use Rattle.hol_match.specs.declared.set_rule.SetRule.{SetRule}
use Rattle.hol_match.specs.Contracta.{contracted}
use Rattle.hol_match.specs.SetView.{set_rule, set_given, IsGivenIn, AreGivenIn}
use Rattle.hol_conv.specs.Traces.{used, is_outside, opened, in_parts, in_body, traced}
use Rattle.hol_conv.specs.Tracing.{IsParts, IsBody, IsRule, IsBoth, IsThen, IsAfter}
use Rattle.hol_conv.specs.declared.trace_node.TraceNode.{TraceNode}
use Rattle.hol_conv.specs.declared.trace_node.TraceNode.TheVariants.{Same, Parts, Body, Rule}

-- ---- what was given
later : (x : Given) (all : List Given) (gs : List Given) → AreGivenIn all gs → AreGivenIn (x ∷ all) gs
later x all [] h = tt
later x all (g ∷ gs) h = ((suc h.0.0, h.0.1), later x all gs h.1)

pub given_itself : (gs : List Given) → AreGivenIn gs gs
given_itself [] = tt
given_itself (g ∷ gs) = ((0, refl), later g gs gs (given_itself gs))

pub given_both : (all xs ys : List Given) → AreGivenIn all xs → AreGivenIn all ys → AreGivenIn all (xs ++ ys)
given_both all [] ys h k = k
given_both all (x ∷ xs) ys h k = (h.0, given_both all xs ys h.1 k)

get_front : (xs ys : List Given) (i : ℕ) (g : Given) → slice_get xs i ≡ Some g → slice_get (xs ++ ys) i ≡ Some g
get_front [] ys i g e = absurd (cc)
get_front (x ∷ xs) ys zero g e = e
get_front (x ∷ xs) ys (suc i) g e = get_front xs ys i g e

pub given_front : (xs ys gs : List Given) → AreGivenIn xs gs → AreGivenIn (xs ++ ys) gs
given_front xs ys [] h = tt
given_front xs ys (g ∷ gs) h = ((h.0.0, get_front xs ys h.0.0 g h.0.1), given_front xs ys gs h.1)

pub given_back : (xs ys gs : List Given) → AreGivenIn ys gs → AreGivenIn (xs ++ ys) gs
given_back [] ys gs h = h
given_back (x ∷ xs) ys gs h = later x (xs ++ ys) gs (given_back xs ys gs h)

one_of : (all ys : List Given) (i : ℕ) (g : Given) → AreGivenIn all ys → slice_get ys i ≡ Some g → IsGivenIn all g
one_of all [] i g h e = absurd (cc)
one_of all (y ∷ ys) zero g h e = let same : y ≡ g = cc in subst (IsGivenIn all) same h.0
one_of all (y ∷ ys) (suc i) g h e = one_of all ys i g h.1 e

pub given_through : (all ys gs : List Given) → AreGivenIn all ys → AreGivenIn ys gs → AreGivenIn all gs
given_through all ys [] h k = tt
given_through all ys (g ∷ gs) h k = (one_of all ys k.0.0 g h k.0.1, given_through all ys gs h k.1)

-- both of two lists, by those of two others
given_pair : (ws xs ys zs : List Given) (ms ks : List Given) → AreGivenIn (ws ++ xs) ms → AreGivenIn (ys ++ zs) ks → AreGivenIn ((ws ++ ys) ++ (xs ++ zs)) (ms ++ ks)
given_pair ws xs ys zs ms ks h k =
    let all = (ws ++ ys) ++ (xs ++ zs) in
    let a = given_front (ws ++ ys) (xs ++ zs) ws (given_front ws ys ws (given_itself ws)) in
    let c = given_front (ws ++ ys) (xs ++ zs) ys (given_back ws ys ys (given_itself ys)) in
    let b = given_back (ws ++ ys) (xs ++ zs) xs (given_front xs zs xs (given_itself xs)) in
    let d = given_back (ws ++ ys) (xs ++ zs) zs (given_back xs zs zs (given_itself zs)) in
    given_both all ms ks (given_through all (ws ++ xs) ms (given_both all ws xs a b) h) (given_through all (ys ++ zs) ks (given_both all ys zs c d) k)

-- a test that holds of all holds of these
all_of : (p : Given → Bool) (ys : List Given) (i : ℕ) (g : Given) → list_all p ys ≡ true → slice_get ys i ≡ Some g → p g ≡ true
all_of p [] i g h e = absurd (cc)
all_of p (y ∷ ys) zero g h e = let same : y ≡ g = cc in ap p (sym same) ∙ (and_parts (p y) (list_all p ys) h).0
all_of p (y ∷ ys) (suc i) g h e = all_of p ys i g (and_parts (p y) (list_all p ys) h).1 e

pub all_given : (p : Given → Bool) (ys gs : List Given) → list_all p ys ≡ true → AreGivenIn ys gs → list_all p gs ≡ true
all_given p ys [] h k = refl
all_given p ys (g ∷ gs) h k = λ i. all_of p ys k.0.0 g h k.0.1 i && all_given p ys gs h k.1 i

all_both : (p : Given → Bool) (xs ys : List Given) → list_all p xs ≡ true → list_all p ys ≡ true → list_all p (xs ++ ys) ≡ true
all_both p xs ys h k = list_all-append p xs ys ∙ and_from (list_all p xs) (list_all p ys) h k

-- ---- in the parts
pub record InParts (F X : Nameless → Option Nameless) (t u : Nameless) : Type 0 where
  pub function : Nameless
  pub argument : Nameless
  pub new_function : Nameless
  pub new_argument : Nameless
  pub old : t ≡ app function argument
  pub new : u ≡ app new_function new_argument
  pub in_function : F function ≡ Some new_function
  pub in_argument : X argument ≡ Some new_argument

pub parts_of : (F X : Nameless → Option Nameless) (t u : Nameless) → in_parts F X t ≡ Some u → InParts F X t u
parts_of F X t u e = by (dest_comb t) refl e
  where
    at : (d : Nameless × Nameless) (o p : Option Nameless) → dest_comb t ≡ Some d → F d.0 ≡ o → X d.1 ≡ p → option_and_then (λ g. option_map (λ y. app g y) p) o ≡ Some u → InParts F X t u
    at d None p q f x h = absurd (cc)
    at d (Some g) None q f x h = absurd (cc)
    at d (Some g) (Some y) q f x h =
        let is : app g y ≡ u = cc in
        record { function = d.0; argument = d.1; new_function = g; new_argument = y; old = dest_comb_is t d q; new = sym is; in_function = f; in_argument = x }

    by : (o : Option (Nameless × Nameless)) → dest_comb t ≡ o → option_and_then (λ d. option_and_then (λ g. option_map (λ y. app g y) (X d.1)) (F d.0)) o ≡ Some u → InParts F X t u
    by None q h = absurd (cc)
    by (Some d) q h = at d (F d.0) (X d.1) q refl refl h

pub parts_give : (F X : Nameless → Option Nameless) (f x g y : Nameless) → F f ≡ Some g → X x ≡ Some y → in_parts F X (app f x) ≡ Some (app g y)
parts_give F X f x g y p q = λ i. option_and_then (λ h. option_map (λ z. app h z) (q i)) (p i)

-- ---- in the body
pub record InBody (v : List ℕ × TypeTree) (gs : List Given) (B : Nameless → Option Nameless) (t u : Nameless) : Type 0 where
  pub outside : is_outside v gs ≡ true
  pub body : Nameless
  pub new_body : Nameless
  pub old : opened v t ≡ Some body
  pub new : u ≡ bind v new_body
  pub in_body : B body ≡ Some new_body

pub body_of : (v : List ℕ × TypeTree) (gs : List Given) (B : Nameless → Option Nameless) (t u : Nameless) → in_body v gs B t ≡ Some u → InBody v gs B t u
body_of v gs B t u e = by (is_outside v gs) (opened v t) refl refl e
  where
    at : (n : Nameless) (o : Option Nameless) → is_outside v gs ≡ true → opened v t ≡ Some n → B n ≡ o → option_map (bind v) o ≡ Some u → InBody v gs B t u
    at n None p q r h = absurd (cc)
    at n (Some d) p q r h = let is : bind v d ≡ u = cc in record { outside = p; body = n; new_body = d; old = q; new = sym is; in_body = r }

    by : (b : Bool) (o : Option Nameless) → is_outside v gs ≡ b → opened v t ≡ o → cond b (option_and_then (λ n. option_map (bind v) (B n)) o) None ≡ Some u → InBody v gs B t u
    by false o p q h = absurd (cc)
    by true None p q h = absurd (cc)
    by true (Some n) p q h = at n (B n) p q refl h

pub body_gives : (v : List ℕ × TypeTree) (gs : List Given) (B : Nameless → Option Nameless) (t n d : Nameless) → is_outside v gs ≡ true → opened v t ≡ Some n → B n ≡ Some d → in_body v gs B t ≡ Some (bind v d)
body_gives v gs B t n d p q r = (λ i. cond (p i) (option_and_then (λ m. option_map (bind v) (B m)) (q i)) None) ∙ ap (option_map (bind v)) r

-- a variable that was bound is not free
-- what was bound is opened again
pub opened_again : (v : List ℕ × TypeTree) (n : Nameless) → opened v (bind v n) ≡ Some n
opened_again v n =
    (λ i. cond ((bytes_eq-Decides (base_of v.0) (base_of v.0)).1 refl i && ((type_cmp_decides v.1 v.1).1 refl i && not (close_binds v 0 n i))) (Some (open_with (free v) 0 (close v 0 n))) None)
    ∙ ap (λ m. Some m) (open_close v 0 n)

-- ---- one after the other
same_one : (t u : Nameless) → Some t ≡ Some u → t ≡ u
same_one t u e = cc

pub then_gives : (B : Nameless → Option Nameless) (o : Option Nameless) (w : Nameless) → option_and_then B o ≡ Some w → (u : Nameless) × (o ≡ Some u) × (B u ≡ Some w)
then_gives B None w e = absurd (cc)
then_gives B (Some u) w e = (u, refl, e)

-- ---- how traces are made
pub is_parts : (f x : Box TraceNode Global) (n : TraceNode) → n ≡ Parts f x → IsParts f.value x.value n
is_parts f x n e = record { gives = λ t. ap (λ z. traced z t) e; given = ap used e }

pub is_body : (v : List ℕ × TypeTree) (b : Box TraceNode Global) (n : TraceNode) → n ≡ Body v b → IsBody v b.value n
is_body v b n e = record { gives = λ t. ap (λ z. traced z t) e; given = ap used e }

pub is_rule : (r : SetRule) (b : Box SetRule Global) (n : TraceNode) → n ≡ Rule b → b.value ≡ r → IsRule r n
is_rule r b n e k = record { gives = λ t. ap (λ z. traced z t) e ∙ ap (λ z. contracted [] (set_rule z) t) k; given = ap used e ∙ ap (λ z. set_given z ∷ []) k }

pub is_both : (a b n : TraceNode) → ((t : Nameless) → traced n t ≡ option_and_then (traced b) (traced a t)) → used n ≡ used a ++ used b → IsBoth a b n
is_both a b n h e = record { gives = h; given = e }

-- ---- one after the other
pub after_nothing : (a b n : TraceNode) → a ≡ Same → n ≡ b → IsAfter a b n
after_nothing a b n e f = record {
  gives = λ t u w p q.
      let same : t ≡ u = same_one t u (sym (ap (λ z. traced z t) e) ∙ p) in
      ap (λ z. traced z t) f ∙ ap (traced b) same ∙ q;
  given = subst (λ z. AreGivenIn (used a ++ used b) (used z)) (sym f) (given_back (used a) (used b) (used b) (given_itself (used b)));
}

pub both_after : (a b n : TraceNode) → IsBoth a b n → IsAfter a b n
both_after a b n h = record {
  gives = λ t u w p q. h.gives t ∙ ap (option_and_then (traced b)) p ∙ q;
  given = subst (λ gs. AreGivenIn (used a ++ used b) gs) (sym h.given) (given_itself (used a ++ used b));
}

pub parts_then : (f x g y m k n : TraceNode) → IsParts m k n → IsAfter f g m → IsAfter x y k → IsThen (in_parts (traced f) (traced x)) (in_parts (traced g) (traced y)) ((used f ++ used x) ++ (used g ++ used y)) n
parts_then f x g y m k n h first second = record {
  gives = λ t u w p q.
      let one = parts_of (traced f) (traced x) t u p in
      let two = parts_of (traced g) (traced y) u w q in
      let same : app one.new_function one.new_argument ≡ app two.function two.argument = sym one.new ∙ two.old in
      let left : one.new_function ≡ two.function = cc in
      let right : one.new_argument ≡ two.argument = cc in
      h.gives t ∙ ap (in_parts (traced m) (traced k)) one.old
      ∙ parts_give (traced m) (traced k) one.function one.argument two.new_function two.new_argument
      (first.gives one.function one.new_function two.new_function one.in_function (ap (traced g) left ∙ two.in_function))
      (second.gives one.argument one.new_argument two.new_argument one.in_argument (ap (traced y) right ∙ two.in_argument))
      ∙ ap (λ z. Some z) (sym two.new);
  given = subst (AreGivenIn ((used f ++ used x) ++ (used g ++ used y))) (sym h.given) (given_pair (used f) (used g) (used x) (used y) (used m) (used k) first.given second.given);
}

pub body_then : (v w : List ℕ × TypeTree) (b c m n : TraceNode) → v ≡ w → IsAfter b c m → IsBody v m n → IsThen (in_body v (used b) (traced b)) (in_body w (used c) (traced c)) (used b ++ used c) n
body_then v w b c m n same inner h = record {
  gives = λ t u z p q.
      let one = body_of v (used b) (traced b) t u p in
      let two = body_of v (used c) (traced c) u z (ap (λ x. in_body x (used c) (traced c) u) same ∙ q) in
      let again : Some one.new_body ≡ Some two.body = sym (opened_again v one.new_body) ∙ ap (opened v) (sym one.new) ∙ two.old in
      let outside : is_outside v (used m) ≡ true = all_given (λ g. not (is_free_in (set.items (given_sequent g).hyps) v)) (used b ++ used c) (used m) (all_both (λ g. not (is_free_in (set.items (given_sequent g).hyps) v)) (used b) (used c) one.outside two.outside) inner.given in
      h.gives t
      ∙ body_gives v (used m) (traced m) t one.body two.new_body outside one.old (inner.gives one.body one.new_body two.new_body one.in_body (ap (traced c) (same_one one.new_body two.body again) ∙ two.in_body))
      ∙ ap (λ x. Some x) (sym two.new);
  given = subst (AreGivenIn (used b ++ used c)) (sym h.given) inner.given;
}

pub last_then : (a b last r : TraceNode) (S : Nameless → Option Nameless) (ks : List Given) → IsThen (traced b) S (used b ++ ks) last → IsBoth a last r → IsThen (λ t. option_and_then (traced b) (traced a t)) S ((used a ++ used b) ++ ks) r
last_then a b last r S ks inner h = record {
  gives = λ t u w p q.
      let s = then_gives (traced b) (traced a t) u p in
      h.gives t ∙ ap (option_and_then (traced last)) s.1 ∙ inner.gives s.0 u w s.2 q;
  given =
      let all = (used a ++ used b) ++ ks in
      subst (AreGivenIn all) (sym h.given)
      (given_both all (used a) (used last) (given_front (used a ++ used b) ks (used a) (given_front (used a) (used b) (used a) (given_itself (used a))))
      (given_through all (used b ++ ks) (used last)
      (given_both all (used b) ks (given_front (used a ++ used b) ks (used b) (given_back (used a) (used b) (used b) (given_itself (used b)))) (given_back (used a ++ used b) ks ks (given_itself ks)))
      inner.given));
}

-- ---- what the first one is, and what the second one is
pub first_is : (A C B : Nameless → Option Nameless) (gs hs ks : List Given) (n : TraceNode) → ((t : Nameless) → A t ≡ C t) → gs ≡ hs → IsThen C B (hs ++ ks) n → IsThen A B (gs ++ ks) n
first_is A C B gs hs ks n h e r = record {
  gives = λ t u w p q. r.gives t u w (sym (h t) ∙ p) q;
  given = subst (λ z. AreGivenIn (z ++ ks) (used n)) (sym e) r.given;
}

pub second_is : (A B D : Nameless → Option Nameless) (gs hs ks : List Given) (n : TraceNode) → ((t : Nameless) → B t ≡ D t) → ks ≡ hs → IsThen A D (gs ++ hs) n → IsThen A B (gs ++ ks) n
second_is A B D gs hs ks n h e r = record {
  gives = λ t u w p q. r.gives t u w p (sym (h u) ∙ q);
  given = subst (λ z. AreGivenIn (gs ++ z) (used n)) (sym e) r.given;
}

pub none_then : (S : Nameless → Option Nameless) (ks : List Given) (a n : TraceNode) → a ≡ Same → ((t : Nameless) → traced n t ≡ S t) → used n ≡ ks → IsThen (traced a) S (used a ++ ks) n
none_then S ks a n e h k = record {
  gives = λ t u w p q.
      let same : t ≡ u = same_one t u (sym (ap (λ z. traced z t) e) ∙ p) in
      h t ∙ ap S same ∙ q;
  given = subst (AreGivenIn (used a ++ ks)) (sym k) (given_back (used a) ks ks (given_itself ks));
}

pub then_none : (a b : TraceNode) → b ≡ Same → IsAfter a b a
then_none a b e = record {
  gives = λ t u w p q. p ∙ sym (sym q ∙ ap (λ z. traced z u) e);
  given = given_front (used a) (used b) (used a) (given_itself (used a));
}

-- ---- where the first one is changed in its place
pub in_parts_appended : (f x g y m k a n : TraceNode) → IsParts f x a → IsParts m k n → IsAfter f g m → IsAfter x y k → IsThen (traced a) (in_parts (traced g) (traced y)) (used a ++ (used g ++ used y)) n
in_parts_appended f x g y m k a n p q first second =
    first_is (traced a) (in_parts (traced f) (traced x)) (in_parts (traced g) (traced y)) (used a) (used f ++ used x) (used g ++ used y) n p.gives p.given (parts_then f x g y m k n q first second)

pub in_body_appended : (v w : List ℕ × TypeTree) (b c m a n : TraceNode) → v ≡ w → IsBody v b a → IsBody v m n → IsAfter b c m → IsThen (traced a) (in_body w (used c) (traced c)) (used a ++ used c) n
in_body_appended v w b c m a n same p q inner =
    first_is (traced a) (in_body v (used b) (traced b)) (in_body w (used c) (traced c)) (used a) (used b) (used c) n p.gives p.given (body_then v w b c m n same inner q)

pub in_last_appended : (a b last m n : TraceNode) (S : Nameless → Option Nameless) (ks : List Given) → IsBoth a b m → IsBoth a last n → IsThen (traced b) S (used b ++ ks) last → IsThen (traced m) S (used m ++ ks) n
in_last_appended a b last m n S ks p q inner =
    first_is (traced m) (λ t. option_and_then (traced b) (traced a t)) S (used m) (used a ++ used b) ks n p.gives p.given (last_then a b last n S ks inner q)

-- ---- of calls
pub on_ok : {A E : Type 0} (r : Result A E) (P Q : Type 0) → (P → Q) → OnOk r P → OnOk r Q
on_ok (Ok a) P Q f h = f h
on_ok (Err e) P Q f h = tt

pub on_ok_all : {A E : Type 0} (r : Result A E) (P Q S T : Type 0) → (P → Q → S → T) → OnOk r P → OnOk r Q → OnOk r S → OnOk r T
on_ok_all (Ok a) P Q S T f h k l = f h k l
on_ok_all (Err e) P Q S T f h k l = tt

pub ruleset joining = (after_nothing)

pub ruleset following = (both_after)
