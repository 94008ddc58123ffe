-- What a command defines is not refused: its names are new, what it defines is well typed and closed, and its type variables are reflected.
use Rattle.std.specs.Prelude.{◌≡◌, ◌≢◌, ◌⊎◌, ◌||◌, ◌&&◌, ℕ, Bool, true, false, cond, not, List, [], ◌∷◌, ◌++◌, map, bytes_eq, is_some, Some, None, refl}
use Rattle.std.specs.declared.cmp.Ordering.{Ordering}
use Rattle.std.specs.declared.cmp.Ordering.TheVariants.{Less, Equal, Greater}
use Rattle.std.specs.List.{IsDistinct, list_any, find, AllByRecursion}
use Rattle.std.specs.Map.{keys_of}
use Rattle.std.specs.FinSet as set
use Rattle.std.specs.Option.{option_and_then}
use Rattle.std.proofs.Common.{ap, sym, ◌∙◌, subst, inl, inr}
use Rattle.std.proofs.lemmas.Bool.{and_parts, and_from, or_parts}
use Rattle.std.proofs.lemmas.Slice.Eq.{bytes_eq-Decides}
use Rattle.hol_theory.proofs.Entries.{other_way}
use Rattle.hol_types.specs.Tree.{TypeTree}
use Rattle.hol_types.specs.Fun.{fun_type}
use Rattle.hol_types.specs.Names.{tyvars, insert_name, insert_names, placed_name, is_among}
use Rattle.hol_types.specs.Order.{name_cmp}
use Rattle.hol_terms.specs.Named.{Named, named_type}
use Rattle.hol_terms.specs.Nameless.{Nameless, free, bound, fixed, app, lam, nameless, nameless_type, free_occurrences}
use Rattle.hol_terms.specs.Scoped.{binds, add_all}
use Rattle.hol_terms.proofs.Typing.{type_outside}
use Rattle.hol_formulas.specs.Equation.{bool_type, equation}
use Rattle.hol_kernel.specs.Bijections.{abs_rep, rep_abs}
use Rattle.hol_kernel.specs.Defining.{has_none, is_closed, are_among, is_definable}
use Rattle.hol_kernel.specs.Derivation.{Derives}
use Rattle.hol_kernel.specs.Extends.{IsDefine, IsTypeDefine}
use Rattle.hol_kernel.specs.Item.{Item, defined_constant, defined_type}
use Rattle.hol_kernel.specs.Items.{Items, IsSubset}
use Rattle.hol_kernel.specs.Legal.{IsNew}
use Rattle.hol_kernel.specs.Sequent.{no_hyps}
use Rattle.hol_kernel.specs.Signature.{term_tyvars, new_type}
use Rattle.hol_kernel.specs.Signature as item
use Rattle.hol_kernel.specs.Theorem.{Theorem, theorem_over}
use Rattle.hol_kernel.specs.Typing.{is_known, is_typed, HasType}
use Rattle.hol_kernel.proofs.Declared.{is_new_of}
use Rattle.hol_kernel.proofs.Definable.{definable_of, definition_new}
use Rattle.hol_kernel.proofs.Members.{Among}
use Rattle.hol_kernel.proofs.Subsets.{within_itself}
use Rattle.hol_kernel.proofs.TypeDefinitions.{type_defined}
use Rattle.hol_kernel.proofs.Variables.{typed_known}
use Rattle.hol_equal.specs.Applied.{rand}
use Rattle.hol_notation_commands.specs.Text.{TypeDefinitionText, NewBasicTypeDefinition}
use Rattle.hol_theory.specs.Key.{KeyValue, key_eq, type_key, constant_key, theorem_key}
use Rattle.hol_theory.specs.Theory.{items_in}
use Rattle.hol_theory.proofs.Keys.{key_itself}
use Rattle.hol_exec.specs.Keys.{made_by_making}
use Rattle.hol_exec.specs.ReadsValue.{Values}
use Rattle.hol_exec.specs.Standing.{is_standing, first_taken}
use Rattle.hol_exec.specs.Defining.{first_name, first_free, unreflected_at, first_unreflected}
use Rattle.hol_exec.specs.Valid.{AreOfTheory, AreNewNames}
use Rattle.hol_exec.proofs.NewNames.{free_keys, new_over, untaken}

-- ---- closed terms, and type variables

placed_some : (o : Ordering) (a b : List ℕ) (after inserted : List (List ℕ)) → first_name (placed_name o a b after inserted) ≡ None → ⊥
placed_some Less a b after inserted e = absurd (cc)
placed_some Equal a b after inserted e = absurd (cc)
placed_some Greater a b after inserted e = absurd (cc)

inserted_some : (a : List ℕ) (names : List (List ℕ)) → first_name (insert_name a names) ≡ None → ⊥
inserted_some a [] e = absurd (cc)
inserted_some a (b ∷ names) e = placed_some (name_cmp a b) a b names (insert_name a names) e

all_inserted : (names more : List (List ℕ)) → (first_name names ≡ None → ⊥) → first_name (insert_names names more) ≡ None → ⊥
all_inserted names [] some e = some e
all_inserted names (a ∷ more) some e = all_inserted (insert_name a names) more (inserted_some a names) e

one_more : (v : List ℕ × TypeTree) (vs ws : List (List ℕ × TypeTree)) → add_all (v ∷ vs) ws ≡ [] → ⊥
one_more v vs [] e = absurd (cc)
one_more v vs (w ∷ ws) e = by (binds (v ∷ vs) w) e (one_more v vs ws) (one_more v (vs ++ w ∷ []) ws)
  where
    by : (b : Bool) → add_all (cond b (v ∷ vs) (v ∷ (vs ++ w ∷ []))) ws ≡ [] → (add_all (v ∷ vs) ws ≡ [] → ⊥) → (add_all (v ∷ (vs ++ w ∷ [])) ws ≡ [] → ⊥) → ⊥
    by true f old more = old f
    by false f old more = more f

none_added : (vs : List (List ℕ × TypeTree)) → add_all [] vs ≡ [] → vs ≡ []
none_added [] e = refl
none_added (v ∷ vs) e = absurd (one_more v [] vs e)

none_free : (vs : List (List ℕ × TypeTree)) → first_name (insert_names [] (map (λ v. v.0) vs)) ≡ None → vs ≡ []
none_free [] e = refl
none_free (v ∷ vs) e = absurd (all_inserted (insert_name v.0 []) (map (λ w. w.0) vs) (inserted_some v.0 []) e)

pub closed_of : (r : Nameless) → first_free r ≡ None → is_closed r ≡ true
closed_of r e = ap has_none (none_added (free_occurrences r) (none_free (add_all [] (free_occurrences r)) e))

all_among : (own names : List (List ℕ)) → find (λ n. not (is_among own n)) names ≡ None → are_among own names ≡ true
all_among own [] e = refl
all_among own (n ∷ names) e = by (is_among own n) refl e (all_among own names)
  where
    by : (b : Bool) → is_among own n ≡ b → cond (not b) (Some n) (find (λ m. not (is_among own m)) names) ≡ None → (find (λ m. not (is_among own m)) names ≡ None → are_among own names ≡ true) →
        (is_among own n && are_among own names) ≡ true
    by true f g rest = λ i. f i && rest g i
    by false f g rest = absurd (cc)

-- ---- the right side of an equation

known_right : (items : Items) (p : Nameless) → is_known items p ≡ true → is_known items (rand p) ≡ true
known_right items (free v) k = k
known_right items (bound i) k = k
known_right items (fixed c s) k = k
known_right items (app f x) k = (and_parts (is_known items f) (is_known items x) k).1
known_right items (lam a s b) k = k

-- what may define a constant
pub can_define : (cited made : Values) (h : AreOfTheory cited made) (basis : Items) (name c : List ℕ) (p : Nameless) (r : Named) (a : TypeTree) → IsSubset basis (items_in h.entries) →
    keys_of made ≡ theorem_key name ∷ constant_key c ∷ [] → first_taken [] made ≡ None → is_known basis p ≡ true → nameless [] r ≡ rand p → named_type r ≡ Some a →
    first_free (nameless [] r) ≡ None → first_unreflected (nameless [] r) ≡ None → (larger : Items) × ((th : Theorem) × IsDefine basis c (nameless [] r) larger th)
can_define cited made h basis name c p r a within keys none known right has closed reflected =
    let n : Nameless = nameless [] r in
    let x : Item = defined_constant c n in
    let outside : nameless_type [] n ≡ Some a = type_outside r ∙ has in
    let typed : HasType basis n a = typed_known basis n a (ap (is_known basis) right ∙ known_right basis p known) outside in
    let variables : unreflected_at n a ≡ None = ap (option_and_then (unreflected_at n)) (sym outside) ∙ reflected in
    let test : is_definable basis n a ≡ true = and_from (is_typed basis n) (is_closed n && are_among (tyvars a) (term_tyvars n)) (ap is_some typed)
    (and_from (is_closed n) (are_among (tyvars a) (term_tyvars n)) (closed_of n closed) (all_among (tyvars a) (term_tyvars n) variables)) in
    let new : IsNew basis (item.constant_key c) = new_over h.entries basis (item.constant_key c) h.theory within
    (free_keys cited made h (theorem_key name ∷ constant_key c ∷ []) keys none (constant_key c) (inr (inl refl))) in (
      set.insert basis x,
      (
        theorem_over (set.insert basis x) no_hyps (equation a (fixed c a) n),
        record { of_type = a; new = definition_new basis c n (is_new_of basis (item.constant_key c) new); definable = definable_of basis r a has test; larger = refl; gives = refl },
      ),
    )

-- ---- keys that differ

any_false : (k : KeyValue) (before : List KeyValue) (q : KeyValue) → Among k before → list_any (key_eq q) before ≡ false → key_eq q k ≡ false
any_false k [] q i e = absurd i
any_false k (b ∷ before) q i e = by (key_eq q b) refl e i (any_false k before q)
  where
    by : (t : Bool) → key_eq q b ≡ t → (t || list_any (key_eq q) before) ≡ false → (k ≡ b) ⊎ Among k before → (Among k before → list_any (key_eq q) before ≡ false → key_eq q k ≡ false) → key_eq q k ≡ false
    by true f g j rest = absurd (cc)
    by false f g (inl is) rest = ap (key_eq q) is ∙ f
    by false f g (inr j) rest = rest j g

among_left : (k : KeyValue) (xs ys : List KeyValue) → Among k xs → Among k (xs ++ ys)
among_left k [] ys i = absurd i
among_left k (x ∷ xs) ys (inl is) = inl is
among_left k (x ∷ xs) ys (inr i) = inr (among_left k xs ys i)

among_last : (k : KeyValue) (xs : List KeyValue) → Among k (xs ++ k ∷ [])
among_last k [] = inl refl
among_last k (x ∷ xs) = inr (among_last k xs)

none_like : (k : KeyValue) (before : List KeyValue) (made : Values) → Among k before → first_taken before made ≡ None → AllByRecursion (λ y. key_eq k y ≡ false) (keys_of made)
none_like k before [] i e = tt
none_like k before ((q, o) ∷ made) i e =
    let first = untaken (is_standing q o || list_any (key_eq q) before) q (first_taken (before ++ q ∷ []) made) e in (
      other_way q k (any_false k before q i (or_parts (is_standing q o) (list_any (key_eq q) before) first.0).1),
      none_like k (before ++ q ∷ []) made (among_left k before (q ∷ []) i) first.1,
    )

pub keys_differ : (before : List KeyValue) (made : Values) → first_taken before made ≡ None → IsDistinct key_eq (keys_of made)
unfolding IsDistinct
keys_differ before [] e = tt
keys_differ before ((q, o) ∷ made) e =
    let first = untaken (is_standing q o || list_any (key_eq q) before) q (first_taken (before ++ q ∷ []) made) e in
    (none_like q (before ++ q ∷ []) made (among_last q before) first.1, keys_differ (before ++ q ∷ []) made first.1)

-- ---- definitions of types

pub new_type_names : (cited made : Values) (h : AreOfTheory cited made) (basis : Items) (d : TypeDefinitionText) → IsSubset basis (items_in h.entries) → keys_of made ≡ made_by_making (NewBasicTypeDefinition d) →
    first_taken [] made ≡ None → AreNewNames basis d
new_type_names cited made h basis d within keys none =
    let own = free_keys cited made h (made_by_making (NewBasicTypeDefinition d)) keys none in
    record {
      type = new_over h.entries basis (item.type_key d.ty) h.theory within (own (type_key d.ty) (inl refl));
      abs = new_over h.entries basis (item.constant_key d.abs) h.theory within (own (constant_key d.abs) (inr (inl refl)));
      rep = new_over h.entries basis (item.constant_key d.rep) h.theory within (own (constant_key d.rep) (inr (inr (inl refl))));
      distinct = subst (IsDistinct key_eq) keys (keys_differ [] made none);
    }

constants_differ : (d : TypeDefinitionText) → IsDistinct key_eq (made_by_making (NewBasicTypeDefinition d)) → d.abs ≢ d.rep
unfolding IsDistinct
constants_differ d h e =
    let wrong : true ≡ false = sym (key_itself (constant_key d.abs)) ∙ ap (λ (n : List ℕ). key_eq (constant_key d.abs) (constant_key n)) e ∙ h.1.0.0 in
    absurd (cc)

not_of : (a b : List ℕ) → a ≢ b → not (bytes_eq a b) ≡ true
not_of a b n = by (bytes_eq a b) refl
  where
    by : (t : Bool) → bytes_eq a b ≡ t → not t ≡ true
    by true e = absurd (n ((bytes_eq-Decides a b).0 e))
    by false e = refl

pub can_define_type : (member : Theorem) (d : TypeDefinitionText) (p : Named) (x : Nameless) (s : TypeTree) → AreNewNames member.basis d → Derives member.basis member.sequent.hyps member.sequent.concl →
    member.sequent.hyps ≡ no_hyps → member.sequent.concl ≡ app (nameless [] p) x → named_type p ≡ Some (fun_type s bool_type) → first_free (nameless [] p) ≡ None →
    (larger : Items) × ((first : Theorem) × ((last : Theorem) × IsTypeDefine member.basis d.ty d.abs d.rep member larger first last))
can_define_type member d p x s new derives none is has closed =
    let n : Nameless = nameless [] p in
    let larger : Items = set.insert member.basis (defined_type d.ty d.abs d.rep n) in
    let made : TypeTree = new_type d.ty (term_tyvars n) in
    let one : Theorem = theorem_over larger no_hyps (abs_rep d.abs d.rep s made) in
    let two : Theorem = theorem_over larger no_hyps (rep_abs d.abs d.rep n s made) in
    let apart : d.abs ≢ d.rep = constants_differ d new.distinct in
    let names = and_from _ _ (is_new_of member.basis (item.type_key d.ty) new.type)
    (and_from _ _ (is_new_of member.basis (item.constant_key d.abs) new.abs) (and_from _ _ (is_new_of member.basis (item.constant_key d.rep) new.rep) (not_of d.abs d.rep apart))) in
    (larger, (one, (two, type_defined member.basis d.ty d.abs d.rep member (within_itself member.basis) derives p x s (none, is) has larger one two names (closed_of n closed) refl refl refl)))
