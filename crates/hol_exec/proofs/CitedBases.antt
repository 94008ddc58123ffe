-- What a command reads stands in a theory: its bases lie in the items of that, and so does their union, which is legal.
use Rattle.std.specs.Prelude.{◌≡◌, ◌<◌, ◌≤◌, ◌+◌, ◌/◌, ℕ, Bool, true, false, cond, List, [], ◌∷◌, ◌++◌, length, get_or, Option, Some, None, refl}
use Rattle.std.specs.Map.{keys_of}
use Rattle.std.specs.FinSet as set
use Rattle.std.proofs.Common.{ap, sym, ◌∙◌, subst, inl, inr, arith}
use Rattle.hol_types.specs.Tree.{TypeTree}
use Rattle.hol_kernel.specs.Item.{Item}
use Rattle.hol_kernel.specs.Theorem.{Theorem}
use Rattle.hol_kernel.specs.Items.{Items, no_items, IsSubset}
use Rattle.hol_kernel.specs.Extends.{Agree}
use Rattle.hol_kernel.specs.Legal.{IsLegalSet}
use Rattle.hol_kernel.proofs.SortedSets.{union_none_right}
use Rattle.hol_kernel.proofs.Members.{same_members, in_union_left, in_union_right, in_union_cases}
use Rattle.hol_kernel.proofs.ItemOrder.{total, only}
use Rattle.hol_kernel.proofs.Subsets.{none_within, union_subset}
use Rattle.hol_kernel.proofs.Unions.{union_legal}
use Rattle.hol_stack.proofs.Within.{within_union}
use Rattle.hol_resolve.specs.Readings.{QuotedValue, ReadingsValue}
use Rattle.hol_resolve.specs.ReadingView.{list_value}
use Rattle.hol_resolve.specs.declared.readings.Quoted.{Quoted}
use Rattle.hol_combine.specs.ExprValue.{ExprValue}
use Rattle.hol_theory.specs.Key.{KeyValue, key_eq}
use Rattle.hol_theory.specs.Entry.{EntryValue, AType, AConstant, ATheorem, Entries, IsEntry, entry_at, entry_basis, ATac}
use Rattle.hol_theory.specs.Theory.{items_in, IsTheory}
use Rattle.hol_theory.proofs.Keys.{key_is}
use Rattle.hol_theory.proofs.Theories.{items_agree}
use Rattle.hol_notation_commands.specs.Text.{LocalText}
use Rattle.hol_exec.specs.Filters.{HasNames}
use Rattle.hol_exec.specs.Callee.{value_at}
use Rattle.hol_exec.specs.Keys.{cited_keys, made_keys}
use Rattle.hol_exec.specs.OwnBases.{values_under}
use Rattle.hol_exec.specs.ReadsValue.{Values, ReadsValue, AreKeyed, values_of}
use Rattle.hol_exec.specs.Resolved.{occurs_in, with_value, with_values, resolved_basis}
use Rattle.hol_exec.specs.Valid.{StandIn, AreOfTheory, AreEntries, AreInTheory}
use Rattle.hol_theory.proofs.Standing.{entry_within, entry_is}

-- ---- what is read

pub values_stand : (es : Entries) (keys : List KeyValue) → StandIn es (values_of es keys)
values_stand es [] = tt
values_stand es (key ∷ keys) = (refl, values_stand es keys)

values_keys : (es : Entries) (keys : List KeyValue) → keys_of (values_of es keys) ≡ keys
values_keys es [] = refl
values_keys es (key ∷ keys) = ap (λ (ks : List KeyValue). key ∷ ks) (values_keys es keys)

-- the keys of the values are those that were asked for
pub keyed : (es : Entries) (command : LocalText) (cited made : List KeyValue) (r : ReadsValue) → cited ≡ cited_keys command → made ≡ made_keys command → r.cited ≡ values_of es cited → r.made ≡ values_of es made →
    AreKeyed command r
keyed es command cited made r e f g h = record {
  cited = ap keys_of g ∙ values_keys es cited ∙ e;
  made = ap keys_of h ∙ values_keys es made ∙ f;
}

pub reads_stand : (es : Entries) (cited_keys made_keys : List KeyValue) (cited made : Values) → cited ≡ values_of es cited_keys → made ≡ values_of es made_keys → IsTheory es → AreOfTheory cited made
reads_stand es cited_keys made_keys cited made e f t = record {
  entries = es;
  theory = t;
  cited_stand = subst (StandIn es) (sym e) (values_stand es cited_keys);
  made_stand = subst (StandIn es) (sym f) (values_stand es made_keys);
}

-- a filter that has the names of the keys has those of the values
pub names_stand : (es : Entries) (keys : List KeyValue) (values : Values) (n : ℕ) → values ≡ values_of es keys → HasNames n keys → HasNames n (keys_of values)
names_stand es keys values n e h = subst (HasNames n) (sym (ap keys_of e ∙ values_keys es keys)) h

-- what stands under keys is entries, where there is some
standing_entries : (es : Entries) (cited : Values) → StandIn es cited → AreEntries es cited
standing_entries es [] h = tt
standing_entries es ((key, None) ∷ more) h = standing_entries es more h.1
standing_entries es ((key, Some value) ∷ more) h = (sym h.0, standing_entries es more h.1)

pub of_theory : (cited made own : Values) → own ≡ cited → AreOfTheory cited made → AreInTheory own
of_theory cited made own e h = record {
  entries = h.entries;
  theory = h.theory;
  stand = subst (AreEntries h.entries) (sym e) (standing_entries h.entries cited h.cited_stand);
}

-- ---- bases

-- the basis of what is resolved with one quotation
pub quotation_basis : (cited : Values) (own : Items) (passed readings : List (ℕ × Quoted)) (place : ℕ) (q r : QuotedValue) → own ≡ resolved_basis cited (list_value passed) → passed ≡ readings → list_value readings ≡ (place, q) ∷ [] → q ≡ r →
    own ≡ resolved_basis cited ((place, r) ∷ [])
quotation_basis cited own passed readings place q r e same is f = e ∙ ap (λ (l : List (ℕ × Quoted)). resolved_basis cited (list_value l)) same ∙ ap (resolved_basis cited) (is ∙ ap (λ (x : QuotedValue). (place, x) ∷ []) f)

module _ (es : Entries) (t : IsTheory es) (readings : ReadingsValue) where
  legal_of : (v : EntryValue) (key : KeyValue) → IsEntry key v → IsLegalSet (entry_basis v)
  legal_of (AType arity item basis) key h = h.legal
  legal_of (AConstant ty item basis) key h = h.legal
  legal_of (ATheorem th) key h = h.theorem.legal
  legal_of (ATac e bases basis) key h = h.legal

  abbrev Fine : Items → Type 0
  Fine items = IsSubset items (items_in es) × IsLegalSet items

  join_fine : (items basis : Items) → Fine items → Fine basis → Fine (set.union items basis)
  join_fine items basis h k = (
    union_subset items basis (items_in es) h.0 k.0,
    union_legal items basis h.1 k.1 (items_agree es items basis t h.0 k.0),
  )

  value_fine : (items : Items) (key : KeyValue) (v : EntryValue) → entry_at key es ≡ Some v → Fine items → Fine (with_value readings items key (Some v))
  value_fine items key (AType arity item basis) e h =
      join_fine items basis h (entry_within es key (AType arity item basis) t e, legal_of (AType arity item basis) key (entry_is es key (AType arity item basis) t e))
  value_fine items key (AConstant ty item basis) e h = by (occurs_in key.name readings)
    where
      by : (b : Bool) → Fine (cond b (set.union items basis) items)
      by true = join_fine items basis h (entry_within es key (AConstant ty item basis) t e, legal_of (AConstant ty item basis) key (entry_is es key (AConstant ty item basis) t e))
      by false = h
  value_fine items key (ATheorem th) e h =
      join_fine items th.basis h (entry_within es key (ATheorem th) t e, legal_of (ATheorem th) key (entry_is es key (ATheorem th) t e))
  value_fine items key (ATac x bases basis) e h =
      join_fine items basis h (entry_within es key (ATac x bases basis) t e, legal_of (ATac x bases basis) key (entry_is es key (ATac x bases basis) t e))

  values_fine : (cited : Values) (items : Items) → AreEntries es cited → Fine items → Fine (with_values readings items cited)
  values_fine [] items h k = k
  values_fine ((key, None) ∷ more) items h k = values_fine more items h k
  values_fine ((key, Some value) ∷ more) items h k = values_fine more (with_value readings items key (Some value)) h.1 (value_fine items key value h.0 k)

  none_fine : Fine no_items
  none_fine = (none_within no_items (items_in es) refl, ([], tt, refl))

  joined_fine : (cited : Values) → AreEntries es cited → Fine (resolved_basis cited readings)
  joined_fine cited h = values_fine cited no_items h none_fine

  pub resolved_fine : (cited : Values) → StandIn es cited → Fine (resolved_basis cited readings)
  resolved_fine cited h = joined_fine cited (standing_entries es cited h)

-- ---- by halves

grouped : (a b c : Items) → set.union (set.union a b) c ≡ set.union a (set.union b c)
grouped a b c =
    same_members total only _ _
    (λ q h. elim (in_union_cases total only (set.union a b) c q h) [
      | inl i ↦ elim (in_union_cases total only a b q i) [
        | inl j ↦ in_union_left total only a (set.union b c) q j
        | inr j ↦ in_union_right total only a (set.union b c) q (in_union_left total only b c q j)
      ]
      | inr i ↦ in_union_right total only a (set.union b c) q (in_union_right total only b c q i)
    ])
    (λ q h. elim (in_union_cases total only a (set.union b c) q h) [
      | inl i ↦ in_union_left total only (set.union a b) c q (in_union_left total only a b q i)
      | inr i ↦ elim (in_union_cases total only b c q i) [
        | inl j ↦ in_union_left total only (set.union a b) c q (in_union_right total only a b q j)
        | inr j ↦ in_union_right total only (set.union a b) c q j
      ]
    ])

none_more : (a : Items) → a ≡ set.union a no_items
none_more a = sym (union_none_right total only a)

pub none_joined : (a : Items) → set.union no_items a ≡ a
none_joined a = within_union no_items a (none_within no_items a refl)

module _ (readings : ReadingsValue) where
  value_joined : (items : Items) (key : KeyValue) (o : Option EntryValue) → with_value readings items key o ≡ set.union items (with_value readings no_items key o)
  value_joined items key None = none_more items
  value_joined items key (Some (AType arity item basis)) = ap (set.union items) (sym (none_joined basis))
  value_joined items key (Some (AConstant ty item basis)) = by (occurs_in key.name readings)
    where
      by : (b : Bool) → cond b (set.union items basis) items ≡ set.union items (cond b (set.union no_items basis) no_items)
      by true = ap (set.union items) (sym (none_joined basis))
      by false = none_more items
  value_joined items key (Some (ATheorem th)) = ap (set.union items) (sym (none_joined th.basis))
  value_joined items key (Some (ATac e bases basis)) = ap (set.union items) (sym (none_joined basis))

  values_joined : (items : Items) (values : Values) → with_values readings items values ≡ set.union items (with_values readings no_items values)
  values_joined items [] = none_more items
  values_joined items ((key, value) ∷ more) =
      let here = with_value readings no_items key value in
      values_joined (with_value readings items key value) more
      ∙ ap (λ (s : Items). set.union s (with_values readings no_items more)) (value_joined items key value)
      ∙ grouped items here (with_values readings no_items more)
      ∙ ap (set.union items) (sym (values_joined here more))

  one_after_the_other : (items : Items) (front back : Values) → with_values readings items (front ++ back) ≡ with_values readings (with_values readings items front) back
  one_after_the_other items [] back = refl
  one_after_the_other items ((key, value) ∷ more) back = one_after_the_other (with_value readings items key value) more back

  -- what is resolved of two lists, one after the other, is the union
  pub halves_joined : (cited front back : Values) → cited ≡ front ++ back → resolved_basis cited readings ≡ set.union (resolved_basis front readings) (resolved_basis back readings)
  halves_joined cited front back e =
      ap (with_values readings no_items) e ∙ one_after_the_other no_items front back ∙ values_joined (with_values readings no_items front) back

  pub of_one : (cited : Values) (x : KeyValue × Option EntryValue) → 1 ≤ length cited → length cited < 2 → x ≡ get_or cited 0 x → resolved_basis cited readings ≡ with_value readings no_items x.0 x.1
  of_one [] x low high is = absurd (omega (arith, low))
  of_one (y ∷ []) x low high is = ap (λ (z : KeyValue × Option EntryValue). with_value readings no_items z.0 z.1) (sym is)
  of_one (y ∷ z ∷ more) x low high is = absurd (omega (arith, high))

  pub of_none : (cited : Values) → cited ≡ [] → resolved_basis cited readings ≡ no_items
  of_none cited e = ap (with_values readings no_items) e

  -- one value alone: its basis, if it is resolved
  pub adds_type : (key : KeyValue) (o : Option EntryValue) (v : EntryValue) (arity : ℕ) (item : Item) (own basis : Items)
      → o ≡ Some v → v ≡ AType arity item own → basis ≡ own → basis ≡ with_value readings no_items key o
  adds_type key o v arity item own basis there is e = e ∙ sym (none_joined own) ∙ sym (ap (with_value readings no_items key) (there ∙ ap Some is))

  pub adds_constant : (key : KeyValue) (o : Option EntryValue) (v : EntryValue) (ty : TypeTree) (item : Item) (own basis : Items)
      → o ≡ Some v → v ≡ AConstant ty item own → occurs_in key.name readings ≡ true → basis ≡ own → basis ≡ with_value readings no_items key o
  adds_constant key o v ty item own basis there is occurs e =
      e ∙ sym (none_joined own) ∙ sym (ap (λ b. cond b (set.union no_items own) no_items) occurs) ∙ sym (ap (with_value readings no_items key) (there ∙ ap Some is))

  pub adds_theorem : (key : KeyValue) (o : Option EntryValue) (v : EntryValue) (th : Theorem) (own basis : Items)
      → o ≡ Some v → v ≡ ATheorem th → own ≡ th.basis → basis ≡ own → basis ≡ with_value readings no_items key o
  adds_theorem key o v th own basis there is same e =
      e ∙ same ∙ sym (none_joined th.basis) ∙ sym (ap (with_value readings no_items key) (there ∙ ap Some is))

  pub adds_tac : (key : KeyValue) (o : Option EntryValue) (v : EntryValue) (x : ExprValue) (bases : List Items) (own basis : Items)
      → o ≡ Some v → v ≡ ATac x bases own → basis ≡ own → basis ≡ with_value readings no_items key o
  adds_tac key o v x bases own basis there is e = e ∙ sym (none_joined own) ∙ sym (ap (with_value readings no_items key) (there ∙ ap Some is))

front_stands : (es : Entries) (front back : Values) → AreEntries es (front ++ back) → AreEntries es front
front_stands es [] back h = tt
front_stands es ((key, None) ∷ more) back h = front_stands es more back h
front_stands es ((key, Some value) ∷ more) back h = (h.0, front_stands es more back h.1)

back_stands : (es : Entries) (front back : Values) → AreEntries es (front ++ back) → AreEntries es back
back_stands es [] back h = h
back_stands es ((key, None) ∷ more) back h = back_stands es more back h
back_stands es ((key, Some value) ∷ more) back h = back_stands es more back h.1

-- what comes first, and what comes after it, is of the theory that all is of
pub front_in_theory : (cited front back : Values) → cited ≡ front ++ back → AreInTheory cited → AreInTheory front
front_in_theory cited front back e h = record {
  entries = h.entries;
  theory = h.theory;
  stand = front_stands h.entries front back (subst (AreEntries h.entries) e h.stand);
}

pub back_in_theory : (cited front back : Values) → cited ≡ front ++ back → AreInTheory cited → AreInTheory back
back_in_theory cited front back e h = record {
  entries = h.entries;
  theory = h.theory;
  stand = back_stands h.entries front back (subst (AreEntries h.entries) e h.stand);
}

pub half_smaller : (n m : ℕ) → 2 ≤ n → m ≡ n / 2 → m < n
half_smaller n m two e = omega (arith, two, e)

pub rest_smaller : (n m : ℕ) → 2 ≤ n → m + n / 2 ≡ n → m < n
rest_smaller n m two e = omega (arith, two, e)

-- bases of what is cited in one theory agree
pub halves_agree : (cited front back : Values) (readings : ReadingsValue) → cited ≡ front ++ back → AreInTheory cited → Agree (resolved_basis front readings) (resolved_basis back readings)
halves_agree cited front back readings e h =
    let es = h.entries in
    let stand = subst (AreEntries es) e h.stand in
    items_agree es (resolved_basis front readings) (resolved_basis back readings) h.theory
    (joined_fine es h.theory readings front (front_stands es front back stand)).0
    (joined_fine es h.theory readings back (back_stands es front back stand)).0

-- ---- some of what is cited

found_stands : (es : Entries) (key : KeyValue) (cited : Values) (v : EntryValue) → StandIn es cited → value_at key cited ≡ Some v → entry_at key es ≡ Some v
found_stands es key [] v h e = absurd (cc)
found_stands es key ((k, value) ∷ more) v h e = by (key_eq key k) refl e (found_stands es key more v h.1)
  where
    by : (b : Bool) → key_eq key k ≡ b → cond b value (value_at key more) ≡ Some v → (value_at key more ≡ Some v → entry_at key es ≡ Some v) → entry_at key es ≡ Some v
    by true is f later = ap (λ (x : KeyValue). entry_at x es) (key_is key k is) ∙ sym h.0 ∙ f
    by false is f later = later f

under_entries : (es : Entries) (cited : Values) (keys : List KeyValue) → StandIn es cited → AreEntries es (values_under cited keys)
under_entries es cited [] h = tt
under_entries es cited (key ∷ keys) h = by (value_at key cited) refl (under_entries es cited keys h)
  where
    by : (o : Option EntryValue) → value_at key cited ≡ o → AreEntries es (values_under cited keys) → AreEntries es ((key, o) ∷ values_under cited keys)
    by None e rest = rest
    by (Some v) e rest = (found_stands es key cited v h e, rest)

-- what stands under some keys where they are cited
pub under_in_theory : (cited made own : Values) (keys : List KeyValue) → own ≡ values_under cited keys → AreOfTheory cited made → AreInTheory own
under_in_theory cited made own keys e h = record {
  entries = h.entries;
  theory = h.theory;
  stand = subst (AreEntries h.entries) (sym e) (under_entries h.entries cited keys h.cited_stand);
}
