-- The union of two legal sets whose items agree is a legal set.
use Rattle.std.specs.Prelude.{◌≡◌, true, false, List, [], ◌∷◌, refl}
use Rattle.std.proofs.Common.{ap, sym, ◌∙◌, inl, inr, subst}
use Rattle.std.specs.FinSet as set
use Rattle.hol_kernel.specs.Item.{Item}
use Rattle.hol_kernel.specs.Items.{Items, Holds, item_set}
use Rattle.hol_kernel.specs.Signature.{ItemKey, has_key}
use Rattle.hol_kernel.specs.Legal.{HasNewKeys, IsSound, IsLegal, IsLegalSet}
use Rattle.hol_kernel.specs.Extends.{Agree}
use Rattle.hol_kernel.proofs.Weaken.{sound_more}
use Rattle.hol_kernel.proofs.SortedSets.{union_none_right}
use Rattle.hol_kernel.proofs.Members.{in_insert_here, in_insert_old, in_insert_cases, in_union_left, in_union_right, in_union_cases, same_members, in_or_out, union_insert}
use Rattle.hol_kernel.proofs.ItemOrder.{total, only}

-- an item that is there already adds nothing
union_old : (a b : Items) (x : Item) → Holds a x → set.union a b ≡ set.union a (set.insert b x)
union_old a b x there =
    same_members total only _ _
    (λ q h. elim (in_union_cases total only a b q h) [
      | inl i ↦ in_union_left total only a _ q i
      | inr i ↦ in_union_right total only a _ q (in_insert_old total only b x q i)
    ])
    (λ q h. elim (in_union_cases total only a (set.insert b x) q h) [
      | inl i ↦ in_union_left total only a b q i
      | inr i ↦ elim (in_insert_cases total only b x q i) [
        | inl e ↦ in_union_left total only a b q (subst (λ (z : Item). Holds a z) (sym e) there)
        | inr j ↦ in_union_right total only a b q j
      ]
    ])

not_has : (x : Item) (k : ItemKey) → (has_key x k ≡ true → ⊥) → has_key x k ≡ false
not_has x k n = elim (has_key x k) as (λ b. (b ≡ true → ⊥) → b ≡ false) [ true ↦ λ f. absurd (f refl) | false ↦ λ f. refl ] n

-- the first order, and then each item of the second that is not in it, in the second order
joined :
    (a : Items) (first : List Item) → IsLegal first → item_set first ≡ a →
    (second : List Item) → IsLegal second → Agree a (item_set second) →
    (order : List Item) × IsLegal order × (item_set order ≡ set.union a (item_set second))
joined a first legal is [] _ agree = (first, legal, is ∙ sym (union_none_right total only a))
joined a first legal is (x ∷ earlier) ok agree =
    let b : Items = item_set earlier in
    let rest = joined a first legal is earlier ok.2 (λ y z k i j. agree y z k i (in_insert_old total only b x z j)) in
    elim (in_or_out total only a x) [
      | inl there ↦ (rest.0, rest.1, rest.2 ∙ union_old a b x there)
      | inr new ↦ (
        x ∷ rest.0,
        (
          λ k has. (
            (ok.0 k has).0,
            λ y among. elim (in_union_cases total only a b y (subst (λ (s : Items). Holds s y) rest.2 among)) [
              | inl i ↦ not_has y k (λ also. new (subst (λ (z : Item). Holds a z) (agree y x k i (in_insert_here total only b x) also has) i))
              | inr i ↦ (ok.0 k has).1 y i
            ],
          ),
          sound_more b (item_set rest.0) (λ y i. subst (λ (s : Items). Holds s y) (sym rest.2) (in_union_right total only a b y i)) x ok.1,
          rest.1,
        ),
        ap (λ (s : Items). set.insert s x) rest.2 ∙ sym (union_insert total only a b x),
      )
    ]

-- the union of two legal sets whose items agree wherever they share a name is a legal set
pub union_legal : (a b : Items) → IsLegalSet a → IsLegalSet b → Agree a b → IsLegalSet (set.union a b)
union_legal a b p q agree =
    let r = joined a p.0 p.1 p.2 q.0 q.1 (λ x y k i j. agree x y k i (subst (λ (s : Items). Holds s y) q.2 j)) in
    (r.0, r.1, r.2 ∙ ap (set.union a) q.2)

-- one item more
pub insert_legal : (s : Items) (x : Item) → IsLegalSet s → HasNewKeys s x → IsSound s x → IsLegalSet (set.insert s x)
insert_legal s x p new sound = (
  x ∷ p.0,
  (subst (λ (t : Items). HasNewKeys t x) (sym p.2) new, subst (λ (t : Items). IsSound t x) (sym p.2) sound, p.1),
  ap (λ (t : Items). set.insert t x) p.2,
)
