-- Names that are tested one after the other, and names of constants that agree on them.
use Rattle.std.specs.Prelude.{◌≡◌, ℕ, List, [], ◌∷◌, ◌++◌}
use Rattle.std.proofs.Common.{ap, sym, ◌∙◌, subst}
use Rattle.std.proofs.lemmas.List.{append-nil, append_assoc}
use Rattle.hol_goal.specs.Names.{AgreeOn}

-- the second list begins with the first
abbrev pub Extends : List (List ℕ) → List (List ℕ) → Type 0
Extends before after = (more : List (List ℕ)) × (after ≡ before ++ more)

pub extends_itself : (tested : List (List ℕ)) → Extends tested tested
extends_itself tested = ([], sym (append-nil tested))

pub extends_by : (tested more : List (List ℕ)) → Extends tested (tested ++ more)
extends_by tested more = (more, λ i. tested ++ more)

pub extends_both : (a b c : List (List ℕ)) → Extends a b → Extends b c → Extends a c
extends_both a b c h k = (h.0 ++ k.0, k.1 ∙ ap (λ (t : List (List ℕ)). t ++ k.0) h.1 ∙ append_assoc a h.0 k.0)

module _ (names more : List (List ℕ)) where
  pub agree_front : (tested rest : List (List ℕ)) → AgreeOn names more (tested ++ rest) → AgreeOn names more tested
  agree_front [] rest h = tt
  agree_front (a ∷ tested) rest h = (h.0, agree_front tested rest h.1)

  pub agree_back : (tested rest : List (List ℕ)) → AgreeOn names more (tested ++ rest) → AgreeOn names more rest
  agree_back [] rest h = h
  agree_back (a ∷ tested) rest h = agree_back tested rest h.1

  pub agree_before : (before after : List (List ℕ)) → Extends before after → AgreeOn names more after → AgreeOn names more before
  agree_before before after h agree = agree_front before h.0 (subst (λ (t : List (List ℕ)). AgreeOn names more t) h.1 agree)
