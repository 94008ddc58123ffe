-- A search among assumptions.
use Rattle.std.specs.Prelude.{◌≡◌, Bool, true, false, cond, List, [], ◌∷◌, ◌++◌, length, map, Option, Some, None, refl}
use Rattle.std.specs.Option.{option_map}
use Rattle.std.proofs.Common.{ap, sym, ◌∙◌, subst}
use Rattle.std.proofs.lemmas.List.{append_assoc, map-append, nil_from_length}
use Rattle.std.proofs.lemmas.List.Elements.{All-append, All-push, All-head, All-rest, All-nil}
use Rattle.hol_terms.specs.Named.{Named, named_type}
use Rattle.hol_terms.specs.Nameless.{Nameless, nameless}
use Rattle.hol_terms.specs.Alpha.{alpha_eq}
use Rattle.hol_formulas.specs.Equation.{bool_type}
use Rattle.hol_goal.specs.Formulas.{AreFormulas}
use Rattle.hol_just.specs.ConnectiveTacs.{taken_out}
use Rattle.hol_steps.specs.Behind.{behind}

behind_none : (o : Option (Nameless × List Nameless)) → behind [] o ≡ o
behind_none (Some r) = refl
behind_none None = refl

behind_more : (newer : List Nameless) (n : Nameless) (o : Option (Nameless × List Nameless)) → behind newer (option_map (λ r. (r.0, n ∷ r.1)) o) ≡ behind (newer ++ n ∷ []) o
behind_more newer n (Some r) = λ i. Some (r.0, sym (append_assoc newer (n ∷ []) r.1) i)
behind_more newer n None = refl

pub search_start : (t : Nameless) (terms newer left : List Named) → newer ≡ [] → left ≡ terms → taken_out t (map (nameless []) terms) ≡ behind (map (nameless []) newer) (taken_out t (map (nameless []) left))
search_start t terms newer left e f = sym (behind_none (taken_out t (map (nameless []) terms))) ∙ (λ i. behind (map (nameless []) (sym e i)) (taken_out t (map (nameless []) (sym f i))))

module _ (t : Nameless) (terms newer left older : List Named) (p : Named) (is : left ≡ p ∷ older) (all : taken_out t (map (nameless []) terms) ≡ behind (map (nameless []) newer) (taken_out t (map (nameless []) left))) where
  at : (b : Bool) → alpha_eq (nameless [] p) t ≡ b → taken_out t (map (nameless []) terms) ≡ behind (map (nameless []) newer) (cond b (Some (nameless [] p, map (nameless []) older)) (option_map (λ r. (r.0, nameless [] p ∷ r.1)) (taken_out t (map (nameless []) older))))
  at b test =
      all
      ∙ (λ i. behind (map (nameless []) newer) (taken_out t (map (nameless []) (is i))))
      ∙ (λ i. behind (map (nameless []) newer) (cond (test i) (Some (nameless [] p, map (nameless []) older)) (option_map (λ r. (r.0, nameless [] p ∷ r.1)) (taken_out t (map (nameless []) older)))))

  pub search_found : (rest : List Named) → true ≡ alpha_eq (nameless [] p) t → rest ≡ newer ++ older → taken_out t (map (nameless []) terms) ≡ Some (nameless [] p, map (nameless []) rest)
  search_found rest test e = at true (sym test) ∙ (λ i. Some (nameless [] p, sym (ap (map (nameless [])) e ∙ map-append (nameless []) newer older) i))

  pub search_next :
      (more : List Named) → false ≡ alpha_eq (nameless [] p) t → more ≡ newer ++ p ∷ [] →
      taken_out t (map (nameless []) terms) ≡ behind (map (nameless []) more) (taken_out t (map (nameless []) older))
  search_next more test e =
      at false (sym test)
      ∙ behind_more (map (nameless []) newer) (nameless [] p) (taken_out t (map (nameless []) older))
      ∙ (λ i. behind (sym (ap (map (nameless [])) e ∙ map-append (nameless []) newer (p ∷ [])) i) (taken_out t (map (nameless []) older)))

pub search_end : (t : Nameless) (terms newer left : List Named) → length left ≡ 0 → taken_out t (map (nameless []) terms) ≡ behind (map (nameless []) newer) (taken_out t (map (nameless []) left)) → taken_out t (map (nameless []) terms) ≡ None
search_end t terms newer left is all = all ∙ ap (λ (ts : List Named). behind (map (nameless []) newer) (taken_out t (map (nameless []) ts))) (nil_from_length left is)

pub formula_here : (left older : List Named) (p : Named) → left ≡ p ∷ older → AreFormulas left → named_type p ≡ Some bool_type
formula_here left older p is h = All-head (λ q. named_type q ≡ Some bool_type) p older (subst AreFormulas is h)

pub formulas_after : (left older : List Named) (p : Named) → left ≡ p ∷ older → AreFormulas left → AreFormulas older
formulas_after left older p is h = All-rest (λ q. named_type q ≡ Some bool_type) p older left is h

pub formulas_both : (newer older rest : List Named) → rest ≡ newer ++ older → AreFormulas newer → AreFormulas older → AreFormulas rest
formulas_both newer older rest e h k = subst AreFormulas (sym e) (All-append (λ q. named_type q ≡ Some bool_type) newer older h k)

pub formulas_push : (newer more : List Named) (p : Named) → more ≡ newer ++ p ∷ [] → AreFormulas newer → named_type p ≡ Some bool_type → AreFormulas more
formulas_push newer more p e h k = subst AreFormulas (sym e) (All-push (λ q. named_type q ≡ Some bool_type) newer p h k)

pub formulas_none : (newer : List Named) → newer ≡ [] → AreFormulas newer
formulas_none newer e = subst AreFormulas (sym e) (All-nil (λ q. named_type q ≡ Some bool_type))

pub ruleset searches = (search_start, search_found, search_next, search_end, formula_here, formulas_after, formulas_both, formulas_push, formulas_none)
