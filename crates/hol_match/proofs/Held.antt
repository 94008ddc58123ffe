-- What was given holds over a basis, part by part of the list.
use Rattle.std.proofs.Common.{◌≡◌, List, ◌++◌, sym, ◌∙◌, true}
use Rattle.std.proofs.lemmas.Bool.{and_parts, and_from}
use Rattle.std.proofs.lemmas.List.Folds.{list_all-append}
use Rattle.hol_kernel.specs.Given.{Given}
use Rattle.hol_kernel.specs.Items.{Items}
use Rattle.hol_match.specs.Givens.{holds_given, all_hold}

pub held_front : (basis : Items) (xs ys : List Given) → all_hold (xs ++ ys) basis ≡ true → all_hold xs basis ≡ true
held_front basis xs ys h = (and_parts (all_hold xs basis) (all_hold ys basis) (sym (list_all-append (λ g. holds_given g basis) xs ys) ∙ h)).0

pub held_back : (basis : Items) (xs ys : List Given) → all_hold (xs ++ ys) basis ≡ true → all_hold ys basis ≡ true
held_back basis xs ys h = (and_parts (all_hold xs basis) (all_hold ys basis) (sym (list_all-append (λ g. holds_given g basis) xs ys) ∙ h)).1

pub held_both : (basis : Items) (xs ys : List Given) → all_hold xs basis ≡ true → all_hold ys basis ≡ true → all_hold (xs ++ ys) basis ≡ true
held_both basis xs ys h k = list_all-append (λ g. holds_given g basis) xs ys ∙ and_from (all_hold xs basis) (all_hold ys basis) h k
