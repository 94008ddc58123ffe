-- Where a part of a term stands: the frames around it, the innermost first. Cited by private clauses alone.
-- Source: G. Huet, The Zipper (Journal of Functional Programming 7, 1997).
use Rattle.std.specs.Prelude.{◌≡◌, ℕ, suc, ◌+◌, ◌≤◌, List, [], ◌∷◌, ◌++◌, Bool, true, false, Option, Some, None}
use Rattle.hol_types.specs.Tree.{type_size}
use Rattle.hol_terms.specs.Named.{term_nodes}
use Rattle.hol_terms.specs.Nameless.{Nameless, app, nameless, nameless_type}
use Rattle.hol_terms.specs.Size.{term_size}
use Rattle.hol_subst.specs.Closing.{bind}
use Rattle.hol_match.specs.Outlines.{AreAlike}
use Rattle.hol_conv.specs.Redexes.{contraction, IsOutside, depth, passes_over}
use Rattle.hol_conv.specs.Turns.{turn}
use Rattle.hol_conv.specs.declared.redexes.Redexes.{Redexes}
use Rattle.hol_conv.specs.declared.frame.Step.{Step}
use Rattle.hol_conv.specs.declared.frame.Step.TheVariants.{Function, Argument, Body}
use Rattle.hol_conv.specs.declared.frame.Frame.{Frame}

-- the term around the part n
abbrev pub around : Step → Nameless → Nameless
around (Function x) n = app n (nameless [] x)
around (Argument f) n = app (nameless [] f) n
around (Body v) n = bind v n

-- the whole term, with n in the frames
abbrev pub whole : List Frame → Nameless → Nameless
whole [] n = n
whole (f ∷ fs) n = whole fs (around f.step n)

-- ---- what holds of the frames around a part

-- the part fits beside what stands beside it
abbrev pub FitsIn : Step → Nameless → Type 0
FitsIn (Function x) n = nameless_type [] (app n (nameless [] x)) ≡ None → ⊥
FitsIn (Argument f) n = nameless_type [] (app (nameless [] f) n) ≡ None → ⊥
FitsIn (Body v) n = Unit {0}

-- nothing to the left of the part has a redex; and the part's variable may be bound above one
abbrev pub NoneLeft : Redexes → Step → Type 0
NoneLeft r (Function x) = Unit {0}
NoneLeft r (Argument f) = turn (contraction r) [] (nameless [] f) ≡ None
NoneLeft r (Body v) = IsOutside r v

abbrev pub AreWalked : Redexes → List Frame → Nameless → Type 0
AreWalked r [] n = Unit {0}
AreWalked r (f ∷ fs) n = FitsIn f.step n × NoneLeft r f.step × AreWalked r fs (around f.step n)

-- no term above the part is a redex
abbrev pub NoneAbove : Redexes → List Frame → Nameless → Type 0
NoneAbove r [] n = Unit {0}
NoneAbove r (f ∷ fs) n = (contraction r [] (around f.step n) ≡ None) × NoneAbove r fs (around f.step n)

-- all terms above the part are passed over
abbrev pub ArePassedOver : Redexes → List Frame → Nameless → Type 0
ArePassedOver r [] n = Unit {0}
ArePassedOver r (f ∷ fs) n = (passes_over r (around f.step n) ≡ true) × ArePassedOver r fs (around f.step n)

-- where a frame says so, its term and all above are passed over
abbrev pub AreMarked : Redexes → List Frame → Nameless → Type 0
AreMarked r [] n = Unit {0}
AreMarked r (f ∷ fs) n = (f.is_passed_over ≡ true → ArePassedOver r (f ∷ fs) n) × AreMarked r fs (around f.step n)

-- the next redex is in the part, or to the right of it
pub record Stands (r : Redexes) (fs : List Frame) (n : Nameless) : Type 0 where
  pub walked : AreWalked r fs n
  pub above : NoneAbove r fs n
  pub marked : AreMarked r fs n

-- the same of another place in a whole term that is the same
pub record Lands (r : Redexes) (fs : List Frame) (n : Nameless) (gs : List Frame) (m : Nameless) : Type 0 where
  pub stands : Stands r gs m
  pub same : whole gs m ≡ whole fs n

-- a frame with this step comes within those that were there, and isn't known to be passed over
pub record StepsIn (s : Step) (fs gs : List Frame) : Type 0 where
  pub frame : Frame
  pub pushed : gs ≡ fs ++ frame ∷ []
  pub how : frame.step ≡ s
  pub unseen : frame.is_passed_over ≡ false

-- a frame with this step, for which this is known, comes within those that were there
pub record ComesBack (s : Step) (over : Bool) (fs gs : List Frame) : Type 0 where
  pub frame : Frame
  pub pushed : gs ≡ fs ++ frame ∷ []
  pub how : frame.step ≡ s
  pub seen : frame.is_passed_over ≡ over

-- ---- after a turn

-- The part n took the place of `before`, which stood and has its type, in the frames of fs or within them: the two are equal but for what
-- lies `levels` deep. The next `left` terms above may have another outline than before, but none further up: the term around is equal but
-- for what lies one level deeper, and so on, until that is as deep as outlines are looked at.
pub record Took (r : Redexes) (left : Option ℕ) (fs : List Frame) (n : Nameless) : Type 0 where
  pub before : Nameless
  pub levels : ℕ
  pub stood : Stands r fs before
  pub typed : nameless_type [] before ≡ nameless_type [] n
  pub alike : AreAlike levels before n
  pub looked : (d : ℕ) → left ≡ Some d → depth r ≤ suc levels + d

-- whether the innermost frame says so
abbrev pub is_marked : List Frame → Bool
is_marked [] = true
is_marked (f ∷ fs) = f.is_passed_over

-- ---- counts

-- the nodes to the right of the part, which are not yet looked at
abbrev pub right_of : Step → ℕ
right_of (Function x) = term_nodes x
right_of (Argument f) = 0
right_of (Body v) = 0

abbrev pub waiting : List Frame → ℕ
waiting [] = 0
waiting (f ∷ fs) = right_of f.step + waiting fs

-- the nodes beside the part
abbrev pub beside_size : Step → ℕ
beside_size (Function x) = term_size [] (nameless [] x)
beside_size (Argument f) = term_size [] (nameless [] f)
beside_size (Body v) = type_size v.1
