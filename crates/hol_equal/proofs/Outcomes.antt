-- What calls answer, told in other words.
use Rattle.std.specs.Prelude.{◌≡◌, Option, Some, None, Result, IfOk, MatchOption}
use Rattle.std.proofs.Common.{subst}

-- a call that gives s gives what s is
pub became : {T E : Type 0} (r : Result T E) (s t : T) → IfOk r (λ x. x ≡ s) → s ≡ t → IfOk r (λ x. x ≡ t)
became {T} r s t given is = subst (λ (u : T). IfOk r (λ x. x ≡ u)) is given

pub found : {T P P' : Type 0} (Q Q' : T → Type 0) (r : Option T) → (P → P') → ((x : T) → Q x → Q' x) → MatchOption r P Q → MatchOption r P' Q'
found Q Q' None f g h = f h
found Q Q' (Some x) f g h = g x h
