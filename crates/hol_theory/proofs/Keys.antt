-- Keys that `key_eq` ties are one key.
use Rattle.std.specs.Prelude.{◌≡◌, ◌==◌, ◌&&◌, true, bytes_eq, refl}
use Rattle.std.proofs.lemmas.Bool.{and_parts}
use Rattle.std.proofs.lemmas.Slice.Eq.{bytes_eq-Decides}
use Rattle.hol_theory.specs.declared.key.Kind.{Kind}
use Rattle.hol_theory.specs.declared.key.Kind.TheVariants as key_kind
use Rattle.hol_theory.specs.Key.{KeyValue, kind_rank, key_eq}

same_kind : (j k : Kind) → (kind_rank j == kind_rank k) ≡ true → j ≡ k
same_kind key_kind.Type key_kind.Type e = refl
same_kind key_kind.Type key_kind.Constant e = absurd (cc)
same_kind key_kind.Type key_kind.Theorem e = absurd (cc)
same_kind key_kind.Type key_kind.Tac e = absurd (cc)
same_kind key_kind.Constant key_kind.Type e = absurd (cc)
same_kind key_kind.Constant key_kind.Constant e = refl
same_kind key_kind.Constant key_kind.Theorem e = absurd (cc)
same_kind key_kind.Constant key_kind.Tac e = absurd (cc)
same_kind key_kind.Theorem key_kind.Type e = absurd (cc)
same_kind key_kind.Theorem key_kind.Constant e = absurd (cc)
same_kind key_kind.Theorem key_kind.Theorem e = refl
same_kind key_kind.Theorem key_kind.Tac e = absurd (cc)
same_kind key_kind.Tac key_kind.Type e = absurd (cc)
same_kind key_kind.Tac key_kind.Constant e = absurd (cc)
same_kind key_kind.Tac key_kind.Theorem e = absurd (cc)
same_kind key_kind.Tac key_kind.Tac e = refl

own_rank : (k : Kind) → (kind_rank k == kind_rank k) ≡ true
own_rank key_kind.Type = refl
own_rank key_kind.Constant = refl
own_rank key_kind.Theorem = refl
own_rank key_kind.Tac = refl

pub key_is : (a b : KeyValue) → key_eq a b ≡ true → a ≡ b
key_is a b e =
    let p = and_parts (kind_rank a.kind == kind_rank b.kind) (bytes_eq a.name b.name) e in
    let kinds : a.kind ≡ b.kind = same_kind a.kind b.kind p.0 in
    let names : a.name ≡ b.name = (bytes_eq-Decides a.name b.name).0 p.1 in
    λ i. record { kind = kinds i; name = names i }

pub key_itself : (k : KeyValue) → key_eq k k ≡ true
key_itself k =
    let ranks : (kind_rank k.kind == kind_rank k.kind) ≡ true = own_rank k.kind in
    let names : bytes_eq k.name k.name ≡ true = (bytes_eq-Decides k.name k.name).1 refl in
    λ i. ranks i && names i
