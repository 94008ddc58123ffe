-- A mark's byte is reached through a `&` with the key of its name, out of a mask E, and shut again at any number. Assumes `Logic`.
use Rattle.std.proofs.Common.{◌≡◌, ℕ, true, List, [], ◌∷◌, refl, ap, ◌∙◌, subst, w8}
use seplogic.Ra.Ura.{Ura}
use mir.Syntax.{Ty, ty_int}
use mir.Val.{Val, vint}
use base.Fraction.{full_share}
use base.Logic.{SProp, sep, wand, apply∗}
use base.Fml.{Lft, GName, Key, Mask, Share, Fml, Incl-refl, fsep, fat, flft, ftok}
use base.Mask.{less}
use types.Logic.{Logic, sem}
use types.Kit.{Item, Goal, Seq, Step, Soaks, step, ‵, raw, ◌⊛◌, later, ◌$◌, move, drop, use0, use1, use2, use3, split, split3, join, fsplit, fjoin, fpick, fpack, feq_l, rewrite, await}
use types.Na.{na_bor, na_acc_in}
use denote.RattleType.{RattleType}
use denote.Memory.{cell_at, lone}
use denote.Shadow.{makes_shadow}
use denote.Steps.{only}
use denote.Struct.Laws.{u8-laws}
use denote.Struct.Field.{u8-field}
use denote.Struct.Members.{Member}
use Rattle.std.proofs.cell.Inside.{Good, round, wraps, unwraps}
use Rattle.hol_mark.specs.Mark.{contents, fields_at}
use Rattle.hol_mark.specs.contracts.Mark.TheInside as inside

abbrev pub Fields : RattleType
Fields = inside.the_row

abbrev pub mark_type : Ty
mark_type = lone Fields.mir

abbrev pub byte_field : Member
byte_field = record { row = u8-field.row; ty = ty_int w8 }

abbrev pub byte : ℕ → Val
byte n = round (vint w8 n)

abbrev pub IsByte : ℕ → Type 0
IsByte n = Good (ty_int w8) (vint w8 n)

module _ {M : Type 1} {𝓤 : Ura M} (𝓛 : Logic 𝓤) (κ : Lft) (q : Share) (E : Mask) (γ : GName) (b o : ℕ) where
  open 𝓛 use {H, A}

  abbrev key : Key
  key = (γ, 0)

  abbrev P : Fml
  P = fields_at Fields b o

  abbrev Held : SProp 𝓤
  Held = sep 𝓤 (sem 𝓛 P) (A.tok (less E key))

  abbrev Both : SProp 𝓤
  Both = H.⇛ (sep 𝓤 (A.lft κ q) (A.tok E))

  abbrev pub Shut : Item 𝓤
  Shut = raw (wand 𝓤 Held Both)

  module _ {K : Type 0} {Γ : List (Item 𝓤)} {G : Goal 𝓤 H} where
    pub opens_in : K → Soaks G → E (γ, 0) ≡ true
        → ((n : ℕ) → IsByte n → Seq K 𝓛 (‵ (fat full_share mark_type b o (byte n)) ∷ ‵ (ftok (less E key)) ∷ Shut ∷ Γ) G)
        → Seq K 𝓛 (‵ (na_bor κ (γ, 0) (fields_at Fields b o)) ∷ ‵ (flft κ q) ∷ ‵ (ftok E) ∷ Γ) G
    opens_in t z has k =
        use3 𝓛 (later (‵ P ⊛ ‵ (ftok (less E key)) ⊛ raw (wand 𝓤 Held Both))) (na_acc_in 𝓛 κ ((κ, q) ∷ []) E key P (Incl-refl κ) has) $ await t z $ split3 t $
        fpick t (λ vs. fsplit t $ move t (1 ∷ []) $ fpick t (λ i. unwraps byte_field t (u8-laws.lawful 𝓛) [] [] i.byte vs (λ v good e. fsplit t $ feq_l t (λ ev. drop t $
        rewrite t 0 (λ (us : List Val). ‵ (cell_at full_share Fields.mir us b o)) (e ∙ ap (λ (us : List Val). round (only us) ∷ []) ev) refl $
        use1 𝓛 (‵ (fat full_share mark_type b o (byte i.byte))) (𝓛.laws.raw_at full_share mark_type b o (byte i.byte)) $
        k i.byte (subst (Good (ty_int w8)) (ap only ev) good)))))

    pub shuts_in : K → Soaks G → (n : ℕ) → IsByte n
        → Step K 𝓛 (‵ (flft κ q) ∷ ‵ (ftok E) ∷ Γ) G (‵ (fat full_share mark_type b o (byte n)) ∷ ‵ (ftok (less E key)) ∷ Shut ∷ Γ) G
    shuts_in t z n good = step (λ s.
        let i : Fields.Denot = record { byte = n } in
        use1 𝓛 (‵ (cell_at full_share Fields.mir (byte n ∷ []) b o)) (𝓛.laws.at_raw full_share mark_type b o (byte n)) $
        use0 𝓛 (‵ (byte_field.row.own_val n (vint w8 n ∷ []))) (makes_shadow 𝓛 (byte_field.row.own_val n (vint w8 n ∷ [])) (tt, tt) (refl, good.1.fits)) $
        use1 𝓛 (‵ (Fields.own_val i (byte n ∷ []))) (wraps byte_field 𝓛 [] [] n (vint w8 n)) $ fpack t Fields.Denot (λ j. Fields.own_val j (byte n ∷ [])) i $ move t (1 ∷ 0 ∷ []) $ fjoin t $
        fpack t (List Val) (λ us. fsep (cell_at full_share Fields.mir us b o) (contents Fields us)) (byte n ∷ []) $ join t $
        use2 𝓛 (later (‵ (flft κ q) ⊛ ‵ (ftok E))) (apply∗ 𝓤 Held Both) $ await t z $ split t $ s)
