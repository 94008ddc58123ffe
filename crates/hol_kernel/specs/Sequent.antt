-- Sequents: a finite set of hypotheses, taken up to the names of bound variables, and a conclusion (fusion.ml: the values of type thm).
use Rattle.std.specs.Prelude.{refl}
use Rattle.std.specs.Coded.{Coded, code_by, coded×}
use Rattle.std.specs.FinSet as set
use Rattle.hol_terms.specs.Nameless.{Nameless}
use Rattle.hol_terms.specs.Code.{coded_nameless}
pub use Rattle.hol_subst.specs.Hypotheses.{Hyps, no_hyps, only_hyp, hyps_image, hyp_of, hyps_of}

-- hypotheses and a conclusion
pub record Sequent : Type 0 where
  pub hyps : Hyps
  pub concl : Nameless

abbrev pub sequent_of : Hyps → Nameless → Sequent
sequent_of hs p = record { hyps = hs; concl = p }

abbrev pub sequent_code : Coded Sequent
sequent_code = code_by (Hyps × Nameless) (coded× (set.code coded_nameless) coded_nameless) (λ s. (s.hyps, s.concl)) (λ p. record { hyps = p.0; concl = p.1 }) (λ _. refl)
