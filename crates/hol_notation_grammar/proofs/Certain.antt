-- The grammar is certain: each of these is computed.
use Rattle.std.proofs.Common.{◌≡◌, true, refl, Option, Some, None}
use Rattle.hol_notation_grammar.specs.declared.sort.Sort.{Sort}
use Rattle.hol_notation_grammar.specs.declared.grammar.Rule.{Rule}
use Rattle.hol_notation_grammar.specs.declared.grammar.Rule.TheVariants as rule
use Rattle.hol_notation_grammar.specs.declared.grammar.Class.{Class}
use Rattle.hol_notation_grammar.specs.declared.grammar.Class.TheVariants as class
use Rattle.hol_notation_grammar.specs.declared.grammar.Production.{Production}
use Rattle.hol_notation_grammar.specs.declared.grammar.Production.TheVariants.{OpenGoal}
use Rattle.hol_notation_grammar.specs.Table.{has}
use Rattle.hol_notation_grammar.specs.Grammar.{language, begins, opens, IsAmong}
use Rattle.hol_notation_grammar.specs.Ending.{is_empty, sample, parts_of_first, extends, IsShut, IsReady}
use Rattle.hol_notation_grammar.proofs.Leads.{Certain, leading, is_grown, is_firm}
use Rattle.hol_notation_grammar.proofs.Checks.{every_sort, each_sort, at_most_one, only_one, empty_is, is_solid, solid_by, implies, implied, every, each_production, is_shut, is_ready, shut_is, ready_by, opened_not}

whole_computed : (n : Rule) → every_sort (λ k. implies (begins language 13 n k) (begins language 12 n k)) ≡ true
whole_computed rule.Command = refl
whole_computed _ = refl

one_computed : (n : Rule) → every_sort (λ k. at_most_one (λ p. leading language p k) (language.productions n)) ≡ true
one_computed rule.Command = refl
one_computed _ = refl

empty_computed : (n : Rule) → at_most_one (λ p. is_empty (language.symbols p)) (language.productions n) ≡ true
empty_computed rule.Command = refl
empty_computed _ = refl

solid_computed : (p : Production) → is_solid language (language.symbols p) ≡ true
solid_computed OpenGoal = refl
solid_computed _ = refl

inner_end_computed : (n : Rule) → every (λ p. is_ready language None (language.symbols p)) (language.productions n) ≡ true
inner_end_computed rule.Command = refl
inner_end_computed _ = refl

inner_computed : (n : Rule) → every_sort (λ k. implies (is_shut language n (Some k)) (every (λ p. is_ready language (Some k) (language.symbols p)) (language.productions n))) ≡ true
inner_computed rule.Command = refl
inner_computed _ = refl

shut_computed : (n : Rule) → every (λ p. implies (is_empty (language.symbols p)) (every_sort (λ k. implies (opens language n k) (extends language 12 n k)))) (language.productions n) ≡ true
shut_computed rule.Command = refl
shut_computed _ = refl

grown_computed : (n : Rule) → is_grown language 12 n ≡ true
grown_computed rule.Command = refl
grown_computed _ = refl

firm_computed : (n : Rule) → is_firm language (parts_of_first language (language.productions n)) ≡ true
firm_computed rule.Command = refl
firm_computed _ = refl

sample_computed : (c : Class) → has c (sample c) ≡ true
sample_computed class.Identifier = refl
sample_computed _ = refl

inner : (n : Rule) (p : Production) (o : Option Sort) → IsAmong p (language.productions n) → IsShut language n o → IsReady language o (language.symbols p)
inner n p None a s = ready_by language None (language.symbols p) (each_production (λ q. is_ready language None (language.symbols q)) (language.productions n) p a (inner_end_computed n))
inner n p (Some k) a s =
    ready_by language (Some k) (language.symbols p) (each_production (λ q. is_ready language (Some k) (language.symbols q)) (language.productions n) p a
    (implied (is_shut language n (Some k)) (every (λ q. is_ready language (Some k) (language.symbols q)) (language.productions n))
    (each_sort (λ j. implies (is_shut language n (Some j)) (every (λ q. is_ready language (Some j) (language.symbols q)) (language.productions n))) k (inner_computed n)) (shut_is language n (Some k) s)))

pub certain : Certain language
certain = record {
  whole = λ n k e. implied (begins language 13 n k) (begins language 12 n k) (each_sort (λ k. implies (begins language 13 n k) (begins language 12 n k)) k (whole_computed n)) e;
  one = λ n k p q a b s t. only_one (λ p. leading language p k) (language.productions n) p q (each_sort (λ k. at_most_one (λ p. leading language p k) (language.productions n)) k (one_computed n)) a b s t;
  solid = λ p. solid_by language (language.symbols p) (solid_computed p);
  one_empty = λ n p q a b s t. only_one (λ p. is_empty (language.symbols p)) (language.productions n) p q (empty_computed n) a b (empty_is _ s) (empty_is _ t);
  inner = inner;
  shut = λ n p k a e x.
      opened_not (opens language n k) (extends language 12 n k)
      (each_sort (λ j. implies (opens language n j) (extends language 12 n j)) k
      (implied (is_empty (language.symbols p)) (every_sort (λ j. implies (opens language n j) (extends language 12 n j)))
      (each_production (λ q. implies (is_empty (language.symbols q)) (every_sort (λ j. implies (opens language n j) (extends language 12 n j)))) (language.productions n) p a (shut_computed n)) (empty_is (language.symbols p) e))) x;
  grown = grown_computed;
  firm = firm_computed;
  samples = sample_computed;
}
