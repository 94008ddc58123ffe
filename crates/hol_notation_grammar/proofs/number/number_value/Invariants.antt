use Rattle.std.proofs.Common.{◌≡◌, ◌≤◌, drop, length}
use Rattle.hol_notation_grammar.specs.Number.{number_value, decimal_from}
use Rattle.hol_notation_grammar.proofs.Digits.{cap}
use Rattle.hol_notation_grammar.proofs.number.number_value.Given as goal

abbrev pub invariant-loop-digit : goal.invariant-loop-digit
invariant-loop-digit l = record {
  value : decimal_from l.number (drop l.digit-index l.digits) ≡ number_value l.word;
  few : length l.digits ≤ 4;
  within : l.digit-index ≤ length l.digits;
  bound : l.number ≤ cap l.digit-index;
}
