-- The row of a table that a name stands in.
use Rattle.std.specs.Prelude.{◌≡◌, ℕ, List, slice_get, Option, Some, None}
use Rattle.std.specs.Option.{option_map, option_and_then}
use Rattle.std.proofs.Common.{ap, sym, ◌∙◌}
use Rattle.hol_goal.specs.declared.tac_code.TacCode.{TacCode}
use Rattle.hol_registry.specs.Table.{index_of}
use Rattle.hol_exec.specs.Callee.{Registered, at_row, registered}

abbrev Row : Type 0
Row = List ℕ × TacCode

of_row : (i : ℕ) (code : TacCode) (o : Option Row) → option_map (λ row. row.1) o ≡ Some code → at_row i o ≡ Some (Registered i code)
of_row i code None e = absurd (cc)
of_row i code (Some row) e = let same : row.1 ≡ code = cc in ap (λ c. Some (Registered i c)) same

pub row_found : (name : List ℕ) (table : List Row) (i : ℕ) (code : TacCode) → index_of name table ≡ Some i → option_map (λ row. row.1) (slice_get table i) ≡ Some code → Some (Registered i code) ≡ registered name table
row_found name table i code found is = sym (ap (option_and_then (λ index. at_row index (slice_get table index))) found ∙ of_row i code (slice_get table i) is)

pub none_found : (name : List ℕ) (table : List Row) → index_of name table ≡ None → None ≡ registered name table
none_found name table found = sym (ap (option_and_then (λ index. at_row index (slice_get table index))) found)
