-- The definitions of the crates of the notation that contracts above speak of. `TermText`, `TacText` and `CommandText` hold the values of what is
-- written, `TermCode`, `TacCode` and `CommandCode` how the logic stores them.
pub use Rattle.hol_notation_tokens.specs.Token
pub use Rattle.hol_notation_tokens.specs.Lexing
pub use Rattle.hol_notation_terms.specs.Text as TermText
pub use Rattle.hol_notation_terms.specs.Code as TermCode
pub use Rattle.hol_notation_terms.specs.TypeView
pub use Rattle.hol_notation_terms.specs.TermView
pub use Rattle.hol_notation_tactics.specs.Text as TacText
pub use Rattle.hol_notation_tactics.specs.Parts
pub use Rattle.hol_notation_tactics.specs.Code as TacCode
pub use Rattle.hol_notation_tactics.specs.ThmView
pub use Rattle.hol_notation_tactics.specs.TacView
pub use Rattle.hol_notation_tactics.specs.ArgumentView
pub use Rattle.hol_notation_commands.specs.Text as CommandText
pub use Rattle.hol_notation_commands.specs.Code as CommandCode
pub use Rattle.hol_notation_commands.specs.CommandView
pub use Rattle.hol_notation_reader.specs.Reading
pub use Rattle.hol_notation_reader.specs.Errors
