-- What a definition of a type says: what contracts see of it.
use Rattle.std.specs.Prelude.{string_bytes}
use Rattle.hol_notation_commands.specs.declared.type_definition.TypeDefinition.TheInside.{Inside}
use Rattle.hol_notation_commands.specs.Text.{TypeDefinitionText}

abbrev pub type_definition_text : Inside → TypeDefinitionText
type_definition_text d = record {
  ty = string_bytes d.ty;
  abs = string_bytes d.abs;
  rep = string_bytes d.rep;
  abs_rep = string_bytes d.abs_rep;
  rep_abs = string_bytes d.rep_abs;
  theorem = string_bytes d.theorem;
}
