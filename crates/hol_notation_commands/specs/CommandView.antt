-- The commands that the code's stand for: what contracts see of them.
use Rattle.std.specs.Prelude.{string_bytes}
use Rattle.hol_notation_commands.specs.declared.command.Making.{Making}
use Rattle.hol_notation_commands.specs.declared.command.Making.TheVariants as making
use Rattle.hol_notation_commands.specs.declared.command.LocalCommand.{LocalCommand}
use Rattle.hol_notation_commands.specs.declared.command.LocalCommand.TheVariants as local
use Rattle.hol_notation_commands.specs.declared.command.DirectCommand.{DirectCommand}
use Rattle.hol_notation_commands.specs.declared.command.DirectCommand.TheVariants as direct
use Rattle.hol_notation_commands.specs.declared.command.CommandNode.{CommandNode}
use Rattle.hol_notation_commands.specs.declared.command.CommandNode.TheVariants as code
use Rattle.hol_notation_commands.specs.Text.{MakingText, NewType, NewConstant, NewAxiom, NewDefinition, NewBasicTypeDefinition, LocalText, Goal, Apply, Qed, DefineTac, Make, DirectText, Back, Rotate, Oops, Import, CommandText, Local, Direct}

abbrev pub making_text : Making → MakingText
making_text (making.Type name arity) = NewType (string_bytes name) arity
making_text (making.Constant name quotation) = NewConstant (string_bytes name) quotation
making_text (making.Axiom name quotation) = NewAxiom (string_bytes name) quotation
making_text (making.Definition name definition) = NewDefinition (string_bytes name) definition
making_text (making.BasicTypeDefinition definition) = NewBasicTypeDefinition definition

abbrev pub local_text : LocalCommand → LocalText
local_text (local.Goal name quotation) = Goal (string_bytes name) quotation
local_text (local.Apply tactic) = Apply tactic
local_text local.Qed = Qed
local_text (local.DefineTac name tactic) = DefineTac (string_bytes name) tactic
local_text (local.Make made) = Make (making_text made)

abbrev pub direct_text : DirectCommand → DirectText
direct_text direct.Back = Back
direct_text (direct.Rotate times) = Rotate times
direct_text direct.Oops = Oops
direct_text (direct.Import name) = Import (string_bytes name)

abbrev pub command_of_node : CommandNode → CommandText
command_of_node (code.Local command) = Local (local_text command)
command_of_node (code.Direct command) = Direct (direct_text command)
