-- What the code says of traces and types. Only its clauses speak of it.
use Rattle.std.specs.Prelude.{◌≡◌, [], Some}
use Rattle.hol_types.specs.Tree.{TypeTree}
use Rattle.hol_terms.specs.Nameless.{Nameless, nameless_type}
use Rattle.hol_conv.specs.Traces.{traced}
use Rattle.hol_conv.specs.declared.trace_node.TraceNode.{TraceNode}

-- what the trace makes of a term of a type has the type too
abbrev pub KeepsType : TraceNode → Type 0
KeepsType n = (t u : Nameless) (a : TypeTree) → traced n t ≡ Some u → nameless_type [] t ≡ Some a → nameless_type [] u ≡ Some a
