use Rattle.std.proofs.Common.{rules, ◌≡◌, refl, Result, Ok, Err, IfOk, Box, Global}
use Rattle.hol_conv.specs.declared.frame.Step.TheVariants.{Body}
use Rattle.hol_conv.specs.declared.trace_node.TraceNode.{TraceNode}
use Rattle.hol_conv.specs.Kept.{node_of, LeadsOut}
use Rattle.hol_conv.specs.Tracing.{IsBody}
use Rattle.hol_conv.proofs.PlaceTraces.{body_out}
use Rattle.hol_conv.proofs.kept.around_part.Goals as goal

pub returns-in-Body : goal.returns-in-Body
returns-in-Body c = by c.body.result c.body.ensures
  where
    is : c.args.step.now ≡ Body c.in-Body.v
    is = search rules

    by : {E : Type 0} (o : Result (Box TraceNode Global) E) → IfOk o (λ n. IsBody c.in-Body.v c.args.part.value n.value) → IfOk o (λ n. LeadsOut c.args.step.now (node_of c.args.function) c.args.part.value n.value)
    by (Ok n) h = body_out c.args.step.now c.in-Body.v (node_of c.args.function) c.args.part.value c.args.part.value n.value is refl h
    by (Err e) h = tt
