use Rattle.attest_top.proofs.OneResult.{one_setup, one_result}
use Rattle.attest_top.proofs.laws.one_plan.Goals as goal

pub returns-clause-plans : goal.returns-clause-plans
returns-clause-plans c = one_result (record {
  one_state = c.one_scheduled_run.ensures;
  one_ends = c.one_outcome.ensures.apps_with_waits;
  one_passes = c.one_outcome.ensures.passes;
  one_trace = c.one_trace.ensures;
  one_line = c.one_line_leaves.ensures;
  rising = c.served_in_order.ensures.rising;
})

pub returns-clause-setups : goal.returns-clause-setups
returns-clause-setups c = one_setup
