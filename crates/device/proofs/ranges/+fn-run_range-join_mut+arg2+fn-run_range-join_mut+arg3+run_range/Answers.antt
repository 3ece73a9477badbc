-- By the two halves.
use Rattle.std.proofs.Common.{sym, ◌∙◌, subst, arith, rules}
use Rattle.device.specs.Threads.{HasRunRange, MayRunRange}
use Rattle.device.proofs.Joined.{joined_run, none_taken, some_taken}
use Rattle.device.proofs.ranges.+fn-run_range-join_mut+arg2+fn-run_range-join_mut+arg3+run_range.Goals as goal

pub join_mut+arg2-run_range-requires-clause-range :
    goal.join_mut+arg2-run_range-requires-clause-range
join_mut+arg2-run_range-requires-clause-range g t c κs within =
    some_taken (λ p. MayRunRange c.captures.memory.now p c.captures.front.now) c.captures.lower c.in-Some.pass c.requires.2 (sym c.take.ensures.value ∙ c.in-Some.is)

pub join_mut+arg2-unreachable-requires : goal.join_mut+arg2-unreachable-requires
join_mut+arg2-unreachable-requires g t c =
    none_taken (λ p. MayRunRange c.captures.memory.now p c.captures.front.now) c.captures.lower c.requires.2 (sym c.take.ensures.value ∙ c.in-None.is)

pub join_mut+arg3-run_range-requires-clause-range :
    goal.join_mut+arg3-run_range-requires-clause-range
join_mut+arg3-run_range-requires-clause-range g t c κs within =
    some_taken (λ p. MayRunRange c.captures.memory.now p c.captures.back.now) c.captures.upper c.in-Some.pass c.requires.2 (sym c.take.ensures.value ∙ c.in-Some.is)

pub join_mut+arg3-unreachable-requires : goal.join_mut+arg3-unreachable-requires
join_mut+arg3-unreachable-requires g t c =
    none_taken (λ p. MayRunRange c.captures.memory.now p c.captures.back.now) c.captures.upper c.requires.2 (sym c.take.ensures.value ∙ c.in-None.is)

pub returns : goal.returns
returns g t c =
    let front = c.split_at_mut-front.result.0.now in
    let back = c.split_at_mut-front.result.1.now in
    let left : HasRunRange c.args.memory.now c.split-second.new.pass c.join_mut-left.result.0 front c.front-1.given.0 = search rules in
    let right : HasRunRange c.args.memory.now c.split-second.result c.join_mut-left.result.1 back c.back-1.given.0 = search rules in
    record {
      run =
          joined_run c.runs_compose.ensures.others c.runs_compose.ensures.more c.runs_compose.ensures.waits_later c.args.memory.now c.args.pass c.join_mut-left.result.0 c.join_mut-left.result.1 c.join.result _ c.args.slots.now front back c.front-1.given.0 c.back-1.given.0
          c.requires.range c.split_at_mut-front.ensures.value (omega (arith, c.low.ensures.value, c.split_at_mut-front.ensures.front_len)) (subst (λ p. HasRunRange c.args.memory.now p c.join_mut-left.result.0 front c.front-1.given.0) c.split-second.ensures.left left)
          (subst (λ p. HasRunRange c.args.memory.now p c.join_mut-left.result.1 back c.back-1.given.0) c.split-second.ensures.right right) c.join.ensures.pass c.join.ensures.left c.join.ensures.right;
    }
