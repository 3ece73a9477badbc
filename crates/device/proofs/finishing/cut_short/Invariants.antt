use Rattle.std.proofs.Common.{◌≡◌, ◌-◌, ◌≤◌, ◌++◌, length, replicate}
use Rattle.std.specs.Prelude.{vec_capacity}
use Rattle.device.specs.declared.outcomes.PassEnd.TheVariants as pass
use Rattle.device.proofs.finishing.cut_short.Given as goal

-- the ends so far
abbrev pub invariant-loop : goal.invariant-loop
invariant-loop l = record {
  ends : l.ends.items ≡ l.initial.ends.items ++ replicate (l.counter - length l.initial.ends.items) pass.NotStarted;
  count : length l.ends.items ≡ l.counter;
  room : l.count ≤ vec_capacity l.ends;
}
