use Rattle.std.proofs.Common.{◌≡◌, ◌+◌, drop}
use Rattle.executable.specs.Writable.{total_size}
use Rattle.executable_commands.proofs.asm.total_size.Given as goal

abbrev pub invariant-loop-segment : goal.invariant-loop-segment
invariant-loop-segment l = record {
  size : l.size + total_size (drop l.segment-index l.segments) ≡ total_size l.segments;
}
