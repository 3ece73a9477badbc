use Rattle.std.proofs.Common.{◌≡◌, take}
use Rattle.lock_plan.specs.Tables.{first_blocks, padded, sizes_of}
use Rattle.lock_plan.proofs.ranges.Ranges.new.Given as goal

-- the ranges so far stand in their places
abbrev pub invariant-loop-place : goal.invariant-loop-place
invariant-loop-place l = record {
  firsts : l.firsts ≡ padded (first_blocks (take l.place l.list));
  sizes : l.sizes ≡ padded (sizes_of (take l.place l.list));
}
