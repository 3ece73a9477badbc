use Rattle.std.proofs.Common.{◌≡◌, ◌+◌, ◌++◌, take}
use Rattle.elf32.specs.Written.{segment_headers}
use Rattle.executable.specs.Writable.{total_size}
use Rattle.elf32.proofs.writing.put_segment_headers.Given as goal

-- the headers so far are appended, and the next segment's bytes stand after those before it
abbrev pub invariant-loop-segment : goal.invariant-loop-segment
invariant-loop-segment l =
    (l.out.items ≡ l.initial.out.items ++ segment_headers l.start (take l.segment-index l.segments))
    × (l.offset ≡ l.start + total_size (take l.segment-index l.segments))
