use Rattle.std.proofs.Common.{◌≡◌, ◌++◌, take}
use Rattle.elf32.specs.Written.{contents}
use Rattle.elf32.proofs.writing.put_contents.Given as goal

-- the bytes so far are appended
abbrev pub invariant-loop-segment : goal.invariant-loop-segment
invariant-loop-segment l = l.out.items ≡ l.initial.out.items ++ contents (take l.segment-index l.segments)
