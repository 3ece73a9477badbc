use Rattle.std.proofs.Common.{◌≡◌, List, ◌++◌, length, take}
use Rattle.loader.specs.Placing.{Test, segment_tests}
use Rattle.loader.specs.Steps.{Passed}
use Rattle.loader.proofs.placing.Placing.segments.Given as goal

-- the segments so far have passed
abbrev pub invariant-loop-k : goal.invariant-loop-k
invariant-loop-k l =
    (length l.self.image.items ≡ length l.initial.self.image.items)
    × ((done : List Test) → Passed l.geometry done l.initial.self → Passed l.geometry (done ++ segment_tests l.app 0 (take l.k l.elf.segments)) l.self)
