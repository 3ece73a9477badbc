use Rattle.std.proofs.Common.{take}
use Rattle.loader.specs.Placing.{tests}
use Rattle.loader.specs.Steps.{Passed}
use Rattle.loader.proofs.applications.place.Given as goal

-- the applications so far have passed
abbrev pub invariant-loop-k : goal.invariant-loop-k
invariant-loop-k l = Passed l.geometry (tests (take l.k l.files)) l.placing
