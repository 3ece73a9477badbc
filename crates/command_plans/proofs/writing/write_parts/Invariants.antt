use Rattle.std.proofs.Common.{◌≡◌, ◌++◌, drop}
use Rattle.std.specs.List.{concat}
use Rattle.command_plans.specs.Written.{joined}
use Rattle.command_plans.proofs.Writings.{HasPut}
use Rattle.command_plans.proofs.writing.write_parts.Given as goal

abbrev pub invariant-loop-k : goal.invariant-loop-k
invariant-loop-k g l = record {
  put : HasPut l.name (l.first ++ joined g.B.FileParts.parts l.parts) (concat (drop l.k (g.B.FileParts.parts l.parts))) (g.F.Files.shows l.fn.files).held (g.F.Files.shows l.files).held;
  asked : (g.F.Files.shows l.files).asked ≡ (g.F.Files.shows l.fn.files).asked;
  faults : (g.F.Files.shows l.files).faults ≡ (g.F.Files.shows l.fn.files).faults;
}
