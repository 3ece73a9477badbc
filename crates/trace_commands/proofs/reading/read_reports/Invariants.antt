use Rattle.std.proofs.Common.{drop}
use Rattle.device_inputs.proofs.EachRead.{SoFar}
use Rattle.trace_commands.specs.Checks.{ReportIn}
use Rattle.trace_commands.proofs.reading.read_reports.Given as goal

-- what comes of the reports that are left comes of all
abbrev pub invariant-loop-name : goal.invariant-loop-name
invariant-loop-name g l = SoFar ReportIn l.list (drop l.name-index l.names) l.names (g.F.Files.shows l.fn.files) (g.F.Files.shows l.files)
