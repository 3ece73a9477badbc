use Rattle.std.proofs.Common.{◌≡◌, ◌++◌, All, drop}
use Rattle.att_base.specs.Files.{IsName}
use Rattle.device_commands.specs.RunWritten.{console_files}
use Rattle.device_commands.proofs.outputs.put_consoles.Given as goal

-- the files so far, and those of the others
abbrev pub invariant-loop-plan : goal.invariant-loop-plan
invariant-loop-plan g l = record {
  files : l.files.items ++ console_files (drop l.k l.plans) (drop l.k l.apps) ≡ l.fn.files.items ++ console_files l.plans l.apps;
  named : All (λ file. IsName file.name) l.files.items;
  count : l.k ≡ l.plan-index;
}
