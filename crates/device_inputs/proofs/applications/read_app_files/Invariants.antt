use Rattle.std.proofs.Common.{◌≡◌, All, IsOk, length, drop}
use Rattle.elf32.specs.Files.{elf_of}
use Rattle.device_inputs.specs.Inputs.{AppFileIn}
use Rattle.device_inputs.proofs.EachRead.{SoFar}
use Rattle.device_inputs.proofs.applications.read_app_files.Given as goal

-- what comes of the files that are left comes of all
abbrev pub invariant-loop-app : goal.invariant-loop-app
invariant-loop-app g l = record {
  goes : SoFar AppFileIn l.list (drop l.app-index l.apps) l.apps (g.F.Files.shows l.fn.files) (g.F.Files.shows l.files);
  sound : All (λ file. IsOk (elf_of file)) l.list;
  count : length l.list ≡ l.app-index;
}
