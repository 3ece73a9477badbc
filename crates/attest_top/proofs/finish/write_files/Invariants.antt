use Rattle.std.proofs.Common.{◌≡◌, take}
use Rattle.attest_top.specs.Outcomes.{FilesWritten}
use Rattle.attest_top.proofs.finish.write_files.Given as goal

-- the files so far are written
abbrev pub invariant-loop-file : goal.invariant-loop-file
invariant-loop-file g l = record {
  written : FilesWritten (take l.file-index l.written) (g.F.Files.shows l.fn.files) (g.F.Files.shows l.files);
  asked : (g.F.Files.shows l.files).asked ≡ (g.F.Files.shows l.fn.files).asked;
  idle : l.file-index ≡ 0 → g.F.Files.shows l.files ≡ g.F.Files.shows l.fn.files;
}
