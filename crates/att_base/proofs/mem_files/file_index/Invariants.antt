use Rattle.std.proofs.Common.{◌≡◌, ◌+◌, drop}
use Rattle.att_base.specs.FilesInMemory.{file_index}
use Rattle.att_base.proofs.mem_files.file_index.Given as goal

abbrev pub invariant-loop-i : goal.invariant-loop-i
invariant-loop-i l = file_index l.files l.name ≡ l.i + file_index (drop l.i l.files) l.name
