use Rattle.std.proofs.Common.{◌≡◌}
use Rattle.elf32.specs.Files.{is_loaded}
use Rattle.elf32.proofs.FirstHeaders.{passing}
use Rattle.elf32.proofs.reading.count_loaded.Given as goal

-- how many of the headers so far are loaded
abbrev pub invariant-loop-k : goal.invariant-loop-k
invariant-loop-k l = l.count ≡ passing is_loaded l.bytes l.k
