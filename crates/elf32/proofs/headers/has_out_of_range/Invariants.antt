use Rattle.std.proofs.Common.{◌≡◌, false}
use Rattle.std.specs.List.{list_any}
use Rattle.elf32.specs.Files.{first_headers, is_out_of_range}
use Rattle.elf32.proofs.headers.has_out_of_range.Given as goal

-- none so far is out of range
abbrev pub invariant-loop-k : goal.invariant-loop-k
invariant-loop-k l = list_any (is_out_of_range l.bytes) (first_headers l.bytes l.k) ≡ false
