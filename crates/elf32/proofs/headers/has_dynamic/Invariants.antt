use Rattle.std.proofs.Common.{◌≡◌, false}
use Rattle.std.specs.List.{list_any}
use Rattle.elf32.specs.Files.{first_headers, is_dynamic}
use Rattle.elf32.proofs.headers.has_dynamic.Given as goal

-- none so far asks for a dynamic linker
abbrev pub invariant-loop-k : goal.invariant-loop-k
invariant-loop-k l = list_any is_dynamic (first_headers l.bytes l.k) ≡ false
