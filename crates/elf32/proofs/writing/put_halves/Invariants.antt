use Rattle.std.proofs.Common.{◌≡◌, ◌++◌, take}
use Rattle.std.specs.List.{flat_map}
use Rattle.elf32.specs.Fields.{half}
use Rattle.elf32.proofs.writing.put_halves.Given as goal

-- the numbers so far are appended
abbrev pub invariant-loop-value : goal.invariant-loop-value
invariant-loop-value l = l.out.items ≡ l.initial.out.items ++ flat_map half (take l.value-index l.values)
