-- The instructions so far.
use Rattle.std.proofs.Common.{◌≡◌, ◌+◌, ◌*◌, ◌++◌, length, take}
use Rattle.generated.specs.Applications.{code}
use Rattle.generated.proofs.applications.append_code.Given as goal

abbrev pub invariant-loop-instr : goal.invariant-loop-instr
invariant-loop-instr l = record {
  items : l.image.items ≡ l.fn.image.items ++ code (take l.instr-index l.instrs);
  length : length l.image.items ≡ length l.fn.image.items + 4 * l.instr-index;
}
