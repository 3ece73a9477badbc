use Rattle.std.proofs.Common.{◌≡◌, ◌%◌, take, All}
use Rattle.device.proofs.tests.are_words.Given as goal

-- the addresses so far are those of words
abbrev pub invariant-loop-entry : goal.invariant-loop-entry
invariant-loop-entry l = All (λ entry. entry % 4 ≡ 0) (take l.entry-index l.entries)
