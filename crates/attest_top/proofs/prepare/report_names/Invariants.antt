use Rattle.std.proofs.Common.{◌≡◌, ◌++◌, drop}
use Rattle.attest_top.proofs.prepare.report_names.Given as goal

-- the names so far, and the words that are left
abbrev pub invariant-loop-k : goal.invariant-loop-k
invariant-loop-k l = record {
  kept : l.names.items ++ drop l.k l.words ≡ drop 3 l.words;
}
