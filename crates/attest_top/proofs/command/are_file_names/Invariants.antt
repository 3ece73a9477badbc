use Rattle.std.proofs.Common.{◌≡◌, drop, All}
use Rattle.std.specs.List.{list_all}
use Rattle.att_base.specs.Files.{IsName}
use Rattle.attest_top.specs.Lines.{is_file_name}
use Rattle.attest_top.proofs.command.are_file_names.Given as goal

-- what is left decides
abbrev pub invariant-loop-k : goal.invariant-loop-k
invariant-loop-k l = record {
  value : list_all is_file_name (drop l.fn.from l.words) ≡ list_all is_file_name (drop l.k l.words);
  names : All IsName (drop l.k l.words) → All IsName (drop l.fn.from l.words);
}
