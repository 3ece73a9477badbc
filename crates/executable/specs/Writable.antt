-- Which programs an ELF file can hold.
use Rattle.std.specs.Prelude.{ℕ, ◌+◌, ◌^◌, ◌≤◌, List, length, sum_by, All}
use Rattle.executable.specs.declared.Program.{Program}
use Rattle.executable.specs.declared.Segment.{Segment}

-- how many bytes the segments have
abbrev pub total_size : List Segment → ℕ
total_size segments = sum_by (λ s. length s.bytes) segments

-- what can be written
pub record IsWritable (p : Program) : Type 0 where
  pub some : 1 ≤ length p.segments
  pub few : length p.segments ≤ 64
  pub small : total_size p.segments ≤ 1048576
  pub ends : All (λ s. s.addr + length s.bytes ≤ 2 ^ 32) p.segments
