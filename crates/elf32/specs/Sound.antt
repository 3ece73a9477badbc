-- What is known of a file that breaks no rule.
use Rattle.std.specs.Prelude.{◌≡◌, ℕ, ◌+◌, ◌*◌, ◌^◌, ◌<◌, ◌≤◌, false, List, length, None}
use Rattle.std.specs.List.{list_any}
use Rattle.elf32.specs.Files.{FileSegment, first_broken_rule, e_phoff, e_phnum, headers, is_out_of_range}

-- all headers are in the file, and all segments to be loaded are in range
pub record IsElf (bytes : List ℕ) : Type 0 where
  pub sound : first_broken_rule bytes ≡ None
  pub long : 52 ≤ length bytes
  pub table : e_phoff bytes + 32 * e_phnum bytes ≤ length bytes
  pub few : e_phnum bytes ≤ 64
  pub in_range : list_any (is_out_of_range bytes) (headers bytes) ≡ false

-- a segment takes memory, below 2 ^ 32, and has no more bytes than that
pub record IsInRange (s : FileSegment) : Type 0 where
  pub some : 0 < s.size
  pub filled : length s.bytes ≤ s.size
  pub ends : s.addr + s.size ≤ 2 ^ 32
