-- The byte form of reports, every byte by its place, and what reading it answers. The highest byte of a number comes
-- first.
use Rattle.std.specs.Prelude.{◌≡◌, ℕ, zero, suc, ◌+◌, ◌-◌, ◌/◌, ◌^◌, ◌<◌, ◌≤◌, Bool, ◌&&◌, ◌==◌, nat_le, if◌then◌else◌, List, [], ◌∷◌, ◌++◌, length, take, drop, slice_index, Option, Some, None}
use Rattle.std.specs.Option.{option_and_then}
use Rattle.std.specs.Str.{bytes_eq}
use Rattle.history.specs.declared.events.Discipline.{Discipline}
use Rattle.history.specs.declared.ranges.Range.{Range}
use Rattle.history.specs.Attested.{IsRanges, are_ranges, last_end, total}
use Rattle.history.specs.Layout.{Layout, IsLayout, is_layout}
use Rattle.challenge.specs.Challenges.{Asked}
use Rattle.challenge.specs.Numbers.{u32_at, u64_at, discipline_with}
use Rattle.chronicle.specs.declared.worlds.Shape.{Shape}
use Rattle.report.specs.declared.Report.{Report}
use Rattle.report.specs.Tags.{head_bytes, tail_bytes}

-- the memory that ends with the last attested block
abbrev pub attested_layout : Shape → Layout
attested_layout shape = record { base = shape.base; size = shape.size; blocks = last_end shape.ranges }

-- a report that a measurement may answer: the attested blocks lie in a memory that a device may have, in ranges that
-- it may have, and between Start and End is room for a Copy of each
pub record IsReport (r : Report) : Type 0 where
  pub memory : IsLayout (attested_layout r.shape)
  pub ranges : IsRanges r.shape.ranges
  pub start : 1 ≤ r.start
  pub end : r.start + total r.shape.ranges + 1 ≤ r.end

-- each number and each list of bytes has the width of its field
pub record FitsReport (r : Report) : Type 0 where
  pub counter : r.counter < 2 ^ 64
  pub nonce : length r.nonce ≡ 16
  pub base : r.shape.base < 2 ^ 32
  pub size : r.shape.size < 2 ^ 32
  pub start : r.start < 2 ^ 64
  pub end : r.end < 2 ^ 64
  pub tag : length r.tag ≡ 32

-- what the report says that it was asked for
abbrev pub asked_of : Report → Asked
asked_of r = record { discipline = r.discipline; counter = r.counter; nonce = r.nonce }

-- the bytes of a report: 96 where its shape has one range, 92 and 8 for each where it has more
unfoldable pub report_bytes : Report → List ℕ
report_bytes r = head_bytes (asked_of r) r.shape ++ tail_bytes r.start r.end ++ r.tag

-- the bytes are those of this report, which is in the grammar
pub record SpellsReport (bytes : List ℕ) (r : Report) : Type 0 where
  pub grammar : IsReport r
  pub fits : FitsReport r
  pub spelling : bytes ≡ report_bytes r

-- what reading answers: the report whose bytes these are; or that they are those of none
abbrev pub IsReportReading : List ℕ → Option Report → Type 0
IsReportReading bytes (Some r) = SpellsReport bytes r
IsReportReading bytes None = (r : Report) → SpellsReport bytes r → ⊥

-- the same as a function, for definitions above that compute

-- IsReport as a test
abbrev pub is_report : Report → Bool
is_report r = is_layout (attested_layout r.shape) && are_ranges r.shape.ranges && nat_le 1 r.start && nat_le (r.start + total r.shape.ranges + 1) r.end

-- the range whose two numbers stand at this place
abbrev pub range_at : List ℕ → ℕ → Range
range_at bytes place = record { first = u32_at bytes place; attested = u32_at bytes (place + 4) }

-- so many ranges, one after the other from this place on
abbrev pub ranges_at : List ℕ → ℕ → ℕ → List Range
ranges_at bytes place zero = []
ranges_at bytes place (suc count) = range_at bytes place ∷ ranges_at bytes (place + 8) count

-- the ranges in a report with so many bytes: the one of 96 bytes, or as many as there is room for
abbrev pub report_ranges : List ℕ → List Range
report_ranges bytes = if length bytes == 96 then ranges_at bytes 40 1 else ranges_at bytes 44 ((length bytes - 92) / 8)

-- the shape whose numbers stand at their places in a report
abbrev pub shape_at : List ℕ → Shape
shape_at bytes = record { base = u32_at bytes 32; size = u32_at bytes 36; ranges = report_ranges bytes }

-- the report with this discipline whose other fields stand at their places; the last three count from the end
abbrev pub report_at : List ℕ → Discipline → Report
report_at bytes discipline = record {
  discipline = discipline;
  counter = u64_at bytes 8;
  nonce = take 16 (drop 16 bytes);
  shape = shape_at bytes;
  start = u64_at bytes (length bytes - 48);
  end = u64_at bytes (length bytes - 40);
  tag = drop (length bytes - 32) bytes;
}

-- the report, if it is in the grammar and these are its bytes
abbrev pub if_report : List ℕ → Report → Option Report
if_report bytes r = if is_report r && bytes_eq (report_bytes r) bytes then Some r else None

-- the report that these bytes are
unfoldable pub report_in : List ℕ → Option Report
report_in bytes = option_and_then (λ discipline. if_report bytes (report_at bytes discipline)) (discipline_with (slice_index bytes 4))
