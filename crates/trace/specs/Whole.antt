-- Which texts are traces, and where another text leaves their grammar.
use Rattle.std.specs.Prelude.{◌≡◌, ℕ, ◌-◌, ◌≤◌, List, ◌++◌, length, take, All}
use Rattle.history.specs.Layout.{IsSetting}
use Rattle.chronicle.specs.Worlds.{Recorded}
use Rattle.trace.specs.Text.{text_of_lines, trace_lines, trace_text}
use Rattle.trace.specs.Printable.{IsPrintable}
use Rattle.trace.specs.declared.text_reading.TraceFault.{TraceFault}
use Rattle.trace.specs.declared.text_reading.TraceFault.TheVariants.{Line, Memory}

-- what a trace may record: a setting that a device may have, and at most 4,000,000 entries in the ranges of the text
pub record IsTraceable (kept : Recorded) : Type 0 where
  pub setting : IsSetting kept.world
  pub few : length kept.entries ≤ 4000000
  pub printable : All IsPrintable kept.entries

-- the text is the trace of what is recorded
pub record IsTrace (text : List ℕ) (kept : Recorded) : Type 0 where
  pub traceable : IsTraceable kept
  pub spelled : text ≡ trace_text kept.world kept.entries

-- the text begins with n lines, each with its end, that are the first lines of some trace
pub record BeginsTrace (text : List ℕ) (n : ℕ) : Type 0 where
  pub kept : Recorded
  pub traceable : IsTraceable kept
  pub enough : n ≤ length (trace_lines kept.world kept.entries)
  pub rest : List ℕ
  pub spelled : text ≡ text_of_lines (take n (trace_lines kept.world kept.entries)) ++ rest

-- Line n, counted from 1, is the first at which a text leaves the grammar of traces: the lines before it begin a trace, and
-- with it none begins. A line that is missing, or has no end, begins none; so does one behind a whole trace.
pub record LeavesAt (text : List ℕ) (n : ℕ) : Type 0 where
  pub from : 1 ≤ n
  pub before : BeginsTrace text (n - 1)
  pub here : BeginsTrace text n → ⊥
  pub none : (kept : Recorded) → IsTrace text kept → ⊥

-- the fault tells the line; want of memory tells nothing
abbrev pub TellsLine : List ℕ → TraceFault → Type 0
TellsLine text (Line n) = LeavesAt text n
TellsLine text Memory = Unit {0}
