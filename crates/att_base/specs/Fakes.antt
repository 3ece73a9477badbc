-- What a source and a sink in memory show, and what a call leaves of it.
use Rattle.std.specs.Prelude.{ℕ, List, [], ◌++◌, take, drop}
use Rattle.att_base.specs.Faults.{one_more}

-- a source in memory: what is left, the most bytes that a call moves, the numbers of the calls that fail,
-- the number of the next call, and the count of faults
pub record SourceState : Type 0 where
  pub left : List ℕ
  pub step : ℕ
  pub fails : List ℕ
  pub next : ℕ
  pub faults : ℕ

-- a sink in memory: what is held, the most bytes that it holds, and the rest as for a source
pub record SinkState : Type 0 where
  pub held : List ℕ
  pub room : ℕ
  pub step : ℕ
  pub fails : List ℕ
  pub next : ℕ
  pub faults : ℕ

-- the source after a call that moved n bytes
abbrev pub source_after : SourceState → ℕ → SourceState
source_after s n = record s { left = drop n s.left; next = one_more s.next }

-- the source after a call that failed
abbrev pub source_failed : SourceState → SourceState
source_failed s = record s { next = one_more s.next; faults = one_more s.faults }

-- the sink after a call that took the first n bytes of a piece
abbrev pub sink_after : SinkState → List ℕ → ℕ → SinkState
sink_after s piece n = record s { held = s.held ++ take n piece; next = one_more s.next }

-- the sink after a call that failed
abbrev pub sink_failed : SinkState → SinkState
sink_failed s = record s { next = one_more s.next; faults = one_more s.faults }

-- a source that is made
abbrev pub new_source : List ℕ → ℕ → List ℕ → SourceState
new_source bytes step fails = record { left = bytes; step = step; fails = fails; next = 0; faults = 0 }

-- a sink that is made
abbrev pub new_sink : ℕ → ℕ → List ℕ → SinkState
new_sink room step fails = record { held = []; room = room; step = step; fails = fails; next = 0; faults = 0 }
