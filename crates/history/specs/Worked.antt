-- The definitions computed on small histories, to be read beside them.
use Rattle.std.specs.Prelude.{ℕ, ◌+◌, List, [], ◌∷◌, map, filter, replicate}
use Rattle.std.specs.List.{range_with_len}
use Rattle.history.specs.declared.events.Width.TheVariants.{Word}
use Rattle.history.specs.declared.events.Discipline.{Discipline}
use Rattle.history.specs.declared.events.Act.{Act}
use Rattle.history.specs.declared.events.Act.TheVariants.{Store, Start, Copy, End, Tick, Release}
use Rattle.history.specs.declared.events.Entry.{Entry}
use Rattle.history.specs.declared.ranges.Range.{Range}
use Rattle.history.specs.Layout.{Setting}
use Rattle.history.specs.Memory.{back}
use Rattle.history.specs.Locks.{is_locked}

-- four blocks of 16 bytes from 0x80000000 on, of which blocks 1 and 2 are attested
abbrev pub setting : Setting
setting = record { layout = record { base = 2147483648; size = 16; blocks = 4 }; ranges = record { first = 1; attested = 2 } ∷ []; image = replicate 64 0; cap = 9 }

-- three ranges: blocks 0 and 1, block 3, and blocks 5 and 6
abbrev pub spread : List Range
spread = record { first = 0; attested = 2 } ∷ record { first = 3; attested = 1 } ∷ record { first = 5; attested = 2 } ∷ []

-- eight blocks of 16 bytes, of which those of the three ranges are attested
abbrev pub spread_setting : Setting
spread_setting = record { layout = record { base = 2147483648; size = 16; blocks = 8 }; ranges = spread; image = replicate 128 0; cap = 12 }

-- three blocks of 16 bytes, of which blocks 0 and 2 are attested
abbrev pub two_blocks_apart : Setting
two_blocks_apart = record { layout = record { base = 2147483648; size = 16; blocks = 3 }; ranges = record { first = 0; attested = 1 } ∷ record { first = 2; attested = 1 } ∷ []; image = replicate 48 0; cap = 9 }

-- an entry of this actor
abbrev pub by : ℕ → Act → Entry
by actor act = record { actor = actor; act = act }

-- an entry of the measurer, and one of application 1
abbrev pub measurer : Act → Entry
measurer act = record { actor = 0; act = act }

abbrev pub application : Act → Entry
application act = record { actor = 1; act = act }

-- a pass of a discipline that isn't extended, and one of an extended discipline
abbrev pub short_pass : Discipline → List Entry
short_pass form = map measurer (Start form 7 ∷ Copy 1 ∷ Copy 2 ∷ End ∷ [])

abbrev pub long_pass : Discipline → List Entry
long_pass form = map measurer (Start form 7 ∷ Copy 1 ∷ Copy 2 ∷ End ∷ Tick ∷ Release ∷ [])

-- a pass over the blocks of the three ranges
abbrev pub spread_pass : Discipline → List Act → List Entry
spread_pass form more = map measurer (Start form 7 ∷ Copy 0 ∷ Copy 1 ∷ Copy 3 ∷ Copy 5 ∷ Copy 6 ∷ End ∷ more)

-- the blocks of memory that are locked at the places from 0 up to below the count
abbrev pub locked_blocks : Setting → List Entry → ℕ → List (List ℕ)
locked_blocks w history count = map (λ place. filter (is_locked w (back history place)) (range_with_len 0 w.layout.blocks)) (range_with_len 0 count)

-- the address of a byte of memory, and a store there by application 1
abbrev pub at : ℕ → ℕ
at offset = 2147483648 + offset

abbrev pub stores : ℕ → ℕ → Entry
stores offset value = application (Store (at offset) Word value)

-- a pass, with a store between Start and the first Copy
abbrev pub store_in_pass : Discipline → ℕ → List Entry
store_in_pass form offset = measurer (Start form 7) ∷ stores offset 1 ∷ []
