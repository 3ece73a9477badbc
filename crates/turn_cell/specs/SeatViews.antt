-- What a seat at the cell's table knows, and how that changes.
use Rattle.std.specs.Prelude.{ℕ, List, [], ◌∷◌}
use Rattle.history.specs.declared.events.Entry.{Entry}
use Rattle.history.specs.Layout.{Setting}
use Rattle.atomic_table.specs.Seated.{TableId}
use Rattle.turn_cell.specs.declared.views.RangeView.{RangeView}
use Rattle.turn_cell.specs.declared.views.TurnStage.{TurnStage}
use Rattle.turn_cell.specs.declared.views.TurnStage.TheVariants.{Outside}
use Rattle.turn_cell.specs.declared.views.SeatView.{SeatView}
use Rattle.turn_cell.specs.Cells.{Token, longer_list, no_world}

-- the range of no actor
abbrev pub no_range : RangeView
no_range = record { seen = []; low = 0; high = 0 }

-- what a seat with one range knows
abbrev pub seat_view : ℕ → Setting → List Entry → ℕ → ℕ → TurnStage → SeatView
seat_view actors world seen from upto stage = record { mine = record { seen = seen; low = from; high = upto }; other = no_range; actors = actors; world = world; stage = stage }

-- what the seat of a pass knows, at this stage
abbrev pub seat_view_of : Token → TurnStage → SeatView
seat_view_of t stage = seat_view t.cell.actors t.cell.world t.seen t.low t.high stage

-- the pass whose seat knows what a badge's views say
abbrev pub token_of : TableId → List SeatView → Token
token_of id [] = record { cell = record { id = id; actors = 0; world = no_world }; seen = []; low = 0; high = 0 }
token_of id (v ∷ _) = record { cell = record { id = id; actors = v.actors; world = v.world }; seen = v.mine.seen; low = v.mine.low; high = v.mine.high }

abbrev pub staged : SeatView → TurnStage → SeatView
staged v stage = record { mine = v.mine; other = v.other; actors = v.actors; world = v.world; stage = stage }

-- the whole of this history has been seen
abbrev pub seeing : SeatView → List Entry → TurnStage → SeatView
seeing v history stage = record { mine = record { seen = history; low = v.mine.low; high = v.mine.high }; other = v.other; actors = v.actors; world = v.world; stage = stage }

-- the range is cut in two
abbrev pub below_cut : ℕ → SeatView → SeatView
below_cut at v = record { mine = record { seen = v.mine.seen; low = v.mine.low; high = at }; other = v.other; actors = v.actors; world = v.world; stage = v.stage }

abbrev pub above_cut : ℕ → SeatView → SeatView
above_cut at v = record { mine = record { seen = v.mine.seen; low = at; high = v.mine.high }; other = v.other; actors = v.actors; world = v.world; stage = v.stage }

-- another seat's part is laid beside one's own
abbrev pub beside : SeatView → SeatView → SeatView
beside v w = record { mine = v.mine; other = w.mine; actors = v.actors; world = v.world; stage = v.stage }

-- what that other seat is left with
abbrev pub spent : SeatView
spent = record { mine = no_range; other = no_range; actors = 0; world = no_world; stage = Outside }

-- both parts become one, which has seen the longer list
abbrev pub merged : SeatView → SeatView
merged v = record { mine = record { seen = longer_list v.mine.seen v.other.seen; low = v.mine.low; high = v.other.high }; other = no_range; actors = v.actors; world = v.world; stage = v.stage }

-- the pass by which a seat with this view came
abbrev pub token_at : TableId → SeatView → Token
token_at id v = token_of id (v ∷ [])

-- the pass of the part that was laid beside
abbrev pub token_beside : TableId → SeatView → Token
token_beside id v = record { cell = record { id = id; actors = v.actors; world = v.world }; seen = v.other.seen; low = v.other.low; high = v.other.high }
