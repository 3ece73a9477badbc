-- What contracts see of a cell, of the passes to it and of a turn.
use Rattle.std.specs.Prelude.{◌≡◌, ℕ, ◌<◌, ◌≤◌, ◌⊎◌, nat_lt, if◌then◌else◌, List, [], ◌∷◌, ◌++◌, length, All}
use Rattle.atomic_table.specs.Seated.{TableId}
use Rattle.history.specs.declared.events.Entry.{Entry}
use Rattle.history.specs.Layout.{Setting}

-- which cell it is, how many actors it is for, and the world that its value has and keeps
pub record Cell : Type 0 where
  pub id : TableId
  pub actors : ℕ
  pub world : Setting

-- A pass: the cell that it is to, the entries that its holder has seen, the oldest first, and the actors
-- that it speaks for, from low up to below high.
pub record Token : Type 0 where
  pub cell : Cell
  pub seen : List Entry
  pub low : ℕ
  pub high : ℕ

-- A turn: the pass that entered, with all that was seen then, and the value as it is.
pub record InTurn (T : Type 0) : Type 0 where
  pub pass : Token
  pub value : T

-- the pass to a cell for these actors, at which this history has been seen
abbrev pub token : Cell → List Entry → ℕ → ℕ → Token
token cell history from upto = record { cell = cell; seen = history; low = from; high = upto }

-- what stands where no world and no pass is meant
abbrev pub no_world : Setting
no_world = record { layout = record { base = 0; size = 0; blocks = 0 }; ranges = []; image = []; cap = 0 }

abbrev pub no_pass : Token
no_pass = record { cell = record { id = record { words = 0; slots = 0; views_name = 0; atom = 0; block = 0; offset = 0; slot_names = [] }; actors = 0; world = no_world }; seen = []; low = 0; high = 0 }

-- each entry has an actor below this number
abbrev pub AllBelow : ℕ → List Entry → Type 0
AllBelow actors history = All (λ entry. entry.actor < actors) history

-- the entry's actor is in the range
abbrev pub ActorIsWithin : ℕ → ℕ → Entry → Type 0
ActorIsWithin low high entry = (low ≤ entry.actor) × (entry.actor < high)

-- one entry came, by an actor of the range
pub record AddsOne (low high : ℕ) (old new : List Entry) : Type 0 where
  pub entry : Entry
  pub whole : new ≡ old ++ entry ∷ []
  pub within : ActorIsWithin low high entry

-- none came, or one
abbrev pub AddsAtMostOne : ℕ → ℕ → List Entry → List Entry → Type 0
AddsAtMostOne low high old new = (new ≡ old) ⊎ AddsOne low high old new

-- the longer of two lists
abbrev pub longer_list : List Entry → List Entry → List Entry
longer_list a b = if nat_lt (length a) (length b) then b else a
