-- The histories that plain memory and the order of a measurement allow: six rules for each entry.
use Rattle.std.specs.Prelude.{ℕ, ◌<◌, Bool, true, false, not, ◌&&◌, ◌||◌, ◌==◌, nat_le, IsTrue, List, [], ◌∷◌, length, reverse, Option, Some, None}
use Rattle.history.specs.declared.events.Width.TheVariants.{Word}
use Rattle.history.specs.declared.events.Act.{Act}
use Rattle.history.specs.declared.events.Act.TheVariants.{Fetch, Load, Store, Start, Copy, End, Tick, Release}
use Rattle.history.specs.declared.events.Entry.{Entry}
use Rattle.history.specs.Attested.{is_attested, index_of, total}
use Rattle.history.specs.Layout.{Setting, fits, is_aligned, block_of}
use Rattle.history.specs.Memory.{memory_after, value_in}
use Rattle.history.specs.Pass.{Pass, pass_after, copied_of, is_ended, is_released, is_extended, is_open}
use Rattle.history.specs.Locks.{is_locked}

-- an access of an application, and not a step of the measurer
abbrev pub is_access : Act → Bool
is_access (Fetch addr value) = true
is_access (Load addr width value) = true
is_access (Store addr width value) = true
is_access _ = false

-- the actor may make entries of this kind: applications are 1 to 8, the measurer is 0
abbrev pub actor_fits : Entry → Bool
actor_fits entry = (is_access entry.act && nat_le 1 entry.actor && nat_le entry.actor 8) || (not (is_access entry.act) && (entry.actor == 0))

-- the access lies in memory and is aligned; a fetch is of a word
abbrev pub in_range : Setting → Act → Bool
in_range w (Fetch addr value) = fits w.layout addr Word && is_aligned addr Word
in_range w (Load addr width value) = fits w.layout addr width && is_aligned addr width
in_range w (Store addr width value) = fits w.layout addr width && is_aligned addr width
in_range w _ = true

-- what is read is what memory has after these entries
abbrev pub value_fits : Setting → List Entry → Act → Bool
value_fits w past (Fetch addr value) = value == value_in (memory_after w past) addr Word
value_fits w past (Load addr width value) = value == value_in (memory_after w past) addr width
value_fits w past _ = true

-- no store goes into a locked block
abbrev pub lock_allows : Setting → List Entry → Act → Bool
lock_allows w past (Store addr width value) = not (is_locked w past (block_of w.layout addr))
lock_allows w past _ = true

-- the pass copies this block next: the attested block whose index is the number of blocks copied so far
abbrev pub copies_next : Setting → Pass → ℕ → Bool
copies_next w pass block = not (is_ended pass) && is_attested w.ranges block && (index_of w.ranges block == copied_of pass)

-- the order of a measurement: Start only where no pass is open; Copy of each attested block by rising
-- address; End after the last Copy; Release after End, in an extended discipline, once
abbrev pub in_order : Setting → Option Pass → Act → Bool
in_order w None (Start discipline counter) = true
in_order w (Some pass) (Start discipline counter) = not (is_open pass)
in_order w None (Copy block) = false
in_order w (Some pass) (Copy block) = copies_next w pass block
in_order w None End = false
in_order w (Some pass) End = not (is_ended pass) && (copied_of pass == total w.ranges)
in_order w None Release = false
in_order w (Some pass) Release = is_extended pass.discipline && is_ended pass && not (is_released pass)
in_order w pass (Fetch addr value) = true
in_order w pass (Load addr width value) = true
in_order w pass (Store addr width value) = true
in_order w pass Tick = true

-- the entry may follow these entries, the newest first
pub record MayFollow (w : Setting) (past : List Entry) (entry : Entry) : Type 0 where
  pub actor : IsTrue (actor_fits entry)
  pub range : IsTrue (in_range w entry.act)
  pub value : IsTrue (value_fits w past entry.act)
  pub lock : IsTrue (lock_allows w past entry.act)
  pub order : IsTrue (in_order w (pass_after past) entry.act)
  pub cap : length past < w.cap

-- each entry may follow those before it; the newest first
abbrev pub IsLegalBack : Setting → List Entry → Type 0
IsLegalBack w [] = Unit {0}
IsLegalBack w (entry ∷ past) = IsLegalBack w past × MayFollow w past entry

-- the history is legal
abbrev pub IsLegal : Setting → List Entry → Type 0
IsLegal w history = IsLegalBack w (reverse history)
