-- What a core is asked and what it answers.
use Rattle.std.specs.Prelude.{◌≡◌, ℕ, ◌^◌, ◌<◌, Bool, true, false, List, [], ◌∷◌, ◌++◌, length, reverse}
use Rattle.history.specs.declared.events.Width.{Width}
use Rattle.history.specs.declared.events.Width.TheVariants.{Word}
use Rattle.history.specs.declared.events.Act.{Act}
use Rattle.history.specs.declared.events.Act.TheVariants as act
use Rattle.history.specs.declared.events.Entry.{Entry}
use Rattle.history.specs.Layout.{block_of, width_bytes}
use Rattle.history.specs.Memory.{memory_after, block_bytes, value_in}
use Rattle.history.specs.Locks.{is_locked}
use Rattle.chronicle.specs.Ports.{entry_by}
use Rattle.mem_core.specs.declared.wants.Want.{Want}
use Rattle.mem_core.specs.declared.wants.Want.TheVariants.{Fetch, Load, Store, Start, End, Tick, Release}
use Rattle.mem_core.specs.declared.wants.Answer.{Answer}
use Rattle.mem_core.specs.declared.wants.Answer.TheVariants.{Done, Again, Full}
use Rattle.mem_core.specs.Cores.{Core}

-- the act that is wanted, with the value that was read
abbrev pub act_wanted : Want → ℕ → Act
act_wanted (Fetch addr) read = act.Fetch addr read
act_wanted (Load addr width) read = act.Load addr width read
act_wanted (Store addr width value) read = act.Store addr width value
act_wanted (Start discipline counter) read = act.Start discipline counter
act_wanted End read = act.End
act_wanted Tick read = act.Tick
act_wanted Release read = act.Release

-- what is read: the bytes of memory as it is now; 0 where nothing is read
abbrev pub value_read : Core → Want → ℕ
value_read core (Fetch addr) = value_in (memory_after core.world (reverse core.history)) addr Word
value_read core (Load addr width) = value_in (memory_after core.world (reverse core.history)) addr width
value_read core (Store addr width value) = 0
value_read core (Start discipline counter) = 0
value_read core End = 0
value_read core Tick = 0
value_read core Release = 0

-- a stored value is below 256 to the number of its bytes
abbrev pub StoresWithin : Want → Type 0
StoresWithin (Store addr width value) = value < 256 ^ width_bytes width
StoresWithin (Fetch addr) = Unit {0}
StoresWithin (Load addr width) = Unit {0}
StoresWithin (Start discipline counter) = Unit {0}
StoresWithin End = Unit {0}
StoresWithin Tick = Unit {0}
StoresWithin Release = Unit {0}

-- it is a store into a block that is locked now
abbrev pub has_to_wait : Core → Want → Bool
has_to_wait core (Store addr width value) = is_locked core.world (reverse core.history) (block_of core.world.layout addr)
has_to_wait core (Fetch addr) = false
has_to_wait core (Load addr width) = false
has_to_wait core (Start discipline counter) = false
has_to_wait core End = false
has_to_wait core Tick = false
has_to_wait core Release = false

-- the core with one entry more
abbrev pub core_with : Core → Entry → Core
core_with core entry = record core { history = core.history ++ entry ∷ [] }

-- The event was made: there was room for its entry, and it didn't have to wait.
pub record Makes (old new : Core) (actor : ℕ) (want : Want) (value place : ℕ) : Type 0 where
  pub room : length old.history < old.world.cap
  pub free : has_to_wait old want ≡ false
  pub read : value ≡ value_read old want
  pub grown : new ≡ core_with old (entry_by actor (act_wanted want (value_read old want)))
  pub at : place ≡ length new.history

-- The store has to wait, in a history with room.
pub record Waits (old new : Core) (want : Want) (place : ℕ) : Type 0 where
  pub room : length old.history < old.world.cap
  pub locked : has_to_wait old want ≡ true
  pub same : new ≡ old
  pub at : place ≡ length old.history

-- The history is full.
pub record FindsFull (old new : Core) (place : ℕ) : Type 0 where
  pub full : length old.history ≡ old.world.cap
  pub same : new ≡ old
  pub at : place ≡ length old.history

-- what each answer says; no two of them can hold of one state
abbrev pub HasAnswered : Core → Core → ℕ → Want → Answer → Type 0
HasAnswered old new actor want (Done value place) = Makes old new actor want value place
HasAnswered old new actor want (Again place) = Waits old new want place
HasAnswered old new actor want (Full place) = FindsFull old new place

-- The copy was made: the buffer has the block's bytes.
pub record Copies (old new : Core) (block : ℕ) (after : List ℕ) (value place : ℕ) : Type 0 where
  pub room : length old.history < old.world.cap
  pub read : value ≡ 0
  pub grown : new ≡ core_with old (entry_by 0 (act.Copy block))
  pub at : place ≡ length new.history
  pub bytes : after ≡ block_bytes old.world (memory_after old.world (reverse old.history)) block

-- what the answer to a copy says: it never has to wait, and where the history is full the buffer stays
abbrev pub HasAnsweredCopy : Core → Core → ℕ → List ℕ → List ℕ → Answer → Type 0
HasAnsweredCopy old new block before after (Done value place) = Copies old new block after value place
HasAnsweredCopy old new block before after (Again place) = ⊥
HasAnsweredCopy old new block before after (Full place) = FindsFull old new place × (after ≡ before)

-- how many bytes the answer's value may have: a load's width, and else those of a word
abbrev pub width_answered : Want → Width
width_answered (Load addr width) = width
width_answered (Fetch addr) = Word
width_answered (Store addr width value) = Word
width_answered (Start discipline counter) = Word
width_answered End = Word
width_answered Tick = Word
width_answered Release = Word

-- the value is below 256 to the number of these bytes
abbrev pub AnswersWithin : Want → Answer → Type 0
AnswersWithin want (Done value place) = value < 256 ^ width_bytes (width_answered want)
AnswersWithin want (Again place) = Unit {0}
AnswersWithin want (Full place) = Unit {0}
