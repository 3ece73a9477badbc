-- What the answers of a port say. A port speaks for the actors from low up to below high, and has seen a
-- list of entries, the oldest first: old is what it had seen before a call, new what it has seen after it.
use Rattle.std.specs.Prelude.{◌≡◌, ℕ, ◌+◌, ◌^◌, ◌<◌, ◌≤◌, ◌⊎◌, IsTrue, List, [], ◌∷◌, ◌++◌, length, reverse, All}
use Rattle.history.specs.declared.events.Width.{Width}
use Rattle.history.specs.declared.events.Act.{Act}
use Rattle.history.specs.declared.events.Entry.{Entry}
use Rattle.history.specs.Layout.{Setting, width_bytes}
use Rattle.history.specs.Memory.{memory_after, block_bytes}
use Rattle.history.specs.Locks.{is_locked}
use Rattle.chronicle.specs.declared.answers.Read.{Read}
use Rattle.chronicle.specs.declared.answers.Read.TheVariants as read
use Rattle.chronicle.specs.declared.answers.Stored.{Stored}
use Rattle.chronicle.specs.declared.answers.Stored.TheVariants as store
use Rattle.chronicle.specs.declared.answers.Step.{Step}
use Rattle.chronicle.specs.declared.answers.Step.TheVariants as step

-- the range is one application
abbrev pub IsApplication : ℕ → ℕ → Type 0
IsApplication low high = (1 ≤ low) × (low ≤ 8) × (high ≡ low + 1)

-- the range is the measurer
abbrev pub IsMeasurer : ℕ → ℕ → Type 0
IsMeasurer low high = (low ≡ 0) × (high ≡ 1)

-- No call changes what the port is a port of, its world, or for whom it speaks.
pub record KeepsPort {Owner : Type 0} (owner_old owner_new : Owner) (world_old world_new : Setting) (low_old low_new high_old high_new : ℕ) : Type 0 where
  pub owner : owner_new ≡ owner_old
  pub world : world_new ≡ world_old
  pub low : low_new ≡ low_old
  pub high : high_new ≡ high_old

-- the entry's actor is outside the range
abbrev pub IsBeyond : ℕ → ℕ → Entry → Type 0
IsBeyond low high entry = (entry.actor < low) ⊎ (high ≤ entry.actor)

-- the list has grown by entries of others alone
pub record OthersFollow (low high : ℕ) (old new : List Entry) : Type 0 where
  pub rest : List Entry
  pub whole : new ≡ old ++ rest
  pub beyond : All (IsBeyond low high) rest

-- the list has grown by entries of others and then by this one
pub record AddsEntry (low high : ℕ) (old new : List Entry) (entry : Entry) : Type 0 where
  pub between : List Entry
  pub whole : new ≡ old ++ between ++ entry ∷ []
  pub beyond : All (IsBeyond low high) between

-- an entry of the range's first actor
abbrev pub entry_by : ℕ → Act → Entry
entry_by actor act = record { actor = actor; act = act }

-- The call made its entry, which is the last of the list: so the list's length is its place.
abbrev pub IsDone : ℕ → ℕ → List Entry → List Entry → Act → ℕ → Type 0
IsDone low high old new act place = AddsEntry low high old new (entry_by low act) × (place ≡ length new)

-- The call found the history full, and made no entry.
abbrev pub IsFull : Setting → ℕ → ℕ → List Entry → List Entry → ℕ → Type 0
IsFull w low high old new place = OthersFollow low high old new × (place ≡ w.cap) × (place ≡ length new)

-- The store found its block locked, in a history that wasn't full, and made no entry.
abbrev pub IsAgain : Setting → ℕ → ℕ → List Entry → List Entry → ℕ → ℕ → Type 0
IsAgain w low high old new block place = OthersFollow low high old new × (place ≡ length new) × (length new < w.cap) × IsTrue (is_locked w (reverse new) block)

-- what the answer to a fetch or a load says; the act is the one with the value that was read
abbrev pub HasRead : Setting → ℕ → ℕ → List Entry → List Entry → (ℕ → Act) → Read → Type 0
HasRead w low high old new act (read.Done value place) = IsDone low high old new (act value) place
HasRead w low high old new act (read.Full place) = IsFull w low high old new place

-- what the answer to a store into this block says
abbrev pub HasStored : Setting → ℕ → ℕ → List Entry → List Entry → Act → ℕ → Stored → Type 0
HasStored w low high old new act block (store.Done place) = IsDone low high old new act place
HasStored w low high old new act block (store.Again place) = IsAgain w low high old new block place
HasStored w low high old new act block (store.Full place) = IsFull w low high old new place

-- what the answer to a step of the measurer says
abbrev pub HasStepped : Setting → ℕ → ℕ → List Entry → List Entry → Act → Step → Type 0
HasStepped w low high old new act (step.Done place) = IsDone low high old new act place
HasStepped w low high old new act (step.Full place) = IsFull w low high old new place

-- a value that was read is below 256 to the number of its bytes
abbrev pub ReadsWithin : Width → Read → Type 0
ReadsWithin width (read.Done value place) = value < 256 ^ width_bytes width
ReadsWithin width (read.Full place) = Unit {0}

-- where the copy was made, the buffer has the block's bytes at the copy's own place; else it is as it was
abbrev pub FillsBuffer : Setting → List Entry → ℕ → List ℕ → List ℕ → Step → Type 0
FillsBuffer w new block before after (step.Done place) = after ≡ block_bytes w (memory_after w (reverse new)) block
FillsBuffer w new block before after (step.Full place) = after ≡ before

-- What the answer says where nobody but the port makes entries: the list is the old one with the call's own entry,
-- or the old one. The act of a fetch or a load is the one with the value that was read.
abbrev pub ReadsAlone : ℕ → List Entry → List Entry → (ℕ → Act) → Read → Type 0
ReadsAlone low old new act (read.Done value place) = new ≡ old ++ entry_by low (act value) ∷ []
ReadsAlone low old new act (read.Full place) = new ≡ old

abbrev pub StoresAlone : ℕ → List Entry → List Entry → Act → Stored → Type 0
StoresAlone low old new act (store.Done place) = new ≡ old ++ entry_by low act ∷ []
StoresAlone low old new act (store.Again place) = new ≡ old
StoresAlone low old new act (store.Full place) = new ≡ old

abbrev pub StepsAlone : ℕ → List Entry → List Entry → Act → Step → Type 0
StepsAlone low old new act (step.Done place) = new ≡ old ++ entry_by low act ∷ []
StepsAlone low old new act (step.Full place) = new ≡ old
