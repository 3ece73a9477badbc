-- What files hold under their names, and what a call does to it.
-- Files that don't tell have `None`. A clause equates the old and the new content, so it holds there too.
use Rattle.std.specs.Prelude.{◌≡◌, ℕ, ◌≤◌, List, [], ◌++◌, length, take, nat_le, bytes_eq, if◌then◌else◌, Option, None, Some, Result, Ok, Err, IsOk}
use Rattle.att_base.specs.Faults.{FaultCountRose}
use Rattle.att_base.specs.declared.faults.ReadFault.{ReadFault}
use Rattle.att_base.specs.declared.faults.ReadFault.TheVariants.{Failed, TooLong, Memory, Missing}
use Rattle.att_base.specs.declared.faults.FileFault.{FileFault}
use Rattle.att_base.specs.declared.faults.FileFault.TheVariants as files

-- a name that a file may have
abbrev pub IsName : List ℕ → Type 0
IsName name = (1 ≤ length name) × (length name ≤ 255)

-- the bytes under each name, and `None` where nothing has the name
abbrev pub Contents : Type 0
Contents = List ℕ → Option (List ℕ)

-- What files show: what they hold and which names they have been asked for so far, in order, each where it is told;
-- and how often a call has failed, up to `2^64 - 1`.
pub record FilesView : Type 0 where
  pub held : Option Contents
  pub asked : Option (List (List ℕ))
  pub faults : ℕ

-- a file: its name and its bytes
pub record NamedBytes : Type 0 where
  pub name : List ℕ
  pub bytes : List ℕ

-- these bytes under this name, and under each other name what was there
abbrev pub with_name : Contents → List ℕ → List ℕ → Contents
with_name held name bytes other = if bytes_eq name other then Some bytes else held other

-- the name has these bytes, whatever it had
abbrev pub put_under : Option Contents → List ℕ → List ℕ → Option Contents
put_under None name bytes = None
put_under (Some held) name bytes = Some (with_name held name bytes)

-- the bytes of a file, and no byte where there is no file
abbrev pub bytes_or_nothing : Option (List ℕ) → List ℕ
bytes_or_nothing None = []
bytes_or_nothing (Some bytes) = bytes

-- the name has what it had and then the piece; it is made where nothing had it
abbrev pub add_under : Option Contents → List ℕ → List ℕ → Option Contents
add_under None name piece = None
add_under (Some held) name piece = Some (with_name held name (bytes_or_nothing (held name) ++ piece))

-- all is as it was, or a front of the piece has been appended
pub data AddsFront (old new : Option Contents) (name piece : List ℕ) : Type 0 where
  unchanged : new ≡ old → AddsFront old new name piece
  grown : (count : ℕ) → count ≤ length piece → new ≡ add_under old name (take count piece) → AddsFront old new name piece

-- all is as it was, or the name has a front of the bytes
pub data PutsFront (old new : Option Contents) (name bytes : List ℕ) : Type 0 where
  untouched : new ≡ old → PutsFront old new name bytes
  begun : (count : ℕ) → count ≤ length bytes → new ≡ put_under old name (take count bytes) → PutsFront old new name bytes

-- what a file that is held so comes to, read whole: its bytes, or the first thing that is wrong
abbrev pub whole_file : ℕ → Option (List ℕ) → Result (List ℕ) ReadFault
whole_file limit None = Err Missing
whole_file limit (Some bytes) = if nat_le (length bytes) limit then Ok bytes else Err TooLong

-- what was answered is what the file comes to, but for a fault; memory is wanted only for bytes that are there
abbrev pub ReadsWhole : {V : Type 0} → (V → List ℕ) → Result (List ℕ) ReadFault → Result V ReadFault → Type 0
ReadsWhole items whole (Ok v) = whole ≡ Ok (items v)
ReadsWhole items whole (Err Failed) = Unit {0}
ReadsWhole items whole (Err TooLong) = whole ≡ Err TooLong
ReadsWhole items whole (Err Memory) = IsOk whole
ReadsWhole items whole (Err Missing) = whole ≡ Err Missing

-- the names that have been asked for, and then these, where they are told
abbrev pub asked_more : List (List ℕ) → Option (List (List ℕ)) → Option (List (List ℕ))
asked_more names None = None
asked_more names (Some before) = Some (before ++ names)

-- That nothing has the name raises the count of faults only where what is held isn't told.
abbrev pub CountsAbsent : Option Contents → ℕ → ℕ → Type 0
CountsAbsent None before now = FaultCountRose before now
CountsAbsent (Some known) before now = now ≡ before

-- the count of faults behind a read that was refused: risen where the read failed, and else as it was
abbrev pub CountsRefusal : ReadFault → Option Contents → ℕ → ℕ → Type 0
CountsRefusal Failed held before now = FaultCountRose before now
CountsRefusal TooLong held before now = now ≡ before
CountsRefusal Memory held before now = now ≡ before
CountsRefusal Missing held before now = CountsAbsent held before now

-- the count of faults behind a read
abbrev pub CountsRead : {V : Type 0} → Result V ReadFault → Option Contents → ℕ → ℕ → Type 0
CountsRead (Ok v) held before now = now ≡ before
CountsRead (Err fault) held before now = CountsRefusal fault held before now

-- the count of faults behind a call that writes: risen where the call failed, and else as it was
abbrev pub CountsWrite : {V : Type 0} → Result V FileFault → ℕ → ℕ → Type 0
CountsWrite (Ok v) before now = now ≡ before
CountsWrite (Err files.Failed) before now = FaultCountRose before now
CountsWrite (Err files.Memory) before now = now ≡ before
