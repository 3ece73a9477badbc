-- What of a listing is still to be told.
use Rattle.std.specs.Prelude.{ℕ, ◌+◌, List, [], ◌∷◌, ◌++◌, drop, Result, Ok, Err}
use Rattle.elf32.specs.declared.faults.ElfFault.{ElfFault}
use Rattle.elf32.specs.Files.{FileSegment, Executable, elf_of}
use Rattle.listing.specs.declared.cursor.Cursor.{Cursor}
use Rattle.listing.specs.declared.telling.Listing.{Listing}
use Rattle.listing.specs.Listing.{Item, items, lines_text, items_of}

-- the words and bytes of these segments, without the first bytes of the first of them
abbrev pub items_after : List FileSegment → ℕ → List Item
items_after [] at = []
items_after (segment ∷ more) at = items (segment.addr + at) (drop at segment.bytes) ++ items_of more

-- the rest of the line that is told, and then the lines of what follows
abbrev pub text_left : List FileSegment → Cursor → List ℕ
text_left segments cursor = drop cursor.told cursor.line.items ++ lines_text (items_after (drop cursor.segment segments) cursor.at)

-- the same within the segment's bytes from an address on
abbrev pub lines_left : ℕ → List ℕ → Cursor → List ℕ
lines_left addr bytes cursor = drop cursor.told cursor.line.items ++ lines_text (items (addr + cursor.at) (drop cursor.at bytes))

-- what a file loads, if it is an executable
abbrev pub segments_if : Result Executable ElfFault → List FileSegment
segments_if (Ok file) = file.segments
segments_if (Err fault) = []

abbrev pub listing_left : Listing → List ℕ
listing_left listing = text_left (segments_if (elf_of listing.file.items)) listing.cursor
