-- What files in memory show, and what a call leaves of them.
use Rattle.std.specs.Prelude.{ℕ, suc, ◌/◌, List, [], ◌∷◌, ◌++◌, length, take, bytes_eq, if◌then◌else◌, None, Some, Result, Ok, Err}
use Rattle.att_base.specs.Faults.{one_more}
use Rattle.att_base.specs.Files.{Contents, NamedBytes, bytes_or_nothing}
use Rattle.att_base.specs.declared.faults.ReadFault.{ReadFault}
use Rattle.att_base.specs.declared.faults.ReadFault.TheVariants as reads
use Rattle.att_base.specs.declared.faults.FileFault.{FileFault}
use Rattle.att_base.specs.declared.faults.FileFault.TheVariants.{Failed, Memory}

-- the files in memory, in the order in which they were made, the numbers of the calls that fail, the number of
-- the next call, and the count of faults
pub record FilesState : Type 0 where
  pub files : List NamedBytes
  pub fails : List ℕ
  pub next : ℕ
  pub faults : ℕ

-- what such files hold; of two files with one name the first is seen
abbrev pub held_in : List NamedBytes → Contents
held_in [] name = None
held_in (file ∷ files) name = if bytes_eq file.name name then Some file.bytes else held_in files name

-- the place of the first file of this name, or the number of files
abbrev pub file_index : List NamedBytes → List ℕ → ℕ
file_index [] name = 0
file_index (file ∷ files) name = if bytes_eq file.name name then 0 else suc (file_index files name)

-- the file of this name has these bytes; a new one comes last
abbrev pub put_file : List NamedBytes → List ℕ → List ℕ → List NamedBytes
put_file [] name bytes = record { name = name; bytes = bytes } ∷ []
put_file (file ∷ files) name bytes = if bytes_eq file.name name then record file { bytes = bytes } ∷ files else file ∷ put_file files name bytes

-- the file of this name has the piece at its end; a new one comes last
abbrev pub add_file : List NamedBytes → List ℕ → List ℕ → List NamedBytes
add_file files name piece = put_file files name (bytes_or_nothing (held_in files name) ++ piece)

-- files that are made
abbrev pub new_files : List NamedBytes → List ℕ → FilesState
new_files files fails = record { files = files; fails = fails; next = 0; faults = 0 }

-- the files after a call that left these
abbrev pub files_after : FilesState → List NamedBytes → FilesState
files_after s files = record s { files = files; next = one_more s.next }

-- the files after a call that failed and left these
abbrev pub files_failed : FilesState → List NamedBytes → FilesState
files_failed s files = record s { files = files; next = one_more s.next; faults = one_more s.faults }

-- what each answer of a read leaves
abbrev pub after_read : {V : Type 0} → FilesState → Result V ReadFault → FilesState
after_read s (Ok v) = files_after s s.files
after_read s (Err reads.Failed) = files_failed s s.files
after_read s (Err reads.TooLong) = files_after s s.files
after_read s (Err reads.Memory) = files_after s s.files
after_read s (Err reads.Missing) = files_after s s.files

-- what each answer of a clear leaves
abbrev pub after_clear : {V : Type 0} → FilesState → List ℕ → Result V FileFault → FilesState
after_clear s name (Ok v) = files_after s (put_file s.files name [])
after_clear s name (Err Failed) = files_failed s s.files
after_clear s name (Err Memory) = files_after s s.files

-- what each answer of an append leaves: one that fails has appended the first half of the piece
abbrev pub after_append : {V : Type 0} → FilesState → List ℕ → List ℕ → Result V FileFault → FilesState
after_append s name piece (Ok v) = files_after s (add_file s.files name piece)
after_append s name piece (Err Failed) = files_failed s (add_file s.files name (take (length piece / 2) piece))
after_append s name piece (Err Memory) = files_after s s.files
