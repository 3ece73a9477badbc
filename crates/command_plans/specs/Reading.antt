-- The steps that read: a file by its name, and standard input.
use Rattle.std.specs.Prelude.{◌≡◌, ℕ, nat_lt, if◌then◌else◌, List, [], ◌∷◌, length, codes, Option, Some, Result, Ok, Err}
use Rattle.att_base.specs.Files.{Contents, whole_file}
use Rattle.att_base.specs.declared.faults.ReadFault.{ReadFault}
use Rattle.att_base.specs.declared.faults.ReadFault.TheVariants.{TooLong}
use Rattle.command_plans.specs.Lines.{long_line}
use Rattle.command_plans.specs.Steps.{Reason, absent, failed, bad, no_memory, CommandStep}

-- the most bytes of an input: 4 MiB
abbrev pub input_limit : ℕ
input_limit = 4194304

-- the bytes of a file by its name, or what is wrong with it
abbrev pub read_as : List ℕ → Result (List ℕ) ReadFault → Result (List ℕ) Reason
read_as name (Ok bytes) = Ok bytes
read_as name (Err TooLong) = Err (bad (long_line name))
read_as name (Err _) = Err absent

abbrev pub file_bytes : ℕ → List ℕ → Option (List ℕ) → Result (List ℕ) Reason
file_bytes limit name held = read_as name (whole_file limit held)

-- A file comes to what is held under its name, which is what is told, where files tell; or the read fails, or wants
-- memory.
pub data MayRead (limit : ℕ) (name : List ℕ) (files : Option Contents) (came : Result (List ℕ) Reason) : Type 0 where
  found : (held : Option (List ℕ)) → ((known : Contents) → files ≡ Some known → known name ≡ held) → came ≡ file_bytes limit name held → MayRead limit name files came
  unread : came ≡ Err failed → MayRead limit name files came
  spent : came ≡ Err no_memory → MayRead limit name files came

-- A file is read, if it has at most this many bytes: its name is asked for.
abbrev pub ReadFile : ℕ → List ℕ → Option Contents → CommandStep (List ℕ)
ReadFile limit name files asked came = (asked ≡ name ∷ []) × MayRead limit name files came

-- the bytes of standard input, or what is wrong with it
abbrev pub input_bytes : ℕ → List ℕ → Result (List ℕ) Reason
input_bytes limit text = if nat_lt limit (length text) then Err (bad (long_line (codes "-"))) else Ok text

-- Standard input comes to what is left there, which is what is told, where the stream tells; or the read fails, or wants
-- memory.
pub data MayTake (limit : ℕ) (input : Option (List ℕ)) (came : Result (List ℕ) Reason) : Type 0 where
  found : (text : List ℕ) → ((known : List ℕ) → input ≡ Some known → known ≡ text) → came ≡ input_bytes limit text → MayTake limit input came
  unread : came ≡ Err failed → MayTake limit input came
  spent : came ≡ Err no_memory → MayTake limit input came

-- Standard input is read, if it has at most this many bytes. No file is asked for.
abbrev pub ReadInput : ℕ → Option (List ℕ) → CommandStep (List ℕ)
ReadInput limit input asked came = (asked ≡ []) × MayTake limit input came
