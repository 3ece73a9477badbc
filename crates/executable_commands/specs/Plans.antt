-- What `asm` and `show` are to do.
use Rattle.std.specs.Prelude.{ℕ, List, [], ◌∷◌, length, codes, Option, Result, Ok, Err}
use Rattle.att_base.specs.Files.{Contents}
use Rattle.command_plans.specs.declared.output.Ending.TheVariants.{Accepted}
use Rattle.command_plans.specs.Lines.{bad_line}
use Rattle.command_plans.specs.Steps.{Reason, bad, CommandStep, exactly, ◌>>=◌}
use Rattle.command_plans.specs.Reading.{input_limit, ReadFile}
use Rattle.command_plans.specs.Written.{Written}
use Rattle.executable.specs.declared.Program.{Program}
use Rattle.rv_asm.specs.Gives.{Spot}
use Rattle.rv_asm.specs.Assembled.{assembled}
use Rattle.executable.specs.Writable.{total_size}
use Rattle.elf32.specs.declared.faults.ElfFault.{ElfFault}
use Rattle.elf32.specs.Files.{Executable, elf_of, fault_number}
use Rattle.elf32.specs.Written.{elf_bytes}
use Rattle.listing.specs.Listing.{listing_of}
use Rattle.executable_commands.specs.Lines.{entry_line}

-- what an assembler text's executable writes
abbrev pub written_assembly : List ℕ → Program → Written
written_assembly elf program = record {
  files = record { name = elf; bytes = elf_bytes program } ∷ [];
  out = entry_line program.entry (length program.segments) (total_size program.segments);
  ending = Accepted;
}

-- the executable of a text, or the line and the kind of its first fault
abbrev pub checked_assembly : List ℕ → List ℕ → Result Program Spot → Result Written Reason
checked_assembly text elf (Ok program) = Ok (written_assembly elf program)
checked_assembly text elf (Err spot) = Err (bad (bad_line text (codes "asm") (spot.line ∷ spot.kind ∷ [])))

-- `asm TEXT ELF`: what the text of this name says
unfoldable pub asm_plan : List ℕ → List ℕ → Option Contents → CommandStep Written
asm_plan text elf files = do
  source ← ReadFile input_limit text files
  exactly (checked_assembly text elf (assembled source))

-- the listing of an executable on standard output, or the first rule that its file breaks
abbrev pub checked_listing : List ℕ → Result Executable ElfFault → Result Written Reason
checked_listing name (Ok file) = Ok (record { files = []; out = listing_of file.segments; ending = Accepted })
checked_listing name (Err fault) = Err (bad (bad_line name (codes "elf") (fault_number fault ∷ [])))

-- `show ELF`: the listing of the executable of this name
unfoldable pub show_plan : List ℕ → Option Contents → CommandStep Written
show_plan elf files = do
  bytes ← ReadFile input_limit elf files
  exactly (checked_listing elf (elf_of bytes))
