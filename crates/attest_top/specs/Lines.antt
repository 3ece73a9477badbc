-- The words of the commands, and the lines that go to standard error.
use Rattle.std.specs.Prelude.{ℕ, List, [], ◌∷◌, codes, Bool, not, ◌&&◌, nat_le, length, if◌then◌else◌, Option, Some, None}
use Rattle.std.specs.List.{list_all}
use Rattle.std.specs.Str.{bytes_eq}
use Rattle.text_readers.specs.Numbers.{plain_decimal}
use Rattle.message_commands.specs.Words.{challenge_of_words}
use Rattle.challenge.specs.declared.Challenge.{Challenge}

-- what the words of a command line ask for
pub data Form : Type 0 where
  script : Form
  asm : List ℕ → List ℕ → Form
  show : List ℕ → Form
  challenge : List ℕ → Challenge → List ℕ → Form
  verify : List ℕ → List ℕ → Option (List ℕ) → Form
  image : List ℕ → List ℕ → Form
  sched : List ℕ → List ℕ → Form
  run : List ℕ → Form
  check : List ℕ → List ℕ → List (List ℕ) → Form
  gen : ℕ → Form

-- a file name is a word of 1 to 255 bytes
abbrev pub is_file_name : List ℕ → Bool
is_file_name word = nat_le 1 (length word) && nat_le (length word) 255

-- `script`
abbrev pub script_form : List ℕ → Option Form
script_form verb = if bytes_eq verb (codes "script") then Some script else None

-- `show ELF`
abbrev pub show_form : List ℕ → List ℕ → Option Form
show_form verb elf = if bytes_eq verb (codes "show") && is_file_name elf then Some (show elf) else None

-- `gen N`
abbrev pub seed_form : Option ℕ → Option Form
seed_form None = None
seed_form (Some seed) = Some (gen seed)

abbrev pub gen_form : List ℕ → List ℕ → Option Form
gen_form verb number = if bytes_eq verb (codes "gen") then seed_form (plain_decimal number) else None

-- `run DEVICE`
abbrev pub run_form : List ℕ → List ℕ → Option Form
run_form verb device = if bytes_eq verb (codes "run") && is_file_name device then Some (run device) else None

-- `asm TEXT ELF`, `verify VERIFIER REPORT`, `image DEVICE OUT` and `sched DEVICE SCHEDULE`
abbrev pub two_files_form : List ℕ → List ℕ → List ℕ → Option Form
two_files_form verb one other =
    if not (is_file_name one && is_file_name other) then None
    else if bytes_eq verb (codes "asm") then Some (asm one other)
    else if bytes_eq verb (codes "verify") then Some (verify one other None)
    else if bytes_eq verb (codes "image") then Some (image one other)
    else if bytes_eq verb (codes "sched") then Some (sched one other)
    else None

-- `verify VERIFIER REPORT NOTE`
abbrev pub note_form : List ℕ → List ℕ → List ℕ → List ℕ → Option Form
note_form verb verifier report note =
    if bytes_eq verb (codes "verify") && (is_file_name verifier && (is_file_name report && is_file_name note)) then Some (verify verifier report (Some note)) else None

-- `challenge KEY DISCIPLINE LEAD HOLD COUNTER NONCE OUT`
abbrev pub asked_form : List ℕ → List ℕ → Option Challenge → Option Form
asked_form key out None = None
asked_form key out (Some asked) = if is_file_name key && is_file_name out then Some (challenge key asked out) else None

abbrev pub challenge_form : List ℕ → List ℕ → Option Challenge → List ℕ → Option Form
challenge_form verb key asked out = if bytes_eq verb (codes "challenge") then asked_form key out asked else None

-- `check TRACE KEY`, and up to 64 names of reports
abbrev pub check_form : List (List ℕ) → Option Form
check_form (verb ∷ trace ∷ key ∷ names) =
    if bytes_eq verb (codes "check") && (nat_le (length names) 64 && list_all is_file_name (trace ∷ key ∷ names)) then Some (check trace key names) else None
check_form _ = None

-- the first of two that is there
abbrev pub first_form : Option Form → Option Form → Option Form
first_form (Some form) other = Some form
first_form None other = other

-- the command on one thread with so many words as these; None where they name none
unfoldable pub counted_form : List (List ℕ) → Option Form
counted_form (verb ∷ []) = script_form verb
counted_form (verb ∷ word ∷ []) = first_form (show_form verb word) (gen_form verb word)
counted_form (verb ∷ one ∷ other ∷ []) = two_files_form verb one other
counted_form (verb ∷ verifier ∷ report ∷ note ∷ []) = note_form verb verifier report note
counted_form (verb ∷ key ∷ discipline ∷ lead ∷ hold ∷ counter ∷ nonce ∷ out ∷ []) = challenge_form verb key (challenge_of_words discipline lead hold counter nonce) out
counted_form _ = None

-- the command on one thread that the words of the command line name; None where they name none
unfoldable pub still_of : List (List ℕ) → Option Form
still_of words = first_form (check_form words) (counted_form words)

-- the command on threads that they name; None where they name none
unfoldable pub run_of : List (List ℕ) → Option Form
run_of (verb ∷ device ∷ []) = run_form verb device
run_of _ = None

-- the command that they name; None where they are in no form
abbrev pub command_of : List (List ℕ) → Option Form
command_of words = first_form (run_of words) (still_of words)

unfoldable pub usage_line : List ℕ
usage_line = codes "attest: usage\n"

unfoldable pub fault_line : List ℕ
fault_line = codes "attest: outside fault\n"

unfoldable pub no_memory_line : List ℕ
no_memory_line = codes "attest: memory\n"
