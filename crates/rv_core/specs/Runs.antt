-- What an application's program is: which accesses to memory it makes, one after the other, and how it ends.
--
-- The definition reads a finished list of entries from the left, an instruction at a time: a Fetch; a Fetch and its one
-- Load; a Fetch and its one Store. A run may end between a Fetch and its
-- access; then what is asked there is the access.
use Rattle.std.specs.Prelude.{◌≡◌, ℕ, ◌-◌, ◌%◌, ◌^◌, Bool, false, ◌&&◌, ◌==◌, nat_lt, if◌then◌else◌, List, [], ◌∷◌, ◌++◌, length, replicate, slice_index, slice_set, Option, Some, None, option_map, is_none, unwrap_or}
use Rattle.history.specs.declared.events.Width.{Width}
use Rattle.history.specs.declared.events.Width.TheVariants.{Word}
use Rattle.history.specs.declared.events.Act.{Act}
use Rattle.history.specs.declared.events.Act.TheVariants.{Fetch, Load, Store}
use Rattle.history.specs.declared.events.Entry.{Entry}
use Rattle.history.specs.Layout.{Layout, width_bytes, fits, is_aligned}
use Rattle.rv_core.specs.declared.waits.TrapKind.{TrapKind}
use Rattle.rv_core.specs.declared.waits.TrapKind.TheVariants.{FetchAccess, LoadAccess, LoadMisaligned, StoreAccess, StoreMisaligned, UnknownCall}
use Rattle.rv_core.specs.declared.waits.Ending.{Ending}
use Rattle.rv_core.specs.declared.waits.Ending.TheVariants.{Exit, Trap, Fuel}
use Rattle.rv_core.specs.declared.waits.CoreWant.{CoreWant}
use Rattle.rv_core.specs.declared.waits.CoreWant.TheVariants.{Fetch as WantFetch, Load as WantLoad, Store as WantStore, Ended}
use Rattle.rv_core.specs.declared.waits.Effect.{Effect}
use Rattle.rv_core.specs.declared.waits.Effect.TheVariants.{Writes, Goes, Loads, Stores, Calls, Traps}
use Rattle.rv_core.specs.Effects.{effect_of, extended, next, with_register}

-- ---- a core

-- a core between two instructions: where memory lies, the 32 registers, the pc, and the bytes of the console
pub record CoreState : Type 0 where
  pub layout : Layout
  pub registers : List ℕ
  pub pc : ℕ
  pub console : List ℕ

-- a core as it starts: all registers are 0 but x2, the stack pointer
abbrev pub started : Layout → ℕ → ℕ → CoreState
started layout pc sp = record { layout = layout; registers = slice_set (replicate 32 0) 2 sp; pc = pc; console = [] }

-- the registers a0, the argument and the result of a call of the environment, and a7, its number
abbrev pub a0 : CoreState → ℕ
a0 core = slice_index core.registers 10

abbrev pub a7 : CoreState → ℕ
a7 core = slice_index core.registers 17

-- ---- an instruction

-- this access, or the trap in its place: where its address isn't divisible by its width, else where it lies outside memory
abbrev pub allowed : CoreState → ℕ → Width → TrapKind → TrapKind → CoreWant → CoreWant
allowed core addr width misaligned outside access =
    if is_aligned addr width
    then (if fits core.layout addr width then access else Ended (Trap outside core.pc))
    else Ended (Trap misaligned core.pc)

-- a call of the environment: 93 ends the application with a0, 1 prints and asks nothing, and there is no other
abbrev pub asked_by_call : CoreState → Option CoreWant
asked_by_call core =
    if a7 core == 93 then Some (Ended (Exit (a0 core)))
    else (if a7 core == 1 then None else Some (Ended (Trap UnknownCall core.pc)))

-- what is asked after the fetch of a word with this effect, before its instruction is over: one load, one store or the
-- end; None where it is over at once
abbrev pub asked_by_effect : Effect → CoreState → Option CoreWant
asked_by_effect (Writes d value pc) core = None
asked_by_effect (Goes pc) core = None
asked_by_effect (Loads width is_signed addr d) core =
    Some (allowed core addr width LoadMisaligned LoadAccess (WantLoad addr width))
asked_by_effect (Stores width addr value) core =
    Some (allowed core addr width StoreMisaligned StoreAccess (WantStore addr width value))
asked_by_effect Calls core = asked_by_call core
asked_by_effect (Traps kind) core = Some (Ended (Trap kind core.pc))

-- how many bytes a console holds
abbrev pub console_bytes : ℕ
console_bytes = 4096

-- the core after a call that prints: the low byte of a0 goes to the console and a0 becomes 0; or, where the console is
-- full, a0 becomes the greatest number
abbrev pub after_print : CoreState → CoreState
after_print core =
    if nat_lt (length core.console) console_bytes
    then record core {
      console = core.console ++ a0 core % 256 ∷ [];
      registers = with_register 10 0 core.registers;
      pc = next core.pc;
    }
    else record core { registers = with_register 10 (2 ^ 32 - 1) core.registers; pc = next core.pc }

-- the core when the instruction is over; `value` is what its load has loaded
abbrev pub after_effect : Effect → ℕ → CoreState → CoreState
after_effect (Writes d result pc) value core =
    record core { registers = with_register d result core.registers; pc = pc }
after_effect (Goes pc) value core = record core { pc = pc }
after_effect (Loads width is_signed addr d) value core =
    record core {
      registers = with_register d (extended is_signed width value) core.registers;
      pc = next core.pc;
    }
after_effect (Stores width addr stored) value core = record core { pc = next core.pc }
after_effect Calls value core = after_print core
after_effect (Traps kind) value core = core

-- the same of a fetched word
abbrev pub asked_by_word : CoreState → ℕ → Option CoreWant
asked_by_word core word = asked_by_effect (effect_of word core.registers core.pc) core

abbrev pub after_word : CoreState → ℕ → ℕ → CoreState
after_word core word value = after_effect (effect_of word core.registers core.pc) value core

-- ---- a program

-- an application's program: its core, and how many fetches it may still make
pub record AppProgram : Type 0 where
  pub core : CoreState
  pub fuel : ℕ

-- the program of a core with so much fuel
abbrev pub app_program : CoreState → ℕ → AppProgram
app_program core fuel = record { core = core; fuel = fuel }

-- a core and, where it has fetched the word of an instruction that isn't over, that word
pub record Waiting : Type 0 where
  pub core : CoreState
  pub fetched : Option ℕ

abbrev pub waiting : CoreState → Option ℕ → Waiting
waiting core fetched = record { core = core; fetched = fetched }

-- where a program stands after some entries: its core, and how many fetches it may still make
pub record ProgramState : Type 0 where
  pub now : Waiting
  pub fuel : ℕ

abbrev pub standing : Waiting → ℕ → ProgramState
standing now fuel = record { now = now; fuel = fuel }

-- where a program stands before its first instruction
abbrev pub beginning : AppProgram → ProgramState
beginning program = standing (waiting program.core None) program.fuel

-- where a core stands that has fetched a word: its instruction may be over
abbrev pub with_fetched : CoreState → ℕ → Waiting
with_fetched core word =
    if is_none (asked_by_word core word) then waiting (after_word core word 0) None else waiting core (Some word)

-- ---- what is asked

-- the fetch of the word at the pc, or a trap where that lies outside memory
abbrev pub fetch_asked : CoreState → CoreWant
fetch_asked core = if fits core.layout core.pc Word then WantFetch core.pc else Ended (Trap FetchAccess core.pc)

-- the same, or what a fetched word still asks; a word whose instruction is over is never kept
abbrev pub asked_after : Option ℕ → CoreState → CoreWant
asked_after None core = fetch_asked core
asked_after (Some word) core = unwrap_or (asked_by_word core word) (Ended Fuel)

-- what a core asks next
abbrev pub core_want : Waiting → CoreWant
core_want now = asked_after now.fetched now.core

-- what is asked with so much fuel: a fetch costs one
abbrev pub with_fuel : ℕ → CoreWant → CoreWant
with_fuel fuel (WantFetch addr) = if fuel == 0 then Ended Fuel else WantFetch addr
with_fuel fuel (WantLoad addr width) = WantLoad addr width
with_fuel fuel (WantStore addr width value) = WantStore addr width value
with_fuel fuel (Ended ending) = Ended ending

-- the access that a program asks next where it stands there, or how it has ended
abbrev pub next_access : ProgramState → CoreWant
next_access at = with_fuel at.fuel (core_want at.now)

-- both widths move as many bytes
abbrev pub same_width : Width → Width → Bool
same_width v w = width_bytes v == width_bytes w

-- the act is the access that is asked
abbrev pub is_asked : CoreWant → Act → Bool
is_asked (WantFetch asked) (Fetch addr value) = addr == asked
is_asked (WantLoad asked width) (Load addr v value) = (addr == asked) && same_width v width
is_asked (WantStore asked width value) (Store addr v w) = (addr == asked) && same_width v width && (w == value)
is_asked _ _ = false

-- what an access has read
abbrev pub value_of_act : Act → ℕ
value_of_act (Fetch addr value) = value
value_of_act (Load addr width value) = value
value_of_act _ = 0

-- ---- runs

-- the entry is the fetch that the program asks
abbrev pub is_fetch : AppProgram → Entry → Bool
is_fetch program fetch = is_asked (next_access (beginning program)) fetch.act

-- what the fetched instruction still asks: a load, a store or the end; None where it is over at once
abbrev pub rest_asked : AppProgram → Entry → Option CoreWant
rest_asked program fetch = asked_by_word program.core (value_of_act fetch.act)

-- the entry is the load or the store that is asked
abbrev pub is_rest : Option CoreWant → Entry → Bool
is_rest None access = false
is_rest (Some want) access = is_asked want access.act

-- the program when the fetched instruction is over; `value` is what its load has loaded
abbrev pub past : AppProgram → Entry → ℕ → AppProgram
past program fetch value = app_program (after_word program.core (value_of_act fetch.act) value) (program.fuel - 1)

-- Where a program stands after it has read these entries from the left; None where one of them isn't what it asked.
abbrev pub reads : AppProgram → List Entry → Option ProgramState
reads program [] = Some (beginning program)
reads program (fetch ∷ []) =
    if is_fetch program fetch
    then Some (standing (with_fetched program.core (value_of_act fetch.act)) (program.fuel - 1))
    else None
reads program (fetch ∷ access ∷ rest) =
    if is_fetch program fetch
    then (if is_none (rest_asked program fetch)
    then reads (past program fetch 0) (access ∷ rest)
    else (if is_rest (rest_asked program fetch) access
    then reads (past program fetch (value_of_act access.act)) rest
    else None))
    else None

-- What a program asks after these entries of its own, or how it has ended; None where one of them isn't what it asked.
abbrev pub asks : AppProgram → List Entry → Option CoreWant
asks program entries = option_map next_access (reads program entries)

-- The entries are a begun run: each is what the program asked, and it stands there.
pub record IsBegunRun (start : AppProgram) (entries : List Entry) (at : ProgramState) : Type 0 where
  pub read : reads start entries ≡ Some at

-- The entries are a whole run with this ending: they are used up exactly there.
pub record IsWholeRun (start : AppProgram) (entries : List Entry) (ending : Ending) (last : ProgramState) : Type 0 where
  pub begun : IsBegunRun start entries last
  pub ended : next_access last ≡ Ended ending
