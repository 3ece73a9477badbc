-- A core that waits for each of its accesses, one step at a time.
use Rattle.std.specs.Prelude.{ℕ, ◌-◌, ◌^◌, ◌<◌, if◌then◌else◌, IsTrue, Option, Some, None}
use Rattle.history.specs.declared.events.Width.TheVariants.{Word}
use Rattle.history.specs.declared.events.Act.{Act}
use Rattle.history.specs.declared.events.Act.TheVariants.{Fetch, Load, Store}
use Rattle.history.specs.Layout.{Layout, width_bytes, fits, is_aligned}
use Rattle.rv_core.specs.declared.waits.CoreWant.{CoreWant}
use Rattle.rv_core.specs.declared.waits.CoreWant.TheVariants.{Fetch as WantFetch, Load as WantLoad, Store as WantStore, Ended}
use Rattle.rv_core.specs.declared.waits.Reply.{Reply}
use Rattle.rv_core.specs.declared.waits.Reply.TheVariants.{Fetched, Loaded, Stored}
use Rattle.rv_core.specs.Runs.{CoreState, Waiting, waiting, with_fetched, after_word, ProgramState, standing, next_access, is_asked, value_of_act}

-- ---- one access more

-- a core after an access that it asked, which has read this
abbrev pub answered : Option ℕ → ℕ → CoreState → Waiting
answered None value core = with_fetched core value
answered (Some word) value core = waiting (after_word core word value) None

-- a fetch takes one of the fuel
abbrev pub fuel_after : Option ℕ → ℕ → ℕ
fuel_after None fuel = fuel - 1
fuel_after (Some word) fuel = fuel

-- where a program stands after one act more; None where it isn't what is asked
abbrev pub goes_on : ProgramState → Act → Option ProgramState
goes_on at act =
    if is_asked (next_access at) act
    then Some (standing (answered at.now.fetched (value_of_act act) at.now.core) (fuel_after at.now.fetched at.fuel))
    else None

-- ---- replies

-- what a reply has read
abbrev pub reply_value : Reply → ℕ
reply_value (Fetched word) = word
reply_value (Loaded value) = value
reply_value Stored = 0

-- a core after a reply to what it asked
abbrev pub told_of : Waiting → Reply → Waiting
told_of now reply = answered now.fetched (reply_value reply) now.core

-- how much fuel a reply takes
abbrev pub fuel_of : Reply → ℕ
fuel_of (Fetched word) = 1
fuel_of (Loaded value) = 0
fuel_of Stored = 0

-- the reply is of the kind of what is asked, and a loaded value has no more bytes than its width
abbrev pub Replies : CoreWant → Reply → Type 0
Replies (WantFetch addr) (Fetched word) = Unit {0}
Replies (WantLoad addr width) (Loaded value) = value < 256 ^ width_bytes width
Replies (WantStore addr width value) Stored = Unit {0}
Replies _ _ = ⊥

-- the access that is asked, with the value that it reads; None where the application has ended
abbrev pub act_asked : CoreWant → ℕ → Option Act
act_asked (WantFetch addr) read = Some (Fetch addr read)
act_asked (WantLoad addr width) read = Some (Load addr width read)
act_asked (WantStore addr width value) read = Some (Store addr width value)
act_asked (Ended ending) read = None

-- ---- what is asked

-- the access has room in memory and is aligned, and a stored value has no more bytes than its width
abbrev pub IsProperWant : Layout → CoreWant → Type 0
IsProperWant layout (WantFetch addr) = IsTrue (fits layout addr Word) × IsTrue (is_aligned addr Word)
IsProperWant layout (WantLoad addr width) = IsTrue (fits layout addr width) × IsTrue (is_aligned addr width)
IsProperWant layout (WantStore addr width value) =
    IsTrue (fits layout addr width) × IsTrue (is_aligned addr width) × (value < 256 ^ width_bytes width)
IsProperWant layout (Ended ending) = Unit {0}

-- how many loads and stores are asked
abbrev pub data_accesses : CoreWant → ℕ
data_accesses (WantFetch addr) = 0
data_accesses (WantLoad addr width) = 1
data_accesses (WantStore addr width value) = 1
data_accesses (Ended ending) = 0
