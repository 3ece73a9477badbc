-- An application stores values that fit their widths: so the entries of a run have a place in a trace's text.
use Rattle.std.proofs.Common.{◌≡◌, ℕ, zero, suc, ◌+◌, ◌-◌, ◌*◌, ◌/◌, ◌%◌, ◌^◌, ◌<◌, ◌≤◌, Bool, true, false, not, List, [], ◌∷◌, ◌++◌, length, map, take, All, Option, Some, None, refl, sym, ap, ◌∙◌, subst, inl, inr, arith}
use Rattle.std.specs.Prelude.{IsTrue, ◌&&◌, ◌==◌, nat_lt, nat_le, if◌then◌else◌, slice_get, is_none, unwrap_or, replicate}
use Rattle.std.proofs.lemmas.Bool.{and_parts, eqb-true, le-leb, lt-ltb, false≢true}
use Rattle.std.proofs.lemmas.Nat.{mod_below}
use Rattle.std.proofs.lemmas.Option.{none-some, slice_get_cases}
use Rattle.std.proofs.lemmas.List.Elements.{All-nil, All-cons, All-head, All-tail, All-append, All-take, All-replicate}
use Rattle.history.specs.declared.events.Width.{Width}
use Rattle.history.specs.declared.events.Width.TheVariants.{Byte, Half, Word}
use Rattle.history.specs.declared.events.Act.{Act}
use Rattle.history.specs.declared.events.Act.TheVariants.{Fetch, Load, Store, Start, Copy, End, Tick, Release}
use Rattle.history.specs.declared.events.Entry.{Entry}
use Rattle.history.specs.Attested.{attested_blocks}
use Rattle.history.specs.Layout.{width_bytes, fits, is_aligned}
use Rattle.history.specs.Pass.{is_extended}
use Rattle.challenge.specs.declared.Challenge.{Challenge}
use Rattle.chronicle.specs.declared.worlds.Shape.{Shape}
use Rattle.chronicle.specs.Worlds.{shape_of}
use Rattle.chronicle.specs.Ports.{entry_by}
use Rattle.measure.specs.Program.{copies, pass_acts, closing_acts, measuring_program, measuring_programs}
use Rattle.rv_decode.specs.Fields.{rd, imm_i, imm_b, imm_j}
use Rattle.rv_decode.specs.Table.{Row, LUI, AUIPC, JAL, JALR, BEQ, BNE, BLT, BGE, BLTU, BGEU, LB, LH, LW, LBU, LHU, SB, SH, SW, ADDI, SLTI, SLTIU, XORI, ORI, ANDI, SLLI, SRLI, SRAI, ADD, SUB, SLL, SLT, SLTU, XOR, SRL, SRA, OR, AND, FENCE, ECALL, EBREAK, MUL, MULH, MULHSU, MULHU, DIV, DIVU, REM, REMU, row_of}
use Rattle.rv_core.specs.declared.waits.TrapKind.{TrapKind}
use Rattle.rv_core.specs.declared.waits.TrapKind.TheVariants.{FetchAccess, FetchMisaligned, LoadAccess, LoadMisaligned, StoreAccess, StoreMisaligned, UnknownCall}
use Rattle.rv_core.specs.declared.waits.Ending.TheVariants.{Exit, Trap, Fuel}
use Rattle.rv_core.specs.declared.waits.CoreWant.{CoreWant}
use Rattle.rv_core.specs.declared.waits.CoreWant.TheVariants.{Fetch as WantFetch, Load as WantLoad, Store as WantStore, Ended}
use Rattle.rv_core.specs.declared.waits.Effect.{Effect}
use Rattle.rv_core.specs.declared.waits.Effect.TheVariants.{Writes, Goes, Loads, Stores, Calls, Traps}
use Rattle.rv_core.specs.Effects.{sum, bits_of, is_less_signed, is_at_most_signed, next, rs1_value, rs2_value, jump_effect, branch_effect, row_effect, effect_at, effect_of}
use Rattle.rv_core.specs.Runs.{CoreState, a0, a7, allowed, asked_by_call, asked_by_effect, asked_by_word, asked_after, core_want, with_fuel, AppProgram, ProgramState, next_access, is_asked, same_width, value_of_act, beginning, standing, with_fetched, is_fetch, rest_asked, is_rest, past, reads}
use Rattle.trace.specs.Printable.{ActFitsFields, FitsFields}
use Rattle.device.specs.Setups.{Setup}
use Rattle.device.specs.Runs.{entries_of, measurer_acts, IsRunSoFar}

-- ---- effects

-- a stored value has no more bytes than its width
abbrev StoreFits : Effect → Type 0
StoreFits (Writes d value pc) = Unit {0}
StoreFits (Goes pc) = Unit {0}
StoreFits (Loads width is_signed addr d) = Unit {0}
StoreFits (Stores width addr value) = value < 256 ^ width_bytes width
StoreFits Calls = Unit {0}
StoreFits (Traps kind) = Unit {0}

either_fits : (b : Bool) (e f : Effect) → StoreFits e → StoreFits f → StoreFits (if b then e else f)
either_fits true e f one other = one
either_fits false e f one other = other

jump_fits : (d pc target : ℕ) → StoreFits (jump_effect d pc target)
jump_fits d pc target = either_fits (target % 4 == 0) (Writes d (next pc) target) (Traps FetchMisaligned) tt tt

branch_fits : (taken : Bool) (pc target : ℕ) → StoreFits (branch_effect taken pc target)
branch_fits true pc target = either_fits (target % 4 == 0) (Goes target) (Traps FetchMisaligned) tt tt
branch_fits false pc target = tt

low_fits : (width : Width) (value : ℕ) → value % 256 ^ width_bytes width < 256 ^ width_bytes width
low_fits Byte value = mod_below value 256 (omega arith)
low_fits Half value = mod_below value 65536 (omega arith)
low_fits Word value = mod_below value 4294967296 (omega arith)

row_fits : (row : Row) (word : ℕ) (x : List ℕ) (pc : ℕ) → StoreFits (row_effect row word x pc)
row_fits LUI word x pc = tt
row_fits AUIPC word x pc = tt
row_fits JAL word x pc = jump_fits (rd word) pc (sum pc (bits_of (imm_j word)))
row_fits JALR word x pc = jump_fits (rd word) pc (sum (rs1_value word x) (bits_of (imm_i word)) / 2 * 2)
row_fits BEQ word x pc = branch_fits (rs1_value word x == rs2_value word x) pc (sum pc (bits_of (imm_b word)))
row_fits BNE word x pc = branch_fits (not (rs1_value word x == rs2_value word x)) pc (sum pc (bits_of (imm_b word)))
row_fits BLT word x pc = branch_fits (is_less_signed (rs1_value word x) (rs2_value word x)) pc (sum pc (bits_of (imm_b word)))
row_fits BGE word x pc = branch_fits (is_at_most_signed (rs2_value word x) (rs1_value word x)) pc (sum pc (bits_of (imm_b word)))
row_fits BLTU word x pc = branch_fits (nat_lt (rs1_value word x) (rs2_value word x)) pc (sum pc (bits_of (imm_b word)))
row_fits BGEU word x pc = branch_fits (nat_le (rs2_value word x) (rs1_value word x)) pc (sum pc (bits_of (imm_b word)))
row_fits LB word x pc = tt
row_fits LH word x pc = tt
row_fits LW word x pc = tt
row_fits LBU word x pc = tt
row_fits LHU word x pc = tt
row_fits SB word x pc = low_fits Byte (rs2_value word x)
row_fits SH word x pc = low_fits Half (rs2_value word x)
row_fits SW word x pc = low_fits Word (rs2_value word x)
row_fits ADDI word x pc = tt
row_fits SLTI word x pc = tt
row_fits SLTIU word x pc = tt
row_fits XORI word x pc = tt
row_fits ORI word x pc = tt
row_fits ANDI word x pc = tt
row_fits SLLI word x pc = tt
row_fits SRLI word x pc = tt
row_fits SRAI word x pc = tt
row_fits ADD word x pc = tt
row_fits SUB word x pc = tt
row_fits SLL word x pc = tt
row_fits SLT word x pc = tt
row_fits SLTU word x pc = tt
row_fits XOR word x pc = tt
row_fits SRL word x pc = tt
row_fits SRA word x pc = tt
row_fits OR word x pc = tt
row_fits AND word x pc = tt
row_fits FENCE word x pc = tt
row_fits ECALL word x pc = tt
row_fits EBREAK word x pc = tt
row_fits MUL word x pc = tt
row_fits MULH word x pc = tt
row_fits MULHSU word x pc = tt
row_fits MULHU word x pc = tt
row_fits DIV word x pc = tt
row_fits DIVU word x pc = tt
row_fits REM word x pc = tt
row_fits REMU word x pc = tt

effect_fits : (row : Option Row) (word : ℕ) (x : List ℕ) (pc : ℕ) → StoreFits (effect_at row word x pc)
effect_fits (Some row) word x pc = row_fits row word x pc
effect_fits None word x pc = tt

-- ---- what is asked

abbrev WantFits : CoreWant → Type 0
WantFits (WantFetch addr) = Unit {0}
WantFits (WantLoad addr width) = Unit {0}
WantFits (WantStore addr width value) = value < 256 ^ width_bytes width
WantFits (Ended ending) = Unit {0}

abbrev MayFit : Option CoreWant → Type 0
MayFit None = Unit {0}
MayFit (Some want) = WantFits want

one_want : (b : Bool) (v w : CoreWant) → WantFits v → WantFits w → WantFits (if b then v else w)
one_want true v w one other = one
one_want false v w one other = other

one_may : (b : Bool) (v w : Option CoreWant) → MayFit v → MayFit w → MayFit (if b then v else w)
one_may true v w one other = one
one_may false v w one other = other

allowed_fits : (core : CoreState) (addr : ℕ) (width : Width) (misaligned outside : TrapKind) (access : CoreWant) → WantFits access → WantFits (allowed core addr width misaligned outside access)
allowed_fits core addr width misaligned outside access fit =
    one_want (is_aligned addr width) (if fits core.layout addr width then access else Ended (Trap outside core.pc)) (Ended (Trap misaligned core.pc))
    (one_want (fits core.layout addr width) access (Ended (Trap outside core.pc)) fit tt) tt

call_fits : (core : CoreState) → MayFit (asked_by_call core)
call_fits core =
    one_may (a7 core == 93) (Some (Ended (Exit (a0 core)))) (if a7 core == 1 then None else Some (Ended (Trap UnknownCall core.pc))) tt
    (one_may (a7 core == 1) None (Some (Ended (Trap UnknownCall core.pc))) tt tt)

asked_fits : (effect : Effect) (core : CoreState) → StoreFits effect → MayFit (asked_by_effect effect core)
asked_fits (Writes d value pc) core fit = tt
asked_fits (Goes pc) core fit = tt
asked_fits (Loads width is_signed addr d) core fit = allowed_fits core addr width LoadMisaligned LoadAccess (WantLoad addr width) tt
asked_fits (Stores width addr value) core fit = allowed_fits core addr width StoreMisaligned StoreAccess (WantStore addr width value) fit
asked_fits Calls core fit = call_fits core
asked_fits (Traps kind) core fit = tt

word_asks : (core : CoreState) (word : ℕ) → MayFit (asked_by_word core word)
word_asks core word = asked_fits (effect_of word core.registers core.pc) core (effect_fits (row_of word) word core.registers core.pc)

or_ended : (want : Option CoreWant) → MayFit want → WantFits (unwrap_or want (Ended Fuel))
or_ended None fit = tt
or_ended (Some want) fit = fit

core_asks : (fetched : Option ℕ) (core : CoreState) → WantFits (asked_after fetched core)
core_asks None core = one_want (fits core.layout core.pc Word) (WantFetch core.pc) (Ended (Trap FetchAccess core.pc)) tt tt
core_asks (Some word) core = or_ended (asked_by_word core word) (word_asks core word)

fuel_asks : (fuel : ℕ) (want : CoreWant) → WantFits want → WantFits (with_fuel fuel want)
fuel_asks fuel (WantFetch addr) fit = one_want (fuel == 0) (Ended Fuel) (WantFetch addr) tt tt
fuel_asks fuel (WantLoad addr width) fit = fit
fuel_asks fuel (WantStore addr width value) fit = fit
fuel_asks fuel (Ended ending) fit = fit

next_fits : (at : ProgramState) → WantFits (next_access at)
next_fits at = fuel_asks at.fuel (core_want at.now) (core_asks at.now.fetched at.now.core)

-- the access that was asked fits
made_fits : (want : CoreWant) (act : Act) → WantFits want → is_asked want act ≡ true → ActFitsFields act
made_fits want (Fetch addr value) fit asked = tt
made_fits want (Load addr width value) fit asked = tt
made_fits (WantFetch at) (Store addr v w) fit asked = absurd (false≢true asked)
made_fits (WantLoad at width) (Store addr v w) fit asked = absurd (false≢true asked)
made_fits (WantStore at width value) (Store addr v w) fit asked =
    let parts = and_parts ((addr == at) && same_width v width) (w == value) asked in
    let more = and_parts (addr == at) (same_width v width) parts.0 in
    let width_is : width_bytes v ≡ width_bytes width = eqb-true (width_bytes v) (width_bytes width) more.1 in
    let value_is : w ≡ value = eqb-true w value parts.1 in
    subst (λ (n : ℕ). w < 256 ^ n) (sym width_is) (subst (λ (n : ℕ). n < 256 ^ width_bytes width) (sym value_is) fit)
made_fits (Ended ending) (Store addr v w) fit asked = absurd (false≢true asked)
made_fits (WantFetch at) (Start discipline counter) fit asked = absurd (false≢true asked)
made_fits (WantLoad at width) (Start discipline counter) fit asked = absurd (false≢true asked)
made_fits (WantStore at width value) (Start discipline counter) fit asked = absurd (false≢true asked)
made_fits (Ended ending) (Start discipline counter) fit asked = absurd (false≢true asked)
made_fits want (Copy block) fit asked = tt
made_fits want End fit asked = tt
made_fits want Tick fit asked = tt
made_fits want Release fit asked = tt

-- ---- runs

where_true : {A : Type 0} (b : Bool) (o : Option A) (y : A) → (if b then o else None) ≡ Some y → (b ≡ true) × (o ≡ Some y)
where_true true o y is = (refl, is)
where_true false o y is = absurd (none-some y is)

fetch_fits : (program : AppProgram) (fetch : Entry) → is_fetch program fetch ≡ true → FitsFields fetch
fetch_fits program fetch is = record { act = made_fits (next_access (beginning program)) fetch.act (next_fits (beginning program)) is }

rest_fits : (want : Option CoreWant) (access : Entry) → MayFit want → is_rest want access ≡ true → FitsFields access
rest_fits None access fit is = absurd (false≢true is)
rest_fits (Some want) access fit is = record { act = made_fits want access.act fit is }

-- an instruction that is over at its fetch, or one with an access
behind_fetch : (b c : Bool) (over on : Option ProgramState) (at : ProgramState) (access : Entry) (rest : List Entry)
    → (over ≡ Some at → All FitsFields (access ∷ rest)) → (c ≡ true → FitsFields access) → (on ≡ Some at → All FitsFields rest)
    → (if b then over else (if c then on else None)) ≡ Some at → All FitsFields (access ∷ rest)
behind_fetch true c over on at access rest one two three is = one is
behind_fetch false c over on at access rest one two three is =
    let w = where_true c on at is in
    All-cons FitsFields access rest (two w.0) (three w.1)

-- the entries that a program has read fit
read_fits : (program : AppProgram) (entries : List Entry) (at : ProgramState) → reads program entries ≡ Some at → All FitsFields entries
read_fits program [] at is = All-nil FitsFields
read_fits program (fetch ∷ []) at is =
    let w = where_true (is_fetch program fetch) (Some (standing (with_fetched program.core (value_of_act fetch.act)) (program.fuel - 1))) at is in
    All-cons FitsFields fetch [] (fetch_fits program fetch w.0) (All-nil FitsFields)
read_fits program (fetch ∷ access ∷ rest) at is =
    let over = reads (past program fetch 0) (access ∷ rest) in
    let on = reads (past program fetch (value_of_act access.act)) rest in
    let without = is_none (rest_asked program fetch) in
    let asks = is_rest (rest_asked program fetch) access in
    let w = where_true (is_fetch program fetch) (if without then over else (if asks then on else None)) at is in
    All-cons FitsFields fetch (access ∷ rest) (fetch_fits program fetch w.0)
    (behind_fetch without asks over on at access rest (read_fits (past program fetch 0) (access ∷ rest) at)
    (rest_fits (rest_asked program fetch) access (word_asks program.core (value_of_act fetch.act)))
    (read_fits (past program fetch (value_of_act access.act)) rest at) w.1)

-- ---- the measurer

abbrev pub CounterFits : Challenge → Type 0
CounterFits c = c.counter < 2 ^ 64

closing_fits : (extended : Bool) (c : Challenge) → All ActFitsFields (if extended then replicate c.hold Tick ++ (Release ∷ []) else [])
closing_fits true c = All-append ActFitsFields (replicate c.hold Tick) (Release ∷ []) (All-replicate ActFitsFields c.hold Tick tt) (All-cons ActFitsFields Release [] tt (All-nil ActFitsFields))
closing_fits false c = All-nil ActFitsFields

copies_fit : (blocks : List ℕ) → All ActFitsFields (copies blocks)
copies_fit [] = All-nil ActFitsFields
copies_fit (block ∷ blocks) = All-cons ActFitsFields (Copy block) (copies blocks) tt (copies_fit blocks)

program_fits : (c : Challenge) (shape : Shape) → CounterFits c → All ActFitsFields (measuring_program c shape)
program_fits c shape fit =
    let lead = All-replicate ActFitsFields c.lead Tick tt in
    let start = All-cons ActFitsFields (Start c.discipline c.counter) [] fit (All-nil ActFitsFields) in
    let end = All-cons ActFitsFields End [] tt (All-nil ActFitsFields) in
    let middle = All-append ActFitsFields (Start c.discipline c.counter ∷ []) (copies (attested_blocks shape.ranges)) start (copies_fit (attested_blocks shape.ranges)) in
    let pass = All-append ActFitsFields ((Start c.discipline c.counter ∷ []) ++ copies (attested_blocks shape.ranges)) (End ∷ []) middle end in
    let front = All-append ActFitsFields (replicate c.lead Tick) (pass_acts c shape) lead pass in
    All-append ActFitsFields (replicate c.lead Tick ++ pass_acts c shape) (closing_acts c) front (closing_fits (is_extended c.discipline) c)

programs_fit : (challenges : List Challenge) (shape : Shape) → All CounterFits challenges → All ActFitsFields (measuring_programs challenges shape)
programs_fit [] shape fit = All-nil ActFitsFields
programs_fit (c ∷ more) shape fit =
    All-append ActFitsFields (measuring_program c shape) (measuring_programs more shape) (program_fits c shape (All-head CounterFits c more fit))
    (programs_fit more shape (All-tail CounterFits c more fit))

by_measurer : (acts : List Act) → All ActFitsFields acts → All FitsFields (map (entry_by 0) acts)
by_measurer [] fit = All-nil FitsFields
by_measurer (act ∷ acts) fit =
    All-cons FitsFields (entry_by 0 act) (map (entry_by 0) acts) (record { act = All-head ActFitsFields act acts fit }) (by_measurer acts (All-tail ActFitsFields act acts fit))

-- ---- a history

is_own : (actor : ℕ) → (nat_le actor actor && nat_lt actor (actor + 1)) ≡ true
is_own actor =
    let low : nat_le actor actor ≡ true = le-leb actor actor (omega arith) in
    let high : nat_lt actor (actor + 1) ≡ true = lt-ltb actor (actor + 1) (omega arith) in
    ap (λ (b : Bool). b && nat_lt actor (actor + 1)) low ∙ high

-- the entries of one actor without the first of all entries
behind_first_entry : (Q : Entry → Type 0) (b : Bool) (entry : Entry) (own_ : List Entry) → All Q (if b then entry ∷ own_ else own_) → All Q own_
behind_first_entry Q true entry own_ all = All-tail Q entry own_ all
behind_first_entry Q false entry own_ all = all

-- what holds of each actor's entries holds of all
all_of_own : (Q : Entry → Type 0) (last : ℕ) (history : List Entry) → All (λ entry. entry.actor ≤ last) history → ((actor : ℕ) → actor ≤ last → All Q (entries_of history actor)) → All Q history
all_of_own Q last [] low own_ = All-nil Q
all_of_own Q last (entry ∷ history) low own_ =
    let here = All-head (λ (e : Entry). e.actor ≤ last) entry history low in
    let its : All Q (entry ∷ entries_of history entry.actor) =
    subst (λ (b : Bool). All Q (if b then entry ∷ entries_of history entry.actor else entries_of history entry.actor)) (is_own entry.actor) (own_ entry.actor here) in
    All-cons Q entry history (All-head Q entry (entries_of history entry.actor) its)
    (all_of_own Q last history (All-tail (λ (e : Entry). e.actor ≤ last) entry history low)
    (λ actor within. behind_first_entry Q (nat_le actor entry.actor && nat_lt entry.actor (actor + 1)) entry (entries_of history actor) (own_ actor within)))

own_fits : (s : Setup) (history : List Entry) → IsRunSoFar s history → All CounterFits s.challenges → (actor : ℕ) → actor ≤ length s.programs → All FitsFields (entries_of history actor)
own_fits s history run counters zero within =
    let count = length (entries_of history 0) in
    subst (λ (l : List Entry). All FitsFields l) (sym run.measurer)
    (by_measurer (take count (measurer_acts s)) (All-take ActFitsFields count (measurer_acts s) (programs_fit s.challenges (shape_of s.world) counters)))
own_fits s history run counters (suc k) within =
    elim (slice_get_cases s.programs k).1 [
      | inl there ↦ let begun = run.applications k there.0 there.2 in read_fits there.0 (entries_of history (suc k)) begun.0 begun.1.read
      | inr behind ↦ absurd (omega (arith, behind.0, within))
    ]

pub run_fits : (s : Setup) (history : List Entry) → IsRunSoFar s history → All CounterFits s.challenges → All FitsFields history
run_fits s history run counters = all_of_own FitsFields (length s.programs) history run.actors (own_fits s history run counters)
