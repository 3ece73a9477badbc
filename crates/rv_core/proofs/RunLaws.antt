-- One entry more goes on from where the program stands.
use Rattle.std.proofs.Common.{◌≡◌, ℕ, ◌+◌, ◌-◌, ◌==◌, Bool, true, false, cond, List, [], ◌∷◌, ◌++◌, Option, Some, None, IfSome, is_none, unwrap_or, option_and_then, refl, sym, ap, ◌∙◌, subst, append_assoc, append-nil, arith}
use Rattle.std.proofs.lemmas.Bool.{eq-eqb}
use Rattle.std.proofs.lemmas.Bool.Decides.{nat_tests}
use Rattle.std.proofs.lemmas.Option.{same_Some, none-some}
use Rattle.std.proofs.Math.Nat.{add-sub_cancel}
use Rattle.history.specs.declared.events.Width.{Width}
use Rattle.history.specs.declared.events.Width.TheVariants.{Word}
use Rattle.history.specs.declared.events.Act.{Act}
use Rattle.history.specs.declared.events.Act.TheVariants.{Fetch, Load, Store}
use Rattle.history.specs.declared.events.Entry.{Entry}
use Rattle.history.specs.Layout.{width_bytes, is_aligned, fits}
use Rattle.rv_core.specs.declared.waits.CoreWant.{CoreWant}
use Rattle.rv_core.specs.declared.waits.CoreWant.TheVariants.{Fetch as WantFetch, Load as WantLoad, Store as WantStore, Ended}
use Rattle.rv_core.specs.declared.waits.Ending.{Ending}
use Rattle.rv_core.specs.declared.waits.Ending.TheVariants.{Exit, Trap, Fuel}
use Rattle.rv_core.specs.declared.waits.TrapKind.{TrapKind}
use Rattle.rv_core.specs.declared.waits.TrapKind.TheVariants.{FetchAccess, LoadAccess, LoadMisaligned, StoreAccess, StoreMisaligned, UnknownCall}
use Rattle.rv_core.specs.declared.waits.Effect.{Effect}
use Rattle.rv_core.specs.declared.waits.Effect.TheVariants.{Writes, Goes, Loads, Stores, Calls, Traps}
use Rattle.rv_core.specs.Effects.{effect_of}
use Rattle.rv_core.specs.declared.waits.Reply.{Reply}
use Rattle.rv_core.specs.declared.waits.Reply.TheVariants.{Fetched, Loaded, Stored}
use Rattle.rv_core.specs.Runs.{CoreState, AppProgram, Waiting, waiting, ProgramState, standing, a0, a7, allowed, asked_by_effect, asked_by_word, after_word, with_fetched, core_want, with_fuel, next_access, is_asked, value_of_act, is_fetch, rest_asked, is_rest, past, reads, IsBegunRun}
use Rattle.rv_core.specs.Waits.{answered, fuel_after, goes_on, told_of, reply_value, fuel_of, act_asked, Replies, data_accesses}

-- ---- what is asked after a fetch is no fetch, and so takes no fuel

abbrev NotFetch : CoreWant → Type 0
NotFetch (WantFetch addr) = ⊥
NotFetch (WantLoad addr width) = Unit {0}
NotFetch (WantStore addr width value) = Unit {0}
NotFetch (Ended ending) = Unit {0}

one_of_three : (aligned room : Bool) (x y z : CoreWant) → NotFetch x → NotFetch y → NotFetch z → NotFetch (cond aligned (cond room x y) z)
one_of_three true true x y z a b c = a
one_of_three true false x y z a b c = b
one_of_three false room x y z a b c = c

allowed_other : (core : CoreState) (addr : ℕ) (width : Width) (misaligned outside : TrapKind) (access : CoreWant) → NotFetch access
    → NotFetch (allowed core addr width misaligned outside access)
allowed_other core addr width misaligned outside access h =
    one_of_three (is_aligned addr width) (fits core.layout addr width) access (Ended (Trap outside core.pc)) (Ended (Trap misaligned core.pc)) h tt tt

call_other : (exit print : Bool) (x y : CoreWant) → NotFetch x → NotFetch y → IfSome (cond exit (Some x) (cond print None (Some y))) NotFetch
call_other true print x y a b = a
call_other false true x y a b = tt
call_other false false x y a b = b

asked_other : (effect : Effect) (core : CoreState) → IfSome (asked_by_effect effect core) NotFetch
asked_other (Writes d value pc) core = tt
asked_other (Goes pc) core = tt
asked_other (Loads width is_signed addr d) core = allowed_other core addr width LoadMisaligned LoadAccess (WantLoad addr width) tt
asked_other (Stores width addr value) core = allowed_other core addr width StoreMisaligned StoreAccess (WantStore addr width value) tt
asked_other Calls core = call_other (a7 core == 93) (a7 core == 1) (Ended (Exit (a0 core))) (Ended (Trap UnknownCall core.pc)) tt tt
asked_other (Traps kind) core = tt

word_other : (core : CoreState) (word : ℕ) (want : CoreWant) → asked_by_word core word ≡ Some want → NotFetch want
word_other core word want h = subst (λ o. IfSome o NotFetch) h (asked_other (effect_of word core.registers core.pc) core)

other_fuel : (fuel : ℕ) (want : CoreWant) → NotFetch want → with_fuel fuel want ≡ want
other_fuel fuel (WantFetch addr) h = absurd h
other_fuel fuel (WantLoad addr width) h = refl
other_fuel fuel (WantStore addr width value) h = refl
other_fuel fuel (Ended ending) h = refl

-- what a kept word asks is no fetch
kept_in : (core : CoreState) (word : ℕ) (asked : Option CoreWant) → asked_by_word core word ≡ asked → NotFetch (unwrap_or asked (Ended Fuel))
kept_in core word None h = tt
kept_in core word (Some want) h = word_other core word want h

kept_other : (core : CoreState) (word : ℕ) → NotFetch (core_want (waiting core (Some word)))
kept_other core word = kept_in core word (asked_by_word core word) refl

-- ---- one entry more

waits_now : (core : CoreState) (word : ℕ) (want : CoreWant) → asked_by_word core word ≡ Some want → with_fetched core word ≡ waiting core (Some word)
waits_now core word want h = rw h refl

want_now : (core : CoreState) (word fuel : ℕ) (want : CoreWant) → asked_by_word core word ≡ Some want
    → next_access (standing (waiting core (Some word)) fuel) ≡ want
want_now core word fuel want h = ap (λ o. with_fuel fuel (unwrap_or o (Ended Fuel))) h ∙ other_fuel fuel want (word_other core word want h)

-- the entry behind a fetch, where the fetched word asks this
behind_fetch : (core : CoreState) (fuel word : ℕ) (access : Entry) (asked : Option CoreWant) → asked_by_word core word ≡ asked
    → cond (is_none asked)
    (cond (is_asked (next_access (standing (waiting (after_word core word 0) None) fuel)) access.act)
    (Some (standing (with_fetched (after_word core word 0) (value_of_act access.act)) (fuel - 1))) None)
    (cond (is_rest asked access) (Some (standing (waiting (after_word core word (value_of_act access.act)) None) fuel)) None)
    ≡ goes_on (standing (with_fetched core word) fuel) access.act
behind_fetch core fuel word access None h = rw h refl
behind_fetch core fuel word access (Some want) h =
    ap (λ w. cond (is_asked w access.act) (Some (standing (waiting (after_word core word (value_of_act access.act)) None) fuel)) None) (sym (want_now core word fuel want h))
    ∙ ap (λ now. goes_on (standing now fuel) access.act) (sym (waits_now core word want h))

-- a choice before a step
chosen : (f : ProgramState → Option ProgramState) (b : Bool) (x y : Option ProgramState) {x' y' : Option ProgramState} → x' ≡ option_and_then f x → y' ≡ option_and_then f y
    → cond b x' y' ≡ option_and_then f (cond b x y)
chosen f true x y h k = h
chosen f false x y h k = k

pub grows : (start : AppProgram) (entries : List Entry) (entry : Entry)
    → reads start (entries ++ entry ∷ []) ≡ option_and_then (λ at. goes_on at entry.act) (reads start entries)
grows start [] entry = refl
grows start (fetch ∷ []) entry =
    chosen (λ at. goes_on at entry.act) (is_fetch start fetch)
    (Some (standing (with_fetched start.core (value_of_act fetch.act)) (start.fuel - 1))) None
    (behind_fetch start.core (start.fuel - 1) (value_of_act fetch.act) entry (rest_asked start fetch) refl)
    refl
grows start (fetch ∷ access ∷ rest) entry =
    let over = reads (past start fetch 0) (access ∷ rest) in
    let done = reads (past start fetch (value_of_act access.act)) rest in
    let matched = cond (is_rest (rest_asked start fetch) access) done None in
    chosen (λ at. goes_on at entry.act) (is_fetch start fetch) (cond (is_none (rest_asked start fetch)) over matched) None
    (chosen (λ at. goes_on at entry.act) (is_none (rest_asked start fetch)) over matched (grows (past start fetch 0) (access ∷ rest) entry)
    (chosen (λ at. goes_on at entry.act) (is_rest (rest_asked start fetch) access) done None (grows (past start fetch (value_of_act access.act)) rest entry) refl))
    refl

-- the front of a begun run is one
front_in : (start : AppProgram) (front : List Entry) (entry : Entry) (middle : ProgramState) (read : Option ProgramState) → reads start front ≡ read
    → option_and_then (λ at. goes_on at entry.act) read ≡ Some middle → (at : ProgramState) × (reads start front ≡ Some at)
front_in start front entry middle None r h = absurd (none-some _ h)
front_in start front entry middle (Some at) r h = (at, r)

pub front_read : (start : AppProgram) (front back : List Entry) (last : ProgramState) → reads start (front ++ back) ≡ Some last
    → (at : ProgramState) × (reads start front ≡ Some at)
front_read start front [] last h = (last, ap (reads start) (sym (append-nil front)) ∙ h)
front_read start front (entry ∷ back) last h =
    let more = front_read start (front ++ entry ∷ []) back last (ap (reads start) (append_assoc front (entry ∷ []) back) ∙ h) in
    front_in start front entry more.0 (reads start front) refl (sym (grows start front entry) ∙ more.1)

-- an entry more, where its act gives this reply

same_number : (n : ℕ) → (n == n) ≡ true
same_number n = eq-eqb n n refl

more_than_none : (n : ℕ) → (n + 1 == 0) ≡ false
more_than_none n = grind (arith, nat_tests)

fetch_asked_by : (fuel addr word : ℕ) → is_asked (with_fuel (fuel + 1) (WantFetch addr)) (Fetch addr word) ≡ true
fetch_asked_by fuel addr word = rw (more_than_none fuel) (same_number addr)

load_asked : (addr : ℕ) (width : Width) (value : ℕ) → is_asked (WantLoad addr width) (Load addr width value) ≡ true
load_asked addr width value = simp (same_number addr, same_number (width_bytes width)) refl

store_asked : (addr : ℕ) (width : Width) (value : ℕ) → is_asked (WantStore addr width value) (Store addr width value) ≡ true
store_asked addr width value = simp (same_number addr, same_number (width_bytes width), same_number value) refl

-- the act of a reply is asked where there is the fuel for it, and has read what the reply has
record IsMade (want : CoreWant) (reply : Reply) (act : Act) (fuel : ℕ) : Type 0 where
  asked : is_asked (with_fuel (fuel + fuel_of reply) want) act ≡ true
  read : value_of_act act ≡ reply_value reply

made : (want : CoreWant) (reply : Reply) (act : Act) (fuel : ℕ) → Replies want reply → act_asked want (reply_value reply) ≡ Some act → IsMade want reply act fuel
made (WantFetch addr) (Fetched word) act fuel r h = subst (λ a. IsMade (WantFetch addr) (Fetched word) a fuel) (same_Some _ _ h) (record { asked = fetch_asked_by fuel addr word; read = refl })
made (WantLoad addr width) (Loaded value) act fuel r h = subst (λ a. IsMade (WantLoad addr width) (Loaded value) a fuel) (same_Some _ _ h) (record { asked = load_asked addr width value; read = refl })
made (WantStore addr width value) Stored act fuel r h = subst (λ a. IsMade (WantStore addr width value) Stored a fuel) (same_Some _ _ h) (record { asked = store_asked addr width value; read = refl })
made _ _ act fuel r h = absurd r

-- ---- a core that is told

-- only a core that waits for a fetch is told of one
not_fetched : (want : CoreWant) (word : ℕ) → NotFetch want → Replies want (Fetched word) → ⊥
not_fetched (WantFetch addr) word h r = h
not_fetched (WantLoad addr width) word h r = r
not_fetched (WantStore addr width value) word h r = r
not_fetched (Ended ending) word h r = r

is_fetching : (core : CoreState) (fetched : Option ℕ) (word : ℕ) → Replies (core_want (waiting core fetched)) (Fetched word) → fetched ≡ None
is_fetching core None word r = refl
is_fetching core (Some kept) word r = absurd (not_fetched _ word (kept_other core kept) r)

pub fetching : (now : Waiting) (word : ℕ) → Replies (core_want now) (Fetched word) → now.fetched ≡ None
fetching now word r = is_fetching now.core now.fetched word r

-- the fuel that a reply leaves

fetch_leaves : (room : Bool) (pc : ℕ) (ending : Ending) (reply : Reply) (left : ℕ) → Replies (cond room (WantFetch pc) (Ended ending)) reply
    → left + fuel_of reply - 1 ≡ left
fetch_leaves true pc ending (Fetched word) left r = add-sub_cancel left 1
fetch_leaves true pc ending (Loaded value) left r = absurd r
fetch_leaves true pc ending Stored left r = absurd r
fetch_leaves false pc ending reply left r = absurd r

leaves : (core : CoreState) (fetched : Option ℕ) (reply : Reply) (left : ℕ) → Replies (core_want (waiting core fetched)) reply
    → fuel_after fetched (left + fuel_of reply) ≡ left
leaves core None reply left r = fetch_leaves (fits core.layout core.pc Word) core.pc (Trap FetchAccess core.pc) reply left r
leaves core (Some kept) (Fetched word) left r = absurd (not_fetched _ word (kept_other core kept) r)
leaves core (Some kept) (Loaded value) left r = omega arith
leaves core (Some kept) Stored left r = omega arith

-- a core that was told has gone on from where its program stood
pub told_step : (now new : Waiting) (reply : Reply) → Replies (core_want now) reply → new ≡ told_of now reply → (fuel left : ℕ) (act : Act)
    → act_asked (core_want now) (reply_value reply) ≡ Some act → fuel ≡ left + fuel_of reply
    → goes_on (standing now fuel) act ≡ Some (standing new left)
told_step now new reply replies is_told fuel left act is_act is_fuel =
    let m = made (core_want now) reply act left replies is_act in
    let asked : is_asked (next_access (standing now fuel)) act ≡ true = ap (λ f. is_asked (with_fuel f (core_want now)) act) is_fuel ∙ m.asked in
    let step : goes_on (standing now fuel) act ≡ Some (standing (answered now.fetched (value_of_act act) now.core) (fuel_after now.fetched fuel)) = rw asked refl in
    let same : answered now.fetched (value_of_act act) now.core ≡ new = ap (λ v. answered now.fetched v now.core) m.read ∙ sym is_told in
    let fuels : fuel_after now.fetched fuel ≡ left = ap (fuel_after now.fetched) is_fuel ∙ leaves now.core now.fetched reply left replies in
    step ∙ ap (λ w. Some (standing w (fuel_after now.fetched fuel))) same ∙ ap (λ f. Some (standing new f)) fuels

-- and is at the end of a run with one entry more
pub told_run : (now new : Waiting) (reply : Reply) → Replies (core_want now) reply → new ≡ told_of now reply
    → (start : AppProgram) (entries : List Entry) (fuel left actor : ℕ) (act : Act)
    → act_asked (core_want now) (reply_value reply) ≡ Some act → fuel ≡ left + fuel_of reply
    → IsBegunRun start entries (standing now fuel)
    → IsBegunRun start (entries ++ record { actor = actor; act = act } ∷ []) (standing new left)
told_run now new reply replies is_told start entries fuel left actor act is_act is_fuel begun = record {
  read =
      grows start entries (record { actor = actor; act = act })
      ∙ ap (option_and_then (λ at. goes_on at act)) begun.read
      ∙ told_step now new reply replies is_told fuel left act is_act is_fuel;
}

-- what comes after an instruction is a fetch or the end
fetch_data : (room : Bool) (pc : ℕ) (ending : Ending) → data_accesses (cond room (WantFetch pc) (Ended ending)) ≡ 0
fetch_data true pc ending = refl
fetch_data false pc ending = refl

told_in : (core : CoreState) (fetched : Option ℕ) (reply : Reply) → data_accesses (core_want (waiting core fetched)) ≡ 1
    → data_accesses (core_want (answered fetched (reply_value reply) core)) ≡ 0
told_in core None reply h = absurd (omega (arith, h, fetch_data (fits core.layout core.pc Word) core.pc (Trap FetchAccess core.pc)))
told_in core (Some word) reply h =
    let after = after_word core word (reply_value reply) in
    fetch_data (fits after.layout after.pc Word) after.pc (Trap FetchAccess after.pc)

pub told_once : (now new : Waiting) (reply : Reply) → new ≡ told_of now reply → data_accesses (core_want now) ≡ 1 → data_accesses (core_want new) ≡ 0
told_once now new reply is_told h = ap (λ w. data_accesses (core_want w)) is_told ∙ told_in now.core now.fetched reply h
