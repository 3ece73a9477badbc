-- What an application makes of the answer to a load and to a store.
use Rattle.std.proofs.Common.{◌≡◌, ℕ, ◌+◌, ◌==◌, Bool, true, false, cond, Some, refl, ap, arith}
use Rattle.history.specs.declared.events.Width.{Width}
use Rattle.history.specs.declared.events.Act.{Act}
use Rattle.history.specs.declared.events.Act.TheVariants.{Load, Store}
use Rattle.rv_core.specs.declared.waits.CoreWant.{CoreWant}
use Rattle.rv_core.specs.declared.waits.CoreWant.TheVariants.{Fetch as WantFetch, Load as WantLoad, Store as WantStore, Ended}
use Rattle.rv_core.specs.declared.waits.Ending.TheVariants.{Fuel}
use Rattle.rv_core.specs.declared.waits.Reply.{Reply}
use Rattle.rv_core.specs.declared.waits.Reply.TheVariants.{Loaded, Stored}
use Rattle.rv_core.specs.Runs.{Waiting, standing, core_want, next_access, with_fuel}
use Rattle.rv_core.specs.Waits.{act_asked, goes_on, reply_value, fuel_of}
use Rattle.app_thread.specs.Turns.{MakesAct}

-- a fetch is no load and no store, with fuel or without
fetch_no_load : (b : Bool) (asked addr : ℕ) (width : Width) → cond b (Ended Fuel) (WantFetch asked) ≡ WantLoad addr width → ⊥
fetch_no_load true asked addr width h = cc
fetch_no_load false asked addr width h = cc

fetch_no_store : (b : Bool) (asked addr : ℕ) (width : Width) (value : ℕ) → cond b (Ended Fuel) (WantFetch asked) ≡ WantStore addr width value → ⊥
fetch_no_store true asked addr width value h = cc
fetch_no_store false asked addr width value h = cc

-- a load or a store that is asked with some fuel is what the core asks
with_fuel_load : (fuel : ℕ) (want : CoreWant) (addr : ℕ) (width : Width) → with_fuel fuel want ≡ WantLoad addr width → want ≡ WantLoad addr width
with_fuel_load fuel (WantFetch asked) addr width h = absurd (fetch_no_load (fuel == 0) asked addr width h)
with_fuel_load fuel (WantLoad asked v) addr width h = h
with_fuel_load fuel (WantStore asked v value) addr width h = cc
with_fuel_load fuel (Ended ending) addr width h = cc

with_fuel_store : (fuel : ℕ) (want : CoreWant) (addr : ℕ) (width : Width) (value : ℕ) → with_fuel fuel want ≡ WantStore addr width value → want ≡ WantStore addr width value
with_fuel_store fuel (WantFetch asked) addr width value h = absurd (fetch_no_store (fuel == 0) asked addr width value h)
with_fuel_store fuel (WantLoad asked v) addr width value h = cc
with_fuel_store fuel (WantStore asked v w) addr width value h = h
with_fuel_store fuel (Ended ending) addr width value h = cc

-- how a core that is told goes on
abbrev pub Steps : Waiting → Waiting → Reply → Type 0
Steps now new reply = (fuel left : ℕ) (act : Act) → act_asked (core_want now) (reply_value reply) ≡ Some act → fuel ≡ left + fuel_of reply → goes_on (standing now fuel) act ≡ Some (standing new left)

pub makes_load : (now new : Waiting) (fuel addr : ℕ) (width : Width) (value : ℕ) → Steps now new (Loaded value) → next_access (standing now fuel) ≡ WantLoad addr width
    → MakesAct (standing now fuel) (standing new fuel) (Load addr width value) 2
makes_load now new fuel addr width value steps h = record {
  read = value;
  asked = ap (λ w. act_asked w value) h;
  goes = steps fuel fuel (Load addr width value) (ap (λ w. act_asked w value) (with_fuel_load fuel (core_want now) addr width h)) (omega arith);
  number = refl;
}

pub makes_store : (now new : Waiting) (fuel addr : ℕ) (width : Width) (value : ℕ) → Steps now new Stored → next_access (standing now fuel) ≡ WantStore addr width value
    → MakesAct (standing now fuel) (standing new fuel) (Store addr width value) 3
makes_store now new fuel addr width value steps h = record {
  read = 0;
  asked = ap (λ w. act_asked w 0) h;
  goes = steps fuel fuel (Store addr width value) (ap (λ w. act_asked w 0) (with_fuel_store fuel (core_want now) addr width value h)) (omega arith);
  number = refl;
}
