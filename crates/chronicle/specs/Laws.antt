-- What the laws say: memory that goes on from an earlier place, the first break of a rule, and a pass as
-- its measurer follows it.
use Rattle.std.specs.Prelude.{◌≡◌, ℕ, ◌+◌, ◌-◌, ◌≤◌, Bool, true, false, ◌==◌, List, [], ◌∷◌, ◌++◌, length, reverse, take, drop, slice_get, Some, unwrap_or}
use Rattle.history.specs.declared.events.Act.{Act}
use Rattle.history.specs.declared.events.Act.TheVariants.{Fetch, Load, Store, Start, Copy, End, Tick, Release}
use Rattle.history.specs.declared.events.Entry.{Entry}
use Rattle.history.specs.Layout.{Setting}
use Rattle.history.specs.Memory.{Memory, back, put_at}
use Rattle.history.specs.Pass.{Pass, pass_after, start_of, copied_of, is_ended, is_released}
use Rattle.history.specs.Legal.{IsLegal}
use Rattle.history.specs.Copied.{copied_bytes}
use Rattle.history.specs.Instants.{EndsAt, ReleasesAt}
use Rattle.history.specs.Broken.{Break, broken_rule}
use Rattle.lock_plan.specs.declared.steps.PlanStep.{PlanStep}
use Rattle.lock_plan.specs.declared.steps.PlanStep.TheVariants as next
use Rattle.lock_plan.specs.Plans.{PlanState, plan_after, after_start, pass_changed, with_copy, with_end, with_release}

-- memory once the entry has come
abbrev pub stored : Entry → Memory → Memory
stored entry m x = unwrap_or (put_at entry.act x) (m x)

-- memory once these entries have come, the oldest first
abbrev pub patched : List Entry → Memory → Memory
patched [] m = m
patched (entry ∷ later) m = patched later (stored entry m)

-- the entries between two places, the oldest first
abbrev pub between : List Entry → ℕ → ℕ → List Entry
between history place later = drop place (take later history)

-- The history is legal before this place, and the entry there, counted from 1, breaks this rule and no
-- lesser one.
pub record IsFirstBreak (w : Setting) (history : List Entry) (b : Break) : Type 0 where
  pub from : 1 ≤ b.place
  pub within : b.place ≤ length history
  pub before : IsLegal w (take (b.place - 1) history)
  pub entry : Entry
  pub here : slice_get history (b.place - 1) ≡ Some entry
  pub rule : broken_rule w (back history (b.place - 1)) entry ≡ Some b.rule

-- The same pass, as far as its measurer has come: only entries of others are new.
pub record SamePass (old new : Pass) : Type 0 where
  pub discipline : new.discipline ≡ old.discipline
  pub counter : new.counter ≡ old.counter
  pub opened : new.opened ≡ old.opened
  pub copied : copied_of new ≡ copied_of old
  pub ended : is_ended new ≡ is_ended old
  pub released : is_released new ≡ is_released old

-- from one history to a longer one the pass stays as it was, and so do the bytes that it has copied
pub record KeepsPass (w : Setting) (old new : List Entry) (pass : Pass) : Type 0 where
  pub now : Pass
  pub last : pass_after (reverse new) ≡ Some now
  pub same : SamePass pass now
  pub bytes : copied_bytes w (reverse new) ≡ copied_bytes w (reverse old)

-- an End after a history with a pass ends that pass there, however the history goes on
abbrev pub EndsThere : Type 0
EndsThere = (history : List Entry) (entry : Entry) (more : List Entry) (pass : Pass) → pass_after (reverse history) ≡ Some pass → entry.act ≡ End → EndsAt (history ++ entry ∷ more) pass.discipline pass.counter (start_of pass) (length history + 1)

-- an End copies nothing
abbrev pub EndCopiesNone : Type 0
EndCopiesNone = (w : Setting) (history : List Entry) (entry : Entry) (more : List Entry) → entry.act ≡ End → copied_bytes w (back (history ++ entry ∷ more) (length history + 1)) ≡ copied_bytes w (reverse history)

-- a Release after a history with a pass releases that pass there
abbrev pub ReleasesThere : Type 0
ReleasesThere = (history : List Entry) (entry : Entry) (more : List Entry) (pass : Pass) → pass_after (reverse history) ≡ Some pass → entry.act ≡ Release → ReleasesAt (history ++ entry ∷ more) pass.discipline pass.counter (start_of pass) (length history + 1)

-- the plan after a history
abbrev pub lock_plan_of : Setting → List Entry → PlanState
lock_plan_of w history = plan_after w.ranges (reverse history)

-- the plan once this act has come
abbrev pub plan_step : Act → PlanState → PlanState
plan_step (Start discipline counter) plan = after_start discipline plan
plan_step (Copy block) plan = pass_changed with_copy plan
plan_step End plan = pass_changed with_end plan
plan_step Release plan = pass_changed with_release plan
plan_step (Fetch addr value) plan = plan
plan_step (Load addr width value) plan = plan
plan_step (Store addr width value) plan = plan
plan_step Tick plan = plan

-- where this step of the measurer comes next, the act is in order: accesses and Ticks always are
abbrev pub is_next : PlanStep → Act → Bool
is_next step (Fetch addr value) = true
is_next step (Load addr width value) = true
is_next step (Store addr width value) = true
is_next step Tick = true
is_next next.Start (Start discipline counter) = true
is_next step (Start discipline counter) = false
is_next (next.Copy expected) (Copy block) = block == expected
is_next step (Copy block) = false
is_next next.End End = true
is_next step End = false
is_next next.Release Release = true
is_next step Release = false
