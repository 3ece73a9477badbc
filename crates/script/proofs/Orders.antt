-- The order rule and the next block look at a pass in short alone, and each act changes that in its own way.
use Rattle.std.proofs.Common.{◌≡◌, ℕ, Bool, true, false, not, List, ◌∷◌, Option, Some, None, option_map, unwrap_or, refl}
use Rattle.std.specs.Prelude.{◌&&◌, ◌||◌, ◌==◌}
use Rattle.history.specs.declared.events.Act.{Act}
use Rattle.history.specs.declared.events.Act.TheVariants.{Fetch, Load, Store, Start, Copy, End, Tick, Release}
use Rattle.history.specs.declared.events.Entry.{Entry}
use Rattle.history.specs.Attested.{attested_block, index_of, is_attested, total}
use Rattle.history.specs.Layout.{Setting}
use Rattle.history.specs.Pass.{Pass, pass_step, pass_after, is_extended}
use Rattle.history.specs.Legal.{in_order}
use Rattle.lock_plan.specs.Plans.{PassState, state_of, pass_with, with_copy, with_end, with_release}
use Rattle.script.specs.Steps.{next_block}

-- the pass in short after these entries, the newest first
abbrev pub short_after : List Entry → Option PassState
short_after past = option_map state_of (pass_after past)

-- whether the pass in short has ended
abbrev pub ended_in : Option PassState → Bool
ended_in None = false
ended_in (Some state) = state.ended

-- the pass in short once this act has come
abbrev pub short_step : Act → Option PassState → Option PassState
short_step (Start discipline counter) before = Some (pass_with 0 false false discipline)
short_step (Copy block) before = option_map with_copy before
short_step End before = option_map with_end before
short_step Release before = option_map with_release before
short_step _ before = before

step_short : (actor : ℕ) (act : Act) (past : List Entry) (before : Option Pass) → option_map state_of (pass_step act (record { actor = actor; act = act }) past before) ≡ short_step act (option_map state_of before)
step_short actor (Start discipline counter) past before = refl
step_short actor (Copy block) past None = refl
step_short actor (Copy block) past (Some pass) = refl
step_short actor End past None = refl
step_short actor End past (Some pass) = refl
step_short actor Release past None = refl
step_short actor Release past (Some pass) = refl
step_short actor (Fetch addr value) past None = refl
step_short actor (Fetch addr value) past (Some pass) = refl
step_short actor (Load addr width value) past None = refl
step_short actor (Load addr width value) past (Some pass) = refl
step_short actor (Store addr width value) past None = refl
step_short actor (Store addr width value) past (Some pass) = refl
step_short actor Tick past None = refl
step_short actor Tick past (Some pass) = refl

-- an entry changes the pass in short by its act
pub short_more : (actor : ℕ) (act : Act) (past : List Entry) → short_after (record { actor = actor; act = act } ∷ past) ≡ short_step act (short_after past)
short_more actor act past = step_short actor act past (pass_after past)

-- the block that the pass in short copies next
abbrev pub block_after : Setting → Option PassState → ℕ
block_after w state = attested_block w.ranges (unwrap_or (option_map (λ (s : PassState). s.copied) state) 0)

pub next_by_short : (w : Setting) (pass : Option Pass) → next_block w pass ≡ block_after w (option_map state_of pass)
next_by_short w None = refl
next_by_short w (Some pass) = refl

-- the order rule, by the pass in short
abbrev pub order_by : Setting → Act → Option PassState → Bool
order_by w (Start discipline counter) None = true
order_by w (Start discipline counter) (Some state) = not (not state.ended || (is_extended state.discipline && not state.released))
order_by w (Copy block) None = false
order_by w (Copy block) (Some state) = not state.ended && is_attested w.ranges block && (index_of w.ranges block == state.copied)
order_by w End None = false
order_by w End (Some state) = not state.ended && (state.copied == total w.ranges)
order_by w Release None = false
order_by w Release (Some state) = is_extended state.discipline && state.ended && not state.released
order_by w (Fetch addr value) state = true
order_by w (Load addr width value) state = true
order_by w (Store addr width value) state = true
order_by w Tick state = true

pub order_by_short : (w : Setting) (pass : Option Pass) (act : Act) → in_order w pass act ≡ order_by w act (option_map state_of pass)
order_by_short w None (Start discipline counter) = refl
order_by_short w (Some pass) (Start discipline counter) = refl
order_by_short w None (Copy block) = refl
order_by_short w (Some pass) (Copy block) = refl
order_by_short w None End = refl
order_by_short w (Some pass) End = refl
order_by_short w None Release = refl
order_by_short w (Some pass) Release = refl
order_by_short w None (Fetch addr value) = refl
order_by_short w (Some pass) (Fetch addr value) = refl
order_by_short w None (Load addr width value) = refl
order_by_short w (Some pass) (Load addr width value) = refl
order_by_short w None (Store addr width value) = refl
order_by_short w (Some pass) (Store addr width value) = refl
order_by_short w None Tick = refl
order_by_short w (Some pass) Tick = refl
