-- What the steps of a script do to the history.
use Rattle.std.specs.Prelude.{ℕ, Bool, true, false, not, nat_lt, if◌then◌else◌, List, [], ◌∷◌, length, Option, option_map, unwrap_or}
use Rattle.history.specs.declared.events.Act.{Act}
use Rattle.history.specs.declared.events.Act.TheVariants as acts
use Rattle.history.specs.declared.events.Entry.{Entry}
use Rattle.history.specs.Attested.{attested_block}
use Rattle.history.specs.Layout.{Setting, block_of}
use Rattle.history.specs.Memory.{memory_after, value_in}
use Rattle.history.specs.Pass.{Pass, pass_after, copied_of}
use Rattle.history.specs.Locks.{is_locked}
use Rattle.history.specs.Legal.{is_access}
use Rattle.script.specs.declared.steps.Step.{Step}
use Rattle.script.specs.declared.steps.Step.TheVariants.{Load, Store, Start, Copy, End, Tick, Release}

-- the block that a pass copies next
abbrev pub next_block : Setting → Option Pass → ℕ
next_block w pass = attested_block w.ranges (unwrap_or (option_map copied_of pass) 0)

-- what a step does after these entries, the newest first
abbrev pub act_of : Setting → List Entry → Step → Act
act_of w past (Load width addr) = acts.Load addr width (value_in (memory_after w past) addr width)
act_of w past (Store width addr value) = acts.Store addr width value
act_of w past (Start discipline counter nonce) = acts.Start discipline counter
act_of w past Copy = acts.Copy (next_block w (pass_after past))
act_of w past End = acts.End
act_of w past Tick = acts.Tick
act_of w past Release = acts.Release

-- the entry that a step makes: loads and stores are application 1's, all else is the measurer's
abbrev pub entry_of : Setting → List Entry → Step → Entry
entry_of w past step = record { actor = if is_access (act_of w past step) then 1 else 0; act = act_of w past step }

-- the history has as many entries as it may have
abbrev pub is_full : Setting → List Entry → Bool
is_full w past = not (nat_lt (length past) w.cap)

-- a store into a locked block waits
abbrev pub waits : Setting → List Entry → Step → Bool
waits w past (Store width addr value) = is_locked w past (block_of w.layout addr)
waits w past _ = false

-- the entries after these steps, the newest first: a store that waits makes none, and nothing comes once the history is full
abbrev pub entries_after : Setting → List Entry → List Step → List Entry
entries_after w past [] = past
entries_after w past (step ∷ steps) =
    if is_full w past then past else (if waits w past step then entries_after w past steps
    else entries_after w (entry_of w past step ∷ past) steps)

-- a step finds the history full
abbrev pub meets_full : Setting → List Entry → List Step → Bool
meets_full w past [] = false
meets_full w past (step ∷ steps) =
    if is_full w past then true
    else (if waits w past step then meets_full w past steps
    else meets_full w (entry_of w past step ∷ past) steps)
