use Rattle.std.proofs.Common.{◌<◌, List, length, subst}
use Rattle.history.specs.declared.events.Entry.{Entry}
use Rattle.device_commands.proofs.WholeRuns.{below_is_uncut, uncut_is_whole}
use Rattle.device.specs.Outcomes.{acts_of}
use Rattle.device.specs.Runs.{entries_of}
use Rattle.device_commands.proofs.laws.uncut_runs_are_finished.Goals as goal

pub returns-clause-threaded : goal.returns-clause-threaded
returns-clause-threaded c s outcome ran = uncut_is_whole s outcome.chronicle.entries (acts_of (entries_of outcome.chronicle.entries 0)) outcome ran.apps ran.passes

pub returns-clause-threaded_below : goal.returns-clause-threaded_below
returns-clause-threaded_below c s outcome ran below = below_is_uncut s outcome.chronicle.entries outcome ran.run below ran.apps ran.passes

pub returns-clause-scheduled : goal.returns-clause-scheduled
returns-clause-scheduled c s schedule outcome ran = uncut_is_whole s ran.state.history (acts_of (entries_of ran.state.history 0)) outcome ran.apps ran.passes

pub returns-clause-scheduled_below : goal.returns-clause-scheduled_below
returns-clause-scheduled_below c s schedule outcome ran below =
    below_is_uncut s ran.state.history outcome ran.run (subst (λ (l : List Entry). length l < s.world.cap) ran.entries below) ran.apps ran.passes
