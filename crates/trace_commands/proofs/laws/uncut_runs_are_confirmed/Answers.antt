use Rattle.device.specs.Outcomes.{acts_of}
use Rattle.device.specs.Runs.{entries_of}
use Rattle.trace_commands.proofs.ConfirmedRuns.{generated_is_confirmed, scheduled_is_confirmed, uncut_is_confirmed}
use Rattle.trace_commands.proofs.laws.uncut_runs_are_confirmed.Goals as goal

pub returns-clause-threaded : goal.returns-clause-threaded
returns-clause-threaded c s setting fit outcome ran =
    uncut_is_confirmed (record { sound = c.measurements_are_sound.ensures; again = c.one_report.ensures.again; yes = c.confirmed_is_exact.ensures.yes })
    s setting fit (acts_of (entries_of outcome.chronicle.entries 0)) outcome ran.world ran.run.so_far.legal ran.passes

pub returns-clause-scheduled : goal.returns-clause-scheduled
returns-clause-scheduled c s setting fit =
    scheduled_is_confirmed (record { sound = c.measurements_are_sound.ensures; again = c.one_report.ensures.again; yes = c.confirmed_is_exact.ensures.yes }) s setting fit

pub returns-clause-generated : goal.returns-clause-generated
returns-clause-generated c =
    generated_is_confirmed (record { sound = c.measurements_are_sound.ensures; again = c.one_report.ensures.again; yes = c.confirmed_is_exact.ensures.yes })
