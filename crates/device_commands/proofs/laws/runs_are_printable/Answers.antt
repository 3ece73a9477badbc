use Rattle.device_commands.proofs.StoredValues.{run_fits}
use Rattle.device_commands.proofs.laws.runs_are_printable.Goals as goal

pub returns : goal.returns
returns c s world counters history run = c.legal_entries_are_printable.ensures s.world world history run.legal (run_fits s history run counters)
