use Rattle.device_commands.proofs.SoundPasses.{passes_are_sound}
use Rattle.device_commands.proofs.laws.measurements_are_sound.Goals as goal

pub returns : goal.returns
returns c = passes_are_sound
