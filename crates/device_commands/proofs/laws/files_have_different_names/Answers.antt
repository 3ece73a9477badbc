use Rattle.device_commands.proofs.RunNames.{file_names_differ}
use Rattle.device_commands.proofs.laws.files_have_different_names.Goals as goal

pub returns : goal.returns
returns c = file_names_differ
