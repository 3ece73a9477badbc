-- The lemmas on a script's history, over the laws of all histories.
use Rattle.script.proofs.Tagged.{attested}
use Rattle.script.proofs.laws.scripts_attest.Goals as goal

pub returns : goal.returns
returns c = attested c.copied_is_memory.ensures c.places_of_a_pass.ensures.ends c.places_of_a_pass.ensures.end_bytes
