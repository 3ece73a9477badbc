-- The lemmas on the last End before a Release, over the laws of all histories.
use Rattle.script.proofs.Released.{released}
use Rattle.script.proofs.laws.releases_tell.Goals as goal

pub returns : goal.returns
returns c = released c.places_of_a_pass.ensures.ends c.places_of_a_pass.ensures.releases
