-- The pass before an entry that goes on with it.
use Rattle.std.proofs.Common.{◌≡◌, Option, Some, None, option_map, refl}
use Rattle.history.specs.declared.events.Entry.{Entry}
use Rattle.history.specs.Pass.{Pass, longer}

-- a pass went on with an entry
pub record WentOn (entry : Entry) (before : Option Pass) (pass : Pass) : Type 0 where
  pub earlier : Pass
  pub was : before ≡ Some earlier
  pub now : longer entry earlier ≡ pass

pub went_on : (entry : Entry) (before : Option Pass) (pass : Pass) → option_map (longer entry) before ≡ Some pass → WentOn entry before pass
went_on entry None pass h = absurd cc
went_on entry (Some earlier) pass h = record { earlier = earlier; was = refl; now = cc }
