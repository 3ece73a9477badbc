-- The first measurement is under way, if there is a challenge.
use Rattle.std.proofs.Common.{false, length, None, Some, refl, subst, arith}
use Rattle.std.specs.Prelude.{slice_get}
use Rattle.device.specs.Keeping.{BeginsNext}
use Rattle.device.proofs.Measurements.{begun_passes}
use Rattle.device.proofs.making.passes_of.Goals as goal

pub returns-clause-measuring : goal.returns-clause-measuring
returns-clause-measuring c =
    begun_passes c.measuring_stands.ensures.over (record { challenges = c.args.challenges; ends = c.in_ok-ends.ends; under_way = c.measurement_for-under_way.result; tally = record { stopped = false; waits = 0; waited = None } })
    refl c.in_ok-ends.ensures.items (omega (arith, c.in_ok-ends.ensures.capacity, c.len.ensures, c.args.challenges.ok.0)) c.requires
    (subst (λ l. BeginsNext (slice_get l 0) c.measurement_for-under_way.result) c.deref.ensures.value c.measurement_for-under_way.ensures)
