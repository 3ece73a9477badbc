-- The applications so far.
use Rattle.std.proofs.Common.{◌≡◌}
use Rattle.std.specs.Prelude.{replicate}
use Rattle.generated.specs.Parts.{counting_app}
use Rattle.generated.proofs.devices.app_plans.Given as goal

abbrev pub invariant-loop : goal.invariant-loop
invariant-loop l = l.apps.items ≡ replicate l.counter counting_app
