use Rattle.std.proofs.Common.{◌≡◌, drop}
use Rattle.std.specs.List.{list_any}
use Rattle.device_commands.specs.RunWritten.{is_cut_run}
use Rattle.device_commands.proofs.outputs.an_app_is_cut.Given as goal

-- what holds of all is what holds of the others
abbrev pub invariant-loop-app : goal.invariant-loop-app
invariant-loop-app l = list_any (λ app. is_cut_run app.run.end) (drop l.app-index l.apps) ≡ list_any (λ app. is_cut_run app.run.end) l.apps
