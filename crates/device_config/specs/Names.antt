-- The files that a run of the device writes.
use Rattle.std.specs.Prelude.{ℕ, Bool, true, not, ◌&&◌, List, [], ◌∷◌, ◌++◌, map, bytes_eq}
use Rattle.std.specs.List.{list_any}
use Rattle.device_config.specs.declared.plans.AppPlan.{AppPlan}
use Rattle.device_config.specs.declared.plans.ChallengePlan.{ChallengePlan}

-- the name is among these
abbrev pub is_among : List (List ℕ) → List ℕ → Bool
is_among names name = list_any (λ other. bytes_eq other name) names

-- no name stands twice, compared as texts
abbrev pub all_different : List (List ℕ) → Bool
all_different [] = true
all_different (name ∷ names) = not (is_among names name) && all_different names

abbrev pub consoles : List AppPlan → List (List ℕ)
consoles apps = map (λ app. app.console) apps

abbrev pub reports : List ChallengePlan → List (List ℕ)
reports challenges = map (λ challenge. challenge.report) challenges

abbrev pub notes : List ChallengePlan → List (List ℕ)
notes challenges = map (λ challenge. challenge.note) challenges

-- the trace, the consoles, the reports, the notes
unfoldable pub output_names : List ℕ → List AppPlan → List ChallengePlan → List (List ℕ)
output_names trace apps challenges = trace ∷ (consoles apps ++ (reports challenges ++ notes challenges))
