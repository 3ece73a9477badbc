-- Verifier files: the rules that device files share, and then two of their own.
use Rattle.std.specs.Prelude.{ℕ, List, codes, Result, Ok}
use Rattle.config_rules.specs.Rules.{and_then, common, rule}
use Rattle.config_rules.specs.declared.common.Common.{Common}
use Rattle.config_rules.specs.Values.{document, name_at, names_at}
use Rattle.verifier.specs.declared.files.VerifierPlan.{VerifierPlan}

abbrev pub verifier_plan : Common → List ℕ → List (List ℕ) → VerifierPlan
verifier_plan common challenge images =
    record { geometry = common.region.geometry; ranges = common.region.ranges; key = common.key; last = common.last; challenge = challenge; images = images }

-- what the bytes of a verifier file say, or the number of the first rule that fails
unfoldable pub verifier_file : List ℕ → Result VerifierPlan ℕ
verifier_file bytes =
    rule 1 (document bytes) (λ members.
    and_then (common members) (λ common.
    rule 9 (name_at (codes "challenge") members) (λ challenge.
    rule 10 (names_at (codes "images") members 1 64) (λ images.
    Ok (verifier_plan common challenge images)))))
