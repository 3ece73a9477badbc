use Rattle.std.proofs.Common.{◌≡◌, ℕ, List, drop, Result, subst, ◌∙◌}
use Rattle.command_plans.specs.Steps.{Reason}
use Rattle.command_plans.specs.Answered.{ReadsBy, came_of}
use Rattle.command_plans.specs.Written.{Written}
use Rattle.attest_top.specs.Plans.{named_check_plan}
use Rattle.attest_top.proofs.NamedChecks.{check_spent, check_kept}
use Rattle.attest_top.proofs.prepare.named_check.Goals as goal

pub returns-in_default : goal.returns-in_default
returns-in_default g c = check_spent c.args.trace.now c.args.key.now (drop 3 c.args.words.now) (g.F.Files.shows c.args.files.now)

pub returns : goal.returns
returns g c =
    let trace = c.args.trace.now in
    let key = c.args.key.now in
    let old = g.F.Files.shows c.args.files.now in
    let new = g.F.Files.shows c.prepare_check.new.files in
    let came : Result Written Reason = came_of (λ (w : Written). w) c.prepare_check.result in
    let own = c.deref.result.now in
    let same : own ≡ drop 3 c.args.words.now = c.deref.ensures.value ∙ c.in-Ok.ensures in
    subst (λ (names : List (List ℕ)). ReadsBy (named_check_plan trace key names) came old new) same (check_kept trace key own came old new c.prepare_check.ensures)
