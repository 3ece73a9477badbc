use Rattle.std.proofs.Common.{◌≡◌, ℕ, suc, ◌+◌, [], ◌∷◌, length, drop, sym, ap, ◌∙◌, arith}
use Rattle.std.proofs.lemmas.List.{drop_all, length-append}
use Rattle.std.proofs.Math.Seq.{drop-cons}
use Rattle.device_config.specs.declared.plans.ChallengePlan.{ChallengePlan}
use Rattle.command_plans.specs.Steps.{no_memory}
use Rattle.command_plans.specs.Answered.{reason_of}
use Rattle.device_inputs.specs.Inputs.{ChallengeFileIn, ChallengeFilesIn}
use Rattle.device_inputs.proofs.EachRead.{one_read, read_stops, each_read, tells_stop, not_kept, challenge_may_spend}
use Rattle.device_inputs.proofs.challenges.read_challenge_files.Goals as goal

pub returns-in_err-bytes-clause-reads : goal.returns-in_err-bytes-clause-reads
returns-in_err-bytes-clause-reads g c =
    let i = c.loop-challenge.challenge-index in
    let all = c.args.challenges.now in
    let one = c.challenge-item.result in
    let more = drop (suc i) all in
    let split : drop i all ≡ one ∷ more = drop-cons all i one c.loop-challenge-test.true ∙ ap (λ (a : ChallengePlan). a ∷ more) (sym c.challenge-item.is) in
    let old = g.F.Files.shows c.args.files.now in
    let mid = g.F.Files.shows c.loop-challenge.files in
    let new = g.F.Files.shows c.read_challenge_file.new.files in
    let stop = c.in_err-bytes.field-0.0 in
    tells_stop (ChallengeFilesIn all) (λ list. list) c.from_residual.result stop old new c.from_residual.ensures.1
    (read_stops ChallengeFileIn c.loop-challenge.list (drop i all) more all one (reason_of stop) old mid new c.loop-challenge.invariant.goes split c.in_err-bytes.ensures)

pub returns-in_default-clause-reads : goal.returns-in_default-clause-reads
returns-in_default-clause-reads g c =
    let i = c.loop-challenge.challenge-index in
    let all = c.args.challenges.now in
    let one = c.challenge-item.result in
    let more = drop (suc i) all in
    let split : drop i all ≡ one ∷ more = drop-cons all i one c.loop-challenge-test.true ∙ ap (λ (a : ChallengePlan). a ∷ more) (sym c.challenge-item.is) in
    let old = g.F.Files.shows c.args.files.now in
    let mid = g.F.Files.shows c.loop-challenge.files in
    let new = g.F.Files.shows c.read_challenge_file.new.files in
    read_stops ChallengeFileIn c.loop-challenge.list (drop i all) more all one no_memory old mid new c.loop-challenge.invariant.goes split
    (not_kept ChallengeFileIn challenge_may_spend one c.in_ok-bytes.bytes mid new c.in_ok-bytes.ensures)

pub loop-challenge-preserved : goal.loop-challenge-preserved
loop-challenge-preserved g c =
    let i = c.loop-challenge.challenge-index in
    let all = c.args.challenges.now in
    let one = c.challenge-item.result in
    let next : i + 1 ≡ suc i = omega arith in
    let more = drop (i + 1) all in
    let split : drop i all ≡ one ∷ more =
    drop-cons all i one c.loop-challenge-test.true ∙ ap (λ (a : ChallengePlan). a ∷ drop (suc i) all) (sym c.challenge-item.is) ∙ ap (λ (k : ℕ). one ∷ drop k all) (sym next) in
    let old = g.F.Files.shows c.args.files.now in
    let mid = g.F.Files.shows c.loop-challenge.files in
    let new = g.F.Files.shows c.read_challenge_file.new.files in
    let pushed = c.in-Ok.ensures.ok in
    record {
      goes = rw pushed (one_read ChallengeFileIn c.loop-challenge.list (drop i all) more all one c.in_ok-bytes.bytes old mid new c.loop-challenge.invariant.goes split c.in_ok-bytes.ensures);
      count = let grown : length c.push.new.self ≡ length c.loop-challenge.list + 1 = ap length pushed ∙ length-append c.loop-challenge.list (c.in_ok-bytes.bytes ∷ []) in omega (arith, grown, c.loop-challenge.invariant.count);
    }

pub returns-clause-reads : goal.returns-clause-reads
returns-clause-reads g c =
    let i = c.loop-challenge.challenge-index in
    let all = c.args.challenges.now in
    each_read ChallengeFileIn c.loop-challenge.list (drop i all) all (g.F.Files.shows c.args.files.now) (g.F.Files.shows c.loop-challenge.files) c.loop-challenge.invariant.goes (drop_all i all c.loop-challenge-test.false)
