use Rattle.std.proofs.Common.{◌≡◌, ℕ, ◌+◌, ◌<◌, ◌≤◌, ◌^◌, get_or, sym, subst, ap, ◌∙◌, inl, inr, arith}
use Rattle.std.proofs.lemmas.Bool.{cases_lt}
use Rattle.std.proofs.lemmas.List.{get_or_default}
use Rattle.challenge.specs.declared.Challenge.{Challenge}
use Rattle.device_commands.proofs.setting_up.counters_fit.Goals as goal

pub loop-challenge-preserved : goal.loop-challenge-preserved
loop-challenge-preserved c = λ k d below.
    let all = c.args.challenges.now in
    let i = c.loop-challenge.challenge-index in
    elim (cases_lt k i) [
      | inl before ↦ c.loop-challenge.invariant k d before
      | inr behind ↦
          let here : i ≡ k = omega (arith, below, behind) in
          let one : (get_or all i d).counter < 2 ^ 64 = subst (λ (x : Challenge). x.counter < 2 ^ 64) (get_or_default all i _ d c.loop-challenge-test.true) c.counter_fits.ensures in
          subst (λ (n : ℕ). (get_or all n d).counter < 2 ^ 64) here one
    ]

pub returns : goal.returns
returns c = λ k d below. c.loop-challenge.invariant k d (omega (arith, below, c.loop-challenge-test.false))
