-- Each step by its own function.
use Rattle.std.proofs.Common.{refl}
use Rattle.script.specs.declared.steps.Step.TheVariants.{Load, Store, Tick, Release}
use Rattle.script.specs.Running.{past_of}
use Rattle.script.proofs.CoreSteps.{tagged_ok}
use Rattle.script.proofs.running.take_step.Goals as goal

pub returns-in-Load-clause-ran : goal.returns-in-Load-clause-ran
returns-in-Load-clause-ran c = λ key nonce t. rw c.in-Load.is (c.load.ensures key nonce)

pub returns-in-Load-clause-tagging : goal.returns-in-Load-clause-tagging
returns-in-Load-clause-tagging c = λ key nonce t.
    rw c.in-Load.is (tagged_ok c.load.result c.args.core.now.world key nonce (past_of c.args.core.now) (Load c.in-Load.width c.in-Load.addr) c.args.tagger.now refl t)

pub returns-in-Store-clause-ran : goal.returns-in-Store-clause-ran
returns-in-Store-clause-ran c = λ key nonce t. rw c.in-Store.is (c.store.ensures key nonce)

pub returns-in-Store-clause-tagging : goal.returns-in-Store-clause-tagging
returns-in-Store-clause-tagging c = λ key nonce t.
    rw c.in-Store.is (tagged_ok c.store.result c.args.core.now.world key nonce (past_of c.args.core.now) (Store c.in-Store.width c.in-Store.addr c.in-Store.value) c.args.tagger.now refl t)

pub returns-in-Tick-clause-ran : goal.returns-in-Tick-clause-ran
returns-in-Tick-clause-ran c = λ key nonce t. rw c.in-Tick.is (c.tick.ensures key nonce)

pub returns-in-Tick-clause-tagging : goal.returns-in-Tick-clause-tagging
returns-in-Tick-clause-tagging c = λ key nonce t.
    rw c.in-Tick.is (tagged_ok c.tick.result c.args.core.now.world key nonce (past_of c.args.core.now) Tick c.args.tagger.now refl t)

pub returns-in-Release-clause-ran : goal.returns-in-Release-clause-ran
returns-in-Release-clause-ran c = λ key nonce t. rw c.in-Release.is (c.release.ensures key nonce t)

pub returns-in-Release-clause-tagging : goal.returns-in-Release-clause-tagging
returns-in-Release-clause-tagging c = λ key nonce t.
    rw c.in-Release.is (tagged_ok c.release.result c.args.core.now.world key nonce (past_of c.args.core.now) Release c.args.tagger.now refl t)

pub returns-in-Start-clause-ran : goal.returns-in-Start-clause-ran
returns-in-Start-clause-ran c = λ key nonce t. rw c.in-Start.is (c.start.ensures.ran key nonce)

pub returns-in-Start-clause-tagging : goal.returns-in-Start-clause-tagging
returns-in-Start-clause-tagging c = λ key nonce t. rw c.in-Start.is (c.start.ensures.tagging key nonce t)

pub returns-in-Copy-next-clause-ran : goal.returns-in-Copy-next-clause-ran
returns-in-Copy-next-clause-ran c = λ key nonce t. rw c.in-Copy.is (c.copy.ensures.ran key nonce)

pub returns-in-Copy-next-clause-tagging : goal.returns-in-Copy-next-clause-tagging
returns-in-Copy-next-clause-tagging c = λ key nonce t. rw c.in-Copy.is (c.copy.ensures.tagging key nonce t)

pub returns-in-End-clause-ran : goal.returns-in-End-clause-ran
returns-in-End-clause-ran c = λ key nonce t. rw c.in-End.is (c.end.ensures.ran key nonce t)

pub returns-in-End-clause-tagging : goal.returns-in-End-clause-tagging
returns-in-End-clause-tagging c = λ key nonce t. rw c.in-End.is (c.end.ensures.tagging key nonce t)
