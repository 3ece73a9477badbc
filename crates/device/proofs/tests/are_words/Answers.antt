use Rattle.std.proofs.Common.{◌≡◌, ◌%◌, All, subst}
use Rattle.std.proofs.lemmas.List.{take_all}
use Rattle.std.proofs.lemmas.List.Elements.{All-more}
use Rattle.device.proofs.tests.are_words.Goals as goal

pub loop-entry-preserved : goal.loop-entry-preserved
loop-entry-preserved c = All-more (λ entry. entry % 4 ≡ 0) c.args.entries.now c.loop-entry.entry-index 0 c.loop-entry-test.true c.loop-entry.invariant c.if-entry-ne0.false

pub returns : goal.returns
returns c = λ _. subst (All (λ entry. entry % 4 ≡ 0)) (take_all c.loop-entry.entry-index c.args.entries.now c.loop-entry-test.false) c.loop-entry.invariant
