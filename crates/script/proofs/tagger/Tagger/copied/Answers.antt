use Rattle.std.proofs.Common.{refl}
use Rattle.script.proofs.TaggerSteps.{tagging-copy}
use Rattle.script.proofs.tagger.Tagger.copied.Goals as goal

pub returns : goal.returns
returns c = λ w key nonce past block bytes t.
    tagging-copy w key nonce past block c.args.self.now _ t refl refl refl refl refl (λ k text h. rw (← bytes) (c.update.ensures k text h))
