use Rattle.std.proofs.Common.{◌∙◌}
use Rattle.script.proofs.TaggerSteps.{note_digested}
use Rattle.script.proofs.tagger.Tagger.released.Goals as goal

pub returns : goal.returns
returns c = λ w key nonce past pass at t is over.
    let hashing = t.pass pass is in
    let head = c.update.ensures _ _ c.new-hmac.ensures in
    let whole = c.update-2.ensures _ _ head in
    note_digested w key nonce past pass c.args.self.now.counter c.args.self.now.start c.args.self.now.end c.args.place c.args.self.now.tag c.finish.result
    is hashing.counter hashing.start (hashing.end over) at (hashing.tag over) (rw (c.deref.ensures.value ∙ t.key_is, c.note_head.ensures) at (c.finish.ensures _ _ whole))
