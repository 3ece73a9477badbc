use Rattle.std.proofs.Common.{refl, ◌∙◌}
use Rattle.script.proofs.TaggerSteps.{tagging-start}
use Rattle.script.proofs.tagger.Tagger.started.Goals as goal

pub returns : goal.returns
returns c = λ w key old past is at t.
    let stands = c.update.ensures _ _ c.new-hmac.ensures in
    tagging-start w key c.args.nonce.now past c.args.discipline c.args.counter _ t.key_is refl at (rw (c.deref.ensures.value ∙ t.key_is, c.as_slice.ensures.value, c.head_of.ensures, is) at stands)
