use Rattle.std.proofs.Common.{◌++◌, refl}
use Rattle.history.specs.Copied.{copied_bytes}
use Rattle.chronicle.specs.Worlds.{shape_of}
use Rattle.report.specs.Tags.{head_bytes}
use Rattle.script.specs.Printed.{asked_by_pass}
use Rattle.script.proofs.TaggerSteps.{tagging-end, tag_digested}
use Rattle.script.proofs.tagger.Tagger.ended.Goals as goal

pub returns-clause-tag : goal.returns-clause-tag
returns-clause-tag c = λ w key nonce past pass at t is going.
    let hashing = t.pass pass is in
    let text = head_bytes (asked_by_pass pass nonce) (shape_of w) ++ copied_bytes w past in
    let whole = c.update.ensures key text (rw c.replace-hmac.ensures.value (hashing.hashed going)) in
    tag_digested w key nonce past pass c.args.self.now.start c.args.place c.finish-self.result is hashing.start at
    (rw c.tail.ensures at (c.finish-self.ensures key (text ++ c.tail.result) whole))

pub returns-clause-kept : goal.returns-clause-kept
returns-clause-kept c = λ w key nonce past pass at t is going.
    tagging-end w key nonce past c.args.self.now _ t refl refl refl at (returns-clause-tag c w key nonce past pass at t is going)
