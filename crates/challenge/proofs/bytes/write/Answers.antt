-- What is written is read again.
use Rattle.std.proofs.Common.{◌≡◌, ◌++◌, [], length, sym, ap, ◌∙◌}
use Rattle.std.proofs.lemmas.List.{append-nil}
use Rattle.hmac256.specs.Hmac.{hmac}
use Rattle.challenge.proofs.Spelling.{written_is_read}
use Rattle.challenge.proofs.bytes.write.Goals as goal

pub returns-clause-again : goal.returns-clause-again
returns-clause-again c =
    let head = c.copy_from_slice-2.new.self in
    let same : head ≡ c.head-head.result = c.copy_from_slice-2.ensures.after in
    let mac = c.copy_from_slice.new.self ++ [] in
    let mac-is : mac ≡ hmac c.args.key.now head = append-nil c.copy_from_slice.new.self ∙ c.copy_from_slice.ensures.after ∙ c.hmac256.ensures ∙ ap (hmac c.args.key.now) (sym same) in
    let mac-length : length mac ≡ 32 = ap length (append-nil c.copy_from_slice.new.self) ∙ c.copy_from_slice.ensures.len in
    written_is_read c.args.key.now c.args.challenge.now head mac c.requires c.head-head.ensures.counter (same ∙ c.head-head.ensures.value) mac-is c.copy_from_slice-2.ensures.len mac-length
