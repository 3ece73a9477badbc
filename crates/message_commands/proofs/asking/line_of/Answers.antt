use Rattle.std.proofs.Common.{◌≡◌, ◌∙◌, ap, drop}
use Rattle.hmac256.specs.Hmac.{hmac}
use Rattle.challenge.specs.Bytes.{challenge_head}
use Rattle.message_commands.proofs.Macs.{mac_behind}
use Rattle.message_commands.proofs.asking.line_of.Goals as goal

pub returns : goal.returns
returns c =
    let mac : c.split_at.result.1.now ≡ hmac c.args.key.now (challenge_head c.args.challenge.now) =
    c.split_at.ensures.back ∙ ap (drop 40) c.requires.bytes ∙ mac_behind c.args.key.now c.args.challenge.now c.nonce_is_whole.ensures in
    rw mac at c.challenge_line.ensures
