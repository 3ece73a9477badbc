-- The MAC stands behind the 40 bytes that a challenge begins with.
use Rattle.std.proofs.Common.{◌≡◌, ℕ, List, ◌++◌, length, drop, sym, ap, ◌∙◌}
use Rattle.std.proofs.Math.Seq.{drop-append_seam}
use Rattle.hmac256.specs.Hmac.{hmac}
use Rattle.challenge.specs.declared.Challenge.{Challenge}
use Rattle.challenge.specs.Bytes.{challenge_head, challenge_bytes}

behind_nonce : (nonce mac : List ℕ) → length nonce ≡ 16 → drop 16 (nonce ++ mac) ≡ mac
behind_nonce nonce mac size = ap (λ (n : ℕ). drop n (nonce ++ mac)) (sym size) ∙ drop-append_seam nonce mac

pub mac_behind : (key : List ℕ) (c : Challenge) → length c.nonce ≡ 16 → drop 40 (challenge_bytes key c) ≡ hmac key (challenge_head c)
unfolding challenge_bytes challenge_head
mac_behind key c size = behind_nonce c.nonce (hmac key (challenge_head c)) size
