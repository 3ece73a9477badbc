-- The byte form of challenges, every byte by its place, and what reading it answers. The highest byte of a number
-- comes first.
use Rattle.std.specs.Prelude.{◌≡◌, ◌≢◌, ℕ, ◌^◌, ◌<◌, Bool, true, false, ◌&&◌, ◌||◌, ◌==◌, nat_le, nat_lt, if◌then◌else◌, List, [], ◌∷◌, ◌++◌, length, take, drop, slice_index, codes, Option, Some, None, Result, Ok, Err}
use Rattle.std.specs.Int.{w32, w64, to_be_bytes}
use Rattle.std.specs.Option.{option_and_then}
use Rattle.std.specs.Str.{bytes_eq}
use Rattle.hmac256.specs.Hmac.{hmac}
use Rattle.history.specs.declared.events.Discipline.{Discipline}
use Rattle.history.specs.Names.{code_of}
use Rattle.history.specs.Pass.{is_extended}
use Rattle.challenge.specs.declared.Challenge.{Challenge}
use Rattle.challenge.specs.declared.faults.ChallengeFault.{ChallengeFault}
use Rattle.challenge.specs.declared.faults.ChallengeFault.TheVariants.{Malformed, BadMac}
use Rattle.challenge.specs.declared.faults.Stale.{Stale}
use Rattle.challenge.specs.Challenges.{IsChallenge}
use Rattle.challenge.specs.Numbers.{u32_at, u64_at, discipline_with}

-- the 40 bytes that a challenge begins with, which its MAC digests
unfoldable pub challenge_head : Challenge → List ℕ
challenge_head c =
    codes "TMC1" ++ (code_of c.discipline ∷ 0 ∷ 0 ∷ 0 ∷ []) ++ to_be_bytes w32 c.lead ++ to_be_bytes w32 c.hold ++ to_be_bytes w64 c.counter ++ c.nonce

-- the 72 bytes of a challenge under a key
unfoldable pub challenge_bytes : List ℕ → Challenge → List ℕ
challenge_bytes key c = challenge_head c ++ hmac key (challenge_head c)

-- 72 bytes in the grammar, and the valid challenge that the first 40 spell; the others, the MAC, may be any
pub record Spells (bytes : List ℕ) (c : Challenge) : Type 0 where
  pub size : length bytes ≡ 72
  pub valid : IsChallenge c
  pub counter : c.counter < 2 ^ 64
  pub head : take 40 bytes ≡ challenge_head c

-- What reading answers: the challenge whose bytes under the key these are; or that they spell none; or that they
-- spell one, and the last 32 aren't its MAC.
abbrev pub IsChallengeReading : List ℕ → List ℕ → Result Challenge ChallengeFault → Type 0
IsChallengeReading key bytes (Ok c) = Spells bytes c × (bytes ≡ challenge_bytes key c)
IsChallengeReading key bytes (Err Malformed) = (c : Challenge) → Spells bytes c → ⊥
IsChallengeReading key bytes (Err BadMac) = (c : Challenge) × Spells bytes c × (bytes ≢ challenge_bytes key c)

-- the same as a function, for definitions above that compute

-- IsChallenge as a test
abbrev pub is_challenge : Challenge → Bool
is_challenge c = nat_le c.lead 4096 && nat_le c.hold 4096 && ((c.hold == 0) || is_extended c.discipline)

-- the challenge with this discipline whose other fields stand at their places in these 40 bytes
abbrev pub fields_at : List ℕ → Discipline → Challenge
fields_at head discipline =
    record { discipline = discipline; lead = u32_at head 8; hold = u32_at head 12; counter = u64_at head 16; nonce = drop 24 head }

-- the challenge, if it is valid and these 40 bytes are the ones that it begins with
abbrev pub if_spelled : List ℕ → Challenge → Option Challenge
if_spelled head c = if is_challenge c && bytes_eq (challenge_head c) head then Some c else None

unfoldable pub head_challenge : List ℕ → Option Challenge
head_challenge head = option_and_then (λ discipline. if_spelled head (fields_at head discipline)) (discipline_with (slice_index head 4))

-- the challenge that these bytes spell, whatever their MAC
unfoldable pub spelled_challenge : List ℕ → Option Challenge
spelled_challenge bytes = if length bytes == 72 then head_challenge (take 40 bytes) else None

abbrev pub with_mac : Option Challenge → Bool → Result Challenge ChallengeFault
with_mac None is_right = Err Malformed
with_mac (Some c) true = Ok c
with_mac (Some c) false = Err BadMac

-- what reading these bytes under the key answers
unfoldable pub challenge_in : List ℕ → List ℕ → Result Challenge ChallengeFault
challenge_in key bytes = with_mac (spelled_challenge bytes) (bytes_eq (hmac key (take 40 bytes)) (drop 40 bytes))

-- the greatest counter after a challenge is served: its own, if it is greater than all before
unfoldable pub admission : ℕ → Challenge → Result ℕ Stale
admission last c = if nat_lt last c.counter then Ok c.counter else Err (record { last = last })
