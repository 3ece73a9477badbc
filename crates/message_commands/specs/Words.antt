-- What the words of the command `challenge` ask for.
use Rattle.std.specs.Prelude.{ℕ, if◌then◌else◌, List, Option, Some, None}
use Rattle.std.specs.Result.{result_ok}
use Rattle.hex.specs.Hex.{decode_sized}
use Rattle.text_readers.specs.Numbers.{plain_decimal}
use Rattle.history.specs.Names.{discipline_of}
use Rattle.challenge.specs.declared.Challenge.{Challenge}
use Rattle.challenge.specs.Bytes.{is_challenge}
use Rattle.sequencing.specs.Options.{◌>>=◌}

-- the challenge, if it is valid
abbrev pub if_valid : Challenge → Option Challenge
if_valid c = if is_challenge c then Some c else None

-- the challenge that the words DISCIPLINE LEAD HOLD COUNTER NONCE ask for, the nonce in 32 hexadecimal digits
unfoldable pub challenge_of_words : List ℕ → List ℕ → List ℕ → List ℕ → List ℕ → Option Challenge
challenge_of_words discipline lead hold counter nonce = do
  form ← discipline_of discipline
  before ← plain_decimal lead
  after ← plain_decimal hold
  number ← plain_decimal counter
  bytes ← result_ok (decode_sized nonce 16)
  if_valid (record { discipline = form; lead = before; hold = after; counter = number; nonce = bytes })
