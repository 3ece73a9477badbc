-- For private functions alone: what a tagger keeps of the last pass, enough to print its tags.
use Rattle.std.specs.Prelude.{◌≡◌, ℕ, ◌+◌, true, false, List, ◌++◌, length, Some}
use Rattle.history.specs.declared.events.Entry.{Entry}
use Rattle.history.specs.Layout.{Setting}
use Rattle.history.specs.Pass.{Pass, pass_after, start_of, is_ended}
use Rattle.history.specs.Copied.{copied_bytes}
use Rattle.hmac256.specs.States.{StandsFor}
use Rattle.chronicle.specs.Worlds.{shape_of}
use Rattle.report.specs.Tags.{head_bytes}
use Rattle.script.specs.Printed.{asked_by_pass, before_end, tag_at_end}
use Rattle.script.specs.declared.tagger.Tagger.{Tagger}

-- while the pass isn't ended, the digest stands for the head and the copied bytes
pub record IsHashing (w : Setting) (key nonce : List ℕ) (past : List Entry) (pass : Pass) (t : Tagger) : Type 0 where
  pub counter : t.counter ≡ pass.counter
  pub start : t.start ≡ start_of pass
  pub hashed : is_ended pass ≡ false → StandsFor t.hmac key (head_bytes (asked_by_pass pass nonce) (shape_of w) ++ copied_bytes w past)
  pub end : is_ended pass ≡ true → t.end ≡ length (before_end past) + 1
  pub tag : is_ended pass ≡ true → t.tag ≡ tag_at_end w key nonce (before_end past)

-- the tagger is that of the last pass after these entries, the newest first
pub record IsTagging (w : Setting) (key nonce : List ℕ) (past : List Entry) (t : Tagger) : Type 0 where
  pub key_is : t.key.items ≡ key
  pub pass : (pass : Pass) → pass_after past ≡ Some pass → IsHashing w key nonce past pass t
