-- What a contract sees of a running digest: the key and the text that it stands for.
use Rattle.std.specs.Prelude.{ℕ, List, ◌++◌}
use Rattle.sha2.specs.Hashers.{Holds256}
use Rattle.hmac256.specs.Hmac.{inner_block, outer_block}
use Rattle.hmac256.specs.declared.Hmac.{Hmac}

-- The digest was begun with this key and has taken in this text: its inner hasher holds the key's
-- inner block and the text, its outer hasher the key's outer block (RFC 2104, section 2). The text
-- itself is not stored.
pub record StandsFor (state : Hmac) (key text : List ℕ) : Type 0 where
  pub inner : Holds256 state.inner (inner_block key ++ text)
  pub outer : Holds256 state.outer (outer_block key)
