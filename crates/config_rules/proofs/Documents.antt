-- A document is that of a text.
use Rattle.std.proofs.Common.{◌≡◌, true, false, List, ℕ, Option, None}
use Rattle.std.specs.Str.{is_utf8}
use Rattle.toml.specs.Data.{Members}
use Rattle.toml.specs.Parse.{parse_document}
use Rattle.config_rules.specs.Values.{document}

pub document-no_text : (bytes : List ℕ) → is_utf8 bytes ≡ false → document bytes ≡ None
unfolding document
document-no_text bytes h = rw h

pub document-text : (bytes text : List ℕ) (found : Option Members) → is_utf8 bytes ≡ true → text ≡ bytes → parse_document text ≡ found → document bytes ≡ found
unfolding document
document-text bytes text found h same parsed = rw h (rw (← same) parsed)
