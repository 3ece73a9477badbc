-- A geometry is made exactly where the layout passes its test.
use Rattle.std.proofs.Common.{◌≡◌, true, Option, Some, None, refl}
use Rattle.std.specs.Option.{SomeIff}
use Rattle.std.proofs.lemmas.Bool.{false_from_ne_true}
use Rattle.history.specs.Layout.{Layout, IsLayout, is_layout}
use Rattle.sequencing.specs.Options.{when}

pub layout_from : (made : Option Layout) (l : Layout) → SomeIff made (IsLayout l) l → (is_layout l ≡ true → IsLayout l) → (IsLayout l → is_layout l ≡ true) → made ≡ when (is_layout l) l
layout_from (Some x) l made is tested = rw (tested made.0, made.1) refl
layout_from None l made is tested = rw (false_from_ne_true (is_layout l) (λ h. made (is h))) refl
