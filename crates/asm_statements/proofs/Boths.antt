-- Two operands, of which the second is seen in another form.
use Rattle.std.proofs.Common.{◌≡◌, Result, Ok, Err, refl}
use Rattle.std.specs.Result.{result_map_both}
use Rattle.asm_lines.specs.declared.kinds.Kind.{Kind}
use Rattle.asm_lines.specs.Kinds.{both}

pub both_seen : {A B C : Type 0} (f : B → C) (a : Result A Kind) (b : Result B Kind)
    → result_map_both (λ p. (p.0, f p.1)) (λ kind. kind) (both a b) ≡ both a (result_map_both f (λ kind. kind) b)
both_seen f (Ok a) (Ok b) = refl
both_seen f (Ok a) (Err k) = refl
both_seen f (Err j) (Ok b) = refl
both_seen f (Err j) (Err k) = refl
