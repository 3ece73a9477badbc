-- One address more.
use Rattle.std.proofs.Common.{◌≡◌, ◌+◌, [], ◌∷◌, ◌++◌, map, sym, ap, ◌∙◌, arith}
use Rattle.std.specs.List.{range_with_len}
use Rattle.std.proofs.lemmas.List.FromFn.{map-range_with_len_more}
use Rattle.generated.specs.Generated.{first_address}
use Rattle.generated.proofs.devices.entries_of.Goals as goal

pub loop-k-preserved : goal.loop-k-preserved
loop-k-preserved c =
    let k = c.loop-k.k in
    let more : map first_address (range_with_len 0 (k + 1)) ≡ map first_address (range_with_len 0 k) ++ first_address k ∷ [] = map-range_with_len_more first_address 0 k k (omega arith) in
    c.in_ok-push.ensures.items ∙ ap (λ l. l ++ first_address k ∷ []) c.loop-k.invariant ∙ sym more
