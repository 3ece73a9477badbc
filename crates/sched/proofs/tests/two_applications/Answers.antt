-- Both addresses are divisible by 4.
use Rattle.std.proofs.Common.{◌≡◌, ℕ, ◌%◌, [], ◌∷◌, refl, ◌∙◌}
use Rattle.std.proofs.lemmas.List.Elements.{All-cons, All-nil, All-same}
use Rattle.sched.proofs.tests.two_applications.Goals as goal

abbrev IsAligned : ℕ → Type 0
IsAligned entry = entry % 4 ≡ 0

pub device_of-requires : goal.device_of-requires
device_of-requires c = record { aligned = All-same IsAligned _ (0x80000000 ∷ 0x80000010 ∷ []) (c.from_vec-2.ensures ∙ c.in_ok-entries.ensures.items) (All-cons IsAligned 0x80000000 (0x80000010 ∷ []) refl (All-cons IsAligned 0x80000010 [] refl (All-nil IsAligned))) }
