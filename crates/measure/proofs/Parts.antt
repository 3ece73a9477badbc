-- Parts of the measurer's program that were made one after the other, and a part that met a full history.
use Rattle.std.proofs.Common.{◌≡◌, ℕ, suc, ◌+◌, ◌-◌, ◌<◌, List, [], ◌∷◌, ◌++◌, replicate, sym, ap, ◌∙◌, subst, append_assoc, append-nil, arith}
use Rattle.std.proofs.lemmas.List.{replicate_more, replicate-append-replicate}
use Rattle.history.specs.declared.events.Act.{Act}
use Rattle.history.specs.declared.events.Act.TheVariants.{Tick}
use Rattle.history.specs.declared.events.Entry.{Entry}
use Rattle.history.specs.Layout.{Setting}
use Rattle.history.specs.Legal.{IsLegal}
use Rattle.chronicle.specs.Ports.{AddsEntry, IsFull, IsMeasurer, OthersFollow, entry_by}
use Rattle.measure.specs.Program.{HasMade, IsCut}
use Rattle.measure.specs.Passing.{MetFull}

abbrev pub MadeMore : Type 0
MadeMore = (first second third : List Entry) (a b : List Act) → HasMade first second a → HasMade second third b → HasMade first third (a ++ b)

abbrev pub MadeOthers : Type 0
MadeOthers = (old new : List Entry) → OthersFollow 0 1 old new → HasMade old new []

abbrev pub MadeAdded : Type 0
MadeAdded = (old new : List Entry) (a : Act) → AddsEntry 0 1 old new (entry_by 0 a) → HasMade old new (a ∷ [])

-- the answers of a port whose range is the measurer
pub own_adds : (low high : ℕ) → IsMeasurer low high → (old new : List Entry) (a : Act) → AddsEntry low high old new (entry_by low a) → AddsEntry 0 1 old new (entry_by 0 a)
own_adds low high m old new a h = subst (λ l. AddsEntry l 1 old new (entry_by l a)) m.0 (subst (λ u. AddsEntry low u old new (entry_by low a)) m.1 h)

own_follows : (low high : ℕ) → IsMeasurer low high → (old new : List Entry) → OthersFollow low high old new → OthersFollow 0 1 old new
own_follows low high m old new f = subst (λ l. OthersFollow l 1 old new) m.0 (subst (λ u. OthersFollow low u old new) m.1 f)

-- one act more
pub made_next : MadeMore → MadeAdded → (low high : ℕ) → IsMeasurer low high → (first old new : List Entry) (made : List Act) (a : Act) → HasMade first old made → AddsEntry low high old new (entry_by low a) → HasMade first new (made ++ a ∷ [])
made_next more added low high m first old new made a entries h = more first old new made (a ∷ []) entries (added old new a (own_adds low high m old new a h))

-- the act that comes next met a full history
pub cut_there : MadeMore → MadeOthers → (w : Setting) (low high : ℕ) → IsMeasurer low high → (first old new : List Entry) (program made missed : List Act) (next : Act) (place : ℕ)
    → program ≡ made ++ next ∷ missed → HasMade first old made → IsFull w low high old new place → IsCut w first new program place made
cut_there more others w low high m first old new program made missed next place whole entries full = record {
  next = next;
  missed = missed;
  whole = whole;
  entries = subst (HasMade first new) (append-nil made) (more first old new made [] entries (others old new (own_follows low high m old new full.0)));
  full = sym full.2 ∙ full.1;
  at = full.1;
}

-- a part that was cut, with what comes before it and after it
pub cut_within : MadeMore → (w : Setting) (first old new : List Entry) (before acts after made : List Act) (place : ℕ) → HasMade first old before → IsCut w old new acts place made → IsCut w first new (before ++ acts ++ after) place (before ++ made)
cut_within more w first old new before acts after made place entries cut = record {
  next = cut.next;
  missed = cut.missed ++ after;
  whole = ap (λ l. before ++ l ++ after) cut.whole ∙ ap (λ l. l ++ after) (sym (append_assoc before made (cut.next ∷ cut.missed))) ∙ append_assoc (before ++ made) (cut.next ∷ cut.missed) after;
  entries = more first old new before made entries cut.entries;
  full = cut.full;
  at = cut.at;
}

-- so many Ticks, cut at one of them
ticks_split : (count made : ℕ) → made < count → replicate count Tick ≡ replicate made Tick ++ Tick ∷ replicate (count - made - 1) Tick
ticks_split count made within =
    let n : count ≡ made + suc (count - made - 1) = omega (arith, within) in
    ap (λ k. replicate k Tick) n ∙ sym (replicate-append-replicate made (suc (count - made - 1)) Tick)

pub ticks_full : MadeMore → MadeOthers → (w : Setting) (low high : ℕ) → IsMeasurer low high → (first old new : List Entry) (count made place : ℕ)
    → made < count → HasMade first old (replicate made Tick) → IsLegal w new → IsFull w low high old new place → MetFull w first new (replicate count Tick) place
ticks_full more others w low high m first old new count made place within entries legal full = (
  replicate made Tick,
  cut_there more others w low high m first old new (replicate count Tick) (replicate made Tick) (replicate (count - made - 1) Tick) Tick place (ticks_split count made within) entries full,
  legal,
)

pub ticks_next : MadeMore → MadeAdded → (low high : ℕ) → IsMeasurer low high → (first old new : List Entry) (made : ℕ) → HasMade first old (replicate made Tick) → AddsEntry low high old new (entry_by low Tick) → HasMade first new (replicate (made + 1) Tick)
ticks_next more added low high m first old new made entries h = subst (HasMade first new) (replicate_more made Tick) (made_next more added low high m first old new (replicate made Tick) Tick entries h)
