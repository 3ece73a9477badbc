-- Blocks that were copied and digested one after the other.
use Rattle.std.proofs.Common.{◌≡◌, ℕ, ◌+◌, ◌<◌, false, List, [], ◌∷◌, ◌++◌, reverse, take, drop, refl, sym, ap, ◌∙◌, subst, append_assoc}
use Rattle.std.proofs.lemmas.List.{map-append, take-map, take-append-drop}
use Rattle.std.proofs.Math.Seq.{take-length}
use Rattle.history.specs.declared.events.Act.TheVariants.{Copy}
use Rattle.history.specs.declared.events.Entry.{Entry}
use Rattle.history.specs.Attested.{attested_block, attested_blocks, total}
use Rattle.history.specs.Layout.{Setting, IsSetting}
use Rattle.history.specs.Memory.{block_bytes, memory_after}
use Rattle.history.specs.Legal.{IsLegal}
use Rattle.history.specs.Copied.{copied_bytes}
use Rattle.hmac256.specs.declared.Hmac.{Hmac}
use Rattle.hmac256.specs.States.{StandsFor}
use Rattle.challenge.specs.declared.Challenge.{Challenge}
use Rattle.chronicle.specs.Ports.{AddsEntry, IsMeasurer, entry_by}
use Rattle.measure.specs.declared.passing.Passing.{Passing}
use Rattle.measure.specs.declared.passing.Part.TheVariants as part
use Rattle.measure.specs.Program.{HasMade, IsCut, copies}
use Rattle.measure.specs.Passing.{HasCopiedBlocks, IsPassing, IsUnderWay, MetFull}
use Rattle.measure.proofs.Blocks.{NextBlock}
use Rattle.measure.proofs.Parts.{MadeAdded, MadeMore, cut_within, own_adds}

abbrev pub CopiedNext : Type 0
CopiedNext = (w : Setting) (old new : List Entry) (c : Challenge) (start copied block : ℕ)
    → IsLegal w new → AddsEntry 0 1 old new (entry_by 0 (Copy block)) → IsUnderWay w old c start copied false
    → IsUnderWay w new c start (copied + 1) false × (copied_bytes w (reverse new) ≡ copied_bytes w (reverse old) ++ block_bytes w (memory_after w (reverse new)) block)

-- one block
pub block_copied : MadeAdded → CopiedNext → (w : Setting) (low high : ℕ) → IsMeasurer low high → (old new : List Entry) (before : Passing) (after : Hmac) (index block : ℕ) (buffer : List ℕ)
    → block ≡ attested_block w.ranges index → IsLegal w new → AddsEntry low high old new (entry_by low (Copy block)) → IsPassing w old index before
    → buffer ≡ block_bytes w (memory_after w (reverse new)) block
    → ((key text : List ℕ) → StandsFor before.hmac key text → StandsFor after key (text ++ buffer))
    → HasCopiedBlocks w old new before (record before { hmac = after }) (Copy (attested_block w.ranges index) ∷ []) (index + 1) part.Made
block_copied added copied w low high m old new before after index block buffer is legal h passing bytes update =
    let adds = own_adds low high m old new (Copy block) h in
    let next = copied w old new before.challenge before.start index block legal adds passing.1 in (
      subst (λ b. HasMade old new (Copy b ∷ [])) is (added old new (Copy block) adds),
      legal,
      refl,
      (passing.0, next.0),
      λ key text stands. subst (λ t. StandsFor after key t)
          (append_assoc text (copied_bytes w (reverse old)) buffer ∙ ap (λ l. text ++ l) (ap (λ b. copied_bytes w (reverse old) ++ b) bytes ∙ sym next.1))
          (update key (text ++ copied_bytes w (reverse old)) stands),
    )

-- the Copies of one block more
copies_more : NextBlock → (w : Setting) → IsSetting w → (count : ℕ) → count < total w.ranges → copies (take count (attested_blocks w.ranges)) ++ Copy (attested_block w.ranges count) ∷ [] ≡ copies (take (count + 1) (attested_blocks w.ranges))
copies_more next w v count within =
    let blocks = attested_blocks w.ranges in
    sym (map-append Copy (take count blocks) (attested_block w.ranges count ∷ [])) ∙ ap copies (sym (next w.ranges v.ranges.apart count within))

-- so many blocks, and one more
pub copied_more : NextBlock → MadeMore → (w : Setting) → IsSetting w → (first old new : List Entry) (before middle after : Passing) (count : ℕ) → count < total w.ranges
    → HasCopiedBlocks w first old before middle (copies (take count (attested_blocks w.ranges))) count part.Made → HasCopiedBlocks w old new middle after (Copy (attested_block w.ranges count) ∷ []) (count + 1) part.Made
    → HasCopiedBlocks w first new before after (copies (take (count + 1) (attested_blocks w.ranges))) (count + 1) part.Made
copied_more next more w v first old new before middle after count within a b = (
  subst (HasMade first new) (copies_more next w v count within) (more first old new (copies (take count (attested_blocks w.ranges))) (Copy (attested_block w.ranges count) ∷ []) a.0 b.0),
  b.1,
  b.2 ∙ ap (λ (p : Passing). record p { hmac = after.hmac }) a.2,
  b.3,
  λ key text stands. b.4 key text (a.4 key text stands),
)

-- the Copies up to a block, its own, and the rest
copies_split : NextBlock → (w : Setting) → IsSetting w → (made : ℕ) → made < total w.ranges
    → copies (attested_blocks w.ranges) ≡ copies (take made (attested_blocks w.ranges)) ++ (Copy (attested_block w.ranges made) ∷ []) ++ drop (made + 1) (copies (attested_blocks w.ranges))
copies_split next w v made within =
    let blocks = attested_blocks w.ranges in
    sym (take-append-drop (made + 1) (copies blocks))
    ∙ ap (λ l. l ++ drop (made + 1) (copies blocks)) (take-map Copy (made + 1) blocks ∙ sym (copies_more next w v made within))

-- the Copies, cut at one of them
pub copies_full : NextBlock → MadeMore → (w : Setting) → IsSetting w → (first old new : List Entry) (made place : ℕ) → made < total w.ranges → HasMade first old (copies (take made (attested_blocks w.ranges)))
    → MetFull w old new (Copy (attested_block w.ranges made) ∷ []) place → MetFull w first new (copies (attested_blocks w.ranges)) place
copies_full next more w v first old new made place within entries (some, cut, legal) =
    let blocks = attested_blocks w.ranges in (
      copies (take made blocks) ++ some,
      subst (λ l. IsCut w first new l place (copies (take made blocks) ++ some)) (sym (copies_split next w v made within))
          (cut_within more w first old new (copies (take made blocks)) (Copy (attested_block w.ranges made) ∷ []) (drop (made + 1) (copies blocks)) some place entries cut),
      legal,
    )

-- once all are copied
pub copied_all : (w : Setting) (first new : List Entry) (before after : Passing) → HasCopiedBlocks w first new before after (copies (take (total w.ranges) (attested_blocks w.ranges))) (total w.ranges) part.Made
    → HasCopiedBlocks w first new before after (copies (attested_blocks w.ranges)) (total w.ranges) part.Made
copied_all w first new before after h =
    subst (λ l. HasCopiedBlocks w first new before after (copies l) (total w.ranges) part.Made) (take-length (attested_blocks w.ranges)) h
