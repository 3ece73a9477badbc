-- The attested blocks, as the order rule and a program have them.
use Rattle.std.proofs.Common.{◌≡◌, ℕ, ◌+◌, ◌<◌, false, List, [], ◌∷◌, ◌++◌, take, Some, sym, ap, ◌∙◌}
use Rattle.std.specs.Prelude.{IsTrue, ◌&&◌, not, ◌==◌}
use Rattle.std.proofs.lemmas.Bool.{and_from, eq-eqb}
use Rattle.history.specs.declared.events.Act.TheVariants.{End}
use Rattle.history.specs.declared.ranges.Range.{Range}
use Rattle.history.specs.Attested.{AreApart, attested_block, attested_blocks, index_of, is_attested, total}
use Rattle.history.specs.Layout.{Setting, IsSetting}
use Rattle.history.specs.Pass.{Pass, copied_of, is_ended}
use Rattle.history.specs.Legal.{copies_next, in_order}

abbrev pub IndexesAttested : Type 0
IndexesAttested = (ranges : List Range) → AreApart ranges → (index : ℕ) → index < total ranges → IsTrue (is_attested ranges (attested_block ranges index))

abbrev pub IndexesKept : Type 0
IndexesKept = (ranges : List Range) → AreApart ranges → (index : ℕ) → index < total ranges → index_of ranges (attested_block ranges index) ≡ index

abbrev pub NextBlock : Type 0
NextBlock = (ranges : List Range) → AreApart ranges → (index : ℕ) → index < total ranges → take (index + 1) (attested_blocks ranges) ≡ take index (attested_blocks ranges) ++ attested_block ranges index ∷ []

-- where so many blocks are copied, the one with this index comes next
pub copy_next : IndexesAttested → IndexesKept → (w : Setting) → IsSetting w → (index : ℕ) → index < total w.ranges → (pass : Pass) → copied_of pass ≡ index → is_ended pass ≡ false → IsTrue (copies_next w pass (attested_block w.ranges index))
copy_next attested kept w v index within pass count over =
    let block = attested_block w.ranges index in
    and_from (not (is_ended pass) && is_attested w.ranges block) (index_of w.ranges block == copied_of pass)
    (and_from (not (is_ended pass)) (is_attested w.ranges block) (ap not over) (attested w.ranges v.ranges.apart index within))
    (eq-eqb (index_of w.ranges block) (copied_of pass) (kept w.ranges v.ranges.apart index within ∙ sym count))

-- and where all are, End
pub end_next : (w : Setting) (pass : Pass) → copied_of pass ≡ total w.ranges → is_ended pass ≡ false → IsTrue (in_order w (Some pass) End)
end_next w pass count over = and_from (not (is_ended pass)) (copied_of pass == total w.ranges) (ap not over) (eq-eqb (copied_of pass) (total w.ranges) count)
