-- Bytes of memory in a row, and what a pass has copied.
use Rattle.std.proofs.Common.{◌≡◌, ℕ, zero, suc, ◌+◌, ◌-◌, ◌*◌, ◌/◌, ◌<◌, ◌≤◌, false, not, List, [], ◌∷◌, ◌++◌, Some, refl, sym, ap, ap₂, ◌∙◌, subst, inl, inr, arith, mul_comm, take, append-nil}
use Rattle.std.specs.Prelude.{IsTrue, if◌then◌else◌, flat_map, ◌&&◌, ◌==◌}
use Rattle.std.proofs.lemmas.Nat.{div-mul-add}
use Rattle.std.proofs.lemmas.Bool.{and_parts, false≢true, eqb-true, eq-eqb, ne_eqb}
use Rattle.std.proofs.lemmas.List.{take_more}
use Rattle.std.proofs.lemmas.List.Concat.{flat_map-append}
use Rattle.history.specs.declared.events.Act.{Act}
use Rattle.history.specs.declared.events.Act.TheVariants.{Fetch, Load, Store, Start, Copy, End, Tick, Release}
use Rattle.history.specs.declared.events.Entry.{Entry}
use Rattle.history.specs.Attested.{attested_blocks, attested_block, is_attested, index_of, total}
use Rattle.history.specs.Layout.{Setting, block_of, block_start}
use Rattle.history.specs.Memory.{Memory, memory_after, bytes_from, block_bytes}
use Rattle.history.specs.Pass.{Pass, longer, pass_after, copied_of, copies_in, is_ended}
use Rattle.history.specs.Legal.{IsLegalBack, in_order}
use Rattle.history.specs.Copied.{copied_step, copied_bytes}
use Rattle.history.specs.Sliding.{up_to_copy}
use Rattle.chronicle.proofs.Passes.{entry_of, is_start, pass_cases}
use Rattle.chronicle.proofs.Indexes.{StandAtIndexes, index_fits}
use Rattle.chronicle.proofs.Slide.{up_to_same}

-- two memories with the same bytes in a row
pub bytes_same : (m other : Memory) (x count : ℕ) → ((y : ℕ) → x ≤ y → y < x + count → m y ≡ other y) → bytes_from m x count ≡ bytes_from other x count
bytes_same m other x zero same = refl
bytes_same m other x (suc count) same = ap₂ (λ byte bytes. byte ∷ bytes) (same x (omega arith) (omega arith)) (bytes_same m other (x + 1) count (λ y low high. same y (omega arith) (omega arith)))

-- a byte from the block's start on is in the block
in_block : (size base block y : ℕ) → base + size * block ≤ y → y < base + size * block + size → (y - base) / size ≡ block
in_block size base block y low high =
    let r = y - (base + size * block) in
    let turned : size * block ≡ block * size = mul_comm size block in
    let here : y - base ≡ block * size + r = omega arith in
    ap (λ n. n / size) here ∙ div-mul-add block size r (omega arith)

-- this memory has, in each attested block with an index below the count, the bytes of the block's last Copy
pub record HasCopies (w : Setting) (m : Memory) (past : List Entry) (count : ℕ) : Type 0 where
  pub each : (block : ℕ) → IsTrue (is_attested w.ranges block) → index_of w.ranges block < count → (x : ℕ) → w.layout.base ≤ x → block_of w.layout x ≡ block → m x ≡ memory_after w (up_to_copy block past) x

-- the bytes of the first attested blocks, so many
abbrev pub blocks_from : Setting → Memory → ℕ → List ℕ
blocks_from w m count = flat_map (block_bytes w m) (take count (attested_blocks w.ranges))

-- one block more
blocks_more : (w : Setting) (m : Memory) (count : ℕ) → count < total w.ranges → blocks_from w m (suc count) ≡ blocks_from w m count ++ block_bytes w m (attested_block w.ranges count)
blocks_more w m count below =
    let more : suc count ≡ count + 1 = omega arith in
    ap (blocks_from w m) more ∙ ap (flat_map (block_bytes w m)) (take_more (attested_blocks w.ranges) count 0 below) ∙ flat_map-append (block_bytes w m) (take count (attested_blocks w.ranges)) (attested_block w.ranges count ∷ [])
    ∙ ap (λ bytes. blocks_from w m count ++ bytes) (append-nil (block_bytes w m (attested_block w.ranges count)))

-- an entry that is neither a Start nor a Copy adds no byte
copied_on : (w : Setting) → StandAtIndexes w.ranges → (m : Memory) (past : List Entry) (actor : ℕ) (act : Act) (earlier : Pass) → is_start act ≡ false → IsTrue (in_order w (Some earlier) act) → HasCopies w m (entry_of actor act ∷ past) (copied_of (longer (entry_of actor act) earlier)) → (HasCopies w m past (copied_of earlier) → blocks_from w m (copied_of earlier) ≡ copied_bytes w past) → blocks_from w m (copied_of (longer (entry_of actor act) earlier)) ≡ copied_step w act past (copied_bytes w past)
copied_on w at m past actor (Start discipline counter) p runs order has before = absurd (false≢true (sym runs))
copied_on w at m past actor (Fetch addr value) p runs order has before = before (record { each = has.each })
copied_on w at m past actor (Load addr width value) p runs order has before = before (record { each = has.each })
copied_on w at m past actor (Store addr width value) p runs order has before = before (record { each = has.each })
copied_on w at m past actor End p runs order has before = before (record { each = has.each })
copied_on w at m past actor Tick p runs order has before = before (record { each = has.each })
copied_on w at m past actor Release p runs order has before = before (record { each = has.each })
copied_on w at m past actor (Copy copy) p runs order has before =
    let entry = entry_of actor (Copy copy) in
    let count = copied_of p in
    let parts = and_parts (not (is_ended p) && is_attested w.ranges copy) (index_of w.ranges copy == count) order in
    let next : index_of w.ranges copy ≡ count = eqb-true _ _ parts.1 in
    let there : IsTrue (is_attested w.ranges copy) = (and_parts (not (is_ended p)) (is_attested w.ranges copy) parts.0).1 in
    let below : count < total w.ranges = subst (λ n. n < total w.ranges) next (index_fits w.ranges copy there) in
    let stands : attested_block w.ranges count ≡ copy = ap (attested_block w.ranges) (sym next) ∙ at copy there in
    let old : HasCopies w m past count = record {
      each = λ block attested index x low here.
          let apart : block ≡ copy → ⊥ = λ e. absurd (omega (arith, index, next, ap (index_of w.ranges) e)) in
          has.each block attested (omega arith) x low here ∙ ap (λ l. memory_after w l x) (up_to_same block entry past (ne_eqb block copy apart));
    } in
    let this : if copy == copy then entry ∷ past else up_to_copy copy past ≡ entry ∷ past = ap (λ b. if b then entry ∷ past else up_to_copy copy past) (eq-eqb copy copy refl) in
    let bytes : block_bytes w m copy ≡ block_bytes w (memory_after w past) copy = bytes_same m (memory_after w past) (block_start w.layout copy) w.layout.size (λ y low high. has.each copy there (omega (arith, next)) y (omega arith) (in_block w.layout.size w.layout.base copy y low high) ∙ ap (λ l. memory_after w l y) this) in
    blocks_more w m count below ∙ ap₂ (λ front block. front ++ block) (before old) (ap (λ b. block_bytes w m b) stands ∙ bytes)

-- a Start forgets what was copied
copied_new : (w : Setting) (act : Act) (past : List Entry) (before : List ℕ) → IsTrue (is_start act) → copied_step w act past before ≡ []
copied_new w (Start discipline counter) past before starts = refl
copied_new w (Fetch addr value) past before starts = absurd (false≢true starts)
copied_new w (Load addr width value) past before starts = absurd (false≢true starts)
copied_new w (Store addr width value) past before starts = absurd (false≢true starts)
copied_new w (Copy block) past before starts = absurd (false≢true starts)
copied_new w End past before starts = absurd (false≢true starts)
copied_new w Tick past before starts = absurd (false≢true starts)
copied_new w Release past before starts = absurd (false≢true starts)

-- what a pass has copied is what any memory has that has the bytes of each Copy
pub copied_are : (w : Setting) → StandAtIndexes w.ranges → (m : Memory) (past : List Entry) → IsLegalBack w past → (pass : Pass) → pass_after past ≡ Some pass → HasCopies w m past (copied_of pass) → blocks_from w m (copied_of pass) ≡ copied_bytes w past
copied_are w at m [] legal pass h has = absurd cc
copied_are w at m (entry ∷ past) legal pass h has =
    elim (pass_cases entry past pass h) [
      | inl o ↦
          let count : copied_of pass ≡ 0 = ap (λ since. copies_in since) o.since in
          ap (blocks_from w m) count ∙ sym (copied_new w entry.act past (copied_bytes w past) o.starts)
      | inr g ↦
          let order = subst (λ b. IsTrue (in_order w b entry.act)) g.was legal.1.order in
          let has' = subst (λ p. HasCopies w m (entry ∷ past) (copied_of p)) (sym g.now) has in
          let before = λ (old : HasCopies w m past (copied_of g.earlier)). copied_are w at m past legal.0 g.earlier g.was old in
          subst (λ p. blocks_from w m (copied_of p) ≡ copied_step w entry.act past (copied_bytes w past)) g.now (copied_on w at m past entry.actor entry.act g.earlier g.runs order has' before)
    ]
