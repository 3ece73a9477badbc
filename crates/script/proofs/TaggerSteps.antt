-- The tagger keeps up with the pass, step by step.
use Rattle.std.proofs.Common.{◌≡◌, ℕ, ◌+◌, Bool, true, false, List, [], ◌∷◌, ◌++◌, length, Option, Some, None, refl, sym, ◌∙◌, ap, ap₂, subst, append-nil, append_assoc, arith}
use Rattle.std.specs.Option.{option_map}
use Rattle.std.proofs.lemmas.Option.{same_Some}
use Rattle.std.proofs.lemmas.Bool.{false≢true}
use Rattle.history.specs.declared.events.Discipline.{Discipline}
use Rattle.history.specs.declared.events.Act.{Act}
use Rattle.history.specs.declared.events.Act.TheVariants as act
use Rattle.history.specs.declared.events.Entry.{Entry}
use Rattle.history.specs.Layout.{Setting}
use Rattle.history.specs.Memory.{block_bytes, memory_after}
use Rattle.history.specs.Pass.{Pass, longer, pass_step, pass_after, start_of, is_end, is_ended}
use Rattle.history.specs.Copied.{copied_step, copied_bytes}
use Rattle.history.specs.Worked.{measurer}
use Rattle.hmac256.specs.States.{StandsFor}
use Rattle.hmac256.specs.Hmac.{hmac}
use Rattle.chronicle.specs.Worlds.{shape_of}
use Rattle.report.specs.Tags.{head_bytes, tail_bytes, report_tag, note_head_bytes, note_tag}
use Rattle.script.specs.Printed.{before_end, tag_at_end, tag_at_release}
use Rattle.script.specs.Printed.{asked_by_pass}
use Rattle.std.specs.Option.{option_map_or}
use Rattle.script.specs.Tagging.{IsTagging, IsHashing}
use Rattle.script.proofs.WentOn.{went_on}
use Rattle.script.specs.declared.tagger.Tagger.{Tagger}

no_pass : {A : Type 0} (pass : Pass) → None ≡ Some pass → A
no_pass pass h = cc

-- before any pass
pub tagging-none : (w : Setting) (key nonce : List ℕ) (t : Tagger) → t.key.items ≡ key → IsTagging w key nonce [] t
tagging-none w key nonce t is = record { key_is = is; pass = λ pass h. no_pass pass h }

-- a pass begins
pub tagging-start : (w : Setting) (key nonce : List ℕ) (past : List Entry) (discipline : Discipline) (counter : ℕ) (t : Tagger)
    → t.key.items ≡ key → t.counter ≡ counter → t.start ≡ length past + 1
    → StandsFor t.hmac key (head_bytes (record { discipline = discipline; counter = counter; nonce = nonce }) (shape_of w))
    → IsTagging w key nonce (measurer (act.Start discipline counter) ∷ past) t
tagging-start w key nonce past discipline counter t key_is counter_is start_is stands = record {
  key_is = key_is;
  pass = λ pass h.
      let first : Pass = record { discipline = discipline; counter = counter; since = []; opened = measurer (act.Start discipline counter) ∷ past } in
      let begun : IsHashing w key nonce (measurer (act.Start discipline counter) ∷ past) first t = record {
        counter = counter_is;
        start = omega (arith, start_is);
        hashed = λ _. rw append-nil stands;
        end = λ e. absurd (false≢true e);
        tag = λ e. absurd (false≢true e);
      } in
      subst (λ (p : Pass). IsHashing w key nonce (measurer (act.Start discipline counter) ∷ past) p t) (same_Some first pass h) begun;
}

-- a block is copied
pub tagging-copy : (w : Setting) (key nonce : List ℕ) (past : List Entry) (block : ℕ) (old new : Tagger) → IsTagging w key nonce past old
    → new.key.items ≡ old.key.items → new.counter ≡ old.counter → new.start ≡ old.start → new.end ≡ old.end → new.tag ≡ old.tag
    → ((k text : List ℕ) → StandsFor old.hmac k text → StandsFor new.hmac k (text ++ block_bytes w (memory_after w past) block))
    → IsTagging w key nonce (measurer (act.Copy block) ∷ past) new
tagging-copy w key nonce past block old new tagging key_is counter_is start_is end_is tag_is update = record {
  key_is = key_is ∙ tagging.key_is;
  pass = λ pass h.
      let was = went_on (measurer (act.Copy block)) (pass_after past) pass h in
      let hashing = tagging.pass was.earlier was.was in
      let more : IsHashing w key nonce (measurer (act.Copy block) ∷ past) (longer (measurer (act.Copy block)) was.earlier) new = record {
        counter = counter_is ∙ hashing.counter;
        start = start_is ∙ hashing.start;
        hashed = λ e. subst (λ (text : List ℕ). StandsFor new.hmac key text) (append_assoc (head_bytes (asked_by_pass was.earlier nonce) (shape_of w)) (copied_bytes w past) (block_bytes w (memory_after w past) block)) (update key (head_bytes (asked_by_pass was.earlier nonce) (shape_of w) ++ copied_bytes w past) (hashing.hashed e));
        end = λ e. end_is ∙ hashing.end e;
        tag = λ e. tag_is ∙ hashing.tag e;
      } in
      subst (λ (p : Pass). IsHashing w key nonce (measurer (act.Copy block) ∷ past) p new) was.now more;
}

-- the pass ends
pub tagging-end : (w : Setting) (key nonce : List ℕ) (past : List Entry) (old new : Tagger) → IsTagging w key nonce past old
    → new.key.items ≡ old.key.items → new.counter ≡ old.counter → new.start ≡ old.start → new.end ≡ length past + 1 → new.tag ≡ tag_at_end w key nonce past
    → IsTagging w key nonce (measurer act.End ∷ past) new
tagging-end w key nonce past old new tagging key_is counter_is start_is end_is tag_is = record {
  key_is = key_is ∙ tagging.key_is;
  pass = λ pass h.
      let was = went_on (measurer act.End) (pass_after past) pass h in
      let hashing = tagging.pass was.earlier was.was in
      let more : IsHashing w key nonce (measurer act.End ∷ past) (longer (measurer act.End) was.earlier) new = record {
        counter = counter_is ∙ hashing.counter;
        start = start_is ∙ hashing.start;
        hashed = λ e. absurd (false≢true (sym e));
        end = λ e. end_is;
        tag = λ e. tag_is;
      } in
      subst (λ (p : Pass). IsHashing w key nonce (measurer act.End ∷ past) p new) was.now more;
}

-- the tag of a report, as it is digested
pub tag_digested : (w : Setting) (key nonce : List ℕ) (past : List Entry) (pass : Pass) (start place : ℕ) (tag : List ℕ)
    → pass_after past ≡ Some pass → start ≡ start_of pass → place ≡ length past + 1
    → tag ≡ hmac key ((head_bytes (asked_by_pass pass nonce) (shape_of w) ++ copied_bytes w past) ++ tail_bytes start place)
    → tag ≡ tag_at_end w key nonce past
unfolding report_tag
tag_digested w key nonce past pass start place tag is start_is place_is digested = rw (is, ← start_is, ← place_is) digested

-- the tag of a note, as it is digested
pub note_digested : (w : Setting) (key nonce : List ℕ) (past : List Entry) (pass : Pass) (counter start end place : ℕ) (report tag : List ℕ)
    → pass_after past ≡ Some pass → counter ≡ pass.counter → start ≡ start_of pass → end ≡ length (before_end past) + 1 → place ≡ length past + 1
    → report ≡ tag_at_end w key nonce (before_end past)
    → tag ≡ hmac key (note_head_bytes counter start end place ++ report)
    → tag ≡ tag_at_release w key nonce past
unfolding note_tag
note_digested w key nonce past pass counter start end place report tag is counter_is start_is end_is place_is report_is digested =
    let ended = tag_at_end w key nonce (before_end past) in
    digested
    ∙ ap (λ r. hmac key (note_head_bytes counter start end place ++ r)) report_is
    ∙ ap (λ n. hmac key (note_head_bytes n start end place ++ ended)) counter_is
    ∙ ap (λ n. hmac key (note_head_bytes pass.counter n end place ++ ended)) start_is
    ∙ ap₂ (λ m n. hmac key (note_head_bytes pass.counter (start_of pass) m n ++ ended)) end_is place_is
    ∙ ap (λ o. option_map_or (λ (p : Pass). note_tag key p.counter (start_of p) (length (before_end past) + 1) (length past + 1) ended) o []) (sym is)

-- the act neither begins nor ends a pass, and copies nothing
abbrev pub is_plain : Act → Bool
is_plain (act.Start discipline counter) = false
is_plain (act.Copy block) = false
is_plain act.End = false
is_plain _ = true

plain_step : (act : Act) → is_plain act ≡ true → (entry : Entry) (past : List Entry) (before : Option Pass) → pass_step act entry past before ≡ option_map (longer entry) before
plain_step (act.Fetch addr value) h entry past before = refl
plain_step (act.Load addr width value) h entry past before = refl
plain_step (act.Store addr width value) h entry past before = refl
plain_step (act.Start discipline counter) h entry past before = absurd (false≢true h)
plain_step (act.Copy block) h entry past before = refl
plain_step act.End h entry past before = refl
plain_step act.Tick h entry past before = refl
plain_step act.Release h entry past before = refl

plain_end : (act : Act) → is_plain act ≡ true → is_end act ≡ false
plain_end (act.Fetch addr value) h = refl
plain_end (act.Load addr width value) h = refl
plain_end (act.Store addr width value) h = refl
plain_end (act.Start discipline counter) h = refl
plain_end (act.Copy block) h = refl
plain_end act.End h = absurd (false≢true h)
plain_end act.Tick h = refl
plain_end act.Release h = refl

plain_copied : (w : Setting) (act : Act) → is_plain act ≡ true → (past : List Entry) (before : List ℕ) → copied_step w act past before ≡ before
plain_copied w (act.Fetch addr value) h past before = refl
plain_copied w (act.Load addr width value) h past before = refl
plain_copied w (act.Store addr width value) h past before = refl
plain_copied w (act.Start discipline counter) h past before = absurd (false≢true h)
plain_copied w (act.Copy block) h past before = absurd (false≢true h)
plain_copied w act.End h past before = refl
plain_copied w act.Tick h past before = refl
plain_copied w act.Release h past before = refl

-- any other entry leaves the tagger right
pub tagging-plain : (w : Setting) (key nonce : List ℕ) (past : List Entry) (entry : Entry) (t : Tagger) → is_plain entry.act ≡ true
    → IsTagging w key nonce past t → IsTagging w key nonce (entry ∷ past) t
tagging-plain w key nonce past entry t plain tagging = record {
  key_is = tagging.key_is;
  pass = λ pass h.
      let was = went_on entry (pass_after past) pass (sym (plain_step entry.act plain entry past (pass_after past)) ∙ h) in
      let hashing = tagging.pass was.earlier was.was in
      let same_end : is_ended (longer entry was.earlier) ≡ is_ended was.earlier = rw (plain_end entry.act plain) refl in
      let same_before : before_end (entry ∷ past) ≡ before_end past = rw (plain_end entry.act plain) refl in
      let more : IsHashing w key nonce (entry ∷ past) (longer entry was.earlier) t = record {
        counter = hashing.counter;
        start = hashing.start;
        hashed = λ e. rw (plain_copied w entry.act plain past (copied_bytes w past)) (hashing.hashed (sym same_end ∙ e));
        end = λ e. rw same_before (hashing.end (sym same_end ∙ e));
        tag = λ e. rw same_before (hashing.tag (sym same_end ∙ e));
      } in
      subst (λ (p : Pass). IsHashing w key nonce (entry ∷ past) p t) was.now more;
}
