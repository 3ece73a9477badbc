-- A core with one entry more, and the pass that a step of the measurer goes on with.
use Rattle.std.proofs.Common.{◌≡◌, ℕ, ◌+◌, ◌<◌, true, false, not, ◌&&◌, List, [], ◌∷◌, ◌++◌, length, reverse, Option, Some, None, refl, ap, ◌∙◌, length-append, arith}
use Rattle.std.specs.Prelude.{IsTrue, ◌==◌, Result, Ok, Err, IfOk}
use Rattle.std.proofs.lemmas.List.{reverse-append, length-reverse}
use Rattle.std.proofs.lemmas.Bool.{false≢true, and_parts, not-true, not_from_true, lt-ltb}
use Rattle.history.specs.declared.events.Act.TheVariants as act
use Rattle.history.specs.declared.events.Entry.{Entry}
use Rattle.history.specs.Attested.{total}
use Rattle.history.specs.Layout.{Setting}
use Rattle.history.specs.Pass.{Pass, copied_of, is_ended, is_released, is_extended}
use Rattle.history.specs.Legal.{in_order}
use Rattle.history.specs.Memory.{memory_after, block_bytes}
use Rattle.chronicle.specs.Ports.{entry_by}
use Rattle.mem_core.specs.Cores.{Core}
use Rattle.mem_core.specs.Wants.{core_with}
use Rattle.script.specs.declared.steps.Step.{Step}
use Rattle.script.specs.declared.tagger.Tagger.{Tagger}
use Rattle.script.specs.declared.running.StepEnd.{StepEnd}
use Rattle.script.specs.declared.running.StepEnd.TheVariants.{Made, Waits, Full}
use Rattle.script.specs.Steps.{is_full, act_of, entry_of}
use Rattle.script.specs.Tagging.{IsTagging}
use Rattle.script.specs.Running.{past_of, IsTaggedBy}
use Rattle.script.proofs.TaggerSteps.{is_plain, tagging-plain}

-- the newest entry comes first
pub past_more : (old new : Core) (entry : Entry) → new ≡ core_with old entry → past_of new ≡ entry ∷ past_of old
past_more old new entry grown = rw grown (reverse-append old.history (entry ∷ []))

-- its place is one more than the entries before it
pub place_more : (old new : Core) (entry : Entry) (place : ℕ) → new ≡ core_with old entry → place ≡ length new.history → place ≡ length (past_of old) + 1
place_more old new entry place grown here =
    let longer : place ≡ length (old.history ++ entry ∷ []) = rw grown at here in
    omega (arith, longer, length-append old.history (entry ∷ []), length-reverse old.history)

-- a Copy changes no byte
pub copied_there : (w : Setting) (old new : List Entry) (block : ℕ) (after : List ℕ) → new ≡ old ++ entry_by 0 (act.Copy block) ∷ [] → after ≡ block_bytes w (memory_after w (reverse new)) block → after ≡ block_bytes w (memory_after w (reverse old)) block
copied_there w old new block after grown is = is ∙ ap (λ l. block_bytes w (memory_after w l) block) (ap reverse grown ∙ reverse-append old (entry_by 0 (act.Copy block) ∷ []))

-- an End that may come ends a pass that isn't ended
pub end_of_pass : (w : Setting) (pass : Option Pass) → IsTrue (in_order w pass act.End) → (here : Pass) × (pass ≡ Some here) × (is_ended here ≡ false)
end_of_pass w None h = absurd (false≢true h)
end_of_pass w (Some pass) h = (pass, refl, not-true (is_ended pass) (and_parts (not (is_ended pass)) (copied_of pass == total w.ranges) h).0)

-- a Release that may come releases a pass that is ended
pub release_of_pass : (w : Setting) (pass : Option Pass) → IsTrue (in_order w pass act.Release) → (here : Pass) × (pass ≡ Some here) × (is_ended here ≡ true)
release_of_pass w None h = absurd (false≢true h)
release_of_pass w (Some pass) h =
    let parts = and_parts (is_extended pass.discipline && is_ended pass) (not (is_released pass)) h in
    (pass, refl, (and_parts (is_extended pass.discipline) (is_ended pass) parts.0).1)

-- there is room for an entry
pub room_of : (core : Core) → length core.history < core.world.cap → is_full core.world (past_of core) ≡ false
room_of core room = not_from_true _ (lt-ltb (length (past_of core)) core.world.cap (omega (arith, room, length-reverse core.history)))

-- a step that is no Start, Copy or End leaves the tagger right, whatever came of it
tagged_by : (w : Setting) (key nonce : List ℕ) (past : List Entry) (step : Step) (t : Tagger) (ended : StepEnd)
    → is_plain (act_of w past step) ≡ true → IsTagging w key nonce past t → IsTaggedBy w key nonce nonce past step t ended
tagged_by w key nonce past step t Made plain tagging = tagging-plain w key nonce past (entry_of w past step) t plain tagging
tagged_by w key nonce past step t (Waits place) plain tagging = tagging
tagged_by w key nonce past step t (Full place) plain tagging = tagging

pub tagged_ok : {E : Type 0} (r : Result StepEnd E) (w : Setting) (key nonce : List ℕ) (past : List Entry) (step : Step) (t : Tagger)
    → is_plain (act_of w past step) ≡ true → IsTagging w key nonce past t → IfOk r (IsTaggedBy w key nonce nonce past step t)
tagged_ok (Ok ended) w key nonce past step t plain tagging = tagged_by w key nonce past step t ended plain tagging
tagged_ok (Err e) w key nonce past step t plain tagging = tt
