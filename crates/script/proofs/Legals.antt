-- The history of a script in the grammar is legal.
use Rattle.std.proofs.Common.{◌≡◌, ℕ, ◌<◌, Bool, true, false, cond, List, [], ◌∷◌, length, refl, sym, ap, ◌∙◌, subst}
use Rattle.std.specs.Prelude.{IsTrue, nat_lt}
use Rattle.std.proofs.lemmas.Bool.{false≢true, not-false, ltb-true, eq-eqb, not_from_false}
use Rattle.std.proofs.lemmas.List.{reverse-reverse}
use Rattle.history.specs.declared.events.Act.{Act}
use Rattle.history.specs.declared.events.Act.TheVariants as acts
use Rattle.history.specs.declared.events.Entry.{Entry}
use Rattle.history.specs.Layout.{Setting, block_of}
use Rattle.history.specs.Memory.{memory_after, value_in}
use Rattle.history.specs.Pass.{pass_after}
use Rattle.history.specs.Locks.{is_locked}
use Rattle.history.specs.Legal.{in_order, MayFollow, IsLegalBack, IsLegal}
use Rattle.script.specs.declared.steps.Step.{Step}
use Rattle.script.specs.declared.steps.Step.TheVariants.{Load, Store, Start, Copy, End, Tick, Release}
use Rattle.script.specs.Steps.{next_block, act_of, entry_of, is_full, waits, entries_after}
use Rattle.script.specs.Measuring.{measured_with, may_come}
use Rattle.script.specs.Programs.{Program}
use Rattle.script.specs.Attested.{MayComeAll, IsScript, history_of}
use Rattle.script.proofs.Orders.{short_after, short_more, short_step, next_by_short, block_after, order_by, order_by_short}

-- whatever a step makes of the entries, if each of its three outcomes has it
pub outcomes : (P : List Entry → Type 0) (full waiting : Bool) (past kept longer : List Entry) → (full ≡ true → P past) → (full ≡ false → waiting ≡ true → P kept) → (full ≡ false → waiting ≡ false → P longer) → P (cond full past (cond waiting kept longer))
outcomes P true waiting past kept longer a b c = a refl
outcomes P false true past kept longer a b c = b refl refl
outcomes P false false past kept longer a b c = c refl refl

-- the measuring steps and the history have the same pass in short
abbrev pub IsLinked : List Entry → List Entry → Type 0
IsLinked measured past = short_after measured ≡ short_after past

-- so the next block is the same
pub same_block : (w : Setting) (measured past : List Entry) → IsLinked measured past → next_block w (pass_after measured) ≡ next_block w (pass_after past)
same_block w measured past link = next_by_short w (pass_after measured) ∙ ap (block_after w) link ∙ sym (next_by_short w (pass_after past))

-- and the order rule says the same
pub same_order : (w : Setting) (measured past : List Entry) (act : Act) → IsLinked measured past → in_order w (pass_after measured) act ≡ in_order w (pass_after past) act
same_order w measured past act link = order_by_short w (pass_after measured) act ∙ ap (order_by w act) link ∙ sym (order_by_short w (pass_after past) act)

-- one act on both
both_step : (actor other : ℕ) (act : Act) (measured past : List Entry) → IsLinked measured past → IsLinked (record { actor = actor; act = act } ∷ measured) (record { actor = other; act = act } ∷ past)
both_step actor other act measured past link = short_more actor act measured ∙ ap (short_step act) link ∙ sym (short_more other act past)

-- a store that waits leaves both as they are
pub waiting_linked : (w : Setting) (measured past : List Entry) (step : Step) → IsLinked measured past → waits w past step ≡ true → IsLinked (measured_with w measured step) past
waiting_linked w measured past (Store width addr value) link h = link
waiting_linked w measured past (Load width addr) link h = absurd (false≢true h)
waiting_linked w measured past (Start discipline counter nonce) link h = absurd (false≢true h)
waiting_linked w measured past Copy link h = absurd (false≢true h)
waiting_linked w measured past End link h = absurd (false≢true h)
waiting_linked w measured past Tick link h = absurd (false≢true h)
waiting_linked w measured past Release link h = absurd (false≢true h)

-- and any other step keeps the link
pub step_linked : (w : Setting) (measured past : List Entry) (step : Step) → IsLinked measured past → IsLinked (measured_with w measured step) (entry_of w past step ∷ past)
step_linked w measured past (Load width addr) link = link ∙ sym (short_more 1 (act_of w past (Load width addr)) past)
step_linked w measured past (Store width addr value) link = link ∙ sym (short_more 1 (acts.Store addr width value) past)
step_linked w measured past (Start discipline counter nonce) link = both_step 0 0 (acts.Start discipline counter) measured past link
step_linked w measured past Copy link =
    ap (λ block. short_after (record { actor = 0; act = acts.Copy block } ∷ measured)) (same_block w measured past link)
    ∙ both_step 0 0 (acts.Copy (next_block w (pass_after past))) measured past link
step_linked w measured past End link = both_step 0 0 acts.End measured past link
step_linked w measured past Tick link = both_step 0 0 acts.Tick measured past link
step_linked w measured past Release link = both_step 0 0 acts.Release measured past link

-- there is room for one entry more
pub has_room : (w : Setting) (past : List Entry) → is_full w past ≡ false → length past < w.cap
has_room w past h = ltb-true (length past) w.cap (not-false (nat_lt (length past) w.cap) h)

-- the order rule allows an access
access_order : (w : Setting) (past : List Entry) (act : Act) → ((before : List Entry) → order_by w act (short_after before) ≡ true) → IsTrue (in_order w (pass_after past) act)
access_order w past act h = order_by_short w (pass_after past) act ∙ h past

-- a step that may come, and doesn't wait, may follow
step_follows : (w : Setting) (measured past : List Entry) (step : Step) → IsLinked measured past → IsTrue (may_come w measured step) → length past < w.cap → waits w past step ≡ false → MayFollow w past (entry_of w past step)
step_follows w measured past (Load width addr) link may room free = record {
  actor = refl;
  range = may;
  value = eq-eqb (value_in (memory_after w past) addr width) _ refl;
  lock = refl;
  order = access_order w past (act_of w past (Load width addr)) (λ _. refl);
  cap = room;
}
step_follows w measured past (Store width addr value) link may room free = record {
  actor = refl;
  range = may;
  value = refl;
  lock = not_from_false (is_locked w past (block_of w.layout addr)) free;
  order = access_order w past (acts.Store addr width value) (λ _. refl);
  cap = room;
}
step_follows w measured past (Start discipline counter nonce) link may room free = record {
  actor = refl;
  range = refl;
  value = refl;
  lock = refl;
  cap = room;
  order = sym (same_order w measured past (acts.Start discipline counter) link) ∙ may;
}
step_follows w measured past Copy link may room free = record {
  actor = refl;
  range = refl;
  value = refl;
  lock = refl;
  cap = room;
  order = sym (same_order w measured past (acts.Copy (next_block w (pass_after past))) link)
      ∙ ap (λ block. in_order w (pass_after measured) (acts.Copy block)) (sym (same_block w measured past link)) ∙ may;
}
step_follows w measured past End link may room free = record {
  actor = refl;
  range = refl;
  value = refl;
  lock = refl;
  cap = room;
  order = sym (same_order w measured past acts.End link) ∙ may;
}
step_follows w measured past Tick link may room free = record {
  actor = refl;
  range = refl;
  value = refl;
  lock = refl;
  cap = room;
  order = sym (same_order w measured past acts.Tick link) ∙ may;
}
step_follows w measured past Release link may room free = record {
  actor = refl;
  range = refl;
  value = refl;
  lock = refl;
  cap = room;
  order = sym (same_order w measured past acts.Release link) ∙ may;
}

-- the entries after steps that may come are legal
legal_after : (w : Setting) (measured past : List Entry) (steps : List Step) → IsLinked measured past → IsLegalBack w past → MayComeAll w measured steps → IsLegalBack w (entries_after w past steps)
legal_after w measured past [] link legal all = legal
legal_after w measured past (step ∷ steps) link legal all =
    outcomes (IsLegalBack w) (is_full w past) (waits w past step) past (entries_after w past steps) (entries_after w (entry_of w past step ∷ past) steps)
    (λ full. legal)
    (λ room waiting. legal_after w (measured_with w measured step) past steps (waiting_linked w measured past step link waiting) legal all.1)
    (λ room free. legal_after w (measured_with w measured step) (entry_of w past step ∷ past) steps (step_linked w measured past step link)
    (legal, step_follows w measured past step link all.0 (has_room w past room) free) all.1)

-- the entries of a script in the grammar
pub script_legal_back : (program : Program) → IsScript program → IsLegalBack program.setting (entries_after program.setting [] program.steps)
script_legal_back program script = legal_after program.setting [] [] program.steps refl tt script.steps

-- and its history
pub script_legal : (program : Program) → IsScript program → IsLegal program.setting (history_of program)
script_legal program script =
    subst (λ l. IsLegalBack program.setting l) (sym (reverse-reverse (entries_after program.setting [] program.steps))) (script_legal_back program script)
