-- One history has one outcome.
use Rattle.std.proofs.Common.{◌≡◌, ℕ, zero, suc, List, [], ◌∷◌, ◌++◌, length, map, Option, Some, None, refl, sym, ap, ap₂, ◌∙◌, subst, arith, length-append}
use Rattle.std.specs.Prelude.{slice_get}
use Rattle.std.proofs.lemmas.Bool.{false≢true}
use Rattle.std.proofs.lemmas.List.{append_cancel_left}
use Rattle.history.specs.declared.events.Act.{Act}
use Rattle.history.specs.declared.events.Entry.{Entry}
use Rattle.history.specs.Layout.{Setting}
use Rattle.history.specs.Legal.{IsLegal}
use Rattle.challenge.specs.declared.Challenge.{Challenge}
use Rattle.chronicle.specs.Worlds.{shape_of}
use Rattle.report.specs.declared.Note.{Note}
use Rattle.report.specs.declared.Report.{Report}
use Rattle.rv_core.specs.Runs.{AppProgram, next_access}
use Rattle.measure.specs.Measured.{HasReport, IsNoteOn, IsReportOn}
use Rattle.measure.specs.Program.{measuring_program}
use Rattle.measure.specs.Stepping.{HasNoteOn}
use Rattle.app_thread.specs.declared.ends.RunEnd.{RunEnd}
use Rattle.device.specs.declared.outcomes.AppEnd.{AppEnd}
use Rattle.device.specs.declared.outcomes.PassEnd.{PassEnd}
use Rattle.device.specs.declared.outcomes.PassEnd.TheVariants as pass
use Rattle.device.specs.declared.tallies.Tally.{Tally}
use Rattle.device.specs.Setups.{Rise, Setup}
use Rattle.device.specs.Runs.{IsRunSoFar, entries_of}
use Rattle.device.specs.Once.{StartsOnce}
use Rattle.device.proofs.OnePass.{some_of}
use Rattle.device.specs.Outcomes.{AreAppEnds, ArePassEnds, FallsShort, HaveWaited, IsAppEnd, ended_and_printed, run_end, waits_in_end}

-- ---- applications

-- lists that a relation fixes at each index are the same
same_at_each : {A B C : Type 0} (P : ℕ → A → B → Type 0) (f : B → C) → ((k : ℕ) (p : A) (e o : B) → P k p e → P k p o → f e ≡ f o)
    → (ps : List A) (es os : List B) → length es ≡ length ps → length os ≡ length ps
    → ((k : ℕ) (p : A) (e : B) → slice_get ps k ≡ Some p → slice_get es k ≡ Some e → P k p e)
    → ((k : ℕ) (p : A) (o : B) → slice_get ps k ≡ Some p → slice_get os k ≡ Some o → P k p o) → map f es ≡ map f os
same_at_each P f one [] [] [] count also each other = refl
same_at_each P f one [] [] (o ∷ os) count also each other = absurd (omega (arith, also))
same_at_each P f one [] (e ∷ es) os count also each other = absurd (omega (arith, count))
same_at_each P f one (p ∷ ps) [] os count also each other = absurd (omega (arith, count))
same_at_each P f one (p ∷ ps) (e ∷ es) [] count also each other = absurd (omega (arith, also))
same_at_each P f one (p ∷ ps) (e ∷ es) (o ∷ os) count also each other =
    ap₂ (λ x xs. x ∷ xs) (one zero p e o (each zero p e refl refl) (other zero p o refl refl))
    (same_at_each (λ k. P (suc k)) f (λ k. one (suc k)) ps es os (omega (arith, count)) (omega (arith, also)) (λ k. each (suc k)) (λ k. other (suc k)))

one_app_end : (program : AppProgram) (history entries : List Entry) (end other : AppEnd) → IsAppEnd program history entries end → IsAppEnd program history entries other → ended_and_printed end ≡ ended_and_printed other
one_app_end program history entries end other a b =
    let at : a.at ≡ b.at = some_of _ _ (sym a.begun.read ∙ b.begun.read) in
    let ended : end.run.end ≡ other.run.end = a.ended ∙ ap (λ p. run_end (next_access p) (length history)) at ∙ sym b.ended in
    let console : end.console ≡ other.console = a.console ∙ ap (λ p. p.now.core.console) at ∙ sym b.console in
    ap₂ (λ x y. (x, y)) ended console

pub same_app_ends : (programs : List AppProgram) (history : List Entry) (ends others : List AppEnd) → AreAppEnds programs history ends → AreAppEnds programs history others → map ended_and_printed ends ≡ map ended_and_printed others
same_app_ends programs history ends others a b =
    same_at_each (λ k program end. IsAppEnd program history (entries_of history (suc k)) end) ended_and_printed (λ k program. one_app_end program history (entries_of history (suc k)))
    programs ends others a.count b.count a.each b.each

cons_head : {A : Type 0} (x y : A) (xs ys : List A) → x ∷ xs ≡ y ∷ ys → x ≡ y
cons_head x y xs ys h = cc

cons_tail : {A : Type 0} (x y : A) (xs ys : List A) → x ∷ xs ≡ y ∷ ys → xs ≡ ys
cons_tail x y xs ys h = cc

-- two maps that together tell all of an end
abbrev app_end_of : RunEnd × List ℕ → ℕ × Option ℕ → AppEnd
app_end_of last waits = record { run = record { end = last.0; waits = waits.0; waited = waits.1 }; console = last.1 }

same_by_both : (ends others : List AppEnd) → map ended_and_printed ends ≡ map ended_and_printed others → map waits_in_end ends ≡ map waits_in_end others → ends ≡ others
same_by_both [] [] last waits = refl
same_by_both [] (o ∷ os) last waits = absurd cc
same_by_both (e ∷ es) [] last waits = absurd cc
same_by_both (e ∷ es) (o ∷ os) last waits =
    let one : ended_and_printed e ≡ ended_and_printed o = cons_head _ _ _ _ last in
    let two : waits_in_end e ≡ waits_in_end o = cons_head _ _ _ _ waits in
    ap₂ (λ x xs. x ∷ xs) (ap₂ app_end_of one two) (same_by_both es os (cons_tail _ _ _ _ last) (cons_tail _ _ _ _ waits))

pub same_with_waits : (programs : List AppProgram) (history : List Entry) (tallies : List Tally) (ends others : List AppEnd) → AreAppEnds programs history ends → AreAppEnds programs history others
    → HaveWaited tallies ends → HaveWaited tallies others → ends ≡ others
same_with_waits programs history tallies ends others a b waits also = same_by_both ends others (same_app_ends programs history ends others a b) (waits ∙ sym also)

-- ---- measurements

abbrev pub OneReport : Type 0
OneReport = (key : List ℕ) (w : Setting) (c : Challenge) (history : List Entry) → IsLegal w history → StartsOnce history
    → (old before : List Entry) (r other : Report) → IsReportOn key w c old history r → IsReportOn key w c before history other → r ≡ other

abbrev pub OneNote : Type 0
OneNote = (key : List ℕ) (w : Setting) (c : Challenge) (history : List Entry) → IsLegal w history
    → (r : Report) (n other : Note) → IsNoteOn key c history r n → IsNoteOn key c history r other → n ≡ other

same_noted : OneNote → (key : List ℕ) (w : Setting) (c : Challenge) (history : List Entry) → IsLegal w history → (r : Report) (n other : Option Note) → HasNoteOn key c history r n → HasNoteOn key c history r other → n ≡ other
same_noted one key w c history legal r None None has also = refl
same_noted one key w c history legal r None (Some other) has also = absurd (false≢true (sym has ∙ also.0))
same_noted one key w c history legal r (Some n) None has also = absurd (false≢true (sym also ∙ has.0))
same_noted one key w c history legal r (Some n) (Some other) has also = ap Some (one key w c history legal r n other has.1 also.1)

same_reported : OneReport → (key : List ℕ) (w : Setting) (c : Challenge) (history : List Entry) → IsLegal w history → StartsOnce history → (made : List Act) (r other : Option Report) → HasReport key w c [] history made r → HasReport key w c [] history made other → r ≡ other
same_reported one key w c history legal once made None None has also = refl
same_reported one key w c history legal once made None (Some other) has also = absurd (false≢true (sym has ∙ also.0))
same_reported one key w c history legal once made (Some r) None has also = absurd (false≢true (sym also ∙ has.0))
same_reported one key w c history legal once made (Some r) (Some other) has also = ap Some (one key w c history legal once [] [] r other has.1 also.1)

-- the whole program and less than it weren't both made
not_both : (made program rest : List Act) → made ≡ program ++ rest → FallsShort made program → ⊥
not_both made program rest whole short =
    let more = ap length whole ∙ length-append program rest in
    let less = ap length short.whole ∙ length-append made (short.next ∷ short.missed) in
    omega (arith, more, less)

done_again : (r other : Report) (n noted : Option Note) (es os : List PassEnd) → r ≡ other → n ≡ noted → es ≡ os → (pass.Done r n ∷ es) ≡ (pass.Done other noted ∷ os)
done_again r other n noted es os report note rest = ap (λ x. pass.Done x n ∷ es) report ∙ ap (λ x. pass.Done other x ∷ es) note ∙ ap (λ x. pass.Done other noted ∷ x) rest

same_pass_ends : OneReport → OneNote → (s : Setup) (history : List Entry) → IsLegal s.world history → StartsOnce history → (challenges : List Challenge) (made : List Act) (ends others : List PassEnd)
    → ArePassEnds s history made challenges ends → ArePassEnds s history made challenges others → ends ≡ others
same_pass_ends report note s history legal once [] made [] [] a b = refl
same_pass_ends report note s history legal once [] made [] (o ∷ os) a b = absurd b
same_pass_ends report note s history legal once [] made (e ∷ es) os a b = absurd a
same_pass_ends report note s history legal once (c ∷ more) made [] os a b = absurd a
same_pass_ends report note s history legal once (c ∷ more) made (pass.NotStarted ∷ es) os a b = absurd a
same_pass_ends report note s history legal once (c ∷ more) made (pass.Done r n ∷ es) [] a b = absurd b
same_pass_ends report note s history legal once (c ∷ more) made (pass.Done r n ∷ es) (pass.NotStarted ∷ os) a b = absurd b
same_pass_ends report note s history legal once (c ∷ more) made (pass.Done r n ∷ es) (pass.Full reported ∷ os) a b = absurd (not_both made (measuring_program c (shape_of s.world)) a.0 a.1 b.0)
same_pass_ends report note s history legal once (c ∷ more) made (pass.Done r n ∷ es) (pass.Done other noted ∷ os) a b =
    let rest : a.0 ≡ b.0 = append_cancel_left (measuring_program c (shape_of s.world)) a.0 b.0 (sym a.1 ∙ b.1) in
    let one : r ≡ other = report s.key s.world c history legal once [] [] r other a.2 b.2 in
    let two : n ≡ noted = same_noted note s.key s.world c history legal other n noted (subst (λ x. HasNoteOn s.key c history x n) one a.3) b.3 in
    done_again r other n noted es os one two (same_pass_ends report note s history legal once more b.0 es os (subst (λ l. ArePassEnds s history l more es) rest a.4) b.4)
same_pass_ends report note s history legal once (c ∷ more) made (pass.Full reported ∷ es) [] a b = absurd b
same_pass_ends report note s history legal once (c ∷ more) made (pass.Full reported ∷ es) (pass.NotStarted ∷ os) a b = absurd b
same_pass_ends report note s history legal once (c ∷ more) made (pass.Full reported ∷ es) (pass.Done other noted ∷ os) a b = absurd (not_both made (measuring_program c (shape_of s.world)) b.0 b.1 a.0)
same_pass_ends report note s history legal once (c ∷ more) made (pass.Full reported ∷ es) (pass.Full other ∷ os) a b =
    let one : reported ≡ other = same_reported report s.key s.world c history legal once made reported other a.1 b.1 in
    ap₂ (λ x xs. pass.Full x ∷ xs) one (a.2 ∙ sym b.2)

abbrev pub StartOnce : Type 0
StartOnce = (s : Setup) (history : List Entry) → IsRunSoFar s history → (last : ℕ) → Rise last s.challenges → StartsOnce history

pub one_pass_ends : StartOnce → OneReport → OneNote → (s : Setup) (history : List Entry) → IsRunSoFar s history → (last : ℕ) → Rise last s.challenges → (challenges : List Challenge) (made : List Act) (ends others : List PassEnd)
    → ArePassEnds s history made challenges ends → ArePassEnds s history made challenges others → ends ≡ others
one_pass_ends start report note s history run last rise = same_pass_ends report note s history run.legal (start s history run last rise)
