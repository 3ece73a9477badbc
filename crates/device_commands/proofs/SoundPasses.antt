-- The reports and notes of a run are in their grammars.
use Rattle.std.proofs.Common.{◌≡◌, ℕ, suc, ◌+◌, ◌*◌, ◌^◌, ◌<◌, ◌≤◌, Bool, true, false, List, [], ◌∷◌, ◌++◌, length, map, drop, take, reverse, All, Option, Some, None, refl, sym, ap, ◌∙◌, subst, inl, inr, arith, length-append}
use Rattle.std.specs.Prelude.{IsTrue, ◌||◌, if◌then◌else◌}
use Rattle.std.specs.List.{list_any}
use Rattle.std.proofs.Math.Nat.{mul-le-mul_left}
use Rattle.std.proofs.lemmas.Bool.{and_parts, cases_lt, false≢true, not-true}
use Rattle.std.proofs.lemmas.List.Folds.{list_any-append}
use Rattle.std.proofs.lemmas.List.Elements.{All-nil, All-cons}
use Rattle.history.specs.declared.events.Act.{Act}
use Rattle.history.specs.declared.events.Act.TheVariants.{Fetch, Load, Store, Start, Copy, End, Tick, Release}
use Rattle.history.specs.declared.events.Entry.{Entry}
use Rattle.history.specs.declared.ranges.Range.{Range}
use Rattle.history.specs.Attested.{IsRanges, AreApart, last_end, total}
use Rattle.history.specs.Layout.{Setting, IsSetting, IsLayout}
use Rattle.history.specs.Memory.{back}
use Rattle.history.specs.Pass.{Pass, pass_after, start_of, copied_of, copies_in, is_copy, is_ended, is_released, is_end}
use Rattle.history.specs.Legal.{IsLegal, IsLegalBack, in_order}
use Rattle.history.specs.Instants.{is_newest}
use Rattle.challenge.specs.declared.Challenge.{Challenge}
use Rattle.chronicle.specs.Worlds.{shape_of}
use Rattle.chronicle.specs.declared.worlds.Shape.{Shape}
use Rattle.chronicle.specs.Ports.{entry_by}
use Rattle.chronicle.proofs.Passes.{pass_cases, pass_whole, earlier_pass, in_turn}
use Rattle.chronicle.proofs.Places.{legal_rest, legal_back, length_back, back_split}
use Rattle.report.specs.declared.Report.{Report}
use Rattle.report.specs.declared.Note.{Note}
use Rattle.report.specs.Reports.{IsReport, attested_layout}
use Rattle.report.specs.Notes.{IsNote}
use Rattle.measure.specs.Measured.{HasReport, IsNoteOn, IsReportOn}
use Rattle.measure.specs.Stepping.{HasNoteOn}
use Rattle.device.specs.declared.outcomes.PassEnd.{PassEnd}
use Rattle.device.specs.declared.outcomes.PassEnd.TheVariants as pass
use Rattle.device.specs.Setups.{Setup}
use Rattle.device.specs.Outcomes.{ArePassEnds}
use Rattle.device_commands.specs.ChallengeEnds.{IsNoteIfAny, IsReportIfAny, IsSoundPass}

-- ---- where the attested blocks lie

some_end : (ranges : List Range) → 1 ≤ length ranges → AreApart ranges → 1 ≤ last_end ranges
some_end [] some apart = absurd (omega (arith, some))
some_end (r ∷ []) some apart = omega (arith, apart)
some_end (r ∷ next ∷ more) some apart = some_end (next ∷ more) (omega arith) apart.2

attested_is_layout : (w : Setting) → IsSetting w → IsLayout (attested_layout (shape_of w))
attested_is_layout w s =
    let fewer : w.layout.size * last_end w.ranges ≤ w.layout.size * w.layout.blocks = mul-le-mul_left w.layout.size s.inside in
    record {
      block_size = s.layout.block_size;
      some_block = some_end w.ranges s.ranges.some s.ranges.apart;
      few_blocks = s.ranges.low;
      few_bytes = omega (arith, fewer, s.layout.few_bytes);
      on_block = s.layout.on_block;
      in_space = omega (arith, fewer, s.layout.in_space);
    }

-- ---- reports

newest_is_there : (since : List Entry) → IsTrue (is_newest is_end since) → IsTrue (list_any (λ entry. is_end entry.act) since)
newest_is_there [] newest = absurd (false≢true newest)
newest_is_there (entry ∷ since) newest = subst (λ (b : Bool). IsTrue (b || list_any (λ e. is_end e.act) since)) (sym newest) refl

fewer_copies : (since : List Entry) → copies_in since ≤ length since
fewer_copies [] = omega arith
fewer_copies (entry ∷ since) = one_more (is_copy entry.act) (copies_in since) (length since) (fewer_copies since)
  where
    one_more : (b : Bool) (count all : ℕ) → count ≤ all → (if b then suc count else count) ≤ suc all
    one_more true count all h = omega (arith, h)
    one_more false count all h = omega (arith, h)

-- End is no copy
not_copy : (act : Act) → IsTrue (is_end act) → is_copy act ≡ false
not_copy End is = refl
not_copy (Copy block) is = absurd (false≢true is)
not_copy (Fetch addr value) is = refl
not_copy (Load addr width value) is = refl
not_copy (Store addr width value) is = refl
not_copy (Start discipline counter) is = refl
not_copy Tick is = refl
not_copy Release is = refl

copies_before : (since : List Entry) → IsTrue (is_newest is_end since) → copies_in since + 1 ≤ length since
copies_before [] newest = absurd (false≢true newest)
copies_before (entry ∷ since) newest =
    let fewer = fewer_copies since in
    let same : copies_in (entry ∷ since) ≡ copies_in since = ap (λ (b : Bool). if b then suc (copies_in since) else copies_in since) (not_copy entry.act newest) in
    omega (arith, fewer, same)

pub report_is_sound : (w : Setting) → IsSetting w → (history : List Entry) → IsLegal w history → (key : List ℕ) (c : Challenge) (old : List Entry) (r : Report) → IsReportOn key w c old history r → IsReport r
report_is_sound w s history legal key c old r on =
    let e = on.ends in
    let past = back history r.end in
    let turn = in_turn w past (legal_back w history legal r.end) e.pass e.here.last in
    let copied : copied_of e.pass ≡ total w.ranges = turn.whole (newest_is_there e.pass.since e.newest) in
    let fewer : copies_in e.pass.since + 1 ≤ length e.pass.since = copies_before e.pass.since e.newest in
    let whole : length (e.pass.since ++ e.pass.opened) ≡ length past = ap length (pass_whole past e.pass e.here.last) in
    let long : length past ≡ r.end = length_back history r.end e.here.within in
    let parts : length (e.pass.since ++ e.pass.opened) ≡ length e.pass.since + length e.pass.opened = length-append e.pass.since e.pass.opened in
    let began : start_of e.pass ≡ r.start = e.here.began in
    let room : r.start + total w.ranges + 1 ≤ r.end = omega (arith, copied, fewer, whole, long, parts, began) in
    record {
      memory = subst (λ (shape : Shape). IsLayout (attested_layout shape)) (sym on.shape) (attested_is_layout w s);
      ranges = subst (λ (shape : Shape). IsRanges shape.ranges) (sym on.shape) s.ranges;
      start = omega (arith, on.begins);
      end = subst (λ (shape : Shape). r.start + total shape.ranges + 1 ≤ r.end) (sym on.shape) room;
    }

-- ---- notes

end_order : (w : Setting) (p : Pass) (act : Act) → IsTrue (is_end act) → IsTrue (in_order w (Some p) act) → is_ended p ≡ false
end_order w p End is order = not-true (is_ended p) (and_parts _ _ order).0
end_order w p (Fetch addr value) is order = absurd (false≢true is)
end_order w p (Load addr width value) is order = absurd (false≢true is)
end_order w p (Store addr width value) is order = absurd (false≢true is)
end_order w p (Start discipline counter) is order = absurd (false≢true is)
end_order w p (Copy block) is order = absurd (false≢true is)
end_order w p Tick is order = absurd (false≢true is)
end_order w p Release is order = absurd (false≢true is)

or_later : (a b : Bool) → b ≡ true → (a || b) ≡ true
or_later true b is = refl
or_later false b is = is

-- a pass that has come to its Release has ended before
release_ended : (w : Setting) (past : List Entry) → IsLegalBack w (entry_by 0 Release ∷ past) → (p : Pass) → pass_after (entry_by 0 Release ∷ past) ≡ Some p → IsTrue (is_ended p)
release_ended w past legal p is =
    elim (pass_cases (entry_by 0 Release) past p is) [
      | inl o ↦ absurd (false≢true o.starts)
      | inr g ↦
          let released : IsTrue (is_released p) = subst (λ (q : Pass). IsTrue (is_released q)) g.now refl in
          (in_turn w (entry_by 0 Release ∷ past) legal p is).ended released
    ]

-- so no End of the same pass comes behind it
no_end_behind : (w : Setting) (newer past : List Entry) (p q : Pass) → IsLegalBack w (newer ++ entry_by 0 Release ∷ past)
    → pass_after (newer ++ entry_by 0 Release ∷ past) ≡ Some p → IsTrue (is_newest is_end p.since)
    → pass_after (entry_by 0 Release ∷ past) ≡ Some q → start_of p ≡ start_of q → ⊥
no_end_behind w [] past p q legal is newest was same =
    elim (pass_cases (entry_by 0 Release) past p is) [
      | inl o ↦ false≢true o.starts
      | inr g ↦ false≢true (subst (λ (r : Pass). IsTrue (is_newest is_end r.since)) (sym g.now) newest)
    ]
no_end_behind w (entry ∷ newer) past p q legal is newest was same =
    elim (pass_cases entry (newer ++ entry_by 0 Release ∷ past) p is) [
      | inl o ↦ false≢true (subst (λ (since : List Entry). IsTrue (is_newest is_end since)) o.since newest)
      | inr g ↦
          let ends : IsTrue (is_end entry.act) = subst (λ (r : Pass). IsTrue (is_newest is_end r.since)) (sym g.now) newest in
          let order = subst (λ (b : Option Pass). IsTrue (in_order w b entry.act)) g.was legal.1.order in
          let open_ : is_ended g.earlier ≡ false = end_order w g.earlier entry.act ends order in
          let whole : length (q.since ++ q.opened) ≡ length (entry_by 0 Release ∷ past) = ap length (pass_whole (entry_by 0 Release ∷ past) q was) in
          let parts : length (q.since ++ q.opened) ≡ length q.since + length q.opened = length-append q.since q.opened in
          let start : start_of g.earlier ≡ start_of p = ap start_of g.now in
          let from : start_of g.earlier ≤ length (entry_by 0 Release ∷ past) = omega (arith, whole, parts, start, same) in
          let e = earlier_pass newer (entry_by 0 Release ∷ past) g.earlier g.was from in
          let over = release_ended w past (legal_rest w (entry ∷ newer) (entry_by 0 Release ∷ past) legal) e.earlier e.was in
          let joined : IsTrue (list_any (λ e. is_end e.act) (newer ++ e.earlier.since)) =
          list_any-append (λ (e : Entry). is_end e.act) newer e.earlier.since ∙ or_later (list_any (λ e. is_end e.act) newer) (is_ended e.earlier) over in
          let ended : IsTrue (is_ended g.earlier) = subst (λ (since : List Entry). IsTrue (list_any (λ e. is_end e.act) since)) e.since joined in
          false≢true (sym open_ ∙ ended)
    ]

-- the newer entries stand between the two places
end_behind : (w : Setting) (newer older all past : List Entry) (p q : Pass) → newer ++ older ≡ all → older ≡ entry_by 0 Release ∷ past → IsLegalBack w all
    → pass_after all ≡ Some p → IsTrue (is_newest is_end p.since) → pass_after older ≡ Some q → start_of p ≡ start_of q → ⊥
end_behind w newer older all past p q joined here legal is newest was same =
    let whole : newer ++ entry_by 0 Release ∷ past ≡ all = ap (λ (l : List Entry). newer ++ l) (sym here) ∙ joined in
    no_end_behind w newer past p q (subst (λ (l : List Entry). IsLegalBack w l) (sym whole) legal) (ap pass_after whole ∙ is) newest (ap pass_after (sym here) ∙ was) same

release_behind : (w : Setting) (history : List Entry) → IsLegal w history → (key : List ℕ) (c : Challenge) (old : List Entry) (r : Report) (n : Note) → IsReportOn key w c old history r → IsNoteOn key c history r n → n.release ≤ r.end → ⊥
release_behind w history legal key c old r n on noted before =
    let e = on.ends in
    let u = noted.releases in
    end_behind w (reverse (drop n.release (take r.end history))) (back history n.release) (back history r.end) noted.past e.pass u.pass
    (back_split history n.release r.end before) noted.here (legal_back w history legal r.end) e.here.last e.newest u.here.last (e.here.began ∙ sym u.here.began)

pub note_is_sound : (w : Setting) → IsSetting w → (history : List Entry) → IsLegal w history → (key : List ℕ) (c : Challenge) (old : List Entry) (r : Report) (n : Note) → IsReportOn key w c old history r → IsNoteOn key c history r n → IsNote n
note_is_sound w s history legal key c old r n on noted =
    let sound = report_is_sound w s history legal key c old r on in
    record {
      start = omega (arith, noted.start, sound.start);
      end = omega (arith, noted.start, noted.end, sound.end);
      release = elim (cases_lt r.end n.release) [
        | inl below ↦ omega (arith, noted.end, below)
        | inr above ↦ absurd (release_behind w history legal key c old r n on noted above)
      ];
    }

-- ---- all of them

may_note : (s : Setup) → IsSetting s.world → (history : List Entry) → IsLegal s.world history → (c : Challenge) (r : Report) (note : Option Note) → IsReportOn s.key s.world c [] history r → HasNoteOn s.key c history r note → IsNoteIfAny note
may_note s w history legal c r None on has = tt
may_note s w history legal c r (Some note) on has = note_is_sound s.world w history legal s.key c [] r note on has.1

may_report : (s : Setup) → IsSetting s.world → (history : List Entry) → IsLegal s.world history → (c : Challenge) (made : List Act) (report : Option Report) → HasReport s.key s.world c [] history made report → IsReportIfAny report
may_report s w history legal c made None has = tt
may_report s w history legal c made (Some report) has = report_is_sound s.world w history legal s.key c [] report has.1

none_started : (more : List Challenge) → All IsSoundPass (map (λ other. pass.NotStarted) more)
none_started [] = All-nil IsSoundPass
none_started (c ∷ more) = All-cons IsSoundPass pass.NotStarted (map (λ other. pass.NotStarted) more) tt (none_started more)

pub passes_are_sound : (s : Setup) → IsSetting s.world → (history : List Entry) → IsLegal s.world history → (made : List Act) (challenges : List Challenge) (ends : List PassEnd) → ArePassEnds s history made challenges ends → All IsSoundPass ends
passes_are_sound s w history legal made [] [] are = All-nil IsSoundPass
passes_are_sound s w history legal made [] (end ∷ ends) are = absurd are
passes_are_sound s w history legal made (c ∷ more) [] are = absurd are
passes_are_sound s w history legal made (c ∷ more) (pass.Done report note ∷ ends) are =
    All-cons IsSoundPass (pass.Done report note) ends (report_is_sound s.world w history legal s.key c [] report are.2, may_note s w history legal c report note are.2 are.3)
    (passes_are_sound s w history legal are.0 more ends are.4)
passes_are_sound s w history legal made (c ∷ more) (pass.Full report ∷ ends) are =
    All-cons IsSoundPass (pass.Full report) ends (may_report s w history legal c made report are.1) (subst (λ (l : List PassEnd). All IsSoundPass l) (sym are.2) (none_started more))
passes_are_sound s w history legal made (c ∷ more) (pass.NotStarted ∷ ends) are = absurd are
