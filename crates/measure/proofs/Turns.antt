-- A turn: what was left before it and is left after it, and why what the new stage keeps is right.
use Rattle.std.proofs.Common.{◌≡◌, ℕ, zero, suc, ◌+◌, ◌-◌, ◌<◌, ◌≤◌, Bool, true, false, List, [], ◌∷◌, ◌++◌, length, map, reverse, Some, None, refl, sym, ap, ◌∙◌, subst, append_assoc, append-nil, arith}
use Rattle.std.specs.Prelude.{IsTrue, is_some, ◌||◌, if◌then◌else◌}
use Rattle.std.proofs.Math.Seq.{drop-length}
use Rattle.std.proofs.lemmas.List.{length-append}
use Rattle.std.proofs.lemmas.List.Folds.{list_any-append}
use Rattle.history.specs.declared.events.Act.{Act}
use Rattle.history.specs.declared.events.Act.TheVariants as act
use Rattle.history.specs.declared.events.Entry.{Entry}
use Rattle.history.specs.Attested.{attested_block, attested_blocks, total}
use Rattle.history.specs.Layout.{Setting, IsSetting}
use Rattle.history.specs.Pass.{pass_after, is_end, is_extended}
use Rattle.history.specs.Legal.{IsLegal, in_order}
use Rattle.history.specs.Copied.{copied_bytes}
use Rattle.hmac256.specs.declared.Hmac.{Hmac}
use Rattle.hmac256.specs.States.{StandsFor}
use Rattle.challenge.specs.declared.Challenge.{Challenge}
use Rattle.challenge.specs.Challenges.{asked_by}
use Rattle.chronicle.specs.declared.answers.Step.{Step}
use Rattle.chronicle.specs.declared.answers.Step.TheVariants as step
use Rattle.chronicle.specs.declared.worlds.Shape.{Shape}
use Rattle.chronicle.specs.Worlds.{shape_of}
use Rattle.chronicle.specs.Ports.{AddsEntry, FillsBuffer, HasStepped, IsMeasurer, StepsAlone, entry_by}
use Rattle.report.specs.declared.Report.{Report}
use Rattle.report.specs.declared.Note.{Note}
use Rattle.report.specs.Tags.{head_bytes, note_tag}
use Rattle.measure.specs.declared.machine.Stage.TheVariants as stage
use Rattle.measure.specs.declared.passing.Passing.{Passing}
use Rattle.measure.specs.declared.stepping.Progress.{Progress}
use Rattle.measure.specs.declared.stepping.Progress.TheVariants as progress
use Rattle.measure.specs.declared.stepping.Measuring.{Measuring}
use Rattle.measure.specs.Program.{HasMade, MayStart, closing_acts, measuring_program, measuring_programs}
use Rattle.measure.specs.Machine.{acts_left}
use Rattle.measure.specs.Passing.{HasEnded, IsPassing, IsUnderWay, Keeps, report_with}
use Rattle.measure.specs.Stepping.{HasAsked, HoldsCopied, HoldsWhereDone, IsMade, IsStageAfterEnd, KeepsRight, Stands, TakesIn, left_of, stage_after_end, stage_of, stage_report}
use Rattle.measure.proofs.Closing.{Ends, Releases, ended_on, noted_on}
use Rattle.measure.proofs.Copying.{CopiedNext, block_copied}
use Rattle.measure.proofs.Machines.{copies_from}
use Rattle.measure.proofs.Parts.{MadeAdded, MadeMore}
use Rattle.measure.proofs.Whole.{EndedLater, ReportStands}

-- ---- the acts that are left

pub left_tick : (c : Challenge) (shape : Shape) (left : ℕ) → 0 < left → acts_left c shape (stage.Leading left) ≡ act.Tick ∷ acts_left c shape (stage.Leading (left - 1))
left_tick c shape zero some = absurd (omega (arith, some))
left_tick c shape (suc left) some =
    let n : left ≡ suc left - 1 = omega arith in ap (λ k. act.Tick ∷ acts_left c shape (stage.Leading k)) n

pub left_start : (c : Challenge) (shape : Shape) → acts_left c shape (stage.Leading 0) ≡ act.Start c.discipline c.counter ∷ acts_left c shape (stage.Copying 0)
left_start c shape = refl

pub left_copy : (c : Challenge) (shape : Shape) (made : ℕ) → made < total shape.ranges
    → acts_left c shape (stage.Copying made) ≡ act.Copy (attested_block shape.ranges made) ∷ acts_left c shape (stage.Copying (made + 1))
left_copy c shape made within = ap (λ l. l ++ (act.End ∷ []) ++ closing_acts c) (copies_from (attested_blocks shape.ranges) made within)

pub left_end : (c : Challenge) (shape : Shape) (made : ℕ) → made ≡ total shape.ranges → acts_left c shape (stage.Copying made) ≡ act.End ∷ closing_acts c
left_end c shape made all =
    ap (λ k. acts_left c shape (stage.Copying k)) all ∙ ap (λ l. map act.Copy l ++ (act.End ∷ []) ++ closing_acts c) (drop-length (attested_blocks shape.ranges))

left_closing_if : (c : Challenge) (shape : Shape) (r : Report) (extended : Bool) → is_extended c.discipline ≡ extended
    → closing_acts c ≡ acts_left c shape (stage_of (if extended then progress.Holding r c.hold else progress.Over r None))
left_closing_if c shape r true is = rw is refl
left_closing_if c shape r false is = rw is refl

pub left_closing : (c : Challenge) (shape : Shape) (r : Report) → closing_acts c ≡ acts_left c shape (stage_of (stage_after_end c r))
left_closing c shape r = left_closing_if c shape r (is_extended c.discipline) refl

pub left_hold : (c : Challenge) (shape : Shape) (left : ℕ) → 0 < left → acts_left c shape (stage.Holding left) ≡ act.Tick ∷ acts_left c shape (stage.Holding (left - 1))
left_hold c shape zero some = absurd (omega (arith, some))
left_hold c shape (suc left) some =
    let n : left ≡ suc left - 1 = omega arith in ap (λ k. act.Tick ∷ acts_left c shape (stage.Holding k)) n

-- End and what comes after it
pub left_ended : (c : Challenge) (shape : Shape) (p : Passing) (made place : ℕ) (q : Progress) → made ≡ total shape.ranges → IsStageAfterEnd c p place q → acts_left c shape (stage.Copying made) ≡ act.End ∷ acts_left c shape (stage_of q)
left_ended c shape p made place q all (tag, is, tagged) =
    left_end c shape made all
    ∙ ap (λ l. act.End ∷ l) (left_closing c shape (report_with p place tag) ∙ ap (λ x. acts_left c shape (stage_of x)) (sym is))

-- the stage after End has a report
has_report_if : (c : Challenge) (r : Report) (extended : Bool) → is_some (stage_report (if extended then progress.Holding r c.hold else progress.Over r None)) ≡ true
has_report_if c r true = refl
has_report_if c r false = refl

pub ended_reports : (c : Challenge) (p : Passing) (place : ℕ) (q : Progress) → IsStageAfterEnd c p place q → true ≡ is_some (stage_report q)
ended_reports c p place q (tag, is, tagged) = sym (ap (λ x. is_some (stage_report x)) is ∙ has_report_if c (report_with p place tag) (is_extended c.discipline))

-- what is left at a stage that is known
pub left_at : (w : Setting) (m : Measuring) (p : Progress) (a : Act) (missed : List Act) → m.progress ≡ p → acts_left m.challenge (shape_of w) (stage_of p) ≡ a ∷ missed → left_of w m ≡ a ∷ missed
left_at w m p a missed is left = ap (λ x. acts_left m.challenge (shape_of w) (stage_of x)) is ∙ left

-- how many blocks a pass attests, as it counts them
pub pass_total : (w : Setting) (p : Passing) (count : ℕ) → count ≡ total p.shape.ranges → p.shape ≡ shape_of w → count ≡ total w.ranges
pass_total w p count is shape = is ∙ ap (λ (s : Shape). total s.ranges) shape

-- a Copy is left, of this block
pub copy_left : (key : List ℕ) (w : Setting) (c : Challenge) (old seen : List Entry) (m : Measuring) (p : Passing) (made count block : ℕ) → Stands key w c old seen m → m.progress ≡ progress.Copying p made
    → count ≡ total p.shape.ranges → made < count → block ≡ attested_block p.shape.ranges made → left_of w m ≡ act.Copy block ∷ acts_left m.challenge (shape_of w) (stage.Copying (made + 1))
copy_left key w c old seen m p made count block s is counted within there =
    let k = subst (KeepsRight key w c old seen) is s.kept in
    let all : count ≡ total w.ranges = pass_total w p count counted k.3.0 in
    left_at w m (progress.Copying p made) (act.Copy block) (acts_left m.challenge (shape_of w) (stage.Copying (made + 1))) is
    (left_copy m.challenge (shape_of w) made (omega (arith, within, all))
    ∙ ap (λ b. act.Copy b ∷ acts_left m.challenge (shape_of w) (stage.Copying (made + 1))) (sym (there ∙ ap (λ (x : Shape). attested_block x.ranges made) k.3.0)))

-- End is left
pub end_left : (key : List ℕ) (w : Setting) (c : Challenge) (old seen : List Entry) (m : Measuring) (p : Passing) (made count : ℕ) → Stands key w c old seen m → m.progress ≡ progress.Copying p made
    → count ≡ total p.shape.ranges → count ≤ made → left_of w m ≡ act.End ∷ closing_acts m.challenge
end_left key w c old seen m p made count s is counted past =
    let k = subst (KeepsRight key w c old seen) is s.kept in
    let all : count ≡ total w.ranges = pass_total w p count counted k.3.0 in
    left_at w m (progress.Copying p made) act.End (closing_acts m.challenge) is (left_end m.challenge (shape_of w) made (omega (arith, past, all, k.0)))

pub same_passing : (a b : Passing) (made other : ℕ) → progress.Copying a made ≡ progress.Copying b other → a ≡ b
same_passing a b made other h = cc

-- ---- the step that is in order

abbrev pub NextInOrder : Type 0
NextInOrder = (w : Setting) (challenges : List Challenge) (old new : List Entry) (made : List Act) (next : Act) (missed : List Act) → IsSetting w → IsLegal w new → MayStart w old → HasMade old new made
    → measuring_programs challenges (shape_of w) ≡ made ++ next ∷ missed → IsTrue (in_order w (pass_after (reverse new)) next)

pub comes_in_order : NextInOrder → (key : List ℕ) (w : Setting) (c : Challenge) (old seen : List Entry) (m : Measuring) (next : Act) (missed : List Act) → Stands key w c old seen m → left_of w m ≡ next ∷ missed
    → IsTrue (in_order w (pass_after (reverse seen)) next)
comes_in_order order key w c old seen m next missed s left =
    order w (c ∷ []) old seen s.made next missed s.setting s.legal s.start s.entries (append-nil (measuring_program c (shape_of w)) ∙ s.whole ∙ ap (λ l. s.made ++ l) left)

-- ---- what a port answered

pub fills_holds : (w : Setting) (new : List Entry) (block : ℕ) (before after : List ℕ) (answer : Step) → FillsBuffer w new block before after answer → HoldsWhereDone w new (act.Copy block) after answer
fills_holds w new block before after (step.Done place) h = h
fills_holds w new block before after (step.Full place) h = tt

pub holds_none : (w : Setting) (new : List Entry) (a : Act) (bytes : List ℕ) (answer : Step) → HoldsCopied w new a bytes → HoldsWhereDone w new a bytes answer
holds_none w new a bytes (step.Done place) h = h
holds_none w new a bytes (step.Full place) h = tt

pub asked_first : (alone : Type 0) (w : Setting) (low high : ℕ) → IsMeasurer low high → (old new : List Entry) (left : List Act) (a : Act) (missed : List Act) (bytes : List ℕ) (answer : Step)
    → left ≡ a ∷ missed → HasStepped w low high old new a answer → (alone → StepsAlone low old new a answer) → HoldsWhereDone w new a bytes answer → HasAsked alone w old new left bytes answer
asked_first alone w low high m old new left a missed bytes answer whole stepped only holds = record {
  next = a;
  missed = missed;
  whole = whole;
  stepped = subst (λ l. HasStepped w l 1 old new a answer) m.0 (subst (λ u. HasStepped w low u old new a answer) m.1 stepped);
  only = λ one. subst (λ l. StepsAlone l old new a answer) m.0 (only one);
  holds = holds;
}

-- ---- a step that is taken in

abbrev pub measuring_at : Challenge → Progress → Measuring
measuring_at c p = record { challenge = c; progress = p }

pub first_is : (x y : Act) (a b : List Act) → x ∷ a ≡ y ∷ b → x ≡ y
first_is x y a b h = cc

pub rest_is : (x y : Act) (a b : List Act) → x ∷ a ≡ y ∷ b → a ≡ b
rest_is x y a b h = cc

-- from one stage to the next, by this act
taken_at : MadeMore → MadeAdded → (key : List ℕ) (w : Setting) (c : Challenge) (first old new : List Entry) (d : Challenge) (p q : Progress) (a : Act) (place : ℕ) (bytes : List ℕ)
    → (Stands key w c first old (measuring_at d p) → acts_left d (shape_of w) (stage_of p) ≡ a ∷ acts_left d (shape_of w) (stage_of q)) → (is_some (stage_report p) || (is_end a || false)) ≡ is_some (stage_report q)
    → (Stands key w c first old (measuring_at d p) → IsMade w old new a place bytes → KeepsRight key w c first new q)
    → TakesIn key w c first old new (measuring_at d p) (measuring_at d q) place bytes
taken_at more added key w c first old new d p q a place bytes left reported kept = λ next missed s is made.
    let both : a ∷ acts_left d (shape_of w) (stage_of q) ≡ next ∷ missed = sym (left s) ∙ is in
    let m : IsMade w old new a place bytes = subst (λ x. IsMade w old new x place bytes) (sym (first_is a next (acts_left d (shape_of w) (stage_of q)) missed both)) made in (
      record {
        setting = s.setting;
        start = s.start;
        legal = m.legal;
        challenge = s.challenge;
        made = s.made ++ a ∷ [];
        whole = s.whole ∙ ap (λ l. s.made ++ l) (left s) ∙ sym (append_assoc s.made (a ∷ []) (acts_left d (shape_of w) (stage_of q)));
        entries = more first old new s.made (a ∷ []) s.entries (added old new a m.adds);
        reported = list_any-append is_end s.made (a ∷ []) ∙ ap (λ b. b || (is_end a || false)) s.reported ∙ reported;
        kept = kept s m;
      },
      rest_is a next (acts_left d (shape_of w) (stage_of q)) missed both,
    )

pub taken_in : MadeMore → MadeAdded → (key : List ℕ) (w : Setting) (c : Challenge) (first old new : List Entry) (m : Measuring) (p q : Progress) (a : Act) (place : ℕ) (bytes : List ℕ) → m.progress ≡ p
    → (Stands key w c first old (measuring_at m.challenge p) → acts_left m.challenge (shape_of w) (stage_of p) ≡ a ∷ acts_left m.challenge (shape_of w) (stage_of q)) → (is_some (stage_report p) || (is_end a || false)) ≡ is_some (stage_report q)
    → (Stands key w c first old (measuring_at m.challenge p) → IsMade w old new a place bytes → KeepsRight key w c first new q)
    → TakesIn key w c first old new m (measuring_at m.challenge q) place bytes
taken_in more added key w c first old new m p q a place bytes is left reported kept =
    subst (λ x. TakesIn key w c first old new (measuring_at m.challenge x) (measuring_at m.challenge q) place bytes) (sym is) (taken_at more added key w c first old new m.challenge p q a place bytes left reported kept)

-- ---- what the new stage keeps

-- the list with one entry more is longer than it began
longer_than : (first old new : List Entry) (acts : List Act) (entry : Entry) → HasMade first old acts → AddsEntry 0 1 old new entry → length first < length new
longer_than first old new acts entry h a =
    let n : length old ≡ length first + length h.rest = ap (λ (l : List Entry). length l) h.whole ∙ length-append first h.rest in
    let more : length new ≡ length (old ++ a.between) + 1 = ap (λ (l : List Entry). length l) a.whole ∙ length-append (old ++ a.between) (entry ∷ []) in
    omega (arith, n, more, length-append old a.between)

abbrev pub Starts : Type 0
Starts = (w : Setting) (old new : List Entry) (c : Challenge) → AddsEntry 0 1 old new (entry_by 0 (act.Start c.discipline c.counter)) → IsUnderWay w new c (length new) 0 false × (copied_bytes w (reverse new) ≡ [])

pub begun_kept : Starts → (key : List ℕ) (w : Setting) (c : Challenge) (first old new : List Entry) (d : Challenge) (p : Passing) (place : ℕ) (bytes : List ℕ)
    → p.challenge ≡ d → p.shape ≡ shape_of w → p.start ≡ place → StandsFor p.hmac key (head_bytes (asked_by d) (shape_of w))
    → Stands key w c first old (measuring_at d (progress.Leading 0)) → IsMade w old new (act.Start d.discipline d.counter) place bytes → KeepsRight key w c first new (progress.Copying p 0)
begun_kept starts key w c first old new d p place bytes of shape start stands s m =
    let u = starts w old new d m.adds in
    let at : p.start ≡ length new = start ∙ m.here in (
      omega arith,
      of ∙ s.challenge,
      subst (λ n. length first < n) (sym at) (longer_than first old new s.made (entry_by 0 (act.Start d.discipline d.counter)) s.entries m.adds),
      (shape, subst (λ x. IsUnderWay w new x p.start 0 false) (sym of) (subst (λ n. IsUnderWay w new d n 0 false) (sym at) u.0)),
      subst (λ x. StandsFor p.hmac key (head_bytes (asked_by x) (shape_of w) ++ copied_bytes w (reverse new))) s.challenge
          (subst (λ t. StandsFor p.hmac key t) (sym (append-nil (head_bytes (asked_by d) (shape_of w))) ∙ ap (λ l. head_bytes (asked_by d) (shape_of w) ++ l) (sym u.1)) stands),
    )

pub copied_kept : MadeAdded → CopiedNext → (key : List ℕ) (w : Setting) (c : Challenge) (first old new : List Entry) (d : Challenge) (p : Passing) (made : ℕ) (after : Hmac) (place : ℕ) (bytes : List ℕ) → made < total w.ranges
    → ((k text : List ℕ) → StandsFor p.hmac k text → StandsFor after k (text ++ bytes))
    → Stands key w c first old (measuring_at d (progress.Copying p made)) → IsMade w old new (act.Copy (attested_block w.ranges made)) place bytes
    → KeepsRight key w c first new (progress.Copying (record p { hmac = after }) (made + 1))
copied_kept added copied key w c first old new d p made after place bytes within update s m =
    let k = s.kept in
    let one = block_copied added copied w 0 1 (refl, refl) old new p after made (attested_block w.ranges made) bytes refl m.legal m.adds k.3 m.holds update in
    (omega (arith, within), k.1, k.2, one.3, one.4 key (head_bytes (asked_by c) (shape_of w)) k.4)

-- the stage once End is made
pub after_extended : (c : Challenge) (r given : Report) → is_extended c.discipline ≡ true → given ≡ r → progress.Holding given c.hold ≡ stage_after_end c r
after_extended c r given extended is = rw (extended, is) refl

pub after_plain : (c : Challenge) (r given : Report) → is_extended c.discipline ≡ false → given ≡ r → progress.Over given None ≡ stage_after_end c r
after_plain c r given plain is = rw (plain, is) refl

end_kept_if : ReportStands → (key : List ℕ) (w : Setting) (c : Challenge) (first new : List Entry) (r : Report) (extended : Bool) → is_extended c.discipline ≡ extended → IsSetting w → IsLegal w new → length first < r.start
    → HasEnded key w c new r → IsUnderWay w new c r.start (total w.ranges) true → KeepsRight key w c first new (if extended then progress.Holding r c.hold else progress.Over r None)
end_kept_if stands key w c first new r true is v legal begins ended u = (is, begins, ended, u)
end_kept_if stands key w c first new r false is v legal begins ended u = (stands key w c first new r v legal begins ended, is)

pub end_kept : MadeAdded → Ends → ReportStands → (key : List ℕ) (w : Setting) (c : Challenge) (first old new : List Entry) (d : Challenge) (p : Passing) (made : ℕ) (q : Progress) (place : ℕ) (bytes : List ℕ) → made ≡ total w.ranges → IsStageAfterEnd d p place q
    → Stands key w c first old (measuring_at d (progress.Copying p made)) → IsMade w old new act.End place bytes → KeepsRight key w c first new q
end_kept added ends stands key w c first old new d p made q place bytes all (tag, is, tagged) s m =
    let k = s.kept in
    let r = report_with p place tag in
    let passing : IsPassing w old (total w.ranges) p = subst (λ n. IsPassing w old n p) all k.3 in
    let digest : StandsFor p.hmac key (head_bytes (asked_by p.challenge) p.shape ++ copied_bytes w (reverse old)) = rw (k.1, k.3.0) k.4 in
    let e = ended_on added ends key w 0 1 (refl, refl) old new p place tag m.legal (m.adds, m.here) passing (tagged key (copied_bytes w (reverse old)) digest) in
    subst (KeepsRight key w c first new) (sym is)
    (subst (λ x. KeepsRight key w c first new (stage_after_end x r)) (sym s.challenge)
    (end_kept_if stands key w c first new r (is_extended c.discipline) refl s.setting m.legal k.2
    (subst (λ x. HasEnded key w x new r) k.1 e.3) (subst (λ x. IsUnderWay w new x p.start (total w.ranges) true) k.1 e.4)))

abbrev pub KeepsTick : Type 0
KeepsTick = (w : Setting) (old new : List Entry) → IsLegal w new → AddsEntry 0 1 old new (entry_by 0 act.Tick) → Keeps w old new

pub hold_kept : MadeAdded → KeepsTick → EndedLater → (key : List ℕ) (w : Setting) (c : Challenge) (first old new : List Entry) (d : Challenge) (r : Report) (left other : ℕ) (place : ℕ) (bytes : List ℕ)
    → Stands key w c first old (measuring_at d (progress.Holding r left)) → IsMade w old new act.Tick place bytes → KeepsRight key w c first new (progress.Holding r other)
hold_kept added tick later key w c first old new d r left other place bytes s m =
    let k = s.kept in (
      k.0,
      k.1,
      later key w c old new r (act.Tick ∷ []) k.2 (added old new act.Tick m.adds),
      (tick w old new m.legal m.adds).under_way c r.start (total w.ranges) true k.3,
    )

pub release_kept : MadeAdded → Releases → ReportStands → EndedLater → (key : List ℕ) (w : Setting) (c : Challenge) (first old new : List Entry) (d : Challenge) (r : Report) (n : Note) (place : ℕ) (bytes : List ℕ)
    → n.counter ≡ r.counter → n.start ≡ r.start → n.end ≡ r.end → n.release ≡ place → n.tag ≡ note_tag key r.counter r.start r.end place r.tag
    → Stands key w c first old (measuring_at d (progress.Holding r 0)) → IsMade w old new act.Release place bytes → KeepsRight key w c first new (progress.Over r (Some n))
release_kept added releases stands later key w c first old new d r n place bytes counter start end there tagged s m =
    let k = s.kept in (
      stands key w c first new r s.setting m.legal k.1 (later key w c old new r (act.Release ∷ []) k.2 (added old new act.Release m.adds)),
      (k.0, noted_on releases key w c r old new n k.3 m.legal m.adds (there ∙ m.here) counter start end (rw there tagged)),
    )
