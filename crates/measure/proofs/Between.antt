-- How a measurement stands: its report, after entries of others, where it is over, and where the history is full.
use Rattle.std.proofs.Common.{◌≡◌, ℕ, zero, suc, true, false, List, [], ◌∷◌, ◌++◌, length, map, replicate, drop, Option, Some, None, refl, sym, ap, ◌∙◌, subst, append_assoc, append-nil}
use Rattle.std.specs.Prelude.{is_some}
use Rattle.std.specs.List.{list_any}
use Rattle.history.specs.declared.events.Act.{Act}
use Rattle.history.specs.declared.events.Act.TheVariants as act
use Rattle.history.specs.declared.events.Entry.{Entry}
use Rattle.history.specs.Attested.{attested_blocks, total}
use Rattle.history.specs.Layout.{Setting, IsSetting}
use Rattle.history.specs.Memory.{own}
use Rattle.history.specs.Pass.{is_end}
use Rattle.history.specs.Legal.{IsLegal}
use Rattle.hmac256.specs.States.{StandsFor}
use Rattle.challenge.specs.declared.Challenge.{Challenge}
use Rattle.challenge.specs.Challenges.{asked_by}
use Rattle.chronicle.specs.declared.worlds.Shape.{Shape}
use Rattle.chronicle.specs.Worlds.{shape_of}
use Rattle.chronicle.specs.Ports.{OthersFollow}
use Rattle.report.specs.declared.Report.{Report}
use Rattle.report.specs.declared.Note.{Note}
use Rattle.report.specs.Tags.{head_bytes}
use Rattle.measure.specs.declared.stepping.Progress.{Progress}
use Rattle.measure.specs.declared.stepping.Progress.TheVariants as progress
use Rattle.measure.specs.declared.stepping.Measuring.{Measuring}
use Rattle.measure.specs.Program.{HasMade, IsCut, MayStart, closing_acts, measuring_program, measuring_programs}
use Rattle.measure.specs.Measured.{HasReport, IsNoteOn, IsReportOn}
use Rattle.measure.specs.Machine.{acts_left}
use Rattle.measure.specs.Passing.{Keeps}
use Rattle.measure.specs.Stepping.{HasNoteOn, KeepsRight, Stands, is_last, is_over, left_of, report_of, stage_note, stage_of, stage_report}
use Rattle.measure.proofs.Programs.{OwnAppend}
use Rattle.measure.proofs.Steps.{OrderStays, OwnNone, PassStays, keeps_rest}
use Rattle.measure.proofs.Whole.{EndedLater, ReportStands}

abbrev pub ReportLater : Type 0
ReportLater = (key : List ℕ) (w : Setting) (c : Challenge) (old seen more : List Entry) (r : Report) → IsSetting w → IsLegal w (seen ++ more) → IsReportOn key w c old seen r → IsReportOn key w c old (seen ++ more) r

abbrev pub NoteLater : Type 0
NoteLater = (key : List ℕ) (c : Challenge) (seen more : List Entry) (r : Report) (n : Note) → IsNoteOn key c seen r n → IsNoteOn key c (seen ++ more) r n

-- ---- after entries of others

-- others' entries add none of the measurer's acts
made_on : OwnAppend → (old seen more : List Entry) (acts : List Act) → own more 0 1 ≡ [] → HasMade old seen acts → HasMade old (seen ++ more) acts
made_on append old seen more acts none h = record {
  rest = h.rest ++ more;
  whole = ap (λ l. l ++ more) h.whole ∙ append_assoc old h.rest more;
  own = append h.rest more 0 1 ∙ ap (λ l. own h.rest 0 1 ++ l) none ∙ append-nil (own h.rest 0 1) ∙ h.own;
}

note_on_later : NoteLater → (key : List ℕ) (c : Challenge) (seen more : List Entry) (r : Report) (n : Option Note) → HasNoteOn key c seen r n → HasNoteOn key c (seen ++ more) r n
note_on_later note key c seen more r None h = h
note_on_later note key c seen more r (Some n) h = (h.0, note key c seen more r n h.1)

kept_on : EndedLater → ReportLater → NoteLater → (key : List ℕ) (w : Setting) (c : Challenge) (old seen more : List Entry) (p : Progress) → IsSetting w → IsLegal w (seen ++ more) → HasMade seen (seen ++ more) [] → Keeps w seen (seen ++ more)
    → KeepsRight key w c old seen p → KeepsRight key w c old (seen ++ more) p
kept_on later report note key w c old seen more (progress.Leading left) v legal none keeps k = tt
kept_on later report note key w c old seen more (progress.Copying p made) v legal none keeps k = (
  k.0,
  k.1,
  k.2,
  (k.3.0, keeps.under_way p.challenge p.start made false k.3.1),
  subst (λ t. StandsFor p.hmac key (head_bytes (asked_by c) (shape_of w) ++ t)) (sym (keeps.bytes p.challenge p.start made false k.3.1)) k.4,
)
kept_on later report note key w c old seen more (progress.Holding r left) v legal none keeps k = (
  k.0,
  k.1,
  later key w c seen (seen ++ more) r [] k.2 none,
  keeps.under_way c r.start (total w.ranges) true k.3,
)
kept_on later report note key w c old seen more (progress.Over r n) v legal none keeps k = (report key w c old seen more r v legal k.0, note_on_later note key c seen more r n k.1)

pub others_stand : OrderStays → PassStays → OwnAppend → EndedLater → ReportLater → NoteLater → (key : List ℕ) (w : Setting) (c : Challenge) (old seen more : List Entry) (m : Measuring)
    → Stands key w c old seen m → IsLegal w (seen ++ more) → own more 0 1 ≡ [] → Stands key w c old (seen ++ more) m
others_stand order stays append later report note key w c old seen more m s legal none = record {
  setting = s.setting;
  start = s.start;
  legal = legal;
  challenge = s.challenge;
  made = s.made;
  whole = s.whole;
  entries = made_on append old seen more s.made none s.entries;
  reported = s.reported;
  kept = kept_on later report note key w c old seen more m.progress s.setting legal (record { rest = more; whole = refl; own = none }) (keeps_rest order stays w seen more legal none) s.kept;
}

pub followed_stand : OrderStays → PassStays → OwnNone → OwnAppend → EndedLater → ReportLater → NoteLater → (key : List ℕ) (w : Setting) (c : Challenge) (old seen new : List Entry) (m : Measuring)
    → Stands key w c old seen m → IsLegal w new → OthersFollow 0 1 seen new → Stands key w c old new m
followed_stand order stays none append later report note key w c old seen new m s legal f =
    subst (λ l. Stands key w c old l m) (sym f.whole) (others_stand order stays append later report note key w c old seen f.rest m s (subst (IsLegal w) f.whole legal) (none 0 1 f.rest f.beyond))

-- ---- the report, wherever it stands

reports : ReportStands → (key : List ℕ) (w : Setting) (c : Challenge) (old seen : List Entry) (made : List Act) (p : Progress) → IsSetting w → IsLegal w seen → list_any is_end made ≡ is_some (stage_report p)
    → KeepsRight key w c old seen p → HasReport key w c old seen made (stage_report p)
reports stands key w c old seen made (progress.Leading left) v legal reported k = reported
reports stands key w c old seen made (progress.Copying p count) v legal reported k = reported
reports stands key w c old seen made (progress.Holding r left) v legal reported k = (reported, stands key w c old seen r v legal k.1 k.2)
reports stands key w c old seen made (progress.Over r n) v legal reported k = (reported, k.0)

pub made_stands : ReportStands → (key : List ℕ) (w : Setting) (c : Challenge) (old seen : List Entry) (m : Measuring) → Stands key w c old seen m
    → (made : List Act) × HasMade old seen made × (measuring_program c (shape_of w) ≡ made ++ left_of w m) × HasReport key w c old seen made (report_of m)
made_stands stands key w c old seen m s = (s.made, s.entries, s.whole, reports stands key w c old seen s.made m.progress s.setting s.legal s.reported s.kept)

-- ---- where it is over

abbrev pub MayStartAfter : Type 0
MayStartAfter = (w : Setting) (challenges : List Challenge) (old new : List Entry) → IsSetting w → IsLegal w new → MayStart w old → HasMade old new (measuring_programs challenges (shape_of w)) → MayStart w new

-- what is known of the report and the note
abbrev IsReported : List ℕ → Setting → Challenge → List Entry → List Entry → Progress → Type 0
IsReported key w c old seen p = (r : Report) × (stage_report p ≡ Some r) × IsReportOn key w c old seen r × HasNoteOn key c seen r (stage_note p)

last_reports : (key : List ℕ) (w : Setting) (c : Challenge) (old seen : List Entry) (p : Progress) → is_last p ≡ true → KeepsRight key w c old seen p → IsReported key w c old seen p
last_reports key w c old seen (progress.Leading left) is k = absurd cc
last_reports key w c old seen (progress.Copying p made) is k = absurd cc
last_reports key w c old seen (progress.Holding r left) is k = absurd cc
last_reports key w c old seen (progress.Over r n) is k = (r, refl, k.0, k.1)

pub none_left : (c : Challenge) (shape : Shape) (p : Progress) → is_last p ≡ true → acts_left c shape (stage_of p) ≡ []
none_left c shape (progress.Leading left) is = absurd cc
none_left c shape (progress.Copying p made) is = absurd cc
none_left c shape (progress.Holding r left) is = absurd cc
none_left c shape (progress.Over r n) is = refl

pub over_stands : MayStartAfter → (key : List ℕ) (w : Setting) (c : Challenge) (old seen : List Entry) (m : Measuring) → Stands key w c old seen m → is_over m ≡ true
    → HasMade old seen (measuring_program c (shape_of w)) × MayStart w seen × IsReported key w c old seen m.progress
over_stands may key w c old seen m s is =
    let program = measuring_program c (shape_of w) in
    let all : s.made ≡ program = sym (append-nil s.made) ∙ ap (λ l. s.made ++ l) (sym (none_left m.challenge (shape_of w) m.progress is)) ∙ sym s.whole in
    let made = subst (HasMade old seen) all s.entries in (
      made,
      may w (c ∷ []) old seen s.setting s.legal s.start (subst (HasMade old seen) (sym (append-nil program)) made),
      last_reports key w c old seen m.progress is s.kept,
    )

-- ---- where the history is full

-- these acts have a first one
abbrev HasFirst : List Act → Type 0
HasFirst acts = (next : Act) × (missed : List Act) × (acts ≡ next ∷ missed)

first_ticks : (left : ℕ) (next : Act) (missed : List Act) → HasFirst (replicate left act.Tick ++ next ∷ missed)
first_ticks zero next missed = (next, missed, refl)
first_ticks (suc left) next missed = (act.Tick, replicate left act.Tick ++ next ∷ missed, refl)

first_copies : (blocks : List ℕ) (rest : List Act) → HasFirst (map act.Copy blocks ++ (act.End ∷ []) ++ rest)
first_copies [] rest = (act.End, rest, refl)
first_copies (block ∷ more) rest = (act.Copy block, map act.Copy more ++ (act.End ∷ []) ++ rest, refl)

first_before : (a b : List Act) → HasFirst a → HasFirst (a ++ b)
first_before a b (next, missed, is) = (next, missed ++ b, ap (λ l. l ++ b) is)

some_left : (c : Challenge) (shape : Shape) (p : Progress) → is_last p ≡ false → HasFirst (acts_left c shape (stage_of p))
some_left c shape (progress.Leading left) is = first_before _ (closing_acts c) (first_ticks left (act.Start c.discipline c.counter) (map act.Copy (attested_blocks shape.ranges) ++ (act.End ∷ [])))
some_left c shape (progress.Copying p made) is = first_copies (drop made (attested_blocks shape.ranges)) (closing_acts c)
some_left c shape (progress.Holding r left) is = first_ticks left act.Release []
some_left c shape (progress.Over r n) is = absurd cc

pub full_stands : ReportStands → (key : List ℕ) (w : Setting) (c : Challenge) (old seen : List Entry) (m : Measuring) → Stands key w c old seen m → is_over m ≡ false → length seen ≡ w.cap
    → (made : List Act) × IsCut w old seen (measuring_program c (shape_of w)) w.cap made × HasReport key w c old seen made (report_of m)
full_stands stands key w c old seen m s is full =
    let first = some_left m.challenge (shape_of w) m.progress is in (
      s.made,
      record {
        next = first.0;
        missed = first.1;
        whole = s.whole ∙ ap (λ l. s.made ++ l) first.2;
        entries = s.entries;
        full = full;
        at = refl;
      },
      reports stands key w c old seen s.made m.progress s.setting s.legal s.reported s.kept,
    )
