-- The whole program, part by part.
use Rattle.std.proofs.Common.{◌≡◌, ℕ, zero, suc, ◌+◌, ◌<◌, Bool, true, false, List, [], ◌∷◌, ◌++◌, length, reverse, replicate, refl, sym, ap, ◌∙◌, subst, append-nil, arith}
use Rattle.std.specs.Prelude.{◌||◌}
use Rattle.std.specs.List.{list_any}
use Rattle.std.proofs.lemmas.List.{length-append}
use Rattle.std.proofs.lemmas.List.Folds.{list_any-append}
use Rattle.history.specs.declared.events.Act.{Act}
use Rattle.history.specs.declared.events.Act.TheVariants.{Start, End, Tick}
use Rattle.history.specs.declared.events.Entry.{Entry}
use Rattle.history.specs.Attested.{attested_blocks, total}
use Rattle.history.specs.Layout.{Setting, IsSetting}
use Rattle.history.specs.Pass.{is_end}
use Rattle.history.specs.Legal.{IsLegal}
use Rattle.history.specs.Copied.{copied_bytes}
use Rattle.hmac256.specs.States.{StandsFor}
use Rattle.challenge.specs.declared.Challenge.{Challenge}
use Rattle.challenge.specs.Challenges.{asked_by}
use Rattle.chronicle.specs.Worlds.{shape_of}
use Rattle.report.specs.declared.Report.{Report}
use Rattle.report.specs.Tags.{head_bytes}
use Rattle.measure.specs.declared.passing.Passing.{Passing}
use Rattle.measure.specs.declared.passing.Part.TheVariants as part
use Rattle.measure.specs.declared.passing.Begun.TheVariants as begun
use Rattle.measure.specs.declared.passing.Attested.{Attested}
use Rattle.measure.specs.declared.passing.Attested.TheVariants as attested
use Rattle.measure.specs.Program.{HasMade, IsCut, closing_acts, copies, measuring_program, pass_acts}
use Rattle.measure.specs.Measured.{IsReportOn}
use Rattle.measure.specs.Passing.{HasAttested, HasBegun, HasCopiedBlocks, HasEnded, IsEnded, IsUnderWay, MetFull}
use Rattle.measure.proofs.Parts.{MadeMore, cut_within}

-- End isn't among these acts
abbrev NoEnd : List Act → Type 0
NoEnd acts = list_any is_end acts ≡ false

none_in_ticks : (count : ℕ) → NoEnd (replicate count Tick)
none_in_ticks zero = refl
none_in_ticks (suc count) = none_in_ticks count

none_in_copies : (blocks : List ℕ) → NoEnd (copies blocks)
none_in_copies [] = refl
none_in_copies (block ∷ more) = none_in_copies more

or_left : (a b : Bool) → (a || b) ≡ false → a ≡ false
or_left false b h = refl
or_left true b h = h

none_in_front : (front rest : List Act) → NoEnd (front ++ rest) → NoEnd front
none_in_front front rest h = or_left (list_any is_end front) (list_any is_end rest) (sym (list_any-append is_end front rest) ∙ h)

none_in_both : (a b : List Act) → NoEnd a → NoEnd b → NoEnd (a ++ b)
none_in_both a b x y = list_any-append is_end a b ∙ (rw (x, y) refl)

-- a cut part has no End where the part has none
none_in_cut : (w : Setting) (old new : List Entry) (program : List Act) (place : ℕ) (made : List Act) → IsCut w old new program place made → NoEnd program → NoEnd made
none_in_cut w old new program place made cut none = none_in_front made (cut.next ∷ cut.missed) (ap (list_any is_end) (sym cut.whole) ∙ none)

-- one act was cut before it was made
none_of_one : (a : Act) (made : List Act) (next : Act) (missed : List Act) → a ∷ [] ≡ made ++ next ∷ missed → made ≡ []
none_of_one a [] next missed h = refl
none_of_one a (b ∷ []) next missed h = absurd cc
none_of_one a (b ∷ c ∷ made) next missed h = absurd cc

-- a full history at Start
pub begun_full : MadeMore → (w : Setting) (c : Challenge) (old new : List Entry) (place : ℕ) → HasMade old old [] → MetFull w old new (Start c.discipline c.counter ∷ []) place
    → (made : List Act) × IsCut w old new (pass_acts c (shape_of w)) place made × IsLegal w new × NoEnd made
begun_full more w c old new place none (made, cut, legal) = (
  made,
  cut_within more w old old new [] (Start c.discipline c.counter ∷ []) (copies (attested_blocks w.ranges) ++ (End ∷ [])) made place none cut,
  legal,
  none_in_cut w old new (Start c.discipline c.counter ∷ []) place made cut refl,
)

-- a full history at a Copy
pub copied_full : MadeMore → (w : Setting) (c : Challenge) (old middle new : List Entry) (place : ℕ) → HasMade old middle (Start c.discipline c.counter ∷ []) → MetFull w middle new (copies (attested_blocks w.ranges)) place
    → (made : List Act) × IsCut w old new (pass_acts c (shape_of w)) place made × IsLegal w new × NoEnd made
copied_full more w c old middle new place entries (made, cut, legal) = (
  Start c.discipline c.counter ∷ made,
  cut_within more w old middle new (Start c.discipline c.counter ∷ []) (copies (attested_blocks w.ranges)) (End ∷ []) made place entries cut,
  legal,
  none_in_cut w middle new (copies (attested_blocks w.ranges)) place made cut (none_in_copies (attested_blocks w.ranges)),
)

-- End was made, or met a full history
ended_of : MadeMore → (key : List ℕ) (w : Setting) (c : Challenge) (old middle new : List Entry) (q : Passing) → HasMade old middle (Start c.discipline c.counter ∷ copies (attested_blocks w.ranges))
    → q.challenge ≡ c → length old < q.start → (result : Attested) → IsEnded key w q middle new result → HasAttested key w c old new result
ended_of more key w c old middle new q entries is begins (attested.Ended report) e = (
  more old middle new (Start c.discipline c.counter ∷ copies (attested_blocks w.ranges)) (End ∷ []) entries e.0,
  e.1,
  rw e.2 begins,
  subst (λ d. HasEnded key w d new report) is e.3,
  subst (λ d. IsUnderWay w new d report.start (total w.ranges) true) is (subst (λ s. IsUnderWay w new q.challenge s (total w.ranges) true) (sym e.2) e.4),
)
ended_of more key w c old middle new q entries is begins (attested.Full place) (made, cut, legal) =
    let before = Start c.discipline c.counter ∷ copies (attested_blocks w.ranges) in
    let none : made ≡ [] = none_of_one End made cut.next cut.missed cut.whole in (
      before ++ made,
      subst (λ l. IsCut w old new l place (before ++ made)) (append-nil (before ++ (End ∷ []))) (cut_within more w old middle new before (End ∷ []) [] made place entries cut),
      legal,
      ap (λ l. list_any is_end (before ++ l)) none ∙ ap (list_any is_end) (append-nil before) ∙ none_in_copies (attested_blocks w.ranges),
    )

pub attested_of : MadeMore → (key : List ℕ) (w : Setting) (c : Challenge) (old first middle new : List Entry) (p q : Passing) → HasBegun key w c old first (begun.Made p)
    → HasCopiedBlocks w first middle p q (copies (attested_blocks w.ranges)) (total w.ranges) part.Made → (result : Attested)
    → ((k : List ℕ) → StandsFor q.hmac k (head_bytes (asked_by q.challenge) q.shape ++ copied_bytes w (reverse middle)) → IsEnded k w q middle new result)
    → HasAttested key w c old new result
attested_of more key w c old first middle new p q begun copied result ended =
    let same : q.challenge ≡ c = ap (λ (x : Passing). x.challenge) copied.2 ∙ begun.3 in
    let begins : length old < q.start = rw (ap (λ (x : Passing). x.start) copied.2) begun.2 in
    let stands = copied.4 key (head_bytes (asked_by c) (shape_of w)) begun.5 in
    ended_of more key w c old middle new q (more old first middle (Start c.discipline c.counter ∷ []) (copies (attested_blocks w.ranges)) begun.0 copied.0) same begins result
    (ended key (rw (same, copied.3.0) stands))

-- a full history while leading
pub lead_full : MadeMore → (w : Setting) (c : Challenge) (old new : List Entry) (place : ℕ) → HasMade old old [] → MetFull w old new (replicate c.lead Tick) place
    → (made : List Act) × IsCut w old new (measuring_program c (shape_of w)) place made × NoEnd made
lead_full more w c old new place none (made, cut, legal) = (
  made,
  cut_within more w old old new [] (replicate c.lead Tick ++ pass_acts c (shape_of w)) (closing_acts c) made place none
      (cut_within more w old old new [] (replicate c.lead Tick) (pass_acts c (shape_of w)) made place none cut),
  none_in_cut w old new (replicate c.lead Tick) place made cut (none_in_ticks c.lead),
)

-- a full history within the pass
pub pass_full : MadeMore → (w : Setting) (c : Challenge) (old middle new : List Entry) (place : ℕ) → HasMade old middle (replicate c.lead Tick)
    → (made : List Act) × IsCut w middle new (pass_acts c (shape_of w)) place made × IsLegal w new × NoEnd made
    → (made : List Act) × IsCut w old new (measuring_program c (shape_of w)) place made × NoEnd made
pass_full more w c old middle new place entries (made, cut, legal, none) = (
  replicate c.lead Tick ++ made,
  cut_within more w old middle new (replicate c.lead Tick) (pass_acts c (shape_of w)) (closing_acts c) made place entries cut,
  none_in_both (replicate c.lead Tick) made (none_in_ticks c.lead) none,
)

-- a list that went on is no shorter
no_shorter : (old new : List Entry) (acts : List Act) (place : ℕ) → HasMade old new acts → length new < place → length old < place
no_shorter old new acts place h below =
    let n : length new ≡ length old + length h.rest = ap (λ (l : List Entry). length l) h.whole ∙ length-append old h.rest in
    omega (arith, n, below)

abbrev pub ReportStands : Type 0
ReportStands = (key : List ℕ) (w : Setting) (c : Challenge) (old history : List Entry) (r : Report) → IsSetting w → IsLegal w history → length old < r.start → HasEnded key w c history r → IsReportOn key w c old history r

abbrev pub EndedLater : Type 0
EndedLater = (key : List ℕ) (w : Setting) (c : Challenge) (seen later : List Entry) (r : Report) (acts : List Act) → HasEnded key w c seen r → HasMade seen later acts → HasEnded key w c later r

-- the report, once the program has come to its end or to a full history
pub reported : ReportStands → EndedLater → (key : List ℕ) (w : Setting) (c : Challenge) (old begun middle new : List Entry) (r : Report) (acts : List Act) → IsSetting w
    → HasMade old begun (replicate c.lead Tick) → HasAttested key w c begun middle (attested.Ended r) → HasMade middle new acts → IsLegal w new → IsReportOn key w c old new r
reported stands later key w c old begun middle new r acts v led a closing legal =
    stands key w c old new r v legal (no_shorter old begun (replicate c.lead Tick) r.start led a.2) (later key w c middle new r acts a.3 closing)

-- all of it
pub whole_made : MadeMore → (key : List ℕ) (w : Setting) (c : Challenge) (old begun middle new : List Entry) (r : Report)
    → HasMade old begun (replicate c.lead Tick) → HasAttested key w c begun middle (attested.Ended r) → HasMade middle new (closing_acts c) → HasMade old new (measuring_program c (shape_of w))
whole_made more key w c old begun middle new r led a closing =
    more old middle new (replicate c.lead Tick ++ pass_acts c (shape_of w)) (closing_acts c) (more old begun middle (replicate c.lead Tick) (pass_acts c (shape_of w)) led a.0) closing

or_true : (a : Bool) → (a || true) ≡ true
or_true false = refl
or_true true = refl

-- a list has what its end has, and what its front has
any_after : (front rest : List Act) → list_any is_end rest ≡ true → list_any is_end (front ++ rest) ≡ true
any_after front rest h = list_any-append is_end front rest ∙ ap (λ b. list_any is_end front || b) h ∙ or_true (list_any is_end front)

any_before : (front rest : List Act) → list_any is_end front ≡ true → list_any is_end (front ++ rest) ≡ true
any_before front rest h = list_any-append is_end front rest ∙ ap (λ b. b || list_any is_end rest) h

-- a full history after End
pub close_full : MadeMore → ReportStands → EndedLater → (key : List ℕ) (w : Setting) (c : Challenge) (old begun middle new : List Entry) (r : Report) (place : ℕ) → IsSetting w
    → HasMade old begun (replicate c.lead Tick) → HasAttested key w c begun middle (attested.Ended r) → MetFull w middle new (closing_acts c) place
    → (made : List Act) × IsCut w old new (measuring_program c (shape_of w)) place made × ((list_any is_end made ≡ true) × IsReportOn key w c old new r)
close_full more stands later key w c old begun middle new r place v led a (made, cut, legal) =
    let before = replicate c.lead Tick ++ pass_acts c (shape_of w) in (
      before ++ made,
      subst (λ l. IsCut w old new l place (before ++ made)) (append-nil (before ++ closing_acts c))
          (cut_within more w old middle new before (closing_acts c) [] made place (more old begun middle (replicate c.lead Tick) (pass_acts c (shape_of w)) led a.0) cut),
      (
        any_before before made (any_after (replicate c.lead Tick) (pass_acts c (shape_of w)) (any_after (Start c.discipline c.counter ∷ copies (attested_blocks w.ranges)) (End ∷ []) refl)),
        reported stands later key w c old begun middle new r made v led a cut.entries legal,
      ),
    )
