-- End, and what comes after it.
use Rattle.std.proofs.Common.{◌≡◌, ℕ, true, false, List, [], ◌∷◌, ◌++◌, length, reverse, replicate, refl, sym, ap, ◌∙◌, subst}
use Rattle.std.proofs.lemmas.List.{length-append, reverse-append}
use Rattle.std.proofs.Math.Seq.{take-length}
use Rattle.history.specs.declared.events.Act.TheVariants.{End, Tick, Release}
use Rattle.history.specs.declared.events.Entry.{Entry}
use Rattle.history.specs.Attested.{total}
use Rattle.history.specs.Layout.{Setting}
use Rattle.history.specs.Memory.{back}
use Rattle.history.specs.Pass.{is_extended}
use Rattle.history.specs.Legal.{IsLegal}
use Rattle.history.specs.Copied.{copied_bytes}
use Rattle.challenge.specs.declared.Challenge.{Challenge}
use Rattle.challenge.specs.Challenges.{asked_by}
use Rattle.chronicle.specs.Ports.{AddsEntry, IsDone, IsFull, IsMeasurer, entry_by}
use Rattle.report.specs.declared.Report.{Report}
use Rattle.report.specs.declared.Note.{Note}
use Rattle.report.specs.Tags.{report_tag, note_tag}
use Rattle.measure.specs.declared.passing.Passing.{Passing}
use Rattle.measure.specs.declared.passing.Attested.TheVariants as attested
use Rattle.measure.specs.declared.passing.Closed.TheVariants as closed
use Rattle.measure.specs.Program.{HasMade, IsCut, closing_acts}
use Rattle.measure.specs.Measured.{IsNoteOn}
use Rattle.measure.specs.Passing.{EndsHere, HasClosed, IsEnded, IsPassing, IsUnderWay, MetFull, ReleasesHere, report_with}
use Rattle.measure.proofs.Parts.{MadeAdded, MadeMore, MadeOthers, cut_there, cut_within, own_adds}

abbrev pub Ends : Type 0
Ends = (w : Setting) (old new : List Entry) (c : Challenge) (start : ℕ) → IsLegal w new → AddsEntry 0 1 old new (entry_by 0 End) → IsUnderWay w old c start (total w.ranges) false → EndsHere w old new c start

abbrev pub Releases : Type 0
Releases = (w : Setting) (old new : List Entry) (c : Challenge) (start : ℕ) → IsLegal w new → AddsEntry 0 1 old new (entry_by 0 Release) → IsUnderWay w old c start (total w.ranges) true → ReleasesHere new c start

pub ended_on : MadeAdded → Ends → (key : List ℕ) (w : Setting) (low high : ℕ) → IsMeasurer low high → (old new : List Entry) (p : Passing) (place : ℕ) (tag : List ℕ)
    → IsLegal w new → IsDone low high old new End place → IsPassing w old (total w.ranges) p
    → tag ≡ report_tag key (asked_by p.challenge) p.shape (copied_bytes w (reverse old)) p.start place
    → IsEnded key w p old new (attested.Ended (report_with p place tag))
ended_on added ends key w low high m old new p place tag legal done passing tagged =
    let adds = own_adds low high m old new End done.0 in
    let e = ends w old new p.challenge p.start legal adds passing.1 in (
      added old new End adds,
      legal,
      refl,
      record {
        discipline = refl;
        counter = refl;
        nonce = refl;
        shape = passing.0;
        before = e.before;
        more = [];
        whole = e.last;
        here = done.1 ∙ ap (λ (l : List Entry). length l) e.last ∙ length-append e.before (entry_by 0 End ∷ []);
        under_way = e.under_way;
        tag = tagged ∙ ap (λ bytes. report_tag key (asked_by p.challenge) p.shape bytes p.start place) (sym e.bytes);
      },
      e.ended,
    )

-- in an extended discipline Ticks and Release come after End
closing_is : (c : Challenge) → is_extended c.discipline ≡ true → closing_acts c ≡ replicate c.hold Tick ++ (Release ∷ [])
closing_is c extended = rw extended refl

-- a full history while holding
pub hold_full : MadeMore → (w : Setting) (c : Challenge) (none : (history : List Entry) → HasMade history history []) (old new : List Entry) (place : ℕ)
    → is_extended c.discipline ≡ true → MetFull w old new (replicate c.hold Tick) place → MetFull w old new (closing_acts c) place
hold_full more w c none old new place extended (made, cut, legal) = (
  made,
  subst (λ l. IsCut w old new l place made) (sym (closing_is c extended)) (cut_within more w old old new [] (replicate c.hold Tick) (Release ∷ []) made place (none old) cut),
  legal,
)

-- a full history at Release
pub release_full : MadeMore → MadeOthers → (w : Setting) (c : Challenge) (low high : ℕ) → IsMeasurer low high → (first old new : List Entry) (place : ℕ)
    → is_extended c.discipline ≡ true → HasMade first old (replicate c.hold Tick) → IsLegal w new → IsFull w low high old new place → MetFull w first new (closing_acts c) place
release_full more others w c low high m first old new place extended entries legal full = (
  replicate c.hold Tick,
  cut_there more others w low high m first old new (closing_acts c) (replicate c.hold Tick) [] Release place (closing_is c extended) entries full,
  legal,
)

-- the note on a Release that was made
pub noted_on : Releases → (key : List ℕ) (w : Setting) (c : Challenge) (r : Report) (old new : List Entry) (n : Note)
    → IsUnderWay w old c r.start (total w.ranges) true → IsLegal w new → AddsEntry 0 1 old new (entry_by 0 Release) → n.release ≡ length new
    → n.counter ≡ r.counter → n.start ≡ r.start → n.end ≡ r.end → n.tag ≡ note_tag key r.counter r.start r.end n.release r.tag
    → IsNoteOn key c new r n
noted_on releases key w c r old new n u legal adds here counter start end tagged =
    let e = releases w old new c r.start legal adds u in
    record {
      counter = counter;
      start = start;
      end = end;
      past = reverse e.before;
      here = ap (back new) here ∙ ap reverse (take-length new) ∙ ap reverse e.last ∙ reverse-append e.before (entry_by 0 Release ∷ []);
      releases = rw here e.releases;
      tag = rw (counter, start, end) tagged;
    }

-- Release, and the note on it
pub released_on : MadeMore → MadeAdded → Releases → (key : List ℕ) (w : Setting) (c : Challenge) (r : Report) (low high : ℕ) → IsMeasurer low high → (first old new : List Entry) (n : Note)
    → is_extended c.discipline ≡ true → HasMade first old (replicate c.hold Tick) → IsUnderWay w old c r.start (total w.ranges) true → IsLegal w new → IsDone low high old new Release n.release
    → n.counter ≡ r.counter → n.start ≡ r.start → n.end ≡ r.end → n.tag ≡ note_tag key r.counter r.start r.end n.release r.tag
    → HasClosed key w c r first new (closed.Released n)
released_on more added releases key w c r low high m first old new n extended entries u legal done counter start end tagged =
    let adds = own_adds low high m old new Release done.0 in (
      subst (HasMade first new) (sym (closing_is c extended)) (more first old new (replicate c.hold Tick) (Release ∷ []) entries (added old new Release adds)),
      legal,
      extended,
      noted_on releases key w c r old new n u legal adds done.1 counter start end tagged,
      done.1,
    )
