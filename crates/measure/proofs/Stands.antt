-- A report that was digested block by block is on the memory of each instant of its pass.
use Rattle.std.proofs.Common.{◌≡◌, ℕ, ◌+◌, ◌<◌, List, ◌∷◌, ◌++◌, length, reverse, Some, refl, sym, ap, ◌∙◌}
use Rattle.history.specs.declared.events.Act.TheVariants.{End}
use Rattle.history.specs.declared.events.Entry.{Entry}
use Rattle.history.specs.Layout.{Setting, IsSetting}
use Rattle.history.specs.Memory.{back}
use Rattle.history.specs.Pass.{Pass, pass_after, start_of}
use Rattle.history.specs.Legal.{IsLegal}
use Rattle.history.specs.Copied.{copied_bytes}
use Rattle.history.specs.Instants.{EndsAt}
use Rattle.history.specs.Sliding.{CopiedIsMemory}
use Rattle.challenge.specs.declared.Challenge.{Challenge}
use Rattle.challenge.specs.Challenges.{asked_by}
use Rattle.chronicle.specs.Ports.{entry_by}
use Rattle.report.specs.declared.Report.{Report}
use Rattle.report.specs.Tags.{report_tag}
use Rattle.measure.specs.Measured.{IsReportOn}
use Rattle.measure.specs.Passing.{HasEnded}

abbrev pub EndsThere : Type 0
EndsThere = (history : List Entry) (entry : Entry) (more : List Entry) (pass : Pass) → pass_after (reverse history) ≡ Some pass → entry.act ≡ End → EndsAt (history ++ entry ∷ more) pass.discipline pass.counter (start_of pass) (length history + 1)

abbrev pub EndCopiesNone : Type 0
EndCopiesNone = (w : Setting) (history : List Entry) (entry : Entry) (more : List Entry) → entry.act ≡ End → copied_bytes w (back (history ++ entry ∷ more) (length history + 1)) ≡ copied_bytes w (reverse history)

-- the fact on a pass, for the challenge that it answers
same_ends : (history other : List Entry) (c : Challenge) (start end place : ℕ) (pass : Pass) → history ≡ other → pass.discipline ≡ c.discipline → pass.counter ≡ c.counter → start_of pass ≡ start → end ≡ place
    → EndsAt other pass.discipline pass.counter (start_of pass) place → EndsAt history c.discipline c.counter start end
same_ends history other c start end place pass h d n s p fact = rw (h, ← d, ← n, ← s, p) fact

ends_of : EndsThere → (key : List ℕ) (w : Setting) (c : Challenge) (history : List Entry) (r : Report) → HasEnded key w c history r → EndsAt history c.discipline c.counter r.start r.end
ends_of ends key w c history r h =
    let u = h.under_way in
    same_ends history (h.before ++ entry_by 0 End ∷ h.more) c r.start r.end (length h.before + 1) u.pass h.whole u.discipline u.counter u.began h.here
    (ends h.before (entry_by 0 End) h.more u.pass u.last refl)

copied_there : EndCopiesNone → (key : List ℕ) (w : Setting) (c : Challenge) (history : List Entry) (r : Report) (h : HasEnded key w c history r) → copied_bytes w (back history r.end) ≡ copied_bytes w (reverse h.before)
copied_there none key w c history r h = rw (h.whole, h.here) (none w h.before (entry_by 0 End) h.more refl)

pub report_on : CopiedIsMemory → EndsThere → EndCopiesNone → (key : List ℕ) (w : Setting) (c : Challenge) (old history : List Entry) (r : Report)
    → IsSetting w → IsLegal w history → length old < r.start → HasEnded key w c history r → IsReportOn key w c old history r
report_on memory ends none key w c old history r v legal begins h =
    let here = ends_of ends key w c history r h in
    record {
      discipline = h.discipline;
      counter = h.counter;
      nonce = h.nonce;
      shape = h.shape;
      begins = begins;
      ends = here;
      tag = λ place release released instant.
          h.tag ∙ ap (λ bytes. report_tag key (asked_by c) r.shape bytes r.start r.end)
          (sym (memory w v history legal c.discipline c.counter r.start r.end release here released place instant ∙ copied_there none key w c history r h));
    }
