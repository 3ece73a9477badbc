-- What follows from what became of a plan: the cause of a fault, the counts of faults, and the names that keep what they
-- hold.
use Rattle.std.proofs.Common.{◌≡◌, ℕ, ◌≤◌, ◌⊎◌, inl, inr, List, sym, ap, ◌∙◌, arith}
use Rattle.att_base.specs.Faults.{FaultCountRose}
use Rattle.command_plans.specs.declared.output.Ending.{Ending}
use Rattle.command_plans.specs.declared.output.Ending.TheVariants as endings
use Rattle.command_plans.specs.Lines.{full_line}
use Rattle.command_plans.specs.Written.{Written}
use Rattle.attest_top.specs.declared.status.Status.{Status}
use Rattle.attest_top.specs.declared.status.Status.TheVariants.{OutsideFault, Full, Memory}
use Rattle.attest_top.specs.Moments.{StreamView, with_appended, Moment}
use Rattle.attest_top.specs.Causes.{status_of}
use Rattle.attest_top.specs.Outcomes.{EndsSaying, whole, cut, FilesWritten, EndsAs, CarriesOut, wrote, file_failed, wants_memory, out_failed}

-- ---- the last line

-- the line was said whole, and the count of standard error is as it was; or it rose
pub said_counts : (line : List ℕ) (meant status : Status) (before after : StreamView) → EndsSaying line meant status before after
    → ((status ≡ meant) × (after.faults ≡ before.faults)) ⊎ ((status ≡ OutsideFault) × FaultCountRose before.faults after.faults)
said_counts line meant status before after (whole is grown) = inl (is, ap (λ (s : StreamView). s.faults) grown)
said_counts line meant status before after (cut is front rose) = inr (is, rose)

pub said_later : (line : List ℕ) (meant status : Status) (before after : StreamView) → EndsSaying line meant status before after → before.faults ≤ after.faults
said_later line meant status before after (whole is grown) = let same : after.faults ≡ before.faults = ap (λ (s : StreamView). s.faults) grown in omega (arith, same)
said_later line meant status before after (cut is front rose) = rose.0

-- where no fault is told, the count of standard error is as it was
pub said_quiet : (line : List ℕ) (meant status : Status) (before after : StreamView) → EndsSaying line meant status before after → (status ≡ OutsideFault → ⊥) → after.faults ≡ before.faults
said_quiet line meant status before after (whole is grown) quiet = ap (λ (s : StreamView). s.faults) grown
said_quiet line meant status before after (cut is front rose) quiet = absurd (quiet is)

-- a fault that isn't the line's own is that of standard error
pub said_cause : (line : List ℕ) (meant status : Status) (before after : StreamView) → EndsSaying line meant status before after
    → (meant ≡ OutsideFault → ⊥) → status ≡ OutsideFault → FaultCountRose before.faults after.faults
said_cause line meant status before after (whole is grown) other fault = absurd (other (sym is ∙ fault))
said_cause line meant status before after (cut is front rose) other fault = rose

-- ---- what is to be written

-- how the call ends once all is written: whole, or by a fault of standard error
ended : (ending : Ending) (status : Status) (before after : StreamView) → EndsAs ending status before after
    → ((status ≡ status_of ending) × (after.faults ≡ before.faults)) ⊎ ((status ≡ OutsideFault) × FaultCountRose before.faults after.faults)
ended endings.Accepted status before after close = inl (close.0, ap (λ (s : StreamView). s.faults) close.1)
ended endings.Refused status before after close = inl (close.0, ap (λ (s : StreamView). s.faults) close.1)
ended (endings.Full cap) status before after close = said_counts (full_line cap) Full status before after close

apart : (ending : Ending) → status_of ending ≡ OutsideFault → ⊥
apart endings.Accepted is = cc
apart endings.Refused is = cc
apart (endings.Full cap) is = cc

-- what the two cases come to
abbrev EndedSo : Ending → Status → ℕ → ℕ → Type 0
EndedSo ending status before now = ((status ≡ status_of ending) × (now ≡ before)) ⊎ ((status ≡ OutsideFault) × FaultCountRose before now)

so_cause : (ending : Ending) (status : Status) (before now : ℕ) → EndedSo ending status before now → status ≡ OutsideFault → FaultCountRose before now
so_cause ending status before now (inl both) fault = absurd (apart ending (sym both.0 ∙ fault))
so_cause ending status before now (inr both) fault = both.1

so_quiet : (ending : Ending) (status : Status) (before now : ℕ) → EndedSo ending status before now → (status ≡ OutsideFault → ⊥) → (status ≡ status_of ending) × (now ≡ before)
so_quiet ending status before now (inl both) quiet = both
so_quiet ending status before now (inr both) quiet = absurd (quiet both.0)

so_later : (ending : Ending) (status : Status) (before now : ℕ) → EndedSo ending status before now → before ≤ now
so_later ending status before now (inl both) = omega (arith, both.1)
so_later ending status before now (inr both) = both.1.0

so_status : (ending : Ending) (status : Status) (before now : ℕ) → EndedSo ending status before now → (FaultCountRose before now → ⊥) → status ≡ status_of ending
so_status ending status before now (inl both) calm = both.0
so_status ending status before now (inr both) calm = absurd (calm both.1)

pub writes_cause : (w : Written) (status : Status) (before after : Moment) → CarriesOut w status before after → status ≡ OutsideFault
    → FaultCountRose before.files.faults after.files.faults ⊎ (FaultCountRose before.out.faults after.out.faults ⊎ FaultCountRose before.err.faults after.err.faults)
writes_cause w status before after (wrote files out close) fault = inr (inr (so_cause w.ending status _ _ (ended w.ending status before.err after.err close) fault))
writes_cause w status before after (file_failed files rose out says) fault = inl rose
writes_cause w status before after (wants_memory files same out says) fault = inr (inr (said_cause _ _ status before.err after.err says (λ is. cc) fault))
writes_cause w status before after (out_failed files front rose says) fault = inr (inl rose)

-- the counts of files, of standard output and of standard error
pub record WroteQuietly (before after : Moment) : Type 0 where
  pub files : after.files.faults ≡ before.files.faults
  pub out : after.out.faults ≡ before.out.faults
  pub err : after.err.faults ≡ before.err.faults

told_fault : {A : Type 0} (line : List ℕ) (status : Status) (before after : StreamView) → EndsSaying line OutsideFault status before after → (status ≡ OutsideFault → ⊥) → A
told_fault line status before after (whole is grown) quiet = absurd (quiet is)
told_fault line status before after (cut is front rose) quiet = absurd (quiet is)

pub writes_quietly : (w : Written) (status : Status) (before after : Moment) → CarriesOut w status before after → (status ≡ OutsideFault → ⊥) → WroteQuietly before after
writes_quietly w status before after (wrote files out close) quiet =
    record { files = files.faults; out = ap (λ (s : StreamView). s.faults) out; err = (so_quiet w.ending status _ _ (ended w.ending status before.err after.err close) quiet).1 }
writes_quietly w status before after (file_failed files rose out says) quiet = told_fault _ status before.err after.err says quiet
writes_quietly w status before after (wants_memory files same out says) quiet =
    record { files = same; out = ap (λ (s : StreamView). s.faults) out; err = said_quiet _ _ status before.err after.err says quiet }
writes_quietly w status before after (out_failed files front rose says) quiet = told_fault _ status before.err after.err says quiet

pub record WroteLater (before after : Moment) : Type 0 where
  pub files : before.files.faults ≤ after.files.faults
  pub out : before.out.faults ≤ after.out.faults
  pub err : before.err.faults ≤ after.err.faults

same_later : (a b : ℕ) → b ≡ a → a ≤ b
same_later a b same = omega (arith, same)

stream_later : (before after : StreamView) → after ≡ before → before.faults ≤ after.faults
stream_later before after same = same_later before.faults after.faults (ap (λ (s : StreamView). s.faults) same)

grown_later : (piece : List ℕ) (before after : StreamView) → after ≡ with_appended piece before → before.faults ≤ after.faults
grown_later piece before after grown = same_later before.faults after.faults (ap (λ (s : StreamView). s.faults) grown)

pub writes_later : (w : Written) (status : Status) (before after : Moment) → CarriesOut w status before after → WroteLater before after
writes_later w status before after (wrote files out close) =
    record { files = same_later _ _ files.faults; out = grown_later w.out before.out after.out out; err = so_later w.ending status _ _ (ended w.ending status before.err after.err close) }
writes_later w status before after (file_failed files rose out says) =
    record { files = rose.0; out = stream_later before.out after.out out; err = said_later _ _ status before.err after.err says }
writes_later w status before after (wants_memory files same out says) =
    record { files = same_later _ _ same; out = stream_later before.out after.out out; err = said_later _ _ status before.err after.err says }
writes_later w status before after (out_failed files front rose says) =
    record { files = same_later _ _ files.faults; out = rose.0; err = said_later _ _ status before.err after.err says }

-- the status is that of the ending, or want of memory, unless something has failed
pub writes_status : (w : Written) (status : Status) (before after : Moment) → CarriesOut w status before after
    → (FaultCountRose before.files.faults after.files.faults → ⊥) → (FaultCountRose before.out.faults after.out.faults → ⊥) → (FaultCountRose before.err.faults after.err.faults → ⊥)
    → (status ≡ status_of w.ending) ⊎ (status ≡ Memory)
writes_status w status before after (wrote files out close) a b c = inl (so_status w.ending status _ _ (ended w.ending status before.err after.err close) c)
writes_status w status before after (file_failed files rose out says) a b c = absurd (a rose)
writes_status w status before after (wants_memory files same out (whole is grown)) a b c = inr is
writes_status w status before after (wants_memory files same out (cut is front rose)) a b c = absurd (c rose)
writes_status w status before after (out_failed files front rose says) a b c = absurd (b rose)

-- ---- all was written

pub record WroteAll (w : Written) (status : Status) (before after : Moment) : Type 0 where
  pub files : FilesWritten w.files before.files after.files
  pub out : after.out ≡ with_appended w.out before.out
  pub ends : status ≡ status_of w.ending

pub wrote_all : (w : Written) (status : Status) (before after : Moment) → CarriesOut w status before after → (status ≡ OutsideFault → ⊥) → (status ≡ Memory → ⊥) → WroteAll w status before after
wrote_all w status before after (wrote files out close) quiet some = record { files = files; out = out; ends = (so_quiet w.ending status _ _ (ended w.ending status before.err after.err close) quiet).0 }
wrote_all w status before after (file_failed files rose out says) quiet some = told_fault _ status before.err after.err says quiet
wrote_all w status before after (wants_memory files same out (whole is grown)) quiet some = absurd (some is)
wrote_all w status before after (wants_memory files same out (cut is front rose)) quiet some = absurd (quiet is)
wrote_all w status before after (out_failed files front rose says) quiet some = told_fault _ status before.err after.err says quiet
