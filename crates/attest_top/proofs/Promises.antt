-- Why the top call keeps its promise.
use Rattle.std.proofs.Common.{◌≡◌, ℕ, ◌≤◌, ◌⊎◌, inl, inr, List, [], Option, None, Some, Result, Ok, Err, IfOk, OnOk, refl, sym, ap, subst, ◌∙◌, arith}
use Rattle.att_base.specs.Faults.{FaultCountRose}
use Rattle.att_base.specs.Files.{Contents, FilesView, asked_more, CountsAbsent}
use Rattle.command_plans.specs.declared.output.Stop.{Stop}
use Rattle.command_plans.specs.declared.output.Stop.TheVariants as stops
use Rattle.command_plans.specs.Steps.{Reason, absent, failed, bad, no_memory}
use Rattle.command_plans.specs.Written.{Written}
use Rattle.command_plans.specs.Answered.{reason_of, came_of, CountsCame, Reads, CountsInput, IsQuiet}
use Rattle.executable_commands.specs.Plans.{show_plan}
use Rattle.message_commands.specs.Plans.{verify_plan}
use Rattle.device_inputs.specs.declared.setup.SetupFiles.{SetupFiles}
use Rattle.device_commands.specs.Plans.{run_plan}
use Rattle.history.specs.Layout.{IsSetting}
use Rattle.generated.specs.Generated.{generated_setup}
use Rattle.trace_commands.specs.Plans.{gen_plan}
use Rattle.attest_top.specs.declared.status.Status.{Status}
use Rattle.attest_top.specs.declared.status.Status.TheVariants.{Good, Rejected, Usage, BadInput, OutsideFault, Full, Memory}
use Rattle.attest_top.specs.Lines.{Form, script, asm, show, challenge, verify, image, sched, run, check, gen, usage_line, fault_line, no_memory_line}
use Rattle.attest_top.specs.Moments.{StreamView, Moment, NoCountFell, NoCountRose}
use Rattle.attest_top.specs.Found.{IsFound, HasOneResult}
use Rattle.attest_top.specs.Plans.{misused, planned, named_check_plan, command_plan, IsPlanFor}
use Rattle.attest_top.specs.Outcomes.{EndsSaying, whole, cut, wrote, file_failed, wants_memory, out_failed, reason_line, reason_status, ComesTo}
use Rattle.attest_top.specs.Causes.{status_of, ReadFailed, HasCause, NothingFailed, status_meant, HasStatusOf, IsComplete}
use Rattle.attest_top.specs.Headline.{AllWritten, Headline}
use Rattle.attest_top.specs.Promise.{ReadsInput, LeavesFiles, Promise}
use Rattle.attest_top.specs.Prepared.{PreparesNoFiles, ScriptFound, ReadsScript, Prepares}
use Rattle.attest_top.proofs.Becomes.{said_later, said_quiet, said_cause, writes_cause, writes_quietly, writes_later, writes_status, wrote_all, WroteAll}
use Rattle.attest_top.proofs.Kept.{others_kept}
use Rattle.attest_top.proofs.NamedChecks.{asked_nothing}
use Rattle.attest_top.proofs.OneResult.{OnePlanEach, OneSetupEach}
use Rattle.attest_top.proofs.Headlines.{script_tells, asm_tells, show_tells, no_files_shown, challenge_tells, verify_tells, no_files_verified, image_tells}
use Rattle.attest_top.proofs.RunHeadlines.{LawsOfTelling, sched_tells, run_tells}
use Rattle.attest_top.proofs.CheckHeadlines.{check_tells, no_files_checked, gen_tells, no_files_generated}
use Rattle.attest_top.proofs.RunStatus.{run_status}

-- what the laws say: what a command finds is one thing, or of `run` the files of the device; and what is written of runs
pub record LawsOfCommands : Type 0 where
  pub plans : OnePlanEach
  pub setups : OneSetupEach
  pub telling : LawsOfTelling

-- ---- the counts behind reading

-- what reading leaves of the counts of files and of standard input
abbrev ReadCounts : Form → Result Written Reason → FilesView → FilesView → StreamView → StreamView → Type 0
ReadCounts form (Ok w) old mid input left = (mid.faults ≡ old.faults) × (left.faults ≡ input.faults)
ReadCounts form (Err (bad line)) old mid input left = (mid.faults ≡ old.faults) × (left.faults ≡ input.faults)
ReadCounts form (Err no_memory) old mid input left = (mid.faults ≡ old.faults) × (left.faults ≡ input.faults)
ReadCounts form (Err absent) old mid input left = CountsAbsent old.held old.faults mid.faults × (left.faults ≡ input.faults)
ReadCounts script (Err failed) old mid input left = (mid.faults ≡ old.faults) × FaultCountRose input.faults left.faults
ReadCounts form (Err failed) old mid input left = FaultCountRose old.faults mid.faults × (left.faults ≡ input.faults)

script_counts : (result : Result Written Stop) (old mid : FilesView) (input left : StreamView) → mid ≡ old → CountsInput result input.faults left.faults
    → ReadCounts script (came_of (λ w. w) result) old mid input left
script_counts (Ok w) old mid input left same counted = (ap (λ (f : FilesView). f.faults) same, counted)
script_counts (Err stops.Absent) old mid input left same counted = absurd counted
script_counts (Err stops.Fault) old mid input left same counted = (ap (λ (f : FilesView). f.faults) same, counted)
script_counts (Err (stops.Bad line)) old mid input left same counted = (ap (λ (f : FilesView). f.faults) same, counted)
script_counts (Err stops.Memory) old mid input left same counted = (ap (λ (f : FilesView). f.faults) same, counted)

run_counts : (seed : ℕ) (result : Result Written Stop) (old mid : FilesView) (input left : StreamView) → mid ≡ old → IsQuiet result → left ≡ input → ReadCounts (gen seed) (came_of (λ w. w) result) old mid input left
run_counts seed (Ok w) old mid input left same quiet idle = (ap (λ (f : FilesView). f.faults) same, ap (λ (s : StreamView). s.faults) idle)
run_counts seed (Err stops.Absent) old mid input left same quiet idle = absurd quiet
run_counts seed (Err stops.Fault) old mid input left same quiet idle = absurd quiet
run_counts seed (Err (stops.Bad line)) old mid input left same quiet idle = (ap (λ (f : FilesView). f.faults) same, ap (λ (s : StreamView). s.faults) idle)
run_counts seed (Err stops.Memory) old mid input left same quiet idle = (ap (λ (f : FilesView). f.faults) same, ap (λ (s : StreamView). s.faults) idle)

-- the form reads files, and no input
abbrev ReadsFiles : Form → Type 0
ReadsFiles script = ⊥
ReadsFiles (asm text elf) = Unit {0}
ReadsFiles (show elf) = Unit {0}
ReadsFiles (challenge key asked out) = Unit {0}
ReadsFiles (verify verifier report noted) = Unit {0}
ReadsFiles (image device out) = Unit {0}
ReadsFiles (sched device schedule) = Unit {0}
ReadsFiles (run device) = Unit {0}
ReadsFiles (check trace key names) = Unit {0}
ReadsFiles (gen seed) = ⊥

failed_counts : (form : Form) (old mid : FilesView) (input left : StreamView) → ReadsFiles form → FaultCountRose old.faults mid.faults → left.faults ≡ input.faults → ReadCounts form (Err failed) old mid input left
failed_counts script old mid input left reads rose same = absurd reads
failed_counts (asm text elf) old mid input left reads rose same = (rose, same)
failed_counts (show elf) old mid input left reads rose same = (rose, same)
failed_counts (challenge key asked out) old mid input left reads rose same = (rose, same)
failed_counts (verify verifier report noted) old mid input left reads rose same = (rose, same)
failed_counts (image device out) old mid input left reads rose same = (rose, same)
failed_counts (sched device schedule) old mid input left reads rose same = (rose, same)
failed_counts (run device) old mid input left reads rose same = (rose, same)
failed_counts (check trace key names) old mid input left reads rose same = (rose, same)
failed_counts (gen seed) old mid input left reads rose same = absurd reads

file_counts : (form : Form) (came : Result Written Reason) (old mid : FilesView) (input left : StreamView) → ReadsFiles form → CountsCame came old.held old.faults mid.faults → left ≡ input
    → ReadCounts form came old mid input left
file_counts form (Ok w) old mid input left reads counted same = (counted, ap (λ (s : StreamView). s.faults) same)
file_counts form (Err absent) old mid input left reads counted same = (counted, ap (λ (s : StreamView). s.faults) same)
file_counts form (Err failed) old mid input left reads counted same = failed_counts form old mid input left reads counted (ap (λ (s : StreamView). s.faults) same)
file_counts form (Err (bad line)) old mid input left reads counted same = (counted, ap (λ (s : StreamView). s.faults) same)
file_counts form (Err no_memory) old mid input left reads counted same = (counted, ap (λ (s : StreamView). s.faults) same)

-- ---- what preparing found

-- the names that were asked for, by which the plan was found, and the counts
record Prepared (form : Form) (came : Result Written Reason) (old mid : FilesView) (input left : StreamView) : Type 0 where
  names : List (List ℕ)
  comes : command_plan form old.held input.bytes names came
  asked : mid.asked ≡ asked_more names old.asked
  held : mid.held ≡ old.held
  counts : ReadCounts form came old mid input left

from_files : (form : Form) (result : Result Written Stop) (old mid : FilesView) (input left : StreamView) → ReadsFiles form
    → Reads (λ w. w) (λ held. command_plan form held input.bytes) result old mid → left ≡ input → Prepared form (came_of (λ w. w) result) old mid input left
from_files form result old mid input left reads found same = record {
  names = found.names;
  comes = found.comes;
  asked = found.asked;
  held = found.same;
  counts = file_counts form (came_of (λ (w : Written). w) result) old mid input left reads found.counted same;
}

prepared : (form : Form) (result : Result Written Stop) (old mid : FilesView) (input left : StreamView) → Prepares form result old mid input left → Prepared form (came_of (λ w. w) result) old mid input left
prepared script result old mid input left found = record {
  names = [];
  comes = found.1.comes;
  asked = ap (λ (f : FilesView). f.asked) found.0 ∙ asked_nothing old.asked;
  held = ap (λ (f : FilesView). f.held) found.0;
  counts = script_counts result old mid input left found.0 found.1.counted;
}
prepared (asm text elf) result old mid input left found = from_files (asm text elf) result old mid input left tt found.0 found.1
prepared (show elf) result old mid input left found = from_files (show elf) result old mid input left tt found.0 found.1
prepared (challenge key asked out) result old mid input left found = from_files (challenge key asked out) result old mid input left tt found.0 found.1
prepared (verify verifier report noted) result old mid input left found = from_files (verify verifier report noted) result old mid input left tt found.0 found.1
prepared (image device out) result old mid input left found = from_files (image device out) result old mid input left tt found.0 found.1
prepared (sched device schedule) result old mid input left found = from_files (sched device schedule) result old mid input left tt found.0 found.1
prepared (run device) result old mid input left found = from_files (run device) result old mid input left tt found.0 found.1
prepared (check trace key names) result old mid input left found = from_files (check trace key names) result old mid input left tt found.0 found.1
prepared (gen seed) result old mid input left found = record {
  names = [];
  comes = found.1.0.comes;
  asked = ap (λ (f : FilesView). f.asked) found.0 ∙ asked_nothing old.asked;
  held = ap (λ (f : FilesView). f.held) found.0;
  counts = run_counts seed result old mid input left found.0 found.1.0.quiet found.1.1;
}

-- ---- the counts after the call

ok_counts : (form : Form) (w : Written) (old mid : FilesView) (input left : StreamView) → ReadCounts form (Ok w) old mid input left → mid.faults ≡ old.faults
ok_counts form w old mid input left counts = counts.0

-- what became of the plan, counted from the beginning of the call
from_start : (form : Form) (came : Result Written Reason) (status : Status) (before after : Moment) (mid : FilesView) → mid.held ≡ before.files.held
    → ReadCounts form came before.files mid before.input after.input → ComesTo (planned came) status (record before { files = mid }) after → ComesTo (planned came) status before after
from_start form (Ok w) status before after mid held counts (wrote files out says) =
    wrote (record { held = rw held at files.held; faults = files.faults ∙ counts.0 }) out says
from_start form (Ok w) status before after mid held counts (file_failed files rose out says) = file_failed (rw held at files) (rw counts.0 at rose) out says
from_start form (Ok w) status before after mid held counts (wants_memory files same out says) = wants_memory (rw held at files) (same ∙ counts.0) out says
from_start form (Ok w) status before after mid held counts (out_failed files front rose says) =
    out_failed (record { held = rw held at files.held; faults = files.faults ∙ counts.0 }) front rose says
from_start form (Err reason) status before after mid held counts comes = record { files = comes.files ∙ held; out = comes.out; says = comes.says }

-- a reason that is told as a fault has ended the call so
fault_ends : (line : List ℕ) (status : Status) (before after : StreamView) → EndsSaying line OutsideFault status before after → status ≡ OutsideFault
fault_ends line status before after (whole is grown) = is
fault_ends line status before after (cut is front rose) = is

-- nothing is to be written
abbrev IsErrCame : Result Written Reason → Type 0
IsErrCame (Ok w) = ⊥
IsErrCame (Err reason) = Unit {0}

stopped_idle : (result : Result Written Stop) (after mid : FilesView) → (PreparesNoFiles result → after ≡ mid) → IsErrCame (came_of (λ w. w) result) → after ≡ mid
stopped_idle (Ok w) after mid idle is = absurd is
stopped_idle (Err stop) after mid idle is = idle tt

failed_cause : (form : Form) (before after : Moment) (mid : FilesView) → after.files ≡ mid → ReadCounts form (Err failed) before.files mid before.input after.input → ReadFailed (Some form) before after
failed_cause script before after mid same counts = counts.1
failed_cause (asm text elf) before after mid same counts = rw (← ap (λ (f : FilesView). f.faults) same) at counts.0
failed_cause (show elf) before after mid same counts = rw (← ap (λ (f : FilesView). f.faults) same) at counts.0
failed_cause (challenge key asked out) before after mid same counts = rw (← ap (λ (f : FilesView). f.faults) same) at counts.0
failed_cause (verify verifier report noted) before after mid same counts = rw (← ap (λ (f : FilesView). f.faults) same) at counts.0
failed_cause (image device out) before after mid same counts = rw (← ap (λ (f : FilesView). f.faults) same) at counts.0
failed_cause (sched device schedule) before after mid same counts = rw (← ap (λ (f : FilesView). f.faults) same) at counts.0
failed_cause (run device) before after mid same counts = rw (← ap (λ (f : FilesView). f.faults) same) at counts.0
failed_cause (check trace key names) before after mid same counts = rw (← ap (λ (f : FilesView). f.faults) same) at counts.0
failed_cause (gen seed) before after mid same counts = rw (← ap (λ (f : FilesView). f.faults) same) at counts.0

-- why a fault was told
cause_of : (form : Form) (came : Result Written Reason) (status : Status) (before after : Moment) (mid : FilesView) → (IsErrCame came → after.files ≡ mid)
    → ReadCounts form came before.files mid before.input after.input → ComesTo (planned came) status before after → status ≡ OutsideFault → HasCause (Some form) (planned came) before after
cause_of form (Ok w) status before after mid idle counts comes fault = writes_cause w status before after comes fault
cause_of form (Err absent) status before after mid idle counts comes fault = rw (← ap (λ (f : FilesView). f.faults) (idle tt)) at counts.0
cause_of form (Err failed) status before after mid idle counts comes fault = failed_cause form before after mid (idle tt) counts
cause_of form (Err (bad line)) status before after mid idle counts comes fault = said_cause line BadInput status before.err after.err comes.says (λ is. cc) fault
cause_of form (Err no_memory) status before after mid idle counts comes fault = said_cause no_memory_line Memory status before.err after.err comes.says (λ is. cc) fault

-- where no fault was told, no count rose
unfailed_of : (form : Form) (came : Result Written Reason) (status : Status) (before after : Moment) (mid : FilesView) → (IsErrCame came → after.files ≡ mid)
    → ReadCounts form came before.files mid before.input after.input → ComesTo (planned came) status before after → (status ≡ OutsideFault → ⊥) → NoCountRose before after
unfailed_of form (Ok w) status before after mid idle counts comes quiet =
    let q = writes_quietly w status before after comes quiet in
    record { files = q.files; input = counts.1; out = q.out; err = q.err }
unfailed_of form (Err absent) status before after mid idle counts comes quiet = absurd (quiet (fault_ends fault_line status before.err after.err comes.says))
unfailed_of form (Err failed) status before after mid idle counts comes quiet = absurd (quiet (fault_ends fault_line status before.err after.err comes.says))
unfailed_of form (Err (bad line)) status before after mid idle counts comes quiet = record {
  files = ap (λ (f : FilesView). f.faults) (idle tt) ∙ counts.0;
  input = counts.1;
  out = ap (λ (s : StreamView). s.faults) comes.out;
  err = said_quiet line BadInput status before.err after.err comes.says quiet;
}
unfailed_of form (Err no_memory) status before after mid idle counts comes quiet = record {
  files = ap (λ (f : FilesView). f.faults) (idle tt) ∙ counts.0;
  input = counts.1;
  out = ap (λ (s : StreamView). s.faults) comes.out;
  err = said_quiet no_memory_line Memory status before.err after.err comes.says quiet;
}

-- ---- no count has fallen

absent_later : (held : Option Contents) (before now : ℕ) → CountsAbsent held before now → before ≤ now
absent_later None before now rose = rose.0
absent_later (Some known) before now same = omega (arith, same)

read_later : (form : Form) (came : Result Written Reason) (old mid : FilesView) (input left : StreamView) → ReadCounts form came old mid input left → (old.faults ≤ mid.faults) × (input.faults ≤ left.faults)
read_later form (Ok w) old mid input left counts = (omega (arith, counts.0), omega (arith, counts.1))
read_later form (Err (bad line)) old mid input left counts = (omega (arith, counts.0), omega (arith, counts.1))
read_later form (Err no_memory) old mid input left counts = (omega (arith, counts.0), omega (arith, counts.1))
read_later form (Err absent) old mid input left counts = (absent_later old.held old.faults mid.faults counts.0, omega (arith, counts.1))
read_later script (Err failed) old mid input left counts = (omega (arith, counts.0), counts.1.0)
read_later (asm text elf) (Err failed) old mid input left counts = (counts.0.0, omega (arith, counts.1))
read_later (show elf) (Err failed) old mid input left counts = (counts.0.0, omega (arith, counts.1))
read_later (challenge key asked out) (Err failed) old mid input left counts = (counts.0.0, omega (arith, counts.1))
read_later (verify verifier report noted) (Err failed) old mid input left counts = (counts.0.0, omega (arith, counts.1))
read_later (image device out) (Err failed) old mid input left counts = (counts.0.0, omega (arith, counts.1))
read_later (sched device schedule) (Err failed) old mid input left counts = (counts.0.0, omega (arith, counts.1))
read_later (run device) (Err failed) old mid input left counts = (counts.0.0, omega (arith, counts.1))
read_later (check trace key names) (Err failed) old mid input left counts = (counts.0.0, omega (arith, counts.1))
read_later (gen seed) (Err failed) old mid input left counts = (counts.0.0, omega (arith, counts.1))

later_of : (form : Form) (came : Result Written Reason) (status : Status) (before after : Moment) (mid : FilesView) → (IsErrCame came → after.files ≡ mid)
    → ReadCounts form came before.files mid before.input after.input → ComesTo (planned came) status before after → NoCountFell before after
later_of form (Ok w) status before after mid idle counts comes =
    let l = writes_later w status before after comes in
    record { files = l.files; input = omega (arith, counts.1); out = l.out; err = l.err }
later_of form (Err reason) status before after mid idle counts comes =
    let l = read_later form (Err reason) before.files mid before.input after.input counts in
    let same : after.files.faults ≡ mid.faults = ap (λ (f : FilesView). f.faults) (idle tt) in
    let out : after.out.faults ≡ before.out.faults = ap (λ (s : StreamView). s.faults) comes.out in
    record { files = omega (arith, l.0, same); input = l.1; out = omega (arith, out); err = said_later (reason_line reason) (reason_status reason) status before.err after.err comes.says }

-- ---- completeness

found_status : (w : Written) (status : Status) → (status ≡ status_of w.ending) ⊎ (status ≡ Memory) → (IsFound {A = Written} (Ok w) × (status ≡ status_meant (Ok w))) ⊎ (status ≡ Memory)
found_status w status (inl is) = inl (tt, is)
found_status w status (inr is) = inr is

said_whole : (line : List ℕ) (meant status : Status) (before after : StreamView) → EndsSaying line meant status before after → (FaultCountRose before.faults after.faults → ⊥) → status ≡ meant
said_whole line meant status before after (whole is grown) calm = is
said_whole line meant status before after (cut is front rose) calm = absurd (calm rose)

-- the status where nothing has failed: that of what was found, or want of memory
status_found : (form : Form) (came : Result Written Reason) (status : Status) (before after : Moment) → ComesTo (planned came) status before after
    → (status ≡ OutsideFault → HasCause (Some form) (planned came) before after) → NothingFailed (Some form) before after → (IsFound came × (status ≡ status_meant came)) ⊎ (status ≡ Memory)
status_found form (Ok w) status before after comes cause nothing = found_status w status (writes_status w status before after comes nothing.files nothing.out nothing.err)
status_found form (Err absent) status before after comes cause nothing = inl (tt, fault_ends fault_line status before.err after.err comes.says)
status_found form (Err failed) status before after comes cause nothing = absurd (nothing.read (cause (fault_ends fault_line status before.err after.err comes.says)))
status_found form (Err (bad line)) status before after comes cause nothing = inl (tt, said_whole line BadInput status before.err after.err comes.says nothing.err)
status_found form (Err no_memory) status before after comes cause nothing = inr (said_whole no_memory_line Memory status before.err after.err comes.says nothing.err)

meant_alike : (came found : Result Written Reason) (status : Status) → (IsFound came → came ≡ found) → (IsFound came × (status ≡ status_meant came)) ⊎ (status ≡ Memory) → (status ≡ status_meant found) ⊎ (status ≡ Memory)
meant_alike came found status same (inl both) = inl (both.1 ∙ ap status_meant (same both.0))
meant_alike came found status same (inr none) = inr none

-- of a command that finds one thing
abbrev IsCompleteAsPlanned : Form → Status → Moment → Moment → Type 0
IsCompleteAsPlanned form status before after =
    (held : Contents) (text : List ℕ) (names : List (List ℕ)) (came : Result Written Reason)
    → before.files.held ≡ Some held → before.input.bytes ≡ Some text → command_plan form (Some held) (Some text) names came → IsFound came
    → NothingFailed (Some form) before after → (status ≡ status_meant came) ⊎ (status ≡ Memory)

planned_complete : (form : Form) → ((held : Contents) (text : List ℕ) → HasOneResult (command_plan form (Some held) (Some text)))
    → (came : Result Written Reason) (names : List (List ℕ)) (status : Status) (before after : Moment)
    → command_plan form before.files.held before.input.bytes names came → ComesTo (planned came) status before after
    → (status ≡ OutsideFault → HasCause (Some form) (planned came) before after) → IsCompleteAsPlanned form status before after
planned_complete form one came names status before after is comes cause = λ held text asked found tells says plan sure nothing.
    let mine : command_plan form (Some held) (Some text) names came = rw (tells, says) at is in
    meant_alike came found status (λ mine_found. (one held text names asked came found mine plan mine_found sure).1) (status_found form came status before after comes cause nothing)

-- the status is that of what was found of the device's files
meant_by_files : (came : Result Written Reason) (read : Result SetupFiles Reason) (status : Status) → (IsFound came → HasStatusOf read (status_meant came)) → (IsFound came × (status ≡ status_meant came)) ⊎ (status ≡ Memory)
    → HasStatusOf read status ⊎ (status ≡ Memory)
meant_by_files came read status has (inl both) = inl (subst (λ (t : Status). HasStatusOf read t) (sym both.1) (has both.0))
meant_by_files came read status has (inr none) = inr none

run_complete : OneSetupEach → (device : List ℕ) (came : Result Written Reason) (names : List (List ℕ)) (status : Status) (before after : Moment)
    → run_plan device before.files.held names came → ComesTo (planned came) status before after
    → (status ≡ OutsideFault → HasCause (Some (run device)) (planned came) before after) → IsComplete (Some (run device)) status before after
run_complete one device came names status before after is comes cause = λ held asked read tells plan sure nothing.
    let mine : run_plan device (Some held) names came = rw tells at is in
    meant_by_files came read status (λ found. run_status one device held names asked came read mine found plan sure) (status_found (run device) came status before after comes cause nothing)

complete_of : LawsOfCommands → (form : Form) (came : Result Written Reason) (names : List (List ℕ)) (status : Status) (before after : Moment)
    → command_plan form before.files.held before.input.bytes names came → ComesTo (planned came) status before after
    → (status ≡ OutsideFault → HasCause (Some form) (planned came) before after) → IsComplete (Some form) status before after
complete_of l script came names status before after is comes cause = planned_complete script (l.plans script tt) came names status before after is comes cause
complete_of l (asm text elf) came names status before after is comes cause = planned_complete (asm text elf) (l.plans (asm text elf) tt) came names status before after is comes cause
complete_of l (show elf) came names status before after is comes cause = planned_complete (show elf) (l.plans (show elf) tt) came names status before after is comes cause
complete_of l (challenge key asked out) came names status before after is comes cause = planned_complete (challenge key asked out) (l.plans (challenge key asked out) tt) came names status before after is comes cause
complete_of l (verify verifier report noted) came names status before after is comes cause = planned_complete (verify verifier report noted) (l.plans (verify verifier report noted) tt) came names status before after is comes cause
complete_of l (image device out) came names status before after is comes cause = planned_complete (image device out) (l.plans (image device out) tt) came names status before after is comes cause
complete_of l (sched device schedule) came names status before after is comes cause = planned_complete (sched device schedule) (l.plans (sched device schedule) tt) came names status before after is comes cause
complete_of l (run device) came names status before after is comes cause = run_complete l.setups device came names status before after is comes cause
complete_of l (check trace key reports) came names status before after is comes cause = planned_complete (check trace key reports) (l.plans (check trace key reports) tt) came names status before after is comes cause
complete_of l (gen seed) came names status before after is comes cause = planned_complete (gen seed) (l.plans (gen seed) tt) came names status before after is comes cause

-- ---- what has been written

said_not_all : (line : List ℕ) (reason : Reason) (status : Status) (before after : StreamView) → EndsSaying line (reason_status reason) status before after → AllWritten status → ⊥
said_not_all line absent status before after says done = let e = fault_ends line status before after says in rw e at done
said_not_all line failed status before after says done = let e = fault_ends line status before after says in rw e at done
said_not_all line (bad text) status before after (whole is grown) done = rw is at done
said_not_all line (bad text) status before after (cut is front rose) done = rw is at done
said_not_all line no_memory status before after (whole is grown) done = rw is at done
said_not_all line no_memory status before after (cut is front rose) done = rw is at done

all_is : (status : Status) → AllWritten status → (status ≡ OutsideFault → ⊥) × (status ≡ Memory → ⊥)
all_is Good done = (λ is. cc, λ is. cc)
all_is Rejected done = (λ is. cc, λ is. cc)
all_is Usage done = absurd done
all_is BadInput done = absurd done
all_is OutsideFault done = absurd done
all_is Full done = (λ is. cc, λ is. cc)
all_is Memory done = absurd done

headline_wrote : LawsOfTelling → (form : Form) (result : Result Written Stop) (w : Written) (names : List (List ℕ)) (status : Status) (before after : Moment) (mid : FilesView) → result ≡ Ok w
    → Prepares form result before.files mid before.input after.input → command_plan form before.files.held before.input.bytes names (Ok w) → WroteAll w status before after → Headline (Some form) status before after
headline_wrote l script result w names status before after mid is found plan done =
    λ all. script_tells w status before after (let f : IfOk result (λ v. ScriptFound before.input.bytes v) = found.1.found in rw is at f) done
headline_wrote l (asm text elf) result w names status before after mid is found plan done = λ all. asm_tells text elf names w status before after plan done
headline_wrote l (show elf) result w names status before after mid is found plan done = λ all. show_tells elf names w status before after plan done
headline_wrote l (challenge key asked out) result w names status before after mid is found plan done = λ all. challenge_tells key asked out names w status before after plan done
headline_wrote l (verify verifier report noted) result w names status before after mid is found plan done = λ all. verify_tells verifier report noted names w status before after plan done
headline_wrote l (image device out) result w names status before after mid is found plan done = λ all. image_tells device out names w status before after plan done
headline_wrote l (sched device schedule) result w names status before after mid is found plan done = λ all. sched_tells l device schedule names w status before after plan done
headline_wrote l (run device) result w names status before after mid is found plan done = λ all. run_tells l device names w status before after plan done
headline_wrote l (check trace key reports) result w names status before after mid is found plan done = λ all. check_tells l trace key reports names w status before after plan done
headline_wrote l (gen seed) result w names status before after mid is found plan done =
    λ all. gen_tells l seed names w status before after (let s : OnOk result (IsSetting (generated_setup seed).world) = found.1.0.setting in rw is at s) plan done

headline_given : (form : Form) (status : Status) (before after : Moment) → (AllWritten status → Headline (Some form) status before after) → Headline (Some form) status before after
headline_given script status before after given = λ all. given all all
headline_given (asm text elf) status before after given = λ all. given all all
headline_given (show elf) status before after given = λ all. given all all
headline_given (challenge key asked out) status before after given = λ all. given all all
headline_given (verify verifier report noted) status before after given = λ all. given all all
headline_given (image device out) status before after given = λ all. given all all
headline_given (sched device schedule) status before after given = λ all. given all all
headline_given (run device) status before after given = λ all. given all all
headline_given (check trace key names) status before after given = λ all. given all all
headline_given (gen seed) status before after given = λ all. given all all

headline_of : LawsOfTelling → (form : Form) (result : Result Written Stop) (names : List (List ℕ)) (status : Status) (before after : Moment) (mid : FilesView)
    → Prepares form result before.files mid before.input after.input → command_plan form before.files.held before.input.bytes names (came_of (λ w. w) result)
    → ComesTo (planned (came_of (λ w. w) result)) status before after → Headline (Some form) status before after
headline_of l form (Ok w) names status before after mid found plan comes =
    headline_given form status before after (λ all. headline_wrote l form (Ok w) w names status before after mid refl found plan
    (wrote_all w status before after comes (all_is status all).0 (all_is status all).1))
headline_of l form (Err stop) names status before after mid found plan comes =
    headline_given form status before after (λ all. absurd (said_not_all (reason_line (reason_of stop)) (reason_of stop) status before.err after.err comes.says all))

-- ---- standard input

script_input : (result : Result Written Stop) (old left : StreamView) → ReadsScript result old left → ReadsInput (Some script) (planned (came_of (λ w. w) result)) old left
script_input (Ok w) old left reads = reads.left
script_input (Err stops.Absent) old left reads = reads.front
script_input (Err stops.Fault) old left reads = reads.front
script_input (Err (stops.Bad line)) old left reads = reads.left
script_input (Err stops.Memory) old left reads = reads.front

input_of : (form : Form) (result : Result Written Stop) (old mid : FilesView) (input left : StreamView) → Prepares form result old mid input left
    → ReadsInput (Some form) (planned (came_of (λ w. w) result)) input left
input_of script result old mid input left found = script_input result input left found.1
input_of (asm text elf) result old mid input left found = found.1
input_of (show elf) result old mid input left found = found.1
input_of (challenge key asked out) result old mid input left found = found.1
input_of (verify verifier report noted) result old mid input left found = found.1
input_of (image device out) result old mid input left found = found.1
input_of (sched device schedule) result old mid input left found = found.1
input_of (run device) result old mid input left found = found.1
input_of (check trace key names) result old mid input left found = found.1
input_of (gen seed) result old mid input left found = found.1.1

-- ---- files

-- what is prepared for a command that only reads has no files
show_files : (elf : List ℕ) (result : Result Written Stop) (names : List (List ℕ)) (held : Option Contents) → show_plan elf held names (came_of (λ w. w) result) → PreparesNoFiles result
show_files elf (Ok w) names held plan = no_files_shown elf names held w plan
show_files elf (Err stop) names held plan = tt

verify_files : (verifier report : List ℕ) (noted : Option (List ℕ)) (result : Result Written Stop) (names : List (List ℕ)) (held : Option Contents)
    → verify_plan verifier report noted held names (came_of (λ w. w) result) → PreparesNoFiles result
verify_files verifier report noted (Ok w) names held plan = no_files_verified verifier report noted names held w plan
verify_files verifier report noted (Err stop) names held plan = tt

check_files : (trace key : List ℕ) (reports : List (List ℕ)) (result : Result Written Stop) (names : List (List ℕ)) (held : Option Contents)
    → named_check_plan trace key reports held names (came_of (λ w. w) result) → PreparesNoFiles result
check_files trace key reports (Ok w) names held plan = no_files_checked trace key reports names held w plan
check_files trace key reports (Err stop) names held plan = tt

gen_files : (seed : ℕ) (result : Result Written Stop) (names : List (List ℕ)) → gen_plan seed names (came_of (λ w. w) result) → PreparesNoFiles result
gen_files seed (Ok w) names plan = no_files_generated seed names w plan
gen_files seed (Err stop) names plan = tt

script_files : (result : Result Written Stop) (old left : StreamView) → ReadsScript result old left → PreparesNoFiles result
script_files (Ok w) old left reads = ap (λ (v : Written). v.files) reads.found.tells.is
script_files (Err stop) old left reads = tt

leaves_files : (form : Form) (result : Result Written Stop) (names : List (List ℕ)) (old mid now : FilesView) (input left : StreamView) → Prepares form result old mid input left
    → command_plan form old.held input.bytes names (came_of (λ w. w) result) → (PreparesNoFiles result → now ≡ mid) → LeavesFiles (Some form) old now
leaves_files script result names old mid now input left found plan idle = idle (script_files result input left found.1) ∙ found.0
leaves_files (asm text elf) result names old mid now input left found plan idle = tt
leaves_files (show elf) result names old mid now input left found plan idle = ap (λ (f : FilesView). f.held) (idle (show_files elf result names old.held plan)) ∙ found.0.same
leaves_files (challenge key asked out) result names old mid now input left found plan idle = tt
leaves_files (verify verifier report noted) result names old mid now input left found plan idle =
    ap (λ (f : FilesView). f.held) (idle (verify_files verifier report noted result names old.held plan)) ∙ found.0.same
leaves_files (image device out) result names old mid now input left found plan idle = tt
leaves_files (sched device schedule) result names old mid now input left found plan idle = tt
leaves_files (run device) result names old mid now input left found plan idle = tt
leaves_files (check trace key reports) result names old mid now input left found plan idle =
    ap (λ (f : FilesView). f.held) (idle (check_files trace key reports result names old.held plan)) ∙ found.0.same
leaves_files (gen seed) result names old mid now input left found plan idle = idle (gen_files seed result names plan) ∙ found.0

pub promise_kept : LawsOfCommands → (form : Form) (result : Result Written Stop) (status : Status) (before after : Moment) (mid : FilesView)
    → Prepares form result before.files mid before.input after.input → ComesTo (planned (came_of (λ w. w) result)) status (record before { files = mid }) after
    → after.files.asked ≡ mid.asked → (PreparesNoFiles result → after.files ≡ mid) → Promise (Some form) before after status
unfolding IsPlanFor
promise_kept laws form result status before after mid found comes asked idle =
    let came : Result Written Reason = came_of (λ (w : Written). w) result in
    let p = prepared form result before.files mid before.input after.input found in
    let became = from_start form came status before after mid p.held p.counts comes in
    let none = stopped_idle result after.files mid idle in
    let cause = cause_of form came status before after mid none p.counts became in
    record {
      plan = planned came;
      names = p.names;
      is = p.comes;
      asked = asked ∙ p.asked;
      comes = became;
      cause = cause;
      unfailed = unfailed_of form came status before after mid none p.counts became;
      complete = complete_of laws form came p.names status before after p.comes became cause;
      headline = headline_of laws.telling form result p.names status before after mid found p.comes became;
      input = input_of form result before.files mid before.input after.input found;
      others = others_kept (planned came) status before after became;
      files = leaves_files form result p.names before.files mid after.files before.input after.input found p.comes idle;
      later = later_of form came status before after mid none p.counts became;
    }

usage_not_all : (status : Status) (before after : StreamView) → EndsSaying usage_line Usage status before after → AllWritten status → ⊥
usage_not_all status before after (whole is grown) done = rw is at done
usage_not_all status before after (cut is front rose) done = rw is at done

-- words that are in no form
pub usage_kept : (status : Status) (before after : Moment) → after.files ≡ before.files → after.input ≡ before.input → after.out ≡ before.out
    → EndsSaying usage_line Usage status before.err after.err → Promise None before after status
unfolding IsPlanFor
usage_kept status before after files input out says = record {
  plan = misused;
  names = [];
  is = (refl, refl);
  asked = ap (λ (f : FilesView). f.asked) files ∙ asked_nothing before.files.asked;
  comes = record { files = ap (λ (f : FilesView). f.held) files; out = out; says = says };
  cause = λ fault. said_cause usage_line Usage status before.err after.err says (λ is. cc) fault;
  unfailed = λ quiet. record {
    files = ap (λ (f : FilesView). f.faults) files;
    input = ap (λ (s : StreamView). s.faults) input;
    out = ap (λ (s : StreamView). s.faults) out;
    err = said_quiet usage_line Usage status before.err after.err says quiet;
  };
  complete = λ nothing. said_whole usage_line Usage status before.err after.err says nothing.err;
  headline = λ all. usage_not_all status before.err after.err says all;
  input = input;
  others = others_kept misused status before after (record { files = ap (λ (f : FilesView). f.held) files; out = out; says = says });
  files = files;
  later = record {
    files = let e : after.files.faults ≡ before.files.faults = ap (λ (f : FilesView). f.faults) files in omega (arith, e);
    input = let e : after.input.faults ≡ before.input.faults = ap (λ (s : StreamView). s.faults) input in omega (arith, e);
    out = let e : after.out.faults ≡ before.out.faults = ap (λ (s : StreamView). s.faults) out in omega (arith, e);
    err = said_later usage_line Usage status before.err after.err says;
  };
}
