-- What each command's output is worth, from its plan.
use Rattle.std.proofs.Common.{◌≡◌, ℕ, List, [], ◌∷◌, All, Bool, true, false, if◌then◌else◌, ◌&&◌, Option, None, Some, Result, Ok, Err, IsOk, refl, ap, ◌∙◌}
use Rattle.std.proofs.lemmas.List.{append-nil}
use Rattle.std.proofs.lemmas.List.Elements.{All-nil, All-cons}
use Rattle.att_base.specs.Streams.{put_after}
use Rattle.att_base.specs.Files.{Contents}
use Rattle.challenge.specs.declared.Challenge.{Challenge}
use Rattle.executable.specs.declared.Program.{Program as Executable}
use Rattle.rv_asm.specs.Gives.{Spot}
use Rattle.rv_asm.specs.Assembled.{assembled}
use Rattle.elf32.specs.Files.{Executable as ElfFile, elf_of}
use Rattle.elf32.specs.declared.faults.ElfFault.{ElfFault}
use Rattle.listing.specs.Listing.{listing_of}
use Rattle.report.specs.Reports.{report_in}
use Rattle.verifier.specs.declared.verdicts.Verdict.{Verdict}
use Rattle.verifier.specs.declared.verdicts.NoteVerdict.{NoteVerdict}
use Rattle.verifier.specs.Verdicts.{verdict_of}
use Rattle.script.specs.Steps.{meets_full}
use Rattle.command_plans.specs.declared.output.Ending.TheVariants as endings
use Rattle.command_plans.specs.Steps.{Reason, exactly, Then}
use Rattle.command_plans.specs.Reading.{input_limit, ReadFile}
use Rattle.command_plans.specs.Written.{Written}
use Rattle.executable_commands.specs.Plans.{asm_plan, checked_assembly, written_assembly, show_plan, checked_listing}
use Rattle.message_commands.specs.Lines.{verdict_lines}
use Rattle.input_files.specs.InputFiles.{checked_key, KeyIn}
use Rattle.message_commands.specs.Plans.{written_challenge, challenge_plan, Knowledge, KnowledgeIn, ReadNote, accepts, accepts_note, verdict_on_note, judgement, verify_plan}
use Rattle.device_config.specs.declared.plans.AppPlan.{AppPlan}
use Rattle.device_config.specs.declared.plans.DevicePlan.{DevicePlan}
use Rattle.device_config.specs.Files.{device_file}
use Rattle.loader.specs.declared.placed.Placed.{Placed}
use Rattle.loader.specs.declared.faults.PlaceFault.{PlaceFault}
use Rattle.loader.specs.declared.faults.PlaceFault.TheVariants.{OutsideMemory, Overlap, EntryOutside, Memory as NoMemory}
use Rattle.loader.specs.Placing.{placed}
use Rattle.device_inputs.specs.Lists.{ReadEach}
use Rattle.device_inputs.specs.Inputs.{checked_device, DeviceIn, if_sound, AppFileIn, AppFilesIn, checked_placing, PlacedIn}
use Rattle.device_commands.specs.Plans.{attested_image, written_image, image_plan}
use Rattle.attest_top.specs.declared.status.Status.{Status}
use Rattle.attest_top.specs.declared.status.Status.TheVariants.{Good, Rejected, Full}
use Rattle.attest_top.specs.Moments.{Moment, StreamView, stream_view, with_appended}
use Rattle.attest_top.specs.Causes.{status_of}
use Rattle.attest_top.specs.Headline.{HasBytes, ScriptTells, AsmTells, ShowTells, ChallengeTells, VerifyTells, AppsHaveBytes, ImageTells}
use Rattle.attest_top.specs.Prepared.{ScriptFound}
use Rattle.attest_top.proofs.Becomes.{WroteAll}
use Rattle.attest_top.proofs.Inverse.{through, known_gave, file_read, put_held}

-- ---- `script`

full_status : (t : Bool) (cap : ℕ) → status_of (if t then endings.Full cap else endings.Accepted) ≡ (if t then Full else Good)
full_status true cap = refl
full_status false cap = refl

pub script_tells : (w : Written) (status : Status) (before after : Moment) → ScriptFound before.input.bytes w → WroteAll w status before after → ScriptTells status before after
script_tells w status before after found wrote =
    let tells = found.tells in
    let program = tells.program in
    record {
      text = found.text;
      left = found.left;
      program = program;
      said = tells.said;
      ends = wrote.ends ∙ ap (λ (v : Written). status_of v.ending) tells.is ∙ full_status (meets_full program.setting [] program.steps) program.setting.cap;
      grown = wrote.out ∙ ap (λ (v : Written). with_appended v.out before.out) tells.is;
      attested = tells.attested;
      released = tells.released;
    }

-- ---- `asm`

record Assembles (source elf : List ℕ) (w : Written) : Type 0 where
  program : Executable
  said : assembled source ≡ Ok program
  is : w ≡ written_assembly elf program

assembles : (text source elf : List ℕ) (w : Written) → checked_assembly text elf (assembled source) ≡ Ok w → Assembles source elf w
assembles text source elf w =
    elim (assembled source) as (λ (r : Result Executable Spot). assembled source ≡ r → checked_assembly text elf r ≡ Ok w → Assembles source elf w) [
      | Ok program ↦ λ said told. record { program = program; said = said; is = cc }
      | Err spot ↦ λ said told. cc
    ] refl

pub asm_tells : (text elf : List ℕ) (names : List (List ℕ)) (w : Written) (status : Status) (before after : Moment) → asm_plan text elf before.files.held names (Ok w)
    → WroteAll w status before after → AsmTells text elf status before after
unfolding asm_plan
asm_tells text elf names w status before after plan wrote =
    let t = through (ReadFile input_limit text before.files.held) (λ (source : List ℕ). exactly (checked_assembly text elf (assembled source))) names w plan in
    let a = assembles text t.value elf w (known_gave (checked_assembly text elf (assembled t.value)) t.behind w t.follows) in
    record {
      source = t.value;
      read = file_read input_limit text before.files.held t.before t.value t.is;
      program = a.program;
      said = a.said;
      ends = wrote.ends ∙ ap (λ (v : Written). status_of v.ending) a.is;
      file = put_held before.files.held after.files.held elf _ (rw a.is at wrote.files.held);
      grown = wrote.out ∙ ap (λ (v : Written). with_appended v.out before.out) a.is;
    }

-- ---- `show`

-- the executable of the bytes, whose listing is printed
record Shows (bytes : List ℕ) (w : Written) : Type 0 where
  file : ElfFile
  said : elf_of bytes ≡ Ok file
  is : w ≡ record { files = []; out = listing_of file.segments; ending = endings.Accepted }

shows : (name bytes : List ℕ) (w : Written) → checked_listing name (elf_of bytes) ≡ Ok w → Shows bytes w
shows name bytes w =
    elim (elf_of bytes) as (λ (r : Result ElfFile ElfFault). elf_of bytes ≡ r → checked_listing name r ≡ Ok w → Shows bytes w) [
      | Ok file ↦ λ said told. record { file = file; said = said; is = cc }
      | Err fault ↦ λ said told. cc
    ] refl

pub show_tells : (elf : List ℕ) (names : List (List ℕ)) (w : Written) (status : Status) (before after : Moment) → show_plan elf before.files.held names (Ok w)
    → WroteAll w status before after → ShowTells elf status before after
unfolding show_plan
show_tells elf names w status before after plan wrote =
    let t = through (ReadFile input_limit elf before.files.held) (λ (bytes : List ℕ). exactly (checked_listing elf (elf_of bytes))) names w plan in
    let s = shows elf t.value w (known_gave (checked_listing elf (elf_of t.value)) t.behind w t.follows) in
    record {
      bytes = t.value;
      read = file_read input_limit elf before.files.held t.before t.value t.is;
      file = s.file;
      said = s.said;
      ends = wrote.ends ∙ ap (λ (v : Written). status_of v.ending) s.is;
      grown = wrote.out ∙ ap (λ (v : Written). with_appended v.out before.out) s.is;
    }

pub no_files_shown : (elf : List ℕ) (names : List (List ℕ)) (held : Option Contents) (w : Written) → show_plan elf held names (Ok w) → w.files ≡ []
unfolding show_plan
no_files_shown elf names held w plan =
    let t = through (ReadFile input_limit elf held) (λ (bytes : List ℕ). exactly (checked_listing elf (elf_of bytes))) names w plan in
    ap (λ (v : Written). v.files) (shows elf t.value w (known_gave (checked_listing elf (elf_of t.value)) t.behind w t.follows)).is

-- ---- `challenge`

tested_key : (t : Bool) (bytes key : List ℕ) (reason : Reason) → (if t then Ok bytes else Err reason) ≡ Ok key → bytes ≡ key
tested_key true bytes key reason is = cc
tested_key false bytes key reason is = cc

pub key_read : (name : List ℕ) (files : Option Contents) (asked : List (List ℕ)) (key : List ℕ) → KeyIn name files asked (Ok key) → HasBytes files name key
unfolding KeyIn checked_key
key_read name files asked key is =
    let t = through (ReadFile input_limit name files) (λ (bytes : List ℕ). exactly (checked_key name bytes)) asked key is in
    let same : t.value ≡ key = tested_key _ t.value key _ (known_gave (checked_key name t.value) t.behind key t.follows) in
    λ known tells. file_read input_limit name files t.before t.value t.is known tells ∙ ap (λ (b : List ℕ). Some b) same

pub challenge_tells : (key : List ℕ) (asked : Challenge) (out : List ℕ) (names : List (List ℕ)) (w : Written) (status : Status) (before after : Moment)
    → challenge_plan key asked out before.files.held names (Ok w) → WroteAll w status before after → ChallengeTells key asked out status before after
unfolding challenge_plan
challenge_tells key asked out names w status before after plan wrote =
    let t = through (KeyIn key before.files.held) (λ (bytes : List ℕ). exactly (Ok (written_challenge bytes asked out))) names w plan in
    let known = known_gave {A = Written} (Ok (written_challenge t.value asked out)) t.behind w t.follows in
    let is : w ≡ written_challenge t.value asked out = cc in
    record {
      bytes = t.value;
      read = key_read key before.files.held t.before t.value t.is;
      ends = wrote.ends ∙ ap (λ (v : Written). status_of v.ending) is;
      file = put_held before.files.held after.files.held out _ (rw is at wrote.files.held);
      grown = wrote.out ∙ ap (λ (v : Written). with_appended v.out before.out) is;
    }

-- ---- `verify`

pub verdict_status : (t : Bool) → status_of (if t then endings.Accepted else endings.Refused) ≡ (if t then Good else Rejected)
verdict_status true = refl
verdict_status false = refl

-- what was read, and what it is judged as
record Judged (verifier report : List ℕ) (noted : Option (List ℕ)) (held : Option Contents) (w : Written) : Type 0 where
  known : Knowledge
  names : List (List ℕ)
  learned : KnowledgeIn verifier held names (Ok known)
  bytes : List ℕ
  read : HasBytes held report bytes
  note : Option (List ℕ)
  note_names : List (List ℕ)
  note_read : ReadNote noted held note_names (Ok note)
  is : w ≡ judgement known bytes note

judged : (verifier report : List ℕ) (noted : Option (List ℕ)) (names : List (List ℕ)) (held : Option Contents) (w : Written) → verify_plan verifier report noted held names (Ok w) → Judged verifier report noted held w
unfolding verify_plan
judged verifier report noted names held w plan =
    let t = through (KnowledgeIn verifier held) (λ (known : Knowledge). Then (ReadFile input_limit report held) (λ (bytes : List ℕ). Then (ReadNote noted held) (λ (written : Option (List ℕ)). exactly (Ok (judgement known bytes written))))) names w plan in
    let u = through (ReadFile input_limit report held) (λ (bytes : List ℕ). Then (ReadNote noted held) (λ (written : Option (List ℕ)). exactly (Ok (judgement t.value bytes written)))) t.behind w t.follows in
    let n = through (ReadNote noted held) (λ (written : Option (List ℕ)). exactly (Ok (judgement t.value u.value written))) u.behind w u.follows in
    let known = known_gave {A = Written} (Ok (judgement t.value u.value n.value)) n.behind w n.follows in
    record {
      known = t.value;
      names = t.before;
      learned = t.is;
      bytes = u.value;
      read = file_read input_limit report held u.before u.value u.is;
      note = n.value;
      note_names = n.before;
      note_read = n.is;
      is = cc;
    }

judged_status : (known : Knowledge) (bytes : List ℕ) (release : Option (List ℕ)) (v : Verdict) (on_note : Option NoteVerdict) → v ≡ verdict_of known.standing known.images bytes
    → on_note ≡ verdict_on_note known.standing.key v (report_in bytes) release → status_of (judgement known bytes release).ending ≡ (if accepts v && accepts_note on_note then Good else Rejected)
unfolding judgement
judged_status known bytes release v on_note is note_is = rw (note_is, is) (verdict_status _)

judged_out : (known : Knowledge) (bytes : List ℕ) (release : Option (List ℕ)) (v : Verdict) (on_note : Option NoteVerdict) → v ≡ verdict_of known.standing known.images bytes
    → on_note ≡ verdict_on_note known.standing.key v (report_in bytes) release → (judgement known bytes release).out ≡ verdict_lines known.images v on_note
unfolding judgement
judged_out known bytes release v on_note is note_is = rw (note_is, is) refl

pub verify_tells : (verifier report : List ℕ) (noted : Option (List ℕ)) (names : List (List ℕ)) (w : Written) (status : Status) (before after : Moment)
    → verify_plan verifier report noted before.files.held names (Ok w) → WroteAll w status before after → VerifyTells verifier report noted status before after
verify_tells verifier report noted names w status before after plan wrote =
    let j = judged verifier report noted names before.files.held w plan in
    let v : Verdict = verdict_of j.known.standing j.known.images j.bytes in
    let on_note : Option NoteVerdict = verdict_on_note j.known.standing.key v (report_in j.bytes) j.note in
    record {
      known = j.known;
      names = j.names;
      learned = j.learned;
      bytes = j.bytes;
      read = j.read;
      note = j.note;
      note_names = j.note_names;
      note_read = j.note_read;
      verdict = v;
      judged = refl;
      note_verdict = on_note;
      note_is_judged = refl;
      ends = wrote.ends ∙ ap (λ (x : Written). status_of x.ending) j.is ∙ judged_status j.known j.bytes j.note v on_note refl refl;
      grown = wrote.out ∙ ap (λ (x : Written). with_appended x.out before.out) j.is ∙ ap (λ (piece : List ℕ). with_appended piece before.out) (judged_out j.known j.bytes j.note v on_note refl refl);
    }

no_files_judged : (known : Knowledge) (bytes : List ℕ) (release : Option (List ℕ)) → (judgement known bytes release).files ≡ []
unfolding judgement
no_files_judged known bytes release = refl

pub no_files_verified : (verifier report : List ℕ) (noted : Option (List ℕ)) (names : List (List ℕ)) (held : Option Contents) (w : Written) → verify_plan verifier report noted held names (Ok w) → w.files ≡ []
no_files_verified verifier report noted names held w plan =
    let j = judged verifier report noted names held w plan in
    ap (λ (v : Written). v.files) j.is ∙ no_files_judged j.known j.bytes j.note

-- ---- `image`

pub record DeviceRead (device : List ℕ) (held : Option Contents) (plan : DevicePlan) : Type 0 where
  pub text : List ℕ
  pub read : HasBytes held device text
  pub said : device_file text ≡ Ok plan

device_said : (name : List ℕ) (said : Result DevicePlan ℕ) (plan : DevicePlan) → checked_device name said ≡ Ok plan → said ≡ Ok plan
device_said name (Ok known) plan is = cc
device_said name (Err rule) plan is = absurd cc

pub device_read : (device : List ℕ) (held : Option Contents) (asked : List (List ℕ)) (plan : DevicePlan) → DeviceIn device held asked (Ok plan) → DeviceRead device held plan
unfolding DeviceIn
device_read device held asked plan is =
    let t = through (ReadFile input_limit device held) (λ (text : List ℕ). exactly (checked_device device (device_file text))) asked plan is in
    record {
      text = t.value;
      read = file_read input_limit device held t.before t.value t.is;
      said = device_said device (device_file t.value) plan (known_gave (checked_device device (device_file t.value)) t.behind plan t.follows);
    }

-- the file of one application, and those of others
record AppRead (held : Option Contents) (app : AppPlan) (bytes : List ℕ) : Type 0 where
  read : HasBytes held app.file bytes
  sound : IsOk (elf_of bytes)

record AppsRead (held : Option Contents) (apps : List AppPlan) (files : List (List ℕ)) : Type 0 where
  read : AppsHaveBytes held apps files
  sound : All (λ file. IsOk (elf_of file)) files

sound_bytes : (name bytes given : List ℕ) (file : Result ElfFile ElfFault) → elf_of bytes ≡ file → if_sound name bytes file ≡ Ok given → (bytes ≡ given) × IsOk (elf_of bytes)
sound_bytes name bytes given (Ok file) said is = (cc, let fine : IsOk {T = ElfFile} {E = ElfFault} (Ok file) = refl in rw said fine)
sound_bytes name bytes given (Err fault) said is = absurd cc

app_read : (held : Option Contents) (app : AppPlan) (asked : List (List ℕ)) (bytes : List ℕ) → AppFileIn app held asked (Ok bytes) → AppRead held app bytes
unfolding AppFileIn
app_read held app asked bytes is =
    let t = through (ReadFile input_limit app.file held) (λ (found : List ℕ). exactly (if_sound app.file found (elf_of found))) asked bytes is in
    let both = sound_bytes app.file t.value bytes (elf_of t.value) refl (known_gave (if_sound app.file t.value (elf_of t.value)) t.behind bytes t.follows) in
    let whole : AppRead held app t.value = record { read = file_read input_limit app.file held t.before t.value t.is; sound = both.1 } in
    rw both.0 at whole

apps_read : (held : Option Contents) (apps : List AppPlan) (asked : List (List ℕ)) (files : List (List ℕ)) → ReadEach AppFileIn apps held asked (Ok files) → AppsRead held apps files
apps_read held [] asked files is =
    let known = known_gave {A = List (List ℕ)} (Ok []) asked files is in
    let none : [] ≡ files = cc in
    let whole : AppsRead held [] [] = record { read = tt; sound = All-nil (λ (file : List ℕ). IsOk (elf_of file)) } in
    rw none at whole
apps_read held (app ∷ apps) asked files is =
    let t = through (AppFileIn app held) (λ (bytes : List ℕ). Then (ReadEach AppFileIn apps held) (λ (rest : List (List ℕ)). exactly (Ok (bytes ∷ rest)))) asked files is in
    let u = through (ReadEach AppFileIn apps held) (λ (rest : List (List ℕ)). exactly (Ok (t.value ∷ rest))) t.behind files t.follows in
    let known = known_gave {A = List (List ℕ)} (Ok (t.value ∷ u.value)) u.behind files u.follows in
    let all : t.value ∷ u.value ≡ files = cc in
    let one = app_read held app t.before t.value t.is in
    let more = apps_read held apps u.before u.value u.is in
    let whole : AppsRead held (app ∷ apps) (t.value ∷ u.value) = record { read = (one.read, more.read); sound = All-cons (λ (file : List ℕ). IsOk (elf_of file)) t.value u.value one.sound more.sound } in
    rw all at whole

-- the applications in memory
record PlacedRead (held : Option Contents) (plan : DevicePlan) (memory : Placed) : Type 0 where
  apps : List (List ℕ)
  read : AppsRead held plan.apps apps
  is : placed plan.geometry apps ≡ Ok memory

placed_said : (device : List ℕ) (found : Result Placed PlaceFault) (memory : Placed) → checked_placing device found ≡ Ok memory → found ≡ Ok memory
placed_said device (Ok known) memory is = cc
placed_said device (Err (OutsideMemory app segment)) memory is = absurd cc
placed_said device (Err (Overlap app segment with_app with_segment)) memory is = absurd cc
placed_said device (Err (EntryOutside app)) memory is = absurd cc
placed_said device (Err NoMemory) memory is = absurd cc

placed_read : (device : List ℕ) (plan : DevicePlan) (held : Option Contents) (asked : List (List ℕ)) (memory : Placed) → PlacedIn device plan held asked (Ok memory) → PlacedRead held plan memory
unfolding PlacedIn
placed_read device plan held asked memory is =
    let t = through (AppFilesIn plan.apps held) (λ (apps : List (List ℕ)). exactly (checked_placing device (placed plan.geometry apps))) asked memory is in
    record {
      apps = t.value;
      read = apps_read held plan.apps t.before t.value t.is;
      is = placed_said device (placed plan.geometry t.value) memory (known_gave (checked_placing device (placed plan.geometry t.value)) t.behind memory t.follows);
    }

put_nothing : (bytes : Option (List ℕ)) → put_after bytes [] ≡ bytes
put_nothing None = refl
put_nothing (Some held) = ap (λ (h : List ℕ). Some h) (append-nil held)

nothing_appended : (stream : StreamView) → with_appended [] stream ≡ stream
nothing_appended stream = ap (λ (bytes : Option (List ℕ)). stream_view bytes stream.faults) (put_nothing stream.bytes)

pub image_tells : (device out : List ℕ) (names : List (List ℕ)) (w : Written) (status : Status) (before after : Moment) → image_plan device out before.files.held names (Ok w)
    → WroteAll w status before after → ImageTells device out status before after
unfolding image_plan
image_tells device out names w status before after plan wrote =
    let held = before.files.held in
    let t = through (DeviceIn device held) (λ (p : DevicePlan). Then (PlacedIn device p held) (λ (m : Placed). exactly (Ok (written_image out (attested_image p m.image))))) names w plan in
    let u = through (PlacedIn device t.value held) (λ (m : Placed). exactly (Ok (written_image out (attested_image t.value m.image)))) t.behind w t.follows in
    let known = known_gave {A = Written} (Ok (written_image out (attested_image t.value u.value.image))) u.behind w u.follows in
    let is : w ≡ written_image out (attested_image t.value u.value.image) = cc in
    let d = device_read device held t.before t.value t.is in
    let p = placed_read device t.value held u.before u.value u.is in
    record {
      text = d.text;
      read = d.read;
      plan = t.value;
      said = d.said;
      apps = p.apps;
      apps_read = p.read.read;
      sound = p.read.sound;
      memory = u.value;
      is_placed = p.is;
      ends = wrote.ends ∙ ap (λ (v : Written). status_of v.ending) is;
      file = put_held held after.files.held out _ (rw is at wrote.files.held);
      grown = wrote.out ∙ ap (λ (v : Written). with_appended v.out before.out) is ∙ nothing_appended before.out;
    }
