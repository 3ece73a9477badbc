-- What is printed of a run, line by line.
use Rattle.std.specs.Prelude.{ℕ, ◌+◌, List, [], ◌∷◌, ◌++◌, codes}
use Rattle.std.specs.Fmt.{decimal}
use Rattle.hex.specs.Hex.{encode_lower}
use Rattle.text_readers.specs.Digits.{word_digits}
use Rattle.report.specs.declared.Report.{Report}
use Rattle.rv_core.specs.declared.waits.Ending.TheVariants.{Exit, Trap, Fuel}
use Rattle.rv_core.specs.Effects.{trap_code}
use Rattle.app_thread.specs.declared.ends.RunEnd.{RunEnd}
use Rattle.app_thread.specs.declared.ends.RunEnd.TheVariants as run
use Rattle.image_set.specs.declared.Image.{Image}
use Rattle.verifier.specs.declared.verdicts.Verdict.{Verdict}
use Rattle.verifier.specs.declared.verdicts.Verdict.TheVariants as verdict
use Rattle.message_commands.specs.Lines.{image_name}
use Rattle.device.specs.declared.outcomes.AppEnd.{AppEnd}
use Rattle.device_commands.specs.declared.ends.ChallengeEnd.{ChallengeEnd}
use Rattle.device_commands.specs.declared.ends.ChallengeEnd.TheVariants.{Malformed, BadMac, Stale, Stopped, Reported}
use Rattle.device_commands.specs.declared.ends.ReleaseEnd.{ReleaseEnd}
use Rattle.device_commands.specs.declared.ends.ReleaseEnd.TheVariants as release

-- `WORD NUMBER TEXT`
unfoldable pub numbered_line : List ℕ → ℕ → List ℕ → List ℕ
numbered_line word number text = word ++ codes " " ++ decimal number ++ codes " " ++ text ++ codes "\n"

-- ---- applications

-- how an application has ended: with the number that it gave; with a trap's number and its pc; without fuel; or it was
-- stopped by a full history
unfoldable pub run_end_text : RunEnd → List ℕ
run_end_text (run.Ended (Exit number)) = codes "exit " ++ decimal number
run_end_text (run.Ended (Trap kind pc)) = codes "trap " ++ decimal (trap_code kind) ++ codes " " ++ word_digits pc
run_end_text (run.Ended Fuel) = codes "fuel"
run_end_text (run.Full place) = codes "stopped"

-- how the applications from this number on have ended
abbrev pub end_lines : ℕ → List AppEnd → List ℕ
end_lines number [] = []
end_lines number (app ∷ apps) = numbered_line (codes "app") number (run_end_text app.run.end) ++ end_lines (number + 1) apps

-- how often each waited for a lock
abbrev pub wait_lines : ℕ → List AppEnd → List ℕ
wait_lines number [] = []
wait_lines number (app ∷ apps) = numbered_line (codes "waits") number (decimal app.run.waits) ++ wait_lines (number + 1) apps

-- ---- challenges

-- the places of Start and End, and the tag
unfoldable pub report_text : Report → List ℕ
report_text report = codes "report " ++ decimal report.start ++ codes " " ++ decimal report.end ++ codes " " ++ encode_lower report.tag

-- the verdict on a report, by these images
unfoldable pub verdict_text : List Image → Verdict → List ℕ
verdict_text images (verdict.Accepted position) = codes "accepted " ++ image_name images position
verdict_text images verdict.Malformed = codes "rejected 1"
verdict_text images verdict.WrongChallenge = codes "rejected 2"
verdict_text images (verdict.Stale last) = codes "rejected 3 " ++ decimal last
verdict_text images verdict.WrongShape = codes "rejected 4"
verdict_text images verdict.UnknownMemory = codes "rejected 5"

-- the place of Release, or that it hasn't come; no line where the locks aren't held beyond End
unfoldable pub release_line : ℕ → ReleaseEnd → List ℕ
release_line number (release.Noted note) = numbered_line (codes "release") number (decimal note.release)
release_line number release.Stopped = numbered_line (codes "release") number (codes "stopped")
release_line number release.NotHeld = []

-- what the challenge of this number has come to
unfoldable pub challenge_lines : List Image → ℕ → ChallengeEnd → List ℕ
challenge_lines images number Malformed = numbered_line (codes "challenge") number (codes "refused malformed")
challenge_lines images number BadMac = numbered_line (codes "challenge") number (codes "refused badmac")
challenge_lines images number (Stale last) = numbered_line (codes "challenge") number (codes "refused stale " ++ decimal last)
challenge_lines images number Stopped = numbered_line (codes "challenge") number (codes "stopped")
challenge_lines images number (Reported report on end) =
    numbered_line (codes "challenge") number (report_text report)
    ++ numbered_line (codes "verdict") number (verdict_text images on)
    ++ release_line number end

-- what the challenges from this number on have come to
abbrev pub all_challenge_lines : List Image → ℕ → List ChallengeEnd → List ℕ
all_challenge_lines images number [] = []
all_challenge_lines images number (end ∷ ends) = challenge_lines images number end ++ all_challenge_lines images (number + 1) ends

-- ---- the history

-- how many entries it has
unfoldable pub entries_line : ℕ → List ℕ
entries_line count = codes "entries " ++ decimal count ++ codes "\n"
