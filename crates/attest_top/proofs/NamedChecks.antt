-- The names of the reports are kept, and then the rest of `check` is done.
use Rattle.std.proofs.Common.{◌≡◌, ℕ, List, [], Option, None, Some, Result, Ok, Err, refl, sym, ap}
use Rattle.std.proofs.lemmas.List.{append-nil}
use Rattle.att_base.specs.Files.{Contents, FilesView, asked_more}
use Rattle.command_plans.specs.Steps.{Reason, no_memory, given, spent}
use Rattle.command_plans.specs.Answered.{ReadsBy}
use Rattle.command_plans.specs.Written.{Written}
use Rattle.trace_commands.specs.Checks.{check_plan}
use Rattle.attest_top.specs.Plans.{named_check_plan}

-- no further name was asked for
pub asked_nothing : (asked : Option (List (List ℕ))) → asked ≡ asked_more [] asked
asked_nothing None = refl
asked_nothing (Some names) = ap (λ (all : List (List ℕ)). Some all) (sym (append-nil names))

names_spent : (trace key : List ℕ) (names : List (List ℕ)) (held : Option Contents) → named_check_plan trace key names held [] (Err no_memory)
unfolding named_check_plan
names_spent trace key names held = record { before = []; between = Err no_memory; is = (refl, spent refl); behind = []; follows = (refl, refl); all = refl }

names_kept : (trace key : List ℕ) (names : List (List ℕ)) (held : Option Contents) (asked : List (List ℕ)) (came : Result Written Reason) → check_plan trace key names held asked came
    → named_check_plan trace key names held asked came
unfolding named_check_plan
names_kept trace key names held asked came plan = record { before = []; between = Ok names; is = (refl, given refl); behind = asked; follows = plan; all = refl }

-- there was no memory for the names
pub check_spent : (trace key : List ℕ) (names : List (List ℕ)) (files : FilesView) → ReadsBy (named_check_plan trace key names) (Err no_memory) files files
check_spent trace key names files = record {
  names = [];
  comes = names_spent trace key names files.held;
  asked = asked_nothing files.asked;
  same = refl;
  counted = refl;
}

pub check_kept : (trace key : List ℕ) (names : List (List ℕ)) (came : Result Written Reason) (old new : FilesView) → ReadsBy (check_plan trace key names) came old new
    → ReadsBy (named_check_plan trace key names) came old new
check_kept trace key names came old new reads = record {
  names = reads.names;
  comes = names_kept trace key names old.held reads.names came reads.comes;
  asked = reads.asked;
  same = reads.same;
  counted = reads.counted;
}
