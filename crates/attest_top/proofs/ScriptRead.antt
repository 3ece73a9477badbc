-- What preparing a script does with standard input.
use Rattle.std.proofs.Common.{◌≡◌, ℕ, List, [], length, nat_lt, codes, Bool, true, false, if◌then◌else◌, Option, Some, Result, Ok, Err, IfOk, refl, sym, ◌∙◌}
use Rattle.att_base.specs.Streams.{TakesFront}
use Rattle.command_plans.specs.declared.output.Stop.{Stop}
use Rattle.command_plans.specs.declared.output.Stop.TheVariants.{Absent, Fault, Bad, Memory}
use Rattle.command_plans.specs.Lines.{long_line}
use Rattle.command_plans.specs.Steps.{Reason, bad, MayGive, given, spent}
use Rattle.command_plans.specs.Reading.{input_limit, MayTake, found, unread, spent, ReadInput}
use Rattle.command_plans.specs.Written.{Written}
use Rattle.command_plans.specs.Answered.{reason_of, came_of, Gives, CountsInput, LeavesInput}
use Rattle.script.specs.Grammar.{program_of}
use Rattle.attest_top.specs.Moments.{StreamView}
use Rattle.attest_top.specs.Plans.{script_plan, script_result}
use Rattle.attest_top.specs.Prepared.{IsScriptOutput, ScriptFound, ReadsScript}

counts_stopped : (V W : Type 0) (stop : Stop) (before now : ℕ) → CountsInput {V = V} (Err stop) before now → CountsInput {V = W} (Err stop) before now
counts_stopped V W Absent before now counted = counted
counts_stopped V W Fault before now counted = counted
counts_stopped V W (Bad line) before now counted = counted
counts_stopped V W Memory before now counted = counted

leaves_stopped : (V W : Type 0) (stop : Stop) (old new : Option (List ℕ)) → LeavesInput {V = V} input_limit (Err stop) old new → LeavesInput {V = W} input_limit (Err stop) old new
leaves_stopped V W Absent old new left = left
leaves_stopped V W Fault old new left = left
leaves_stopped V W (Bad line) old new left = left
leaves_stopped V W Memory old new left = left

-- standard input couldn't be read
pub unread_script : (V : Type 0) (stop : Stop) (old new : StreamView) → ReadInput input_limit old.bytes [] (Err (reason_of stop)) → CountsInput {V = V} (Err stop) old.faults new.faults
    → LeavesInput {V = V} input_limit (Err stop) old.bytes new.bytes → TakesFront old.bytes new.bytes → ReadsScript (Err stop) old new
unfolding script_plan
unread_script V stop old new read counted left front = record {
  comes = record { before = []; between = Err (reason_of stop); is = read; behind = []; follows = (refl, refl); all = refl };
  counted = counts_stopped V Written stop old.faults new.faults counted;
  left = leaves_stopped V Written stop old.bytes new.bytes left;
  front = front;
  found = tt;
}

gives_came : (known : Result Written Reason) (result : Result Written Stop) → Gives (λ w. w) known result → MayGive known (came_of (λ w. w) result)
gives_came known (Ok w) is = given (sym is)
gives_came known (Err Absent) is = absurd is
gives_came known (Err Fault) is = absurd is
gives_came known (Err (Bad line)) is = given (sym is)
gives_came known (Err Memory) is = spent refl

counts_given : (known : Result Written Reason) (result : Result Written Stop) (before now : ℕ) → Gives (λ w. w) known result → now ≡ before → CountsInput result before now
counts_given known (Ok w) before now is same = same
counts_given known (Err Absent) before now is same = absurd is
counts_given known (Err Fault) before now is same = absurd is
counts_given known (Err (Bad line)) before now is same = same
counts_given known (Err Memory) before now is same = same

leaves_given : {V : Type 0} (v : V) (result : Result Written Stop) (old new : Option (List ℕ)) → LeavesInput input_limit (Ok v) old new → LeavesInput input_limit result old new
leaves_given v (Ok w) old new left = left
leaves_given v (Err Absent) old new left = tt
leaves_given v (Err Fault) old new left = tt
leaves_given v (Err (Bad line)) old new left = left
leaves_given v (Err Memory) old new left = tt

input_text : (t : Bool) (limit : ℕ) (other text : List ℕ) → Ok text ≡ (if t then Err (bad (long_line (codes "-"))) else Ok other) → other ≡ text
input_text true limit other text is = cc
input_text false limit other text is = cc

taken_text : (limit : ℕ) (input : Option (List ℕ)) (text : List ℕ) → MayTake limit input (Ok text) → (known : List ℕ) → input ≡ Some known → known ≡ text
taken_text limit input text (found other left is) = λ known tells. left known tells ∙ input_text (nat_lt limit (length other)) limit other text is
taken_text limit input text (unread is) = λ known tells. cc
taken_text limit input text (spent is) = λ known tells. cc

told_text : (limit : ℕ) (input : Option (List ℕ)) (text : List ℕ) → ReadInput limit input [] (Ok text) → (known : List ℕ) → input ≡ Some known → known ≡ text
told_text limit input text read = taken_text limit input text read.1

found_output : (text : List ℕ) (input : Option (List ℕ)) (result : Result Written Stop) → ((known : List ℕ) → input ≡ Some known → known ≡ text) → IfOk result (λ w. IsScriptOutput text w)
    → IfOk result (λ w. ScriptFound input w)
found_output text input (Ok w) left tells = record { text = text; left = left; tells = tells }
found_output text input (Err stop) left tells = tt

-- standard input was read, and then its text was tried
pub read_script : {V : Type 0} (v : V) (text : List ℕ) (result : Result Written Stop) (old new : StreamView) → ReadInput input_limit old.bytes [] (Ok text) → new.faults ≡ old.faults
    → LeavesInput input_limit (Ok v) old.bytes new.bytes → TakesFront old.bytes new.bytes → Gives (λ w. w) (script_result (program_of text)) result → IfOk result (λ w. IsScriptOutput text w)
    → ReadsScript result old new
unfolding script_plan
read_script v text result old new read counted left front gives tells = record {
  comes = record { before = []; between = Ok text; is = read; behind = []; follows = (refl, gives_came (script_result (program_of text)) result gives); all = refl };
  counted = counts_given (script_result (program_of text)) result old.faults new.faults gives counted;
  left = leaves_given v result old.bytes new.bytes left;
  front = front;
  found = found_output text old.bytes result (told_text input_limit old.bytes text read) tells;
}
