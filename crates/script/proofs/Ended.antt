-- What a script over streams leaves of its input, where that was read to its end.
use Rattle.std.proofs.Common.{◌≡◌, ℕ, List, Bool, true, false, if◌then◌else◌, [], Option, Err, IsErrOf}
use Rattle.att_base.specs.Streams.{TakesAll}
use Rattle.att_base.specs.declared.faults.ReadFault.{ReadFault}
use Rattle.att_base.specs.declared.faults.ReadFault.TheVariants as faults
use Rattle.script.specs.Ends.{TextEnds, InputIsLeft}
use Rattle.script.specs.Steps.{meets_full}
use Rattle.script.specs.declared.ends.ScriptEnd.{ScriptEnd}
use Rattle.script.specs.declared.ends.ScriptEnd.TheVariants.{Done, BadLine, TooLong, ReadFailed, WriteFailed, Full, Memory}

-- a script that was run isn't too long
never_too_long : (is_full : Bool) (entries : ℕ) → TooLong ≡ (if is_full then Full entries else Done) → ⊥
never_too_long true entries is = cc
never_too_long false entries is = cc

pub leaves_input : (end : ScriptEnd) (text : List ℕ) (before after old new : Option (List ℕ)) → TextEnds text before after end → TakesAll old new text → InputIsLeft end old new
leaves_input Done text before after old new ends taken = λ known tells. (taken known tells).1
leaves_input (BadLine line) text before after old new ends taken = λ known tells. (taken known tells).1
leaves_input TooLong text before after old new ends taken =
    absurd (never_too_long (meets_full ends.0.setting [] ends.0.steps) ends.0.setting.cap ends.2.ended)
leaves_input ReadFailed text before after old new ends taken = tt
leaves_input WriteFailed text before after old new ends taken = λ known tells. (taken known tells).1
leaves_input (Full entries) text before after old new ends taken = λ known tells. (taken known tells).1
leaves_input Memory text before after old new ends taken = tt

-- the input has more than a script may have
pub is_too_long : {V : Type 0} (fault : ReadFault) → fault ≡ faults.TooLong → IsErrOf {T = V} (Err fault) faults.TooLong
is_too_long fault is = cc
