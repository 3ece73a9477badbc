-- The challenges that a device serves are valid, and their counters rise.
use Rattle.std.proofs.Common.{◌≡◌, ℕ, zero, suc, ◌+◌, ◌<◌, Bool, true, false, ltb, eqb, List, [], ◌∷◌, All, length, take, Option, Some, None, Result, Ok, Err, refl, sym, ap, subst, ◌∙◌, arith}
use Rattle.std.specs.Prelude.{if◌then◌else◌, ◌&&◌}
use Rattle.std.specs.Str.{bytes_eq}
use Rattle.std.specs.Option.{option_and_then}
use Rattle.std.specs.List.Sorted.{IsStrictlyIncreasing}
use Rattle.std.proofs.lemmas.Bool.{and_parts, ltb-true}
use Rattle.std.proofs.lemmas.List.Elements.{All-nil, All-cons}
use Rattle.history.specs.declared.events.Discipline.{Discipline}
use Rattle.challenge.specs.declared.Challenge.{Challenge}
use Rattle.challenge.specs.declared.faults.ChallengeFault.{ChallengeFault}
use Rattle.challenge.specs.declared.faults.ChallengeFault.TheVariants as faults
use Rattle.challenge.specs.declared.faults.Stale.{Stale}
use Rattle.challenge.specs.Challenges.{IsChallenge}
use Rattle.challenge.specs.Bytes.{challenge_head, is_challenge, fields_at, if_spelled, head_challenge, spelled_challenge, with_mac, challenge_in, admission}
use Rattle.challenge.proofs.Spelling.{valid_from}
use Rattle.device_inputs.specs.declared.admitting.Admission.{Admission}
use Rattle.device_inputs.specs.Admissions.{by_counter, admission_of, greatest_after, admissions, served, counters}

-- ---- what is read is valid

tested : {A : Type 0} (test : Bool) (a c : A) → (if test then Some a else None) ≡ Some c → (test ≡ true) × (a ≡ c)
tested true a c e = (refl, cc)
tested false a c e = absurd cc

valid_spelled : (head : List ℕ) (a c : Challenge) → if_spelled head a ≡ Some c → IsChallenge c
valid_spelled head a c e =
    let both = tested (is_challenge a && bytes_eq (challenge_head a) head) a c e in
    subst IsChallenge both.1 (valid_from a (and_parts (is_challenge a) (bytes_eq (challenge_head a) head) both.0).0)

valid_with : (head : List ℕ) (d : Option Discipline) (c : Challenge) → option_and_then (λ discipline. if_spelled head (fields_at head discipline)) d ≡ Some c → IsChallenge c
valid_with head None c e = absurd cc
valid_with head (Some d) c e = valid_spelled head (fields_at head d) c e

valid_head : (head : List ℕ) (c : Challenge) → head_challenge head ≡ Some c → IsChallenge c
unfolding head_challenge
valid_head head c e = valid_with head _ c e

if_long : (test : Bool) (head : List ℕ) (c : Challenge) → (if test then head_challenge head else None) ≡ Some c → IsChallenge c
if_long true head c e = valid_head head c e
if_long false head c e = absurd cc

valid_bytes : (bytes : List ℕ) (c : Challenge) → spelled_challenge bytes ≡ Some c → IsChallenge c
unfolding spelled_challenge
valid_bytes bytes c e = if_long (eqb (length bytes) 72) (take 40 bytes) c e

spelled_with : (spelled : Option Challenge) (right : Bool) (c : Challenge) → with_mac spelled right ≡ Ok c → spelled ≡ Some c
spelled_with None right c e = absurd cc
spelled_with (Some a) true c e = cc
spelled_with (Some a) false c e = absurd cc

valid_read : (key bytes : List ℕ) (c : Challenge) → challenge_in key bytes ≡ Ok c → IsChallenge c
unfolding challenge_in
valid_read key bytes c e = valid_bytes bytes c (spelled_with (spelled_challenge bytes) _ c e)

-- ---- what is served

-- what is served of one challenge and then of others, where this is the greatest counter before
record IsServedFrom (last : ℕ) (challenges : List Challenge) : Type 0 where
  valid : All IsChallenge challenges
  rising : IsStrictlyIncreasing (last ∷ counters challenges)

rises_alone : (last : ℕ) → IsStrictlyIncreasing (last ∷ [])
rises_alone last k within = absurd (omega arith)

rises_more : (last next : ℕ) (more : List ℕ) → last < next → IsStrictlyIncreasing (next ∷ more) → IsStrictlyIncreasing (last ∷ next ∷ more)
rises_more last next more below rising zero within = below
rises_more last next more below rising (suc k) within =
    let step : suc k + 1 ≡ suc (k + 1) = omega arith in
    rw step (rising k (omega arith))

is_above : (t : Bool) (n counter : ℕ) (stale : Stale) (r : Result ℕ Stale) → (if t then Ok n else Err stale) ≡ r → r ≡ Ok counter → t ≡ true
is_above true n counter stale r is told = refl
is_above false n counter stale r is told = absurd (let e : Err stale ≡ Ok counter = is ∙ told in cc)

above : (last : ℕ) (c : Challenge) (counter : ℕ) → admission last c ≡ Ok counter → last < c.counter
unfolding admission
above last c counter e = ltb-true last c.counter (is_above (ltb last c.counter) c.counter counter (record { last = last }) (admission last c) refl e)

-- the rest is what is served above the greatest counter behind this one
abbrev ServedBehind : ℕ → Admission → List Admission → Type 0
ServedBehind last one rest = IsServedFrom (greatest_after last one) (served rest) → IsServedFrom last (served (one ∷ rest))

served_by : (last : ℕ) (c : Challenge) (answer : Result ℕ Stale) (rest : List Admission) → IsChallenge c → answer ≡ admission last c → ServedBehind last (by_counter c last answer) rest
served_by last c (Ok counter) rest valid is behind = record {
  valid = All-cons IsChallenge c (served rest) valid behind.valid;
  rising = rises_more last c.counter (counters (served rest)) (above last c counter (sym is)) behind.rising;
}
served_by last c (Err stale) rest valid is behind = behind

served_one : (key bytes : List ℕ) (last : ℕ) (read : Result Challenge ChallengeFault) (rest : List Admission) → challenge_in key bytes ≡ read → ServedBehind last (admission_of last read) rest
served_one key bytes last (Ok c) rest is behind = served_by last c (admission last c) rest (valid_read key bytes c is) refl behind
served_one key bytes last (Err faults.Malformed) rest is behind = behind
served_one key bytes last (Err faults.BadMac) rest is behind = behind

served_from : (key : List ℕ) (last : ℕ) (bytes : List (List ℕ)) → IsServedFrom last (served (admissions key last bytes))
served_from key last [] = record { valid = All-nil IsChallenge; rising = rises_alone last }
served_from key last (bytes ∷ more) =
    let one = admission_of last (challenge_in key bytes) in
    served_one key bytes last (challenge_in key bytes) (admissions key (greatest_after last one) more) refl (served_from key (greatest_after last one) more)

pub served_valid : (key : List ℕ) (last : ℕ) (bytes : List (List ℕ)) → All IsChallenge (served (admissions key last bytes))
served_valid key last bytes = (served_from key last bytes).valid

pub served_rising : (key : List ℕ) (last : ℕ) (bytes : List (List ℕ)) → IsStrictlyIncreasing (last ∷ counters (served (admissions key last bytes)))
served_rising key last bytes = (served_from key last bytes).rising

-- as many as there are bytes
pub admissions_count : (key : List ℕ) (last : ℕ) (bytes : List (List ℕ)) → length (admissions key last bytes) ≡ length bytes
admissions_count key last [] = refl
admissions_count key last (b ∷ more) = ap (λ (n : ℕ). suc n) (admissions_count key (greatest_after last (admission_of last (challenge_in key b))) more)
