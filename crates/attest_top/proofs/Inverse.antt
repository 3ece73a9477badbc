-- What was read, by what came of a step.
use Rattle.std.proofs.Common.{◌≡◌, ℕ, List, Bool, true, false, if◌then◌else◌, Option, None, Some, Result, Ok, Err, refl, sym}
use Rattle.std.specs.Prelude.{length, nat_le}
use Rattle.att_base.specs.Files.{Contents, put_under, with_name}
use Rattle.att_base.specs.declared.faults.ReadFault.TheVariants.{TooLong}
use Rattle.att_base.proofs.FileLemmas.{name_has}
use Rattle.command_plans.specs.Steps.{Reason, CommandStep, MayGive, given, spent, exactly, Follows, Then}
use Rattle.command_plans.specs.Reading.{read_as, file_bytes, MayRead, found, unread, spent, ReadFile}
use Rattle.attest_top.specs.Headline.{HasBytes}

-- one step gave a value, and the next this one
pub record Through {A B : Type 0} (first : CommandStep A) (next : A → CommandStep B) (b : B) : Type 0 where
  pub before : List (List ℕ)
  pub value : A
  pub is : first before (Ok value)
  pub behind : List (List ℕ)
  pub follows : next value behind (Ok b)

through_at : {A B : Type 0} (first : CommandStep A) (next : A → CommandStep B) (b : B) (before behind : List (List ℕ)) (between : Result A Reason) → first before between
    → Follows between next behind (Ok b) → Through first next b
through_at first next b before behind (Ok a) is follows = record { before = before; value = a; is = is; behind = behind; follows = follows }
through_at first next b before behind (Err reason) is follows = let e = follows.1 in cc

pub through : {A B : Type 0} (first : CommandStep A) (next : A → CommandStep B) (asked : List (List ℕ)) (b : B) → Then first next asked (Ok b) → Through first next b
through first next asked b both = through_at first next b both.before both.behind both.between both.is both.follows

given_known : {A : Type 0} (known : Result A Reason) (a : A) → MayGive known (Ok a) → known ≡ Ok a
given_known known a (given is) = sym is
given_known known a (spent is) = cc

pub known_gave : {A : Type 0} (known : Result A Reason) (asked : List (List ℕ)) (a : A) → exactly known asked (Ok a) → known ≡ Ok a
known_gave known asked a is = given_known known a is.1

tested_bytes : (t : Bool) (name bytes read : List ℕ) → Ok read ≡ read_as name (if t then Ok bytes else Err TooLong) → bytes ≡ read
tested_bytes true name bytes read is = cc
tested_bytes false name bytes read is = cc

held_bytes : (limit : ℕ) (name : List ℕ) (held : Option (List ℕ)) (bytes : List ℕ) → Ok bytes ≡ file_bytes limit name held → held ≡ Some bytes
held_bytes limit name None bytes is = cc
held_bytes limit name (Some other) bytes is = let same = tested_bytes (nat_le (length other) limit) name other bytes is in rw same refl

read_bytes : (limit : ℕ) (name : List ℕ) (files : Option Contents) (bytes : List ℕ) → MayRead limit name files (Ok bytes) → HasBytes files name bytes
read_bytes limit name files bytes (found held told is) = λ known tells. let same = told known tells in let some = held_bytes limit name held bytes is in rw same some
read_bytes limit name files bytes (unread is) = λ known tells. cc
read_bytes limit name files bytes (spent is) = λ known tells. cc

-- what was read of a file is what is held under its name
pub file_read : (limit : ℕ) (name : List ℕ) (files : Option Contents) (asked : List (List ℕ)) (bytes : List ℕ) → ReadFile limit name files asked (Ok bytes) → HasBytes files name bytes
file_read limit name files asked bytes is = read_bytes limit name files bytes is.1

-- what was put under a name is held there
pub put_held : (old new : Option Contents) (name bytes : List ℕ) → new ≡ put_under old name bytes → HasBytes new name bytes
put_held None new name bytes is = λ known tells. cc
put_held (Some held) new name bytes is = λ known tells. let same : with_name held name bytes ≡ known = cc in rw (← same) (name_has held name bytes)
