-- What was read, where the outside tells and where it doesn't.
use Rattle.std.proofs.Common.{◌≡◌, ℕ, suc, ◌<◌, ◌≤◌, List, length, replicate, Bool, if◌then◌else◌, Option, Some, None, Ok, Err, refl, sym, ap, arith, codes}
use Rattle.std.proofs.lemmas.List.{length-replicate}
use Rattle.std.proofs.lemmas.Bool.{le-leb, lt-leb, le-ltb, lt-ltb}
use Rattle.att_base.specs.Files.{Contents, whole_file}
use Rattle.att_base.specs.declared.faults.ReadFault.TheVariants.{TooLong, Missing}
use Rattle.command_plans.specs.Lines.{long_line}
use Rattle.command_plans.specs.Steps.{absent, bad}
use Rattle.command_plans.specs.Reading.{read_as, MayRead, found, MayTake}

fits : (limit : ℕ) (bytes : List ℕ) → length bytes ≤ limit → whole_file limit (Some bytes) ≡ Ok bytes
fits limit bytes within = ap (λ (t : Bool). if t then Ok bytes else Err TooLong) (le-leb (length bytes) limit within)

too_long : (limit : ℕ) (bytes : List ℕ) → limit < length bytes → whole_file limit (Some bytes) ≡ Err TooLong
too_long limit bytes over = ap (λ (t : Bool). if t then Ok bytes else Err TooLong) (lt-leb (length bytes) limit over)

record Long (limit : ℕ) : Type 0 where
  bytes : List ℕ
  over : limit < length bytes

some_long : (limit : ℕ) → Long limit
some_long limit = let z : ℕ = 0 in record { bytes = replicate (suc limit) z; over = let e : length (replicate (suc limit) z) ≡ suc limit = length-replicate (suc limit) z in omega (arith, e) }

-- ---- a file

pub read_ok : (limit : ℕ) (files : Option Contents) (name bytes : List ℕ) → ((known : Contents) → files ≡ Some known → whole_file limit (known name) ≡ Ok bytes) → length bytes ≤ limit
    → MayRead limit name files (Ok bytes)
read_ok limit None name bytes reads within = found (Some bytes) (λ known is. cc) (let e = ap (read_as name) (fits limit bytes within) in sym e)
read_ok limit (Some held) name bytes reads within =
    found (held name) (λ known is. let same : held ≡ known = cc in ap (λ (h : Contents). h name) (sym same)) (let e = ap (read_as name) (reads held refl) in sym e)

pub read_absent : (limit : ℕ) (files : Option Contents) (name : List ℕ) → ((known : Contents) → files ≡ Some known → whole_file limit (known name) ≡ Err Missing) → MayRead limit name files (Err absent)
read_absent limit None name reads = found None (λ known is. cc) refl
read_absent limit (Some held) name reads =
    found (held name) (λ known is. let same : held ≡ known = cc in ap (λ (h : Contents). h name) (sym same)) (let e = ap (read_as name) (reads held refl) in sym e)

long : (limit : ℕ) (files : Option Contents) (name : List ℕ) → ((known : Contents) → files ≡ Some known → whole_file limit (known name) ≡ Err TooLong) → MayRead limit name files (Err (bad (long_line name)))
long limit None name reads =
    let some = some_long limit in
    found (Some some.bytes) (λ known is. cc) (let e = ap (read_as name) (too_long limit some.bytes some.over) in sym e)
long limit (Some held) name reads =
    found (held name) (λ known is. let same : held ≡ known = cc in ap (λ (h : Contents). h name) (sym same)) (let e = ap (read_as name) (reads held refl) in sym e)

-- a file that is too long, and the line that says so
pub read_long : (limit : ℕ) (files : Option Contents) (name line : List ℕ) → ((known : Contents) → files ≡ Some known → whole_file limit (known name) ≡ Err TooLong) → line ≡ long_line name
    → MayRead limit name files (Err (bad line))
read_long limit files name line reads says = rw says (long limit files name reads)

-- ---- the input

pub input_ok : (limit : ℕ) (input : Option (List ℕ)) (text : List ℕ) → ((known : List ℕ) → input ≡ Some known → text ≡ known) → length text ≤ limit → MayTake limit input (Ok text)
input_ok limit input text told within =
    let e = ap (λ (t : Bool). if t then Err (bad (long_line (codes "-"))) else Ok text) (le-ltb limit (length text) within) in
    found text (λ known is. sym (told known is)) (sym e)

long_input : (limit : ℕ) (input : Option (List ℕ)) → ((known : List ℕ) → input ≡ Some known → limit < length known) → MayTake limit input (Err (bad (long_line (codes "-"))))
long_input limit None told =
    let some = some_long limit in
    let e = ap (λ (t : Bool). if t then Err (bad (long_line (codes "-"))) else Ok some.bytes) (lt-ltb limit (length some.bytes) some.over) in
    found some.bytes (λ known is. cc) (sym e)
long_input limit (Some text) told =
    let e = ap (λ (t : Bool). if t then Err (bad (long_line (codes "-"))) else Ok text) (lt-ltb limit (length text) (told text refl)) in
    found text (λ known is. cc) (sym e)

pub input_long : (limit : ℕ) (input : Option (List ℕ)) (line : List ℕ) → ((known : List ℕ) → input ≡ Some known → limit < length known) → line ≡ long_line (codes "-") → MayTake limit input (Err (bad line))
input_long limit input line told says = rw says (long_input limit input told)
