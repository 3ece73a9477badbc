-- A line of an image: the bytes that are read stand there, and those that stand there are read.
use Rattle.std.proofs.Common.{◌≡◌, ℕ, ◌+◌, ◌/◌, ◌%◌, ◌<◌, ◌≤◌, List, [], ◌∷◌, ◌++◌, length, take, drop, get_or, All, Option, Some, None, Bor, refl, sym, ap, ◌∙◌, arith, append_assoc, length-take, take_all}
use Rattle.std.specs.Prelude.{slice_index, slice_set, codes, IfSome, IfNone}
use Rattle.std.specs.Option.{option_map}
use Rattle.std.proofs.lemmas.List.{take-append-drop, drop_more, drop_all, take_more_set}
use Rattle.hex.specs.Hex.{IsBytes, encode_lower, encode_with, lower_digits}
use Rattle.hex.proofs.HexLemmas.{length-encode_with}
use Rattle.history.specs.declared.events.Width.TheVariants.{Byte}
use Rattle.trace.specs.Reading.{text_behind, digits_at}
use Rattle.trace.proofs.Takes.{behind_takes, value_takes}
use Rattle.trace.proofs.Again.{value_again}
use Rattle.trace.proofs.Unique.{same_front}
use Rattle.trace.proofs.HeadTakes.{unread}

encode_append : (xs ys : List ℕ) → encode_lower (xs ++ ys) ≡ encode_lower xs ++ encode_lower ys
unfolding encode_with
encode_append [] ys = refl
encode_append (b ∷ xs) ys = ap (λ l. slice_index lower_digits (b / 16) ∷ slice_index lower_digits (b % 16) ∷ l) (encode_append xs ys)

-- no bytes have no digits
pub no_digits : (t : List ℕ) → encode_lower [] ++ t ≡ t
unfolding encode_with
no_digits t = refl

-- behind bytes that were read those of a longer line stand
line_ahead : (front bytes left t : List ℕ) → length front ≤ length bytes → encode_lower front ++ left ≡ encode_lower bytes ++ t → left ≡ encode_lower (drop (length front) bytes) ++ t
line_ahead front bytes left t short h =
    let n = length front in
    let first = encode_lower (take n bytes) in
    let rest = encode_lower (drop n bytes) in
    let cut : encode_lower bytes ≡ first ++ rest = ap encode_lower (sym (take-append-drop n bytes)) ∙ encode_append (take n bytes) (drop n bytes) in
    let size : length (encode_lower front) ≡ length first = omega (arith, length-encode_with lower_digits front, length-encode_with lower_digits (take n bytes), length-take n bytes, short) in
    (same_front (encode_lower front) first left (rest ++ t) size (h ∙ ap (λ l. l ++ t) cut ∙ append_assoc first rest t)).1

-- so the next one is read
pub byte_stands : (front bytes left t : List ℕ) → IsBytes bytes → length front < length bytes → encode_lower front ++ left ≡ encode_lower bytes ++ t → (y : ℕ × List ℕ) × (digits_at 2 0 left ≡ Some y)
byte_stands front bytes left t are short h =
    let n = length front in
    let b = get_or bytes n 0 in
    let more = drop (n + 1) bytes in
    let less : length front ≤ length bytes = omega (arith, short) in
    let stands : left ≡ encode_lower (b ∷ []) ++ (encode_lower more ++ t) =
    line_ahead front bytes left t less h ∙ ap (λ l. encode_lower l ++ t) (drop_more bytes n 0 short) ∙ ap (λ l. l ++ t) (encode_append (b ∷ []) more) ∙ append_assoc (encode_lower (b ∷ [])) (encode_lower more) t in
    ((b, encode_lower more ++ t), ap (digits_at 2 0) stands ∙ value_again Byte b (encode_lower more ++ t) (are n))

pub byte_read : (v : ℕ) (text rest : List ℕ) → digits_at 2 0 text ≡ Some (v, rest) → (v < 256) × (text ≡ encode_lower (v ∷ []) ++ rest)
byte_read v text rest h = value_takes Byte v text rest h

-- one byte more
pub byte_more : (piece : List ℕ) (place byte : ℕ) (text left rest : List ℕ) → place < length piece → text ≡ encode_lower (take place piece) ++ left → digits_at 2 0 left ≡ Some (byte, rest) → text ≡ encode_lower (take (place + 1) (slice_set piece place byte)) ++ rest
byte_more piece place byte text left rest inside is read =
    let taken = take place piece in
    is ∙ ap (λ l. encode_lower taken ++ l) (byte_read byte left rest read).1 ∙ sym (append_assoc (encode_lower taken) (encode_lower (byte ∷ [])) rest)
    ∙ ap (λ l. l ++ rest) (sym (encode_append taken (byte ∷ []))) ∙ ap (λ l. encode_lower l ++ rest) (sym (take_more_set piece place byte inside))

-- the end of the line
pub line_found : (r : Option (Bor (List ℕ))) (piece text left : List ℕ) (n : ℕ) → length piece ≤ n → option_map (λ rest. rest.now) r ≡ text_behind (codes "\n") left → text ≡ encode_lower (take n piece) ++ left → IfSome r (λ rest. text ≡ encode_lower piece ++ 10 ∷ rest.now)
line_found (Some rest) piece text left n all h is = is ∙ ap (λ l. encode_lower l ++ left) (take_all n piece all) ∙ ap (λ l. encode_lower piece ++ l) (behind_takes (codes "\n") left rest.now (sym h))
line_found None piece text left n all h is = tt

pub line_none : (r : Option (Bor (List ℕ))) (piece text left : List ℕ) (n : ℕ) {m : ℕ} → length piece ≤ n → option_map (λ rest. rest.now) r ≡ text_behind (codes "\n") left → text ≡ encode_lower (take n piece) ++ left → length piece ≡ m
    → IfNone r ((bytes rest : List ℕ) → IsBytes bytes → length bytes ≡ m → text ≡ encode_lower bytes ++ 10 ∷ rest → ⊥)
line_none (Some rest) piece text left n all h is count = tt
line_none None piece text left n all h is count = λ bytes rest are size stands.
    let whole : text ≡ encode_lower piece ++ left = is ∙ ap (λ l. encode_lower l ++ left) (take_all n piece all) in
    let short : length piece ≤ length bytes = omega (arith, size, count) in
    let past : length bytes ≤ length piece = omega (arith, size, count) in
    let end : left ≡ 10 ∷ rest = line_ahead piece bytes left (10 ∷ rest) short (sym whole ∙ stands) ∙ ap (λ l. encode_lower l ++ 10 ∷ rest) (drop_all (length piece) bytes past) ∙ no_digits (10 ∷ rest) in
    unread (text_behind (codes "\n") left) rest h (ap (text_behind (codes "\n")) end)

pub line_bytes : (r : Option (Bor (List ℕ))) (piece : List ℕ) → All (λ byte. byte < 256) piece → IfSome r (λ _. All (λ byte. byte < 256) piece)
line_bytes (Some rest) piece bytes = bytes
line_bytes None piece bytes = tt
