-- A text says one thing: numbers, digits and acts that stand at the front of the same bytes are the same.
use Rattle.std.proofs.Common.{◌≡◌, ◌==◌, ℕ, zero, suc, ◌/◌, ◌^◌, ◌<◌, ◌≤◌, List, [], ◌∷◌, ◌++◌, length, drop, get_or, Ok, refl, sym, ap, ◌∙◌, subst, arith, append_assoc}
use Rattle.std.specs.Prelude.{◌&&◌, if◌then◌else◌}
use Rattle.std.specs.Char.{digit_value}
use Rattle.std.specs.Fmt.{decimal}
use Rattle.std.specs.Int.{w16, w32, to_be_bytes, from_be_bytes, bytes_high_first, byte_at}
use Rattle.std.specs.Str.Parse.{AllDigits}
use Rattle.std.proofs.lemmas.Fmt.{decimal_is_IsNumeral, decimal_injective, decimal_digit}
use Rattle.std.proofs.lemmas.Nat.{mod_below, from_be_bytes-to_be_bytes_2, from_be_bytes-to_be_bytes_4}
use Rattle.hex.specs.Hex.{IsBytes, encode_lower, lower_digits, decode_of}
use Rattle.hex.proofs.HexLemmas.{decode_of-encode_lower, length-encode_with}
use Rattle.history.specs.declared.events.Width.{Width}
use Rattle.history.specs.declared.events.Width.TheVariants.{Byte, Half, Word}
use Rattle.history.specs.declared.events.Discipline.{Discipline}
use Rattle.history.specs.declared.events.Discipline.TheVariants as discipline
use Rattle.history.specs.declared.events.Act.{Act}
use Rattle.history.specs.declared.events.Act.TheVariants.{Fetch, Load, Store, Start, Copy, End, Tick, Release}
use Rattle.history.specs.declared.events.Entry.{Entry}
use Rattle.history.specs.Layout.{width_bytes}
use Rattle.history.specs.Names.{code_of}
use Rattle.text_readers.specs.Digits.{word_digits}
use Rattle.trace.specs.Text.{width_digit, width_digits, access_text, act_text, entry_text}
use Rattle.trace.specs.Printable.{ActIsPrintable, IsPrintable}

-- one piece, a byte, and another piece before the rest
pub regroup : (c : ℕ) (a b t : List ℕ) → ((a ++ c ∷ []) ++ b) ++ t ≡ a ++ c ∷ (b ++ t)
regroup c a b t = append_assoc (a ++ c ∷ []) b t ∙ append_assoc a (c ∷ []) (b ++ t)

-- fronts of the same length
pub same_front : (xs ys r s : List ℕ) → length xs ≡ length ys → xs ++ r ≡ ys ++ s → (xs ≡ ys) × (r ≡ s)
same_front [] [] r s n h = (refl, h)
same_front [] (y ∷ ys) r s n h = absurd (omega (arith, n))
same_front (x ∷ xs) [] r s n h = absurd (omega (arith, n))
same_front (x ∷ xs) (y ∷ ys) r s n h =
    let rest = same_front xs ys r s (omega (arith, n)) (ap (drop 1) h) in
    let first : x ≡ y = ap (λ l. get_or l 0 0) h in
    (ap (λ a. a ∷ xs) first ∙ ap (λ l. y ∷ l) rest.0, rest.1)

-- fronts of digits, where no digit follows
digits_front : (xs ys : List ℕ) (c d : ℕ) (r s : List ℕ) → AllDigits 10 xs → AllDigits 10 ys → 10 ≤ digit_value c → 10 ≤ digit_value d → xs ++ c ∷ r ≡ ys ++ d ∷ s → (xs ≡ ys) × (c ∷ r ≡ d ∷ s)
digits_front [] [] c d r s p q cs ds h = (refl, h)
digits_front [] (y ∷ ys) c d r s p q cs ds h =
    let first : c ≡ y = ap (λ l. get_or l 0 0) h in
    absurd (omega (arith, cs, q.0, ap digit_value first))
digits_front (x ∷ xs) [] c d r s p q cs ds h =
    let first : x ≡ d = ap (λ l. get_or l 0 0) h in
    absurd (omega (arith, ds, p.0, ap digit_value first))
digits_front (x ∷ xs) (y ∷ ys) c d r s p q cs ds h =
    let rest = digits_front xs ys c d r s p.1 q.1 cs ds (ap (drop 1) h) in
    let first : x ≡ y = ap (λ l. get_or l 0 0) h in
    (ap (λ a. a ∷ xs) first ∙ ap (λ l. y ∷ l) rest.0, rest.1)

pub number_front : (m n c d : ℕ) (r s : List ℕ) → m < 2 ^ 64 → n < 2 ^ 64 → 10 ≤ digit_value c → 10 ≤ digit_value d → decimal m ++ c ∷ r ≡ decimal n ++ d ∷ s → (m ≡ n) × (c ∷ r ≡ d ∷ s)
number_front m n c d r s p q cs ds h =
    let e = digits_front (decimal m) (decimal n) c d r s (decimal_is_IsNumeral m p).0.1 (decimal_is_IsNumeral n q).0.1 cs ds h in
    (decimal_injective m n p q e.0, e.1)

byte_small : (k n : ℕ) → byte_at k n < 256
byte_small zero n = mod_below n 256 (omega arith)
byte_small (suc k) n = mod_below (n / 256 ^ suc k) 256 (omega arith)

pub number_bytes : (k n : ℕ) → IsBytes (bytes_high_first k n)
number_bytes zero n i = omega arith
number_bytes (suc k) n zero = byte_small k n
number_bytes (suc k) n (suc i) = number_bytes k n i

pub one_byte : (v : ℕ) → v < 256 → IsBytes (v ∷ [])
one_byte v small zero = small
one_byte v small (suc i) = omega arith

-- bytes have their own digits
pub bytes_same : (xs ys : List ℕ) → IsBytes xs → IsBytes ys → encode_lower xs ≡ encode_lower ys → xs ≡ ys
bytes_same xs ys p q h =
    let same : Ok xs ≡ Ok ys = sym (decode_of-encode_lower xs p) ∙ ap decode_of h ∙ decode_of-encode_lower ys q in
    cc

pub digits_same : (xs ys r s : List ℕ) → IsBytes xs → IsBytes ys → length xs ≡ length ys → encode_lower xs ++ r ≡ encode_lower ys ++ s → (xs ≡ ys) × (r ≡ s)
digits_same xs ys r s p q n h =
    let e = same_front (encode_lower xs) (encode_lower ys) r s (omega (arith, n, length-encode_with lower_digits xs, length-encode_with lower_digits ys)) h in
    (bytes_same xs ys p q e.0, e.1)

pub word_front : (v u : ℕ) (r s : List ℕ) → v < 2 ^ 32 → u < 2 ^ 32 → word_digits v ++ r ≡ word_digits u ++ s → (v ≡ u) × (r ≡ s)
word_front v u r s p q h =
    let e = digits_same (to_be_bytes w32 v) (to_be_bytes w32 u) r s (number_bytes 4 v) (number_bytes 4 u) refl h in
    (sym (from_be_bytes-to_be_bytes_4 v p) ∙ ap (from_be_bytes w32) e.0 ∙ from_be_bytes-to_be_bytes_4 u q, e.1)

value_front : (width : Width) (v u : ℕ) (r s : List ℕ) → v < 256 ^ width_bytes width → u < 256 ^ width_bytes width → width_digits width v ++ r ≡ width_digits width u ++ s → (v ≡ u) × (r ≡ s)
value_front Byte v u r s p q h =
    let e = digits_same (v ∷ []) (u ∷ []) r s (one_byte v p) (one_byte u q) refl h in
    (ap (λ l. get_or l 0 0) e.0, e.1)
value_front Half v u r s p q h =
    let e = digits_same (to_be_bytes w16 v) (to_be_bytes w16 u) r s (number_bytes 2 v) (number_bytes 2 u) refl h in
    (sym (from_be_bytes-to_be_bytes_2 v p) ∙ ap (from_be_bytes w16) e.0 ∙ from_be_bytes-to_be_bytes_2 u q, e.1)
value_front Word v u r s p q h = word_front v u r s p q h

access_front : (a b : ℕ) (width : Width) (v u : ℕ) (r s : List ℕ) → a < 2 ^ 32 → b < 2 ^ 32 → v < 256 ^ width_bytes width → u < 256 ^ width_bytes width → access_text a width v ++ r ≡ access_text b width u ++ s → (a ≡ b) × (v ≡ u) × (r ≡ s)
access_front a b width v u r s pa pb pv pu h =
    let same : word_digits a ++ 32 ∷ (width_digits width v ++ r) ≡ word_digits b ++ 32 ∷ (width_digits width u ++ s) =
    sym (regroup 32 (word_digits a) (width_digits width v) r) ∙ ap (drop 1) h ∙ regroup 32 (word_digits b) (width_digits width u) s in
    let address = word_front a b (32 ∷ (width_digits width v ++ r)) (32 ∷ (width_digits width u ++ s)) pa pb same in
    let value = value_front width v u r s pv pu (ap (drop 1) address.1) in
    (address.0, value.0, value.1)

width_length : (width : Width) → length (width_digit width) ≡ 1
width_length Byte = refl
width_length Half = refl
width_length Word = refl

width_same : (width other : Width) → width_digit width ≡ width_digit other → width ≡ other
width_same Byte Byte h = refl
width_same Half Half h = refl
width_same Word Word h = refl
width_same width other h = absurd (omega (arith, ap (λ l. get_or l 0 0) h))

-- a width, and an access of that width
sized_front : (a b : ℕ) (width other : Width) (v u : ℕ) (r s : List ℕ) → a < 2 ^ 32 → b < 2 ^ 32 → v < 256 ^ width_bytes width → u < 256 ^ width_bytes other
    → (width_digit width ++ access_text a width v) ++ r ≡ (width_digit other ++ access_text b other u) ++ s → (a ≡ b) × (width ≡ other) × (v ≡ u) × (r ≡ s)
sized_front a b width other v u r s pa pb pv pu h =
    let same : width_digit width ++ (access_text a width v ++ r) ≡ width_digit other ++ (access_text b other u ++ s) =
    sym (append_assoc (width_digit width) (access_text a width v) r) ∙ h ∙ append_assoc (width_digit other) (access_text b other u) s in
    let digit = same_front (width_digit width) (width_digit other) (access_text a width v ++ r) (access_text b other u ++ s) (width_length width ∙ sym (width_length other)) same in
    let e = width_same width other digit.0 in
    let access = access_front a b width v u r s pa pb pv (subst (λ y. u < 256 ^ width_bytes y) (sym e) pu) (digit.1 ∙ ap (λ y. access_text b y u ++ s) (sym e)) in
    (access.0, e, access.1, access.2)

-- the kind of an act, from the letters that it begins with
abbrev kind_told : List ℕ → ℕ
kind_told text = if (get_or text 1 0 == 115) && (get_or text 2 0 == 116) then 1 else get_or text 1 0

abbrev kind_code : Act → ℕ
kind_code (Fetch addr value) = 102
kind_code (Load addr width value) = 108
kind_code (Store addr width value) = 115
kind_code (Start form counter) = 1
kind_code (Copy block) = 99
kind_code End = 101
kind_code Tick = 116
kind_code Release = 114

kind_is : (act : Act) (t : List ℕ) → kind_told (act_text act ++ t) ≡ kind_code act
unfolding act_text
kind_is (Fetch addr value) t = refl
kind_is (Load addr width value) t = refl
kind_is (Store addr Byte value) t = refl
kind_is (Store addr Half value) t = refl
kind_is (Store addr Word value) t = refl
kind_is (Start form counter) t = refl
kind_is (Copy block) t = refl
kind_is End t = refl
kind_is Tick t = refl
kind_is Release t = refl

code_same : (form other : Discipline) → code_of form ≡ code_of other → form ≡ other
code_same discipline.All discipline.All h = refl
code_same discipline.AllExt discipline.AllExt h = refl
code_same discipline.Dec discipline.Dec h = refl
code_same discipline.Inc discipline.Inc h = refl
code_same discipline.IncExt discipline.IncExt h = refl
code_same form other h = absurd (omega (arith, h))

pub code_small : (form : Discipline) → code_of form < 2 ^ 64
code_small discipline.All = omega arith
code_small discipline.AllExt = omega arith
code_small discipline.Dec = omega arith
code_small discipline.Inc = omega arith
code_small discipline.IncExt = omega arith

act_front : (a b : Act) (r s : List ℕ) → ActIsPrintable a → ActIsPrintable b → act_text a ++ 10 ∷ r ≡ act_text b ++ 10 ∷ s → (a ≡ b) × (r ≡ s)
unfolding act_text
act_front (Fetch a v) (Fetch b u) r s p q h =
    let e = access_front a b Word v u (10 ∷ r) (10 ∷ s) p.0 q.0 p.1 q.1 (ap (drop 2) h) in
    (ap (λ x. Fetch x v) e.0 ∙ ap (λ x. Fetch b x) e.1, ap (drop 1) e.2)
act_front (Load a width v) (Load b other u) r s p q h =
    let e = sized_front a b width other v u (10 ∷ r) (10 ∷ s) p.0 q.0 p.1 q.1 (ap (drop 2) h) in
    (ap (λ x. Load x width v) e.0 ∙ ap (λ x. Load b x v) e.1 ∙ ap (λ x. Load b other x) e.2, ap (drop 1) e.3)
act_front (Store a width v) (Store b other u) r s p q h =
    let e = sized_front a b width other v u (10 ∷ r) (10 ∷ s) p.0 q.0 p.1 q.1 (ap (drop 2) h) in
    (ap (λ x. Store x width v) e.0 ∙ ap (λ x. Store b x v) e.1 ∙ ap (λ x. Store b other x) e.2, ap (drop 1) e.3)
act_front (Start form m) (Start other n) r s p q h =
    let same : decimal (code_of form) ++ 32 ∷ (decimal m ++ 10 ∷ r) ≡ decimal (code_of other) ++ 32 ∷ (decimal n ++ 10 ∷ s) =
    sym (regroup 32 (decimal (code_of form)) (decimal m) (10 ∷ r)) ∙ ap (drop 7) h ∙ regroup 32 (decimal (code_of other)) (decimal n) (10 ∷ s) in
    let code = number_front (code_of form) (code_of other) 32 32 (decimal m ++ 10 ∷ r) (decimal n ++ 10 ∷ s) (code_small form) (code_small other) (omega arith) (omega arith) same in
    let counter = number_front m n 10 10 r s p q (omega arith) (omega arith) (ap (drop 1) code.1) in
    (ap (λ x. Start x m) (code_same form other code.0) ∙ ap (λ x. Start other x) counter.0, ap (drop 1) counter.1)
act_front (Copy b) (Copy c) r s p q h =
    let e = number_front b c 10 10 r s (omega (arith, p)) (omega (arith, q)) (omega arith) (omega arith) (ap (drop 6) h) in
    (ap Copy e.0, ap (drop 1) e.1)
act_front End End r s p q h = (refl, ap (drop 5) h)
act_front Tick Tick r s p q h = (refl, ap (drop 6) h)
act_front Release Release r s p q h = (refl, ap (drop 9) h)
act_front a b r s p q h = absurd (omega (arith, sym (kind_is a (10 ∷ r)) ∙ ap kind_told h ∙ kind_is b (10 ∷ s)))

act_begins : (act : Act) (t : List ℕ) → act_text act ++ t ≡ 32 ∷ drop 1 (act_text act ++ t)
unfolding act_text
act_begins (Fetch addr value) t = refl
act_begins (Load addr width value) t = refl
act_begins (Store addr width value) t = refl
act_begins (Start form counter) t = refl
act_begins (Copy block) t = refl
act_begins End t = refl
act_begins Tick t = refl
act_begins Release t = refl

pub entry_front : (e f : Entry) (r s : List ℕ) → IsPrintable e → IsPrintable f → entry_text e ++ 10 ∷ r ≡ entry_text f ++ 10 ∷ s → (e ≡ f) × (r ≡ s)
unfolding entry_text
entry_front e f r s p q h =
    let x = act_text e.act ++ 10 ∷ r in
    let y = act_text f.act ++ 10 ∷ s in
    let same : decimal e.actor ++ 32 ∷ drop 1 x ≡ decimal f.actor ++ 32 ∷ drop 1 y =
    ap (λ t. decimal e.actor ++ t) (sym (act_begins e.act (10 ∷ r))) ∙ sym (append_assoc (decimal e.actor) (act_text e.act) (10 ∷ r)) ∙ h
    ∙ append_assoc (decimal f.actor) (act_text f.act) (10 ∷ s) ∙ ap (λ t. decimal f.actor ++ t) (act_begins f.act (10 ∷ s)) in
    let actor = number_front e.actor f.actor 32 32 (drop 1 x) (drop 1 y) (omega (arith, p.actor)) (omega (arith, q.actor)) (omega arith) (omega arith) same in
    let act = act_front e.act f.act r s p.act q.act (act_begins e.act (10 ∷ r) ∙ actor.1 ∙ sym (act_begins f.act (10 ∷ s))) in
    let first : e ≡ record { actor = f.actor; act = e.act } = ap (λ (n : ℕ). let g : Entry = record { actor = n; act = e.act } in g) actor.0 in
    (first ∙ ap (λ (a : Act). let g : Entry = record { actor = f.actor; act = a } in g) act.0, act.1)

-- an entry begins with a digit
pub entry_first : (e : Entry) (t : List ℕ) → IsPrintable e → get_or (entry_text e ++ t) 0 0 ≤ 56
unfolding entry_text
entry_first e t p = let digit = decimal_digit e.actor (omega (arith, p.actor)) in rw digit (omega (arith, p.actor))
