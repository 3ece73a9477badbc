-- A challenge stands at its places in the bytes that it begins with, and nothing else spells it.
use Rattle.std.proofs.Common.{◌≡◌, ℕ, ◌+◌, ◌^◌, ◌<◌, Bool, true, false, ◌&&◌, ◌||◌, eqb, leb, List, ◌++◌, length, get_or, take, drop, Option, Some, None, Result, Ok, refl, sym, ap, subst, ◌∙◌, arith, inl, inr}
use Rattle.std.specs.Prelude.{slice_index}
use Rattle.std.specs.Option.{option_and_then}
use Rattle.std.specs.Int.{w64, from_be_bytes}
use Rattle.std.specs.Str.{bytes_eq}
use Rattle.std.proofs.lemmas.Bool.{leb-true, le-leb, eqb-true, eq-eqb, and_parts, and_from, cases_Bool, cases_lt, both_ways}
use Rattle.std.proofs.lemmas.List.{take-append-drop, take_at, drop_at, length-append, length-take, length-take-le, get_or-drop, get_or-take, get_or_past}
use Rattle.std.proofs.lemmas.Nat.{from_be_bytes-to_be_bytes_4, from_be_bytes-to_be_bytes_8}
use Rattle.std.proofs.lemmas.Slice.Eq.{bytes_eq-Decides}
use Rattle.hmac256.specs.Hmac.{hmac}
use Rattle.history.specs.declared.events.Discipline.{Discipline}
use Rattle.history.specs.Pass.{is_extended}
use Rattle.challenge.specs.declared.Challenge.{Challenge}
use Rattle.challenge.specs.declared.faults.ChallengeFault.{ChallengeFault}
use Rattle.challenge.specs.Challenges.{IsChallenge}
use Rattle.challenge.specs.Numbers.{u32_at, u64_at, discipline_with}
use Rattle.challenge.specs.Bytes.{challenge_head, challenge_bytes, Spells, IsChallengeReading, is_challenge, fields_at, if_spelled, head_challenge, spelled_challenge, with_mac, challenge_in}
use Rattle.challenge.proofs.Codes.{code_stands}

-- ---- validity as a test

not_held : (z e : Bool) → (z || e) ≡ true → e ≡ false → z ≡ true
not_held true e h k = refl
not_held false true h k = absurd cc
not_held false false h k = h

held_from : (z e : Bool) → (e ≡ false → z ≡ true) → (z || e) ≡ true
held_from true e h = refl
held_from false true h = refl
held_from false false h = h refl

pub valid_from : (c : Challenge) → is_challenge c ≡ true → IsChallenge c
valid_from c h =
    let parts = and_parts (leb c.lead 4096 && leb c.hold 4096) (eqb c.hold 0 || is_extended c.discipline) h in
    let counts = and_parts (leb c.lead 4096) (leb c.hold 4096) parts.0 in
    record {
      lead = leb-true c.lead 4096 counts.0;
      hold = leb-true c.hold 4096 counts.1;
      held = λ plain. eqb-true c.hold 0 (not_held (eqb c.hold 0) (is_extended c.discipline) parts.1 plain);
    }

pub valid_test : (c : Challenge) → IsChallenge c → is_challenge c ≡ true
valid_test c valid =
    and_from (leb c.lead 4096 && leb c.hold 4096) (eqb c.hold 0 || is_extended c.discipline)
    (and_from (leb c.lead 4096) (leb c.hold 4096) (le-leb c.lead 4096 valid.lead) (le-leb c.hold 4096 valid.hold))
    (held_from (eqb c.hold 0) (is_extended c.discipline) (λ plain. eq-eqb c.hold 0 (valid.held plain)))

-- ---- fields at their places

pub fields_again : (c : Challenge) → IsChallenge c → c.counter < 2 ^ 64 → fields_at (challenge_head c) c.discipline ≡ c
unfolding challenge_head u32_at u64_at
fields_again c valid counter =
    let lead : u32_at (challenge_head c) 8 ≡ c.lead = from_be_bytes-to_be_bytes_4 c.lead (omega (arith, valid.lead)) in
    let hold : u32_at (challenge_head c) 12 ≡ c.hold = from_be_bytes-to_be_bytes_4 c.hold (omega (arith, valid.hold)) in
    let count : u64_at (challenge_head c) 16 ≡ c.counter = from_be_bytes-to_be_bytes_8 c.counter counter in
    let made : ℕ → ℕ → ℕ → Challenge = λ l h n. record { discipline = c.discipline; lead = l; hold = h; counter = n; nonce = c.nonce } in
    ap (λ (l : ℕ). made l (u32_at (challenge_head c) 12) (u64_at (challenge_head c) 16)) lead
    ∙ ap (λ (h : ℕ). made c.lead h (u64_at (challenge_head c) 16)) hold
    ∙ ap (λ (n : ℕ). made c.lead c.hold n) count

code_at : (c : Challenge) → discipline_with (slice_index (challenge_head c) 4) ≡ Some c.discipline
unfolding challenge_head
code_at c = code_stands c.discipline

pub some_is : {A : Type 0} (x y : A) → Some x ≡ Some y → x ≡ y
some_is x y e = cc

spelled_parts : (head : List ℕ) (a b : Challenge) → if_spelled head a ≡ Some b → (a ≡ b) × IsChallenge a × (head ≡ challenge_head a)
spelled_parts head a b e =
    elim (cases_Bool (is_challenge a && bytes_eq (challenge_head a) head)) [
      | inl passes ↦
          let parts = and_parts (is_challenge a) (bytes_eq (challenge_head a) head) passes in
          let same : Some a ≡ Some b = sym (rw passes refl) ∙ e in
          (some_is a b same, valid_from a parts.0, sym ((bytes_eq-Decides (challenge_head a) head).0 parts.1))
      | inr fails ↦ absurd (let none : None ≡ Some b = sym (rw fails refl) ∙ e in cc)
    ]

found_with : (head : List ℕ) (c : Challenge) (d : Option Discipline) → option_and_then (λ discipline. if_spelled head (fields_at head discipline)) d ≡ Some c → (c.counter ≡ u64_at head 16) × IsChallenge c × (head ≡ challenge_head c)
found_with head c None e = absurd cc
found_with head c (Some d) e =
    let parts = spelled_parts head (fields_at head d) c e in
    subst (λ (a : Challenge). (a.counter ≡ u64_at head 16) × IsChallenge a × (head ≡ challenge_head a)) parts.0 (refl, parts.1, parts.2)

head_found : (head : List ℕ) (c : Challenge) → head_challenge head ≡ Some c → (c.counter ≡ u64_at head 16) × IsChallenge c × (head ≡ challenge_head c)
unfolding head_challenge
head_found head c e = found_with head c (discipline_with (slice_index head 4)) e

own_head : (c : Challenge) → IsChallenge c → if_spelled (challenge_head c) c ≡ Some c
own_head c valid =
    let passes : (is_challenge c && bytes_eq (challenge_head c) (challenge_head c)) ≡ true =
    and_from (is_challenge c) (bytes_eq (challenge_head c) (challenge_head c)) (valid_test c valid) ((bytes_eq-Decides (challenge_head c) (challenge_head c)).1 refl) in
    rw passes refl

head_again : (c : Challenge) → IsChallenge c → c.counter < 2 ^ 64 → head_challenge (challenge_head c) ≡ Some c
unfolding head_challenge
head_again c valid counter =
    ap (option_and_then (λ discipline. if_spelled (challenge_head c) (fields_at (challenge_head c) discipline))) (code_at c)
    ∙ ap (if_spelled (challenge_head c)) (fields_again c valid counter)
    ∙ own_head c valid

-- ---- 72 bytes

abbrev pub IsBytes : List ℕ → Type 0
IsBytes bytes = (i : ℕ) → get_or bytes i 0 < 256

IsBytes-drop : (n : ℕ) (bytes : List ℕ) → IsBytes bytes → IsBytes (drop n bytes)
IsBytes-drop n bytes h i = rw get_or-drop (h (n + i))

IsBytes-take : (n : ℕ) (bytes : List ℕ) → IsBytes bytes → IsBytes (take n bytes)
IsBytes-take n bytes h i =
    elim (cases_lt i n) [
      | inl lt ↦ rw (get_or-take n bytes i 0 lt) (h i)
      | inr le ↦ rw (get_or_past (take n bytes) i 0 (omega (arith, length-take n bytes))) (omega arith)
    ]

number_fits : (bytes : List ℕ) → IsBytes bytes → from_be_bytes w64 bytes < 2 ^ 64
number_fits bytes h = omega (arith, h 0, h 1, h 2, h 3, h 4, h 5, h 6, h 7)

number_at_fits : (bytes : List ℕ) (place : ℕ) → IsBytes bytes → u64_at bytes place < 2 ^ 64
unfolding u64_at
number_at_fits bytes place h = number_fits (drop place bytes) (IsBytes-drop place bytes h)

spelled_head : (bytes : List ℕ) (c : Challenge) → spelled_challenge bytes ≡ Some c → (length bytes ≡ 72) × (head_challenge (take 40 bytes) ≡ Some c)
unfolding spelled_challenge
spelled_head bytes c e =
    elim (cases_Bool (eqb (length bytes) 72)) [
      | inl long ↦ (eqb-true (length bytes) 72 long, sym (rw long refl) ∙ e)
      | inr other ↦ absurd (let none : None ≡ Some c = sym (rw other refl) ∙ e in cc)
    ]

spelled_is : (bytes : List ℕ) (c : Challenge) → IsBytes bytes → spelled_challenge bytes ≡ Some c → Spells bytes c
spelled_is bytes c fits e =
    let parts = spelled_head bytes c e in
    let found = head_found (take 40 bytes) c parts.1 in
    let head_fits : IsBytes (take 40 bytes) = IsBytes-take 40 bytes fits in
    record {
      size = parts.0;
      valid = found.1;
      counter = rw found.0 (number_at_fits (take 40 bytes) 16 head_fits);
      head = found.2;
    }

pub spelled_again : (bytes : List ℕ) (c : Challenge) → Spells bytes c → spelled_challenge bytes ≡ Some c
unfolding spelled_challenge
spelled_again bytes c spells =
    let long : eqb (length bytes) 72 ≡ true = eq-eqb (length bytes) 72 spells.size in
    rw (long, spells.head) (head_again c spells.valid spells.counter)

pub one_challenge : (bytes : List ℕ) (a b : Challenge) → Spells bytes a → Spells bytes b → a ≡ b
one_challenge bytes a b left right = some_is a b (sym (spelled_again bytes a left) ∙ spelled_again bytes b right)

-- ---- the MAC

with_right_mac : (key bytes : List ℕ) (c : Challenge) → Spells bytes c → hmac key (take 40 bytes) ≡ drop 40 bytes → bytes ≡ challenge_bytes key c
unfolding challenge_bytes
with_right_mac key bytes c spells mac =
    let parts : take 40 bytes ++ drop 40 bytes ≡ challenge_head c ++ hmac key (challenge_head c) =
    rw (← mac) (ap (λ (h : List ℕ). h ++ hmac key h) spells.head) in
    sym (take-append-drop 40 bytes) ∙ parts

right_mac : (key bytes : List ℕ) (c : Challenge) → Spells bytes c → bytes ≡ challenge_bytes key c → hmac key (take 40 bytes) ≡ drop 40 bytes
unfolding challenge_bytes
right_mac key bytes c spells e =
    let long : length (challenge_head c) ≡ 40 = sym (ap length spells.head) ∙ length-take-le 40 bytes (omega (arith, spells.size)) in
    let back : drop 40 bytes ≡ hmac key (challenge_head c) = ap (drop 40) e ∙ drop_at (challenge_head c) (hmac key (challenge_head c)) 40 long in
    ap (hmac key) spells.head ∙ sym back

decided : (key bytes : List ℕ) (spelled : Option Challenge) (right : Bool) → IsBytes bytes → spelled_challenge bytes ≡ spelled → bytes_eq (hmac key (take 40 bytes)) (drop 40 bytes) ≡ right → IsChallengeReading key bytes (with_mac spelled right)
decided key bytes None right fits none mac = λ c spells. (let both : None ≡ Some c = sym none ∙ spelled_again bytes c spells in absurd cc)
decided key bytes (Some c) true fits found mac =
    let spells = spelled_is bytes c fits found in
    (spells, with_right_mac key bytes c spells ((bytes_eq-Decides (hmac key (take 40 bytes)) (drop 40 bytes)).0 mac))
decided key bytes (Some c) false fits found mac =
    let spells = spelled_is bytes c fits found in
    (c, spells, λ e. both_ways _ mac ((bytes_eq-Decides (hmac key (take 40 bytes)) (drop 40 bytes)).1 (right_mac key bytes c spells e)))

pub reading : (key bytes : List ℕ) → IsBytes bytes → IsChallengeReading key bytes (challenge_in key bytes)
unfolding challenge_in
reading key bytes fits = decided key bytes (spelled_challenge bytes) (bytes_eq (hmac key (take 40 bytes)) (drop 40 bytes)) fits refl refl

pub reading_of : (key bytes : List ℕ) (r : Result Challenge ChallengeFault) → IsBytes bytes → r ≡ challenge_in key bytes → IsChallengeReading key bytes r
reading_of key bytes r fits value = subst (IsChallengeReading key bytes) (sym value) (reading key bytes fits)

-- ---- what is written is read

pub written_is_read : (key : List ℕ) (c : Challenge) (head mac : List ℕ) → IsChallenge c → c.counter < 2 ^ 64 → head ≡ challenge_head c → mac ≡ hmac key head → length head ≡ 40 → length mac ≡ 32 → challenge_in key (head ++ mac) ≡ Ok c
unfolding challenge_in
written_is_read key c head mac valid counter head-is mac-is head-length mac-length =
    let front : take 40 (head ++ mac) ≡ head = take_at head mac 40 head-length in
    let spells : Spells (head ++ mac) c = record {
      size = omega (arith, length-append head mac, head-length, mac-length);
      valid = valid;
      counter = counter;
      head = front ∙ head-is;
    } in
    let right : bytes_eq (hmac key (take 40 (head ++ mac))) (drop 40 (head ++ mac)) ≡ true =
    (bytes_eq-Decides _ _).1 (ap (hmac key) front ∙ sym mac-is ∙ sym (drop_at head mac 40 head-length)) in
    rw (spelled_again (head ++ mac) c spells, right) refl

-- ---- what the code reads

pub head_is : (head : List ℕ) (d : Discipline) (o : Option Discipline) (lead hold counter : ℕ) (nonce : List ℕ) (r : Option Challenge) → o ≡ discipline_with (slice_index head 4) → o ≡ Some d → lead ≡ u32_at head 8 → hold ≡ u32_at head 12 → counter ≡ u64_at head 16 → nonce ≡ drop 24 head → r ≡ if_spelled head (record { discipline = d; lead = lead; hold = hold; counter = counter; nonce = nonce }) → r ≡ head_challenge head
unfolding head_challenge
head_is head d o lead hold counter nonce r code found lead-is hold-is counter-is nonce-is r-is =
    let at_code : discipline_with (slice_index head 4) ≡ Some d = sym code ∙ found in
    rw (at_code, ← lead-is, ← hold-is, ← counter-is, ← nonce-is) r-is
