-- Memory's bytes, segment by segment.
use Rattle.std.proofs.Common.{◌≡◌, ℕ, zero, suc, ◌+◌, ◌-◌, ◌<◌, ◌≤◌, Bool, true, false, ◌&&◌, ◌||◌, cond, nat_le, nat_lt, if◌then◌else◌, List, [], ◌∷◌, ◌++◌, length, take, drop, slice_index, get_or, replicate, Option, Some, None, ◌⊎◌, inl, inr, refl, sym, ap, ◌∙◌, arith}
use Rattle.std.specs.Prelude.{All, find}
use Rattle.std.specs.List.{list_any, AllByRecursion}
use Rattle.std.proofs.lemmas.Bool.Decides.{nat_tests}
use Rattle.std.proofs.lemmas.Bool.{cases_lt}
use Rattle.std.proofs.lemmas.List.{drop_more, get_or_past}
use Rattle.std.proofs.lemmas.List.Elements.{All-nil, All-head, All-tail, All-push, All-from_recursion}
use Rattle.std.proofs.lemmas.List.Folds.{list_any-append, list_any_none}
use Rattle.history.specs.Layout.{Layout, byte_count, past_end}
use Rattle.history.specs.Memory.{Memory, bytes_from}
use Rattle.elf32.specs.Files.{FileSegment}
use Rattle.loader.specs.declared.spans.Span.{Span}
use Rattle.loader.specs.Placing.{Test, Holds, spans_byte, byte_at, overlaps, is_inside, span, spans, segments, placed_byte, image_of}
use Rattle.loader.specs.Steps.{Writes}
use Rattle.loader.specs.Placing.Test.{TrySegment, TryEntry}

bool_cases : (b : Bool) → (b ≡ true) ⊎ (b ≡ false)
bool_cases true = inl refl
bool_cases false = inr refl

or_parts : (a b : Bool) → (a || b) ≡ false → (a ≡ false) × (b ≡ false)
or_parts true b h = absurd cc
or_parts false b h = (refl, h)

clash : (b : Bool) → b ≡ true → b ≡ false → ⊥
clash true h k = cc
clash false h k = cc

-- two segments that share no byte cover no address both
apart : (a al b bl x : ℕ) → (nat_lt a (b + bl) && nat_lt b (a + al)) ≡ false → (nat_le a x && nat_lt x (a + al)) ≡ true → (nat_le b x && nat_lt x (b + bl)) ≡ false
apart a al b bl x no' here = grind (arith, nat_tests)

-- each of these segments shares no byte with s
abbrev pub Apart : FileSegment → FileSegment → Type 0
Apart s other = (x : ℕ) → spans_byte other x ≡ true → spans_byte s x ≡ false

none_found : (p : Span → Bool) (e : Span) (rest : List Span) → cond (p e) (Some e) (find p rest) ≡ None → (p e ≡ false) × (find p rest ≡ None)
none_found p e rest h = parts (p e) e (find p rest) h
  where
    parts : (b : Bool) (x : Span) (o : Option Span) → cond b (Some x) o ≡ None → (b ≡ false) × (o ≡ None)
    parts true x o k = absurd cc
    parts false x o k = (refl, k)

all_apart' : (done : List Test) (app number : ℕ) (s : FileSegment) → find (λ e. overlaps e (span app number s)) (spans done) ≡ None → AllByRecursion (Apart s) (segments done)
all_apart' [] app number s h = tt
all_apart' (TrySegment a n other ∷ done) app number s h =
    let both = none_found (λ e. overlaps e (span app number s)) (span a n other) (spans done) h in
    (λ x here. apart other.addr other.size s.addr s.size x both.0 here, all_apart' done app number s both.1)
all_apart' (TryEntry a entry ∷ done) app number s h = all_apart' done app number s h

all_apart : (done : List Test) (app number : ℕ) (s : FileSegment) → find (λ e. overlaps e (span app number s)) (spans done) ≡ None → All (Apart s) (segments done)
all_apart done app number s h = All-from_recursion (Apart s) (segments done) (all_apart' done app number s h)

-- ---- one segment is put

same_test : (base addr x n : ℕ) → base ≤ addr → base ≤ x → (nat_le (addr - base) (x - base) && nat_lt (x - base) (addr - base + n)) ≡ (nat_le addr x && nat_lt x (addr + n))
same_test base addr x n low here = grind (arith, nat_tests)

covered_above : (addr size x : ℕ) → (nat_le addr x && nat_lt x (addr + size)) ≡ true → (addr ≤ x) × (x < addr + size)
covered_above addr size x h = (grind (arith, nat_tests), grind (arith, nat_tests))

not_written : (addr size n x : ℕ) → n ≤ size → (nat_le addr x && nat_lt x (addr + size)) ≡ false → (nat_le addr x && nat_lt x (addr + n)) ≡ false
not_written addr size n x le no' = grind (arith, nat_tests)

written : (addr n x : ℕ) → addr ≤ x → x < addr + n → (nat_le addr x && nat_lt x (addr + n)) ≡ true
written addr n x low high = grind (arith, nat_tests)

not_reached : (addr n x : ℕ) → addr + n ≤ x → (nat_le addr x && nat_lt x (addr + n)) ≡ false
not_reached addr n x past = grind (arith, nat_tests)

inside_parts : (base addr size past : ℕ) → (nat_le base addr && nat_le (addr + size) past) ≡ true → (base ≤ addr) × (addr + size ≤ past)
inside_parts base addr size past h = (grind (arith, nat_tests), grind (arith, nat_tests))

written_byte : (base addr x : ℕ) (bytes old new : List ℕ) → Writes base addr bytes old new → base ≤ addr → base ≤ x
    → slice_index new (x - base) ≡ (if nat_le addr x && nat_lt x (addr + length bytes) then slice_index bytes (x - addr) else slice_index old (x - base))
written_byte base addr x bytes old new w low here =
    let moved : x - base - (addr - base) ≡ x - addr = omega arith in
    w.each (x - base)
    ∙ ap (λ (k : ℕ). if nat_le (addr - base) (x - base) && nat_lt (x - base) (addr - base + length bytes) then slice_index bytes k else slice_index old (x - base)) moved
    ∙ ap (λ (b : Bool). if b then slice_index bytes (x - addr) else slice_index old (x - base)) (same_test base addr x (length bytes) low here)

kept_byte : (base addr x : ℕ) (bytes old new : List ℕ) → Writes base addr bytes old new → base ≤ addr → base ≤ x → (nat_le addr x && nat_lt x (addr + length bytes)) ≡ false → slice_index new (x - base) ≡ slice_index old (x - base)
kept_byte base addr x bytes old new w low here no' =
    written_byte base addr x bytes old new w low here ∙ ap (λ (b : Bool). if b then slice_index bytes (x - addr) else slice_index old (x - base)) no'

put_byte : (base addr x : ℕ) (bytes old new : List ℕ) → Writes base addr bytes old new → base ≤ addr → base ≤ x → (nat_le addr x && nat_lt x (addr + length bytes)) ≡ true → slice_index new (x - base) ≡ slice_index bytes (x - addr)
put_byte base addr x bytes old new w low here yes' =
    written_byte base addr x bytes old new w low here ∙ ap (λ (b : Bool). if b then slice_index bytes (x - addr) else slice_index old (x - base)) yes'

pub holds_none : (l : Layout) (image : List ℕ) → image ≡ replicate (byte_count l) 0 → length image ≡ byte_count l → Holds l image []
holds_none l image zeros count = record {
  count = count;
  inside = All-nil (λ s. (l.base ≤ s.addr) × (s.addr + s.size ≤ past_end l));
  covered = All-nil (λ s. (x : ℕ) → spans_byte s x ≡ true → slice_index image (x - l.base) ≡ byte_at s x);
  empty = λ x low high no'. ap (λ (xs : List ℕ). slice_index xs (x - l.base)) zeros ∙ zero_at (byte_count l) (x - l.base);
}
  where
    zero_at : (n k : ℕ) → slice_index (replicate n 0) k ≡ 0
    zero_at zero k = refl
    zero_at (suc n) zero = refl
    zero_at (suc n) (suc k) = zero_at n k

-- no earlier segment covers an address that s covers
not_earlier : (ss : List FileSegment) (s : FileSegment) (x : ℕ) → All (Apart s) ss → spans_byte s x ≡ true → list_any (λ t. spans_byte t x) ss ≡ false
not_earlier ss s x apart_all here =
    list_any_none (λ t. spans_byte t x) ss (λ k d lt.
    elim (bool_cases (spans_byte (get_or ss k d) x)) [
      | inl other ↦ absurd (clash (spans_byte s x) here (apart_all k d lt x other))
      | inr no' ↦ no'
    ])

-- the segment's own bytes
own_bytes : (l : Layout) (old new : List ℕ) (ss : List FileSegment) (s : FileSegment) → Holds l old ss → l.base ≤ s.addr → s.addr + s.size ≤ past_end l → All (Apart s) ss → Writes l.base s.addr s.bytes old new
    → (x : ℕ) → spans_byte s x ≡ true → slice_index new (x - l.base) ≡ byte_at s x
own_bytes l old new ss s was low high apart_all w x here =
    let at = covered_above s.addr s.size x here in
    let from : l.base ≤ x = omega (arith, at.0) in
    elim (cases_lt x (s.addr + length s.bytes)) [
      | inl within ↦ put_byte l.base s.addr x s.bytes old new w low from (written s.addr (length s.bytes) x at.0 within)
      | inr past ↦
          let nothing : byte_at s x ≡ 0 = get_or_past s.bytes (x - s.addr) 0 (omega (arith, past)) in
          kept_byte l.base s.addr x s.bytes old new w low from (not_reached s.addr (length s.bytes) x past)
          ∙ was.empty x from (omega (arith, at.1, high)) (not_earlier ss s x apart_all here)
          ∙ sym nothing
    ]

pub holds_more : (l : Layout) (old new : List ℕ) (done : List Test) (app number : ℕ) (s : FileSegment) → Holds l old (segments done)
    → is_inside l (span app number s) ≡ true → find (λ e. overlaps e (span app number s)) (spans done) ≡ None → length s.bytes ≤ s.size → Writes l.base s.addr s.bytes old new
    → Holds l new (segments done ++ s ∷ [])
holds_more l old new done app number s was within free fits w =
    let ss = segments done in
    let bounds = inside_parts l.base s.addr s.size (past_end l) within in
    let apart_all = all_apart done app number s free in
    let earlier : All (λ t. (x : ℕ) → spans_byte t x ≡ true → slice_index new (x - l.base) ≡ byte_at t x) ss = λ k d lt x here.
    (let t : FileSegment = get_or ss k d in
    let at = covered_above t.addr t.size x here in
    let low : l.base ≤ x = omega (arith, at.0, (was.inside k d lt).0) in
    kept_byte l.base s.addr x s.bytes old new w bounds.0 low (not_written s.addr s.size (length s.bytes) x fits (apart_all k d lt x here)) ∙ was.covered k d lt x here) in
    record {
      count = w.count ∙ was.count;
      inside = All-push (λ t. (l.base ≤ t.addr) × (t.addr + t.size ≤ past_end l)) ss s was.inside bounds;
      covered = All-push (λ t. (x : ℕ) → spans_byte t x ≡ true → slice_index new (x - l.base) ≡ byte_at t x) ss s earlier (own_bytes l old new ss s was bounds.0 bounds.1 apart_all w);
      empty = λ x low high no'.
          (let parts = or_parts (list_any (λ t. spans_byte t x) ss) (spans_byte s x || false) (sym (list_any-append (λ t. spans_byte t x) ss (s ∷ [])) ∙ no') in
          let own = or_parts (spans_byte s x) false parts.1 in
          kept_byte l.base s.addr x s.bytes old new w bounds.0 low (not_written s.addr s.size (length s.bytes) x fits own.0) ∙ was.empty x low high parts.0);
    }

-- ---- the image as one list

byte_is : (ss : List FileSegment) (x v : ℕ) → All (λ s. spans_byte s x ≡ true → v ≡ byte_at s x) ss → (list_any (λ s. spans_byte s x) ss ≡ false → v ≡ 0) → v ≡ placed_byte ss x
unfolding placed_byte
byte_is [] x v own none = none refl
byte_is (s ∷ ss) x v own none =
    elim (bool_cases (spans_byte s x)) [
      | inl here ↦ All-head (λ t. spans_byte t x ≡ true → v ≡ byte_at t x) s ss own here ∙ sym (ap (λ (b : Bool). if b then byte_at s x else placed_byte ss x) here)
      | inr no' ↦
          let any : list_any (λ t. spans_byte t x) ss ≡ false → list_any (λ t. spans_byte t x) (s ∷ ss) ≡ false = λ rest. ap (λ (b : Bool). b || list_any (λ t. spans_byte t x) ss) no' ∙ rest in
          byte_is ss x v (All-tail (λ t. spans_byte t x ≡ true → v ≡ byte_at t x) s ss own) (λ rest. none (any rest))
          ∙ sym (ap (λ (b : Bool). if b then byte_at s x else placed_byte ss x) no')
    ]

same_bytes : (m n : Memory) (x count : ℕ) → ((y : ℕ) → x ≤ y → y < x + count → m y ≡ n y) → bytes_from m x count ≡ bytes_from n x count
same_bytes m n x zero h = refl
same_bytes m n x (suc count) h =
    let rest : bytes_from m (x + 1) count ≡ bytes_from n (x + 1) count = same_bytes m n (x + 1) count (λ y low high. h y (omega arith) (omega arith)) in
    let here : m x ≡ n x = h x (omega arith) (omega arith) in
    cc

list_bytes : (bytes : List ℕ) (base at count : ℕ) → at + count ≤ length bytes → bytes_from (λ x. slice_index bytes (x - base)) (base + at) count ≡ take count (drop at bytes)
list_bytes bytes base at zero h = refl
list_bytes bytes base at (suc count) h =
    let m : Memory = λ x. slice_index bytes (x - base) in
    let place : base + at - base ≡ at = omega arith in
    let here : m (base + at) ≡ get_or bytes at 0 = ap (λ k. slice_index bytes k) place in
    let next : bytes_from m (base + at + 1) count ≡ bytes_from m (base + (at + 1)) count = ap (λ x. bytes_from m x count) (omega arith) in
    let rest : bytes_from m (base + (at + 1)) count ≡ take count (drop (at + 1) bytes) = list_bytes bytes base (at + 1) count (omega arith) in
    let split : drop at bytes ≡ get_or bytes at 0 ∷ drop (at + 1) bytes = drop_more bytes at 0 (omega arith) in
    rw split (cc)

take_whole : (xs : List ℕ) → take (length xs) xs ≡ xs
take_whole [] = refl
take_whole (x ∷ xs) = ap (λ (ys : List ℕ). x ∷ ys) (take_whole xs)

pub image_is : (l : Layout) (image : List ℕ) (ss : List FileSegment) → Holds l image ss → image ≡ image_of l ss
unfolding image_of
image_is l image ss held =
    let read : bytes_from (λ x. slice_index image (x - l.base)) (l.base + 0) (byte_count l) ≡ take (byte_count l) (drop 0 image) = list_bytes image l.base 0 (byte_count l) (omega (arith, held.count)) in
    let all : take (byte_count l) (drop 0 image) ≡ image = ap (λ (n : ℕ). take n image) (sym held.count) ∙ take_whole image in
    let from : l.base + 0 ≡ l.base = omega arith in
    sym all ∙ sym read
    ∙ ap (λ (n : ℕ). bytes_from (λ x. slice_index image (x - l.base)) n (byte_count l)) from
    ∙ same_bytes (λ x. slice_index image (x - l.base)) (placed_byte ss) l.base (byte_count l) (λ x low high.
    byte_is ss x (slice_index image (x - l.base)) (λ k d lt. held.covered k d lt x) (held.empty x low (omega (arith, high))))
