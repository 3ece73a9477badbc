-- A text is that of one trace at most: each line says one thing, from the first on.
use Rattle.std.proofs.Common.{◌≡◌, ◌==◌, ℕ, zero, suc, ◌+◌, ◌-◌, ◌*◌, ◌^◌, ◌<◌, ◌≤◌, min, Bool, true, false, List, [], ◌∷◌, ◌++◌, length, map, take, drop, get_or, codes, All, refl, sym, ap, ◌∙◌, arith, inl, inr, append_assoc, length-take, length-drop, take_all, lit<}
use Rattle.std.specs.Prelude.{if◌then◌else◌}
use Rattle.std.specs.Char.{digit_value}
use Rattle.std.specs.List.{flat_map, range_with_len, concat, AllByRecursion}
use Rattle.std.specs.Fork.{slice_chunk}
use Rattle.std.specs.Slice.Iter.{chunk_count}
use Rattle.std.specs.Fmt.{decimal}
use Rattle.std.proofs.Math.Nat.{pow-le-pow_right, mul-le-mul_left}
use Rattle.std.proofs.lemmas.Bool.{cases_lt}
use Rattle.std.proofs.lemmas.List.{drop-drop, get_or_past}
use Rattle.std.proofs.lemmas.List.Elements.{All-take, All-drop, recursion_from_All}
use Rattle.hex.specs.Hex.{IsBytes, encode_lower}
use Rattle.history.specs.declared.events.Entry.{Entry}
use Rattle.history.specs.declared.ranges.Range.{Range}
use Rattle.history.specs.Attested.{AreApart, last_end}
use Rattle.history.specs.Layout.{Layout, Setting, IsLayout, IsSetting, byte_count}
use Rattle.text_readers.specs.Digits.{word_digits}
use Rattle.trace.specs.Text.{text_of_lines, pieces_of, entry_text, entries_text, version_line, memory_line, range_pair, attest_line, cap_line, head_lines, image_lines, end_line, trace_lines, trace_text}
use Rattle.trace.specs.Printable.{IsPrintable}
use Rattle.trace.proofs.Pieces.{take_twice, lines_append}
use Rattle.trace.proofs.Unique.{regroup, same_front, number_front, digits_same, word_front, entry_front, entry_first}

-- each range is of low blocks
abbrev pub IsLow : Range → Type 0
IsLow r = (r.first ≤ 4096) × (r.attested ≤ 4096)

pub ranges_low : (ranges : List Range) → AreApart ranges → last_end ranges ≤ 4096 → AllByRecursion IsLow ranges
ranges_low [] apart low = tt
ranges_low (r ∷ []) apart low = ((omega (arith, low), omega (arith, low)), tt)
ranges_low (r ∷ q ∷ more) apart low =
    let rest = ranges_low (q ∷ more) apart.2 low in
    ((omega (arith, apart.1, rest.0.0), omega (arith, apart.1, rest.0.0)), rest)

-- behind the ranges comes no digit
pub ranges_begin : (ranges : List Range) (r : List ℕ) → (c : ℕ) × (t : List ℕ) × (10 ≤ digit_value c) × (flat_map range_pair ranges ++ 10 ∷ r ≡ c ∷ t)
ranges_begin [] r = (10, r, omega arith, refl)
ranges_begin (q ∷ more) r = (32, drop 1 (flat_map range_pair (q ∷ more) ++ 10 ∷ r), omega arith, refl)

-- a range before the others
pub range_regroup : (q : Range) (more t : List ℕ) → (range_pair q ++ more) ++ t ≡ 32 ∷ (decimal q.first ++ 32 ∷ (decimal q.attested ++ (more ++ t)))
range_regroup q more t = append_assoc (range_pair q) more t ∙ ap (λ l. 32 ∷ l) (regroup 32 (decimal q.first) (decimal q.attested) (more ++ t))

pub ranges_front : (xs ys : List Range) (r s : List ℕ) → AllByRecursion IsLow xs → AllByRecursion IsLow ys → flat_map range_pair xs ++ 10 ∷ r ≡ flat_map range_pair ys ++ 10 ∷ s → (xs ≡ ys) × (r ≡ s)
ranges_front [] [] r s p q h = (refl, ap (drop 1) h)
ranges_front [] (y ∷ ys) r s p q h = let first : 10 ≡ 32 = ap (λ l. get_or l 0 0) h in absurd (omega (arith, first))
ranges_front (x ∷ xs) [] r s p q h = let first : 32 ≡ 10 = ap (λ l. get_or l 0 0) h in absurd (omega (arith, first))
ranges_front (x ∷ xs) (y ∷ ys) r s p q h =
    let a = flat_map range_pair xs ++ 10 ∷ r in
    let b = flat_map range_pair ys ++ 10 ∷ s in
    let same : decimal x.first ++ 32 ∷ (decimal x.attested ++ a) ≡ decimal y.first ++ 32 ∷ (decimal y.attested ++ b) =
    ap (drop 1) (sym (range_regroup x (flat_map range_pair xs) (10 ∷ r)) ∙ h ∙ range_regroup y (flat_map range_pair ys) (10 ∷ s)) in
    let first = number_front x.first y.first 32 32 (decimal x.attested ++ a) (decimal y.attested ++ b) (omega (arith, p.0.0)) (omega (arith, q.0.0)) (omega arith) (omega arith) same in
    let begins = ranges_begin xs r in
    let others = ranges_begin ys s in
    let second : decimal x.attested ++ begins.0 ∷ begins.1 ≡ decimal y.attested ++ others.0 ∷ others.1 =
    ap (λ l. decimal x.attested ++ l) (sym begins.3) ∙ ap (drop 1) first.1 ∙ ap (λ l. decimal y.attested ++ l) others.3 in
    let attested = number_front x.attested y.attested begins.0 others.0 begins.1 others.1 (omega (arith, p.0.1)) (omega (arith, q.0.1)) begins.2 others.2 second in
    let rest = ranges_front xs ys r s p.1 q.1 (begins.3 ∙ attested.1 ∙ sym others.3) in
    let range : x ≡ y = ap (λ (n : ℕ). let g : Range = record { first = n; attested = x.attested } in g) first.0 ∙ ap (λ (n : ℕ). let g : Range = record { first = y.first; attested = n } in g) attested.0 in
    (ap (λ z. z ∷ xs) range ∙ ap (λ z. y ∷ z) rest.0, rest.1)

-- a layout's numbers are low
pub block_low : (size : ℕ) → (exponent : ℕ) × (4 ≤ exponent) × (exponent ≤ 16) × (size ≡ 2 ^ exponent) → (1 ≤ size) × (size ≤ 65536)
block_low size is =
    let least : 0 ≤ is.0 = omega arith in
    let low : 2 ^ 0 ≤ 2 ^ is.0 = pow-le-pow_right {n = 2} (lit< tt) least in
    let high : 2 ^ is.0 ≤ 2 ^ 16 = pow-le-pow_right {n = 2} (lit< tt) is.2 in
    (omega (arith, low, is.3), omega (arith, high, is.3))

pub base_low : (l : Layout) → IsLayout l → l.base < 2 ^ 32
base_low l v =
    let some : l.size * 1 ≤ l.size * l.blocks = mul-le-mul_left l.size v.some_block in
    omega (arith, some, (block_low l.size v.block_size).0, v.in_space)

pub memory_regroup : (l : Layout) (r : List ℕ) → drop 7 (memory_line l ++ 10 ∷ r) ≡ word_digits l.base ++ 32 ∷ (decimal l.size ++ 32 ∷ (decimal l.blocks ++ 10 ∷ r))
memory_regroup l r =
    regroup 32 ((word_digits l.base ++ 32 ∷ []) ++ decimal l.size) (decimal l.blocks) (10 ∷ r)
    ∙ regroup 32 (word_digits l.base) (decimal l.size) (32 ∷ (decimal l.blocks ++ 10 ∷ r))

pub memory_front : (l m : Layout) (r s : List ℕ) → IsLayout l → IsLayout m → memory_line l ++ 10 ∷ r ≡ memory_line m ++ 10 ∷ s → (l ≡ m) × (r ≡ s)
memory_front l m r s p q h =
    let same = sym (memory_regroup l r) ∙ ap (drop 7) h ∙ memory_regroup m s in
    let sizes = block_low l.size p.block_size in
    let others = block_low m.size q.block_size in
    let base = word_front l.base m.base (32 ∷ (decimal l.size ++ 32 ∷ (decimal l.blocks ++ 10 ∷ r))) (32 ∷ (decimal m.size ++ 32 ∷ (decimal m.blocks ++ 10 ∷ s))) (base_low l p) (base_low m q) same in
    let size = number_front l.size m.size 32 32 (decimal l.blocks ++ 10 ∷ r) (decimal m.blocks ++ 10 ∷ s) (omega (arith, sizes.1)) (omega (arith, others.1)) (omega arith) (omega arith) (ap (drop 1) base.1) in
    let blocks = number_front l.blocks m.blocks 10 10 r s (omega (arith, p.few_blocks)) (omega (arith, q.few_blocks)) (omega arith) (omega arith) (ap (drop 1) size.1) in
    let e1 : l ≡ record { base = m.base; size = l.size; blocks = l.blocks } = ap (λ (n : ℕ). let g : Layout = record { base = n; size = l.size; blocks = l.blocks } in g) base.0 in
    let e2 = ap (λ (n : ℕ). let g : Layout = record { base = m.base; size = n; blocks = l.blocks } in g) size.0 in
    let e3 = ap (λ (n : ℕ). let g : Layout = record { base = m.base; size = m.size; blocks = n } in g) blocks.0 in
    (e1 ∙ e2 ∙ e3, ap (drop 1) blocks.1)

pub version_length : (ranges : List Range) → length (version_line ranges) ≡ 4
version_length ranges = four (length ranges == 1)
  where
    four : (one : Bool) → length (if one then codes "TMT1" else codes "TMT2") ≡ 4
    four true = refl
    four false = refl

-- the four lines of a head
pub head_regroup : (w : Setting) (t : List ℕ) → text_of_lines (head_lines w) ++ t
    ≡ version_line w.ranges ++ 10 ∷ (memory_line w.layout ++ 10 ∷ (attest_line w.ranges ++ 10 ∷ (cap_line w.cap ++ 10 ∷ t)))
unfolding head_lines
head_regroup w t =
    let v = version_line w.ranges in
    let m = memory_line w.layout in
    let a = attest_line w.ranges in
    let c = cap_line w.cap in
    let x3 = (c ++ 10 ∷ []) ++ [] in
    let x2 = (a ++ 10 ∷ []) ++ x3 in
    let x1 = (m ++ 10 ∷ []) ++ x2 in
    regroup 10 v x1 t ∙ ap (λ l. v ++ 10 ∷ l) (regroup 10 m x2 t ∙ ap (λ l. m ++ 10 ∷ l) (regroup 10 a x3 t ∙ ap (λ l. a ++ 10 ∷ l) (regroup 10 c [] t)))

-- what a head says
pub record SameHead (w u : Setting) (r s : List ℕ) : Type 0 where
  pub layout : w.layout ≡ u.layout
  pub ranges : w.ranges ≡ u.ranges
  pub cap : w.cap ≡ u.cap
  pub rest : r ≡ s

pub head_front : (w u : Setting) (r s : List ℕ) → IsSetting w → IsSetting u → text_of_lines (head_lines w) ++ r ≡ text_of_lines (head_lines u) ++ s → SameHead w u r s
head_front w u r s p q h =
    let caps = cap_line w.cap ++ 10 ∷ r in
    let others = cap_line u.cap ++ 10 ∷ s in
    let attests = attest_line w.ranges ++ 10 ∷ caps in
    let attested = attest_line u.ranges ++ 10 ∷ others in
    let same = sym (head_regroup w r) ∙ h ∙ head_regroup u s in
    let version = same_front (version_line w.ranges) (version_line u.ranges) (10 ∷ (memory_line w.layout ++ 10 ∷ attests)) (10 ∷ (memory_line u.layout ++ 10 ∷ attested)) (version_length w.ranges ∙ sym (version_length u.ranges)) same in
    let memory = memory_front w.layout u.layout attests attested p.layout q.layout (ap (drop 1) version.1) in
    let ranges = ranges_front w.ranges u.ranges caps others (ranges_low w.ranges p.ranges.apart p.ranges.low) (ranges_low u.ranges q.ranges.apart q.ranges.low) (ap (drop 6) memory.1) in
    let cap = number_front w.cap u.cap 10 10 r s (omega (arith, p.few_entries)) (omega (arith, q.few_entries)) (omega arith) (omega arith) (ap (drop 4) ranges.1) in
    record { layout = memory.0; ranges = ranges.0; cap = cap.0; rest = ap (drop 1) cap.1 }

pub bytes_of_all : (xs : List ℕ) → All (λ byte. byte < 256) xs → IsBytes xs
bytes_of_all xs h i = elim (cases_lt i (length xs)) [
  | inl inside ↦ h i 0 inside
  | inr past ↦ rw (get_or_past xs i 0 past) (omega arith)
]

chunk_bytes : (xs : List ℕ) (size n : ℕ) → All (λ byte. byte < 256) xs → IsBytes (slice_chunk xs size n)
chunk_bytes xs size n h = bytes_of_all (slice_chunk xs size n) (All-take (λ byte. byte < 256) size (drop (n * size) xs) (All-drop (λ byte. byte < 256) (n * size) xs h))

chunk_length : (xs : List ℕ) (size n : ℕ) → length (slice_chunk xs size n) ≡ min size (length xs - n * size)
chunk_length xs size n = length-take size (drop (n * size) xs) ∙ ap (λ k. min size k) (length-drop (n * size) xs)

-- the lines of two images of the same length
image_front : (xs ys : List ℕ) (r s : List ℕ) → All (λ byte. byte < 256) xs → All (λ byte. byte < 256) ys → length xs ≡ length ys → (a n : ℕ)
    → text_of_lines (map encode_lower (map (slice_chunk xs 32) (range_with_len a n))) ++ r ≡ text_of_lines (map encode_lower (map (slice_chunk ys 32) (range_with_len a n))) ++ s
    → (map (slice_chunk xs 32) (range_with_len a n) ≡ map (slice_chunk ys 32) (range_with_len a n)) × (r ≡ s)
image_front xs ys r s p q same a zero h = (refl, h)
image_front xs ys r s p q same a (suc n) h =
    let x = slice_chunk xs 32 a in
    let y = slice_chunk ys 32 a in
    let more = text_of_lines (map encode_lower (map (slice_chunk xs 32) (range_with_len (a + 1) n))) in
    let others = text_of_lines (map encode_lower (map (slice_chunk ys 32) (range_with_len (a + 1) n))) in
    let lines : encode_lower x ++ 10 ∷ (more ++ r) ≡ encode_lower y ++ 10 ∷ (others ++ s) = sym (regroup 10 (encode_lower x) more r) ∙ h ∙ regroup 10 (encode_lower y) others s in
    let lengths : length x ≡ length y = chunk_length xs 32 a ∙ ap (λ k. min 32 (k - a * 32)) same ∙ sym (chunk_length ys 32 a) in
    let first = digits_same x y (10 ∷ (more ++ r)) (10 ∷ (others ++ s)) (chunk_bytes xs 32 a p) (chunk_bytes ys 32 a q) lengths lines in
    let rest = image_front xs ys r s p q same (a + 1) n (ap (drop 1) first.1) in
    (ap (λ z. z ∷ map (slice_chunk xs 32) (range_with_len (a + 1) n)) first.0 ∙ ap (λ z. y ∷ z) rest.0, rest.1)

-- pieces in a row
pieces_whole : (xs : List ℕ) (size a n : ℕ) → concat (map (slice_chunk xs size) (range_with_len a n)) ≡ take (n * size) (drop (a * size) xs)
pieces_whole xs size a zero = let none : zero * size ≡ 0 = omega arith in rw none refl
pieces_whole xs size a (suc n) =
    let ys = drop (a * size) xs in
    let sizes : suc n * size ≡ size + n * size = omega arith in
    let place : (a + 1) * size ≡ a * size + size = omega arith in
    let rest : drop ((a + 1) * size) xs ≡ drop size ys = ap (λ m. drop m xs) place ∙ sym (drop-drop size (a * size) xs) in
    ap (λ t. take size ys ++ t) (pieces_whole xs size (a + 1) n ∙ ap (λ l. take (n * size) l) rest) ∙ sym (ap (λ m. take m ys) sizes ∙ take_twice size (n * size) ys)

image_whole : (xs : List ℕ) → concat (pieces_of 32 xs) ≡ xs
image_whole xs =
    let count = chunk_count (length xs) 32 in
    let enough : length xs ≤ count * 32 = omega arith in
    pieces_whole xs 32 0 count ∙ take_all (count * 32) xs enough

pub image_same : (xs ys : List ℕ) (r s : List ℕ) → All (λ byte. byte < 256) xs → All (λ byte. byte < 256) ys → length xs ≡ length ys → text_of_lines (image_lines xs) ++ r ≡ text_of_lines (image_lines ys) ++ s → (xs ≡ ys) × (r ≡ s)
unfolding image_lines
image_same xs ys r s p q same h =
    let count = chunk_count (length xs) 32 in
    let counts : chunk_count (length ys) 32 ≡ count = ap (λ n. chunk_count n 32) (sym same) in
    let lines = h ∙ ap (λ n. text_of_lines (map encode_lower (map (slice_chunk ys 32) (range_with_len 0 n))) ++ s) counts in
    let e = image_front xs ys r s p q same 0 count lines in
    (sym (image_whole xs) ∙ ap concat e.0 ∙ ap (λ n. concat (map (slice_chunk ys 32) (range_with_len 0 n))) (sym counts) ∙ image_whole ys, e.1)

-- entries, before a line that begins with a letter
entries_front : (xs ys : List Entry) (r s : List ℕ) → AllByRecursion IsPrintable xs → AllByRecursion IsPrintable ys → entries_text xs ++ 101 ∷ r ≡ entries_text ys ++ 101 ∷ s → xs ≡ ys
entries_front [] [] r s p q h = refl
entries_front [] (y ∷ ys) r s p q h =
    let first = entry_first y (10 ∷ (entries_text ys ++ 101 ∷ s)) q.0 in
    let here : 101 ≡ get_or (entry_text y ++ 10 ∷ (entries_text ys ++ 101 ∷ s)) 0 0 = ap (λ l. get_or l 0 0) (h ∙ regroup 10 (entry_text y) (entries_text ys) (101 ∷ s)) in
    absurd (omega (arith, first, here))
entries_front (x ∷ xs) [] r s p q h =
    let first = entry_first x (10 ∷ (entries_text xs ++ 101 ∷ r)) p.0 in
    let here : 101 ≡ get_or (entry_text x ++ 10 ∷ (entries_text xs ++ 101 ∷ r)) 0 0 = ap (λ l. get_or l 0 0) (sym h ∙ regroup 10 (entry_text x) (entries_text xs) (101 ∷ r)) in
    absurd (omega (arith, first, here))
entries_front (x ∷ xs) (y ∷ ys) r s p q h =
    let same = sym (regroup 10 (entry_text x) (entries_text xs) (101 ∷ r)) ∙ h ∙ regroup 10 (entry_text y) (entries_text ys) (101 ∷ s) in
    let e = entry_front x y (entries_text xs ++ 101 ∷ r) (entries_text ys ++ 101 ∷ s) p.0 q.0 same in
    ap (λ z. z ∷ xs) e.0 ∙ ap (λ z. y ∷ z) (entries_front xs ys r s p.1 q.1 e.1)

-- the end's line, behind its first letter
abbrev end_rest : List Entry → List ℕ
end_rest history = codes "nd " ++ decimal (length history) ++ 10 ∷ []

trace_regroup : (w : Setting) (history : List Entry) → trace_text w history ≡ text_of_lines (head_lines w) ++ (text_of_lines (image_lines w.image) ++ (entries_text history ++ 101 ∷ end_rest history))
unfolding trace_lines end_line
trace_regroup w history =
    let head = head_lines w in
    let image = image_lines w.image in
    let entries = map entry_text history in
    let end = end_line history ∷ [] in
    let last : text_of_lines end ≡ 101 ∷ end_rest history = append_nil_of (end_line history ++ 10 ∷ []) in
    lines_append ((head ++ image) ++ entries) end ∙ ap (λ l. l ++ text_of_lines end) (lines_append (head ++ image) entries ∙ ap (λ l. l ++ text_of_lines entries) (lines_append head image))
    ∙ append_assoc (text_of_lines head ++ text_of_lines image) (text_of_lines entries) (text_of_lines end)
    ∙ append_assoc (text_of_lines head) (text_of_lines image) (text_of_lines entries ++ text_of_lines end)
    ∙ ap (λ l. text_of_lines head ++ (text_of_lines image ++ (text_of_lines entries ++ l))) last
  where
    append_nil_of : (l : List ℕ) → l ++ [] ≡ l
    append_nil_of [] = refl
    append_nil_of (x ∷ l) = ap (λ t. x ∷ t) (append_nil_of l)

pub one_trace : (w u : Setting) (h g : List Entry) → IsSetting w → IsSetting u → All IsPrintable h → All IsPrintable g → trace_text w h ≡ trace_text u g → (w ≡ u) × (h ≡ g)
one_trace w u h g p q ph pg same =
    let behind = entries_text h ++ 101 ∷ end_rest h in
    let others = entries_text g ++ 101 ∷ end_rest g in
    let head = head_front w u (text_of_lines (image_lines w.image) ++ behind) (text_of_lines (image_lines u.image) ++ others) p q (sym (trace_regroup w h) ∙ same ∙ trace_regroup u g) in
    let lengths : length w.image ≡ length u.image = p.image_length ∙ ap byte_count head.layout ∙ sym q.image_length in
    let image = image_same w.image u.image behind others p.image_bytes q.image_bytes lengths head.rest in
    let entries = entries_front h g (end_rest h) (end_rest g) (recursion_from_All IsPrintable h ph) (recursion_from_All IsPrintable g pg) image.1 in
    let e1 : w ≡ record { layout = u.layout; ranges = w.ranges; image = w.image; cap = w.cap } = ap (λ (l : Layout). let s : Setting = record { layout = l; ranges = w.ranges; image = w.image; cap = w.cap } in s) head.layout in
    let e2 = ap (λ (l : List Range). let s : Setting = record { layout = u.layout; ranges = l; image = w.image; cap = w.cap } in s) head.ranges in
    let e3 = ap (λ (l : List ℕ). let s : Setting = record { layout = u.layout; ranges = u.ranges; image = l; cap = w.cap } in s) image.0 in
    let e4 = ap (λ (n : ℕ). let s : Setting = record { layout = u.layout; ranges = u.ranges; image = u.image; cap = n } in s) head.cap in
    (e1 ∙ e2 ∙ e3 ∙ e4, entries)
