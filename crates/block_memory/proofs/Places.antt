-- An address's block and its place there, by a shift and a mask.
use Rattle.std.proofs.Common.{◌≡◌, ℕ, ◌+◌, ◌-◌, ◌*◌, ◌/◌, ◌%◌, ◌^◌, ◌<◌, ◌≤◌, ◌&&◌, nat_le, nat_lt, if◌then◌else◌, unwrap_or, List, length, get_or, slice_index, IsTrue, bit_and, Vec, Global, sym, ap, subst, ◌∙◌, arith}
use Rattle.std.proofs.lemmas.Nat.{and_mask, div_below}
use Rattle.std.proofs.lemmas.Bool.Decides.{nat_tests}
use Rattle.std.proofs.Math.Nat.{pow-le-pow_right, div-add-mod, mod-lt}
use Rattle.std.specs.List.{flat_map}
use Rattle.history.specs.declared.events.Width.{Width}
use Rattle.history.specs.declared.events.Width.TheVariants.{Byte, Half, Word}
use Rattle.history.specs.declared.events.Act.TheVariants.{Store}
use Rattle.history.specs.Memory.{put_at}
use Rattle.history.specs.Layout.{Layout, IsLayout, byte_count, past_end, fits, is_aligned, width_bytes}
use Rattle.block_memory.specs.Bytes.{Held}
use Rattle.std.proofs.lemmas.List.Elements.{All-get_or}
use Rattle.block_memory.proofs.OneBlock.{one_block}
use Rattle.block_memory.proofs.LowBytes.{put_is_store}
use Rattle.std.proofs.Math.ListN.{set}
use Rattle.block_memory.proofs.Buffers.{Sized, joined_length, joined_byte, written_place}

power_small : (shift : ℕ) → shift ≤ 16 → 2 ^ shift ≤ 65536
power_small shift small = pow-le-pow_right {n = 2} (omega arith) small

pub mask_is : (n shift : ℕ) → shift ≤ 16 → bit_and n (1 * 2 ^ shift % 4294967296 - 1) ≡ n % 2 ^ shift
mask_is n shift small =
    let whole : 1 * 2 ^ shift % 4294967296 - 1 ≡ 2 ^ shift - 1 = omega (arith, power_small shift small) in
    ap (λ m. bit_and n m) whole ∙ and_mask n shift

-- what the buffers are together has each byte of memory
pub whole_view : (held : Held) (l : Layout) (buffers : List (Vec ℕ Global)) → record { layout = l; bytes = flat_map (λ v. v.items) buffers } ≡ held → Sized (λ v. v.items) l.size buffers → length buffers ≡ l.blocks → length held.bytes ≡ byte_count held.layout
whole_view held l buffers view sized count =
    let whole = joined_length (λ (v : Vec ℕ Global). v.items) l.size buffers sized ∙ ap (λ n. l.size * n) count in
    subst (λ (h : Held). length h.bytes ≡ byte_count h.layout) view whole

width_some : (width : Width) → 1 ≤ width_bytes width
width_some Byte = omega arith
width_some Half = omega arith
width_some Word = omega arith

last_byte : (d width size : ℕ) → 1 ≤ width → 0 < size → (d + (width - 1)) / size ≡ d / size → d % size + width ≤ size
last_byte d width size some positive same =
    let first = div-add-mod d size in
    let last = div-add-mod (d + (width - 1)) size in
    let at : size * ((d + (width - 1)) / size) ≡ size * (d / size) = ap (λ q. size * q) same in
    let rest : (d + (width - 1)) % size < size = mod-lt (d + (width - 1)) {m = size} positive in
    omega arith

-- all of an access lies in the block of its first byte
pub inside_block : (l : Layout) (addr : ℕ) (width : Width) → IsLayout l → IsTrue (fits l addr width) → IsTrue (is_aligned addr width) → (addr - l.base) % l.size + width_bytes width ≤ l.size
inside_block l addr width is_layout fits aligned =
    let low : l.base ≤ addr = grind (arith, nat_tests) in
    let at_width : addr % width_bytes width ≡ 0 = grind (arith, nat_tests) in
    let some : 1 ≤ width_bytes width = width_some width in
    let size : 2 ^ 4 ≤ 2 ^ is_layout.block_size.0 = pow-le-pow_right {n = 2} (omega arith) is_layout.block_size.1 in
    let same = one_block l addr width is_layout low at_width (width_bytes width - 1) (omega arith) in
    last_byte (addr - l.base) (width_bytes width) l.size some (omega (arith, size, is_layout.block_size.3)) (ap (λ n. n / l.size) (omega arith) ∙ same)

-- The buffer that an access uses: it has room for the access, and its bytes there are those of memory.
pub record Uses (l : Layout) (addr : ℕ) (width : Width) (buffers : List (Vec ℕ Global)) (at offset : ℕ) : Type 0 where
  pub block : at < length buffers
  pub room : offset + width_bytes width ≤ l.size
  pub place : l.size * at + offset ≡ addr - l.base
  pub low : l.base ≤ addr

uses_at_base : (l : Layout) (addr shift : ℕ) (width : Width) (buffers : List (Vec ℕ Global)) → IsLayout l → l.size ≡ 2 ^ shift → length buffers ≡ l.blocks → IsTrue (fits l addr width) → IsTrue (is_aligned addr width) → Uses l addr width buffers ((addr - l.base) / 2 ^ shift) ((addr - l.base) % 2 ^ shift)
uses_at_base l addr shift width buffers is_layout size count fits aligned =
    let low : l.base ≤ addr = grind (arith, nat_tests) in
    let high : addr + width_bytes width ≤ l.base + l.size * l.blocks = grind (arith, nat_tests) in
    let some : 1 ≤ width_bytes width = width_some width in
    let least : 2 ^ 4 ≤ 2 ^ is_layout.block_size.0 = pow-le-pow_right {n = 2} (omega arith) is_layout.block_size.1 in
    let positive : 0 < l.size = omega (arith, least, is_layout.block_size.3) in
    let below : (addr - l.base) / l.size < l.blocks = div_below (addr - l.base) l.size l.blocks positive (omega arith) in
    let inside = inside_block l addr width is_layout fits aligned in
    let P : ℕ → Type 0 = λ n. Uses l addr width buffers ((addr - l.base) / n) ((addr - l.base) % n) in
    subst P size (record { block = omega arith; room = inside; place = div-add-mod (addr - l.base) l.size; low = low })

pub uses : (held : Held) (l : Layout) (addr shift base offset : ℕ) (width : Width) (buffers : List (Vec ℕ Global)) → l ≡ held.layout → IsLayout l → l.size ≡ 2 ^ shift → length buffers ≡ l.blocks → IsTrue (fits held.layout addr width) → IsTrue (is_aligned addr width) → base ≡ l.base → offset ≡ (addr - base) % 2 ^ shift → Uses l addr width buffers ((addr - base) / 2 ^ shift) offset
uses held l addr shift base offset width buffers same is_layout size count fit aligned at_base at_offset =
    let fits_here = subst (λ (k : Layout). IsTrue (fits k addr width)) (sym same) fit in
    let P : ℕ → ℕ → Type 0 = λ b o. Uses l addr width buffers ((addr - b) / 2 ^ shift) o in
    let there = uses_at_base l addr shift width buffers is_layout size count fits_here aligned in
    let based = subst (λ (b : ℕ). P b ((addr - b) % 2 ^ shift)) (sym at_base) there in
    subst (λ (o : ℕ). P base o) (sym at_offset) based

-- the buffer's bytes are one block's
pub buffer_size : (size at : ℕ) (buffers : List (Vec ℕ Global)) (block : Vec ℕ Global) (bytes : List ℕ) → Sized (λ v. v.items) size buffers → at < length buffers → block ≡ get_or buffers at block → bytes ≡ block.items → length bytes ≡ size
buffer_size size at buffers block bytes sized below is same =
    let Whole : Vec ℕ Global → Type 0 = λ v. length v.items ≡ size in
    ap length same ∙ ap (λ (v : Vec ℕ Global). length v.items) is ∙ All-get_or Whole buffers at block below sized

-- the byte of memory that stands so far behind the access's first
pub used_byte : (l : Layout) (addr at offset k : ℕ) (width : Width) (buffers : List (Vec ℕ Global)) (e : Vec ℕ Global) → Uses l addr width buffers at offset → Sized (λ v. v.items) l.size buffers → k < width_bytes width → slice_index (flat_map (λ v. v.items) buffers) (addr + k - l.base) ≡ slice_index (get_or buffers at e).items (offset + k)
used_byte l addr at offset k width buffers e used sized within =
    let place : addr + k - l.base ≡ l.size * at + (offset + k) = omega (arith, used.place, used.low) in
    ap (λ i. slice_index (flat_map (λ (v : Vec ℕ Global). v.items) buffers) i) place ∙ joined_byte (λ v. v.items) l.size buffers at (offset + k) e sized used.block (omega (arith, used.room))

-- a byte of memory once the store's bytes were put into its buffer
pub stored_byte : (l : Layout) (addr at offset value x : ℕ) (width : Width) (buffers : List (Vec ℕ Global)) (v e : Vec ℕ Global) → Uses l addr width buffers at offset → Sized (λ u. u.items) l.size buffers → length buffers ≡ l.blocks → length v.items ≡ l.size
    → ((k : ℕ) → slice_index v.items k ≡ (if nat_le offset k && nat_lt k (offset + width_bytes width) then value / 256 ^ (k - offset) % 256 else slice_index (get_or buffers at e).items k))
    → l.base ≤ x → x < past_end l
    → slice_index (flat_map (λ u. u.items) (set buffers at v)) (x - l.base) ≡ unwrap_or (put_at (Store addr width value) x) (slice_index (flat_map (λ u. u.items) buffers) (x - l.base))
stored_byte l addr at offset value x width buffers v e used sized count whole bytes low high =
    let some : 1 ≤ width_bytes width = width_some width in
    let old : ℕ = slice_index (flat_map (λ (u : Vec ℕ Global). u.items) buffers) (x - l.base) in
    let limit : l.size * length buffers ≡ l.size * l.blocks = ap (λ n. l.size * n) count in
    let inside : x - l.base < l.size * length buffers = omega arith in
    let written = written_place (λ (u : Vec ℕ Global). u.items) l.size buffers at offset (x - l.base) v e (width_bytes width) (λ j. value / 256 ^ j % 256) (omega (arith, used.room)) sized whole used.block inside used.room bytes in
    let placed = ap (λ (start : ℕ). if nat_le start (x - l.base) && nat_lt (x - l.base) (start + width_bytes width) then value / 256 ^ (x - l.base - start) % 256 else old) used.place in
    written ∙ placed ∙ put_is_store l.base addr value x old width used.low low
