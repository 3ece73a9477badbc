-- A store that may follow leaves each byte of a locked block: an aligned access stays in one block.
use Rattle.std.proofs.Common.{◌≡◌, ℕ, ◌+◌, ◌-◌, ◌*◌, ◌/◌, ◌%◌, ◌^◌, ◌<◌, ◌≤◌, Bool, true, false, List, refl, sym, ap, ◌∙◌, subst, inl, inr, arith, add-mul}
use Rattle.std.proofs.Math.Nat.{div-div-eq-div-mul, mod-mod_of_dvd, dvd-mul_right, zero-mod, div-add-mod'}
use Rattle.std.proofs.lemmas.Nat.{div-mul-add, le-div, pow-add}
use Rattle.std.proofs.lemmas.Bool.{cases_Bool, and_parts, false≢true, not-true, leb-true, ltb-true, eqb-true}
use Rattle.std.specs.Prelude.{◌&&◌, nat_le, IsTrue, if◌then◌else◌, unwrap_or, Some, None}
use Rattle.history.specs.declared.events.Width.{Width}
use Rattle.history.specs.declared.events.Width.TheVariants.{Byte, Half, Word}
use Rattle.history.specs.declared.events.Act.{Act}
use Rattle.history.specs.declared.events.Act.TheVariants.{Fetch, Load, Store, Start, Copy, End, Tick, Release}
use Rattle.history.specs.declared.events.Entry.{Entry}
use Rattle.history.specs.Layout.{Layout, IsLayout, Setting, IsSetting, width_bytes, block_of, fits, is_aligned}
use Rattle.history.specs.Memory.{memory_after, put_at, covers}
use Rattle.history.specs.Locks.{is_locked}
use Rattle.history.specs.Legal.{MayFollow, in_range, lock_allows}

-- a multiple is its quotient times the divisor
whole_multiple : (n k : ℕ) → n % k ≡ 0 → n ≡ (n / k) * k
whole_multiple n k h = omega (arith, div-add-mod' n k)

-- the bytes of an aligned access lie in one block, since its width divides the block size
pub block_same : (size k m base addr x : ℕ) → 0 < k → size ≡ k * m → base % size ≡ 0 → addr % k ≡ 0 → base ≤ addr → addr ≤ x → x < addr + k → (x - base) / size ≡ (addr - base) / size
block_same size k m base addr x pos size_is on_block aligned low from upto =
    let on_width : base % k ≡ 0 = sym (mod-mod_of_dvd k {b = k * m} base (dvd-mul_right k m)) ∙ ap (λ n. n % k) (subst (λ s. base % s ≡ 0) size_is on_block) ∙ zero-mod k in
    let b = base / k in
    let a = addr / k in
    let eb : base ≡ b * k = whole_multiple base k on_width in
    let ea : addr ≡ a * k = whole_multiple addr k aligned in
    let order : b ≤ a = le-div b addr k pos (omega arith) in
    let t = a - b in
    let at : a ≡ b + t = omega arith in
    let ea' : addr ≡ b * k + t * k = ea ∙ ap (λ n. n * k) at ∙ add-mul b t k in
    let r = x - addr in
    let ex : x - base ≡ t * k + r = omega arith in
    let ey : addr - base ≡ t * k + 0 = omega arith in
    let small : r < k = omega arith in
    let qx : (x - base) / k ≡ t = ap (λ n. n / k) ex ∙ div-mul-add t k r small in
    let qy : (addr - base) / k ≡ t = ap (λ n. n / k) ey ∙ div-mul-add t k 0 pos in
    let dx : (x - base) / size ≡ t / m = ap (λ n. (x - base) / n) size_is ∙ sym (div-div-eq-div-mul (x - base) k m) ∙ ap (λ n. n / m) qx in
    let dy : (addr - base) / size ≡ t / m = ap (λ n. (addr - base) / n) size_is ∙ sym (div-div-eq-div-mul (addr - base) k m) ∙ ap (λ n. n / m) qy in
    dx ∙ sym dy

-- a block size is a multiple of four
four_divides : (l : Layout) → IsLayout l → (m : ℕ) × (l.size ≡ 4 * m)
four_divides l v =
    let e = v.block_size.0 in
    let split : e ≡ 2 + (e - 2) = omega (arith, v.block_size.1) in
    (2 ^ (e - 2), v.block_size.3 ∙ ap (λ n. 2 ^ n) split ∙ pow-add 2 2 (e - 2))

-- and so of each width
width_divides : (l : Layout) → IsLayout l → (width : Width) → (m : ℕ) × (l.size ≡ width_bytes width * m)
width_divides l v Byte = (l.size, omega arith)
width_divides l v Half = let f = four_divides l v in (2 * f.0, omega (arith, f.1))
width_divides l v Word = four_divides l v

-- an access has at least one byte
width_pos : (width : Width) → 0 < width_bytes width
width_pos Byte = omega arith
width_pos Half = omega arith
width_pos Word = omega arith

-- each byte that a fitting, aligned access covers is in the block of its address
pub covered_block : (l : Layout) → IsLayout l → (addr : ℕ) (width : Width) (x : ℕ) → IsTrue (fits l addr width && is_aligned addr width) → IsTrue (covers addr width x) → block_of l x ≡ block_of l addr
covered_block l v addr width x range covered =
    let r = and_parts (fits l addr width) _ range in
    let f = and_parts (nat_le l.base addr) _ r.0 in
    let c = and_parts (nat_le addr x) _ covered in
    let d = width_divides l v width in
    block_same l.size (width_bytes width) d.0 l.base addr x (width_pos width) d.1 v.on_block (eqb-true _ _ r.1) (leb-true _ _ f.0) (leb-true _ _ c.0) (ltb-true _ _ c.1)

-- what is put where a test decides
unput : (b : Bool) (put old : ℕ) → b ≡ false → unwrap_or (if b then Some put else None) old ≡ old
unput true put old h = absurd (false≢true (sym h))
unput false put old h = refl

-- an act that may follow leaves each byte of a block that is locked before it
stays : (w : Setting) → IsSetting w → (act : Act) (past : List Entry) → IsTrue (in_range w act) → IsTrue (lock_allows w past act) → (block : ℕ) → IsTrue (is_locked w past block) → (x : ℕ) → block_of w.layout x ≡ block → (old : ℕ) → unwrap_or (put_at act x) old ≡ old
stays w v (Store addr width value) past range lock block locked x here old =
    elim (cases_Bool (covers addr width x)) [
      | inl covered ↦
          let same : block_of w.layout addr ≡ block = sym (covered_block w.layout v.layout addr width x range covered) ∙ here in
          let unlocked = not-true _ lock in
          absurd (false≢true (sym unlocked ∙ ap (λ b. is_locked w past b) same ∙ locked))
      | inr beside ↦ unput _ _ old beside
    ]
stays w v (Fetch addr value) past range lock block locked x here old = refl
stays w v (Load addr width value) past range lock block locked x here old = refl
stays w v (Start discipline counter) past range lock block locked x here old = refl
stays w v (Copy other) past range lock block locked x here old = refl
stays w v End past range lock block locked x here old = refl
stays w v Tick past range lock block locked x here old = refl
stays w v Release past range lock block locked x here old = refl

-- the heart of the sliding-lock fact: no discipline is in it
pub locked_stays : (w : Setting) → IsSetting w → (past : List Entry) (entry : Entry) → MayFollow w past entry → (block : ℕ) → IsTrue (is_locked w past block) → (x : ℕ) → block_of w.layout x ≡ block → unwrap_or (put_at entry.act x) (memory_after w past x) ≡ memory_after w past x
locked_stays w v past entry may block locked x here = stays w v entry.act past may.range may.lock block locked x here (memory_after w past x)
