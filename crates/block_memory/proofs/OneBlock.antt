-- An aligned access that fits lies in one block.
use Rattle.std.proofs.Common.{◌≡◌, ℕ, ◌+◌, ◌-◌, ◌*◌, ◌/◌, ◌%◌, ◌^◌, ◌<◌, ◌≤◌, sym, ap, ◌∙◌, arith}
use Rattle.std.proofs.lemmas.Nat.{pow-add, div-mul-add}
use Rattle.std.proofs.Math.Nat.{div-add-mod', div-div-eq-div-mul}
use Rattle.history.specs.declared.events.Width.{Width}
use Rattle.history.specs.declared.events.Width.TheVariants.{Byte, Half, Word}
use Rattle.history.specs.Layout.{Layout, IsLayout, width_bytes}

-- each width divides a block's size
size_parts : (width : Width) (exponent : ℕ) → 4 ≤ exponent → (n : ℕ) × (2 ^ exponent ≡ width_bytes width * n)
size_parts Byte exponent h = (2 ^ exponent, omega arith)
size_parts Half exponent h =
    let whole : exponent ≡ 1 + (exponent - 1) = omega arith in
    (2 ^ (exponent - 1), ap (λ k. 2 ^ k) whole ∙ pow-add 2 1 (exponent - 1))
size_parts Word exponent h =
    let whole : exponent ≡ 2 + (exponent - 2) = omega arith in
    (2 ^ (exponent - 2), ap (λ k. 2 ^ k) whole ∙ pow-add 2 2 (exponent - 2))

-- how far an aligned address is from the base is divisible by the width
offset_aligned : (width : Width) (addr base b n : ℕ) → base ≡ b * (width_bytes width * n) → addr % width_bytes width ≡ 0 → base ≤ addr → (addr - base) % width_bytes width ≡ 0
offset_aligned Byte addr base b n e a h = omega arith
offset_aligned Half addr base b n e a h = omega arith
offset_aligned Word addr base b n e a h = omega arith

-- fewer than a width's bytes further on, the quotient is the same
same_quotient : (d k width n : ℕ) → d % width ≡ 0 → k < width → (d + k) / (width * n) ≡ d / (width * n)
same_quotient d k width n a h =
    let whole : d ≡ d / width * width = omega (arith, div-add-mod' d width) in
    let at_width : (d + k) / width ≡ d / width = ap (λ m. (m + k) / width) whole ∙ div-mul-add (d / width) width k h in
    sym (div-div-eq-div-mul (d + k) width n) ∙ ap (λ m. m / n) at_width ∙ div-div-eq-div-mul d width n

pub one_block : (l : Layout) (addr : ℕ) (width : Width) → IsLayout l → l.base ≤ addr → addr % width_bytes width ≡ 0 → (k : ℕ) → k < width_bytes width → (addr + k - l.base) / l.size ≡ (addr - l.base) / l.size
one_block l addr width is_layout low a k h =
    let parts = size_parts width is_layout.block_size.0 is_layout.block_size.1 in
    let n = parts.0 in
    let size : l.size ≡ width_bytes width * n = is_layout.block_size.3 ∙ parts.1 in
    let base : l.base ≡ l.base / l.size * l.size = omega (arith, div-add-mod' l.base l.size, is_layout.on_block) in
    let base_parts : l.base ≡ l.base / l.size * (width_bytes width * n) = base ∙ ap (λ s. l.base / l.size * s) size in
    let offset = offset_aligned width addr l.base (l.base / l.size) n base_parts a low in
    let moved : addr + k - l.base ≡ addr - l.base + k = omega arith in
    ap (λ d. d / l.size) moved ∙ ap (λ s. (addr - l.base + k) / s) size ∙ same_quotient (addr - l.base) k (width_bytes width) n offset h ∙ ap (λ s. (addr - l.base) / s) (sym size)
