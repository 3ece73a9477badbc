-- Memory is bytes, and goes on from an earlier place by the stores that came since.
use Rattle.std.proofs.Common.{◌≡◌, ℕ, ◌+◌, ◌-◌, ◌/◌, ◌%◌, ◌^◌, ◌<◌, ◌≤◌, Bool, true, false, List, [], ◌∷◌, ◌++◌, length, get_or, All, reverse, Some, None, refl, sym, ap, ◌∙◌, subst, inl, inr, arith, mod-lt}
use Rattle.std.specs.Prelude.{if◌then◌else◌, unwrap_or, slice_get}
use Rattle.std.proofs.lemmas.Bool.{cases_lt}
use Rattle.std.proofs.lemmas.List.{get_or_past, append_assoc, reverse-append}
use Rattle.std.proofs.lemmas.List.Elements.{All-get_or}
use Rattle.history.specs.declared.events.Width.{Width}
use Rattle.history.specs.declared.events.Width.TheVariants.{Byte, Half, Word}
use Rattle.history.specs.declared.events.Act.{Act}
use Rattle.history.specs.declared.events.Act.TheVariants.{Fetch, Load, Store, Start, Copy, End, Tick, Release}
use Rattle.history.specs.declared.events.Entry.{Entry}
use Rattle.history.specs.Layout.{Setting, IsSetting, width_bytes}
use Rattle.history.specs.Memory.{Memory, back, memory_after, memory_at, put_at, covers, value_in}
use Rattle.chronicle.specs.Laws.{stored, patched, between}
use Rattle.chronicle.proofs.Places.{back_split, back_more}

-- a byte of a list of bytes, and 0 past its end
image_byte : (image : List ℕ) → All (λ byte. byte < 256) image → (i : ℕ) → get_or image i 0 < 256
image_byte image bytes i =
    elim (cases_lt i (length image)) [
      | inl within ↦ All-get_or (λ byte. byte < 256) image i 0 within bytes
      | inr past ↦ subst (λ byte. byte < 256) (sym (get_or_past image i 0 past)) (omega arith)
    ]

-- what a store puts is a remainder by 256
put_byte : (covered : Bool) (value place old : ℕ) → old < 256 → unwrap_or (if covered then Some (value / 256 ^ place % 256) else None) old < 256
put_byte true value place old h = mod-lt (value / 256 ^ place) (omega arith)
put_byte false value place old h = h

-- what an act puts is a byte
act_byte : (act : Act) (x old : ℕ) → old < 256 → unwrap_or (put_at act x) old < 256
act_byte (Store addr width value) x old h = put_byte (covers addr width x) value (x - addr) old h
act_byte (Fetch addr value) x old h = h
act_byte (Load addr width value) x old h = h
act_byte (Start discipline counter) x old h = h
act_byte (Copy block) x old h = h
act_byte End x old h = h
act_byte Tick x old h = h
act_byte Release x old h = h

-- each byte of memory is below 256
pub memory_byte : (w : Setting) → IsSetting w → (past : List Entry) (x : ℕ) → memory_after w past x < 256
memory_byte w v [] x = image_byte w.image v.image_bytes (x - w.layout.base)
memory_byte w v (entry ∷ past) x = act_byte entry.act x (memory_after w past x) (memory_byte w v past x)

-- so the value of an access fits its width
pub value_small : (m : Memory) → ((x : ℕ) → m x < 256) → (addr : ℕ) (width : Width) → value_in m addr width < 256 ^ width_bytes width
value_small m bytes addr Byte = bytes addr
value_small m bytes addr Half = omega (arith, bytes addr, bytes (addr + 1))
value_small m bytes addr Word = omega (arith, bytes addr, bytes (addr + 1), bytes (addr + 2), bytes (addr + 3))

-- the newer entries go on from memory after the older ones
pub memory_patched : (w : Setting) (later older : List Entry) (x : ℕ) → memory_after w (reverse later ++ older) x ≡ patched later (memory_after w older) x
memory_patched w [] older x = refl
memory_patched w (entry ∷ later) older x =
    let turned : reverse (entry ∷ later) ++ older ≡ reverse later ++ (entry ∷ older) = ap (λ l. l ++ older) (reverse-append (entry ∷ []) later) ∙ append_assoc (reverse later) (entry ∷ []) older in
    ap (λ l. memory_after w l x) turned ∙ memory_patched w later (entry ∷ older) x

-- memory at a later place is memory at an earlier one, patched by the entries between
pub memory_between : (w : Setting) (history : List Entry) (place later : ℕ) → place ≤ later → (x : ℕ) → memory_at w history later x ≡ patched (between history place later) (memory_at w history place) x
memory_between w history place later order x =
    ap (λ l. memory_after w l x) (sym (back_split history place later order)) ∙ memory_patched w (between history place later) (back history place) x

-- one entry further
pub memory_next : (w : Setting) (history : List Entry) (place : ℕ) (entry : Entry) → slice_get history place ≡ Some entry → (x : ℕ) → memory_at w history (place + 1) x ≡ stored entry (memory_at w history place) x
memory_next w history place entry is x = ap (λ l. memory_after w l x) (back_more history place entry is)
