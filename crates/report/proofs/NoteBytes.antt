-- A note stands at its places in its bytes, and nothing else has them.
use Rattle.std.proofs.Common.{◌≡◌, ℕ, ◌+◌, true, ◌&&◌, eqb, ltb, leb, List, length, Option, Some, None, refl, sym, ap, subst, ◌∙◌, arith}
use Rattle.std.specs.Str.{bytes_eq}
use Rattle.std.proofs.lemmas.Bool.{leb-true, le-leb, ltb-true, lt-ltb, eqb-true, eq-eqb, and_parts, and_from}
use Rattle.std.proofs.lemmas.List.{length-append, length-drop}
use Rattle.std.proofs.lemmas.Nat.{from_be_bytes-to_be_bytes_8}
use Rattle.std.proofs.lemmas.Slice.Eq.{bytes_eq-Decides}
use Rattle.challenge.specs.Numbers.{u64_at}
use Rattle.report.specs.declared.Note.{Note}
use Rattle.report.specs.Tags.{note_head_bytes}
use Rattle.report.specs.Notes.{IsNote, FitsNote, note_bytes, SpellsNote, IsNoteReading, is_note, note_at, if_note, note_in}
use Rattle.report.proofs.Fields.{IsBytes, u64_at_fits, same_value, guarded, kept}

note_from : (n : Note) → is_note n ≡ true → IsNote n
note_from n h =
    let parts = and_parts (leb 1 n.start && ltb n.start n.end) (ltb n.end n.release) h in
    let places = and_parts (leb 1 n.start) (ltb n.start n.end) parts.0 in
    record { start = leb-true 1 n.start places.0; end = ltb-true n.start n.end places.1; release = ltb-true n.end n.release parts.1 }

note_test : (n : Note) → IsNote n → is_note n ≡ true
note_test n h =
    and_from (leb 1 n.start && ltb n.start n.end) (ltb n.end n.release)
    (and_from (leb 1 n.start) (ltb n.start n.end) (le-leb 1 n.start h.start) (lt-ltb n.start n.end h.end))
    (lt-ltb n.end n.release h.release)

abbrev made : ℕ → ℕ → ℕ → ℕ → List ℕ → Note
made counter start end release tag = record { counter = counter; start = start; end = end; release = release; tag = tag }

pub same_note : (counter start end release : ℕ) (tag : List ℕ) (n : Note) → counter ≡ n.counter → start ≡ n.start → end ≡ n.end → release ≡ n.release → tag ≡ n.tag → made counter start end release tag ≡ n
same_note counter start end release tag n c s e r t = rw (c, s, e, r, t) refl

fields_again : (n : Note) → FitsNote n → note_at (note_bytes n) ≡ n
unfolding note_bytes note_head_bytes u64_at
fields_again n fits =
    let counter : u64_at (note_bytes n) 8 ≡ n.counter = from_be_bytes-to_be_bytes_8 n.counter fits.counter in
    let start : u64_at (note_bytes n) 16 ≡ n.start = from_be_bytes-to_be_bytes_8 n.start fits.start in
    let end : u64_at (note_bytes n) 24 ≡ n.end = from_be_bytes-to_be_bytes_8 n.end fits.end in
    let release : u64_at (note_bytes n) 32 ≡ n.release = from_be_bytes-to_be_bytes_8 n.release fits.release in
    same_note (u64_at (note_bytes n) 8) (u64_at (note_bytes n) 16) (u64_at (note_bytes n) 24) (u64_at (note_bytes n) 32) n.tag n counter start end release refl

length-note_bytes : (n : Note) → FitsNote n → length (note_bytes n) ≡ 72
unfolding note_bytes note_head_bytes
length-note_bytes n fits =
    let front = note_head_bytes n.counter n.start n.end n.release in
    length-append front n.tag ∙ ap (λ (k : ℕ). length front + k) fits.tag

own_note : (n : Note) → IsNote n → if_note (note_bytes n) n ≡ Some n
own_note n h =
    let passes : (is_note n && bytes_eq (note_bytes n) (note_bytes n)) ≡ true =
    and_from (is_note n) (bytes_eq (note_bytes n) (note_bytes n)) (note_test n h) ((bytes_eq-Decides (note_bytes n) (note_bytes n)).1 refl) in
    rw passes refl

pub note_again : (n : Note) → IsNote n → FitsNote n → note_in (note_bytes n) ≡ Some n
unfolding note_in
note_again n h fits =
    let long : eqb (length (note_bytes n)) 72 ≡ true = eq-eqb (length (note_bytes n)) 72 (length-note_bytes n fits) in
    rw long (ap (if_note (note_bytes n)) (fields_again n fits) ∙ own_note n h)

fields_fit : (bytes : List ℕ) → IsBytes bytes → length bytes ≡ 72 → FitsNote (note_at bytes)
fields_fit bytes h long = record {
  counter = u64_at_fits bytes 8 h;
  start = u64_at_fits bytes 16 h;
  end = u64_at_fits bytes 24 h;
  release = u64_at_fits bytes 32 h;
  tag = omega (arith, length-drop 40 bytes, long);
}

note_found : (bytes : List ℕ) (n : Note) → IsBytes bytes → note_in bytes ≡ Some n → SpellsNote bytes n
unfolding note_in
note_found bytes n h e =
    let whole = guarded (eqb (length bytes) 72) (if_note bytes (note_at bytes)) n e in
    let parts = kept (is_note (note_at bytes)) (bytes_eq (note_bytes (note_at bytes)) bytes) (note_at bytes) n whole.1 in
    let long : length bytes ≡ 72 = eqb-true (length bytes) 72 whole.0 in
    let found : SpellsNote bytes (note_at bytes) = record {
      grammar = note_from (note_at bytes) parts.1;
      fits = fields_fit bytes h long;
      spelling = sym ((bytes_eq-Decides (note_bytes (note_at bytes)) bytes).0 parts.2);
    } in
    subst (SpellsNote bytes) parts.0 found

spelled_again : (bytes : List ℕ) (n : Note) → SpellsNote bytes n → note_in bytes ≡ Some n
spelled_again bytes n spells = ap note_in spells.spelling ∙ note_again n spells.grammar spells.fits

pub one_note : (bytes : List ℕ) (a b : Note) → SpellsNote bytes a → SpellsNote bytes b → a ≡ b
one_note bytes a b left right = same_value (note_in bytes) a b (spelled_again bytes a left) (spelled_again bytes b right)

pub reading_of : (bytes : List ℕ) (o : Option Note) → IsBytes bytes → o ≡ note_in bytes → IsNoteReading bytes o
reading_of bytes None h e = λ n spells. (let both : None ≡ Some n = e ∙ spelled_again bytes n spells in absurd cc)
reading_of bytes (Some n) h e = note_found bytes n h (sym e)
