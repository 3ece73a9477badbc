-- The second pass's segments are those that the first pass has counted.
use Rattle.std.proofs.Common.{◌≡◌, ◌==◌, ℕ, ◌+◌, ◌^◌, ◌≤◌, Bool, true, false, ◌&&◌, not, ◌||◌, ◌%◌, nat_le, if◌then◌else◌, List, [], ◌∷◌, ◌++◌, length, length-append, Option, Some, None, Ok, Err, All, refl, sym, ap, ap₂, subst, ◌∙◌, arith, leb-true, eqb-true}
use Rattle.std.proofs.lemmas.Bool.{and_parts}
use Rattle.std.proofs.lemmas.List.{length_push, take_at}
use Rattle.std.proofs.lemmas.List.Sums.{sum_by_push}
use Rattle.std.proofs.lemmas.List.Elements.{All-nil, All-push, All-take, All-contains, Contains-push}
use Rattle.executable.specs.declared.Program.{Program}
use Rattle.executable.specs.declared.Segment.{Segment}
use Rattle.executable.specs.Writable.{total_size}
use Rattle.asm_statements.specs.Orders.{Order}
use Rattle.rv_asm.specs.Labels.{Addresses}
use Rattle.rv_asm.specs.First.{Place, start, label_address, label_here, with_label, has_room, end_of, bytes_to, with_bytes}
use Rattle.rv_asm.specs.Coded.{bytes_of}
use Rattle.rv_asm.specs.Second.{with_last, grown_by}
use Rattle.rv_asm.proofs.Sizes.{ok_same, no_ok, bound}

-- the first pass's next byte is behind the segment that grows
abbrev pub IsBehind : Option ℕ → Option Segment → Type 0
IsBehind None None = Unit {0}
IsBehind (Some address) (Some segment) = address ≡ segment.addr + length segment.bytes
IsBehind None (Some segment) = ⊥
IsBehind (Some address) None = ⊥

-- some name is a label
abbrev pub HasLabel : Addresses → Type 0
HasLabel labels = (name : List ℕ) × (address : ℕ) × (labels name ≡ Some address)

abbrev pub EndsInMemory : Segment → Type 0
EndsInMemory s = s.addr + length s.bytes ≤ 2 ^ 32

-- The second pass has these segments, the last of which may still grow, where the first pass has come to this place.
-- A label stands behind the first `.segment`, and an `.entry` that stood names one of the labels of the whole text.
pub record Follows (labels : Addresses) (p : Place) (all : List Segment) (here : Option Segment) : Type 0 where
  pub count : length all ≡ p.segments
  pub few : p.segments ≤ 64
  pub size : total_size all ≡ p.total
  pub small : p.total ≤ 1048576
  pub ends : All EndsInMemory all
  pub behind : IsBehind p.next here
  pub known : (name : List ℕ) (address : ℕ) → p.labels name ≡ Some address → 1 ≤ p.segments
  pub entered : p.has_entry ≡ true → HasLabel labels

none_known : (name : List ℕ) (address : ℕ) → start.labels name ≡ Some address → 1 ≤ start.segments
none_known name address h = cc

pub starts : (labels : Addresses) → Follows labels start [] None
starts labels = record {
  count = refl;
  few = omega arith;
  size = refl;
  small = omega arith;
  ends = All-nil EndsInMemory;
  behind = tt;
  known = none_known;
  entered = λ h. cc;
}

-- ---- a label

pub chosen : {A E : Type 0} (b : Bool) (x y : A) (kind : E) → (if b then Ok x else Err kind) ≡ Ok y → (b ≡ true) × (x ≡ y)
chosen true x y kind h = (refl, ok_same h)
chosen false x y kind h = absurd (no_ok h)

some_segment : (program : Program) (here : Option Segment) (address : ℕ) → IsBehind (Some address) here → 1 ≤ length (with_last program here).segments
some_segment program None address h = absurd h
some_segment program (Some s) address h = let more = length_push program.segments s in omega (arith, more)

label_placed : (labels : Addresses) (p q : Place) (name : List ℕ) (next found : Option ℕ) (program : Program) (here : Option Segment) → p.next ≡ next → label_address next ≡ found
    → Follows labels p (with_last program here).segments here → label_here p name found ≡ Ok q → Follows labels q (with_last program here).segments here
label_placed labels p q name next None program here e g f h = absurd (no_ok h)
label_placed labels p q name None (Some address) program here e g f h = cc
label_placed labels p q name (Some at) (Some address) program here e g f h =
    let some : 1 ≤ p.segments = let one = some_segment program here at (subst (λ next. IsBehind next here) e f.behind) in omega (arith, one, f.count) in
    subst (λ place. Follows labels place (with_last program here).segments here) (ok_same h) (record {
      count = f.count;
      few = f.few;
      size = f.size;
      small = f.small;
      ends = f.ends;
      behind = f.behind;
      known = λ other place g. some;
      entered = f.entered;
    })

pub label_follows : (labels : Addresses) (p q : Place) (label : Option (List ℕ)) (program : Program) (here : Option Segment) → Follows labels p (with_last program here).segments here → with_label p label ≡ Ok q → Follows labels q (with_last program here).segments here
label_follows labels p q None program here f h = subst (λ place. Follows labels place (with_last program here).segments here) (ok_same h) f
label_follows labels p q (Some name) program here f h = label_placed labels p q name p.next (label_address p.next) program here refl refl f h

-- ---- bytes

-- the segment that grows has so many bytes more
abbrev pub HasGrown : Option Segment → Option Segment → ℕ → Type 0
HasGrown None None size = Unit {0}
HasGrown (Some s) (Some t) size = (t.addr ≡ s.addr) × (length t.bytes ≡ length s.bytes + size)
HasGrown None (Some t) size = ⊥
HasGrown (Some s) None size = ⊥

pub grows : (labels : Addresses) (old new : Option Segment) (known : Order) (size : ℕ) → ((bytes : List ℕ) → bytes_of labels known ≡ Ok bytes → length bytes ≡ size) → grown_by labels old known ≡ Ok new → HasGrown old new size
grows labels None new known size sized h = subst (λ here. HasGrown None here size) (ok_same h) tt
grows labels (Some s) new known size sized h =
    let put = bound (bytes_of labels known) (λ bytes. Ok (Some (record s { bytes = s.bytes ++ bytes }))) new h in
    let longer : length (s.bytes ++ put.0) ≡ length s.bytes + size = length-append s.bytes put.0 ∙ ap (λ n. length s.bytes + n) (sized put.0 put.1) in
    subst (λ here. HasGrown (Some s) here size) (ok_same put.2) (refl, longer)

nowhere : (next : Option ℕ) → IsBehind next None → next ≡ None
nowhere None h = refl
nowhere (Some address) h = absurd h

somewhere : (next : Option ℕ) (s : Segment) → IsBehind next (Some s) → next ≡ Some (s.addr + length s.bytes)
somewhere None s h = absurd h
somewhere (Some address) s h = ap Some h

no_bytes_if : (p q : Place) (size : ℕ) (next : Option ℕ) (instruction b : Bool) → next ≡ None → (if b then Ok p else bytes_to p size (end_of next p.total size instruction)) ≡ Ok q → p ≡ q
no_bytes_if p q size None instruction true e h = ok_same h
no_bytes_if p q size None instruction false e h = absurd (no_ok h)
no_bytes_if p q size (Some address) instruction b e h = cc

no_bytes : (p q : Place) (size : ℕ) (instruction : Bool) → p.next ≡ None → with_bytes p size instruction ≡ Ok q → p ≡ q
no_bytes p q size instruction e h = no_bytes_if p q size p.next instruction (size == 0) e h

-- the place behind so many bytes more
abbrev moved : Place → ℕ → ℕ → Place
moved p address size = record p { next = Some (address + size); total = p.total + size }

record HasMoved (p q : Place) (address size : ℕ) : Type 0 where
  is : moved p address size ≡ q
  ends : address + size ≤ 2 ^ 32
  small : p.total + size ≤ 1048576

still : (p q : Place) (address size : ℕ) → p.next ≡ Some address → address ≤ 2 ^ 32 → p.total ≤ 1048576 → size ≡ 0 → p ≡ q → HasMoved p q address size
still p q address size e ends small none same = record {
  is = ap₂ (λ next total. record p { next = next; total = total }) (ap Some (let n : address + size ≡ address = omega (arith, none) in n) ∙ sym e) (let n : p.total + size ≡ p.total = omega (arith, none) in n) ∙ same;
  ends = omega (arith, none, ends);
  small = omega (arith, none, small);
}

room_parts : (total size address : ℕ) (instruction : Bool) → has_room total size instruction address ≡ true → (address + size ≤ 2 ^ 32) × (total + size ≤ 1048576)
room_parts total size address instruction h =
    let last = and_parts ((not instruction || (address % 4 == 0)) && nat_le (address + size) (2 ^ 32)) (nat_le (total + size) 1048576) h in
    let mid = and_parts (not instruction || (address % 4 == 0)) (nat_le (address + size) (2 ^ 32)) last.0 in
    (leb-true (address + size) (2 ^ 32) mid.1, leb-true (total + size) 1048576 last.1)

room_if : (p q : Place) (address size : ℕ) (instruction b : Bool) → has_room p.total size instruction address ≡ b → bytes_to p size (if b then Some (address + size) else None) ≡ Ok q → HasMoved p q address size
room_if p q address size instruction true e h =
    let room = room_parts p.total size address instruction e in
    record { is = ok_same h; ends = room.0; small = room.1 }
room_if p q address size instruction false e h = absurd (no_ok h)

moves_if : (p q : Place) (address size : ℕ) (instruction b : Bool) → (size == 0) ≡ b → p.next ≡ Some address → address ≤ 2 ^ 32 → p.total ≤ 1048576
    → (if b then Ok p else bytes_to p size (end_of (Some address) p.total size instruction)) ≡ Ok q → HasMoved p q address size
moves_if p q address size instruction true none e ends small h = still p q address size e ends small (eqb-true size 0 none) (ok_same h)
moves_if p q address size instruction false none e ends small h = room_if p q address size instruction (has_room p.total size instruction address) refl h

moves : (p q : Place) (address size : ℕ) (instruction : Bool) → p.next ≡ Some address → address ≤ 2 ^ 32 → p.total ≤ 1048576 → with_bytes p size instruction ≡ Ok q → HasMoved p q address size
moves p q address size instruction e ends small h =
    moves_if p q address size instruction (size == 0) refl e ends small
    (ap (λ next. if size == 0 then Ok p else bytes_to p size (end_of next p.total size instruction)) (sym e) ∙ h)

last_grown : (labels : Addresses) (p : Place) (before : List Segment) (s t : Segment) (size : ℕ) → Follows labels p (before ++ s ∷ []) (Some s) → t.addr ≡ s.addr → length t.bytes ≡ length s.bytes + size
    → s.addr + length s.bytes + size ≤ 2 ^ 32 → p.total + size ≤ 1048576 → Follows labels (moved p (s.addr + length s.bytes) size) (before ++ t ∷ []) (Some t)
last_grown labels p before s t size f addr longer ends small =
    let old = length_push before s in
    let new = length_push before t in
    let old_size : total_size (before ++ s ∷ []) ≡ total_size before + length s.bytes = sum_by_push (λ (x : Segment). length x.bytes) before s in
    let new_size : total_size (before ++ t ∷ []) ≡ total_size before + length t.bytes = sum_by_push (λ (x : Segment). length x.bytes) before t in
    let first : All EndsInMemory before = subst (All EndsInMemory) (take_at before (s ∷ []) (length before) refl) (All-take EndsInMemory (length before) (before ++ s ∷ []) f.ends) in
    record {
      count = omega (arith, old, new, f.count);
      few = f.few;
      size = omega (arith, old_size, new_size, f.size, longer);
      small = small;
      ends = All-push EndsInMemory before t first (omega (arith, addr, longer, ends));
      behind = omega (arith, addr, longer);
      known = f.known;
      entered = f.entered;
    }

pub bytes_follow : (labels : Addresses) (p q : Place) (program : Program) (old new : Option Segment) (size : ℕ) (instruction : Bool) → Follows labels p (with_last program old).segments old → HasGrown old new size
    → with_bytes p size instruction ≡ Ok q → Follows labels q (with_last program new).segments new
bytes_follow labels p q program None None size instruction f grown h =
    subst (λ place. Follows labels place program.segments None) (no_bytes p q size instruction (nowhere p.next f.behind) h) f
bytes_follow labels p q program (Some s) (Some t) size instruction f grown h =
    let ends : s.addr + length s.bytes ≤ 2 ^ 32 = All-contains EndsInMemory (program.segments ++ s ∷ []) s f.ends (Contains-push program.segments s) in
    let step = moves p q (s.addr + length s.bytes) size instruction (somewhere p.next s f.behind) ends f.small h in
    subst (λ place. Follows labels place (program.segments ++ t ∷ []) (Some t)) step.is (last_grown labels p program.segments s t size f grown.0 grown.1 step.ends step.small)
bytes_follow labels p q program None (Some t) size instruction f grown h = absurd grown
bytes_follow labels p q program (Some s) None size instruction f grown h = absurd grown
