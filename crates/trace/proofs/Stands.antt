-- The entry that is read stands there.
use Rattle.std.proofs.Common.{◌≡◌, ◌==◌, ℕ, ◌+◌, ◌-◌, ◌*◌, ◌^◌, ◌<◌, ◌≤◌, ◌&&◌, List, [], ◌∷◌, ◌++◌, Option, Some, None, Bor, refl, sym, ap, ◌∙◌, subst, arith, inl, inr, nat_lt, append_assoc}
use Rattle.std.specs.Prelude.{◌≢◌, ◌⊎◌, is_some, IfSome, IfNone, codes, nat_le}
use Rattle.std.specs.Option.{option_map, option_map_or}
use Rattle.std.specs.Fmt.{decimal}
use Rattle.std.proofs.lemmas.Fmt.{decimal_digit}
use Rattle.std.proofs.lemmas.Bool.{false≢true, and_parts, cases_Bool, cond-true, cond-false, eqb-true, leb-true, ltb-true}
use Rattle.std.proofs.lemmas.Option.{same_Some, cond_some}
use Rattle.sequencing.specs.Options.{◌>>=◌, when}
use Rattle.history.specs.declared.events.Width.{Width}
use Rattle.history.specs.declared.events.Width.TheVariants.{Byte, Half, Word}
use Rattle.history.specs.declared.events.Discipline.{Discipline}
use Rattle.history.specs.declared.events.Discipline.TheVariants as discipline
use Rattle.history.specs.declared.events.Act.{Act}
use Rattle.history.specs.declared.events.Act.TheVariants.{Fetch, Load, Store, Start, Copy, End, Tick, Release}
use Rattle.history.specs.declared.events.Entry.{Entry}
use Rattle.history.specs.Layout.{width_bytes}
use Rattle.history.specs.Names.{code_of}
use Rattle.text_readers.specs.Digits.{word_digits}
use Rattle.trace.specs.Text.{width_digit, width_digits, access_text, act_text, entry_text}
use Rattle.trace.specs.Printable.{ActIsPrintable, IsPrintable}
use Rattle.trace.specs.Reading.{text_behind, digits_at, decimal_at, access_at, sized_at, fetch_at, load_at, store_at, coded_discipline, start_at, copy_at, short_act_at, act_at, entry_at}
use Rattle.trace.proofs.Takes.{bind_some, behind_takes, word_takes, value_takes, decimal_takes, cond_opt}
use Rattle.trace.proofs.Again.{coded_again, entry_again}
use Rattle.trace.proofs.Unique.{regroup}

-- what one of two readings gave
or_takes : {A : Type 0} (f : List ℕ → Option A) (o : Option (List ℕ)) (other : Option A) (y : A) → option_map_or f o other ≡ Some y → ((x : List ℕ) × (o ≡ Some x) × (f x ≡ Some y)) ⊎ (other ≡ Some y)
or_takes f (Some x) other y h = inl (x, refl, h)
or_takes f None other y h = inr h

-- an access
pub record IsAccess (width : Width) (a v : ℕ) (text rest : List ℕ) : Type 0 where
  pub address : a < 2 ^ 32
  pub value : v < 256 ^ width_bytes width
  pub spelled : text ≡ access_text a width v ++ 10 ∷ rest

access_takes : (width : Width) (a v : ℕ) (text rest : List ℕ) → access_at width text ≡ Some (a, v, rest) → IsAccess width a v text rest
unfolding access_at
access_takes width a v text rest h =
    let last : ℕ → ℕ × List ℕ → Option (ℕ × ℕ × List ℕ) = λ addr value. text_behind (codes "\n") value.1 >>= λ r. Some (addr, value.0, r) in
    let third : ℕ → List ℕ → Option (ℕ × ℕ × List ℕ) = λ addr digits. digits_at (2 * width_bytes width) 0 digits >>= last addr in
    let second : ℕ × List ℕ → Option (ℕ × ℕ × List ℕ) = λ addr. text_behind (codes " ") addr.1 >>= third addr.0 in
    let first : List ℕ → Option (ℕ × ℕ × List ℕ) = λ front. digits_at 8 0 front >>= second in
    let s1 = bind_some (text_behind (codes " ") text) first (a, v, rest) h in
    let s2 = bind_some (digits_at 8 0 s1.0) second (a, v, rest) s1.2 in
    let s3 = bind_some (text_behind (codes " ") s2.0.1) (third s2.0.0) (a, v, rest) s2.2 in
    let s4 = bind_some (digits_at (2 * width_bytes width) 0 s3.0) (last s2.0.0) (a, v, rest) s3.2 in
    let s5 = bind_some (text_behind (codes "\n") s4.0.1) (λ r. Some (s2.0.0, s4.0.0, r)) (a, v, rest) s4.2 in
    let same = same_Some (s2.0.0, s4.0.0, s5.0) (a, v, rest) s5.2 in
    let address = word_takes s2.0.0 s1.0 s2.0.1 s2.1 in
    let value = value_takes width s4.0.0 s3.0 s4.0.1 s4.1 in
    let t1 : text ≡ 32 ∷ s1.0 = behind_takes (codes " ") text s1.0 s1.1 in
    let t3 : s2.0.1 ≡ 32 ∷ s3.0 = behind_takes (codes " ") s2.0.1 s3.0 s3.1 in
    let t5 : s4.0.1 ≡ 10 ∷ s5.0 = behind_takes (codes "\n") s4.0.1 s5.0 s5.1 in
    let spelled : text ≡ access_text s2.0.0 width s4.0.0 ++ 10 ∷ s5.0 =
    t1 ∙ ap (λ l. 32 ∷ l) (address.1 ∙ ap (λ l. word_digits s2.0.0 ++ l) (t3 ∙ ap (λ l. 32 ∷ l) (value.1 ∙ ap (λ l. width_digits width s4.0.0 ++ l) t5))
    ∙ sym (regroup 32 (word_digits s2.0.0) (width_digits width s4.0.0) (10 ∷ s5.0))) in
    let found : IsAccess width s2.0.0 s4.0.0 text s5.0 = record { address = address.0; value = value.0; spelled = spelled } in
    subst (λ p. IsAccess width p.0 p.1 text p.2) same found

-- an access of a width that is named
pub record IsSized (width : Width) (a v : ℕ) (text rest : List ℕ) : Type 0 where
  pub address : a < 2 ^ 32
  pub value : v < 256 ^ width_bytes width
  pub spelled : text ≡ (width_digit width ++ access_text a width v) ++ 10 ∷ rest

sized_of : (width : Width) (text : List ℕ) (y : Width × ℕ × ℕ × List ℕ) → (access_at width text >>= λ a. Some (width, a.0, a.1, a.2)) ≡ Some y → IsSized y.0 y.1 y.2 (width_digit width ++ text) y.3
sized_of width text y h =
    let read = bind_some (access_at width text) (λ a. Some (width, a.0, a.1, a.2)) y h in
    let same = same_Some (width, read.0.0, read.0.1, read.0.2) y read.2 in
    let access = access_takes width read.0.0 read.0.1 text read.0.2 read.1 in
    let found : IsSized width read.0.0 read.0.1 (width_digit width ++ text) read.0.2 = record {
      address = access.address;
      value = access.value;
      spelled = ap (λ l. width_digit width ++ l) access.spelled ∙ sym (append_assoc (width_digit width) (access_text read.0.0 width read.0.1) (10 ∷ read.0.2));
    } in
    subst (λ p. IsSized p.0 p.1 p.2 (width_digit width ++ text) p.3) same found

sized_takes : (text : List ℕ) (y : Width × ℕ × ℕ × List ℕ) → sized_at text ≡ Some y → IsSized y.0 y.1 y.2 text y.3
unfolding sized_at
sized_takes [] y h = cc
sized_takes (c ∷ text) y h = elim (cases_Bool (c == 49)) [
  | inl one ↦ subst (λ d. IsSized y.0 y.1 y.2 (d ∷ text) y.3) (sym (eqb-true c 49 one)) (sized_of Byte text y (sym (cond-true (c == 49) _ _ one) ∙ h))
  | inr not1 ↦
      let h1 = sym (cond-false (c == 49) _ _ not1) ∙ h in
      elim (cases_Bool (c == 50)) [
        | inl two ↦ subst (λ d. IsSized y.0 y.1 y.2 (d ∷ text) y.3) (sym (eqb-true c 50 two)) (sized_of Half text y (sym (cond-true (c == 50) _ _ two) ∙ h1))
        | inr not2 ↦
            let h2 = cond_opt (c == 52) (access_at Word text >>= λ a. Some (Word, a.0, a.1, a.2)) y (sym (cond-false (c == 50) _ _ not2) ∙ h1) in
            subst (λ d. IsSized y.0 y.1 y.2 (d ∷ text) y.3) (sym (eqb-true c 52 h2.0)) (sized_of Word text y h2.1)
      ]
]

-- an act
pub record IsAct (text : List ℕ) (found : Act × List ℕ) : Type 0 where
  pub printable : ActIsPrintable found.0
  pub spelled : text ≡ act_text found.0 ++ 10 ∷ found.1

fetch_takes : (text rest : List ℕ) (y : Act × List ℕ) → text ≡ codes " f" ++ rest → fetch_at rest ≡ Some y → IsAct text y
unfolding fetch_at act_text
fetch_takes text rest y is h =
    let read = bind_some (access_at Word rest) (λ a. Some (Fetch a.0 a.1, a.2)) y h in
    let access = access_takes Word read.0.0 read.0.1 rest read.0.2 read.1 in
    let found : IsAct text (Fetch read.0.0 read.0.1, read.0.2) = record { printable = (access.address, access.value); spelled = is ∙ ap (λ l. codes " f" ++ l) access.spelled } in
    subst (λ p. IsAct text p) (same_Some (Fetch read.0.0 read.0.1, read.0.2) y read.2) found

load_takes : (text rest : List ℕ) (y : Act × List ℕ) → text ≡ codes " l" ++ rest → load_at rest ≡ Some y → IsAct text y
unfolding load_at act_text
load_takes text rest y is h =
    let read = bind_some (sized_at rest) (λ a. Some (Load a.1 a.0 a.2, a.3)) y h in
    let sized = sized_takes rest read.0 read.1 in
    let found : IsAct text (Load read.0.1 read.0.0 read.0.2, read.0.3) = record { printable = (sized.address, sized.value); spelled = is ∙ ap (λ l. codes " l" ++ l) sized.spelled } in
    subst (λ p. IsAct text p) (same_Some (Load read.0.1 read.0.0 read.0.2, read.0.3) y read.2) found

store_takes : (text rest : List ℕ) (y : Act × List ℕ) → text ≡ codes " s" ++ rest → store_at rest ≡ Some y → IsAct text y
unfolding store_at act_text
store_takes text rest y is h =
    let read = bind_some (sized_at rest) (λ a. Some (Store a.1 a.0 a.2, a.3)) y h in
    let sized = sized_takes rest read.0 read.1 in
    let found : IsAct text (Store read.0.1 read.0.0 read.0.2, read.0.3) = record { printable = (sized.address, sized.value); spelled = is ∙ ap (λ l. codes " s" ++ l) sized.spelled } in
    subst (λ p. IsAct text p) (same_Some (Store read.0.1 read.0.0 read.0.2, read.0.3) y read.2) found

coded_takes : (code : ℕ) (form : Discipline) → coded_discipline code ≡ Some form → code ≡ code_of form
coded_takes code form h = elim (cases_Bool (code == 1)) [
  | inl is ↦ eqb-true code 1 is ∙ ap code_of (same_Some discipline.All form (sym (cond-true (code == 1) _ _ is) ∙ h))
  | inr not1 ↦
      let h1 = sym (cond-false (code == 1) _ _ not1) ∙ h in
      elim (cases_Bool (code == 2)) [
        | inl is ↦ eqb-true code 2 is ∙ ap code_of (same_Some discipline.AllExt form (sym (cond-true (code == 2) _ _ is) ∙ h1))
        | inr not2 ↦
            let h2 = sym (cond-false (code == 2) _ _ not2) ∙ h1 in
            elim (cases_Bool (code == 3)) [
              | inl is ↦ eqb-true code 3 is ∙ ap code_of (same_Some discipline.Dec form (sym (cond-true (code == 3) _ _ is) ∙ h2))
              | inr not3 ↦
                  let h3 = sym (cond-false (code == 3) _ _ not3) ∙ h2 in
                  elim (cases_Bool (code == 4)) [
                    | inl is ↦ eqb-true code 4 is ∙ ap code_of (same_Some discipline.Inc form (sym (cond-true (code == 4) _ _ is) ∙ h3))
                    | inr not4 ↦
                        let h4 = cond_some (code == 5) discipline.IncExt form (sym (cond-false (code == 4) _ _ not4) ∙ h3) in
                        eqb-true code 5 h4.0 ∙ ap code_of h4.1
                  ]
            ]
      ]
]

none_coded : (code : ℕ) (o : Option Discipline) → coded_discipline code ≡ o → ((form : Discipline) → code_of form ≢ code) → None ≡ o
none_coded code None is none = refl
none_coded code (Some form) is none = absurd (none form (sym (coded_takes code form is)))

-- what is found by a code is the discipline that has it
pub code_found : (code : ℕ) (o : Option Discipline) → IfSome o (λ form. code_of form ≡ code) → IfNone o ((form : Discipline) → code_of form ≢ code) → o ≡ coded_discipline code
code_found code (Some form) found none = sym (coded_again form) ∙ ap coded_discipline found
code_found code None found none = none_coded code (coded_discipline code) refl none

start_takes : (text rest : List ℕ) (y : Act × List ℕ) → text ≡ codes " start " ++ rest → start_at rest ≡ Some y → IsAct text y
unfolding start_at act_text
start_takes text rest y is h =
    let last : Discipline → ℕ × List ℕ → Option (Act × List ℕ) = λ form counter. Some (Start form counter.0, counter.1) in
    let second : List ℕ → Discipline → Option (Act × List ℕ) = λ behind form. decimal_at 10 behind >>= last form in
    let first : ℕ × List ℕ → Option (Act × List ℕ) = λ code. coded_discipline code.0 >>= second code.1 in
    let s1 = bind_some (decimal_at 32 rest) first y h in
    let s2 = bind_some (coded_discipline s1.0.0) (second s1.0.1) y s1.2 in
    let s3 = bind_some (decimal_at 10 s1.0.1) (last s2.0) y s2.2 in
    let code = decimal_takes 32 s1.0.0 rest s1.0.1 s1.1 in
    let counter = decimal_takes 10 s3.0.0 s1.0.1 s3.0.1 s3.1 in
    let form = coded_takes s1.0.0 s2.0 s2.1 in
    let found : IsAct text (Start s2.0 s3.0.0, s3.0.1) = record {
      printable = counter.0;
      spelled = is ∙ ap (λ l. codes " start " ++ l) (code.1 ∙ ap (λ n. decimal n ++ 32 ∷ s1.0.1) form ∙ ap (λ l. decimal (code_of s2.0) ++ 32 ∷ l) counter.1 ∙ sym (regroup 32 (decimal (code_of s2.0)) (decimal s3.0.0) (10 ∷ s3.0.1)));
    } in
    subst (λ p. IsAct text p) (same_Some (Start s2.0 s3.0.0, s3.0.1) y s3.2) found

copy_takes : (text rest : List ℕ) (y : Act × List ℕ) → text ≡ codes " copy " ++ rest → copy_at rest ≡ Some y → IsAct text y
unfolding copy_at act_text
copy_takes text rest y is h =
    let first : ℕ × List ℕ → Option (Act × List ℕ) = λ block. when (nat_lt block.0 4096) (Copy block.0, block.1) in
    let read = bind_some (decimal_at 10 rest) first y h in
    let told = cond_some (nat_lt read.0.0 4096) (Copy read.0.0, read.0.1) y read.2 in
    let block = decimal_takes 10 read.0.0 rest read.0.1 read.1 in
    let found : IsAct text (Copy read.0.0, read.0.1) = record { printable = ltb-true read.0.0 4096 told.0; spelled = is ∙ ap (λ l. codes " copy " ++ l) block.1 } in
    subst (λ p. IsAct text p) told.1 found

short_takes : (text : List ℕ) (y : Act × List ℕ) → short_act_at text ≡ Some y → IsAct text y
unfolding short_act_at act_text
short_takes text y h = elim (or_takes (λ rest. Some (End, rest)) (text_behind (codes " end\n") text) _ y h) [
  | inl end ↦ subst (λ p. IsAct text p) (same_Some (End, end.0) y end.2) (record { printable = tt; spelled = behind_takes (codes " end\n") text end.0 end.1 })
  | inr other ↦ elim (or_takes (λ rest. Some (Tick, rest)) (text_behind (codes " tick\n") text) _ y other) [
    | inl tick ↦ subst (λ p. IsAct text p) (same_Some (Tick, tick.0) y tick.2) (record { printable = tt; spelled = behind_takes (codes " tick\n") text tick.0 tick.1 })
    | inr last ↦ elim (or_takes (λ rest. Some (Release, rest)) (text_behind (codes " release\n") text) None y last) [
      | inl release ↦ subst (λ p. IsAct text p) (same_Some (Release, release.0) y release.2) (record { printable = tt; spelled = behind_takes (codes " release\n") text release.0 release.1 })
      | inr none ↦ cc
    ]
  ]
]

act_takes : (text : List ℕ) (y : Act × List ℕ) → act_at text ≡ Some y → IsAct text y
unfolding act_at
act_takes text y h = elim (or_takes fetch_at (text_behind (codes " f") text) _ y h) [
  | inl fetch ↦ fetch_takes text fetch.0 y (behind_takes (codes " f") text fetch.0 fetch.1) fetch.2
  | inr h1 ↦ elim (or_takes load_at (text_behind (codes " l") text) _ y h1) [
    | inl load ↦ load_takes text load.0 y (behind_takes (codes " l") text load.0 load.1) load.2
    | inr h2 ↦ elim (or_takes start_at (text_behind (codes " start ") text) _ y h2) [
      | inl start ↦ start_takes text start.0 y (behind_takes (codes " start ") text start.0 start.1) start.2
      | inr h3 ↦ elim (or_takes store_at (text_behind (codes " s") text) _ y h3) [
        | inl store ↦ store_takes text store.0 y (behind_takes (codes " s") text store.0 store.1) store.2
        | inr h4 ↦ elim (or_takes copy_at (text_behind (codes " copy ") text) (short_act_at text) y h4) [
          | inl copy ↦ copy_takes text copy.0 y (behind_takes (codes " copy ") text copy.0 copy.1) copy.2
          | inr short ↦ short_takes text y short
        ]
      ]
    ]
  ]
]

-- an entry
pub record IsEntry (text : List ℕ) (found : Entry × List ℕ) : Type 0 where
  pub printable : IsPrintable found.0
  pub spelled : text ≡ entry_text found.0 ++ 10 ∷ found.1

pub entry_takes : (text : List ℕ) (y : Entry × List ℕ) → entry_at text ≡ Some y → IsEntry text y
unfolding entry_at entry_text
entry_takes [] y h = cc
entry_takes (c ∷ text) y h =
    let next : Act × List ℕ → Option (Entry × List ℕ) = λ a. Some ((let g : Entry = record { actor = c - 48; act = a.0 } in g), a.1) in
    let digit = cond_opt (nat_le 48 c && nat_le c 56) (act_at text >>= next) y h in
    let range = and_parts (nat_le 48 c) (nat_le c 56) digit.0 in
    let low = leb-true 48 c range.0 in
    let high = leb-true c 56 range.1 in
    let read = bind_some (act_at text) next y digit.1 in
    let act = act_takes text read.0 read.1 in
    let made : Entry = record { actor = c - 48; act = read.0.0 } in
    let actor : c - 48 ≤ 8 = omega (arith, high) in
    let back : 48 + (c - 48) ≡ c = omega (arith, low) in
    let one : decimal (c - 48) ≡ c ∷ [] = decimal_digit (c - 48) (omega (arith, actor)) ∙ ap (λ d. d ∷ []) back in
    let spelled : c ∷ text ≡ (decimal (c - 48) ++ act_text read.0.0) ++ 10 ∷ read.0.1 = ap (λ l. c ∷ l) act.spelled ∙ ap (λ ds. (ds ++ act_text read.0.0) ++ 10 ∷ read.0.1) (sym one) in
    let found : IsEntry (c ∷ text) (made, read.0.1) = record { printable = record { actor = actor; act = act.printable }; spelled = spelled } in
    subst (λ p. IsEntry (c ∷ text) p) (same_Some (made, read.0.1) y read.2) found

-- what reading gave, and that where it gave nothing no entry's line stands
pub first_found : (r : Option (Entry × Bor (List ℕ))) (text : List ℕ) → option_map (λ found. (found.0, found.1.now)) r ≡ entry_at text → IfSome r (λ found. IsPrintable found.0 × (text ≡ entry_text found.0 ++ 10 ∷ found.1.now))
first_found (Some found) text h = let e = entry_takes text (found.0, found.1.now) (sym h) in (e.printable, e.spelled)
first_found None text h = tt

pub first_none : (r : Option (Entry × Bor (List ℕ))) (text : List ℕ) → option_map (λ found. (found.0, found.1.now)) r ≡ entry_at text → IfNone r ((entry : Entry) (rest : List ℕ) → IsPrintable entry → text ≡ entry_text entry ++ 10 ∷ rest → ⊥)
first_none (Some found) text h = tt
first_none None text h = λ entry rest printable is.
    let read : None ≡ Some (entry, rest) = h ∙ ap entry_at is ∙ entry_again entry rest printable in
    false≢true (ap is_some read)
