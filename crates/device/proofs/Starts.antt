-- Challenges whose counters rise start each counter once.
use Rattle.std.proofs.Common.{◌≡◌, ℕ, zero, suc, ◌+◌, ◌<◌, ◌≤◌, Bool, true, false, List, [], ◌∷◌, ◌++◌, length, map, take, drop, reverse, Some, refl, sym, ap, ◌∙◌, subst, inl, inr, arith, length-append}
use Rattle.std.specs.Prelude.{◌≢◌, ◌&&◌, ◌==◌, IsTrue, cond, if◌then◌else◌, nat_le, nat_lt, filter, replicate}
use Rattle.std.proofs.lemmas.Bool.{cases_lt, false≢true, eqb-true, eqb-false}
use Rattle.std.proofs.lemmas.List.{reverse-append, take-append-drop}
use Rattle.std.proofs.lemmas.List.Elements.{filter-append}
use Rattle.history.specs.declared.events.Discipline.{Discipline}
use Rattle.history.specs.declared.events.Act.{Act}
use Rattle.history.specs.declared.events.Act.TheVariants.{Fetch, Load, Store, Start, Copy, End, Tick, Release}
use Rattle.history.specs.declared.events.Entry.{Entry}
use Rattle.history.specs.Attested.{attested_blocks}
use Rattle.history.specs.Layout.{Setting}
use Rattle.history.specs.Memory.{back, own}
use Rattle.history.specs.Pass.{Pass, pass_after, is_extended}
use Rattle.history.specs.Instants.{IsPassAt}
use Rattle.history.specs.Legal.{IsLegalBack, actor_fits}
use Rattle.challenge.specs.declared.Challenge.{Challenge}
use Rattle.chronicle.specs.declared.worlds.Shape.{Shape}
use Rattle.chronicle.specs.Worlds.{shape_of}
use Rattle.chronicle.specs.Ports.{entry_by}
use Rattle.measure.specs.Program.{copies, pass_acts, closing_acts, measuring_program, measuring_programs}
use Rattle.device.specs.Setups.{Rise, Setup}
use Rattle.device.specs.Runs.{IsRunSoFar, measurer_acts}
use Rattle.device.specs.Once.{StartsOnce}
use Rattle.device.proofs.OnePass.{antisym, back_older, back_split, length_back, opens, pass_cases, pass_whole, reverse_split}

-- ---- how often a counter is started

abbrev one : Bool → ℕ
one true = 1
one false = 0

-- how many of these acts start this counter
abbrev starts : ℕ → List Act → ℕ
starts n [] = 0
starts n (a ∷ acts) = one (opens n a) + starts n acts

abbrev begun : ℕ → List Entry → ℕ
begun n [] = 0
begun n (entry ∷ entries) = one (opens n entry.act) + begun n entries

starts_append : (n : ℕ) (a b : List Act) → starts n (a ++ b) ≡ starts n a + starts n b
starts_append n [] b = omega arith
starts_append n (x ∷ a) b = omega (arith, starts_append n a b)

begun_append : (n : ℕ) (a b : List Entry) → begun n (a ++ b) ≡ begun n a + begun n b
begun_append n [] b = omega arith
begun_append n (x ∷ a) b = omega (arith, begun_append n a b)

begun_map : (n : ℕ) (acts : List Act) → begun n (map (entry_by 0) acts) ≡ starts n acts
begun_map n [] = refl
begun_map n (a ∷ acts) = ap (λ k. one (opens n a) + k) (begun_map n acts)

starts_front : (n k : ℕ) (acts : List Act) → starts n (take k acts) ≤ starts n acts
starts_front n k acts = omega (arith, starts_append n (take k acts) (drop k acts), ap (starts n) (take-append-drop k acts))

-- ---- of the measurer alone

-- a filter has the same starts whichever end comes first
begun_reverse : (n : ℕ) (q : Entry → Bool) (xs : List Entry) → begun n (filter q (reverse xs)) ≡ begun n (filter q xs)
begun_reverse n q [] = refl
begun_reverse n q (x ∷ xs) =
    let there : begun n (filter q (reverse (x ∷ xs))) ≡ begun n (filter q (reverse xs)) + begun n (filter q (x ∷ [])) =
    ap (λ l. begun n (filter q l)) (reverse-append (x ∷ []) xs) ∙ ap (begun n) (filter-append q (reverse xs) (x ∷ [])) ∙ begun_append n (filter q (reverse xs)) (filter q (x ∷ [])) in
    let here : begun n (filter q (x ∷ xs)) ≡ begun n (filter q (x ∷ [])) + begun n (filter q xs) =
    ap (begun n) (filter-append q (x ∷ []) xs) ∙ begun_append n (filter q (x ∷ [])) (filter q xs) in
    omega (arith, there, here, begun_reverse n q xs)

-- an actor that isn't the measurer starts no pass
others_access : (n actor : ℕ) (a : Act) → IsTrue (actor_fits (entry_by actor a)) → (nat_le 0 actor && nat_lt actor 1) ≡ false → opens n a ≡ false
others_access n actor (Start discipline counter) fits other = absurd (false≢true (sym other ∙ ap (λ k. nat_le 0 k && nat_lt k 1) (eqb-true actor 0 fits)))
others_access n actor (Fetch addr value) fits other = refl
others_access n actor (Load addr width value) fits other = refl
others_access n actor (Store addr width value) fits other = refl
others_access n actor (Copy block) fits other = refl
others_access n actor End fits other = refl
others_access n actor Tick fits other = refl
others_access n actor Release fits other = refl

own_step : (n actor : ℕ) (a : Act) (past : List Entry) → IsTrue (actor_fits (entry_by actor a)) → (b : Bool) → (nat_le 0 actor && nat_lt actor 1) ≡ b
    → begun n (own (entry_by actor a ∷ past) 0 1) ≡ one (opens n a) + begun n (own past 0 1)
own_step n actor a past fits true is = ap (λ b. begun n (cond b (entry_by actor a ∷ own past 0 1) (own past 0 1))) is
own_step n actor a past fits false is =
    let none : one (opens n a) ≡ 0 = ap one (others_access n actor a fits is) in
    let skips : begun n (own (entry_by actor a ∷ past) 0 1) ≡ begun n (own past 0 1) = ap (λ b. begun n (cond b (entry_by actor a ∷ own past 0 1) (own past 0 1))) is in
    omega (arith, none, skips)

-- all starts are the measurer's
begun_own : (w : Setting) (n : ℕ) (past : List Entry) → IsLegalBack w past → begun n past ≡ begun n (own past 0 1)
begun_own w n [] legal = refl
begun_own w n (entry ∷ past) legal =
    let step = own_step n entry.actor entry.act past legal.1.actor (nat_le 0 entry.actor && nat_lt entry.actor 1) refl in
    omega (arith, step, begun_own w n past legal.0)

-- ---- of its program

no_starts_ticks : (n k : ℕ) → starts n (replicate k Tick) ≡ 0
no_starts_ticks n zero = refl
no_starts_ticks n (suc k) = omega (arith, no_starts_ticks n k)

no_starts_copies : (n : ℕ) (blocks : List ℕ) → starts n (copies blocks) ≡ 0
no_starts_copies n [] = refl
no_starts_copies n (block ∷ blocks) = omega (arith, no_starts_copies n blocks)

no_starts_closing : (n hold : ℕ) (b : Bool) → starts n (if b then replicate hold Tick ++ (Release ∷ []) else []) ≡ 0
no_starts_closing n hold false = refl
no_starts_closing n hold true = omega (arith, starts_append n (replicate hold Tick) (Release ∷ []), no_starts_ticks n hold)

-- a challenge's program starts its own counter
starts_program : (n : ℕ) (c : Challenge) (shape : Shape) → starts n (measuring_program c shape) ≡ one (c.counter == n)
starts_program n c shape =
    let ticks = replicate c.lead Tick in
    let blocks = copies (attested_blocks shape.ranges) in
    let closing = closing_acts c in
    let first : starts n (measuring_program c shape) ≡ starts n (ticks ++ pass_acts c shape) + starts n closing = starts_append n (ticks ++ pass_acts c shape) closing in
    let second : starts n (ticks ++ pass_acts c shape) ≡ starts n ticks + starts n (pass_acts c shape) = starts_append n ticks (pass_acts c shape) in
    let begins : starts n (pass_acts c shape) ≡ one (c.counter == n) + starts n (blocks ++ (End ∷ [])) = refl in
    let middle : starts n (blocks ++ (End ∷ [])) ≡ starts n blocks + 0 = starts_append n blocks (End ∷ []) in
    let last : starts n closing ≡ 0 = no_starts_closing n c.hold (is_extended c.discipline) in
    omega (arith, first, second, begins, middle, last, no_starts_ticks n c.lead, no_starts_copies n (attested_blocks shape.ranges))

starts_programs : (n : ℕ) (c : Challenge) (more : List Challenge) (shape : Shape) → starts n (measuring_programs (c ∷ more) shape) ≡ one (c.counter == n) + starts n (measuring_programs more shape)
starts_programs n c more shape = starts_append n (measuring_program c shape) (measuring_programs more shape) ∙ ap (λ k. k + starts n (measuring_programs more shape)) (starts_program n c shape)

not_equal : (a b : ℕ) (e : Bool) → (a == b) ≡ e → a ≢ b → (a == b) ≡ false
not_equal a b true is differ = absurd (differ (eqb-true a b is))
not_equal a b false is differ = is

one_of : (a b : ℕ) → a ≢ b → one (a == b) ≡ 0
one_of a b differ = ap one (not_equal a b (a == b) refl differ)

-- counters that rise from above this one start it nowhere
starts_above : (n last : ℕ) (challenges : List Challenge) (shape : Shape) → Rise last challenges → n ≤ last → starts n (measuring_programs challenges shape) ≡ 0
starts_above n last [] shape rise low = refl
starts_above n last (c ∷ more) shape rise low =
    omega (arith, starts_programs n c more shape, one_of c.counter n (λ same. omega (arith, same, rise.0, low)), starts_above n c.counter more shape rise.1 (omega (arith, rise.0, low)))

at_most_step : (n : ℕ) (c : Challenge) (more : List Challenge) (shape : Shape) → Rise c.counter more → starts n (measuring_programs more shape) ≤ 1
    → (b : Bool) → (c.counter == n) ≡ b → starts n (measuring_programs (c ∷ more) shape) ≤ 1
at_most_step n c more shape rise few true is =
    omega (arith, starts_programs n c more shape, ap one is, starts_above n c.counter more shape rise (omega (arith, eqb-true c.counter n is)))
at_most_step n c more shape rise few false is = omega (arith, starts_programs n c more shape, ap one is, few)

starts_at_most : (n last : ℕ) (challenges : List Challenge) (shape : Shape) → Rise last challenges → starts n (measuring_programs challenges shape) ≤ 1
starts_at_most n last [] shape rise = omega arith
starts_at_most n last (c ∷ more) shape rise = at_most_step n c more shape rise.1 (starts_at_most n c.counter more shape rise.1) (c.counter == n) refl

-- ---- of a run

begun_once : (s : Setup) (history : List Entry) → IsRunSoFar s history → (last : ℕ) → Rise last s.challenges → (n : ℕ) → begun n (reverse history) ≤ 1
begun_once s history run last rise n =
    let all = measurer_acts s in
    let made = take (length (own history 0 1)) all in
    let here : begun n (reverse history) ≡ begun n (own history 0 1) =
    begun_own s.world n (reverse history) run.legal ∙ begun_reverse n (λ entry. nat_le 0 entry.actor && nat_lt entry.actor 1) history in
    let there : begun n (own history 0 1) ≡ starts n made = ap (begun n) run.measurer ∙ begun_map n made in
    omega (arith, here, there, starts_front n (length (own history 0 1)) all, starts_at_most n last s.challenges (shape_of s.world) rise)

-- a pass stands on its Start
record StandsOn (pass : Pass) : Type 0 where
  pub entry : Entry
  pub rest : List Entry
  pub opened : pass.opened ≡ entry ∷ rest
  pub starts : entry.act ≡ Start pass.discipline pass.counter

stands_on : (past : List Entry) (pass : Pass) → pass_after past ≡ Some pass → StandsOn pass
stands_on [] pass h = absurd cc
stands_on (entry ∷ past) pass h =
    elim (pass_cases entry past pass h) [
      | inl o ↦ record { entry = entry; rest = past; opened = o.opened; starts = o.starts }
      | inr g ↦
          let e = stands_on past g.earlier g.was in
          subst (λ p. StandsOn p) g.now (record { entry = e.entry; rest = e.rest; opened = e.opened; starts = e.starts })
    ]

opened_is : (history : List Entry) (form : Discipline) (number start place : ℕ) (pass : Pass) → IsPassAt history form number start place pass → pass.opened ≡ back history start
opened_is history form number start place pass here =
    back_older history place here.within pass.since pass.opened (pass_whole (back history place) pass here.last) ∙ ap (back history) here.began

own_counter : (n : ℕ) (b : Bool) → (n == n) ≡ b → (n == n) ≡ true
own_counter n true is = is
own_counter n false is = absurd (eqb-false n n is refl)

-- its Start counts
opened_begins : (history : List Entry) (form : Discipline) (number start place : ℕ) (pass : Pass) → IsPassAt history form number start place pass
    → (entry : Entry) × (rest : List Entry) × (back history start ≡ entry ∷ rest) × (opens number entry.act ≡ true)
opened_begins history form number start place pass here =
    let e = stands_on (back history place) pass here.last in
    (e.entry, e.rest, sym (opened_is history form number start place pass here) ∙ e.opened, ap (opens number) e.starts ∙ ap (λ k. k == number) here.counter ∙ own_counter number (number == number) refl)

two_starts : (n : ℕ) (newer older : List Entry) (a b : Entry) (x y : List Entry) → older ≡ a ∷ x → newer ++ older ≡ b ∷ y → opens n a.act ≡ true → opens n b.act ≡ true → length older < length (newer ++ older)
    → 2 ≤ begun n (newer ++ older)
two_starts n [] older a b x y first second counts also more = absurd (omega (arith, more))
two_starts n (entry ∷ newer) older a b x y first second counts also more =
    let same : entry ≡ b = cc in
    let top : one (opens n entry.act) ≡ 1 = ap (λ e. one (opens n e.act)) same ∙ ap one also in
    let low : begun n older ≡ one (opens n a.act) + begun n x = ap (begun n) first in
    omega (arith, top, low, ap one counts, begun_append n newer older)

starts_within : (history : List Entry) (form : Discipline) (number start place : ℕ) (pass : Pass) → IsPassAt history form number start place pass → start ≤ length history
starts_within history form number start place pass here =
    let whole = ap length (pass_whole (back history place) pass here.last) in
    omega (arith, length-append pass.since pass.opened, whole, length_back history place here.within, here.began, here.within)

not_before : (history : List Entry) → ((n : ℕ) → begun n (reverse history) ≤ 1) → (form : Discipline) (number start place other elsewhere : ℕ) (pass another : Pass)
    → IsPassAt history form number start place pass → IsPassAt history form number other elsewhere another → other ≤ start
not_before history few form number start place other elsewhere pass another here there =
    elim (cases_lt start other) [
      | inl before ↦
          let a = opened_begins history form number start place pass here in
          let b = opened_begins history form number other elsewhere another there in
          let newer = reverse (drop start (take other history)) in
          let split : newer ++ back history start ≡ back history other = back_split history start other (omega (arith, before)) in
          let within = starts_within history form number other elsewhere another there in
          let two = two_starts number newer (back history start) a.0 b.0 a.1 b.1 a.2 (split ∙ b.2) a.3 b.3
          (omega (arith, ap length split, length_back history start (omega (arith, before, within)), length_back history other within, before)) in
          let whole = sym (begun_append number (reverse (drop other history)) (back history other)) ∙ ap (begun number) (reverse_split history other) in
          absurd (omega (arith, two, ap (begun number) split, whole, few number))
      | inr after ↦ after
    ]

pub starts_once : (s : Setup) (history : List Entry) → IsRunSoFar s history → (last : ℕ) → Rise last s.challenges → StartsOnce history
starts_once s history run last rise form number start place other elsewhere pass another here there =
    let few = begun_once s history run last rise in
    antisym start other (not_before history few form number other elsewhere start place another pass there here) (not_before history few form number start place other elsewhere pass another here there)
