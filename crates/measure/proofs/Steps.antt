-- What each answer of a port makes of the pass. The chronicle's laws come in as premises.
use Rattle.std.proofs.Common.{◌≡◌, ℕ, suc, ◌+◌, ◌<◌, ◌≤◌, Bool, true, false, List, [], ◌∷◌, ◌++◌, length, reverse, All, Option, Some, None, option_map, refl, sym, ap, ◌∙◌, subst, add-one}
use Rattle.std.specs.Prelude.{◌⊎◌}
use Rattle.std.proofs.lemmas.List.{reverse-append, length-reverse, length-append}
use Rattle.history.specs.declared.events.Discipline.{Discipline}
use Rattle.history.specs.declared.events.Act.{Act}
use Rattle.history.specs.declared.events.Act.TheVariants.{Start, Copy, End, Tick, Release}
use Rattle.history.specs.declared.events.Entry.{Entry}
use Rattle.history.specs.Attested.{total}
use Rattle.history.specs.Layout.{Setting}
use Rattle.history.specs.Memory.{own, block_bytes, memory_after}
use Rattle.history.specs.Pass.{Pass, longer, pass_after, pass_step, start_of}
use Rattle.history.specs.Legal.{IsLegal, MayFollow, in_order}
use Rattle.history.specs.Copied.{copied_bytes, copied_step}
use Rattle.history.specs.Instants.{ReleasesAt}
use Rattle.challenge.specs.declared.Challenge.{Challenge}
use Rattle.chronicle.specs.Laws.{KeepsPass}
use Rattle.chronicle.specs.Ports.{AddsEntry, OthersFollow, entry_by}
use Rattle.measure.specs.Passing.{EndsHere, IsUnderWay, Keeps, ReleasesHere}

abbrev pub OrderStays : Type 0
OrderStays = (w : Setting) (history others : List Entry) → IsLegal w (history ++ others) → own others 0 1 ≡ [] → (act : Act) → in_order w (pass_after (reverse (history ++ others))) act ≡ in_order w (pass_after (reverse history)) act

abbrev pub PassStays : Type 0
PassStays = (w : Setting) (history others : List Entry) → IsLegal w (history ++ others) → own others 0 1 ≡ [] → (pass : Pass) → pass_after (reverse history) ≡ Some pass → KeepsPass w history (history ++ others) pass

abbrev pub OwnNone : Type 0
OwnNone = (low high : ℕ) (others : List Entry) → All (λ entry. (entry.actor < low) ⊎ (high ≤ entry.actor)) others → own others low high ≡ []

abbrev pub PassSteps : Type 0
PassSteps = (history : List Entry) (entry : Entry) → pass_after (reverse (history ++ entry ∷ [])) ≡ pass_step entry.act entry (reverse history) (pass_after (reverse history))

abbrev pub BytesStep : Type 0
BytesStep = (w : Setting) (history : List Entry) (entry : Entry) → copied_bytes w (reverse (history ++ entry ∷ [])) ≡ copied_step w entry.act (reverse history) (copied_bytes w (reverse history))

abbrev pub OneLess : Type 0
OneLess = (w : Setting) (history : List Entry) (entry : Entry) → IsLegal w (history ++ entry ∷ []) → IsLegal w history × MayFollow w (reverse history) entry

abbrev pub ReleasesThere : Type 0
ReleasesThere = (history : List Entry) (entry : Entry) (more : List Entry) (pass : Pass) → pass_after (reverse history) ≡ Some pass → entry.act ≡ Release → ReleasesAt (history ++ entry ∷ more) pass.discipline pass.counter (start_of pass) (length history + 1)

-- the list without its last entry is as long as the place of that entry, less one
length_more : (history : List Entry) (entry : Entry) → length history + 1 ≡ length (history ++ entry ∷ [])
length_more history entry = sym (length-append history (entry ∷ []))

-- the pass that others kept
kept : (w : Setting) (old new : List Entry) (c : Challenge) (start copied : ℕ) (ended : Bool) (u : IsUnderWay w old c start copied ended) → KeepsPass w old new u.pass → IsUnderWay w new c start copied ended
kept w old new c start copied ended u k = record {
  pass = k.now;
  last = k.last;
  discipline = k.same.discipline ∙ u.discipline;
  counter = k.same.counter ∙ u.counter;
  began = ap (λ (l : List Entry). length l) k.same.opened ∙ u.began;
  count = k.same.copied ∙ u.count;
  over = k.same.ended ∙ u.over;
  released = k.same.released ∙ u.released;
}

-- entries of others alone
pub keeps_rest : OrderStays → PassStays → (w : Setting) (old rest : List Entry) → IsLegal w (old ++ rest) → own rest 0 1 ≡ [] → Keeps w old (old ++ rest)
keeps_rest order stays w old rest legal none = record {
  legal = λ was. legal;
  start = λ discipline counter. order w old rest legal none (Start discipline counter);
  under_way = λ c start copied ended u. kept w old (old ++ rest) c start copied ended u (stays w old rest legal none u.pass u.last);
  bytes = λ c start copied ended u. (stays w old rest legal none u.pass u.last).bytes;
}

pub keeps_others : OrderStays → PassStays → OwnNone → (w : Setting) (old new : List Entry) → IsLegal w new → OthersFollow 0 1 old new → Keeps w old new
keeps_others order stays none w old new legal f =
    subst (Keeps w old) (sym f.whole) (keeps_rest order stays w old f.rest (subst (IsLegal w) f.whole legal) (none 0 1 f.rest f.beyond))

pub keeps_join : (w : Setting) (first second third : List Entry) → Keeps w first second → Keeps w second third → Keeps w first third
keeps_join w first second third a b = record {
  legal = λ was. b.legal (a.legal was);
  start = λ discipline counter. b.start discipline counter ∙ a.start discipline counter;
  under_way = λ c start copied ended u. b.under_way c start copied ended (a.under_way c start copied ended u);
  bytes = λ c start copied ended u. b.bytes c start copied ended (a.under_way c start copied ended u) ∙ a.bytes c start copied ended u;
}

-- a Tick leaves open what was open
tick_order : (w : Setting) (before : Option Pass) (entry : Entry) (discipline : Discipline) (counter : ℕ) → entry ≡ entry_by 0 Tick → in_order w (option_map (longer entry) before) (Start discipline counter) ≡ in_order w before (Start discipline counter)
tick_order w None entry discipline counter is = refl
tick_order w (Some pass) entry discipline counter is = rw is refl

tick_last : PassSteps → BytesStep → (w : Setting) (middle : List Entry) → IsLegal w (middle ++ entry_by 0 Tick ∷ []) → Keeps w middle (middle ++ entry_by 0 Tick ∷ [])
tick_last steps bytes w middle legal = record {
  legal = λ was. legal;
  start = λ discipline counter. ap (λ p. in_order w p (Start discipline counter)) (steps middle (entry_by 0 Tick)) ∙ tick_order w (pass_after (reverse middle)) (entry_by 0 Tick) discipline counter refl;
  under_way = λ c start copied ended u. record {
    pass = longer (entry_by 0 Tick) u.pass;
    last = steps middle (entry_by 0 Tick) ∙ ap (option_map (longer (entry_by 0 Tick))) u.last;
    discipline = u.discipline;
    counter = u.counter;
    began = u.began;
    count = u.count;
    over = u.over;
    released = u.released;
  };
  bytes = λ c start copied ended u. bytes w middle (entry_by 0 Tick);
}

-- what stands before the own entry is legal, and others alone have acted since
record Middle (w : Setting) (old new : List Entry) (entry : Entry) : Type 0 where
  middle : List Entry
  whole : new ≡ middle ++ entry ∷ []
  keeps : Keeps w old middle
  legal : IsLegal w (middle ++ entry ∷ [])

middle_of : OrderStays → PassStays → OwnNone → OneLess → (w : Setting) (old new : List Entry) (entry : Entry) → IsLegal w new → AddsEntry 0 1 old new entry → Middle w old new entry
middle_of order stays none less w old new entry legal a =
    let all = subst (IsLegal w) a.whole legal in
    record {
      middle = old ++ a.between;
      whole = a.whole;
      keeps = keeps_rest order stays w old a.between (less w (old ++ a.between) entry all).0 (none 0 1 a.between a.beyond);
      legal = all;
    }

pub keeps_tick : OrderStays → PassStays → OwnNone → OneLess → PassSteps → BytesStep → (w : Setting) (old new : List Entry) → IsLegal w new → AddsEntry 0 1 old new (entry_by 0 Tick) → Keeps w old new
keeps_tick order stays none less steps bytes w old new legal a =
    let m = middle_of order stays none less w old new (entry_by 0 Tick) legal a in
    keeps_join w old m.middle new m.keeps (subst (Keeps w m.middle) (sym m.whole) (tick_last steps bytes w m.middle m.legal))

-- Start, with what stands before it
start_last : PassSteps → (w : Setting) (middle : List Entry) (c : Challenge) → IsUnderWay w (middle ++ entry_by 0 (Start c.discipline c.counter) ∷ []) c (length (middle ++ entry_by 0 (Start c.discipline c.counter) ∷ [])) 0 false
start_last steps w middle c =
    let entry = entry_by 0 (Start c.discipline c.counter) in
    record {
      pass = record { discipline = c.discipline; counter = c.counter; since = []; opened = entry ∷ reverse middle };
      last = steps middle entry;
      discipline = refl;
      counter = refl;
      began = sym (add-one (length (reverse middle))) ∙ ap (λ n. n + 1) (length-reverse middle) ∙ length_more middle entry;
      count = refl;
      over = refl;
      released = refl;
    }

pub starts : PassSteps → BytesStep → (w : Setting) (old new : List Entry) (c : Challenge) → AddsEntry 0 1 old new (entry_by 0 (Start c.discipline c.counter)) → IsUnderWay w new c (length new) 0 false × (copied_bytes w (reverse new) ≡ [])
starts steps bytes w old new c a =
    let entry = entry_by 0 (Start c.discipline c.counter) in
    subst (λ l. IsUnderWay w l c (length l) 0 false × (copied_bytes w (reverse l) ≡ [])) (sym a.whole)
    (start_last steps w (old ++ a.between) c, bytes w (old ++ a.between) entry)

-- a Copy, with what stands before it
copy_last : PassSteps → (w : Setting) (middle : List Entry) (c : Challenge) (start copied block : ℕ) → IsUnderWay w middle c start copied false → IsUnderWay w (middle ++ entry_by 0 (Copy block) ∷ []) c start (copied + 1) false
copy_last steps w middle c start copied block u = record {
  pass = longer (entry_by 0 (Copy block)) u.pass;
  last = steps middle (entry_by 0 (Copy block)) ∙ ap (option_map (longer (entry_by 0 (Copy block)))) u.last;
  discipline = u.discipline;
  counter = u.counter;
  began = u.began;
  count = ap suc u.count ∙ sym (add-one copied);
  over = u.over;
  released = u.released;
}

-- it changes no byte
copy_memory : (w : Setting) (middle : List Entry) (block : ℕ) → memory_after w (reverse (middle ++ entry_by 0 (Copy block) ∷ [])) ≡ memory_after w (reverse middle)
copy_memory w middle block = ap (memory_after w) (reverse-append middle (entry_by 0 (Copy block) ∷ []))

pub copied_next : OrderStays → PassStays → OwnNone → OneLess → PassSteps → BytesStep → (w : Setting) (old new : List Entry) (c : Challenge) (start copied block : ℕ)
    → IsLegal w new → AddsEntry 0 1 old new (entry_by 0 (Copy block)) → IsUnderWay w old c start copied false
    → IsUnderWay w new c start (copied + 1) false × (copied_bytes w (reverse new) ≡ copied_bytes w (reverse old) ++ block_bytes w (memory_after w (reverse new)) block)
copied_next order stays none less steps bytes w old new c start copied block legal a u =
    let entry = entry_by 0 (Copy block) in
    let m = middle_of order stays none less w old new entry legal a in
    let there = m.keeps.under_way c start copied false u in
    subst (λ l. IsUnderWay w l c start (copied + 1) false × (copied_bytes w (reverse l) ≡ copied_bytes w (reverse old) ++ block_bytes w (memory_after w (reverse l)) block)) (sym m.whole) (
      copy_last steps w m.middle c start copied block there,
      bytes w m.middle entry
          ∙ ap (λ l. l ++ block_bytes w (memory_after w (reverse m.middle)) block) (m.keeps.bytes c start copied false u)
          ∙ ap (λ memory. copied_bytes w (reverse old) ++ block_bytes w memory block) (sym (copy_memory w m.middle block)),
    )

-- End, with what stands before it
end_last : PassSteps → (w : Setting) (middle : List Entry) (c : Challenge) (start copied : ℕ) → IsUnderWay w middle c start copied false → IsUnderWay w (middle ++ entry_by 0 End ∷ []) c start copied true
end_last steps w middle c start copied u = record {
  pass = longer (entry_by 0 End) u.pass;
  last = steps middle (entry_by 0 End) ∙ ap (option_map (longer (entry_by 0 End))) u.last;
  discipline = u.discipline;
  counter = u.counter;
  began = u.began;
  count = u.count;
  over = refl;
  released = u.released;
}

pub ends_here : OrderStays → PassStays → OwnNone → OneLess → PassSteps → (w : Setting) (old new : List Entry) (c : Challenge) (start : ℕ)
    → IsLegal w new → AddsEntry 0 1 old new (entry_by 0 End) → IsUnderWay w old c start (total w.ranges) false → EndsHere w old new c start
ends_here order stays none less steps w old new c start legal a u =
    let m = middle_of order stays none less w old new (entry_by 0 End) legal a in
    let there = m.keeps.under_way c start (total w.ranges) false u in
    record {
      before = m.middle;
      last = m.whole;
      under_way = there;
      bytes = m.keeps.bytes c start (total w.ranges) false u;
      ended = subst (λ l. IsUnderWay w l c start (total w.ranges) true) (sym m.whole) (end_last steps w m.middle c start (total w.ranges) there);
    }

-- the fact on a pass, for the challenge that it answers
same_releases : (history : List Entry) (c : Challenge) (start place other : ℕ) (pass : Pass) → pass.discipline ≡ c.discipline → pass.counter ≡ c.counter → start_of pass ≡ start → other ≡ place
    → ReleasesAt history pass.discipline pass.counter (start_of pass) other → ReleasesAt history c.discipline c.counter start place
same_releases history c start place other pass d n s p fact = rw (← d, ← n, ← s, ← p) fact

pub releases_here : OrderStays → PassStays → OwnNone → OneLess → ReleasesThere → (w : Setting) (old new : List Entry) (c : Challenge) (start : ℕ)
    → IsLegal w new → AddsEntry 0 1 old new (entry_by 0 Release) → IsUnderWay w old c start (total w.ranges) true → ReleasesHere new c start
releases_here order stays none less releases w old new c start legal a u =
    let m = middle_of order stays none less w old new (entry_by 0 Release) legal a in
    let there = m.keeps.under_way c start (total w.ranges) true u in
    record {
      before = m.middle;
      last = m.whole;
      releases = subst (λ l. ReleasesAt l c.discipline c.counter start (length l)) (sym m.whole)
          (same_releases (m.middle ++ entry_by 0 Release ∷ []) c start (length (m.middle ++ entry_by 0 Release ∷ [])) (length m.middle + 1) there.pass there.discipline there.counter there.began (length_more m.middle (entry_by 0 Release))
          (releases m.middle (entry_by 0 Release) [] there.pass there.last refl));
    }
