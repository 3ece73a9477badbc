-- The measurer's programs, act by act: what holds after each front of them.
use Rattle.std.proofs.Common.{◌≡◌, ℕ, zero, suc, ◌+◌, ◌<◌, Bool, true, false, List, [], ◌∷◌, ◌++◌, length, map, reverse, replicate, get_or, take, drop, drop-cons, Option, Some, None, option_map, refl, sym, ap, ◌∙◌, subst, inl, inr, append_assoc, append-nil, length-drop, arith}
use Rattle.std.proofs.Math.Seq.{take-append_seam}
use Rattle.std.proofs.Math.Nat.{add-zero, zero-add}
use Rattle.std.specs.Prelude.{IsTrue, ◌⊎◌, not, ◌&&◌, if◌then◌else◌}
use Rattle.std.proofs.lemmas.List.{reverse-append}
use Rattle.history.specs.declared.events.Discipline.{Discipline}
use Rattle.history.specs.declared.events.Act.{Act}
use Rattle.history.specs.declared.events.Act.TheVariants.{Start, Copy, End, Tick, Release}
use Rattle.history.specs.declared.events.Entry.{Entry}
use Rattle.history.specs.Attested.{attested_blocks}
use Rattle.history.specs.Layout.{Setting, IsSetting}
use Rattle.history.specs.Memory.{own}
use Rattle.history.specs.Pass.{Pass, longer, pass_after, pass_step, copied_of, is_ended, is_extended, is_released}
use Rattle.history.specs.Legal.{IsLegal, copies_next, in_order}
use Rattle.challenge.specs.declared.Challenge.{Challenge}
use Rattle.chronicle.specs.declared.worlds.Shape.{Shape}
use Rattle.chronicle.specs.Worlds.{shape_of}
use Rattle.chronicle.specs.Ports.{entry_by}
use Rattle.measure.specs.Program.{HasMade, MayStart, closing_acts, measuring_program, measuring_programs, pass_acts}
use Rattle.measure.proofs.Blocks.{IndexesAttested, IndexesKept, copy_next, end_next}

-- a list of entries, with these acts of the measurer's after it
abbrev with_acts : List Entry → List Act → List Entry
with_acts history acts = history ++ map (entry_by 0) acts

-- the act is in order after these entries
abbrev MayMake : Setting → List Entry → Act → Type 0
MayMake w history a = IsTrue (in_order w (pass_after (reverse history)) a)

-- From each list of entries at which before holds, each of these acts is in order after those before it, and once
-- all are made after holds.
record Goes (w : Setting) (before : List Entry → Type 0) (acts : List Act) (after : List Entry → Type 0) : Type 0 where
  order : (history : List Entry) → before history → (made : List Act) (next : Act) (missed : List Act) → acts ≡ made ++ next ∷ missed → MayMake w (with_acts history made) next
  done : (history : List Entry) → before history → after (with_acts history acts)

-- ---- two parts in a row

with_both : (history : List Entry) (a b : List Act) → with_acts (with_acts history a) b ≡ with_acts history (a ++ b)
with_both history [] b = ap (λ l. l ++ map (entry_by 0) b) (append-nil history)
with_both history (x ∷ a) b =
    ap (λ l. l ++ map (entry_by 0) b) (sym (append_assoc history (entry_by 0 x ∷ []) (map (entry_by 0) a)))
    ∙ with_both (history ++ entry_by 0 x ∷ []) a b
    ∙ append_assoc history (entry_by 0 x ∷ []) (map (entry_by 0) (a ++ b))

same_head : {A : Type 0} (x y : A) (a b : List A) → x ∷ a ≡ y ∷ b → x ≡ y
same_head x y a b h = cc

same_rest : {A : Type 0} (x y : A) (a b : List A) → x ∷ a ≡ y ∷ b → a ≡ b
same_rest x y a b h = cc

-- an element of two lists in a row stands in the first or in the second
abbrev StandsIn : List Act → List Act → List Act → Act → List Act → Type 0
StandsIn a b made x missed = ((rest : List Act) × (a ≡ made ++ x ∷ rest)) ⊎ ((front : List Act) × (made ≡ a ++ front) × (b ≡ front ++ x ∷ missed))

one_further : (y z : Act) (a b made : List Act) (x : Act) (missed : List Act) → y ≡ z → StandsIn a b made x missed → StandsIn (y ∷ a) b (z ∷ made) x missed
one_further y z a b made x missed first (inl (rest, is)) = inl (rest, cc)
one_further y z a b made x missed first (inr (front, is, more)) = inr (front, cc, more)

split_of : (a b made : List Act) (x : Act) (missed : List Act) → a ++ b ≡ made ++ x ∷ missed → StandsIn a b made x missed
split_of [] b made x missed h = inr (made, refl, h)
split_of (y ∷ a) b [] x missed h = inl (a, ap (λ z. z ∷ a) (same_head y x (a ++ b) missed h))
split_of (y ∷ a) b (z ∷ made) x missed h =
    one_further y z a b made x missed (same_head y z (a ++ b) (made ++ x ∷ missed) h) (split_of a b made x missed (same_rest y z (a ++ b) (made ++ x ∷ missed) h))

goes_order : (w : Setting) (before middle after : List Entry → Type 0) (a b : List Act) → Goes w before a middle → Goes w middle b after
    → (history : List Entry) → before history → (made : List Act) (next : Act) (missed : List Act)
    → StandsIn a b made next missed → MayMake w (with_acts history made) next
goes_order w before middle after a b first second history h made next missed (inl (rest, a_is)) = first.order history h made next rest a_is
goes_order w before middle after a b first second history h made next missed (inr (front, made_is, b_is)) =
    subst (λ l. MayMake w l next) (with_both history a front ∙ ap (with_acts history) (sym made_is))
    (second.order (with_acts history a) (first.done history h) front next missed b_is)

goes_join : (w : Setting) (before middle after : List Entry → Type 0) (a b : List Act) → Goes w before a middle → Goes w middle b after → Goes w before (a ++ b) after
goes_join w before middle after a b first second = record {
  order = λ history h made next missed whole. goes_order w before middle after a b first second history h made next missed (split_of a b made next missed whole);
  done = λ history h. subst after (with_both history a b) (second.done (with_acts history a) (first.done history h));
}

no_element : {A : Type 0} (made : List A) (x : A) (missed : List A) → [] ≡ made ++ x ∷ missed → ⊥
no_element [] x missed h = cc
no_element (y ∷ made) x missed h = cc

goes_none : (w : Setting) (fact : List Entry → Type 0) → Goes w fact [] fact
goes_none w fact = record {
  order = λ history h made next missed whole. absurd (no_element made next missed whole);
  done = λ history h. subst fact (sym (append-nil history)) h;
}

one_order : (w : Setting) (history : List Entry) (a : Act) (made : List Act) (next : Act) (missed : List Act) → MayMake w history a → a ∷ [] ≡ made ++ next ∷ missed → MayMake w (with_acts history made) next
one_order w history a [] next missed may whole = subst (λ l. MayMake w l next) (sym (append-nil history)) (subst (MayMake w history) (same_head a next [] missed whole) may)
one_order w history a (b ∷ made) next missed may whole = absurd (no_element made next missed (same_rest a b [] (made ++ next ∷ missed) whole))

goes_one : (w : Setting) (before : List Entry → Type 0) (a : Act) (after : List Entry → Type 0)
    → ((history : List Entry) → before history → MayMake w history a × after (history ++ entry_by 0 a ∷ [])) → Goes w before (a ∷ []) after
goes_one w before a after step = record {
  order = λ history h made next missed whole. one_order w history a made next missed (step history h).0 whole;
  done = λ history h. (step history h).1;
}

goes_ticks : (w : Setting) (fact : List Entry → Type 0) → ((history : List Entry) → fact history → fact (history ++ entry_by 0 Tick ∷ [])) → (count : ℕ) → Goes w fact (replicate count Tick) fact
goes_ticks w fact step zero = goes_none w fact
goes_ticks w fact step (suc count) = goes_join w fact fact fact (Tick ∷ []) (replicate count Tick) (goes_one w fact Tick fact (λ history h. (refl, step history h))) (goes_ticks w fact step count)

-- ---- the pass of a program

-- the last pass has this discipline and so many copies, with or without its End, and no Release
record Runs (w : Setting) (discipline : Discipline) (copied : ℕ) (ended : Bool) (history : List Entry) : Type 0 where
  pass : Pass
  last : pass_after (reverse history) ≡ Some pass
  form : pass.discipline ≡ discipline
  count : copied_of pass ≡ copied
  over : is_ended pass ≡ ended
  released : is_released pass ≡ false

stepped : (history : List Entry) (entry : Entry) → pass_after (reverse (history ++ entry ∷ [])) ≡ pass_step entry.act entry (reverse history) (pass_after (reverse history))
stepped history entry = ap pass_after (reverse-append history (entry ∷ []))

-- the pass goes on with an entry that opens none
goes_on : (history : List Entry) (entry : Entry) (pass : Pass) → pass_step entry.act entry (reverse history) (Some pass) ≡ Some (longer entry pass) → pass_after (reverse history) ≡ Some pass
    → pass_after (reverse (history ++ entry ∷ [])) ≡ Some (longer entry pass)
goes_on history entry pass same last = stepped history entry ∙ ap (pass_step entry.act entry (reverse history)) last ∙ same

runs_tick : (w : Setting) (d : Discipline) (copied : ℕ) (ended : Bool) (history : List Entry) → Runs w d copied ended history → Runs w d copied ended (history ++ entry_by 0 Tick ∷ [])
runs_tick w d copied ended history r = record {
  pass = longer (entry_by 0 Tick) r.pass;
  last = goes_on history (entry_by 0 Tick) r.pass refl r.last;
  form = r.form;
  count = r.count;
  over = r.over;
  released = r.released;
}

tick_order : (w : Setting) (before : Option Pass) (d : Discipline) (counter : ℕ) → in_order w (option_map (longer (entry_by 0 Tick)) before) (Start d counter) ≡ in_order w before (Start d counter)
tick_order w None d counter = refl
tick_order w (Some pass) d counter = refl

start_tick : (w : Setting) (history : List Entry) → MayStart w history → MayStart w (history ++ entry_by 0 Tick ∷ [])
start_tick w history may d counter = (ap (λ p. in_order w p (Start d counter)) (stepped history (entry_by 0 Tick)) ∙ tick_order w (pass_after (reverse history)) d counter) ∙ may d counter

start_step : (w : Setting) (c : Challenge) (history : List Entry) → MayStart w history → MayMake w history (Start c.discipline c.counter) × Runs w c.discipline 0 false (history ++ entry_by 0 (Start c.discipline c.counter) ∷ [])
start_step w c history may = (
  may c.discipline c.counter,
  record {
    pass = record { discipline = c.discipline; counter = c.counter; since = []; opened = entry_by 0 (Start c.discipline c.counter) ∷ reverse history };
    last = stepped history (entry_by 0 (Start c.discipline c.counter));
    form = refl;
    count = refl;
    over = refl;
    released = refl;
  },
)

copy_step : (w : Setting) (d : Discipline) (k block : ℕ) → ((pass : Pass) → copied_of pass ≡ k → is_ended pass ≡ false → IsTrue (copies_next w pass block))
    → (history : List Entry) → Runs w d k false history → MayMake w history (Copy block) × Runs w d (suc k) false (history ++ entry_by 0 (Copy block) ∷ [])
copy_step w d k block next history r = (
  rw r.last (next r.pass r.count r.over),
  record {
    pass = longer (entry_by 0 (Copy block)) r.pass;
    last = goes_on history (entry_by 0 (Copy block)) r.pass refl r.last;
    form = r.form;
    count = ap suc r.count;
    over = r.over;
    released = r.released;
  },
)

end_step : (w : Setting) (d : Discipline) (n : ℕ) → ((pass : Pass) → copied_of pass ≡ n → is_ended pass ≡ false → IsTrue (in_order w (Some pass) End))
    → (history : List Entry) → Runs w d n false history → MayMake w history End × Runs w d n true (history ++ entry_by 0 End ∷ [])
end_step w d n next history r = (
  rw r.last (next r.pass r.count r.over),
  record {
    pass = longer (entry_by 0 End) r.pass;
    last = goes_on history (entry_by 0 End) r.pass refl r.last;
    form = r.form;
    count = r.count;
    over = refl;
    released = r.released;
  },
)

-- this block comes next where so many are copied
abbrev pub IsNextBlock : Setting → ℕ → ℕ → Type 0
IsNextBlock w copied block = (pass : Pass) → copied_of pass ≡ copied → is_ended pass ≡ false → IsTrue (copies_next w pass block)

-- these blocks come next, one after the other
abbrev AreNextBlocks : Setting → ℕ → List ℕ → Type 0
AreNextBlocks w copied [] = Unit {0}
AreNextBlocks w copied (block ∷ more) = IsNextBlock w copied block × AreNextBlocks w (suc copied) more

next_blocks : (w : Setting) (all : List ℕ) → ((index : ℕ) → index < length all → IsNextBlock w index (get_or all index 0)) → (copied : ℕ) (blocks : List ℕ) → drop copied all ≡ blocks → AreNextBlocks w copied blocks
next_blocks w all is copied [] whole = tt
next_blocks w all is copied (block ∷ more) whole =
    let within : copied < length all = omega (arith, length-drop copied all, ap length whole) in
    let cut : get_or all copied 0 ∷ drop (suc copied) all ≡ block ∷ more = sym (drop-cons all copied 0 within) ∙ whole in (
      subst (IsNextBlock w copied) (same_head (get_or all copied 0) block (drop (suc copied) all) more cut) (is copied within),
      next_blocks w all is (suc copied) more (same_rest (get_or all copied 0) block (drop (suc copied) all) more cut),
    )

goes_copies : (w : Setting) (d : Discipline) (copied : ℕ) (blocks : List ℕ) → AreNextBlocks w copied blocks → Goes w (Runs w d copied false) (map Copy blocks) (Runs w d (copied + length blocks) false)
goes_copies w d copied [] next = rw add-zero (goes_none w (Runs w d copied false))
goes_copies w d copied (block ∷ more) next =
    let count : suc copied + length more ≡ copied + suc (length more) = omega arith in
    subst (λ k. Goes w (Runs w d copied false) (map Copy (block ∷ more)) (Runs w d k false)) count
    (goes_join w (Runs w d copied false) (Runs w d (suc copied) false) (Runs w d (suc copied + length more) false) (Copy block ∷ []) (map Copy more)
    (goes_one w (Runs w d copied false) (Copy block) (Runs w d (suc copied) false) (copy_step w d copied block next.0))
    (goes_copies w d (suc copied) more next.1))

-- ---- what comes after End

not_both : (extended : Bool) → not (extended && false) ≡ true
not_both true = refl
not_both false = refl

start_closed : (w : Setting) (pass : Pass) (d : Discipline) (counter : ℕ) → is_ended pass ≡ true → (is_extended pass.discipline ≡ false) ⊎ (is_released pass ≡ true) → IsTrue (in_order w (Some pass) (Start d counter))
start_closed w pass d counter over (inl plain) = rw (over, plain) refl
start_closed w pass d counter over (inr released) = rw (over, released) (not_both (is_extended pass.discipline))

plain_start : (w : Setting) (d : Discipline) (n : ℕ) → is_extended d ≡ false → (history : List Entry) → Runs w d n true history → MayStart w history
plain_start w d n plain history r other counter = rw r.last (start_closed w r.pass other counter r.over (inl (ap is_extended r.form ∙ plain)))

release_step : (w : Setting) (d : Discipline) (n : ℕ) → is_extended d ≡ true → (history : List Entry) → Runs w d n true history → MayMake w history Release × MayStart w (history ++ entry_by 0 Release ∷ [])
release_step w d n extended history r = (
  rw (r.last, r.over, r.released, ap is_extended r.form ∙ extended) refl,
  λ other counter. rw (goes_on history (entry_by 0 Release) r.pass refl r.last) (start_closed w (longer (entry_by 0 Release) r.pass) other counter r.over (inr refl)),
)

goes_closing : (w : Setting) (c : Challenge) (n : ℕ) (extended : Bool) → is_extended c.discipline ≡ extended → Goes w (Runs w c.discipline n true) (if extended then replicate c.hold Tick ++ (Release ∷ []) else []) (MayStart w)
goes_closing w c n true is =
    let runs = Runs w c.discipline n true in
    goes_join w runs runs (MayStart w) (replicate c.hold Tick) (Release ∷ []) (goes_ticks w runs (runs_tick w c.discipline n true) c.hold)
    (goes_one w runs Release (MayStart w) (release_step w c.discipline n is))
goes_closing w c n false is = record {
  order = λ history h made next missed whole. absurd (no_element made next missed whole);
  done = λ history h. subst (MayStart w) (sym (append-nil history)) (plain_start w c.discipline n is history h);
}

-- ---- the program of one challenge, and of several

goes_program : (w : Setting) (c : Challenge) (shape : Shape) (blocks : List ℕ) → pass_acts c shape ≡ (Start c.discipline c.counter ∷ []) ++ map Copy blocks ++ (End ∷ []) → AreNextBlocks w 0 blocks
    → ((pass : Pass) → copied_of pass ≡ length blocks → is_ended pass ≡ false → IsTrue (in_order w (Some pass) End))
    → Goes w (MayStart w) (measuring_program c shape) (MayStart w)
goes_program w c shape blocks is next all =
    let d = c.discipline in
    let n = length blocks in
    let pass = goes_join w (MayStart w) (Runs w d n false) (Runs w d n true) ((Start d c.counter ∷ []) ++ map Copy blocks) (End ∷ [])
    (goes_join w (MayStart w) (Runs w d 0 false) (Runs w d n false) (Start d c.counter ∷ []) (map Copy blocks)
    (goes_one w (MayStart w) (Start d c.counter) (Runs w d 0 false) (start_step w c))
    (subst (λ k. Goes w (Runs w d 0 false) (map Copy blocks) (Runs w d k false)) (zero-add n) (goes_copies w d 0 blocks next)))
    (goes_one w (Runs w d n false) End (Runs w d n true) (end_step w d n all)) in
    goes_join w (MayStart w) (Runs w d n true) (MayStart w) (replicate c.lead Tick ++ pass_acts c shape) (closing_acts c)
    (goes_join w (MayStart w) (MayStart w) (Runs w d n true) (replicate c.lead Tick) (pass_acts c shape)
    (goes_ticks w (MayStart w) (start_tick w) c.lead) (subst (λ l. Goes w (MayStart w) l (Runs w d n true)) (sym is) pass))
    (goes_closing w c n (is_extended d) refl)

goes_programs : (w : Setting) (shape : Shape) → ((c : Challenge) → Goes w (MayStart w) (measuring_program c shape) (MayStart w)) → (challenges : List Challenge) → Goes w (MayStart w) (measuring_programs challenges shape) (MayStart w)
goes_programs w shape each [] = goes_none w (MayStart w)
goes_programs w shape each (c ∷ more) = goes_join w (MayStart w) (MayStart w) (MayStart w) (measuring_program c shape) (measuring_programs more shape) (each c) (goes_programs w shape each more)

-- ---- over any list of entries

abbrev pub OwnOrder : Type 0
OwnOrder = (w : Setting) (history : List Entry) → IsLegal w history → (a : Act) → in_order w (pass_after (reverse history)) a ≡ in_order w (pass_after (reverse (own history 0 1))) a

abbrev pub OwnAppend : Type 0
OwnAppend = (a b : List Entry) (low high : ℕ) → own (a ++ b) low high ≡ own a low high ++ own b low high

abbrev pub FrontsLegal : Type 0
FrontsLegal = (w : Setting) (history : List Entry) (place : ℕ) → IsLegal w history → IsLegal w (take place history)

old_legal : FrontsLegal → (w : Setting) (old new : List Entry) (acts : List Act) → IsLegal w new → HasMade old new acts → IsLegal w old
old_legal fronts w old new acts legal m = subst (IsLegal w) (ap (take (length old)) m.whole ∙ take-append_seam old m.rest) (fronts w new (length old) legal)

own_made : OwnAppend → (old new : List Entry) (acts : List Act) → HasMade old new acts → own new 0 1 ≡ with_acts (own old 0 1) acts
own_made append old new acts m = ap (λ l. own l 0 1) m.whole ∙ append old m.rest 0 1 ∙ ap (λ l. own old 0 1 ++ l) m.own

own_start : OwnOrder → (w : Setting) (history : List Entry) → IsLegal w history → MayStart w history → MayStart w (own history 0 1)
own_start order w history legal may d counter = sym (order w history legal (Start d counter)) ∙ may d counter

any_start : OwnOrder → (w : Setting) (history : List Entry) → IsLegal w history → MayStart w (own history 0 1) → MayStart w history
any_start order w history legal may d counter = order w history legal (Start d counter) ∙ may d counter

goes : IndexesAttested → IndexesKept → (w : Setting) (challenges : List Challenge) → IsSetting w → Goes w (MayStart w) (measuring_programs challenges (shape_of w)) (MayStart w)
goes attested kept w challenges v =
    let blocks = attested_blocks w.ranges in
    goes_programs w (shape_of w) (λ c. goes_program w c (shape_of w) blocks refl (next_blocks w blocks (copy_next attested kept w v) 0 blocks refl) (end_next w)) challenges

pub next_in_order : IndexesAttested → IndexesKept → OwnOrder → OwnAppend → FrontsLegal → (w : Setting) (challenges : List Challenge) (old new : List Entry) (made : List Act) (next : Act) (missed : List Act) → IsSetting w → IsLegal w new → MayStart w old → HasMade old new made
    → measuring_programs challenges (shape_of w) ≡ made ++ next ∷ missed → MayMake w new next
next_in_order attested kept order append fronts w challenges old new made next missed v legal may m whole =
    order w new legal next
    ∙ ap (λ l. in_order w (pass_after (reverse l)) next) (own_made append old new made m)
    ∙ (goes attested kept w challenges v).order (own old 0 1) (own_start order w old (old_legal fronts w old new made legal m) may) made next missed whole

pub over_closed : IndexesAttested → IndexesKept → OwnOrder → OwnAppend → FrontsLegal → (w : Setting) (challenges : List Challenge) (old new : List Entry) → IsSetting w → IsLegal w new → MayStart w old → HasMade old new (measuring_programs challenges (shape_of w)) → MayStart w new
over_closed attested kept order append fronts w challenges old new v legal may m =
    let programs = measuring_programs challenges (shape_of w) in
    any_start order w new legal (subst (MayStart w) (sym (own_made append old new programs m))
    ((goes attested kept w challenges v).done (own old 0 1) (own_start order w old (old_legal fronts w old new programs legal m) may)))
