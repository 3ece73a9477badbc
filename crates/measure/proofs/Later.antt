-- What a report and a note say of a list of entries holds on every longer list.
use Rattle.std.proofs.Common.{◌≡◌, ℕ, suc, ◌+◌, ◌-◌, ◌<◌, ◌≤◌, Bool, true, false, List, [], ◌∷◌, ◌++◌, length, reverse, take, Option, Some, None, option_map, refl, sym, ap, ◌∙◌, subst, inl, inr, length-append, arith}
use Rattle.std.specs.Prelude.{IsTrue, ◌⊎◌, ◌||◌, not, ◌&&◌}
use Rattle.std.specs.List.{list_any}
use Rattle.std.proofs.lemmas.List.{reverse-append, take-append-le, length-reverse, length-take-le}
use Rattle.std.proofs.Math.Seq.{take-append-add, take-length}
use Rattle.std.proofs.lemmas.Bool.{cases_lt}
use Rattle.std.proofs.lemmas.List.Folds.{list_any-append}
use Rattle.history.specs.declared.events.Discipline.{Discipline}
use Rattle.history.specs.declared.events.Discipline.TheVariants.{All, AllExt, Dec, Inc, IncExt}
use Rattle.history.specs.declared.events.Act.{Act}
use Rattle.history.specs.declared.events.Act.TheVariants.{Fetch, Load, Store, Start, Copy, End, Tick, Release}
use Rattle.history.specs.declared.events.Entry.{Entry}
use Rattle.history.specs.Layout.{Setting, IsSetting}
use Rattle.history.specs.Memory.{attested_bytes, back, memory_after, memory_at}
use Rattle.history.specs.Pass.{Pass, longer, pass_after, pass_step, start_of, is_ended, is_extended, is_release, is_released}
use Rattle.history.specs.Legal.{IsLegal, IsLegalBack, in_order}
use Rattle.history.specs.Instants.{EndsAt, IsInstant, IsPassAt, ReleasesAt, is_newest}
use Rattle.history.specs.Sliding.{CopiedIsMemory}
use Rattle.challenge.specs.declared.Challenge.{Challenge}
use Rattle.challenge.specs.Challenges.{asked_by}
use Rattle.chronicle.specs.Ports.{entry_by}
use Rattle.report.specs.declared.Report.{Report}
use Rattle.report.specs.declared.Note.{Note}
use Rattle.report.specs.Tags.{report_tag}
use Rattle.measure.specs.Measured.{IsNoteOn, IsReportOn}

-- ---- the pass before its newest entries

-- an entry opens a pass, or the pass that was goes on with it
abbrev Steps : Entry → List Entry → Option Pass → Pass → Type 0
Steps entry past before pass = (start_of pass ≡ suc (length past)) ⊎ ((old : Pass) × (before ≡ Some old) × (longer entry old ≡ pass))

some_is : {A : Type 0} (x y : A) → Some x ≡ Some y → x ≡ y
some_is x y h = cc

went_on : (entry : Entry) (past : List Entry) (before : Option Pass) (pass : Pass) → option_map (longer entry) before ≡ Some pass → Steps entry past before pass
went_on entry past None pass h = absurd cc
went_on entry past (Some old) pass h = inr (old, refl, some_is (longer entry old) pass h)

steps : (act : Act) (entry : Entry) (past : List Entry) (before : Option Pass) (pass : Pass) → pass_step act entry past before ≡ Some pass → Steps entry past before pass
steps (Start d counter) entry past before pass h = inl (sym (ap start_of (some_is (record { discipline = d; counter = counter; since = []; opened = entry ∷ past }) pass h)))
steps (Fetch addr value) entry past before pass h = went_on entry past before pass h
steps (Load addr width value) entry past before pass h = went_on entry past before pass h
steps (Store addr width value) entry past before pass h = went_on entry past before pass h
steps (Copy block) entry past before pass h = went_on entry past before pass h
steps End entry past before pass h = went_on entry past before pass h
steps Tick entry past before pass h = went_on entry past before pass h
steps Release entry past before pass h = went_on entry past before pass h

-- the same pass, before its newest entries
record Before (newer past : List Entry) (pass : Pass) : Type 0 where
  old : Pass
  last : pass_after past ≡ Some old
  discipline : old.discipline ≡ pass.discipline
  counter : old.counter ≡ pass.counter
  opened : old.opened ≡ pass.opened
  since : pass.since ≡ newer ++ old.since

before_more : (entry : Entry) (newer past : List Entry) (pass old : Pass) → longer entry old ≡ pass → Before newer past old → Before (entry ∷ newer) past pass
before_more entry newer past pass old is b = record {
  old = b.old;
  last = b.last;
  discipline = b.discipline ∙ ap (λ (p : Pass). p.discipline) is;
  counter = b.counter ∙ ap (λ (p : Pass). p.counter) is;
  opened = b.opened ∙ ap (λ (p : Pass). p.opened) is;
  since = sym (ap (λ (p : Pass). p.since) is) ∙ ap (λ l. entry ∷ l) b.since;
}

before_step : (entry : Entry) (newer past : List Entry) (pass : Pass) → ((old : Pass) → pass_after (newer ++ past) ≡ Some old → start_of old ≤ length past → Before newer past old)
    → start_of pass ≤ length past → Steps entry (newer ++ past) (pass_after (newer ++ past)) pass → Before (entry ∷ newer) past pass
before_step entry newer past pass rest early (inl opens) = absurd (omega (arith, opens, early, length-append newer past))
before_step entry newer past pass rest early (inr (old, last, is)) =
    before_more entry newer past pass old is (rest old last (subst (λ (p : Pass). start_of p ≤ length past) (sym is) early))

before : (newer past : List Entry) (pass : Pass) → pass_after (newer ++ past) ≡ Some pass → start_of pass ≤ length past → Before newer past pass
before [] past pass last early = record { old = pass; last = last; discipline = refl; counter = refl; opened = refl; since = refl }
before (entry ∷ newer) past pass last early =
    before_step entry newer past pass (before newer past) early (steps entry.act entry (newer ++ past) (pass_after (newer ++ past)) pass last)

-- ---- a pass that is released after these entries was not before its newest one

or_false : (a b : Bool) → (a || b) ≡ false → b ≡ false
or_false false b h = h
or_false true b h = absurd cc

list_any_none : (a b : List Entry) → list_any (λ entry. is_release entry.act) (a ++ b) ≡ false → list_any (λ entry. is_release entry.act) b ≡ false
list_any_none a b h = or_false (list_any (λ entry. is_release entry.act) a) (list_any (λ entry. is_release entry.act) b) (sym (list_any-append (λ entry. is_release entry.act) a b) ∙ h)

last_of_three : (a b c : Bool) → (a && b && not c) ≡ true → c ≡ false
last_of_three a b false h = refl
last_of_three true true true h = absurd cc
last_of_three true false true h = absurd cc
last_of_three false true true h = absurd cc
last_of_three false false true h = absurd cc

release_once : (w : Setting) (act : Act) (pass : Pass) → is_release act ≡ true → in_order w (Some pass) act ≡ true → is_released pass ≡ false
release_once w Release pass is may = last_of_three (is_extended pass.discipline) (is_ended pass) (is_released pass) may
release_once w (Fetch addr value) pass is may = absurd cc
release_once w (Load addr width value) pass is may = absurd cc
release_once w (Store addr width value) pass is may = absurd cc
release_once w (Start d counter) pass is may = absurd cc
release_once w (Copy block) pass is may = absurd cc
release_once w End pass is may = absurd cc
release_once w Tick pass is may = absurd cc

-- the entries since Start, without the newest, have no Release, where the newest is one
unreleased_rest : (w : Setting) (entry : Entry) (past : List Entry) (pass old : Pass) → IsLegalBack w (entry ∷ past) → pass_after past ≡ Some old → longer entry old ≡ pass → IsTrue (is_newest is_release pass.since) → is_released old ≡ false
unreleased_rest w entry past pass old legal last is newest =
    release_once w entry.act old (subst (λ (p : Pass). IsTrue (is_newest is_release p.since)) (sym is) newest) (subst (λ p. in_order w p entry.act ≡ true) last legal.1.order)

-- ---- where the pass is released, on the shorter list

back-append : (history more : List Entry) (place : ℕ) → place ≤ length history → back (history ++ more) place ≡ back history place
back-append history more place within = ap reverse (take-append-le place history more within)

pass_earlier : (seen more : List Entry) (form : Discipline) (number start place : ℕ) (pass : Pass) → place ≤ length seen → IsPassAt (seen ++ more) form number start place pass → IsPassAt seen form number start place pass
pass_earlier seen more form number start place pass within h = record {
  within = within;
  last = ap pass_after (sym (back-append seen more place within)) ∙ h.last;
  discipline = h.discipline;
  counter = h.counter;
  began = h.began;
}

pass_later : (seen more : List Entry) (form : Discipline) (number start place : ℕ) (pass : Pass) → IsPassAt seen form number start place pass → IsPassAt (seen ++ more) form number start place pass
pass_later seen more form number start place pass h = record {
  within = omega (arith, h.within, length-append seen more);
  last = ap pass_after (back-append seen more place h.within) ∙ h.last;
  discipline = h.discipline;
  counter = h.counter;
  began = h.began;
}

-- of the two places at which a pass can be released, on the shorter list
abbrev EarlierRelease : List Entry → Discipline → ℕ → ℕ → ℕ → Type 0
EarlierRelease seen form number start release = (other : ℕ) × ReleasesAt seen form number start other × ((other ≡ release) ⊎ (other ≡ length seen))

newest_within : (seen more : List Entry) (pass : Pass) (release : ℕ) → release ≤ length seen → IsTrue (is_newest is_release pass.since) ⊎ ((release ≡ length (seen ++ more)) × (is_released pass ≡ false))
    → IsTrue (is_newest is_release pass.since) ⊎ ((release ≡ length seen) × (is_released pass ≡ false))
newest_within seen more pass release within (inl newest) = inl newest
newest_within seen more pass release within (inr (last, none)) = inr (omega (arith, within, last, length-append seen more), none)

within_release : (seen more : List Entry) (form : Discipline) (number start release : ℕ) → release ≤ length seen → ReleasesAt (seen ++ more) form number start release → EarlierRelease seen form number start release
within_release seen more form number start release within r = (
  release,
  record {
    pass = r.pass;
    here = pass_earlier seen more form number start release r.pass within r.here;
    newest = newest_within seen more r.pass release within r.newest;
  },
  inl refl,
)

-- the pass before its newest entries isn't released
record Unreleased (past : List Entry) (pass : Pass) : Type 0 where
  old : Pass
  last : pass_after past ≡ Some old
  discipline : old.discipline ≡ pass.discipline
  counter : old.counter ≡ pass.counter
  opened : old.opened ≡ pass.opened
  none : is_released old ≡ false

unreleased_from : (entry : Entry) (newer past : List Entry) (pass old : Pass) → pass_after (newer ++ past) ≡ Some old → longer entry old ≡ pass → start_of pass ≤ length past → is_released old ≡ false → Unreleased past pass
unreleased_from entry newer past pass old last is early none =
    let b = before newer past old last (subst (λ (p : Pass). start_of p ≤ length past) (sym is) early) in
    record {
      old = b.old;
      last = b.last;
      discipline = b.discipline ∙ ap (λ (p : Pass). p.discipline) is;
      counter = b.counter ∙ ap (λ (p : Pass). p.counter) is;
      opened = b.opened ∙ ap (λ (p : Pass). p.opened) is;
      none = list_any_none newer b.old.since (sym (ap (list_any (λ (e : Entry). is_release e.act)) b.since) ∙ none);
    }

-- the pass after the shorter list, where its Release comes later or not at all
unreleased_there : (w : Setting) (entry : Entry) (newer past : List Entry) (pass : Pass) (place last : ℕ) → IsLegalBack w (entry ∷ newer ++ past) → start_of pass ≤ length past → Steps entry (newer ++ past) (pass_after (newer ++ past)) pass
    → IsTrue (is_newest is_release pass.since) ⊎ ((place ≡ last) × (is_released pass ≡ false)) → Unreleased past pass
unreleased_there w entry newer past pass place last legal early (inl opens) newest = absurd (omega (arith, opens, early, length-append newer past))
unreleased_there w entry newer past pass place last legal early (inr (old, is_old, is)) (inl newest) =
    unreleased_from entry newer past pass old is_old is early (unreleased_rest w entry (newer ++ past) pass old legal is_old is newest)
unreleased_there w entry newer past pass place last legal early (inr (old, is_old, is)) (inr (there, none)) =
    unreleased_from entry newer past pass old is_old is early (or_false (is_release entry.act) (is_released old) (subst (λ (p : Pass). is_released p ≡ false) (sym is) none))

-- the entries up to a place that lies past the shorter list
back_beyond : (seen more : List Entry) (k : ℕ) → back (seen ++ more) (length seen + k) ≡ reverse (take k more) ++ reverse seen
back_beyond seen more k = ap reverse (take-append-add seen more k) ∙ reverse-append seen (take k more)

beyond_with : (w : Setting) (seen : List Entry) (form : Discipline) (number start : ℕ) (newer : List Entry) (pass : Pass) (place last : ℕ) → 1 ≤ length newer → IsLegalBack w (newer ++ reverse seen) → pass_after (newer ++ reverse seen) ≡ Some pass
    → pass.discipline ≡ form → pass.counter ≡ number → start_of pass ≡ start → start ≤ length seen → IsTrue (is_newest is_release pass.since) ⊎ ((place ≡ last) × (is_released pass ≡ false)) → ReleasesAt seen form number start (length seen)
beyond_with w seen form number start [] pass place last some legal is d n s early newest = absurd (omega (arith, some))
beyond_with w seen form number start (entry ∷ newer) pass place last some legal is d n s early newest =
    let there : start_of pass ≤ length (reverse seen) = omega (arith, s, early, length-reverse seen) in
    let u = unreleased_there w entry newer (reverse seen) pass place last legal there (steps entry.act entry (newer ++ reverse seen) (pass_after (newer ++ reverse seen)) pass is) newest in
    record {
      pass = u.old;
      here = record {
        within = omega arith;
        last = ap (λ l. pass_after (reverse l)) (take-length seen) ∙ u.last;
        discipline = u.discipline ∙ d;
        counter = u.counter ∙ n;
        began = ap (λ (l : List Entry). length l) u.opened ∙ s;
      };
      newest = inr (refl, u.none);
    }

-- the first entries of a legal list are legal
abbrev pub FrontsLegal : Type 0
FrontsLegal = (w : Setting) (history : List Entry) (place : ℕ) → IsLegal w history → IsLegal w (take place history)

beyond_release : FrontsLegal → (w : Setting) (seen more : List Entry) (form : Discipline) (number start k : ℕ) → IsLegal w (seen ++ more) → 1 ≤ k → length seen + k ≤ length (seen ++ more) → start ≤ length seen → ReleasesAt (seen ++ more) form number start (length seen + k) → ReleasesAt seen form number start (length seen)
beyond_release fronts w seen more form number start k legal some within early r =
    let whole = back_beyond seen more k in
    let newer = reverse (take k more) in
    let count : length newer ≡ k = length-reverse (take k more) ∙ length-take-le k more (omega (arith, within, length-append seen more)) in
    beyond_with w seen form number start newer r.pass (length seen + k) (length (seen ++ more)) (omega (arith, count, some))
    (subst (IsLegalBack w) whole (fronts w (seen ++ more) (length seen + k) legal))
    (ap pass_after (sym whole) ∙ r.here.last) r.here.discipline r.here.counter r.here.began early r.newest

earlier_release : FrontsLegal → (w : Setting) (seen more : List Entry) (form : Discipline) (number start release : ℕ) → IsLegal w (seen ++ more) → start ≤ length seen → ReleasesAt (seen ++ more) form number start release → (length seen < release) ⊎ (release ≤ length seen) → EarlierRelease seen form number start release
earlier_release fronts w seen more form number start release legal early r (inr within) = within_release seen more form number start release within r
earlier_release fronts w seen more form number start release legal early r (inl beyond) =
    let k = release - length seen in
    let is : release ≡ length seen + k = omega (arith, beyond) in (
      length seen,
      beyond_release fronts w seen more form number start k legal (omega (arith, beyond)) (omega (arith, is, r.here.within)) early (subst (ReleasesAt (seen ++ more) form number start) is r),
      inr refl,
    )

-- ---- an instant of every pass

abbrev an_instant : Discipline → ℕ → ℕ → ℕ
an_instant All start end = start
an_instant AllExt start end = start
an_instant Dec start end = start
an_instant Inc start end = end
an_instant IncExt start end = end

early_instant : (form : Discipline) (start end : ℕ) → start ≤ end → an_instant form start end ≤ end
early_instant All start end h = h
early_instant AllExt start end h = h
early_instant Dec start end h = h
early_instant Inc start end h = omega arith
early_instant IncExt start end h = omega arith

is_instant : (form : Discipline) (start end release place : ℕ) → start ≤ end → IsInstant form start end release place → IsInstant form start end release (an_instant form start end)
is_instant All start end release place h i = (omega arith, h)
is_instant AllExt start end release place h i = (omega arith, omega (arith, i.0, i.1))
is_instant Dec start end release place h i = refl
is_instant Inc start end release place h i = refl
is_instant IncExt start end release place h i = (omega arith, omega (arith, i.0, i.1))

-- with another place of Release, which the instant doesn't lie past
other_instant : (form : Discipline) (start end release other : ℕ) → start ≤ end → IsInstant form start end release (an_instant form start end) → (other ≡ release) ⊎ (end ≤ other) → IsInstant form start end other (an_instant form start end)
other_instant All start end release other h i o = i
other_instant AllExt start end release other h i (inl same) = (i.0, omega (arith, i.1, same))
other_instant AllExt start end release other h i (inr past) = (i.0, omega (arith, h, past))
other_instant Dec start end release other h i o = i
other_instant Inc start end release other h i o = i
other_instant IncExt start end release other h i (inl same) = (i.0, omega (arith, i.1, same))
other_instant IncExt start end release other h i (inr past) = (i.0, past)

-- the place of Release on the shorter list, for this instant
abbrev Earlier : List Entry → Discipline → ℕ → ℕ → ℕ → Type 0
Earlier seen form number start end = (other : ℕ) × (IsTrue (is_extended form) → ReleasesAt seen form number start other) × IsInstant form start end other (an_instant form start end)

earlier_of : (seen : List Entry) (form : Discipline) (number start end release : ℕ) → start ≤ end → end ≤ length seen → IsInstant form start end release (an_instant form start end) → EarlierRelease seen form number start release → Earlier seen form number start end
earlier_of seen form number start end release h within i (other, r, inl same) = (other, λ extended. r, other_instant form start end release other h i (inl same))
earlier_of seen form number start end release h within i (other, r, inr last) = (other, λ extended. r, other_instant form start end release other h i (inr (omega (arith, within, last))))

earlier : FrontsLegal → (w : Setting) (seen more : List Entry) (form : Discipline) (number start end release place : ℕ) (extended : Bool) → is_extended form ≡ extended → IsLegal w (seen ++ more) → start ≤ end → end ≤ length seen
    → (IsTrue (is_extended form) → ReleasesAt (seen ++ more) form number start release) → IsInstant form start end release place → Earlier seen form number start end
earlier fronts w seen more form number start end release place false is legal h within r i = (release, λ extended. absurd cc, is_instant form start end release place h i)
earlier fronts w seen more form number start end release place true is legal h within r i =
    earlier_of seen form number start end release h within (is_instant form start end release place h i)
    (earlier_release fronts w seen more form number start release legal (omega (arith, h, within)) (r is) (cases_lt (length seen) release))

-- ---- reports and notes

abbrev pub StartBeforeEnd : Type 0
StartBeforeEnd = (w : Setting) (history : List Entry) → IsLegal w history → (form : Discipline) (number start end : ℕ) → EndsAt history form number start end → start < end

ends_later : (seen more : List Entry) (form : Discipline) (number start end : ℕ) → EndsAt seen form number start end → EndsAt (seen ++ more) form number start end
ends_later seen more form number start end e = record {
  pass = e.pass;
  here = pass_later seen more form number start end e.pass e.here;
  newest = e.newest;
}

tag_later : CopiedIsMemory → FrontsLegal → StartBeforeEnd → (key : List ℕ) (w : Setting) (c : Challenge) (old seen more : List Entry) (r : Report) → IsSetting w → IsLegal w (seen ++ more) → IsReportOn key w c old seen r
    → (place release : ℕ) → (IsTrue (is_extended c.discipline) → ReleasesAt (seen ++ more) c.discipline c.counter r.start release) → IsInstant c.discipline r.start r.end release place
    → r.tag ≡ report_tag key (asked_by c) r.shape (attested_bytes w (memory_at w (seen ++ more) place)) r.start r.end
tag_later copied fronts rises key w c old seen more r v legal h place release released instant =
    let d = c.discipline in
    let ends = ends_later seen more d c.counter r.start r.end h.ends in
    let order : r.start ≤ r.end = omega (arith, rises w (seen ++ more) legal d c.counter r.start r.end ends) in
    let within : r.end ≤ length seen = h.ends.here.within in
    let e = earlier fronts w seen more d c.counter r.start r.end release place (is_extended d) refl legal order within released instant in
    let first = an_instant d r.start r.end in
    let there : first ≤ length seen = omega (arith, early_instant d r.start r.end order, within) in
    let memory : memory_at w seen first ≡ memory_at w (seen ++ more) first = ap (memory_after w) (sym (back-append seen more first there)) in
    let same : attested_bytes w (memory_at w (seen ++ more) first) ≡ attested_bytes w (memory_at w (seen ++ more) place) =
    copied w v (seen ++ more) legal d c.counter r.start r.end release ends released first (is_instant d r.start r.end release place order instant)
    ∙ sym (copied w v (seen ++ more) legal d c.counter r.start r.end release ends released place instant) in
    h.tag first e.0 e.1 e.2 ∙ ap (λ bytes. report_tag key (asked_by c) r.shape bytes r.start r.end) (ap (attested_bytes w) memory ∙ same)

pub report_later : CopiedIsMemory → FrontsLegal → StartBeforeEnd → (key : List ℕ) (w : Setting) (c : Challenge) (old seen more : List Entry) (r : Report) → IsSetting w → IsLegal w (seen ++ more) → IsReportOn key w c old seen r → IsReportOn key w c old (seen ++ more) r
report_later copied fronts rises key w c old seen more r v legal h = record {
  discipline = h.discipline;
  counter = h.counter;
  nonce = h.nonce;
  shape = h.shape;
  begins = h.begins;
  ends = ends_later seen more c.discipline c.counter r.start r.end h.ends;
  tag = tag_later copied fronts rises key w c old seen more r v legal h;
}

-- the newest entry of a pass that a Release came to
newest_of : (entry : Entry) (past : List Entry) (before : Option Pass) (pass : Pass) → entry.act ≡ Release → option_map (longer entry) before ≡ Some pass → IsTrue (is_newest is_release pass.since)
newest_of entry past None pass act is = absurd cc
newest_of entry past (Some old) pass act is = subst (λ (p : Pass). IsTrue (is_newest is_release p.since)) (some_is (longer entry old) pass is) (ap is_release act)

releases_later : (seen more : List Entry) (form : Discipline) (number start release : ℕ) (past : List Entry) → back seen release ≡ entry_by 0 Release ∷ past → ReleasesAt seen form number start release → ReleasesAt (seen ++ more) form number start release
releases_later seen more form number start release past here r = record {
  pass = r.pass;
  here = pass_later seen more form number start release r.pass r.here;
  newest = inl (newest_of (entry_by 0 Release) past (pass_after past) r.pass refl (ap pass_after (sym here) ∙ r.here.last));
}

pub note_later : (key : List ℕ) (c : Challenge) (seen more : List Entry) (r : Report) (n : Note) → IsNoteOn key c seen r n → IsNoteOn key c (seen ++ more) r n
note_later key c seen more r n h = record {
  counter = h.counter;
  start = h.start;
  end = h.end;
  past = h.past;
  here = back-append seen more n.release h.releases.here.within ∙ h.here;
  releases = releases_later seen more c.discipline c.counter r.start n.release h.past h.here h.releases;
  tag = h.tag;
}
