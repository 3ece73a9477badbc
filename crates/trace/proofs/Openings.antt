-- The pass that a history's last Start opened, and the report that names it.
use Rattle.std.proofs.Common.{◌≡◌, ℕ, ◌+◌, ◌-◌, ◌<◌, ◌≤◌, true, List, [], ◌∷◌, length, Option, Some, None, option_map, refl, sym, ap, ◌∙◌, arith}
use Rattle.std.specs.Prelude.{◌&&◌, ◌==◌, if◌then◌else◌, nat_le}
use Rattle.std.proofs.lemmas.Bool.{and_from, and_parts, eq-eqb, eqb-true, le-leb, leb-true}
use Rattle.history.specs.declared.events.Discipline.{Discipline}
use Rattle.history.specs.declared.events.Discipline.TheVariants.{All, AllExt, Dec, Inc, IncExt}
use Rattle.history.specs.declared.events.Act.{Act}
use Rattle.history.specs.declared.events.Act.TheVariants.{Fetch, Load, Store, Start, Copy, End, Tick, Release}
use Rattle.history.specs.declared.events.Entry.{Entry}
use Rattle.history.specs.Names.{code_of}
use Rattle.history.specs.Memory.{back}
use Rattle.history.specs.Pass.{Pass, longer, pass_step, pass_after, start_of, is_end}
use Rattle.history.specs.Instants.{EndsAt, IsPassAt, is_newest}
use Rattle.report.specs.declared.Report.{Report}
use Rattle.trace.specs.declared.confirm.Opening.{Opening}
use Rattle.trace.specs.Confirm.{is_opening_of, names_pass, opened_at, opening_of}

-- the first opening, or else the other
abbrev pub or_else : Option Opening → Option Opening → Option Opening
or_else (Some opening) other = Some opening
or_else None other = other

abbrev entry_of : ℕ → Act → Entry
entry_of actor act = record { actor = actor; act = act }

still_open : (entry : Entry) (before : Option Pass) → option_map opening_of (option_map (longer entry) before) ≡ option_map opening_of before
still_open entry None = refl
still_open entry (Some pass) = refl

opening_by : (actor : ℕ) (act : Act) (past : List Entry) (before : Option Pass) → option_map opening_of (pass_step act (entry_of actor act) past before) ≡ or_else (opened_at (length past + 1) act) (option_map opening_of before)
opening_by actor (Start discipline counter) past before = ap (λ (n : ℕ). Some (record { discipline = discipline; counter = counter; place = n })) (omega arith)
opening_by actor (Fetch addr value) past before = still_open (entry_of actor (Fetch addr value)) before
opening_by actor (Load addr width value) past before = still_open (entry_of actor (Load addr width value)) before
opening_by actor (Store addr width value) past before = still_open (entry_of actor (Store addr width value)) before
opening_by actor (Copy block) past before = still_open (entry_of actor (Copy block)) before
opening_by actor End past before = still_open (entry_of actor End) before
opening_by actor Tick past before = still_open (entry_of actor Tick) before
opening_by actor Release past before = still_open (entry_of actor Release) before

-- the newest entry opened the last pass, or it is that of the entries before
pub opening_step : (entry : Entry) (past : List Entry) → option_map opening_of (pass_after (entry ∷ past)) ≡ or_else (opened_at (length past + 1) entry.act) (option_map opening_of (pass_after past))
opening_step entry past = opening_by entry.actor entry.act past (pass_after past)

-- the same one place back
pub opening_back : (history : List Entry) (place : ℕ) (entry : Entry) → 0 < place → back history (place - 1 + 1) ≡ entry ∷ back history (place - 1) → length (back history (place - 1)) ≡ place - 1
    → option_map opening_of (pass_after (back history place)) ≡ or_else (opened_at place entry.act) (option_map opening_of (pass_after (back history (place - 1))))
opening_back history place entry some next count =
    let here : place - 1 + 1 ≡ place = omega arith in
    let number : length (back history (place - 1)) + 1 ≡ place = omega (arith, count, some) in
    ap (λ (p : ℕ). option_map opening_of (pass_after (back history p))) (sym here)
    ∙ ap (λ (past : List Entry). option_map opening_of (pass_after past)) next
    ∙ opening_step entry (back history (place - 1))
    ∙ ap (λ (p : ℕ). or_else (opened_at p entry.act) (option_map opening_of (pass_after (back history (place - 1))))) number

-- disciplines with the same code are the same
abbrev coded : ℕ → Option Discipline
coded code =
    if code == 1 then Some All
    else (if code == 2 then Some AllExt
    else (if code == 3 then Some Dec
    else (if code == 4 then Some Inc
    else Some IncExt)))

coded_code : (d : Discipline) → coded (code_of d) ≡ Some d
coded_code All = refl
coded_code AllExt = refl
coded_code Dec = refl
coded_code Inc = refl
coded_code IncExt = refl

same_code : (d e : Discipline) → code_of d ≡ code_of e → d ≡ e
same_code d e h =
    let same : Some d ≡ Some e = sym (coded_code d) ∙ ap coded h ∙ coded_code e in
    cc

-- where a pass has gone on since its Start, its newest entry is the newest of all
went_on : (entry : Entry) (before : Option Pass) (pass : Pass) → option_map (longer entry) before ≡ Some pass → is_end entry.act ≡ is_newest is_end pass.since
went_on entry None pass h = absurd cc
went_on entry (Some earlier) pass h =
    let same : longer entry earlier ≡ pass = cc in
    ap (λ (p : Pass). is_newest is_end p.since) same

newest_by : (actor : ℕ) (act : Act) (past : List Entry) (before : Option Pass) (pass : Pass) → pass_step act (entry_of actor act) past before ≡ Some pass → is_end act ≡ is_newest is_end pass.since
newest_by actor (Start discipline counter) past before pass h =
    let same : record { discipline = discipline; counter = counter; since = []; opened = entry_of actor (Start discipline counter) ∷ past } ≡ pass = cc in
    ap (λ (p : Pass). is_newest is_end p.since) same
newest_by actor (Fetch addr value) past before pass h = went_on (entry_of actor (Fetch addr value)) before pass h
newest_by actor (Load addr width value) past before pass h = went_on (entry_of actor (Load addr width value)) before pass h
newest_by actor (Store addr width value) past before pass h = went_on (entry_of actor (Store addr width value)) before pass h
newest_by actor (Copy block) past before pass h = went_on (entry_of actor (Copy block)) before pass h
newest_by actor End past before pass h = went_on (entry_of actor End) before pass h
newest_by actor Tick past before pass h = went_on (entry_of actor Tick) before pass h
newest_by actor Release past before pass h = went_on (entry_of actor Release) before pass h

newest_of_pass : (past : List Entry) (pass : Pass) → pass_after past ≡ Some pass → is_newest is_end past ≡ is_newest is_end pass.since
newest_of_pass [] pass h = absurd cc
newest_of_pass (entry ∷ past) pass h = newest_by entry.actor entry.act past (pass_after past) pass h

ends_by : (r : Report) (history : List Entry) (found : Option Pass) → pass_after (back history r.end) ≡ found → r.end ≤ length history → is_newest is_end (back history r.end) ≡ true → is_opening_of r (option_map opening_of found) ≡ true → EndsAt history r.discipline r.counter r.start r.end
ends_by r history None last within newest opens = absurd cc
ends_by r history (Some pass) last within newest opens =
    let both = and_parts ((code_of pass.discipline == code_of r.discipline) && (pass.counter == r.counter)) (start_of pass == r.start) opens in
    let first = and_parts (code_of pass.discipline == code_of r.discipline) (pass.counter == r.counter) both.0 in
    let here : IsPassAt history r.discipline r.counter r.start r.end pass = record {
      within = within;
      last = last;
      discipline = same_code pass.discipline r.discipline (eqb-true (code_of pass.discipline) (code_of r.discipline) first.0);
      counter = eqb-true pass.counter r.counter first.1;
      began = eqb-true (start_of pass) r.start both.1;
    } in
    record { pass = pass; here = here; newest = sym (newest_of_pass (back history r.end) pass last) ∙ newest }

-- a report that names a pass is on a pass that ends at its End
pub named_ends : (r : Report) (history : List Entry) → names_pass history r ≡ true → EndsAt history r.discipline r.counter r.start r.end
named_ends r history named =
    let parts = and_parts (nat_le r.end (length history) && is_newest is_end (back history r.end)) (is_opening_of r (option_map opening_of (pass_after (back history r.end)))) named in
    let first = and_parts (nat_le r.end (length history)) (is_newest is_end (back history r.end)) parts.0 in
    ends_by r history (pass_after (back history r.end)) refl (leb-true r.end (length history) first.0) first.1 parts.1

-- and where a pass ends at its End, the report names it
pub ends_named : (r : Report) (history : List Entry) → EndsAt history r.discipline r.counter r.start r.end → names_pass history r ≡ true
ends_named r history ends =
    let pass = ends.pass in
    let form = eq-eqb (code_of pass.discipline) (code_of r.discipline) (ap code_of ends.here.discipline) in
    let counter = eq-eqb pass.counter r.counter ends.here.counter in
    let start = eq-eqb (start_of pass) r.start ends.here.began in
    let opens : is_opening_of r (Some (opening_of pass)) ≡ true =
    and_from ((code_of pass.discipline == code_of r.discipline) && (pass.counter == r.counter)) (start_of pass == r.start) (and_from (code_of pass.discipline == code_of r.discipline) (pass.counter == r.counter) form counter) start in
    let opened : is_opening_of r (option_map opening_of (pass_after (back history r.end))) ≡ true = ap (λ (found : Option Pass). is_opening_of r (option_map opening_of found)) ends.here.last ∙ opens in
    let newest : is_newest is_end (back history r.end) ≡ true = newest_of_pass (back history r.end) pass ends.here.last ∙ ends.newest in
    and_from (nat_le r.end (length history) && is_newest is_end (back history r.end)) (is_opening_of r (option_map opening_of (pass_after (back history r.end))))
    (and_from (nat_le r.end (length history)) (is_newest is_end (back history r.end)) (le-leb r.end (length history) ends.here.within) newest) opened
