-- Each step of a turn keeps the rule of a turn cell, and tells its seat what it says.
use Rattle.std.proofs.Common.{◌≡◌, ◌≢◌, ℕ, zero, suc, ◌<◌, ◌≤◌, Bool, true, false, eqb, Option, Some, List, [], ◌∷◌, ◌++◌, set, get_or, length, refl, sym, ap, ◌∙◌, subst, inl, inr, ⊎_elim, arith, length-set, get_or-set_other, get_or-set_same, eq-eqb, ne_eqb}
use Rattle.std.proofs.lemmas.Bool.{cases_lt}
use Rattle.std.proofs.lemmas.List.Elements.{All-nil, All-cons, All-append}
use mathlib.Core.Logic.{dite}
use mathlib.Core.Option.{none, some, some-ne-none}
use native.Mathlib.Decide.{ℕ_discrete}
use lib.ListN.{get_elem?}
use lib.Seq.{set-get_or}
use prog.Atomic.{either}
use Rattle.atomic_table.specs.Table.{State, Me, step, keeps, takes, gives, stepped, opening, Allows}
use Rattle.atomic_table.proofs.Lists.{set_again, set_here}
use Rattle.history.specs.declared.events.Entry.{Entry}
use Rattle.history.specs.Layout.{Setting}
use Rattle.chronicle.specs.Ports.{IsBeyond, OthersFollow}
use Rattle.turn_cell.specs.declared.views.RangeView.{RangeView}
use Rattle.turn_cell.specs.declared.views.TurnStage.{TurnStage}
use Rattle.turn_cell.specs.declared.views.TurnStage.TheVariants.{Outside, Entered, Loaded}
use Rattle.turn_cell.specs.declared.views.SeatView.{SeatView}
use Rattle.turn_cell.specs.Cells.{Token, AllBelow, AddsOne}
use Rattle.turn_cell.specs.SeatViews.{seat_view, seat_view_of, seeing}
use Rattle.turn_cell.specs.Turning.{FitsRange, IsAt, Fits, Turning}
use Rattle.turn_cell.specs.Steps.{takes_turn, loads_value, raises_count, gives_turn, keeps_knowledge}
use Rattle.turn_cell.proofs.Histories.{followed_none, followed_more}
use Rattle.turn_cell.proofs.Seats.{seat_set, seats_stay}

-- a seat that isn't the holder is outside a turn, whoever is the holder next
others_at : (log log' : List Entry) (held holder held' holder' : ℕ) (out out' : Bool) (j : ℕ) (v : SeatView) → (held ≡ 1 → j ≡ holder → ⊥) → (stage : TurnStage) → IsAt log held holder out j v stage → IsAt log' held' holder' out' j v stage
others_at log log' held holder held' holder' out out' j v never Outside at = tt
others_at log log' held holder held' holder' out out' j v never Entered at = absurd (never at.0 at.1)
others_at log log' held holder held' holder' out out' j v never Loaded at = absurd (never at.0 at.1)

-- such a seat fits still, where its parts do
others_fit : (log log' : List Entry) (place : Setting) (actors : ℕ) (owner : ℕ → ℕ) (held holder held' holder' : ℕ) (out out' : Bool) (j : ℕ) (v : SeatView)
    → ((p : RangeView) → FitsRange log actors owner j p → FitsRange log' actors owner j p) → (held ≡ 1 → j ≡ holder → ⊥)
    → Fits log place actors owner held holder out j v → Fits log' place actors owner held' holder' out' j v
others_fit log log' place actors owner held holder held' holder' out out' j v parts never f = record {
  mine = λ h. parts v.mine (f.mine h);
  other = λ h. parts v.other (f.other h);
  whole = f.whole;
  turn = others_at log log' held holder held' holder' out out' j v never v.stage f.turn;
}

-- a part fits the history with one entry more of another seat's actor
part_grows : (log log' : List Entry) (actors : ℕ) (owner : ℕ → ℕ) (me j : ℕ) (entry : Entry) (p : RangeView) → log' ≡ log ++ entry ∷ [] → owner entry.actor ≡ me → j ≢ me → FitsRange log actors owner j p → FitsRange log' actors owner j p
part_grows log log' actors owner me j entry p new_is own apart f =
    let beyond : IsBeyond p.low p.high entry = ⊎_elim (λ (l : entry.actor < p.low). inl l)
    (λ (from : p.low ≤ entry.actor). ⊎_elim (λ (upto : entry.actor < p.high). absurd (apart (sym (f.owned entry.actor from upto) ∙ own))) (λ (u : p.high ≤ entry.actor). inr u) (cases_lt entry.actor p.high)) (cases_lt entry.actor p.low) in record {
      seen = followed_more p.low p.high p.seen log log' entry f.seen new_is beyond;
      inside = f.inside;
      owned = f.owned;
    }

-- the first seat is the only one
none_else : (v : SeatView) (j : ℕ) (w : SeatView) → j ≢ 0 → get_elem? (v ∷ []) j ≡ some w → ⊥
none_else v zero w apart there = apart refl
none_else v (suc j) w apart there = some-ne-none w (sym there)

module _ {T : Type 0} (world : T → Setting) (history : T → List Entry) where
  abbrev St : Type 0
  St = State (Option T) SeatView

  abbrev Rule : St → Type 0
  Rule = Turning world history

  abbrev Slots : Type 0
  Slots = List (ℕ × Option T)

  abbrev M : Type 0
  M = Me (Option T) SeatView

  -- the table at the start
  starts : (value : T) (actors : ℕ) → AllBelow actors (history value) → Rule (opening (0 ∷ length (history value) ∷ 0 ∷ []) (Some value ∷ []) (seat_view actors (world value) (history value) 0 actors Outside))
  starts value actors below =
      let v : SeatView = seat_view actors (world value) (history value) 0 actors Outside in record {
        log = history value;
        place = world value;
        actors = actors;
        owner = λ _. 0;
        holder = 0;
        is_out = false;
        wide = refl;
        slots = refl;
        held = omega arith;
        count = refl;
        free = λ _. refl;
        busy = λ e. absurd (omega arith);
        home = λ _. (value, refl, refl, refl);
        below = below;
        each_seat = seats_stay (λ j v. Fits (history value) (world value) actors (λ _. 0) 0 0 false j v) (v ∷ []) 0 v (record {
          mine = λ _. record { seen = followed_none 0 actors (history value) (history value) refl; inside = omega arith; owned = λ _ _ _. refl };
          other = λ h. absurd (omega arith);
          whole = λ _. (refl, refl);
          turn = tt;
        }) (λ j w apart there. absurd (none_else v j w apart there));
      }

  pub starts_at : (value : T) (place : Setting) (log : List Entry) (actors count : ℕ) (items : List (Option T)) → AllBelow actors (history value) → place ≡ world value → log ≡ history value → count ≡ length (history value) → items ≡ Some value ∷ []
      → Rule (opening (0 ∷ count ∷ 0 ∷ []) items (seat_view actors place log 0 actors Outside))
  starts_at value place log actors count items below same_world same counted filled =
      subst (λ (x : (Setting × List Entry) × (ℕ × List (Option T))). Rule (opening (0 ∷ x.1.0 ∷ 0 ∷ []) x.1.1 (seat_view actors x.0.0 x.0.1 0 actors Outside))) (λ i. ((sym same_world i, sym same i), (sym counted i, sym filled i))) (starts value actors below)

  -- a step that changes no word and no view
  unmoved : (s : St) → Rule s → (i id : ℕ) (c : Slots) (v : SeatView) → get_elem? s.views id ≡ some v → Rule (stepped s i (get_or s.words i 0) id c v keeps)
  unmoved s r i id c v at = subst (λ (ws : List ℕ). Rule record { words = ws; homes = s.homes; views = set s.views id v }) (sym (set-get_or s.words i 0))
      (subst (λ (vs : List SeatView). Rule record { words = s.words; homes = s.homes; views = vs }) (sym (set_again s.views id v at)) r)

  -- a store to the word of sleepers
  marked : (s : St) → Rule s → (n : ℕ) → Rule record { words = set s.words 2 n; homes = s.homes; views = s.views }
  marked s r n =
      let held : get_or (set s.words 2 n) 0 0 ≡ get_or s.words 0 0 = get_or-set_other s.words 2 0 n 0 (λ e. omega arith) in record {
        log = r.log;
        place = r.place;
        actors = r.actors;
        owner = r.owner;
        holder = r.holder;
        is_out = r.is_out;
        wide = length-set s.words 2 n ∙ r.wide;
        slots = r.slots;
        held = subst (λ (z : ℕ). z < 2) (sym held) r.held;
        count = get_or-set_other s.words 2 1 n 0 (λ e. omega arith) ∙ r.count;
        free = λ e. r.free (sym held ∙ e);
        busy = λ e. r.busy (sym held ∙ e);
        home = r.home;
        below = r.below;
        each_seat = subst (λ (z : ℕ). (j : ℕ) (v : SeatView) → get_elem? s.views j ≡ some v → Fits r.log r.place r.actors r.owner z r.holder r.is_out j v) (sym held) r.each_seat;
      }

  pub marks_seat : (slots id n : ℕ) (me : M) → Allows Rule slots id me 2 (λ _. n) (λ _. keeps_knowledge (step slots 2 n 0 none) me n)
  marks_seat slots id n me s r _ at _ = (
    me.0,
    keeps,
    tt,
    subst (λ (vs : List SeatView). Rule record { words = set s.words 2 n; homes = s.homes; views = vs }) (sym (set_again s.views id me.0 at)) (marked s r n),
    refl,
  )

  -- the turn is taken
  taken : (s : St) → Rule s → (id : ℕ) (t : Token) (c : Slots) → t.low < t.high → get_elem? s.views id ≡ some (seat_view_of t Outside) → get_or s.words 0 0 ≡ 0 → Rule (stepped s 0 1 id c (seat_view_of t Entered) keeps)
  taken s r id t c some_actor at free =
      let wide = r.wide in
      let w : SeatView = seat_view_of t Entered in
      let mine = r.each_seat id (seat_view_of t Outside) at in
      let now : get_or (set s.words 0 1) 0 0 ≡ 1 = get_or-set_same s.words 0 1 0 (omega arith) in record {
        log = r.log;
        place = r.place;
        actors = r.actors;
        owner = r.owner;
        holder = id;
        is_out = r.is_out;
        wide = length-set s.words 0 1 ∙ r.wide;
        slots = r.slots;
        held = omega arith;
        count = get_or-set_other s.words 0 1 1 0 (λ e. omega arith) ∙ r.count;
        free = λ _. r.free free;
        busy = λ _. (w, seat_set s.views id (seat_view_of t Outside) w at, λ (e : Entered ≡ Outside). cc);
        home = r.home;
        below = r.below;
        each_seat = subst (λ (z : ℕ). (j : ℕ) (v : SeatView) → get_elem? (set s.views id w) j ≡ some v → Fits r.log r.place r.actors r.owner z id r.is_out j v) (sym now)
            (seats_stay (λ j v. Fits r.log r.place r.actors r.owner 1 id r.is_out j v) s.views id w
            (record { mine = mine.mine; other = mine.other; whole = mine.whole; turn = (refl, refl, some_actor, r.free free) })
            (λ j v apart there. others_fit r.log r.log r.place r.actors r.owner (get_or s.words 0 0) r.holder 1 id r.is_out r.is_out j v (λ p f. f) (λ held _. absurd (omega arith)) (r.each_seat j v there)));
      }

  takes_at : (slots id : ℕ) (t : Token) (c : Slots) → t.low < t.high
      → Allows Rule slots id (seat_view_of t Outside, c) 0 (λ n. either (eqb n 0) 1 n) (takes_turn (step slots 0 0 1 none) (seat_view_of t Outside, c))
  takes_at slots id t c some_actor s r _ at _ =
      let x : ℕ = get_or s.words 0 0 in
      dite (ℕ_discrete x 0)
      (λ (free : x ≡ 0). (
        seat_view_of t Entered,
        keeps,
        tt,
        subst (λ b. Rule (stepped s 0 (either b 1 x) id c (seat_view_of t Entered) keeps)) (sym (eq-eqb x 0 free)) (taken s r id t c some_actor at free),
        ((λ _. refl), λ busy. absurd (busy free)),
      ))
      (λ (busy : x ≢ 0). (
        seat_view_of t Outside,
        keeps,
        tt,
        subst (λ b. Rule (stepped s 0 (either b 1 x) id c (seat_view_of t Outside) keeps)) (sym (ne_eqb x 0 busy)) (unmoved s r 0 id c (seat_view_of t Outside) at),
        ((λ free. absurd (busy free)), λ _. refl),
      ))

  pub takes_seat : (slots id : ℕ) (me : M) (t : Token) (c : Slots) → me ≡ (seat_view_of t Outside, c) → t.low < t.high → Allows Rule slots id me 0 (λ n. either (eqb n 0) 1 n) (takes_turn (step slots 0 0 1 none) me)
  takes_seat slots id me t c is some_actor = subst (λ (m : M). Allows Rule slots id m 0 (λ n. either (eqb n 0) 1 n) (takes_turn (step slots 0 0 1 none) m)) (sym is) (takes_at slots id t c some_actor)

  -- the holder has loaded the count and has the value
  loaded : (s : St) (r : Rule s) (id : ℕ) (t : Token) (value : T) → get_elem? s.views id ≡ some (seat_view_of t Entered) → history value ≡ r.log
      → Rule record { words = s.words; homes = set s.homes 0 none; views = set s.views id (seeing (seat_view_of t Entered) (history value) Loaded) }
  loaded s r id t value at is =
      let w : SeatView = seeing (seat_view_of t Entered) (history value) Loaded in
      let mine = r.each_seat id (seat_view_of t Entered) at in
      let turn = mine.turn in
      let here : get_or s.words 0 0 ≡ 1 = turn.0 in record {
        log = r.log;
        place = r.place;
        actors = r.actors;
        owner = r.owner;
        holder = id;
        is_out = true;
        wide = r.wide;
        slots = length-set s.homes 0 none ∙ r.slots;
        held = r.held;
        count = r.count;
        free = λ e. absurd (omega arith);
        busy = λ _. (w, seat_set s.views id (seat_view_of t Entered) w at, λ (e : Loaded ≡ Outside). cc);
        home = λ (e : true ≡ false). absurd cc;
        below = r.below;
        each_seat = seats_stay (λ j v. Fits r.log r.place r.actors r.owner (get_or s.words 0 0) id true j v) s.views id w
            (record {
              mine = λ h. let f = mine.mine h in record { seen = followed_none t.low t.high (history value) r.log (sym is); inside = f.inside; owned = f.owned };
              other = mine.other;
              whole = mine.whole;
              turn = (here, refl, turn.2, refl, is);
            })
            (λ j v apart there. others_fit r.log r.log r.place r.actors r.owner (get_or s.words 0 0) r.holder (get_or s.words 0 0) id r.is_out true j v (λ p f. f) (λ _ same. apart (same ∙ sym turn.1)) (r.each_seat j v there));
      }

  loads_at : (slots id : ℕ) (t : Token) (c : Slots) → Allows Rule slots id (seat_view_of t Entered, c) 1 (λ n. n) (loads_value world history (step slots 1 0 0 none) (seat_view_of t Entered, c))
  loads_at slots id t c s r _ at _ =
      let mine = r.each_seat id (seat_view_of t Entered) at in
      let turn = mine.turn in
      let h = r.home turn.3 in
      let part = mine.mine turn.2 in
      let w : SeatView = seeing (seat_view_of t Entered) (history h.0) Loaded in (
        w,
        takes 0 (Some h.0),
        h.1,
        subst (λ (ws : List ℕ). Rule record { words = ws; homes = set s.homes 0 none; views = set s.views id w }) (sym (set-get_or s.words 1 0)) (loaded s r id t h.0 at h.3),
        record {
          value = h.0;
          seat = refl;
          same_world = h.2 ∙ sym (mine.whole turn.2).0;
          others = subst (OthersFollow t.low t.high t.seen) (sym h.3) part.seen;
          count = r.count ∙ ap length (sym h.3);
        },
      )

  pub loads_seat : (slots id : ℕ) (me : M) (t : Token) (c : Slots) → me ≡ (seat_view_of t Entered, c) → Allows Rule slots id me 1 (λ n. n) (loads_value world history (step slots 1 0 0 none) me)
  loads_seat slots id me t c is = subst (λ (m : M). Allows Rule slots id m 1 (λ n. n) (loads_value world history (step slots 1 0 0 none) m)) (sym is) (loads_at slots id t c)

  -- the holder has raised the count
  raised : (s : St) (r : Rule s) (id : ℕ) (t : Token) (log : List Entry) (c : Slots) → get_elem? s.views id ≡ some (seat_view_of t Loaded) → AddsOne t.low t.high t.seen log
      → Rule (stepped s 1 (length log) id c (seeing (seat_view_of t Loaded) log Loaded) keeps)
  raised s r id t log c at adds =
      let wide = r.wide in
      let w : SeatView = seeing (seat_view_of t Loaded) log Loaded in
      let mine = r.each_seat id (seat_view_of t Loaded) at in
      let turn = mine.turn in
      let here : get_or s.words 0 0 ≡ 1 = turn.0 in
      let part = mine.mine turn.2 in
      let entry : Entry = adds.entry in
      let grown : log ≡ r.log ++ entry ∷ [] = adds.whole ∙ ap (λ l. l ++ entry ∷ []) turn.4 in
      let own : r.owner entry.actor ≡ id = part.owned entry.actor adds.within.0 adds.within.1 in
      let small : entry.actor < t.high = adds.within.1 in
      let few : t.high ≤ r.actors = part.inside in
      let same : get_or (set s.words 1 (length log)) 0 0 ≡ get_or s.words 0 0 = get_or-set_other s.words 1 0 (length log) 0 (λ e. omega arith) in record {
        log = log;
        place = r.place;
        actors = r.actors;
        owner = r.owner;
        holder = id;
        is_out = true;
        wide = length-set s.words 1 (length log) ∙ r.wide;
        slots = r.slots;
        held = omega arith;
        count = get_or-set_same s.words 1 (length log) 0 (omega arith);
        free = λ e. absurd (omega arith);
        busy = λ _. (w, seat_set s.views id (seat_view_of t Loaded) w at, λ (e : Loaded ≡ Outside). cc);
        home = λ (e : true ≡ false). absurd cc;
        below = subst (AllBelow r.actors) (sym grown) (All-append (λ e. e.actor < r.actors) r.log (entry ∷ []) r.below (All-cons (λ e. e.actor < r.actors) entry [] (omega arith) (All-nil (λ e. e.actor < r.actors))));
        each_seat = subst (λ (z : ℕ). (j : ℕ) (v : SeatView) → get_elem? (set s.views id w) j ≡ some v → Fits log r.place r.actors r.owner z id true j v) (sym same)
            (seats_stay (λ j v. Fits log r.place r.actors r.owner (get_or s.words 0 0) id true j v) s.views id w
            (record {
              mine = λ h. record { seen = followed_none t.low t.high log log refl; inside = part.inside; owned = part.owned };
              other = λ h. absurd (omega arith);
              whole = mine.whole;
              turn = (here, refl, turn.2, refl, refl);
            })
            (λ j v apart there. others_fit r.log log r.place r.actors r.owner (get_or s.words 0 0) r.holder (get_or s.words 0 0) id r.is_out true j v
            (λ p f. part_grows r.log log r.actors r.owner id j entry p grown own apart f) (λ _ is. apart (is ∙ sym turn.1)) (r.each_seat j v there)));
      }

  raises_at : (slots id : ℕ) (t : Token) (c : Slots) (value : T) (old new : ℕ) → old ≡ length t.seen → new ≡ length (history value) → AddsOne t.low t.high t.seen (history value)
      → Allows Rule slots id (seat_view_of t Loaded, c) 1 (λ n. either (eqb n old) new n) (raises_count history (step slots 1 old new (some (Some value))) (seat_view_of t Loaded, c))
  raises_at slots id t c value old new old_is new_is adds s r _ at _ =
      let x : ℕ = get_or s.words 1 0 in
      let turn = (r.each_seat id (seat_view_of t Loaded) at).turn in
      let hit : x ≡ old = r.count ∙ ap length (sym turn.4) ∙ sym old_is in
      let w : SeatView = seeing (seat_view_of t Loaded) (history value) Loaded in (
        w,
        keeps,
        tt,
        subst (λ b. Rule (stepped s 1 (either b new x) id c w keeps)) (sym (eq-eqb x old hit))
            (subst (λ (n : ℕ). Rule (stepped s 1 n id c w keeps)) (sym new_is) (raised s r id t (history value) c at adds)),
        λ shown said. let same : value ≡ shown = cc in ap (λ (z : T). (seeing (seat_view_of t Loaded) (history z) Loaded, c)) same,
      )

  pub raises_seat : (slots id : ℕ) (me : M) (t : Token) (c : Slots) (home : Option T) (value : T) (old new : ℕ) → me ≡ (seat_view_of t Loaded, c) → home ≡ Some value → old ≡ length t.seen → new ≡ length (history value) → AddsOne t.low t.high t.seen (history value)
      → Allows Rule slots id me 1 (λ n. either (eqb n old) new n) (raises_count history (step slots 1 old new (some home)) me)
  raises_seat slots id me t c home value old new is shown old_is new_is adds = subst (λ (x : M × Option T). Allows Rule slots id x.0 1 (λ n. either (eqb n old) new n) (raises_count history (step slots 1 old new (some x.1)) x.0)) (λ i. (sym is i, sym shown i))
      (raises_at slots id t c value old new old_is new_is adds)

  -- the value is at home again, and the turn is over
  given : (s : St) (r : Rule s) (id : ℕ) (t : Token) (value : T) → get_elem? s.views id ≡ some (seat_view_of t Loaded) → world value ≡ t.cell.world → history value ≡ t.seen
      → Rule record { words = set s.words 0 0; homes = set s.homes 0 (some (Some value)); views = set s.views id (seat_view_of t Outside) }
  given s r id t value at same_world is =
      let wide = r.wide in
      let slots = r.slots in
      let w : SeatView = seat_view_of t Outside in
      let mine = r.each_seat id (seat_view_of t Loaded) at in
      let turn = mine.turn in
      let now : get_or (set s.words 0 0) 0 0 ≡ 0 = get_or-set_same s.words 0 0 0 (omega arith) in record {
        log = r.log;
        place = r.place;
        actors = r.actors;
        owner = r.owner;
        holder = id;
        is_out = false;
        wide = length-set s.words 0 0 ∙ r.wide;
        slots = length-set s.homes 0 (some (Some value)) ∙ r.slots;
        held = omega arith;
        count = get_or-set_other s.words 0 1 0 0 (λ e. omega arith) ∙ r.count;
        free = λ _. refl;
        busy = λ e. absurd (omega arith);
        home = λ _. (value, set_here s.homes 0 (some (Some value)) (omega arith), same_world ∙ (mine.whole turn.2).0, is ∙ turn.4);
        below = r.below;
        each_seat = subst (λ (z : ℕ). (j : ℕ) (v : SeatView) → get_elem? (set s.views id w) j ≡ some v → Fits r.log r.place r.actors r.owner z id false j v) (sym now)
            (seats_stay (λ j v. Fits r.log r.place r.actors r.owner 0 id false j v) s.views id w
            (record { mine = mine.mine; other = mine.other; whole = mine.whole; turn = tt })
            (λ j v apart there. others_fit r.log r.log r.place r.actors r.owner (get_or s.words 0 0) r.holder 0 id r.is_out false j v (λ p f. f) (λ _ same. apart (same ∙ sym turn.1)) (r.each_seat j v there)));
      }

  gives_at : (slots id : ℕ) (t : Token) (c : Slots) (value : T) → world value ≡ t.cell.world → history value ≡ t.seen
      → Allows Rule slots id (seat_view_of t Loaded, (0, Some value) ∷ c) 0 (λ _. 0) (λ _. gives_turn (step slots 0 0 0 none) (seat_view_of t Loaded, (0, Some value) ∷ c) 0)
  gives_at slots id t c value same_world is s r _ at _ = (seat_view_of t Outside, gives, tt, given s r id t value at same_world is, refl)

  pub gives_seat : (slots id : ℕ) (me : M) (t : Token) (c : Slots) (value : T) → me ≡ (seat_view_of t Loaded, (0, Some value) ∷ c) → world value ≡ t.cell.world → history value ≡ t.seen
      → Allows Rule slots id me 0 (λ _. 0) (λ _. gives_turn (step slots 0 0 0 none) me 0)
  gives_seat slots id me t c value is same_world same = subst (λ (m : M). Allows Rule slots id m 0 (λ _. 0) (λ _. gives_turn (step slots 0 0 0 none) m 0)) (sym is) (gives_at slots id t c value same_world same)
