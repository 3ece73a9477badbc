-- Splitting and joining seats keeps the rule, and so does the load after a join. And what the rule gives to
-- whoever has the pass of all actors.
use Rattle.std.proofs.Common.{◌≡◌, ◌≢◌, ℕ, ◌<◌, ◌≤◌, Bool, Option, Some, List, [], ◌∷◌, set, get_or, length, refl, sym, ap, ◌∙◌, subst, ⊎_elim, arith, length-set}
use Rattle.std.proofs.lemmas.Bool.{cases_lt}
use mathlib.Core.Logic.{dite}
use mathlib.Core.Option.{none, some, some-injective}
use native.Mathlib.Decide.{ℕ_discrete}
use lib.ListN.{get_elem?}
use lib.Seq.{set-get_or}
use Rattle.atomic_table.specs.Table.{State, Me, step, keeps, Allows, Splits, Joins, Final, Seen}
use Rattle.atomic_table.proofs.Lists.{at_set, set_else, at_longer}
use Rattle.history.specs.declared.events.Entry.{Entry}
use Rattle.history.specs.Layout.{Setting}
use Rattle.chronicle.specs.Ports.{OthersFollow}
use Rattle.turn_cell.specs.declared.views.RangeView.{RangeView}
use Rattle.turn_cell.specs.declared.views.TurnStage.{TurnStage}
use Rattle.turn_cell.specs.declared.views.TurnStage.TheVariants.{Outside, Entered, Loaded}
use Rattle.turn_cell.specs.declared.views.SeatView.{SeatView}
use Rattle.turn_cell.specs.Cells.{Token, AllBelow, longer_list}
use Rattle.turn_cell.specs.SeatViews.{seat_view_of, below_cut, above_cut, beside, spent, merged}
use Rattle.turn_cell.specs.Turning.{FitsRange, IsAt, Fits, Turning}
use Rattle.turn_cell.specs.Steps.{settles_parts}
use Rattle.turn_cell.proofs.Histories.{Longer, followed_within, longer_of, whole_seen}
use Rattle.turn_cell.proofs.Seats.{seats_stay, seat_of_longer, owner_after, owner_within, owner_cases, only_one, some_value}

-- a part fits still where a range without its actors has a new owner
part_stays : (log : List Entry) (actors : ℕ) (owner : ℕ → ℕ) (low high was seat j : ℕ) (p : RangeView) → ((actor : ℕ) → low ≤ actor → actor < high → owner actor ≡ was) → j ≢ was
    → FitsRange log actors owner j p → FitsRange log actors (owner_after low high seat owner) j p
part_stays log actors owner low high was seat j p own apart f = record {
  seen = f.seen;
  inside = f.inside;
  owned = λ actor from upto. ⊎_elim (λ (t : (low ≤ actor) × (actor < high) × (owner_after low high seat owner actor ≡ seat)). absurd (apart (sym (f.owned actor from upto) ∙ own actor t.0 t.1)))
      (λ (e : owner_after low high seat owner actor ≡ owner actor). e ∙ f.owned actor from upto) (owner_cases low high seat owner actor);
}

-- so does a seat
seat_stays : (log : List Entry) (place : Setting) (actors : ℕ) (owner : ℕ → ℕ) (low high was seat held holder : ℕ) (out : Bool) (j : ℕ) (v : SeatView) → ((actor : ℕ) → low ≤ actor → actor < high → owner actor ≡ was) → j ≢ was
    → Fits log place actors owner held holder out j v → Fits log place actors (owner_after low high seat owner) held holder out j v
seat_stays log place actors owner low high was seat held holder out j v own apart f = record {
  mine = λ h. part_stays log actors owner low high was seat j v.mine own apart (f.mine h);
  other = λ h. part_stays log actors owner low high was seat j v.other own apart (f.other h);
  whole = f.whole;
  turn = f.turn;
}

-- a seat in a turn has actors
in_turn : (log : List Entry) (held holder : ℕ) (out : Bool) (j : ℕ) (v : SeatView) (stage : TurnStage) → stage ≢ Outside → IsAt log held holder out j v stage → v.mine.low < v.mine.high
in_turn log held holder out j v Outside inside at = absurd (inside refl)
in_turn log held holder out j v Entered inside at = at.2
in_turn log held holder out j v Loaded inside at = at.2

-- of the seats but one, what holds of a seat's new view and of the others holds of each
others_of_two : (K : ℕ → SeatView → Type 0) (views : List SeatView) (me : ℕ) (w : SeatView) (other : ℕ) → K me w → ((j : ℕ) (v : SeatView) → j ≢ other → get_elem? views j ≡ some v → K j v)
    → (j : ℕ) (v : SeatView) → j ≢ other → get_elem? (set views me w) j ≡ some v → K j v
others_of_two K views me w other mine others j v off e = ⊎_elim (λ (t : (j ≡ me) × (w ≡ v)). subst (λ (x : ℕ × SeatView). K x.0 x.1) (λ i. (sym t.0 i, t.1 i)) mine)
    (λ (t : (j ≢ me) × (get_elem? views j ≡ some v)). others j v off t.1) (at_set views me j w v e)

module _ {T : Type 0} (world : T → Setting) (history : T → List Entry) where
  abbrev St : Type 0
  St = State (Option T) SeatView

  abbrev Rule : St → Type 0
  Rule = Turning world history

  abbrev Slots : Type 0
  Slots = List (ℕ × Option T)

  -- a seat outside a turn isn't the holder of one
  not_holder : (s : St) (r : Rule s) (id : ℕ) (v : SeatView) → get_elem? s.views id ≡ some v → v.stage ≡ Outside → get_or s.words 0 0 ≡ 1 → r.holder ≢ id
  not_holder s r id v at outside held same =
      let b = r.busy held in
      let there : get_elem? s.views id ≡ some b.0 = subst (λ (j : ℕ). get_elem? s.views j ≡ some b.0) same b.1 in
      let is : v ≡ b.0 = some-injective v b.0 (sym at ∙ there) in
      b.2 (ap (λ (x : SeatView). x.stage) (sym is) ∙ outside)

  -- where one seat outside a turn has all actors, no seat is in a turn
  no_holder : (s : St) (r : Rule s) (id : ℕ) (t : Token) → FitsRange r.log r.actors r.owner id record { seen = t.seen; low = t.low; high = t.high } → get_elem? s.views id ≡ some (seat_view_of t Outside) → t.low ≡ 0 → t.high ≡ t.cell.actors → t.cell.actors ≡ r.actors
      → get_or s.words 0 0 ≡ 1 → ⊥
  no_holder s r id t f there from upto actors_are held =
      let b = r.busy held in
      let g = r.each_seat r.holder b.0 b.1 in
      let range : b.0.mine.low < b.0.mine.high = in_turn r.log (get_or s.words 0 0) r.holder r.is_out r.holder b.0 b.0.stage b.2 g.turn in
      let p = g.mine range in
      let first : ℕ = b.0.mine.low in
      let last : ℕ = b.0.mine.high in
      let inside : last ≤ r.actors = p.inside in
      let its : r.owner first ≡ r.holder = p.owned first (omega arith) range in
      let mine : r.owner first ≡ id = f.owned first (omega arith) (omega arith) in
      not_holder s r id (seat_view_of t Outside) there refl held (sym its ∙ mine)

  splits_at : (id at : ℕ) (t : Token) → t.low < at → at < t.high → Splits Rule id (seat_view_of t Outside) (below_cut at (seat_view_of t Outside)) (above_cut at (seat_view_of t Outside))
  splits_at id at t from upto s r there =
      let v : SeatView = seat_view_of t Outside in
      let left : SeatView = below_cut at v in
      let right : SeatView = above_cut at v in
      let seat : ℕ = length s.views in
      let old = r.each_seat id v there in
      let f = old.mine (omega arith) in
      let inside : t.high ≤ r.actors = f.inside in
      let owner : ℕ → ℕ = owner_after at t.high seat r.owner in
      let held : ℕ = get_or s.words 0 0 in
      let own : (actor : ℕ) → at ≤ actor → actor < t.high → r.owner actor ≡ id = λ actor a b. f.owned actor (omega arith) b in
      let K : ℕ → SeatView → Type 0 = λ j v. Fits r.log r.place r.actors owner held r.holder r.is_out j v in
      let left_fits : K id left = record {
        mine = λ h. record {
          seen = followed_within t.low t.high t.low at t.seen r.log (omega arith) (omega arith) f.seen;
          inside = omega arith;
          owned = λ actor a b. ⊎_elim (λ (c : (at ≤ actor) × (actor < t.high) × (owner actor ≡ seat)). let c0 = c.0 in absurd (omega arith)) (λ (e : owner actor ≡ r.owner actor). e ∙ f.owned actor a (omega arith)) (owner_cases at t.high seat r.owner actor);
        };
        other = λ h. absurd (omega arith);
        whole = λ h. old.whole (omega arith);
        turn = tt;
      } in
      let right_fits : K seat right = record {
        mine = λ h. record {
          seen = followed_within t.low t.high at t.high t.seen r.log (omega arith) (omega arith) f.seen;
          inside = inside;
          owned = λ actor a b. owner_within at t.high seat r.owner actor a b;
        };
        other = λ h. absurd (omega arith);
        whole = λ h. old.whole (omega arith);
        turn = tt;
      } in record {
        log = r.log;
        place = r.place;
        actors = r.actors;
        owner = owner;
        holder = r.holder;
        is_out = r.is_out;
        wide = r.wide;
        slots = r.slots;
        held = r.held;
        count = r.count;
        free = r.free;
        busy = λ e. let b = r.busy e in (b.0, at_longer (set s.views id left) (right ∷ []) r.holder b.0 (set_else s.views id r.holder left (not_holder s r id v there refl e) ∙ b.1), b.2);
        home = r.home;
        below = r.below;
        each_seat = λ j w e. ⊎_elim (λ (here : get_elem? (set s.views id left) j ≡ some w). seats_stay K s.views id left left_fits
            (λ j w apart at_j. seat_stays r.log r.place r.actors r.owner at t.high id seat held r.holder r.is_out j w own apart (r.each_seat j w at_j)) j w here)
            (λ (c : (right ≡ w) × (j ≡ length (set s.views id left))). subst (λ (x : ℕ × SeatView). K x.0 x.1) (λ i. (sym (c.1 ∙ length-set s.views id left) i, c.0 i)) right_fits)
            (seat_of_longer (set s.views id left) right w j e);
      }

  pub splits_seat : (id at : ℕ) (v : SeatView) (t : Token) → v ≡ seat_view_of t Outside → t.low < at → at < t.high → Splits Rule id v (below_cut at v) (above_cut at v)
  splits_seat id at v t is from upto = subst (λ (x : SeatView). Splits Rule id x (below_cut at x) (above_cut at x)) (sym is) (splits_at id at t from upto)

  joins_at : (id : ℕ) (t : Token) (other : ℕ) (u : Token) → t.low < t.high → u.low < u.high
      → Joins Rule id (seat_view_of t Outside) other (seat_view_of u Outside) (beside (seat_view_of t Outside) (seat_view_of u Outside)) spent
  joins_at id t other u some_left some_right s r there apart there' =
      let v : SeatView = seat_view_of t Outside in
      let w : SeatView = seat_view_of u Outside in
      let both : SeatView = beside v w in
      let there_too : get_elem? s.views other ≡ some w = sym (set_else s.views id other both apart) ∙ there' in
      let old = r.each_seat id v there in
      let f = old.mine some_left in
      let g = (r.each_seat other w there_too).mine some_right in
      let owner : ℕ → ℕ = owner_after u.low u.high id r.owner in
      let held : ℕ = get_or s.words 0 0 in
      let K : ℕ → SeatView → Type 0 = λ j v. Fits r.log r.place r.actors owner held r.holder r.is_out j v in
      let both_fit : K id both = record {
        mine = λ h. record {
          seen = f.seen;
          inside = f.inside;
          owned = λ actor a b. ⊎_elim (λ (c : (u.low ≤ actor) × (actor < u.high) × (owner actor ≡ id)). c.2) (λ (e : owner actor ≡ r.owner actor). e ∙ f.owned actor a b) (owner_cases u.low u.high id r.owner actor);
        };
        other = λ h. record { seen = g.seen; inside = g.inside; owned = λ actor a b. owner_within u.low u.high id r.owner actor a b };
        whole = old.whole;
        turn = tt;
      } in
      let spent_fits : K other spent = record { mine = λ h. absurd (omega arith); other = λ h. absurd (omega arith); whole = λ h. absurd (omega arith); turn = tt } in
      record {
        log = r.log;
        place = r.place;
        actors = r.actors;
        owner = owner;
        holder = r.holder;
        is_out = r.is_out;
        wide = r.wide;
        slots = r.slots;
        held = r.held;
        count = r.count;
        free = r.free;
        busy = λ e. let b = r.busy e in (
          b.0,
          set_else (set s.views id both) other r.holder spent (not_holder s r other w there_too refl e) ∙ set_else s.views id r.holder both (not_holder s r id v there refl e) ∙ b.1,
          b.2,
        );
        home = r.home;
        below = r.below;
        each_seat = λ j x at_j. seats_stay (λ j x. K j x) (set s.views id both) other spent spent_fits (λ j x off at_both. others_of_two K s.views id both other both_fit
            (λ j x off at_first. seat_stays r.log r.place r.actors r.owner u.low u.high other id held r.holder r.is_out j x g.owned off (r.each_seat j x at_first)) j x off at_both) j x at_j;
      }

  pub joins_seat : (id : ℕ) (v : SeatView) (t : Token) (other : ℕ) (w : SeatView) (u : Token) → v ≡ seat_view_of t Outside → w ≡ seat_view_of u Outside → t.low < t.high → u.low < u.high → Joins Rule id v other w (beside v w) spent
  joins_seat id v t other w u v_is w_is some_left some_right =
      subst (λ (x : SeatView × SeatView). Joins Rule id x.0 other x.1 (beside x.0 x.1) spent) (λ i. (sym v_is i, sym w_is i)) (joins_at id t other u some_left some_right)

  -- the seat with two parts that meet, once it has loaded a word
  settles_at : (slots id word : ℕ) (t u : Token) (c : Slots) → t.low < t.high → u.low < u.high → t.high ≡ u.low
      → Allows Rule slots id (beside (seat_view_of t Outside) (seat_view_of u Outside), c) word (λ n. n) (settles_parts (step slots word 0 0 none) (beside (seat_view_of t Outside) (seat_view_of u Outside), c))
  settles_at slots id word t u c some_left some_right meet s r _ there _ =
      let v : SeatView = beside (seat_view_of t Outside) (seat_view_of u Outside) in
      let w : SeatView = merged v in
      let old = r.each_seat id v there in
      let f = old.mine some_left in
      let g = old.other some_right in
      let l : Longer t.low u.low u.high t.seen u.seen r.log (longer_list t.seen u.seen) =
      longer_of t.low u.low u.high t.seen u.seen r.log (subst (λ (h : ℕ). OthersFollow t.low h t.seen r.log) meet f.seen) g.seen in
      let held : ℕ = get_or s.words 0 0 in
      let K : ℕ → SeatView → Type 0 = λ j v. Fits r.log r.place r.actors r.owner held r.holder r.is_out j v in
      let fits : K id w = record {
        mine = λ h. record {
          seen = l.whole;
          inside = g.inside;
          owned = λ actor a b. ⊎_elim (λ (low : actor < u.low). f.owned actor a (omega arith)) (λ (high : u.low ≤ actor). g.owned actor high b) (cases_lt actor u.low);
        };
        other = λ h. absurd (omega arith);
        whole = λ h. old.whole some_left;
        turn = tt;
      } in (
        w,
        keeps,
        tt,
        subst (λ (ws : List ℕ). Rule record { words = ws; homes = s.homes; views = set s.views id w }) (sym (set-get_or s.words word 0)) record {
          log = r.log;
          place = r.place;
          actors = r.actors;
          owner = r.owner;
          holder = r.holder;
          is_out = r.is_out;
          wide = r.wide;
          slots = r.slots;
          held = r.held;
          count = r.count;
          free = r.free;
          busy = λ e. let b = r.busy e in (b.0, set_else s.views id r.holder w (not_holder s r id v there refl e) ∙ b.1, b.2);
          home = r.home;
          below = r.below;
          each_seat = seats_stay K s.views id w fits (λ j x apart at_j. r.each_seat j x at_j);
        },
        record { seat = refl; mine = subst (λ (h : ℕ). OthersFollow t.low h t.seen (longer_list t.seen u.seen)) (sym meet) l.first; other = l.second },
      )

  pub settles_seat : (slots id word : ℕ) (me : Me (Option T) SeatView) (t u : Token) (c : Slots) → me ≡ (beside (seat_view_of t Outside) (seat_view_of u Outside), c) → t.low < t.high → u.low < u.high → t.high ≡ u.low
      → Allows Rule slots id me word (λ n. n) (settles_parts (step slots word 0 0 none) me)
  settles_seat slots id word me t u c is some_left some_right meet = subst (λ (m : Me (Option T) SeatView). Allows Rule slots id m word (λ n. n) (settles_parts (step slots word 0 0 none) m)) (sym is) (settles_at slots id word t u c some_left some_right meet)

  -- what stands in the slot where one seat outside a turn has all actors
  pub record Closes (s : St) (t : Token) : Type 0 where
    pub value : T
    pub home : get_elem? s.homes 0 ≡ some (some (Some value))
    pub same_world : world value ≡ t.cell.world
    pub same_history : history value ≡ t.seen
    pub below : AllBelow t.cell.actors (history value)

  closes : (s : St) → Rule s → (id : ℕ) (t : Token) → get_elem? s.views id ≡ some (seat_view_of t Outside) → t.low < t.high → t.low ≡ 0 → t.high ≡ t.cell.actors → Closes s t
  closes s r id t there some_actor from upto =
      let old = r.each_seat id (seat_view_of t Outside) there in
      let f = old.mine some_actor in
      let w = old.whole some_actor in
      let inside : t.high ≤ r.actors = f.inside in
      let actors_are : t.cell.actors ≡ r.actors = w.1 in
      let free : get_or s.words 0 0 ≡ 0 = dite (ℕ_discrete (get_or s.words 0 0) 0) (λ z. z)
      (λ (busy : get_or s.words 0 0 ≢ 0). let small = r.held in let one : get_or s.words 0 0 ≡ 1 = omega arith in absurd (no_holder s r id t f there from upto actors_are one)) in
      let h = r.home (r.free free) in
      let all : r.log ≡ t.seen = whole_seen t.high t.seen r.log (subst (λ (n : ℕ). OthersFollow n t.high t.seen r.log) from f.seen) (subst (λ (n : ℕ). AllBelow n r.log) (sym actors_are ∙ sym upto) r.below) in
      record {
        value = h.0;
        home = h.1;
        same_world = h.2 ∙ sym w.0;
        same_history = h.3 ∙ all;
        below = subst (λ (l : List Entry). AllBelow t.cell.actors l) (sym h.3) (subst (λ (n : ℕ). AllBelow n r.log) (sym actors_are) r.below);
      }

  -- what is taken out of the slot at the end
  pub record ClosesTo (found : Option T) (t : Token) : Type 0 where
    pub value : T
    pub is : found ≡ Some value
    pub same_world : world value ≡ t.cell.world
    pub same_history : history value ≡ t.seen
    pub below : AllBelow t.cell.actors (history value)

  closes_at : (id : ℕ) (v : SeatView) (words : List ℕ) (items : List (Option T)) (found : Option T) (t : Token) → Final (Seen Rule id v) words items → get_elem? items 0 ≡ some found → v ≡ seat_view_of t Outside → t.low < t.high → t.low ≡ 0 → t.high ≡ t.cell.actors
      → ClosesTo found t
  closes_at id v words items found t last taken is some_actor from upto =
      let s : St = last.0 in
      let at : get_elem? s.views id ≡ some (seat_view_of t Outside) = last.1.1 ∙ ap some is in
      let end = closes s last.1.0 id t at some_actor from upto in
      let there : get_elem? items 0 ≡ some (Some end.value) = last.4 0 (Some end.value) end.home in
      let same : found ≡ Some end.value = some-injective found (Some end.value) (sym taken ∙ there) in
      record { value = end.value; is = same; same_world = end.same_world; same_history = end.same_history; below = end.below }

  pub closes_to : (id : ℕ) (views : List SeatView) (v : SeatView) (words : List ℕ) (items : List (Option T)) (found : Option T) (t p : Token) → t ≡ p → views ≡ v ∷ [] → views ≡ seat_view_of t Outside ∷ [] → t.low < t.high → (p.low ≡ 0) × (p.high ≡ p.cell.actors)
      → Final (Seen Rule id v) words items → get_elem? items 0 ≡ some found → ClosesTo found p
  closes_to id views v words items found t p same held is some_actor all last taken =
      subst (ClosesTo found) same (closes_at id v words items found t last taken (only_one views v (seat_view_of t Outside) held is) some_actor (ap (λ (x : Token). x.low) same ∙ all.0) (ap (λ (x : Token). x.high) same ∙ all.1 ∙ sym (ap (λ (x : Token). x.cell.actors) same)))

  -- so the value that was taken has the pass's world and history
  pub closed_world : (found : Option T) (t : Token) (value : T) → ClosesTo found t → found ≡ Some value → world value ≡ t.cell.world
  closed_world found t value end is = let same : value ≡ end.value = some_value value end.value (sym is ∙ end.is) in ap world same ∙ end.same_world

  pub closed_history : (found : Option T) (t : Token) (value : T) → ClosesTo found t → found ≡ Some value → history value ≡ t.seen
  closed_history found t value end is = let same : value ≡ end.value = some_value value end.value (sym is ∙ end.is) in ap history same ∙ end.same_history

  pub closed_below : (found : Option T) (t : Token) (value : T) → ClosesTo found t → found ≡ Some value → AllBelow t.cell.actors (history value)
  closed_below found t value end is = let same : value ≡ end.value = some_value value end.value (sym is ∙ end.is) in subst (λ (x : T). AllBelow t.cell.actors (history x)) (sym same) end.below
