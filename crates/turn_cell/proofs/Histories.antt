-- Lists that begin one history.
use Rattle.std.proofs.Common.{◌≡◌, ℕ, ◌<◌, ◌≤◌, Bool, List, [], ◌∷◌, ◌++◌, length, All, refl, sym, ap, ◌∙◌, subst, inl, inr, ⊎_elim, arith, append_assoc, append-nil}
use Rattle.std.specs.Prelude.{if◌then◌else◌}
use Rattle.std.proofs.lemmas.Bool.{cases_lt, lt-ltb, le-ltb}
use Rattle.std.proofs.lemmas.List.Elements.{All-nil, All-cons, All-head, All-tail, All-append, All-weaker}
use Rattle.history.specs.declared.events.Entry.{Entry}
use Rattle.chronicle.specs.Ports.{IsBeyond, OthersFollow}
use Rattle.turn_cell.specs.Cells.{AllBelow, AddsOne, AddsAtMostOne, longer_list}

-- of two lists that begin a third, the shorter begins the longer
pub goes_on : (a rest b more : List Entry) → a ++ rest ≡ b ++ more → length a ≤ length b → (between : List Entry) × (b ≡ a ++ between) × (rest ≡ between ++ more)
goes_on [] rest b more e h = (b, refl, e)
goes_on (x ∷ a) rest [] more e h = absurd (omega arith)
goes_on (x ∷ a) rest (y ∷ b) more e h =
    let head : x ≡ y = cc in
    let tail : a ++ rest ≡ b ++ more = cc in
    let t = goes_on a rest b more tail (omega arith) in
    (t.0, (λ i. sym head i ∷ t.1 i), t.2)

module _ (P : Entry → Type 0) where
  pub front_of : (a b : List Entry) → All P (a ++ b) → All P a
  front_of [] b h = All-nil P
  front_of (x ∷ a) b h = All-cons P x a (All-head P x (a ++ b) h) (front_of a b (All-tail P x (a ++ b) h))

  pub rest_of : (a b : List Entry) → All P (a ++ b) → All P b
  rest_of [] b h = h
  rest_of (x ∷ a) b h = rest_of a b (All-tail P x (a ++ b) h)

-- nothing came
pub followed_none : (low high : ℕ) (seen log : List Entry) → log ≡ seen → OthersFollow low high seen log
followed_none low high seen log same = record { rest = []; whole = same ∙ sym (append-nil seen); beyond = All-nil (IsBeyond low high) }

-- one entry more
pub followed_more : (low high : ℕ) (seen log longer_log : List Entry) (entry : Entry) → OthersFollow low high seen log → longer_log ≡ log ++ entry ∷ [] → IsBeyond low high entry → OthersFollow low high seen longer_log
followed_more low high seen log longer_log entry f new_is beyond = record {
  rest = f.rest ++ entry ∷ [];
  whole = new_is ∙ ap (λ l. l ++ entry ∷ []) f.whole ∙ append_assoc seen f.rest (entry ∷ []);
  beyond = All-append (IsBeyond low high) f.rest (entry ∷ []) f.beyond (All-cons (IsBeyond low high) entry [] beyond (All-nil (IsBeyond low high)));
}

-- a smaller range asks less
pub followed_within : (low high from upto : ℕ) (seen log : List Entry) → low ≤ from → upto ≤ high → OthersFollow low high seen log → OthersFollow from upto seen log
followed_within low high from upto seen log left right f = record {
  rest = f.rest;
  whole = f.whole;
  beyond = All-weaker (IsBeyond low high) (IsBeyond from upto) (λ e b. ⊎_elim (λ (l : e.actor < low). inl (omega arith)) (λ (u : high ≤ e.actor). inr (omega arith)) b) f.rest f.beyond;
}

-- what a list has beyond two ranges that meet is beyond both together
both_beyond : (low middle high : ℕ) (entry : Entry) → IsBeyond low middle entry → IsBeyond middle high entry → IsBeyond low high entry
both_beyond low middle high entry one two =
    ⊎_elim (λ (l : entry.actor < low). inl l) (λ (u : middle ≤ entry.actor). ⊎_elim (λ (l : entry.actor < middle). absurd (omega arith)) (λ (u' : high ≤ entry.actor). inr u') two) one

all_beyond : (low middle high : ℕ) (rest : List Entry) → All (IsBeyond low middle) rest → All (IsBeyond middle high) rest → All (IsBeyond low high) rest
all_beyond low middle high [] one two = All-nil (IsBeyond low high)
all_beyond low middle high (x ∷ rest) one two = All-cons (IsBeyond low high) x rest
    (both_beyond low middle high x (All-head (IsBeyond low middle) x rest one) (All-head (IsBeyond middle high) x rest two))
    (all_beyond low middle high rest (All-tail (IsBeyond low middle) x rest one) (All-tail (IsBeyond middle high) x rest two))

-- two lists that begin one history, and what the longer of them is to each and to the history
pub record Longer (low middle high : ℕ) (a b log both : List Entry) : Type 0 where
  pub first : OthersFollow low middle a both
  pub second : OthersFollow middle high b both
  pub whole : OthersFollow low high both log

-- where the second is no shorter
second_longer : (low middle high : ℕ) (a b log : List Entry) → OthersFollow low middle a log → OthersFollow middle high b log → length a ≤ length b → Longer low middle high a b log b
second_longer low middle high a b log f g h =
    let t = goes_on a f.rest b g.rest (sym f.whole ∙ g.whole) h in
    let apart : All (IsBeyond low middle) (t.0 ++ g.rest) = subst (All (IsBeyond low middle)) t.2 f.beyond in record {
      first = record { rest = t.0; whole = t.1; beyond = front_of (IsBeyond low middle) t.0 g.rest apart };
      second = followed_none middle high b b refl;
      whole = record { rest = g.rest; whole = g.whole; beyond = all_beyond low middle high g.rest (rest_of (IsBeyond low middle) t.0 g.rest apart) g.beyond };
    }

-- where the first is no shorter
first_longer : (low middle high : ℕ) (a b log : List Entry) → OthersFollow low middle a log → OthersFollow middle high b log → length b ≤ length a → Longer low middle high a b log a
first_longer low middle high a b log f g h =
    let t = goes_on b g.rest a f.rest (sym g.whole ∙ f.whole) h in
    let apart : All (IsBeyond middle high) (t.0 ++ f.rest) = subst (All (IsBeyond middle high)) t.2 g.beyond in record {
      first = followed_none low middle a a refl;
      second = record { rest = t.0; whole = t.1; beyond = front_of (IsBeyond middle high) t.0 f.rest apart };
      whole = record { rest = f.rest; whole = f.whole; beyond = all_beyond low middle high f.rest f.beyond (rest_of (IsBeyond middle high) t.0 f.rest apart) };
    }

pub longer_of : (low middle high : ℕ) (a b log : List Entry) → OthersFollow low middle a log → OthersFollow middle high b log → Longer low middle high a b log (longer_list a b)
longer_of low middle high a b log f g =
    let P : Bool → Type 0 = λ t. Longer low middle high a b log (if t then b else a) in
    ⊎_elim (λ (lt : length a < length b). subst P (sym (lt-ltb (length a) (length b) lt)) (second_longer low middle high a b log f g (omega arith)))
    (λ (ge : length b ≤ length a). subst P (sym (le-ltb (length a) (length b) ge)) (first_longer low middle high a b log f g ge)) (cases_lt (length a) (length b))

-- no entry is left that is by no actor
none_left : (actors : ℕ) (rest : List Entry) → All (IsBeyond 0 actors) rest → AllBelow actors rest → rest ≡ []
none_left actors [] one two = refl
none_left actors (x ∷ rest) one two =
    let small : x.actor < actors = All-head (λ e. e.actor < actors) x rest two in
    absurd (⊎_elim (λ (l : x.actor < 0). omega arith) (λ (u : actors ≤ x.actor). omega arith) (All-head (IsBeyond 0 actors) x rest one))

-- a list that others can't have gone on with is the whole history
pub whole_seen : (actors : ℕ) (seen log : List Entry) → OthersFollow 0 actors seen log → AllBelow actors log → log ≡ seen
whole_seen actors seen log f below =
    f.whole ∙ ap (λ l. seen ++ l) (none_left actors f.rest f.beyond (rest_of (λ e. e.actor < actors) seen f.rest (subst (AllBelow actors) f.whole below))) ∙ append-nil seen

-- where the length has changed, one entry came
pub adds_one : (low high : ℕ) (old new : List Entry) → AddsAtMostOne low high old new → (length new ≡ length old → ⊥) → AddsOne low high old new
adds_one low high old new adds other = ⊎_elim (λ (same : new ≡ old). absurd (other (ap length same))) (λ (a : AddsOne low high old new). a) adds
