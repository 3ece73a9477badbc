-- The own entries after an answer of a port.
use Rattle.std.proofs.Common.{◌≡◌, ℕ, ◌<◌, ◌≤◌, List, [], ◌∷◌, ◌++◌, All, sym, ap, ◌∙◌, append_assoc, append-nil}
use Rattle.std.proofs.lemmas.List.Elements.{All-nil, All-cons, All-append}
use Rattle.history.specs.declared.events.Entry.{Entry}
use Rattle.history.specs.Memory.{own}
use Rattle.chronicle.specs.Ports.{IsBeyond, OthersFollow, AddsEntry}
use Rattle.chronicle.proofs.Own.{own-append, own_none, own_all}

-- others add none
own_others : (low high : ℕ) (old rest : List Entry) → All (IsBeyond low high) rest → own (old ++ rest) low high ≡ own old low high
own_others low high old rest beyond =
    own-append old rest low high ∙ ap (λ l. own old low high ++ l) (own_none low high rest beyond) ∙ append-nil (own old low high)

pub own_followed : (low high : ℕ) (old new : List Entry) → OthersFollow low high old new → own new low high ≡ own old low high
own_followed low high old new f = ap (λ l. own l low high) f.whole ∙ own_others low high old f.rest f.beyond

-- the own entry comes last
pub own_added : (low high : ℕ) (old new : List Entry) (entry : Entry) → AddsEntry low high old new entry → low ≤ entry.actor → entry.actor < high → own new low high ≡ own old low high ++ entry ∷ []
own_added low high old new entry a from upto =
    let one : own (entry ∷ []) low high ≡ entry ∷ [] = own_all low high (entry ∷ []) (All-cons (λ e. (low ≤ e.actor) × (e.actor < high)) entry [] (from, upto) (All-nil (λ e. (low ≤ e.actor) × (e.actor < high)))) in
    ap (λ l. own l low high) a.whole
    ∙ own-append (old ++ a.between) (entry ∷ []) low high
    ∙ ap (λ l. l ++ own (entry ∷ []) low high) (own_others low high old a.between a.beyond)
    ∙ ap (λ l. own old low high ++ l) one

-- a call that made no entry, and one after it
pub followed_none : (low high : ℕ) (history : List Entry) → OthersFollow low high history history
followed_none low high history = record { rest = []; whole = sym (append-nil history); beyond = All-nil (IsBeyond low high) }

pub followed_join : (low high : ℕ) (first second third : List Entry) → OthersFollow low high first second → OthersFollow low high second third → OthersFollow low high first third
followed_join low high first second third a b = record {
  rest = a.rest ++ b.rest;
  whole = b.whole ∙ ap (λ l. l ++ b.rest) a.whole ∙ append_assoc first a.rest b.rest;
  beyond = All-append (IsBeyond low high) a.rest b.rest a.beyond b.beyond;
}

pub added_join : (low high : ℕ) (first second third : List Entry) (entry : Entry) → OthersFollow low high first second → AddsEntry low high second third entry → AddsEntry low high first third entry
added_join low high first second third entry a b = record {
  between = a.rest ++ b.between;
  whole = b.whole ∙ ap (λ l. l ++ b.between ++ entry ∷ []) a.whole ∙ ap (λ l. l ++ entry ∷ []) (append_assoc first a.rest b.between);
  beyond = All-append (IsBeyond low high) a.rest b.between a.beyond b.beyond;
}
