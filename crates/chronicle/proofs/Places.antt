-- A history in its own order, and the entries before a place, the newest first.
use Rattle.std.proofs.Common.{◌≡◌, ℕ, ◌+◌, ◌≤◌, List, [], ◌∷◌, ◌++◌, length, take, drop, reverse, refl, sym, ap, ◌∙◌, subst, arith, length-append, length-take-le, take_all, Some}
use Rattle.std.proofs.lemmas.List.{reverse-append, length-reverse, take-append-drop, take-append-le, take-take, take_more, drop_at}
use Rattle.std.proofs.lemmas.Option.{slice_get_within, get_or_from_slice_get}
use Rattle.std.specs.List.{slice_get}
use Rattle.history.specs.declared.events.Entry.{Entry}
use Rattle.history.specs.Layout.{Setting}
use Rattle.history.specs.Memory.{back}
use Rattle.history.specs.Legal.{MayFollow, IsLegalBack, IsLegal}

-- the older entries of a legal history are legal
pub legal_rest : (w : Setting) (newer older : List Entry) → IsLegalBack w (newer ++ older) → IsLegalBack w older
legal_rest w [] older h = h
legal_rest w (entry ∷ newer) older h = legal_rest w newer older h.0

-- a history is what comes after a place, and what comes before it
pub reverse_split : (history : List Entry) (place : ℕ) → reverse (drop place history) ++ back history place ≡ reverse history
reverse_split history place = sym (reverse-append (take place history) (drop place history)) ∙ ap reverse (take-append-drop place history)

-- the entries before a place of a legal history are legal
pub legal_back : (w : Setting) (history : List Entry) → IsLegal w history → (place : ℕ) → IsLegalBack w (back history place)
legal_back w history legal place = legal_rest w (reverse (drop place history)) (back history place) (subst (λ l. IsLegalBack w l) (sym (reverse_split history place)) legal)

-- the number of entries before a place
pub length_back : (history : List Entry) (place : ℕ) → place ≤ length history → length (back history place) ≡ place
length_back history place within = length-reverse (take place history) ∙ length-take-le place history within

-- the entries before a place end with those before an earlier one
pub back_split : (history : List Entry) (place later : ℕ) → place ≤ later → reverse (drop place (take later history)) ++ back history place ≡ back history later
back_split history place later order =
    ap (λ l. reverse (drop place (take later history)) ++ reverse l) (sym (take-take place later history order)) ∙ reverse_split (take later history) place

-- older entries before a place are those before their number
pub back_older : (history : List Entry) (later : ℕ) → later ≤ length history → (newer older : List Entry) → newer ++ older ≡ back history later → older ≡ back history (length older)
back_older history later within newer older whole =
    let place = length older in
    let count : length newer + place ≡ later = sym (length-append newer older) ∙ ap length whole ∙ length_back history later within in
    let order : place ≤ later = omega arith in
    let other = reverse (drop place (take later history)) in
    let both : other ++ back history place ≡ newer ++ older = back_split history place later order ∙ sym whole in
    let rest : place ≤ length history = omega arith in
    let counts : length other + length (back history place) ≡ length newer + length older = sym (length-append other (back history place)) ∙ ap length both ∙ length-append newer older in
    let same : length other ≡ length newer = omega (arith, length_back history place rest) in
    sym (drop_at newer older (length newer) refl) ∙ ap (λ l. drop (length newer) l) (sym both) ∙ drop_at other (back history place) (length newer) same

-- all of a history, the newest first
pub back_all : (history : List Entry) → back history (length history) ≡ reverse history
back_all history = ap reverse (take_all (length history) history (omega arith))

-- later entries change nothing before a place
pub back-append : (history more : List Entry) (place : ℕ) → place ≤ length history → back (history ++ more) place ≡ back history place
back-append history more place within = ap reverse (take-append-le place history more within)

-- one entry more, the newest first
pub reverse_more : (history : List Entry) (entry : Entry) → reverse (history ++ entry ∷ []) ≡ entry ∷ reverse history
reverse_more history entry = reverse-append history (entry ∷ [])

-- the entry that stands at a place is the newest at the next
pub back_more : (history : List Entry) (place : ℕ) (entry : Entry) → slice_get history place ≡ Some entry → back history (place + 1) ≡ entry ∷ back history place
back_more history place entry is =
    let within = slice_get_within history place entry is in
    let at = get_or_from_slice_get history place entry entry is in
    ap reverse (take_more history place entry within ∙ ap (λ e. take place history ++ e ∷ []) at) ∙ reverse_more (take place history) entry

-- a legal history with one entry more that may follow is legal
pub legal_more : (w : Setting) (history : List Entry) (entry : Entry) → IsLegal w history → MayFollow w (reverse history) entry → IsLegal w (history ++ entry ∷ [])
legal_more w history entry legal may =
    let both : IsLegalBack w (entry ∷ reverse history) = (legal, may) in
    subst (λ l. IsLegalBack w l) (sym (reverse_more history entry)) both

-- and of a legal history the last entry may follow the others
pub legal_less : (w : Setting) (history : List Entry) (entry : Entry) → IsLegal w (history ++ entry ∷ []) → IsLegal w history × MayFollow w (reverse history) entry
legal_less w history entry legal =
    let both : IsLegalBack w (entry ∷ reverse history) = subst (λ l. IsLegalBack w l) (reverse_more history entry) legal in
    (both.0, both.1)
