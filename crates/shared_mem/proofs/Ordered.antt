-- What was in order stays in order where others' entries are found first.
use Rattle.std.proofs.Common.{◌≡◌, ℕ, ◌+◌, true, false, not, List, [], ◌++◌, reverse, All, Option, Some, None, refl, sym, ap, ◌∙◌, subst, arith, ⊎_elim}
use Rattle.std.specs.Prelude.{◌&&◌, ◌==◌, IsTrue, nat_le}
use Rattle.std.proofs.lemmas.Bool.{and_parts, or_cases, cases_Bool, eqb-true, false≢true}
use Rattle.history.specs.declared.events.Act.{Act}
use Rattle.history.specs.declared.events.Act.TheVariants.{Fetch, Load, Store, Start, Copy, End, Tick, Release}
use Rattle.history.specs.declared.events.Entry.{Entry}
use Rattle.history.specs.Layout.{Setting}
use Rattle.history.specs.Memory.{own}
use Rattle.history.specs.Pass.{Pass, pass_after}
use Rattle.history.specs.Legal.{IsLegal, is_access, actor_fits, in_order}
use Rattle.chronicle.specs.Ports.{IsBeyond, OthersFollow, entry_by}
use Rattle.mem_core.specs.Cores.{Core}

-- an access is in order after any pass
access_in_order : (w : Setting) (pass : Option Pass) (act : Act) → is_access act ≡ true → in_order w pass act ≡ true
access_in_order w None (Fetch addr value) is = refl
access_in_order w None (Load addr width value) is = refl
access_in_order w None (Store addr width value) is = refl
access_in_order w None (Start discipline counter) is = absurd (false≢true is)
access_in_order w None (Copy block) is = absurd (false≢true is)
access_in_order w None End is = absurd (false≢true is)
access_in_order w None Tick is = absurd (false≢true is)
access_in_order w None Release is = absurd (false≢true is)
access_in_order w (Some pass) (Fetch addr value) is = refl
access_in_order w (Some pass) (Load addr width value) is = refl
access_in_order w (Some pass) (Store addr width value) is = refl
access_in_order w (Some pass) (Start discipline counter) is = absurd (false≢true is)
access_in_order w (Some pass) (Copy block) is = absurd (false≢true is)
access_in_order w (Some pass) End is = absurd (false≢true is)
access_in_order w (Some pass) Tick is = absurd (false≢true is)
access_in_order w (Some pass) Release is = absurd (false≢true is)

-- whoever makes a step is the measurer
measurer_of : (low : ℕ) (act : Act) → IsTrue (actor_fits (entry_by low act)) → is_access act ≡ false → low ≡ 0
measurer_of low act fits step =
    ⊎_elim (λ (one : (is_access act && nat_le 1 low && nat_le low 8) ≡ true). absurd (false≢true (sym step ∙ (and_parts (is_access act) (nat_le 1 low) (and_parts (is_access act && nat_le 1 low) (nat_le low 8) one).0).0)))
    (λ (two : (not (is_access act) && (low == 0)) ≡ true). eqb-true low 0 (and_parts (not (is_access act)) (low == 0) two).1)
    (or_cases (is_access act && nat_le 1 low && nat_le low 8) (not (is_access act) && (low == 0)) fits)

-- Between two calls of one actor only others make entries. The last two premises are laws of histories.
order_found : (w : Setting) (low high : ℕ) (seen found : List Entry) (act : Act) → OthersFollow low high seen found → high ≡ low + 1 → IsLegal w found → IsTrue (actor_fits (entry_by low act)) → IsTrue (in_order w (pass_after (reverse seen)) act)
    → ((low high : ℕ) (others : List Entry) → All (IsBeyond low high) others → own others low high ≡ [])
    → ((w : Setting) (history others : List Entry) → IsLegal w (history ++ others) → own others 0 1 ≡ [] → (act : Act) → in_order w (pass_after (reverse (history ++ others))) act ≡ in_order w (pass_after (reverse history)) act)
    → IsTrue (in_order w (pass_after (reverse found)) act)
order_found w low high seen found act others one legal fits order none keeps =
    ⊎_elim (λ (access : is_access act ≡ true). access_in_order w (pass_after (reverse found)) act access)
    (λ (step : is_access act ≡ false).
    let zero : low ≡ 0 = measurer_of low act fits step in
    let past : high ≡ 1 = omega arith in
    let beyond : All (IsBeyond 0 1) others.rest = subst (λ (x : ℕ × ℕ). All (IsBeyond x.0 x.1) others.rest) (λ i. (zero i, past i)) others.beyond in
    let same = keeps w seen others.rest (subst (IsLegal w) others.whole legal) (none 0 1 others.rest beyond) act in
    ap (λ (l : List Entry). in_order w (pass_after (reverse l)) act) others.whole ∙ same ∙ order) (cases_Bool (is_access act))

-- The same of the core in a turn, as it was entered, shown and lent.
pub order_in_turn : (w : Setting) (core shown lent : Core) (low high : ℕ) (seen : List Entry) (act : Act) → core.world ≡ w → shown ≡ core → lent ≡ core → IsLegal shown.world shown.history → OthersFollow low high seen core.history → high ≡ low + 1
    → IsTrue (actor_fits (entry_by low act)) → IsTrue (in_order w (pass_after (reverse seen)) act)
    → ((low high : ℕ) (others : List Entry) → All (IsBeyond low high) others → own others low high ≡ [])
    → ((w : Setting) (history others : List Entry) → IsLegal w (history ++ others) → own others 0 1 ≡ [] → (act : Act) → in_order w (pass_after (reverse (history ++ others))) act ≡ in_order w (pass_after (reverse history)) act)
    → IsTrue (in_order lent.world (pass_after (reverse lent.history)) act)
order_in_turn w core shown lent low high seen act same_world is_shown is_lent legal others one fits order none keeps =
    let here : IsLegal w core.history = subst (λ (x : Setting). IsLegal x core.history) same_world (subst (λ (x : Core). IsLegal x.world x.history) is_shown legal) in
    let there : IsTrue (in_order w (pass_after (reverse core.history)) act) = order_found w low high seen core.history act others one here fits order none keeps in
    subst (λ (x : Core). IsTrue (in_order x.world (pass_after (reverse x.history)) act)) (sym is_lent)
    (subst (λ (x : Setting). IsTrue (in_order x (pass_after (reverse core.history)) act)) (sym same_world) there)
