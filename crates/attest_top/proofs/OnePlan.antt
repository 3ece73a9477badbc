-- What is found over files and input that tell is one thing, and by the same names.
use Rattle.std.proofs.Common.{◌≡◌, ℕ, List, ◌++◌, Option, Some, Result, Ok, Err, refl, sym, ap, ◌∙◌}
use Rattle.att_base.specs.Files.{Contents}
use Rattle.command_plans.specs.Steps.{Reason, absent, failed, bad, no_memory, CommandStep, MayGive, given, spent, exactly, Follows, Then}
use Rattle.command_plans.specs.Reading.{file_bytes, MayRead, found, unread, spent, ReadFile, input_bytes, MayTake, ReadInput}
use Rattle.attest_top.specs.Found.{IsFound, HasOneResult}

pub lost : {A : Type 0} (reason : Reason) (came : Result A Reason) → came ≡ Err reason → IsFound came → IsFound {A = A} (Err reason)
lost reason came is sure = rw is at sure

-- ---- steps of which one thing comes

one_given : {A : Type 0} (known one other : Result A Reason) → MayGive known one → MayGive known other → IsFound one → IsFound other → one ≡ other
one_given known one other (given a) (given b) sure certain = a ∙ sym b
one_given known one other (spent a) b sure certain = absurd (lost no_memory one a sure)
one_given known one other (given a) (spent b) sure certain = absurd (lost no_memory other b certain)

pub one_exactly : {A : Type 0} (known : Result A Reason) → HasOneResult (exactly known)
one_exactly known asked names one other a b sure certain = (a.0 ∙ sym b.0, one_given known one other a.1 b.1 sure certain)

-- ---- reading

held_alike : (held : Contents) (name : List ℕ) (h : Option (List ℕ)) → ((known : Contents) → Some held ≡ Some known → known name ≡ h) → held name ≡ h
held_alike held name h told = told held refl

one_read : (limit : ℕ) (name : List ℕ) (held : Contents) (one other : Result (List ℕ) Reason) → MayRead limit name (Some held) one → MayRead limit name (Some held) other
    → IsFound one → IsFound other → one ≡ other
one_read limit name held one other (found h told a) (found k known b) sure certain =
    let same : h ≡ k = sym (held_alike held name h told) ∙ held_alike held name k known in
    a ∙ ap (file_bytes limit name) same ∙ sym b
one_read limit name held one other (unread a) b sure certain = absurd (lost failed one a sure)
one_read limit name held one other (spent a) b sure certain = absurd (lost no_memory one a sure)
one_read limit name held one other (found h told a) (unread b) sure certain = absurd (lost failed other b certain)
one_read limit name held one other (found h told a) (spent b) sure certain = absurd (lost no_memory other b certain)

pub one_file : (limit : ℕ) (name : List ℕ) (held : Contents) → HasOneResult (ReadFile limit name (Some held))
one_file limit name held asked names one other a b sure certain = (a.0 ∙ sym b.0, one_read limit name held one other a.1 b.1 sure certain)

one_taken : (limit : ℕ) (text : List ℕ) (one other : Result (List ℕ) Reason) → MayTake limit (Some text) one → MayTake limit (Some text) other
    → IsFound one → IsFound other → one ≡ other
one_taken limit text one other (found t told a) (found u known b) sure certain =
    let same : t ≡ u = sym (told text refl) ∙ known text refl in
    a ∙ ap (input_bytes limit) same ∙ sym b
one_taken limit text one other (unread a) b sure certain = absurd (lost failed one a sure)
one_taken limit text one other (spent a) b sure certain = absurd (lost no_memory one a sure)
one_taken limit text one other (found t told a) (unread b) sure certain = absurd (lost failed other b certain)
one_taken limit text one other (found t told a) (spent b) sure certain = absurd (lost no_memory other b certain)

pub one_input : (limit : ℕ) (text : List ℕ) → HasOneResult (ReadInput limit (Some text))
one_input limit text asked names one other a b sure certain = (a.0 ∙ sym b.0, one_taken limit text one other a.1 b.1 sure certain)

-- ---- one step, and then the next

pub found_before : {A B : Type 0} (next : A → CommandStep B) (between : Result A Reason) (asked : List (List ℕ)) (came : Result B Reason) → Follows between next asked came → IsFound came → IsFound between
found_before next (Ok a) asked came follows sure = tt
found_before next (Err absent) asked came follows sure = tt
found_before next (Err failed) asked came follows sure = lost failed came follows.1 sure
found_before next (Err (bad line)) asked came follows sure = tt
found_before next (Err no_memory) asked came follows sure = lost no_memory came follows.1 sure

one_behind : {A B : Type 0} (next : A → CommandStep B) → ((a : A) → HasOneResult (next a)) → (between : Result A Reason) (asked names : List (List ℕ)) (one other : Result B Reason)
    → Follows between next asked one → Follows between next names other → IsFound one → IsFound other → (asked ≡ names) × (one ≡ other)
one_behind next ones (Ok a) asked names one other x y sure certain = ones a asked names one other x y sure certain
one_behind next ones (Err reason) asked names one other x y sure certain = (x.0 ∙ sym y.0, x.1 ∙ sym y.1)

pub one_then : {A B : Type 0} (first : CommandStep A) (next : A → CommandStep B) → HasOneResult first → ((a : A) → HasOneResult (next a)) → HasOneResult (Then first next)
one_then {A} {B} first next ones after asked names one other a b sure certain =
    let early = ones a.before b.before a.between b.between a.is b.is (found_before next a.between a.behind one a.follows sure) (found_before next b.between b.behind other b.follows certain) in
    let y : Follows a.between next b.behind other = rw (← early.1) at b.follows in
    let late = one_behind next after a.between a.behind b.behind one other a.follows y sure certain in
    (a.all ∙ ap (λ (l : List (List ℕ)). l ++ a.behind) early.0 ∙ ap (λ (l : List (List ℕ)). b.before ++ l) late.0 ∙ sym b.all, late.1)

-- the same, where the next step is known to follow upon what came
behind_known : {A B : Type 0} (first : CommandStep A) (next : A → CommandStep B) → ((a : A) (asked : List (List ℕ)) → first asked (Ok a) → HasOneResult (next a))
    → (between : Result A Reason) (before asked names : List (List ℕ)) (one other : Result B Reason) → first before between
    → Follows between next asked one → Follows between next names other → IsFound one → IsFound other → (asked ≡ names) × (one ≡ other)
behind_known first next ones (Ok a) before asked names one other is x y sure certain = ones a before is asked names one other x y sure certain
behind_known first next ones (Err reason) before asked names one other is x y sure certain = (x.0 ∙ sym y.0, x.1 ∙ sym y.1)

pub one_then_of : {A B : Type 0} (first : CommandStep A) (next : A → CommandStep B) → HasOneResult first → ((a : A) (asked : List (List ℕ)) → first asked (Ok a) → HasOneResult (next a)) → HasOneResult (Then first next)
one_then_of {A} {B} first next ones after asked names one other a b sure certain =
    let early = ones a.before b.before a.between b.between a.is b.is (found_before next a.between a.behind one a.follows sure) (found_before next b.between b.behind other b.follows certain) in
    let y : Follows a.between next b.behind other = rw (← early.1) at b.follows in
    let late = behind_known first next after a.between a.before a.behind b.behind one other a.is a.follows y sure certain in
    (a.all ∙ ap (λ (l : List (List ℕ)). l ++ a.behind) early.0 ∙ ap (λ (l : List (List ℕ)). b.before ++ l) late.0 ∙ sym b.all, late.1)
