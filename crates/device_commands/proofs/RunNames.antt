-- The files that a run writes have different names, as the plan's have.
use Rattle.std.proofs.Common.{◌≡◌, ℕ, Bool, true, false, not, List, [], ◌∷◌, ◌++◌, Option, Some, None, Result, Ok, Err, refl, sym, ap, ◌∙◌, subst, inl, inr}
use Rattle.std.specs.Prelude.{◌&&◌, ◌||◌, bytes_eq, codes}
use Rattle.std.proofs.lemmas.Bool.{and_parts, or_cases, false≢true, not-true}
use Rattle.std.proofs.lemmas.List.{map-append}
use Rattle.std.proofs.lemmas.List.Folds.{list_any-append}
use Rattle.std.proofs.lemmas.Slice.Eq.{bytes_eq-Decides}
use Rattle.att_base.specs.Files.{NamedBytes}
use Rattle.toml.specs.Data.{Members}
use Rattle.sequencing.specs.Options.{when}
use Rattle.config_rules.specs.declared.common.Common.{Common}
use Rattle.config_rules.specs.Rules.{and_then, common, rule}
use Rattle.config_rules.specs.Values.{document, name_at, number_at}
use Rattle.device_config.specs.Arrays.{apps_at, challenges_at, images_at}
use Rattle.device_config.specs.Files.{device_file, device_plan, device_rules}
use Rattle.device_config.specs.declared.plans.AppPlan.{AppPlan}
use Rattle.device_config.specs.declared.plans.ChallengePlan.{ChallengePlan}
use Rattle.device_config.specs.declared.plans.DevicePlan.{DevicePlan}
use Rattle.device_config.specs.Names.{is_among, all_different, consoles, reports, notes, output_names}
use Rattle.device.specs.declared.outcomes.AppEnd.{AppEnd}
use Rattle.device.specs.declared.outcomes.Outcome.{Outcome}
use Rattle.device_commands.specs.declared.ends.ChallengeEnd.{ChallengeEnd}
use Rattle.device_commands.specs.declared.ends.ChallengeEnd.TheVariants.{Malformed, BadMac, Stale, Stopped, Reported}
use Rattle.device_commands.specs.declared.ends.ReleaseEnd.TheVariants as release
use Rattle.device_commands.specs.RunWritten.{answer_files, console_files, files_of_end, names_of, run_files}

-- ---- lists of names

-- no name of these is among those
abbrev Apart : List (List ℕ) → List (List ℕ) → Type 0
Apart xs ys = (name : List ℕ) → is_among xs name ≡ true → is_among ys name ≡ false

-- each name of these is among those
abbrev Within : List (List ℕ) → List (List ℕ) → Type 0
Within xs ys = (name : List ℕ) → is_among xs name ≡ true → is_among ys name ≡ true

is_itself : (name : List ℕ) → bytes_eq name name ≡ true
is_itself name = (bytes_eq-Decides name name).1 refl

is_same : (a b : List ℕ) → bytes_eq a b ≡ true → a ≡ b
is_same a b is = (bytes_eq-Decides a b).0 is

or_first : (a b : Bool) → a ≡ true → (a || b) ≡ true
or_first true b is = refl
or_first false b is = absurd (false≢true is)

or_second : (a b : Bool) → b ≡ true → (a || b) ≡ true
or_second true b is = refl
or_second false b is = is

pub neither : (a b : Bool) → (a || b) ≡ false → (a ≡ false) × (b ≡ false)
neither true b is = absurd (false≢true (sym is))
neither false b is = (refl, is)

both_true : (a b : Bool) → a ≡ false → b ≡ true → (not a && b) ≡ true
both_true true b never is = absurd (false≢true (sym never))
both_true false b never is = is

-- what isn't true is false
absent : (b : Bool) → (b ≡ true → ⊥) → b ≡ false
absent true never = absurd (never refl)
absent false never = refl

among_both : (xs ys : List (List ℕ)) (name : List ℕ) → is_among (xs ++ ys) name ≡ (is_among xs name || is_among ys name)
among_both xs ys name = list_any-append (λ (other : List ℕ). bytes_eq other name) xs ys

among_first : (xs ys : List (List ℕ)) → Within xs (xs ++ ys)
among_first xs ys name is = among_both xs ys name ∙ or_first (is_among xs name) (is_among ys name) is

among_second : (xs ys : List (List ℕ)) → Within ys (xs ++ ys)
among_second xs ys name is = among_both xs ys name ∙ or_second (is_among xs name) (is_among ys name) is

-- a list of different names in two parts
pub parts_differ : (xs ys : List (List ℕ)) → all_different (xs ++ ys) ≡ true → (all_different xs ≡ true) × (all_different ys ≡ true) × Apart xs ys
parts_differ [] ys differ = (refl, differ, λ name is. absurd (false≢true is))
parts_differ (x ∷ xs) ys differ =
    let both = and_parts (not (is_among (xs ++ ys) x)) (all_different (xs ++ ys)) differ in
    let more = parts_differ xs ys both.1 in
    let out : (is_among xs x ≡ false) × (is_among ys x ≡ false) = neither (is_among xs x) (is_among ys x) (sym (among_both xs ys x) ∙ not-true (is_among (xs ++ ys) x) both.0) in (
      both_true (is_among xs x) (all_different xs) out.0 more.0,
      more.1,
      λ name is. elim (or_cases (bytes_eq x name) (is_among xs name) is) [
        | inl here ↦ subst (λ (n : List ℕ). is_among ys n ≡ false) (is_same x name here) out.1
        | inr there ↦ more.2 name there
      ],
    )

-- two such parts
pub joined_differ : (xs ys : List (List ℕ)) → all_different xs ≡ true → all_different ys ≡ true → Apart xs ys → all_different (xs ++ ys) ≡ true
joined_differ [] ys first second apart = second
joined_differ (x ∷ xs) ys first second apart =
    let both = and_parts (not (is_among xs x)) (all_different xs) first in
    let here : is_among ys x ≡ false = apart x (or_first (bytes_eq x x) (is_among xs x) (is_itself x)) in
    let behind = joined_differ xs ys both.1 second (λ name is. apart name (or_second (bytes_eq x name) (is_among xs name) is)) in
    let out : is_among (xs ++ ys) x ≡ false =
    absent (is_among (xs ++ ys) x) (λ there. elim (or_cases (is_among xs x) (is_among ys x) (sym (among_both xs ys x) ∙ there)) [
      | inl in_first ↦ false≢true (sym (not-true (is_among xs x) both.0) ∙ in_first)
      | inr in_second ↦ false≢true (sym here ∙ in_second)
    ]) in
    both_true (is_among (xs ++ ys) x) (all_different (xs ++ ys)) out behind

-- parts of lists that have no name in common
apart_within : (xs ys us vs : List (List ℕ)) → Within xs us → Within ys vs → Apart us vs → Apart xs ys
apart_within xs ys us vs one other apart name is = absent (is_among ys name) (λ there. false≢true (sym (apart name (one name is)) ∙ other name there))

-- ---- the consoles

console_names : (plans : List AppPlan) (apps : List AppEnd) → Within (names_of (console_files plans apps)) (consoles plans)
console_names [] apps name is = absurd (false≢true is)
console_names (plan ∷ plans) [] name is = absurd (false≢true is)
console_names (plan ∷ plans) (app ∷ apps) name is = elim (or_cases (bytes_eq plan.console name) (is_among (names_of (console_files plans apps)) name) is) [
  | inl here ↦ or_first (bytes_eq plan.console name) (is_among (consoles plans) name) here
  | inr there ↦ or_second (bytes_eq plan.console name) (is_among (consoles plans) name) (console_names plans apps name there)
]

consoles_differ : (plans : List AppPlan) (apps : List AppEnd) → all_different (consoles plans) ≡ true → all_different (names_of (console_files plans apps)) ≡ true
consoles_differ [] apps differ = refl
consoles_differ (plan ∷ plans) [] differ = refl
consoles_differ (plan ∷ plans) (app ∷ apps) differ =
    let both = and_parts (not (is_among (consoles plans) plan.console)) (all_different (consoles plans)) differ in
    let out : is_among (names_of (console_files plans apps)) plan.console ≡ false =
    absent (is_among (names_of (console_files plans apps)) plan.console) (λ there. false≢true (sym (not-true (is_among (consoles plans) plan.console) both.0) ∙ console_names plans apps plan.console there)) in
    both_true (is_among (names_of (console_files plans apps)) plan.console) (all_different (names_of (console_files plans apps))) out (consoles_differ plans apps both.1)

-- ---- reports and notes

end_names : (plan : ChallengePlan) (end : ChallengeEnd) → Within (names_of (files_of_end plan end)) (plan.report ∷ plan.note ∷ [])
unfolding files_of_end
end_names plan Malformed name is = absurd (false≢true is)
end_names plan BadMac name is = absurd (false≢true is)
end_names plan (Stale last) name is = absurd (false≢true is)
end_names plan Stopped name is = absurd (false≢true is)
end_names plan (Reported report verdict (release.Noted note)) name is = is
end_names plan (Reported report verdict release.Stopped) name is = among_first (plan.report ∷ []) (plan.note ∷ []) name is
end_names plan (Reported report verdict release.NotHeld) name is = among_first (plan.report ∷ []) (plan.note ∷ []) name is

end_differs : (plan : ChallengePlan) (end : ChallengeEnd) → all_different (plan.report ∷ plan.note ∷ []) ≡ true → all_different (names_of (files_of_end plan end)) ≡ true
unfolding files_of_end
end_differs plan Malformed differ = refl
end_differs plan BadMac differ = refl
end_differs plan (Stale last) differ = refl
end_differs plan Stopped differ = refl
end_differs plan (Reported report verdict (release.Noted note)) differ = differ
end_differs plan (Reported report verdict release.Stopped) differ = refl
end_differs plan (Reported report verdict release.NotHeld) differ = refl

-- the first challenge's two names and those of the others
pub record FirstApart (plan : ChallengePlan) (plans : List ChallengePlan) : Type 0 where
  pub pair : all_different (plan.report ∷ plan.note ∷ []) ≡ true
  pub others : all_different (reports plans ++ notes plans) ≡ true
  pub apart : Apart (plan.report ∷ plan.note ∷ []) (reports plans ++ notes plans)

first_apart : (plan : ChallengePlan) (plans : List ChallengePlan) → all_different (reports (plan ∷ plans) ++ notes (plan ∷ plans)) ≡ true → FirstApart plan plans
first_apart plan plans differ =
    let rs = reports plans in
    let ns = notes plans in
    let both = and_parts (not (is_among (rs ++ plan.note ∷ ns) plan.report)) (all_different (rs ++ plan.note ∷ ns)) differ in
    let split = parts_differ rs (plan.note ∷ ns) both.1 in
    let second = and_parts (not (is_among ns plan.note)) (all_different ns) split.1 in
    let out : (is_among rs plan.report ≡ false) × ((bytes_eq plan.note plan.report || is_among ns plan.report) ≡ false) =
    neither (is_among rs plan.report) (is_among (plan.note ∷ ns) plan.report) (sym (among_both rs (plan.note ∷ ns) plan.report) ∙ not-true (is_among (rs ++ plan.note ∷ ns) plan.report) both.0) in
    let beside = neither (bytes_eq plan.note plan.report) (is_among ns plan.report) out.1 in
    let note_out : is_among rs plan.note ≡ false =
    absent (is_among rs plan.note) (λ there. false≢true (sym (split.2 plan.note there) ∙ or_first (bytes_eq plan.note plan.note) (is_among ns plan.note) (is_itself plan.note))) in
    let joined = joined_differ rs ns split.0 second.1 (λ name is. (neither (bytes_eq plan.note name) (is_among ns name) (split.2 name is)).1) in
    record {
      pair = both_true (bytes_eq plan.note plan.report || false) (all_different (plan.note ∷ [])) (ap (λ (b : Bool). b || false) beside.0) refl;
      others = joined;
      apart = λ name is. absent (is_among (rs ++ ns) name) (λ there. elim (or_cases (bytes_eq plan.report name) (bytes_eq plan.note name || false) is) [
        | inl is_report ↦ elim (or_cases (is_among rs name) (is_among ns name) (sym (among_both rs ns name) ∙ there)) [
          | inl a ↦ false≢true (sym out.0 ∙ subst (λ (n : List ℕ). is_among rs n ≡ true) (sym (is_same plan.report name is_report)) a)
          | inr b ↦ false≢true (sym beside.1 ∙ subst (λ (n : List ℕ). is_among ns n ≡ true) (sym (is_same plan.report name is_report)) b)
        ]
        | inr is_note ↦ elim (or_cases (bytes_eq plan.note name) false is_note) [
          | inl same ↦ elim (or_cases (is_among rs name) (is_among ns name) (sym (among_both rs ns name) ∙ there)) [
            | inl a ↦ false≢true (sym note_out ∙ subst (λ (n : List ℕ). is_among rs n ≡ true) (sym (is_same plan.note name same)) a)
            | inr b ↦ false≢true (sym (not-true (is_among ns plan.note) second.0) ∙ subst (λ (n : List ℕ). is_among ns n ≡ true) (sym (is_same plan.note name same)) b)
          ]
          | inr never ↦ false≢true never
        ]
      ]);
    }

-- the names of one challenge, and those of the others
pub record AnswersApart (plans : List ChallengePlan) (ends : List ChallengeEnd) : Type 0 where
  pub differ : all_different (names_of (answer_files plans ends)) ≡ true
  pub within : Within (names_of (answer_files plans ends)) (reports plans ++ notes plans)

answers_apart : (plans : List ChallengePlan) (ends : List ChallengeEnd) → all_different (reports plans ++ notes plans) ≡ true → AnswersApart plans ends
answers_apart [] ends differ = record { differ = refl; within = λ name is. absurd (false≢true is) }
answers_apart (plan ∷ plans) [] differ = record { differ = refl; within = λ name is. absurd (false≢true is) }
answers_apart (plan ∷ plans) (end ∷ ends) differ =
    let first = first_apart plan plans differ in
    let more = answers_apart plans ends first.others in
    let here = names_of (files_of_end plan end) in
    let there = names_of (answer_files plans ends) in
    let split : names_of (files_of_end plan end ++ answer_files plans ends) ≡ here ++ there = map-append (λ (file : NamedBytes). file.name) (files_of_end plan end) (answer_files plans ends) in
    let apart = apart_within here there (plan.report ∷ plan.note ∷ []) (reports plans ++ notes plans) (end_names plan end) more.within first.apart in
    record {
      differ = subst (λ (l : List (List ℕ)). all_different l ≡ true) (sym split) (joined_differ here there (end_differs plan end first.pair) more.differ apart);
      within = λ name is. elim (or_cases (is_among here name) (is_among there name) (sym (among_both here there name) ∙ subst (λ (l : List (List ℕ)). is_among l name ≡ true) split is)) [
        | inl a ↦ pair_within plan plans name (end_names plan end name a)
        | inr b ↦ others_within plan plans name (more.within name b)
      ];
    }
  where
    pair_within : (plan : ChallengePlan) (plans : List ChallengePlan) → Within (plan.report ∷ plan.note ∷ []) (reports (plan ∷ plans) ++ notes (plan ∷ plans))
    pair_within plan plans name is = elim (or_cases (bytes_eq plan.report name) (bytes_eq plan.note name || false) is) [
      | inl a ↦ or_first (bytes_eq plan.report name) (is_among (reports plans ++ plan.note ∷ notes plans) name) a
      | inr b ↦ or_second (bytes_eq plan.report name) (is_among (reports plans ++ plan.note ∷ notes plans) name) (elim (or_cases (bytes_eq plan.note name) false b) [
        | inl same ↦ among_second (reports plans) (plan.note ∷ notes plans) name (or_first (bytes_eq plan.note name) (is_among (notes plans) name) same)
        | inr never ↦ absurd (false≢true never)
      ])
    ]

    others_within : (plan : ChallengePlan) (plans : List ChallengePlan) → Within (reports plans ++ notes plans) (reports (plan ∷ plans) ++ notes (plan ∷ plans))
    others_within plan plans name is = or_second (bytes_eq plan.report name) (is_among (reports plans ++ plan.note ∷ notes plans) name) (elim (or_cases (is_among (reports plans) name) (is_among (notes plans) name) (sym (among_both (reports plans) (notes plans) name) ∙ is)) [
      | inl a ↦ among_first (reports plans) (plan.note ∷ notes plans) name a
      | inr b ↦ among_second (reports plans) (plan.note ∷ notes plans) name (or_second (bytes_eq plan.note name) (is_among (notes plans) name) b)
    ])

-- ---- all of them

names_differ : (plan : DevicePlan) → all_different (output_names plan.trace plan.apps plan.challenges) ≡ true → (ends : List ChallengeEnd) (outcome : Outcome) → all_different (names_of (run_files plan ends outcome)) ≡ true
unfolding run_files output_names
names_differ plan outputs ends outcome =
    let cs = consoles plan.apps in
    let rest = reports plan.challenges ++ notes plan.challenges in
    let both = and_parts (not (is_among (cs ++ rest) plan.trace)) (all_different (cs ++ rest)) outputs in
    let split = parts_differ cs rest both.1 in
    let answers = answers_apart plan.challenges ends split.1 in
    let here = names_of (console_files plan.apps outcome.apps) in
    let there = names_of (answer_files plan.challenges ends) in
    let joined = joined_differ here there (consoles_differ plan.apps outcome.apps split.0) answers.differ
    (apart_within here there cs rest (console_names plan.apps outcome.apps) answers.within split.2) in
    let out : is_among (here ++ there) plan.trace ≡ false =
    absent (is_among (here ++ there) plan.trace) (λ inside. false≢true (sym (not-true (is_among (cs ++ rest) plan.trace) both.0)
    ∙ elim (or_cases (is_among here plan.trace) (is_among there plan.trace) (sym (among_both here there plan.trace) ∙ inside)) [
      | inl a ↦ among_first cs rest plan.trace (console_names plan.apps outcome.apps plan.trace a)
      | inr b ↦ among_second cs rest plan.trace (answers.within plan.trace b)
    ])) in
    let whole : names_of (console_files plan.apps outcome.apps ++ answer_files plan.challenges ends) ≡ here ++ there =
    map-append (λ (file : NamedBytes). file.name) (console_files plan.apps outcome.apps) (answer_files plan.challenges ends) in
    subst (λ (l : List (List ℕ)). all_different (plan.trace ∷ l) ≡ true) (sym whole) (both_true (is_among (here ++ there) plan.trace) (all_different (here ++ there)) out joined)

-- ---- names that a device file gives

rule_found : {A B : Type 0} (number : ℕ) (found : Option A) (next : A → Result B ℕ) (b : B) → rule number found next ≡ Ok b → (a : A) × (found ≡ Some a) × (next a ≡ Ok b)
rule_found number None next b is = absurd cc
rule_found number (Some a) next b is = (a, refl, is)

rules_passed : {A B : Type 0} (first : Result A ℕ) (next : A → Result B ℕ) (b : B) → and_then first next ≡ Ok b → (a : A) × (first ≡ Ok a) × (next a ≡ Ok b)
rules_passed (Ok a) next b is = (a, refl, is)
rules_passed (Err number) next b is = absurd cc

found_by_test : {A : Type 0} (test : Bool) (value a : A) → when test value ≡ Some a → (test ≡ true) × (value ≡ a)
found_by_test true value a is = (refl, cc)
found_by_test false value a is = absurd cc

abbrev plan_said : DevicePlan → Result DevicePlan ℕ
plan_said plan = Ok plan

same_plan : (plan other : DevicePlan) → plan_said plan ≡ plan_said other → plan ≡ other
same_plan plan other is = cc

found_differs : (found last plan : DevicePlan) → found ≡ last → plan_said last ≡ plan_said plan → all_different (output_names found.trace found.apps found.challenges) ≡ true
    → all_different (output_names plan.trace plan.apps plan.challenges) ≡ true
found_differs found last plan one other is = subst (λ (p : DevicePlan). all_different (output_names p.trace p.apps p.challenges) ≡ true) (one ∙ same_plan last plan other) is

-- what is left of a device file's rules behind each of them
abbrev behind_challenges : Common → ℕ → List ℕ → List (List ℕ) → List AppPlan → List ChallengePlan → Result DevicePlan ℕ
behind_challenges shared cap trace images apps challenges =
    rule 14 (when (all_different (output_names trace apps challenges)) (device_plan shared cap trace images apps challenges)) plan_said

abbrev behind_apps : Common → Members → ℕ → List ℕ → List (List ℕ) → List AppPlan → Result DevicePlan ℕ
behind_apps shared keys cap trace images apps = rule 13 (challenges_at keys) (behind_challenges shared cap trace images apps)

abbrev behind_images : Common → Members → ℕ → List ℕ → List (List ℕ) → Result DevicePlan ℕ
behind_images shared keys cap trace images = rule 12 (apps_at keys) (behind_apps shared keys cap trace images)

abbrev behind_trace : Common → Members → ℕ → List ℕ → Result DevicePlan ℕ
behind_trace shared keys cap trace = rule 11 (images_at keys) (behind_images shared keys cap trace)

abbrev behind_cap : Common → Members → ℕ → Result DevicePlan ℕ
behind_cap shared keys cap = rule 10 (name_at (codes "trace") keys) (behind_trace shared keys cap)

rules_differ : (shared : Common) (keys : Members) (plan : DevicePlan) → device_rules shared keys ≡ Ok plan → all_different (output_names plan.trace plan.apps plan.challenges) ≡ true
unfolding device_rules
rules_differ shared keys plan is =
    let cap = rule_found 9 (number_at (codes "cap") keys 16 4000000) (behind_cap shared keys) plan is in
    let trace = rule_found 10 (name_at (codes "trace") keys) (behind_trace shared keys cap.0) plan cap.2 in
    let images = rule_found 11 (images_at keys) (behind_images shared keys cap.0 trace.0) plan trace.2 in
    let apps = rule_found 12 (apps_at keys) (behind_apps shared keys cap.0 trace.0 images.0) plan images.2 in
    let challenges = rule_found 13 (challenges_at keys) (behind_challenges shared cap.0 trace.0 images.0 apps.0) plan apps.2 in
    let test = all_different (output_names trace.0 apps.0 challenges.0) in
    let found = device_plan shared cap.0 trace.0 images.0 apps.0 challenges.0 in
    let last = rule_found 14 (when test found) plan_said plan challenges.2 in
    let passed = found_by_test test found last.0 last.1 in
    found_differs found last.0 plan passed.1 last.2 passed.0

pub file_names_differ : (text : List ℕ) (plan : DevicePlan) → device_file text ≡ Ok plan → (ends : List ChallengeEnd) (outcome : Outcome) → all_different (names_of (run_files plan ends outcome)) ≡ true
unfolding device_file
file_names_differ text plan said ends outcome =
    let members = rule_found 1 (document text) (λ found. and_then (common found) (λ shared. device_rules shared found)) plan said in
    let shared = rules_passed (common members.0) (λ known. device_rules known members.0) plan members.2 in
    names_differ plan (rules_differ shared.0 members.0 plan shared.2) ends outcome
