-- What holds of a plan that the rules give.
use Rattle.std.proofs.Common.{◌≡◌, true, false, Bool, ℕ, ◌+◌, ◌-◌, ◌^◌, ◌<◌, ◌≤◌, leb, ℤ, pos, negsuc, List, [], ◌∷◌, All, length, codes, Option, Some, None, option_map, option_and_then, Result, Ok, Err, IfOk, refl, subst, arith}
use Rattle.std.proofs.lemmas.Bool.{leb-true, and_parts}
use Rattle.std.proofs.lemmas.List.Elements.{All-nil, All-cons}
use Rattle.att_base.specs.Files.{IsName}
use Rattle.att_base.specs.declared.faults.DeviceFault.{DeviceFault}
use Rattle.toml.specs.Data.{Data, Items, no_items, item, Members, get_member, as_str, as_array, as_integer, as_table}
use Rattle.config_rules.specs.Values.{is_between, number_in, number_at, file_name, name_of, name_at, integer_between, each_of, counted, array_in, names_in}
use Rattle.sequencing.specs.Options.{when}
use Rattle.config_rules.specs.Rules.{rule, and_then, AnswersByRules, IsRegion, region, common}
use Rattle.config_rules.specs.declared.common.Common.{Common}
use Rattle.config_rules.specs.declared.region.Region.{Region}
use Rattle.device_config.specs.declared.plans.AppPlan.{AppPlan}
use Rattle.device_config.specs.declared.plans.ChallengePlan.{ChallengePlan}
use Rattle.device_config.specs.declared.plans.DevicePlan.{DevicePlan}
use Rattle.device_config.specs.Arrays.{if_present, app_plan_in, challenge_plan_in, app_plan_of, challenge_plan_of, images_at, apps_at, challenges_at}
use Rattle.device_config.specs.Names.{all_different, output_names}
use Rattle.device_config.specs.Files.{device_plan, device_rules}
use Rattle.device_config.specs.Plans.{IsAppPlan, IsChallengePlan, IsDevicePlan}

-- a rule that holds found something
found : {A B : Type 0} (P : Type 0) (number : ℕ) (o : Option A) (next : A → Result B ℕ) (b : B) → rule number o next ≡ Ok b → ((a : A) → o ≡ Some a → next a ≡ Ok b → P) → P
found P number None next b e then = absurd cc
found P number (Some a) next b e then = then a refl e

went_on : {A B : Type 0} (P : Type 0) (r : Result A ℕ) (next : A → Result B ℕ) (b : B) → and_then r next ≡ Ok b → ((a : A) → r ≡ Ok a → next a ≡ Ok b → P) → P
went_on P (Err number) next b e then = absurd cc
went_on P (Ok a) next b e then = then a refl e

chosen : {A B : Type 0} (P : Type 0) (f : A → Option B) (o : Option A) (b : B) → option_and_then f o ≡ Some b → ((a : A) → o ≡ Some a → f a ≡ Some b → P) → P
chosen P f None b e then = absurd cc
chosen P f (Some a) b e then = then a refl e

passed : {A : Type 0} (test : Bool) (value a : A) → when test value ≡ Some a → (test ≡ true) × (value ≡ a)
passed true value a e = (refl, cc)
passed false value a e = absurd cc

-- numbers and names

abbrev Between : ℕ → ℕ → ℕ → Type 0
Between low high n = (low ≤ n) × (n ≤ high)

between : (low high n : ℕ) → is_between low high n ≡ true → Between low high n
between low high n e =
    let parts = and_parts (leb low n) (leb n high) e in
    (leb-true low n parts.0, leb-true n high parts.1)

number_between : (low high : ℕ) (z : ℤ) (n : ℕ) → number_in low high z ≡ Some n → Between low high n
number_between low high (pos m) n e =
    let is = passed (is_between low high m) m n e in
    rw is.1 at (between low high m is.0)
number_between low high (negsuc m) n e = absurd cc

integer_found : (low high : ℕ) (value : Data) (n : ℕ) → integer_between low high value ≡ Some n → Between low high n
unfolding integer_between
integer_found low high value n e =
    chosen (Between low high n) (number_in low high) (as_integer value) n e (λ z is then. number_between low high z n then)

number_found : (key : List ℕ) (members : Members) (low high n : ℕ) → number_at key members low high ≡ Some n → Between low high n
unfolding number_at
number_found key members low high n e =
    chosen (Between low high n) (integer_between low high) (get_member key members) n e (λ value is then. integer_found low high value n then)

named_text : (text name : List ℕ) → file_name text ≡ Some name → IsName name
named_text text name e =
    let is = passed (is_between 1 255 (length text)) text name e in
    let both : IsName text = between 1 255 (length text) is.0 in
    rw is.1 at both

named_value : (value : Data) (name : List ℕ) → name_of value ≡ Some name → IsName name
unfolding name_of
named_value value name e = chosen (IsName name) file_name (as_str value) name e (λ text is then. named_text text name then)

named_at : (key : List ℕ) (members : Members) (name : List ℕ) → name_at key members ≡ Some name → IsName name
unfolding name_at
named_at key members name e = chosen (IsName name) name_of (get_member key members) name e (λ value is then. named_value value name then)

-- arrays

record AreRead {A : Type 0} (P : A → Type 0) (low high : ℕ) (all : List A) : Type 0 where
  each : All P all
  some : low ≤ length all
  few : length all ≤ high

joined : {A : Type 0} (P : A → Type 0) (first : Option A) (rest : Option (List A)) (all : List A) → ((one : A) → first ≡ Some one → P one)
    → ((more : List A) → rest ≡ Some more → All P more) → option_and_then (λ one. option_map (λ more. one ∷ more) rest) first ≡ Some all → All P all
joined P None rest all is are e = absurd cc
joined P (Some one) None all is are e = absurd cc
joined P (Some one) (Some more) all is are e =
    let same : one ∷ more ≡ all = cc in
    subst (λ xs. All P xs) same (All-cons P one more (is one refl) (are more refl))

each_read : {A : Type 0} (P : A → Type 0) (read : Data → Option A) → ((value : Data) (one : A) → read value ≡ Some one → P one)
    → (values : Items) (all : List A) → each_of read values ≡ Some all → All P all
each_read P read is no_items all e =
    let same : [] ≡ all = cc in
    subst (λ xs. All P xs) same (All-nil P)
each_read P read is (item value rest) all e =
    joined P (read value) (each_of read rest) all (λ one h. is value one h) (λ more h. each_read P read is rest more h) e

counted_all : {A : Type 0} (P : A → Type 0) (low high : ℕ) (xs all : List A) → All P xs → counted low high xs ≡ Some all → AreRead P low high all
counted_all P low high xs all are e =
    let is = passed (is_between low high (length xs)) xs all e in
    let count = between low high (length xs) is.0 in
    let both : AreRead P low high xs = record { each = are; some = count.0; few = count.1 } in
    rw is.1 at both

array_read : {A : Type 0} (P : A → Type 0) (read : Data → Option A) (low high : ℕ) → ((value : Data) (one : A) → read value ≡ Some one → P one)
    → (value : Data) (all : List A) → array_in read low high value ≡ Some all → AreRead P low high all
array_read P read low high is value all e =
    chosen (AreRead P low high all) (counted low high) (option_and_then (each_of read) (as_array value)) all e (λ xs h then.
    chosen (AreRead P low high all) (each_of read) (as_array value) xs h (λ values array are. counted_all P low high xs all (each_read P read is values xs are) then))

present : {A : Type 0} (P : A → Type 0) (read : Data → Option (List A)) (high : ℕ) → ((value : Data) (all : List A) → read value ≡ Some all → AreRead P 0 high all)
    → (o : Option Data) (all : List A) → if_present read o ≡ Some all → AreRead P 0 high all
present P read high are None all e =
    let same : [] ≡ all = cc in
    let nothing : AreRead P 0 high [] = record { each = All-nil P; some = omega arith; few = omega arith } in
    rw same at nothing
present P read high are (Some value) all e = are value all e

-- tables

app_read : (members : Members) (app : AppPlan) → app_plan_in members ≡ Some app → IsAppPlan app
unfolding app_plan_in
app_read members app e =
    chosen (IsAppPlan app) _ (name_at (codes "file") members) app e (λ file h1 e1.
    chosen (IsAppPlan app) _ (name_at (codes "console") members) app e1 (λ console h2 e2.
    chosen (IsAppPlan app) _ (number_at (codes "stack") members 0 4294967295) app e2 (λ stack h3 e3.
    chosen (IsAppPlan app) _ (number_at (codes "fuel") members 1 1000000) app e3 (λ fuel h4 e4.
    let s = number_found (codes "stack") members 0 4294967295 stack h3 in
    let f = number_found (codes "fuel") members 1 1000000 fuel h4 in
    let whole : AppPlan = record { file = file; console = console; stack = stack; fuel = fuel } in
    let made : whole ≡ app = cc in
    let fact : IsAppPlan whole = record { file = named_at (codes "file") members file h1; console = named_at (codes "console") members console h2; stack = omega (arith, s.1); some_fuel = f.0; most_fuel = f.1 } in
    rw made at fact))))

challenge_read : (members : Members) (challenge : ChallengePlan) → challenge_plan_in members ≡ Some challenge → IsChallengePlan challenge
unfolding challenge_plan_in
challenge_read members challenge e =
    chosen (IsChallengePlan challenge) _ (name_at (codes "file") members) challenge e (λ file h1 e1.
    chosen (IsChallengePlan challenge) _ (name_at (codes "report") members) challenge e1 (λ report h2 e2.
    chosen (IsChallengePlan challenge) _ (name_at (codes "note") members) challenge e2 (λ note h3 e3.
    let whole : ChallengePlan = record { file = file; report = report; note = note } in
    let made : whole ≡ challenge = cc in
    let fact : IsChallengePlan whole = record { file = named_at (codes "file") members file h1; report = named_at (codes "report") members report h2; note = named_at (codes "note") members note h3 } in
    rw made at fact)))

images_read : (members : Members) (images : List (List ℕ)) → images_at members ≡ Some images → AreRead IsName 0 64 images
unfolding images_at names_in
images_read members images e =
    present IsName (names_in 0 64) 64 (λ value all h. array_read IsName name_of 0 64 named_value value all h) (get_member (codes "images") members) images e

apps_read : (members : Members) (apps : List AppPlan) → apps_at members ≡ Some apps → AreRead IsAppPlan 1 8 apps
unfolding apps_at
apps_read members apps e =
    chosen (AreRead IsAppPlan 1 8 apps) (array_in app_plan_of 1 8) (get_member (codes "app") members) apps e (λ value is then.
    array_read IsAppPlan app_plan_of 1 8 (λ v app h. chosen (IsAppPlan app) app_plan_in (as_table v) app h (λ table t r. app_read table app r)) value apps then)

challenges_read : (members : Members) (challenges : List ChallengePlan) → challenges_at members ≡ Some challenges → AreRead IsChallengePlan 0 64 challenges
unfolding challenges_at
challenges_read members challenges e =
    present IsChallengePlan (array_in challenge_plan_of 0 64) 64 (λ value all h.
    array_read IsChallengePlan challenge_plan_of 0 64 (λ v one g. chosen (IsChallengePlan one) challenge_plan_in (as_table v) one g (λ table t r. challenge_read table one r)) value all h) (get_member (codes "challenge") members) challenges e

-- what both kinds of file say

record IsCommon (c : Common) : Type 0 where
  key : IsName c.key
  last : c.last < 2 ^ 63

common_read : (members : Members) (c : Common) → common members ≡ Ok c → IsCommon c
unfolding common
common_read members c e =
    went_on (IsCommon c) (region members) _ c e (λ place h1 e1.
    found (IsCommon c) 7 (name_at (codes "key") members) _ c e1 (λ key h2 e2.
    found (IsCommon c) 8 (number_at (codes "last") members 0 9223372036854775807) _ c e2 (λ last h3 e3.
    let l = number_found (codes "last") members 0 9223372036854775807 last h3 in
    let whole : Common = record { region = place; key = key; last = last } in
    let made : whole ≡ c = cc in
    let fact : IsCommon whole = record { key = named_at (codes "key") members key h2; last = omega (arith, l.1) } in
    rw made at fact)))

-- a plan that the device's own rules give
plan_read : (members : Members) (c : Common) (plan : DevicePlan) → IsRegion c.region → common members ≡ Ok c → device_rules c members ≡ Ok plan → IsDevicePlan plan
unfolding device_rules
plan_read members c plan lies both e =
    found (IsDevicePlan plan) 9 (number_at (codes "cap") members 16 4000000) _ plan e (λ cap h1 e1.
    found (IsDevicePlan plan) 10 (name_at (codes "trace") members) _ plan e1 (λ trace h2 e2.
    found (IsDevicePlan plan) 11 (images_at members) _ plan e2 (λ images h3 e3.
    found (IsDevicePlan plan) 12 (apps_at members) _ plan e3 (λ apps h4 e4.
    found (IsDevicePlan plan) 13 (challenges_at members) _ plan e4 (λ challenges h5 e5.
    found (IsDevicePlan plan) 14 (when (all_different (output_names trace apps challenges)) (device_plan c cap trace images apps challenges)) _ plan e5 (λ whole h6 e6.
    let is = passed (all_different (output_names trace apps challenges)) (device_plan c cap trace images apps challenges) whole h6 in
    let first = common_read members c both in
    let entries = number_found (codes "cap") members 16 4000000 cap h1 in
    let known = images_read members images h3 in
    let run = apps_read members apps h4 in
    let asked = challenges_read members challenges h5 in
    let made : device_plan c cap trace images apps challenges ≡ plan = cc in
    let fact : IsDevicePlan (device_plan c cap trace images apps challenges) = record { layout = lies.layout; ranges = lies.ranges; ranges_inside = lies.inside; key = first.key; last = first.last; some_entries = entries.0; most_entries = entries.1; trace = named_at (codes "trace") members trace h2; images = known.each; few_images = known.few; apps = run.each; some_app = run.some; few_apps = run.few; challenges = asked.each; few_challenges = asked.few; outputs = is.0 } in
    rw made at fact))))))

pub read_plan : (members : Members) (c : Common) (result : Result DevicePlan DeviceFault) → IsRegion c.region → common members ≡ Ok c → AnswersByRules (device_rules c members) result → IfOk result IsDevicePlan
read_plan table c (Ok plan) lies both reads = plan_read table c plan lies both reads
read_plan table c (Err fault) lies both reads = tt
