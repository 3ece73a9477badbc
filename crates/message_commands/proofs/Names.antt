-- The names in a verifier file are names of files.
use Rattle.std.proofs.Common.{◌≡◌, true, false, Bool, ℕ, ◌≤◌, leb, List, [], ◌∷◌, All, length, codes, Option, Some, None, option_map, option_and_then, Result, Ok, Err, refl, ap, subst}
use Rattle.std.proofs.lemmas.Bool.{leb-true, and_parts}
use Rattle.std.proofs.lemmas.List.Elements.{All-nil, All-cons}
use Rattle.toml.specs.Data.{Data, Items, no_items, item, Members, get_member, as_str, as_array}
use Rattle.att_base.specs.Files.{IsName}
use Rattle.config_rules.specs.Values.{is_between, number_at, document, file_name, name_of, name_at, each_of, counted, names_in, names_at}
use Rattle.sequencing.specs.Options.{when}
use Rattle.config_rules.specs.Rules.{rule, and_then, region, common}
use Rattle.config_rules.specs.declared.common.Common.{Common}
use Rattle.verifier.specs.declared.files.VerifierPlan.{VerifierPlan}
use Rattle.verifier.specs.Files.{verifier_plan, verifier_file}
use Rattle.message_commands.specs.Plans.{NamesFiles}

-- a rule that holds found something
found : {A B : Type 0} (P : Type 0) (number : ℕ) (o : Option A) (next : A → Result B ℕ) (b : B) → rule number o next ≡ Ok b → ((a : A) → o ≡ Some a → next a ≡ Ok b → P) → P
found P number None next b e then = absurd cc
found P number (Some a) next b e then = then a refl e

went_on : {A B : Type 0} (P : Type 0) (r : Result A ℕ) (next : A → Result B ℕ) (b : B) → and_then r next ≡ Ok b → ((a : A) → r ≡ Ok a → next a ≡ Ok b → P) → P
went_on P (Err number) next b e then = absurd cc
went_on P (Ok a) next b e then = then a refl e

chosen : {A B : Type 0} (P : Type 0) (f : A → Option B) (o : Option A) (b : B) → option_and_then f o ≡ Some b → ((a : A) → o ≡ Some a → f a ≡ Some b → P) → P
chosen P f None b e then = absurd cc
chosen P f (Some a) b e then = then a refl e

passed : {A : Type 0} (test : Bool) (value a : A) → when test value ≡ Some a → (test ≡ true) × (value ≡ a)
passed true value a e = (refl, cc)
passed false value a e = absurd cc

named_text : (text name : List ℕ) → file_name text ≡ Some name → IsName name
named_text text name e =
    let is = passed (is_between 1 255 (length text)) text name e in
    let parts = and_parts (leb 1 (length text)) (leb (length text) 255) is.0 in
    let both : IsName text = (leb-true 1 (length text) parts.0, leb-true (length text) 255 parts.1) in
    rw is.1 at both

named_value : (value : Data) (name : List ℕ) → name_of value ≡ Some name → IsName name
unfolding name_of
named_value value name e = chosen (IsName name) file_name (as_str value) name e (λ text is then. named_text text name then)

named_at : (key : List ℕ) (members : Members) (name : List ℕ) → name_at key members ≡ Some name → IsName name
unfolding name_at
named_at key members name e = chosen (IsName name) name_of (get_member key members) name e (λ value is then. named_value value name then)

joined : (first : Option (List ℕ)) (rest : Option (List (List ℕ))) (names : List (List ℕ)) → ((name : List ℕ) → first ≡ Some name → IsName name)
    → ((more : List (List ℕ)) → rest ≡ Some more → All IsName more) → option_and_then (λ name. option_map (λ more. name ∷ more) rest) first ≡ Some names → All IsName names
joined None rest names is are e = absurd cc
joined (Some name) None names is are e = absurd cc
joined (Some name) (Some more) names is are e =
    let same : name ∷ more ≡ names = cc in
    subst (λ (all : List (List ℕ)). All IsName all) same (All-cons IsName name more (is name refl) (are more refl))

named_items : (values : Items) (names : List (List ℕ)) → each_of name_of values ≡ Some names → All IsName names
named_items no_items names e =
    let same : [] ≡ names = cc in
    subst (λ (all : List (List ℕ)). All IsName all) same (All-nil IsName)
named_items (item value rest) names e = joined (name_of value) (each_of name_of rest) names (λ name is. named_value value name is) (λ more are. named_items rest more are) e

record AreNames (names : List (List ℕ)) : Type 0 where
  named : All IsName names
  count : length names ≤ 64

counted_names : (all names : List (List ℕ)) → All IsName all → counted 1 64 all ≡ Some names → AreNames names
counted_names all names are e =
    let is = passed (is_between 1 64 (length all)) all names e in
    let parts = and_parts (leb 1 (length all)) (leb (length all) 64) is.0 in
    let both : AreNames all = record { named = are; count = leb-true (length all) 64 parts.1 } in
    rw is.1 at both

names_in_value : (value : Data) (names : List (List ℕ)) → names_in 1 64 value ≡ Some names → AreNames names
unfolding names_in
names_in_value value names e =
    chosen (AreNames names) (counted 1 64) (option_and_then (each_of name_of) (as_array value)) names e (λ all is then.
    chosen (AreNames names) (each_of name_of) (as_array value) all is (λ values array are. counted_names all names (named_items values all are) then))

names_at_key : (key : List ℕ) (members : Members) (names : List (List ℕ)) → names_at key members 1 64 ≡ Some names → AreNames names
unfolding names_at
names_at_key key members names e = chosen (AreNames names) (names_in 1 64) (get_member key members) names e (λ value is then. names_in_value value names then)

named_common : (members : Members) (c : Common) → common members ≡ Ok c → IsName c.key
unfolding common
named_common members c e =
    went_on (IsName c.key) (region members) _ c e (λ place is then.
    found (IsName c.key) 7 (name_at (codes "key") members) _ c then (λ key at rest.
    found (IsName c.key) 8 (number_at (codes "last") members 0 9223372036854775807) _ c rest (λ last number made.
    let whole : Common = record { region = place; key = key; last = last } in
    let made_of : whole ≡ c = cc in
    let name : IsName key = named_at (codes "key") members key at in
    let same : key ≡ c.key = ap (λ (x : Common). x.key) made_of in
    rw same at name)))

pub named_plan : (bytes : List ℕ) (plan : VerifierPlan) → verifier_file bytes ≡ Ok plan → NamesFiles plan
unfolding verifier_file
named_plan bytes plan e =
    found (NamesFiles plan) 1 (document bytes) _ plan e (λ members text e1.
    went_on (NamesFiles plan) (common members) _ plan e1 (λ both is e2.
    found (NamesFiles plan) 9 (name_at (codes "challenge") members) _ plan e2 (λ challenge at e3.
    found (NamesFiles plan) 10 (names_at (codes "images") members 1 64) _ plan e3 (λ images all e4.
    let made : verifier_plan both challenge images ≡ plan = cc in
    let names : AreNames images = names_at_key (codes "images") members images all in
    let fact : NamesFiles (verifier_plan both challenge images) = record { key = named_common members both is; challenge = named_at (codes "challenge") members challenge at; images = names.named; count = names.count } in
    rw made at fact))))
