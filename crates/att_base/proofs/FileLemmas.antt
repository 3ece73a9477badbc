-- What several calls on files have done together, and what files in memory hold.
use Rattle.std.proofs.Common.{◌≡◌, ◌≢◌, List, [], ◌∷◌, ◌++◌, ℕ, suc, ◌<◌, ◌≤◌, length, take, get_or, Bool, true, false, Option, None, Some, Result, Ok, Err, OnOk, OnErr, sym, refl, ap, ◌∙◌, arith, if◌then◌else◌, bytes_eq}
use Rattle.std.proofs.Math.Path.{fun_ext}
use Rattle.std.proofs.Math.ListN.{set}
use Rattle.std.proofs.lemmas.Slice.Eq.{bytes_eq-Decides}
use Rattle.att_base.specs.Files.{Contents, NamedBytes, with_name, put_under, add_under, bytes_or_nothing, AddsFront, unchanged, grown, PutsFront, begun}
use Rattle.att_base.specs.FilesInMemory.{held_in, file_index, put_file, add_file}

same_name : (name : List ℕ) → bytes_eq name name ≡ true
same_name name = (bytes_eq-Decides name name).1 refl

pub name_has : (held : Contents) (name bytes : List ℕ) → with_name held name bytes name ≡ Some bytes
name_has held name bytes = ap (λ (t : Bool). if t then Some bytes else held name) (same_name name)

tested_other : (t : Bool) (a b : Option (List ℕ)) → (t ≡ true → ⊥) → (if t then a else b) ≡ b
tested_other true a b other = absurd (other refl)
tested_other false a b other = refl

pub others_stay : (held : Contents) (name bytes other : List ℕ) → name ≢ other → with_name held name bytes other ≡ held other
others_stay held name bytes other apart = tested_other (bytes_eq name other) (Some bytes) (held other) (λ same. apart ((bytes_eq-Decides name other).0 same))

test_twice : (t : Bool) (a b c : Option (List ℕ)) → (if t then b else (if t then a else c)) ≡ (if t then b else c)
test_twice true a b c = refl
test_twice false a b c = refl

-- of two writes under one name the last stands
with_name-twice : (held : Contents) (name a b : List ℕ) → with_name (with_name held name a) name b ≡ with_name held name b
with_name-twice held name a b = fun_ext (λ other. test_twice (bytes_eq name other) (Some a) (Some b) (held other))

-- to put bytes under a name and to append more is to put all of them under it
pub put_then_add : (old : Option Contents) (name first piece : List ℕ) → add_under (put_under old name first) name piece ≡ put_under old name (first ++ piece)
put_then_add None name first piece = refl
put_then_add (Some held) name first piece =
    let there : bytes_or_nothing (with_name held name first name) ++ piece ≡ first ++ piece =
    ap (λ (o : Option (List ℕ)). bytes_or_nothing o ++ piece) (name_has held name first) in
    ap (λ (h : Contents). Some h) (ap (with_name (with_name held name first) name) there ∙ with_name-twice held name first (first ++ piece))

-- a front appended to a name that was cleared
puts_front : (old mid new : Option Contents) (name bytes : List ℕ) → mid ≡ put_under old name [] → AddsFront mid new name bytes → PutsFront old new name bytes
puts_front old mid new name bytes cleared (unchanged same) = begun 0 (omega arith) (same ∙ cleared)
puts_front old mid new name bytes cleared (grown count within added) =
    begun count within (added ∙ ap (λ (o : Option Contents). add_under o name (take count bytes)) cleared ∙ put_then_add old name [] (take count bytes))

-- the same two, where the append answered so
pub put_where_ok : {T E : Type 0} (r : Result T E) (old mid new : Option Contents) (name bytes : List ℕ) → mid ≡ put_under old name [] → OnOk r (new ≡ add_under mid name bytes) → OnOk r (new ≡ put_under old name bytes)
put_where_ok (Ok v) old mid new name bytes cleared added = added ∙ ap (λ (o : Option Contents). add_under o name bytes) cleared ∙ put_then_add old name [] bytes
put_where_ok (Err e) old mid new name bytes cleared added = tt

pub begun_where_err : {T E : Type 0} (r : Result T E) (old mid new : Option Contents) (name bytes : List ℕ) → mid ≡ put_under old name [] → OnErr r (AddsFront mid new name bytes) → OnErr r (PutsFront old new name bytes)
begun_where_err (Ok v) old mid new name bytes cleared added = tt
begun_where_err (Err e) old mid new name bytes cleared added = puts_front old mid new name bytes cleared added

-- the file at its place is what is held
held_at : (files : List NamedBytes) (name : List ℕ) (file : NamedBytes) → file_index files name < length files → get_or files (file_index files name) file ≡ file → held_in files name ≡ Some file.bytes
held_at [] name file = λ below is. absurd (omega arith)
held_at (f ∷ files) name file =
    elim (bytes_eq f.name name) as (λ t. (if t then 0 else suc (file_index files name)) < length (f ∷ files) → get_or (f ∷ files) (if t then 0 else suc (file_index files name)) file ≡ file → (if t then Some f.bytes else held_in files name) ≡ Some file.bytes) [
      | true ↦ λ below is. ap (λ (g : NamedBytes). Some g.bytes) is
      | false ↦ λ below is. held_at files name file (omega arith) is
    ]

-- nothing is held where no place is
held_nowhere : (files : List NamedBytes) (name : List ℕ) → length files ≤ file_index files name → held_in files name ≡ None
held_nowhere [] name = λ none. refl
held_nowhere (f ∷ files) name =
    elim (bytes_eq f.name name) as (λ t. length (f ∷ files) ≤ (if t then 0 else suc (file_index files name)) → (if t then Some f.bytes else held_in files name) ≡ None) [
      | true ↦ λ none. absurd (omega arith)
      | false ↦ λ none. held_nowhere files name (omega arith)
    ]

-- the file at its place gets the bytes
put_at : (files : List NamedBytes) (name bytes : List ℕ) (file : NamedBytes) → file_index files name < length files → get_or files (file_index files name) file ≡ file
    → put_file files name bytes ≡ set files (file_index files name) (record file { bytes = bytes })
put_at [] name bytes file = λ below is. absurd (omega arith)
put_at (f ∷ files) name bytes file =
    elim (bytes_eq f.name name) as (λ t. (if t then 0 else suc (file_index files name)) < length (f ∷ files) → get_or (f ∷ files) (if t then 0 else suc (file_index files name)) file ≡ file
    → (if t then record f { bytes = bytes } ∷ files else f ∷ put_file files name bytes) ≡ set (f ∷ files) (if t then 0 else suc (file_index files name)) (record file { bytes = bytes })) [
      | true ↦ λ below is. ap (λ (g : NamedBytes). record g { bytes = bytes } ∷ files) is
      | false ↦ λ below is. ap (λ (fs : List NamedBytes). f ∷ fs) (put_at files name bytes file (omega arith) is)
    ]

-- a new file comes last
put_last : (files : List NamedBytes) (name bytes : List ℕ) → length files ≤ file_index files name → put_file files name bytes ≡ files ++ record { name = name; bytes = bytes } ∷ []
put_last [] name bytes = λ none. refl
put_last (f ∷ files) name bytes =
    elim (bytes_eq f.name name) as (λ t. length (f ∷ files) ≤ (if t then 0 else suc (file_index files name))
    → (if t then record f { bytes = bytes } ∷ files else f ∷ put_file files name bytes) ≡ f ∷ files ++ record { name = name; bytes = bytes } ∷ []) [
      | true ↦ λ none. absurd (omega arith)
      | false ↦ λ none. ap (λ (fs : List NamedBytes). f ∷ fs) (put_last files name bytes (omega arith))
    ]

-- the same, for the place that was found
pub held_there : (files : List NamedBytes) (name : List ℕ) (place : ℕ) (file : NamedBytes) → place ≡ file_index files name → place < length files → file ≡ get_or files place file → held_in files name ≡ Some file.bytes
held_there files name place file found below is = held_at files name file (rw found at below) (sym (rw found at is))

pub held_not_there : (files : List NamedBytes) (name : List ℕ) (place : ℕ) → place ≡ file_index files name → length files ≤ place → held_in files name ≡ None
held_not_there files name place found none = held_nowhere files name (rw found at none)

pub put_there : (files : List NamedBytes) (name bytes : List ℕ) (place : ℕ) (file next : NamedBytes) → place ≡ file_index files name → place < length files → file ≡ get_or files place file → next ≡ record file { bytes = bytes }
    → set files place next ≡ put_file files name bytes
put_there files name bytes place file next found below is changed =
    rw (changed, found) (sym (put_at files name bytes file (rw found at below) (sym (rw found at is))))

pub put_new : (files : List NamedBytes) (name bytes : List ℕ) (place : ℕ) (file : NamedBytes) → place ≡ file_index files name → length files ≤ place → file ≡ record { name = name; bytes = bytes }
    → files ++ file ∷ [] ≡ put_file files name bytes
put_new files name bytes place file found none made = rw made (sym (put_last files name bytes (rw found at none)))

pub add_there : (files : List NamedBytes) (name piece : List ℕ) (place : ℕ) (file next : NamedBytes) → place ≡ file_index files name → place < length files → file ≡ get_or files place file → next ≡ record file { bytes = file.bytes ++ piece }
    → set files place next ≡ add_file files name piece
add_there files name piece place file next found below is changed =
    put_there files name (file.bytes ++ piece) place file next found below is changed
    ∙ ap (λ (o : Option (List ℕ)). put_file files name (bytes_or_nothing o ++ piece)) (sym (held_there files name place file found below is))

pub add_new : (files : List NamedBytes) (name piece : List ℕ) (place : ℕ) (file : NamedBytes) → place ≡ file_index files name → length files ≤ place → file ≡ record { name = name; bytes = piece }
    → files ++ file ∷ [] ≡ add_file files name piece
add_new files name piece place file found none made =
    put_new files name piece place file found none made
    ∙ ap (λ (o : Option (List ℕ)). put_file files name (bytes_or_nothing o ++ piece)) (sym (held_not_there files name place found none))

swap_tests : (t u : Bool) (a b c : Option (List ℕ)) → (t ≡ true → u ≡ true → ⊥) → (if t then a else (if u then b else c)) ≡ (if u then b else (if t then a else c))
swap_tests true true a b c apart = absurd (apart refl refl)
swap_tests true false a b c apart = refl
swap_tests false true a b c apart = refl
swap_tests false false a b c apart = refl

held_in-put_file_at : (files : List NamedBytes) (name bytes other : List ℕ) → held_in (put_file files name bytes) other ≡ with_name (held_in files) name bytes other
held_in-put_file_at [] name bytes other = refl
held_in-put_file_at (f ∷ files) name bytes other =
    let decided = bytes_eq-Decides f.name name in
    elim (bytes_eq f.name name) as (λ t. (t ≡ true → f.name ≡ name) → (f.name ≡ name → t ≡ true) → held_in (if t then record f { bytes = bytes } ∷ files else f ∷ put_file files name bytes) other ≡ with_name (held_in (f ∷ files)) name bytes other) [
      | true ↦ λ same known.
          let e : f.name ≡ name = same refl in
          rw e (sym (test_twice (bytes_eq name other) (Some f.bytes) (Some bytes) (held_in files other)))
      | false ↦ λ same known.
          ap (λ (o : Option (List ℕ)). if bytes_eq f.name other then Some f.bytes else o) (held_in-put_file_at files name bytes other)
          ∙ swap_tests (bytes_eq f.name other) (bytes_eq name other) (Some f.bytes) (Some bytes) (held_in files other) (λ first second.
          let one : f.name ≡ other = (bytes_eq-Decides f.name other).0 first in
          let two : name ≡ other = (bytes_eq-Decides name other).0 second in
          let both : false ≡ true = known (one ∙ sym two) in
          cc)
    ] decided.0 decided.1

-- what files hold after one was put
pub held_in-put_file : (files : List NamedBytes) (name bytes : List ℕ) → held_in (put_file files name bytes) ≡ with_name (held_in files) name bytes
held_in-put_file files name bytes = fun_ext (held_in-put_file_at files name bytes)

-- a front of the piece went to the name's file
pub front_added : (files new : List NamedBytes) (name piece : List ℕ) (count : ℕ) → new ≡ add_file files name (take count piece) → count ≤ length piece → AddsFront (Some (held_in files)) (Some (held_in new)) name piece
front_added files new name piece count added within =
    grown count within (ap (λ (h : Contents). Some h) (ap held_in added ∙ held_in-put_file files name (bytes_or_nothing (held_in files name) ++ take count piece)))
