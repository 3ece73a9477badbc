use Rattle.std.proofs.Common.{◌≡◌, suc, List, ◌∷◌, ◌++◌, take, drop, sym, ap, ◌∙◌, Result, Ok, Err, OnErr}
use Rattle.std.proofs.lemmas.List.{take-append-drop}
use Rattle.std.proofs.Math.Seq.{drop-cons}
use Rattle.att_base.specs.Files.{NamedBytes, PutsFront}
use Rattle.attest_top.specs.Outcomes.{after_files, FilesCut}
use Rattle.attest_top.proofs.finish.write_files.Goals as goal

on_err : {T E : Type 0} (r : Result T E) (P : Type 0) → P → OnErr r P
on_err (Ok v) P is = tt
on_err (Err e) P is = is

pub returns-in_err-write_to-clause-err : goal.returns-in_err-write_to-clause-err
returns-in_err-write_to-clause-err g c =
    let i = c.loop-file.file-index in
    let files = c.args.written.now in
    let file = c.file-item.result in
    let behind = drop (suc i) files in
    let split : files ≡ take i files ++ (file ∷ behind) =
    sym (take-append-drop i files) ∙ ap (λ (t : List NamedBytes). take i files ++ t) (drop-cons files i file c.loop-file-test.true ∙ ap (λ (f : NamedBytes). f ∷ behind) (sym c.file-item.is)) in
    let old = (g.F.Files.shows c.args.files.now).held in
    let front : PutsFront (after_files (take i files) old) (g.F.Files.shows c.write_to.new.files).held file.name file.bytes = rw c.loop-file.invariant.written.held at c.in_err-write_to.ensures.err in
    let cut : FilesCut files old (g.F.Files.shows c.write_to.new.files).held = record { earlier = take i files; file = file; later = behind; split = split; front = front } in
    on_err c.from_residual.result _ cut
