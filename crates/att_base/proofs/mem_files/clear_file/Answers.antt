use Rattle.std.proofs.Common.{◌≡◌, [], length, vec_len, ◌∙◌, arith}
use Rattle.att_base.specs.FilesInMemory.{file_index}
use Rattle.att_base.proofs.FileLemmas.{put_there, put_new}
use Rattle.att_base.proofs.mem_files.clear_file.Goals as goal

pub returns-then-place-len-clause-ok : goal.returns-then-place-len-clause-ok
returns-then-place-len-clause-ok c =
    let found : c.file_index-place.result ≡ file_index c.args.files.now.items c.args.name.now = rw c.deref.ensures.value at c.file_index-place.ensures in
    let count : length c.args.files.now.items ≡ vec_len c.args.files.now = rw c.deref.ensures.value at c.deref.ensures.len in
    put_there _ _ [] _ c.index_mut.result.now _ found (omega (arith, count)) c.index_mut.ensures.value c.clear.ensures

pub returns-clause-ok : goal.returns-clause-ok
returns-clause-ok c =
    let found : c.file_index-place.result ≡ file_index c.args.files.now.items c.args.name.now = rw c.deref.ensures.value at c.file_index-place.ensures in
    let count : length c.args.files.now.items ≡ vec_len c.args.files.now = rw c.deref.ensures.value at c.deref.ensures.len in
    c.in_ok-push.ensures.items ∙ put_new c.args.files.now.items c.args.name.now [] c.file_index-place.result c.in_ok-file.file found (omega (arith, count)) c.in_ok-file.ensures
