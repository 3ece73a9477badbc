use Rattle.std.proofs.Common.{◌≡◌, length, vec_len, sym, ap, arith}
use Rattle.att_base.specs.FilesInMemory.{FilesState, file_index}
use Rattle.att_base.proofs.FileLemmas.{held_there, held_not_there}
use Rattle.att_base.proofs.mem_files.MemFiles.bytes_of.Goals as goal

pub returns-then-place-len : goal.returns-then-place-len
returns-then-place-len c =
    let held : c.self.inside.files.items ≡ c.args.self.now.files = ap (λ (s : FilesState). s.files) c.self.view_is in
    let found : c.file_index-place.result ≡ file_index c.self.inside.files.items c.args.name.now = rw c.deref.ensures.value at c.file_index-place.ensures in
    let count : length c.self.inside.files.items ≡ vec_len c.self.inside.files = rw c.deref.ensures.value at c.deref.ensures.len in
    rw (c.bytes.ensures, ← held) (sym (held_there c.self.inside.files.items c.args.name.now c.file_index-place.result c.index.result.now found (omega (arith, count)) c.index.ensures))

pub returns : goal.returns
returns c =
    let held : c.self.inside.files.items ≡ c.args.self.now.files = ap (λ (s : FilesState). s.files) c.self.view_is in
    let found : c.file_index-place.result ≡ file_index c.self.inside.files.items c.args.name.now = rw c.deref.ensures.value at c.file_index-place.ensures in
    let count : length c.self.inside.files.items ≡ vec_len c.self.inside.files = rw c.deref.ensures.value at c.deref.ensures.len in
    rw (← held) (sym (held_not_there c.self.inside.files.items c.args.name.now c.file_index-place.result found (omega (arith, count))))
