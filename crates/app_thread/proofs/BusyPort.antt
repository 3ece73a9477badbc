-- An access after entries of others.
use Rattle.std.proofs.Common.{ℕ, List}
use Rattle.history.specs.declared.events.Act.{Act}
use Rattle.history.specs.declared.events.Entry.{Entry}
use Rattle.history.specs.Layout.{Setting}
use Rattle.chronicle.specs.declared.answers.Read.{Read}
use Rattle.chronicle.specs.declared.answers.Read.TheVariants as read
use Rattle.chronicle.specs.declared.answers.Stored.{Stored}
use Rattle.chronicle.specs.declared.answers.Stored.TheVariants as store
use Rattle.chronicle.specs.Ports.{AddsEntry, HasRead, HasStored, OthersFollow, entry_by}

abbrev pub OthersJoin : Type 0
OthersJoin = (low high : ℕ) (first second third : List Entry) → OthersFollow low high first second → OthersFollow low high second third → OthersFollow low high first third

abbrev pub AddedJoin : Type 0
AddedJoin = (low high : ℕ) (first second third : List Entry) (entry : Entry) → OthersFollow low high first second → AddsEntry low high second third entry → AddsEntry low high first third entry

pub read_after : OthersJoin → AddedJoin → (w : Setting) (old middle new : List Entry) (a : ℕ → Act) (answer : Read) → OthersFollow 1 2 old middle → HasRead w 1 2 middle new a answer → HasRead w 1 2 old new a answer
read_after others added w old middle new a (read.Done value place) f h = (added 1 2 old middle new (entry_by 1 (a value)) f h.0, h.1)
read_after others added w old middle new a (read.Full place) f h = (others 1 2 old middle new f h.0, h.1, h.2)

pub stored_after : OthersJoin → AddedJoin → (w : Setting) (old middle new : List Entry) (a : Act) (block : ℕ) (answer : Stored) → OthersFollow 1 2 old middle → HasStored w 1 2 middle new a block answer → HasStored w 1 2 old new a block answer
stored_after others added w old middle new a block (store.Done place) f h = (added 1 2 old middle new (entry_by 1 a) f h.0, h.1)
stored_after others added w old middle new a block (store.Again place) f h = (others 1 2 old middle new f h.0, h.1, h.2, h.3)
stored_after others added w old middle new a block (store.Full place) f h = (others 1 2 old middle new f h.0, h.1, h.2)
