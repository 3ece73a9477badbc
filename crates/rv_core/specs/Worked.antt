-- The definitions computed on a small program, to be read beside them.
use Rattle.std.specs.Prelude.{ℕ, List, [], ◌∷◌}
use Rattle.history.specs.declared.events.Width.{Width}
use Rattle.history.specs.declared.events.Act.TheVariants.{Fetch, Load, Store}
use Rattle.history.specs.declared.events.Entry.{Entry}
use Rattle.history.specs.Layout.{Layout}
use Rattle.history.specs.Worked.{application}
use Rattle.rv_core.specs.Runs.{AppProgram, app_program, started}

-- four blocks of 16 bytes from 0x80000000 on
abbrev pub layout : Layout
layout = record { base = 0x8000_0000; size = 16; blocks = 4 }

-- a program that starts at this pc, with so much fuel
abbrev pub program_at : ℕ → ℕ → AppProgram
program_at pc fuel = app_program (started layout pc 0) fuel

-- addi x1, x0, 5; lui x2, 0x80000; sw x1, 4(x2)
abbrev pub up_to_store : List Entry
up_to_store =
    application (Fetch 0x8000_0000 0x0050_0093)
    ∷ application (Fetch 0x8000_0004 0x8000_0137)
    ∷ application (Fetch 0x8000_0008 0x0011_2223) ∷ []

-- the store that was made, and lhu x3, 6(x2)
abbrev pub up_to_load : ℕ → Width → ℕ → List Entry
up_to_load addr width value =
    application (Store addr width value) ∷ application (Fetch 0x8000_000c 0x0061_5183) ∷ []

-- the load that was made
abbrev pub load_made : ℕ → Width → List Entry
load_made addr width = application (Load addr width 7) ∷ []

-- addi a7, x0, 93; addi a0, x0, 7; ecall
abbrev pub exit : List Entry
exit =
    application (Fetch 0x8000_0000 0x05d0_0893)
    ∷ application (Fetch 0x8000_0004 0x0070_0513)
    ∷ application (Fetch 0x8000_0008 0x0000_0073) ∷ []
