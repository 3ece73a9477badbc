-- For private functions alone: what one step of a script does to a core and to the output.
use Rattle.std.specs.Prelude.{◌≡◌, ℕ, Bool, true, false, List, [], ◌∷◌, ◌++◌, length, reverse, codes}
use Rattle.std.specs.Fmt.{decimal}
use Rattle.history.specs.declared.events.Entry.{Entry}
use Rattle.mem_core.specs.Cores.{Core}
use Rattle.script.specs.declared.steps.Step.{Step}
use Rattle.script.specs.declared.running.StepEnd.{StepEnd}
use Rattle.script.specs.declared.running.StepEnd.TheVariants.{Made, Waits, Full}
use Rattle.history.specs.Layout.{Setting}
use Rattle.script.specs.Tagging.{IsTagging}
use Rattle.script.specs.declared.tagger.Tagger.{Tagger}
use Rattle.script.specs.Steps.{entry_of, is_full, waits}
use Rattle.script.specs.Printed.{line, step_printed}

-- a core's entries, the newest first
abbrev pub past_of : Core → List Entry
past_of core = reverse core.history

-- the step made its entry, and printed it
pub record StepMade (key nonce : List ℕ) (old new : Core) (step : Step) (before after : List ℕ) : Type 0 where
  pub room : is_full old.world (past_of old) ≡ false
  pub free : waits old.world (past_of old) step ≡ false
  pub grown : new ≡ record old { history = old.history ++ entry_of old.world (past_of old) step ∷ [] }
  pub said : after ≡ before ++ step_printed old.world key nonce (past_of old) step

-- the store has to wait, and nothing is printed yet
pub record StepWaits (old new : Core) (step : Step) (before after : List ℕ) (place : ℕ) : Type 0 where
  pub room : is_full old.world (past_of old) ≡ false
  pub locked : waits old.world (past_of old) step ≡ true
  pub same : new ≡ old
  pub at : place ≡ length (past_of old)
  pub said : after ≡ before

-- the history is full, and nothing is printed yet
pub record StepFull (old new : Core) (before after : List ℕ) (place : ℕ) : Type 0 where
  pub full : is_full old.world (past_of old) ≡ true
  pub same : new ≡ old
  pub at : place ≡ old.world.cap
  pub said : after ≡ before

abbrev pub StepRan : List ℕ → List ℕ → Core → Core → Step → List ℕ → List ℕ → StepEnd → Type 0
StepRan key nonce old new step before after Made = StepMade key nonce old new step before after
StepRan key nonce old new step before after (Waits place) = StepWaits old new step before after place
StepRan key nonce old new step before after (Full place) = StepFull old new before after place

-- what is left to print
abbrev pub end_text : StepEnd → List ℕ
end_text Made = []
end_text (Waits place) = line (codes "again " ++ decimal place)
end_text (Full place) = line (codes "full " ++ decimal place)

abbrev pub is_end_full : StepEnd → Bool
is_end_full Made = false
is_end_full (Waits place) = false
is_end_full (Full place) = true

-- The tagger keeps up with the history: where the step made its entry, it is that of the longer history, with the
-- nonce given; else it is as it was.
abbrev pub IsTaggedBy : Setting → List ℕ → List ℕ → List ℕ → List Entry → Step → Tagger → StepEnd → Type 0
IsTaggedBy w key old nonce past step t Made = IsTagging w key nonce (entry_of w past step ∷ past) t
IsTaggedBy w key old nonce past step t (Waits place) = IsTagging w key old past t
IsTaggedBy w key old nonce past step t (Full place) = IsTagging w key old past t
