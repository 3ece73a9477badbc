use Rattle.std.proofs.Common.{[], ◌∷◌, refl, inl, inr, arith}
use Rattle.history.specs.declared.events.Discipline.TheVariants.{AllExt}
use Rattle.history.specs.declared.events.Act.TheVariants.{Start, Copy, End, Tick, Release}
use Rattle.history.specs.Worked.{measurer, stores}
use Rattle.history.proofs.worked.parts_of_small_histories.Goals as goal

pub returns-clause-ends : goal.returns-clause-ends
returns-clause-ends c = record {
  pass = record { discipline = AllExt; counter = 7; since = measurer End ∷ measurer (Copy 2) ∷ measurer (Copy 1) ∷ []; opened = measurer (Start AllExt 7) ∷ stores 0 1 ∷ [] };
  here = record { within = omega arith; last = refl; discipline = refl; counter = refl; began = refl };
  newest = refl;
}

pub returns-clause-releases : goal.returns-clause-releases
returns-clause-releases c = record {
  pass = record { discipline = AllExt; counter = 7; since = measurer Release ∷ measurer Tick ∷ measurer End ∷ measurer (Copy 2) ∷ measurer (Copy 1) ∷ []; opened = measurer (Start AllExt 7) ∷ stores 0 1 ∷ [] };
  here = record { within = omega arith; last = refl; discipline = refl; counter = refl; began = refl };
  newest = inl refl;
}

pub returns-clause-unreleased : goal.returns-clause-unreleased
returns-clause-unreleased c = record {
  pass = record { discipline = AllExt; counter = 7; since = measurer Tick ∷ measurer End ∷ measurer (Copy 2) ∷ measurer (Copy 1) ∷ []; opened = measurer (Start AllExt 7) ∷ [] };
  here = record { within = omega arith; last = refl; discipline = refl; counter = refl; began = refl };
  newest = inr (refl, refl);
}
