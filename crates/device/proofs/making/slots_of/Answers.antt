-- One application more.
use Rattle.std.proofs.Common.{◌≡◌, ◌+◌, ◌<◌, suc, [], ◌∷◌, ◌++◌, length, map, take, get_or, refl, sym, ap, ap₂, ◌∙◌, subst, All, arith}
use Rattle.std.specs.Prelude.{slice_get, Some}
use Rattle.std.proofs.Math.Numerals.{add-one}
use Rattle.std.proofs.lemmas.List.{map-append, take_all}
use Rattle.std.proofs.lemmas.List.Elements.{All-push}
use Rattle.std.proofs.lemmas.Option.{slice_get-get_or, slice_get_read}
use Rattle.device.specs.Setups.{programs_at}
use Rattle.device.specs.Keeping.{IsFreshSlot, program_of_slot}
use Rattle.device.proofs.Beginnings.{length_programs, programs_more}
use Rattle.device.proofs.making.slots_of.Goals as goal

pub loop-k-preserved : goal.loop-k-preserved
loop-k-preserved c =
    let apps = c.args.apps.now in
    let entries = c.args.entries.now in
    let k = c.loop-k.k in
    let app : slice_get c.args.apps.now c.loop-k.k ≡ Some c.index-apps-k.result = slice_get_read c.args.apps.now (length c.args.apps.now) c.loop-k.k c.index-apps-k.result refl c.loop-k-test.true c.index-apps-k.is in
    let entry : slice_get c.args.entries.now c.loop-k.k ≡ Some (get_or c.args.entries.now c.loop-k.k 0) = slice_get-get_or c.args.entries.now c.loop-k.k 0 (omega (arith, c.loop-k-test.true, c.requires.count)) in
    record {
      programs =
          ap (map (program_of_slot c.args.geometry)) c.in_ok-push.ensures.items
          ∙ map-append (program_of_slot c.args.geometry) c.loop-k.slots.items (c.in_ok-slot_of.field-0 ∷ [])
          ∙ ap₂ (λ l x. l ++ x ∷ []) c.loop-k.invariant.programs c.in_ok-slot_of.ensures.program
          ∙ sym (programs_more c.args.geometry apps entries k c.index-apps-k.result (get_or c.args.entries.now c.loop-k.k 0) app entry)
          ∙ ap (λ n. take n (programs_at c.args.geometry c.args.apps.now c.args.entries.now)) (sym (add-one c.loop-k.k));
      fresh = subst (All (IsFreshSlot c.args.geometry)) (sym c.in_ok-push.ensures.items) (All-push (IsFreshSlot c.args.geometry) c.loop-k.slots.items c.in_ok-slot_of.field-0 c.loop-k.invariant.fresh c.in_ok-slot_of.ensures.fresh);
    }

pub returns-clause-programs : goal.returns-clause-programs
returns-clause-programs c =
    c.loop-k.invariant.programs
    ∙ take_all c.loop-k.k (programs_at c.args.geometry c.args.apps.now c.args.entries.now) (omega (arith, length_programs c.args.geometry c.args.apps.now c.args.entries.now, c.loop-k-test.false))
