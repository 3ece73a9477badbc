-- One run more, and all of them.
use Rattle.std.proofs.Common.{◌≡◌, ◌≤◌, ◌+◌, List, [], ◌∷◌, ◌++◌, All, map, sym, ap, subst, ◌∙◌, arith}
use Rattle.std.specs.List.{range_with_len}
use Rattle.std.proofs.lemmas.List.FromFn.{map-range_with_len_more}
use Rattle.std.proofs.lemmas.List.Elements.{All-nil, All-cons, All-append}
use Rattle.schedule_text.specs.declared.reading.Run.{Run}
use Rattle.generated.specs.Generated.{generated_run, run_count}
use Rattle.generated.proofs.Setups.{run_count_is, runs_are}
use Rattle.generated.proofs.schedules.schedule_of.Goals as goal

pub loop-k-preserved : goal.loop-k-preserved
loop-k-preserved c =
    let k = c.loop-k.k in
    let seed = c.args.draws.now.seed in
    let kept = c.loop-k.invariant in
    let run : Run = c.run_of.result in
    let more : map (generated_run seed) (range_with_len 0 (k + 1)) ≡ map (generated_run seed) (range_with_len 0 k) ++ generated_run seed k ∷ [] = map-range_with_len_more (generated_run seed) 0 k k (omega arith) in
    let drawn : run ≡ generated_run seed k = c.run_of.ensures.value ∙ ap (λ s. generated_run s k) kept.seed in
    record {
      items = c.in_ok-push.ensures.items ∙ ap (λ l. l ++ run ∷ []) kept.items ∙ ap (λ r. map (generated_run seed) (range_with_len 0 k) ++ r ∷ []) drawn ∙ sym more;
      actors = subst (λ (l : List Run). All (λ (r : Run). r.actor ≤ 8) l) (sym c.in_ok-push.ensures.items) (All-append (λ (r : Run). r.actor ≤ 8) c.loop-k.runs.items (run ∷ []) kept.actors (All-cons (λ (r : Run). r.actor ≤ 8) run [] c.run_of.ensures.actor (All-nil (λ (r : Run). r.actor ≤ 8))));
      seed = c.run_of.ensures.seed ∙ kept.seed;
      count = omega (arith, c.run_of.ensures.count);
    }

pub returns-clause-items : goal.returns-clause-items
returns-clause-items c =
    let all : c.loop-k.k ≡ run_count = omega (arith, run_count_is) in
    c.from_vec.ensures ∙ c.loop-k.invariant.items ∙ runs_are c.args.draws.now.seed c.loop-k.k all
