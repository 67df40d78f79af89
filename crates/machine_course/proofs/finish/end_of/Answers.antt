-- `machine_course::finish::end_of` meets its contract.
use mathlib.Core.Path.{ap, ap₂, ◌∙◌}
use mathlib.Core.List.{[], ◌∷◌, map}
use native.Mathlib.Omega.{arith}
use lib.ListN.{take}
use Rattle.machine_lane.specs.Lanes.{lane_in}
use Rattle.machine_state.specs.States.{SHARED, MEMORY, LOCKWORDS, LOCATIONS, LOCKS, row_at, stored_in, count_of}
use Rattle.machine_course.proofs.Laws.Ends.{four_blocks}
use Rattle.machine_course.proofs.Laws.Sizes.{firsts_within}
use Rattle.machine_course.proofs.finish.end_of.Goals as goal

pub returns : goal.returns
returns c =
    let lanes = (λ j. map lane_in (c.take-a.ensures j ∷ c.take-b.ensures j ∷ c.take-c.ensures j ∷ c.take-d.ensures j
    ∷ []))
    ∙ ap (map (λ q. lane_in (stored_in q))) (four_blocks c.args.state.now c.requires.0.blocks) in
    let words = (c.requires.0.each SHARED (omega arith)).words in
    let memory = ap₂ take c.word_at-2.ensures c.memory_of-memory.ensures
    ∙ firsts_within (count_of c.args.state.now LOCATIONS) 16 (row_at c.args.state.now SHARED MEMORY) c.requires.1.memory
    (omega (arith, words MEMORY (omega arith))) in
    let locks = ap₂ take c.word_at-3.ensures c.locks_of-locks.ensures
    ∙ firsts_within (count_of c.args.state.now LOCKS) 4 (row_at c.args.state.now SHARED LOCKWORDS) c.requires.1.locks
    (omega (arith, words LOCKWORDS (omega arith))) in
    λ i. record {
      lanes = take (c.word_at.ensures i) (lanes i);
      memory = memory i;
      locks = locks i;
    }
