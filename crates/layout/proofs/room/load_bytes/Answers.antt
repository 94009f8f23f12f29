-- `load_bytes` meets its contract: the words that are loaded decide.
use mathlib.Core.Path.{ap, ◌∙◌}
use Prim.Native.Nat.{ℕ, suc, ◌≤◌}
use native.Mathlib.Omega.{arith}
use lib.ListN.{length, replicate, length-replicate}
use Rattle.rooms.specs.Table.{most_servers, most_words}
use Rattle.layout.specs.Outcome.{loaded_of}
use Rattle.layout.proofs.Loads.{bytes_loading, bytes_demands}
use Rattle.layout.proofs.room.load_bytes.Goals as goal

-- The lists take enough words.
long : (n : ℕ) → n ≤ length {A = ℕ} (replicate n 0)
long n = omega (arith, length-replicate {A = ℕ} n 0)

pub returns-clause-answer : goal.returns-clause-answer
returns-clause-answer c =
    c.load_room.ensures.answer
    ∙ ap loaded_of (bytes_loading c.args.table.now c.args.demands.now _ _ (long (suc most_words)) (long (suc most_servers))
    c.load-word_count.ensures.count c.load-word_count.ensures.loaded c.load-figure_count.ensures.count c.load-figure_count.ensures.loaded)

pub returns-clause-lists : goal.returns-clause-lists
returns-clause-lists c =
    let cut = bytes_loading c.args.table.now c.args.demands.now _ _ (long (suc most_words)) (long (suc most_servers))
    c.load-word_count.ensures.count c.load-word_count.ensures.loaded c.load-figure_count.ensures.count c.load-figure_count.ensures.loaded in
    let all = bytes_demands c.args.table.now c.args.demands.now _ _ (long (suc most_words)) (long (suc most_servers))
    c.load-word_count.ensures.count c.load-word_count.ensures.loaded c.load-figure_count.ensures.count c.load-figure_count.ensures.loaded in
    λ r e. rw (← all r e) (c.load_room.ensures.lists r (cut ∙ e))
