-- `read` meets its contract: its own list takes the words that decide, and just those that are accepted are copied.
use Rattle.std.proofs.Common.{suc, length, replicate, sym, ◌∙◌, arith}
use Rattle.rooms.specs.Table.{most_words}
use Rattle.rooms.proofs.Steps.{passed_on}
use Rattle.rooms.proofs.Outcomes.{refused_told, refused_done, accepted_done}
use Rattle.rooms.proofs.Lent.{reading-first, Stands, first_stands}
use Rattle.rooms.proofs.read.Goals as goal
use Rattle.rooms.proofs.read.Goals.{In_ok-count}

pub returns-in_err-count : goal.returns-in_err-count
returns-in_err-count c =
    let same = reading-first c.args.sheet.now (length c.args.table.now) _ (omega arith) in
    let done = refused_done _ c.args.table.now (sym same ∙ refused_told _ c.in_err-count.ensures.result) in
    record {
      result = passed_on c.from_residual.ensures.1 done.0;
      table = done.1;
    }

-- What was read stands at the front of the list.
stands : (c : In_ok-count) → let args = c.args in Stands args.sheet.now (length args.table.now) (replicate (suc most_words) 0) c.read_words.new.words c.in_ok-count.count
stands c = first_stands _ _ _ c.in_ok-count.ensures.result c.in_ok-count.ensures.words

pub slice_bounds-words-end : goal.slice_bounds-words-end
slice_bounds-words-end c = (stands (goal.at.slice_bounds-words-end c).In_ok-count).fits

pub slice_bounds-copy-end : goal.slice_bounds-copy-end
slice_bounds-copy-end c = sym (stands (goal.at.slice_bounds-copy-end c).In_ok-count).counted

pub returns : goal.returns
returns c =
    let s = stands (goal.at.returns c).In_ok-count in
    let both = accepted_done _ _ _ _ (sym (reading-first _ _ _ (omega arith)) ∙ s.is) s.counted c.copy.ensures.copied in
    record { result = both.0; table = both.1 }
