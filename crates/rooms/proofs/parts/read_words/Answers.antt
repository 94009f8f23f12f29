-- `read_words` meets its contract: the words that the list takes are at its front, and are answered for.
use Rattle.rooms.proofs.Steps.{passed_on}
use Rattle.rooms.proofs.Outcomes.{whole_so, first_bad_number, first_answered}
use Rattle.rooms.proofs.parts.read_words.Goals as goal

pub returns-in_err-count : goal.returns-in_err-count
returns-in_err-count c =
    record {
      result = passed_on c.from_residual.ensures.1 (first_bad_number c.args.sheet.now c.args.words.now c.args.space c.in_err-count.ensures.result);
      words = c.decode_sheet.ensures.words;
    }

pub returns : goal.returns
returns c =
    record {
      result = first_answered c.args.sheet.now c.args.words.now c.args.space (whole_so _ c.in_ok-count.ensures.result) c.decode_sheet.ensures.words c.min-front.ensures c.answer_for.ensures.result;
      words = c.decode_sheet.ensures.words;
    }
