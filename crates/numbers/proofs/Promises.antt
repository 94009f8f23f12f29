-- The number form's promises, proved.
use Rattle.numbers.specs.Promises.{NumberReadsBack, NumberWritesBack, SheetReadsBack, SheetWritesBack, WordsHaveForms}
use Rattle.numbers.proofs.NumberLaws.{number-form, form-number}
use Rattle.numbers.proofs.SheetLaws.{sheet_of-bytes_of, bytes_of-sheet_of, words_below}

pub number_reads_back : NumberReadsBack
number_reads_back = number-form

pub number_writes_back : NumberWritesBack
number_writes_back = form-number

pub sheet_reads_back : SheetReadsBack
sheet_reads_back = sheet_of-bytes_of

pub sheet_writes_back : SheetWritesBack
sheet_writes_back = bytes_of-sheet_of

pub words_have_forms : WordsHaveForms
words_have_forms = words_below
