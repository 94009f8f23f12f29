-- The promises, each proved under its name.
use Rattle.splits.specs.Promises.{SplitWhole, SplitWithin, ShortWaySplits, LongWaySplits}
use Rattle.splits.proofs.Splits.{split-sum, split_le}
use Rattle.splits.proofs.Ways.{split_in_is, short_fits}

pub split_whole : SplitWhole
split_whole = split-sum

pub split-within : SplitWithin
split-within = split_le

pub short_way_splits : ShortWaySplits
short_way_splits amount weights short_amount short_weights = split_in_is 32 amount weights (short_fits amount _ short_amount short_weights)

pub long_way_splits : LongWaySplits
long_way_splits = split_in_is 64
