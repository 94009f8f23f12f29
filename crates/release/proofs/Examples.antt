-- The definitions computed at written-out bytes.
use mathlib.Core.Path.{◌≡◌, refl}
use lib.ListN.{length}
use Rattle.release.specs.Release.{decimal, mark}

-- "0042" is 42.
pub forty_two : decimal 48 48 52 50 ≡ 42
forty_two = refl

-- The mark has 32 bytes.
pub mark-length : length mark ≡ 32
mark-length = refl
