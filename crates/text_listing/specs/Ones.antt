-- How many locations a mask names.
use Rattle.std.specs.Prelude.{ℕ}
use Rattle.std.specs.Int.Count.{ones_in}

-- the ones in a mask of 16 bits
unfoldable pub ones : ℕ → ℕ
ones mask = ones_in 16 mask
