-- `text_listing::measured::list` meets its contract: both calls lay the same text.
use native.Mathlib.Omega.{arith}
use Rattle.sheet_format.proofs.Laws.Put.{measured_whole}
use Rattle.text_listing.proofs.measured.list.Goals as goal

pub returns : goal.returns
returns g c = λ text lays.
    measured_whole (lays _ _ _ c.lay-size.ensures) (omega (arith, c.if-out-size.false)) (lays _ _ _ c.lay-end.ensures)
