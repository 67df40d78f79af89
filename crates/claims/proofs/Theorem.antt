-- The claims hold of every kernel file that is accepted.
use mathlib.Core.Path.{◌≡◌}
use mathlib.Core.List.{List}
use Prim.Native.Nat.{ℕ}
use Rattle.file_format.specs.Accepted.{Program}
use Rattle.file_verdict.specs.Verdict.{accepted, verdict}
use Rattle.claims.specs.Claims.{Claims}
use Rattle.claims.proofs.Demand2.{records, demand2, placement, codes, whole, bytes}
use Rattle.claims.proofs.Demand3.{demand3, runs, bounds}
use Rattle.claims.proofs.Over.{over}
use Rattle.claims.proofs.Progress.{progress}
use Rattle.claims.proofs.Finishes.{finishes}

pub claims : (s : List ℕ) (k : Program) → verdict s ≡ accepted k → Claims s k
claims s k e = record {
  records = records s k e;
  demand2 = demand2 s k e;
  placement = placement s k e;
  codes = codes s k e;
  whole = whole s k e;
  bytes = bytes s k e;
  demand3 = demand3 s k e;
  over = over s k e;
  progress = progress s k e;
  finishes = finishes s k e;
  runs = runs s k e;
  bounds = bounds s k e;
}
