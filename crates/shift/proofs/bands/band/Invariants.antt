-- `shift::bands::band`: the invariant: x is the sum of the first m bands (band_in), whose weights and starts are in the list (rooms).
use mathlib.Core.Path.{◌≡◌}
use Rattle.shift.specs.Starts.{band_in}
use Rattle.shift.proofs.bands.band.Given as goal

abbrev pub invariant-loop-m : goal.invariant-loop-m
invariant-loop-m l = (l.x ≡ band_in l.acc l.t l.j l.weights l.starts l.m)
