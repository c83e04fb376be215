-- `pair::slabs::columns`: the rows of the slab are made in a local and looked at; where all are finite they are transposed (columns_stop, columns_end).
use native.Mathlib.Omega.{arith}
use native.Mathlib.Nat.{mul-le-mul}
use Rattle.std.proofs.lemmas.Result.{err_from_is_err_and}
use Rattle.pair.proofs.Columned.{front_is, front_long, columns_stop, columns_end}
use Rattle.pair.proofs.slabs.columns.Goals as goal

pub rows_of-requires : goal.rows_of-requires
rows_of-requires c = (c.requires.0, c.requires.1, mul-le-mul c.requires.3 c.requires.4)

pub overflow_mul-e : goal.overflow_mul-e
overflow_mul-e c = record { fits = omega (arith, mul-le-mul c.requires.3 c.requires.4) }

pub slice_bounds-slab-end : goal.slice_bounds-slab-end
slice_bounds-slab-end c = omega (arith, mul-le-mul c.requires.3 c.requires.4, c.room-2-1.given)

pub returns-in_err-stored : goal.returns-in_err-stored
returns-in_err-stored c =
    let p = err_from_is_err_and c.from_residual.result c.from_residual.ensures.1 in
    rw (p.1, p.2) (columns_stop _ _ _ _ _ _ (front_is _ _ _ _ _ _ _ c.rows_of.ensures) _ c.stored.ensures _ _ c.in_err-stored.was)

pub transpose-requires : goal.transpose-requires
transpose-requires c = (front_long _ _ _ _ _ _ _ c.rows_of.ensures, c.requires.2)

pub returns : goal.returns
returns c = columns_end _ _ _ _ _ _ (front_is _ _ _ _ _ _ _ c.rows_of.ensures) _
    c.stored.ensures c.in_ok-stored.was _
    c.transpose.ensures
