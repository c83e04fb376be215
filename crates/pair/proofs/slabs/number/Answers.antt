use Rattle.lists.proofs.Turns.{turns}
use Rattle.lists.proofs.Cells.{exacts}
use Rattle.pair.specs.SlabLoops.{slab_at}
use Rattle.pair.proofs.slabs.number.Goals as goal

ruleset ways = (turns, exacts)

pub loop-im-init : goal.loop-im-init
unfolding slab_at
loop-im-init c = search ways

pub overflow_mul-row : goal.overflow_mul-row
unfolding slab_at
overflow_mul-row c = search ways

pub overflow_add-row : goal.overflow_add-row
unfolding slab_at
overflow_add-row c = search ways

pub offset_bounds-left-row : goal.offset_bounds-left-row
unfolding slab_at
offset_bounds-left-row c = search ways

pub bounds-left-row : goal.bounds-left-row
unfolding slab_at
bounds-left-row c = search ways

pub overflow_mul-im : goal.overflow_mul-im
unfolding slab_at
overflow_mul-im c = search ways

pub overflow_add-im : goal.overflow_add-im
unfolding slab_at
overflow_add-im c = search ways

pub offset_bounds-right-im : goal.offset_bounds-right-im
unfolding slab_at
offset_bounds-right-im c = search ways

pub bounds-right-im : goal.bounds-right-im
unfolding slab_at
bounds-right-im c = search ways

pub plus_product-s-requires : goal.plus_product-s-requires
unfolding slab_at
plus_product-s-requires c = search ways

pub overflow_step-im : goal.overflow_step-im
unfolding slab_at
overflow_step-im c = search ways

pub loop-im-smaller : goal.loop-im-smaller
unfolding slab_at
loop-im-smaller c = search ways

pub loop-im-preserved : goal.loop-im-preserved
unfolding slab_at
loop-im-preserved c = search ways

pub returns : goal.returns
unfolding slab_at
returns c = search ways
