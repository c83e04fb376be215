-- `bond::strips::row`: three loops, by eights, by fours and one by one, with one invariant: the first j entries of the row are stored (row_more, row_whole).
use Prim.Native.Nat.{◌≤◌}
use mathlib.Core.Path.{◌≡◌}
use Rattle.std.proofs.Common.{◌%◌}
use Rattle.bond.specs.Products.{dot_at}
use Rattle.lists.proofs.Strips.{row_to}
use Rattle.bond.proofs.strips.row.Given as goal

abbrev pub invariant-loop-j : goal.invariant-loop-j
invariant-loop-j l = record { whole : l.j % 8 ≡ 0; within : l.j ≤ l.wide; stored : l.out ≡ row_to l.e (dot_at l.b l.p l.q l.a l.w l.c) 0 l.j l.fn.out }

abbrev pub invariant-loop-j-2 : goal.invariant-loop-j-2
invariant-loop-j-2 l = record { whole : l.j % 4 ≡ 0; within : l.j ≤ l.even; stored : l.out ≡ row_to l.e (dot_at l.b l.p l.q l.a l.w l.c) 0 l.j l.fn.out }

abbrev pub invariant-loop-j-3 : goal.invariant-loop-j-3
invariant-loop-j-3 l = l.out ≡ row_to l.e (dot_at l.b l.p l.q l.a l.w l.c) 0 l.j l.fn.out
