-- Two results that meet one equation are equal; crates/one_end says it of each public call. Assumes nothing.
use mathlib.Core.Path.{◌≡◌, sym, ◌∙◌}

pub same_end : {A : Type 0} (promised x y : A) → x ≡ promised → y ≡ promised → x ≡ y
same_end promised x y p q = p ∙ sym q
