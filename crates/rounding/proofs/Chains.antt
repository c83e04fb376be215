-- A chain packed from the places where its cores stood is the chain at the end. Assumes nothing.
use mathlib.Core.Path.{◌≡◌, sym, ap, ◌∙◌}
use Prim.Native.Nat.{ℕ, ◌<◌}
use mathlib.Core.List.{List, map}
use lib.ListN.{length, take, get_or}
use lib.Ieee.{Float}
use Rattle.numbers.specs.Arithmetic.{zero64}
use Rattle.lists.specs.Lists.{joined, flat}
use Rattle.lists.specs.Slots.{slot, fit}
use Rattle.lists.proofs.Tables.{tab_get_d_lem, tab_map, joined_same}
use Rattle.shape.specs.declared.Shape.{Shape}
use Rattle.shape.specs.Shapes.{core_size}
use Rattle.shape.specs.Cores.{Core, chain_after}

module _ (s t : Shape) (work l : List Float) where
  -- cores that stand in `work`, each where the core of shape s begins
  pub packed_is : (o : Core) (cs : List Core) → length cs ≡ s.d → ((k : ℕ) → k < s.d → (get_or cs k o).entries ≡ take (core_size t k) (slot (core_size s) k work))
      → fit zero64 (length l) (joined s.d (λ (k : ℕ). take (core_size t k) (slot (core_size s) k work))) ≡ chain_after l cs
  packed_is o cs all stand =
      ap (fit zero64 (length l))
      (sym (joined_same s.d (λ (k : ℕ). (get_or cs k o).entries) (λ (k : ℕ). take (core_size t k) (slot (core_size s) k work)) stand)
      ∙ ap (λ (n : ℕ). joined n (λ (k : ℕ). (get_or cs k o).entries)) (sym all)
      ∙ ap flat (sym (tab_map (λ (c : Core). c.entries) (length cs) (λ (k : ℕ). get_or cs k o)) ∙ ap (map (λ (c : Core). c.entries)) (tab_get_d_lem o cs)))
