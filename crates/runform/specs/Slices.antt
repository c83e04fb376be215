-- The slices of a run, listed once, with one thing of each: its numbers, its length, what a call is lent for it. Definitions only.
use Rattle.std.specs.Prelude.{ℕ, suc, List, [], ◌∷◌, length}

-- what it keeps: the stepped chain, the carries of its bonds, the partial sums
pub record Outputs (A : Type 0) : Type 0 where
  pub chain : A
  pub carries : A
  pub sums : A

-- what it is made from, then what it keeps: every call is lent them in this order
pub record Slices (A : Type 0) : Type 0 where
  pub source : A
  pub weights : A
  pub outputs : Outputs A

abbrev pub outputs : {A : Type 0} → A → A → A → Outputs A
outputs chain carries sums = record { chain = chain; carries = carries; sums = sums }

abbrev pub slices : {A : Type 0} → A → A → A → A → A → Slices A
slices source weights chain carries sums = record { source = source; weights = weights; outputs = outputs chain carries sums }

-- one after another
abbrev pub outputs_in_order : {A : Type 0} → Outputs A → List A
outputs_in_order m = m.chain ∷ m.carries ∷ m.sums ∷ []

abbrev pub in_order : {A : Type 0} → Slices A → List A
in_order m = m.source ∷ m.weights ∷ outputs_in_order m.outputs

-- how many they are: what a call is lent behind them, a new part and then scratch, has the places from there on
abbrev pub slice_count : ℕ
slice_count = length (in_order (slices {A = ℕ} 0 0 0 0 0))

abbrev pub behind_part : ℕ
behind_part = suc slice_count

-- slice by slice
abbrev pub each_output : {A B : Type 0} → (A → B) → Outputs A → Outputs B
each_output f m = outputs (f m.chain) (f m.carries) (f m.sums)

abbrev pub each_slice : {A B : Type 0} → (A → B) → Slices A → Slices B
each_slice f m = record { source = f m.source; weights = f m.weights; outputs = each_output f m.outputs }

abbrev pub pairwise : {A B C : Type 0} → (A → B → C) → Slices A → Slices B → Slices C
pairwise f m n =
    slices (f m.source n.source) (f m.weights n.weights) (f m.outputs.chain n.outputs.chain)
    (f m.outputs.carries n.outputs.carries) (f m.outputs.sums n.outputs.sums)
