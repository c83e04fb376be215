-- The call: a rounding from zone 0 on is the rounding of the chain, and what is held then is the call's end. Assumes nothing.
use mathlib.Core.Path.{◌≡◌, refl, sym, ap, ◌∙◌, subst}
use Prim.Native.Nat.{ℕ, zero, suc, ◌+◌, ◌-◌, ◌*◌, ◌≤◌, ◌<◌, suc-le-suc}
use native.Mathlib.Nat.{zero-add, sub-zero, le_refl, zero-lt-suc}
use native.Mathlib.Omega.{arith}
use mathlib.Core.Bool.{Bool, true, false, cond}
use mathlib.Core.List.{List, [], ◌∷◌, ◌++◌, map}
use lib.Dec.{ltb}
use lib.ListN.{length, take, drop, get_or, replicate, length-map, length-replicate, replicate-append-replicate, get_or-map}
use lib.Seq.{take_all, take_at, drop_at, length-take-le}
use lib.Ieee.{Float}
use Rattle.numbers.specs.Arithmetic.{zero64}
use Rattle.answers.specs.declared.Refusal.{Refusal}
use Rattle.answers.specs.declared.Refusal.TheVariants.{Length, Number, Setting}
use Rattle.std.specs.Prelude.{Ok, Err}
use Rattle.answers.specs.Outcome.{Answer, Check, bind, outcome_of, ◌then◌}
use Rattle.answers.proofs.Checks.{verdict_passed, verdict_refused, then_is}
use Rattle.answers.proofs.Late.{Early, early_demand, early_then, early_each}
use Rattle.answers.proofs.Outcomes.{bind_ok, ok_inj, ok_err, err_inj}
use Rattle.lists.specs.Lists.{listed, tab, flat, pick, joined}
use Rattle.lists.specs.Slots.{offset, slot, fit, laid, write}
use Rattle.lists.specs.Walks.{walk}
use Rattle.lists.specs.Floats.{zeros}
use Rattle.lists.proofs.Tables.{listed_same, listed_length, get_or_tab_lem}
use Rattle.lists.proofs.Slots.{slot_before, slot_length, offset_mono, laid_length, fit_whole, fit_used}
use Rattle.lists.proofs.Written.{written_slot}
use Rattle.lists.proofs.Asked.{lengths_say}
use Rattle.lists.proofs.Walks.{All, all_at, listed_all, walk_all, walk_length}
use Rattle.shape.specs.declared.Shape.{Shape}
use Rattle.shape.specs.Limits.{most_axes, most_rank, scratch_for}
use Rattle.shape.specs.Shapes.{left_of, points_of, right_of, chain_ok, core_size, entries_of}
use Rattle.shape.specs.Sizes.{Inside}
use Rattle.shape.specs.Cores.{Core, core_with, core_at, cores_of, packed, standing, reshaped, chain_after}
use Rattle.shape.proofs.Early.{early_shape}
use Rattle.shape.proofs.Ranks.{reshaped_count}
use Rattle.shape.proofs.Insides.{inside_itself, inside_size}
use Rattle.shape.proofs.Shaped.{Shaped}
use Rattle.shape.proofs.Packing.{Fitting, cut_pack}
use Rattle.cutform.specs.declared.Cutting.{Cutting}
use Rattle.cutform.specs.Bonds.{no_bond, cut_bond}
use Rattle.cutform.specs.declared.Rounded.{Rounded}
use Rattle.std.specs.Result.{IfOk}
use Rattle.cuts.specs.declared.Walked.{Walked}
use Rattle.cutform.specs.Rounding.{Carry, none, some, Cut, taken_in, cut_if, round_core, rounding, cores_in, bonds_in}
use Rattle.cutform.specs.Keeping.{bond_size, Stepped, keep_step, carry_left, round_from}
use Rattle.cutform.specs.Call.{Ended, scratch_after, ended_as, ended_by, lengths_ok, round_finite, round_ok, round_call}
use Rattle.cuts.specs.Slots.{unrounded, AtZone, held_by}
use Rattle.rounding.specs.Slots.{finished}
use Rattle.rounding.specs.Left.{left_by}
use Rattle.cutform.proofs.BondSlots.{carries_most}
use Rattle.cuts.proofs.From.{bonds_most, at_start}
use Rattle.rounding.proofs.Chains.{packed_is}
use Rattle.cutform.proofs.Late.{late_rounding}
use Rattle.cutform.proofs.Cuts.{volume, round_of}

-- ---- what stands in the work before any turn is the chain
module _ (cutting : Cutting) (s : Shape) (l work : List Float) (long : length l ≡ entries_of s) (same : take (entries_of s) work ≡ l) where
  standing_source : (k : ℕ) → k < s.d → core_at s l k ≡ standing s s work k
  unfolding standing core_at
  standing_source k lt =
      let e : slot (core_size s) k l ≡ slot (core_size s) k work = slot_before (core_size s) k s.d l work lt (take_all (entries_of s) l (omega arith) ∙ sym same) in
      let m = offset_mono (core_size s) (suc k) s.d lt in
      let n = slot_length (core_size s) k l (omega arith) in
      ap (core_with (left_of s k) (points_of s k) (right_of s k)) (e ∙ sym (take_all (core_size s k) (slot (core_size s) k work) (omega (arith, n, ap length e))))

  pub source_walk : (h : Stepped) → h.chain ≡ work → rounding cutting (cores_of s l) ≡ walk (λ (k : ℕ). round_core cutting (ltb (suc k) s.d) k) 0 (carry_left s s h 0) (listed (s.d - 0) 0 (standing s s h.chain))
  unfolding rounding cores_of carry_left
  source_walk h e =
      ap (λ (n : ℕ). walk (λ (k : ℕ). round_core cutting (ltb (suc k) n) k) 0 none (tab s.d (core_at s l))) (listed_length s.d 0 (core_at s l))
      ∙ ap (λ (cs : List Core). walk (λ (k : ℕ). round_core cutting (ltb (suc k) s.d) k) 0 none cs) (listed_same s.d 0 (core_at s l) (standing s s work) (λ k a b. standing_source k (omega arith)))
      ∙ ap (λ (n : ℕ). walk (λ (k : ℕ). round_core cutting (ltb (suc k) s.d) k) 0 none (listed n 0 (standing s s work))) (sym (sub-zero s.d))
      ∙ ap (λ (x : List Float). walk (λ (k : ℕ). round_core cutting (ltb (suc k) s.d) k) 0 none (listed (s.d - 0) 0 (standing s s x))) (sym e)

all_map : {R : Type 0} {P Q : ℕ → R → Type 0} → ((j : ℕ) (r : R) → P j r → Q j r) → (k : ℕ) (rs : List R) → All P k rs → All Q k rs
all_map f k [] a = tt
all_map f k (r ∷ rs) a = (f k r a.0, all_map f (suc k) rs a.1)

-- ---- what each zone left
module _ (cutting : Cutting) (s : Shape) where
  abbrev Fine : ℕ → Core → Type 0
  Fine k c = (length c.entries ≡ volume c) × (c.n ≡ points_of s k)

  abbrev Left : ℕ → Carry × Cut → Type 0
  Left k r = (length r.1.core.entries ≡ volume r.1.core) × (r.1.core.n ≡ points_of s k) × (length r.1.bonds ≡ bond_size s k)

  counted : (more : Bool) (k : ℕ) (c : Core) (r : Carry × Cut) → cut_if more k cutting c ≡ Ok r → length r.1.bonds ≡ cond {A = ℕ} more 1 0
  counted false k c r h = ap (λ (x : Carry × Cut). length x.1.bonds) (sym (ok_inj h))
  counted true k c r h =
      let A = bind_ok (cut_bond k cutting c) (λ b. Ok (some b.bond.rank b.carry, record { core = b.core; bonds = b.bond ∷ [] })) r h in
      ap (λ (x : Carry × Cut). length x.1.bonds) (sym (ok_inj A.2))

  one_left : (k : ℕ) (y : Carry) (c : Core) (r : Carry × Cut) → Fine k c → round_core cutting (ltb (suc k) s.d) k y c ≡ Ok r → Left k r
  unfolding round_core bond_size
  one_left k y c r f h =
      let C = round_of cutting k y c r (ltb (suc k) s.d) f.0 h in
      let A = bind_ok (taken_in k y c) (λ t. cut_if (ltb (suc k) s.d) k cutting t) r h in
      (C.long, C.points ∙ f.1, counted (ltb (suc k) s.d) k A.0 r A.2)

  -- the source's cores are as long as their sizes say
  module _ (h : Stepped) (long : entries_of s ≤ length h.chain) (tr : List (Carry × Cut))
      (e : walk (λ (k : ℕ). round_core cutting (ltb (suc k) s.d) k) 0 (carry_left s s h 0) (listed (s.d - 0) 0 (standing s s h.chain)) ≡ Ok tr) where
    sources : All Fine 0 (listed (s.d - 0) 0 (standing s s h.chain))
    unfolding standing core_size
    sources = listed_all Fine (s.d - 0) 0 (standing s s h.chain) (λ j a b.
        let m = offset_mono (core_size s) (suc j) s.d (omega arith) in
        (length-take-le (core_size s j) (slot (core_size s) j h.chain) (omega (arith, slot_length (core_size s) j h.chain (omega arith))), refl))

    lefts : All Left 0 tr
    lefts = walk_all (λ (k : ℕ). round_core cutting (ltb (suc k) s.d) k) Fine Left one_left 0 (carry_left s s h 0) (listed (s.d - 0) 0 (standing s s h.chain)) tr sources e

    tr_length : length tr ≡ s.d
    tr_length = walk_length (λ (k : ℕ). round_core cutting (ltb (suc k) s.d) k) 0 (carry_left s s h 0) (listed (s.d - 0) 0 (standing s s h.chain)) tr e ∙ listed_length (s.d - 0) 0 (standing s s h.chain) ∙ sub-zero s.d

    abbrev none_left : Carry × Cut
    none_left = (none, record { core = core_with 0 0 0 []; bonds = [] })

    left_at : (k : ℕ) → k < s.d → Left k (get_or tr k none_left)
    left_at k lt = subst (λ (j : ℕ). Left j (get_or tr k none_left)) (zero-add k) (all_at Left 0 tr lefts k none_left (omega (arith, tr_length)))

    -- ---- the bonds
    laid_all : {A : Type 0} (o : A) (f : Carry × Cut → List A) (k : ℕ) (rs : List (Carry × Cut)) → All (λ (j : ℕ) (r : Carry × Cut). length (f r) ≡ bond_size s j) k rs → laid (bond_size s) o k (map f rs) ≡ flat (map f rs)
    unfolding laid flat fit
    laid_all o f k [] a = refl
    laid_all {A} o f k (r ∷ rs) a =
        ap (λ (y : List A). y ++ laid (bond_size s) o (suc k) (map f rs)) (take_at (f r) (replicate (bond_size s k) o) (bond_size s k) a.0)
        ∙ ap (λ (y : List A). f r ++ y) (laid_all o f (suc k) rs a.1)

    -- over arrays that were all o
    array_is : {A : Type 0} (o : A) (f : Carry × Cut → List A)
        → All (λ (j : ℕ) (r : Carry × Cut). length (f r) ≡ bond_size s j) 0 tr → s.d ≤ most_axes
        → write (bond_size s) o s.d 0 (map f tr) (replicate most_axes o) ≡ fit o most_axes (flat (map f tr))
    unfolding write offset
    array_is {A} o f a m =
        let L = laid (bond_size s) o 0 (map f tr) in
        let b = laid_length (bond_size s) o 0 (map f tr) in
        let c : offset (bond_size s) (0 + length (map f tr)) ≡ offset (bond_size s) s.d = ap (offset (bond_size s)) (zero-add (length (map f tr)) ∙ length-map tr f ∙ tr_length) in
        let n : length L ≡ offset (bond_size s) s.d = omega (arith, b, c) in
        let most : offset (bond_size s) s.d ≤ most_axes = omega (arith, bonds_most s s.d) in
        let k = most_axes - offset (bond_size s) s.d in
        let q : most_axes ≡ offset (bond_size s) s.d + k = omega arith in
        let r : drop (offset (bond_size s) s.d) (replicate most_axes o) ≡ replicate k o =
        ap (λ (i : ℕ). drop (offset (bond_size s) s.d) (replicate i o)) q ∙ ap (drop (offset (bond_size s) s.d)) (sym (replicate-append-replicate (offset (bond_size s) s.d) k o))
        ∙ drop_at (replicate (offset (bond_size s) s.d) o) (replicate k o) (offset (bond_size s) s.d) (length-replicate (offset (bond_size s) s.d) o) in
        let z : most_axes - length L ≡ k = omega arith in
        ap (λ (y : List A). L ++ y) (r ∙ ap (λ (i : ℕ). replicate i o) (sym z))
        ∙ sym (fit_whole o most_axes L (omega arith))
        ∙ ap (fit o most_axes) (laid_all o f 0 tr a)

    bonds_all : All (λ (j : ℕ) (r : Carry × Cut). length r.1.bonds ≡ bond_size s j) 0 tr
    bonds_all = all_map (λ j r p. p.2) 0 tr lefts

    -- ---- the cores in the work, and the shape
    core_in_lem : (k : ℕ) → get_or (cores_in tr) k none_left.1.core ≡ (get_or tr k none_left).1.core
    core_in_lem k = get_or-map (λ (r : Carry × Cut). r.1.core) tr k none_left

    module _ (shp : s.d ≤ length s.left) (shq : s.d ≤ length s.right) where
      fitting : Fitting s (cores_in tr)
      fitting = record {
        all = length-map tr (λ (r : Carry × Cut). r.1.core) ∙ tr_length;
        left = shp;
        right = shq;
        points = λ k lt. ap (λ (c : Core). c.n) (core_in_lem k) ∙ (left_at k lt).1;
        long = λ k lt. subst (λ (c : Core). length c.entries ≡ c.rl * c.n * c.rr) (sym (core_in_lem k)) (left_at k lt).0;
      }

      size_is : (k : ℕ) → k < s.d → core_size (reshaped 0 s (cores_in tr)) k ≡ length (get_or tr k none_left).1.core.entries
      unfolding cores_of core_at core_size
      size_is k lt =
          let t = reshaped 0 s (cores_in tr) in
          let d : t.d ≡ s.d = reshaped_count 0 s (cores_in tr) in
          let c : core_at t (packed (cores_in tr) ++ []) k ≡ (get_or tr k none_left).1.core =
          sym (get_or_tab_lem t.d (core_at t (packed (cores_in tr) ++ [])) k none_left.1.core (omega (arith, d))) ∙ ap (λ (l : List Core). get_or l k none_left.1.core) (cut_pack s (cores_in tr) fitting []) ∙ core_in_lem k in
          ap (λ (x : Core). x.rl * x.n * x.rr) c ∙ sym (left_at k lt).0

      -- what a walk that went through leaves is the call's end
      pub ended_fits : (l w : List Float) → s.d ≤ most_axes → (x : Walked) (work carries : List Float) → h.bonds ≡ replicate most_axes no_bond
          → reshaped 0 s (cores_in tr) ≡ x.shape → keep_step s 0 tr h ≡ held_by x work carries → Inside s x.shape → length work ≡ length w
          → ended_by s l w (Ok tr) ≡ finished s (Ok x) l work
      unfolding ended_as keep_step scratch_after
      ended_fits l w m x work carries hb g k I n =
          let a : x.bonds ≡ fit no_bond most_axes (bonds_in tr) =
          ap (λ (y : Stepped). y.bonds) (sym k) ∙ ap (write (bond_size s) no_bond s.d 0 (map (λ (r : Carry × Cut). r.1.bonds) tr)) hb
          ∙ array_is no_bond (λ (r : Carry × Cut). r.1.bonds) bonds_all m in
          let c : fit zero64 (length l) (joined s.d (λ (j : ℕ). take (core_size x.shape j) (slot (core_size s) j work))) ≡ chain_after l (cores_in tr) =
          packed_is s x.shape work l none_left.1.core (cores_in tr) (length-map tr (λ (r : Carry × Cut). r.1.core) ∙ tr_length) (λ j lt. stands j lt) in
          rw (a, ← g, n)
          (ap (λ (y : List Float). record { result = record { verdict = Ok tt; shape = reshaped 0 s (cores_in tr); bonds = fit no_bond most_axes (bonds_in tr) }; chain = y; scratch = zeros (length w) })
          (sym c ∙ ap (λ (t : Shape). fit zero64 (length l) (joined s.d (λ (j : ℕ). take (core_size t j) (slot (core_size s) j work)))) (sym g)))
        where
          stands : (j : ℕ) → j < s.d → (get_or (cores_in tr) j none_left.1.core).entries ≡ take (core_size x.shape j) (slot (core_size s) j work)
          stands j lt =
              let E = (get_or tr j none_left).1.core.entries in
              let z : core_size x.shape j ≡ length E = ap (λ (t : Shape). core_size t j) (sym g) ∙ size_is j lt in
              let y : slot (core_size s) j work ≡ fit zero64 (core_size s j) E =
              ap (λ (y : Stepped). slot (core_size s) j y.chain) (sym k) ∙ written_slot (core_size s) zero64 s.d (λ (r : Carry × Cut). r.1.core.entries) none_left refl tr h.chain j tr_length lt in
              ap (λ (c : Core). c.entries) (core_in_lem j)
              ∙ sym (ap (λ (i : ℕ). take i (slot (core_size s) j work)) z ∙ ap (take (length E)) y ∙ fit_used zero64 (core_size s j) E (omega (arith, z, inside_size s x.shape I j lt)))

-- a rank that isn't 0 has a place
places_there : (l : List ℕ) (d : ℕ) → 1 ≤ d → 1 ≤ get_or l (d - 1) 0 → d ≤ length l
places_there l d o h = let g : d - 1 < length l = go l (d - 1) h in omega arith
  where
    go : (l : List ℕ) (k : ℕ) → 1 ≤ get_or l k 0 → k < length l
    go [] k e = let z : ⊥ = omega arith in absurd z
    go (x ∷ l) zero e = zero-lt-suc (length l)
    go (x ∷ l) (suc k) e = suc-le-suc (go l k e)

-- ---- the call's work, by what `round_from` says of it
module _ (cutting : Cutting) (s : Shape) (l w start : List Float) (long : length l ≡ entries_of s) (same : take (length l) start ≡ l) (wide : entries_of s ≤ length start) (shp : Shaped s)
    (u : Walked) (i : u ≡ unrounded s) (held : List Float) (o : Answer Walked) (work carries : List Float)
    (e : round_from cutting s 0 u.shape (held_by u start held) ≡ outcome_of o (λ (x : Walked). (x.shape, held_by x work carries)))
    (I : IfOk o (λ (x : Walked). Inside s x.shape)) (n : length work ≡ length w) where
  abbrev h : Stepped
  h = held_by (unrounded s) start held

  abbrev m : s.d ≤ most_axes
  m = shp.most

  abbrev a : s.d ≤ length s.left
  a = places_there s.left s.d shp.least (shp.sizes.left (s.d - 1) (omega (arith, shp.least))).0

  abbrev b : s.d ≤ length s.right
  b = places_there s.right s.d shp.least (shp.sizes.right (s.d - 1) (omega (arith, shp.least))).0

  abbrev whole : Answer (List (Carry × Cut))
  whole = walk (λ (k : ℕ). round_core cutting (ltb (suc k) s.d) k) 0 (carry_left s s h 0) (listed (s.d - 0) 0 (standing s s start))

  by_outcome : (a : Answer (List (Carry × Cut))) → whole ≡ a → (v : Answer Walked) → IfOk v (λ (x : Walked). Inside s x.shape)
      → bind {B = Shape × Stepped} a (λ tr. Ok (reshaped 0 s (cores_in tr), keep_step s 0 tr h)) ≡ outcome_of v (λ (x : Walked). (x.shape, held_by x work carries))
      → ended_by s l w a ≡ finished s v l work
  unfolding outcome_of ended_as scratch_after pick
  by_outcome (Ok tr) f (Ok x) I g =
      let p = ok_inj g in
      ended_fits cutting s h wide tr f a b l w m x work carries refl (ap (λ (y : Shape × Stepped). y.0) p) (ap (λ (y : Shape × Stepped). y.1) p) I n
  by_outcome (Ok tr) f (Err q) I g = absurd (ok_err g)
  by_outcome (Err r) f (Ok x) I g = absurd (ok_err (sym g))
  by_outcome (Err r) f (Err q) I g =
      let t = late_rounding cutting s.d 0 (carry_left s s h 0) (listed (s.d - 0) 0 (standing s s start)) r f in
      let u = err_inj g in
      rw (t, n) (ap (λ (y : Refusal). record { result = record { verdict = Err y; shape = s; bonds = replicate most_axes no_bond }; chain = l; scratch = zeros (length w) }) u)

  pub ended_is : ended_by s l w (rounding cutting (cores_of s l)) ≡ finished s o l work
  unfolding round_from
  ended_is =
      ap (ended_by s l w) (source_walk cutting s l start long (subst (λ (j : ℕ). take j start ≡ l) long same) h refl)
      ∙ by_outcome whole refl o I (subst (λ (y : Walked). round_from cutting s 0 y.shape (held_by y start held) ≡ outcome_of o (λ (x : Walked). (x.shape, held_by x work carries))) i e)

-- ---- the parts of the code
pub loaded : (l scratch x : List Float) → x ≡ l → take (length l) (x ++ drop (length l - 0) scratch) ≡ l
loaded l scratch x e = ap (λ (y : List Float). take (length l) (y ++ drop (length l - 0) scratch)) e ∙ take_at l (drop (length l - 0) scratch) (length l) refl

-- the call's end: c and z are what `leave` left
module _ (s : Shape) (w : Answer Walked) (chain scratch : List Float) (c z : List Float) (g : c ≡ left_by w s chain scratch) (f : z ≡ zeros (length scratch)) (r : Rounded) where
  pub finish_stops : (q : Refusal) → w ≡ Err q → r ≡ record { verdict = Err q; shape = s; bonds = replicate most_axes no_bond }
      → ◌≡◌ {A = Ended} (record { result = r; chain = c; scratch = z }) (finished s w chain scratch)
  finish_stops q v e = let h : c ≡ chain = g ∙ ap (λ (y : Answer Walked). left_by y s chain scratch) v in rw (v, e, f, h)

  pub finish_goes : (x : Walked) → w ≡ Ok x → r ≡ record { verdict = Ok tt; shape = x.shape; bonds = x.bonds }
      → ◌≡◌ {A = Ended} (record { result = r; chain = c; scratch = z }) (finished s w chain scratch)
  finish_goes x v e = let h : c ≡ left_by (Ok x) s chain scratch = g ∙ ap (λ (y : Answer Walked). left_by y s chain scratch) v in rw (v, e, f, h)

-- before any turn, whatever carries stand in their room
pub start_at : (s : Shape) (u : Walked) (work carries : List Float) → Shaped s → u ≡ unrounded s → length s.left ≡ most_axes → length s.right ≡ most_axes → entries_of s ≤ length work → most_axes * (most_rank * most_rank) ≤ length carries
    → AtZone s 0 0 u.shape (held_by u work carries)
start_at s u work carries h e a b c d =
    subst (λ (u : Walked). AtZone s 0 0 u.shape (held_by u work carries)) (sym e)
    (at_start s s (held_by (unrounded s) work carries) h.joins (inside_itself s h) h.least a b refl c (omega (arith, carries_most s h.sizes s.d (le_refl s.d))))

-- ---- the call, by the verdict of its checks
pub early_lengths : (s : Shape) (i chain j scratch : ℕ) → Early (lengths_ok s i chain j scratch)
unfolding lengths_ok
early_lengths s i chain j scratch = early_then _ _ (early_demand _ (Length i) refl) (early_demand _ (Length j) refl)

early_round : (s : Shape) (cutting : Cutting) (chain : List Float) (scratch : ℕ) → Early (round_ok s cutting chain scratch)
unfolding round_ok round_finite
early_round s cutting chain scratch =
    early_then _ _ (early_shape s (λ (k : ℕ). true))
    (early_then _ _ (early_lengths s 0 (length chain) 1 scratch)
    (early_then _ _ (early_then _ _ (early_demand _ (Number 0) refl) (early_each Number _ s.d 0 (λ j. refl))) (early_demand _ (Setting 0) refl)))

module _ (s : Shape) (cutting : Cutting) (chain scratch : List Float) (v : Check) (e : v ≡ round_ok s cutting chain (length scratch)) where
  pub round_stops : (q : Refusal) → v ≡ Err q → (r : Rounded) → r ≡ record { verdict = Err q; shape = s; bonds = replicate most_axes no_bond }
      → ◌≡◌ {A = Ended} (record { result = r; chain = chain; scratch = scratch }) (round_call s cutting chain scratch)
  unfolding round_call ended_as scratch_after pick
  round_stops q h r f =
      let g = verdict_refused (round_ok s cutting chain (length scratch)) v q e h in
      let b = (early_round s cutting chain (length scratch)).first q g in
      rw (f, g, b)

  module _ (h : v ≡ Ok tt) where
    abbrev passed : round_ok s cutting chain (length scratch) ≡ Ok tt
    passed = verdict_passed (round_ok s cutting chain (length scratch)) v e h

    pub round_asks : (chain_ok s ≡ Ok tt) × ((length chain ≡ entries_of s) × (entries_of s ≤ length scratch))
    unfolding round_ok lengths_ok
    round_asks =
        let a = then_is (chain_ok s) _ tt passed in
        let b = then_is (lengths_ok s 0 (length chain) 1 (length scratch)) _ tt a.1 in
        let c = lengths_say (length chain) (entries_of s) (length scratch) (scratch_for (entries_of s)) (Length 0) (Length 1) b.0 in
        (a.0, (c.0, omega (arith, c.1)))

    pub round_goes : (x : Ended) → x ≡ ended_by s chain scratch (rounding cutting (cores_of s chain)) → x ≡ round_call s cutting chain scratch
    unfolding round_call
    round_goes x f = f ∙ sym (ap (λ (c : Check). ended_by s chain scratch (c then rounding cutting (cores_of s chain))) passed)

pub ruleset finish_ends = (finish_stops, finish_goes)

pub ruleset round_call_ends = (round_asks, round_goes)
