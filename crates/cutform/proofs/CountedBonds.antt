-- Of every bond that a rounding cuts, the count and the flag are those of the stated iteration on the Gram matrix of the core as it then is, and no others are. Assumes nothing.
use Rattle.std.specs.Prelude.{Ok}
use mathlib.Core.Path.{◌≡◌, refl, sym, ap, ◌∙◌, subst}
use Prim.Native.Nat.{ℕ, zero, suc, ◌<◌}
use native.Mathlib.Nat.{zero-add, not-suc-le-zero, le_of_suc-le-suc}
use native.Mathlib.Omega.{arith}
use mathlib.Core.Bool.{Bool, true}
use mathlib.Core.List.{List, [], ◌∷◌, ◌++◌, map}
use lib.Dec.{ltb}
use lib.ListN.{length, get_or}
use Rattle.answers.specs.Outcome.{Answer}
use Rattle.answers.proofs.Outcomes.{bind_ok, ok_inj}
use Rattle.lists.specs.Lists.{flat}
use Rattle.lists.specs.Walks.{state_at}
use Rattle.lists.proofs.Tests.{ltb_yes}
use Rattle.lists.proofs.Tables.{tab_get_d_lem}
use Rattle.lists.proofs.Walks.{All, listed_all, walk_length, from_at, walk_from}
use Rattle.shape.specs.Cores.{Core, core_with}
use Rattle.cutform.specs.Rotation.{eye}
use Rattle.cutform.specs.declared.Bond.{Bond}
use Rattle.cutform.specs.declared.Cutting.{Cutting}
use Rattle.cutform.specs.Sweeps.{eig, most_sweeps}
use Rattle.cutform.specs.Bonds.{gram, no_bond, CutCore, cut_bond}
use Rattle.cutform.specs.Rounding.{Carry, none, some, Cut, taken_in, cut_if, round_core, rounding, bonds_in}
use Rattle.cutform.specs.Claims.{Counted, BondCounted, core_in, RoundCounted}
use Rattle.cutform.proofs.Stages.{stages}
use Rattle.cutform.proofs.Counted.{sweeps_counted, counted_once}

-- ---- one bond
-- a cut that answers one bond, whose sweeps are those of the iteration
record CutCounted (mode k : ℕ) (s : Carry) (c : Core) (r : Carry × Cut) : Type 0 where
  bond : Bond
  bonds : r.1.bonds ≡ bond ∷ []
  told : BondCounted mode k s c bond

cut_counted : (cutting : Cutting) (k : ℕ) (s : Carry) (c : Core) (r : Carry × Cut) → round_core cutting true k s c ≡ Ok r → CutCounted cutting.mode k s c r
unfolding round_core
cut_counted cutting k s c r h =
    let A = bind_ok (taken_in k s c) (λ t. cut_if true k cutting t) r h in
    let B = bind_ok (cut_bond k cutting A.0) (λ b. Ok (some b.bond.rank b.carry, record { core = b.core; bonds = b.bond ∷ [] })) r A.2 in
    let S = stages k cutting A.0 B.0 B.1 in
    let w = S.swept in
    let end = ok_inj B.2 in
    record {
      bond = _;
      bonds = ap (λ (x : Carry × Cut). x.1.bonds) (sym end) ∙ ap (λ (b : CutCore). b.bond ∷ []) (sym S.end);
      told = record { core = A.0; taken = A.1; end = w.eig; counted = sweeps_counted cutting.mode A.0.rr (eig (gram A.0) (eye A.0.rr)) w S.sweeping };
    }

-- ---- every bond
module _ (cutting : Cutting) (cs : List Core) (cuts : List (Carry × Cut)) (ran : rounding cutting cs ≡ Ok cuts) (o : Carry × Cut) where
  abbrev turn : ℕ → Carry → Core → Answer (Carry × Cut)
  turn k = round_core cutting (ltb (suc k) (length cs)) k

  turn_ran : (k : ℕ) → k < length cs → turn k (state_at none cuts k) (core_in cs k) ≡ Ok (get_or cuts k o)
  unfolding rounding
  turn_ran k lt =
      let Own : ℕ → Core → Type 0 = λ j c. c ≡ core_in cs j in
      let Ran : ℕ → Carry → Carry × Cut → Type 0 = λ j s r. turn j s (core_in cs j) ≡ Ok r in
      let own : All Own 0 cs = subst (All Own 0) (tab_get_d_lem (core_with 0 0 0 []) cs) (listed_all Own (length cs) 0 (core_in cs) (λ j a b. refl)) in
      let W = walk_from turn Own Ran (λ j s c r e h. ap (turn j s) (sym e) ∙ h) 0 none cs cuts own ran in
      let n = walk_length turn 0 none cs cuts ran in
      subst (λ (j : ℕ). Ran j (state_at none cuts k) (get_or cuts k o)) (zero-add k) (from_at Ran 0 none cuts W k o (omega arith))

  bond_counted : (k : ℕ) → suc k < length cs → CutCounted cutting.mode k (state_at none cuts k) (core_in cs k) (get_or cuts k o)
  bond_counted k lt =
      cut_counted cutting k (state_at none cuts k) (core_in cs k) (get_or cuts k o)
      (ap (λ (b : Bool). round_core cutting b k (state_at none cuts k) (core_in cs k)) (sym (ltb_yes (suc k) (length cs) lt)) ∙ turn_ran k (omega arith))

  -- so a list that has at k what bond k's cut answered has the sweeps of the rounding
  pub all_counted : (bonds : List Bond) → ((k : ℕ) (b : Bond) → suc k < length cs → (get_or cuts k o).1.bonds ≡ b ∷ [] → get_or bonds k no_bond ≡ b)
      → RoundCounted cutting cs bonds
  all_counted bonds f = record {
    cuts = cuts;
    ran = ran;
    bond = λ k lt.
        let C = bond_counted k lt in
        subst (BondCounted cutting.mode k (state_at none cuts k) (core_in cs k)) (sym (f k C.bond lt C.bonds)) C.told;
  }

-- ---- what a rounding answers: lists of one, one after another
flat_ones : {R A : Type 0} (f : R → List A) (p : R) (o : A) (rs : List R) (k : ℕ) → k < length rs → ((j : ℕ) → j < k → (a : A) × (f (get_or rs j p) ≡ a ∷ []))
    → (a : A) → f (get_or rs k p) ≡ a ∷ [] → get_or (flat (map f rs)) k o ≡ a
unfolding flat
flat_ones f p o [] k lt ones a e = absurd (not-suc-le-zero lt)
flat_ones {A = A} f p o (r ∷ rs) zero lt ones a e = ap (λ (l : List A). get_or (l ++ flat (map f rs)) 0 o) e
flat_ones {A = A} f p o (r ∷ rs) (suc k) lt ones a e =
    ap (λ (l : List A). get_or (l ++ flat (map f rs)) (suc k) o) (ones 0 (omega arith)).1
    ∙ flat_ones f p o rs k (le_of_suc-le-suc lt) (λ j m. ones (suc j) (omega arith)) a e

pub rounding_counted : (cutting : Cutting) (cs : List Core) (cuts : List (Carry × Cut)) → rounding cutting cs ≡ Ok cuts
    → RoundCounted cutting cs (bonds_in cuts)
unfolding rounding
rounding_counted cutting cs cuts ran =
    let o : Carry × Cut = (none, record { core = core_with 0 0 0 []; bonds = [] }) in
    let long = walk_length (turn cutting cs cuts ran o) 0 none cs cuts ran in
    let B = bond_counted cutting cs cuts ran o in
    all_counted cutting cs cuts ran o (bonds_in cuts)
    (λ k b lt e. flat_ones (λ (r : Carry × Cut). r.1.bonds) o no_bond cuts k (omega arith) (λ j m. let C = B j (omega arith) in (C.bond, C.bonds)) b e)

-- ---- and no others are
pub bond_once : {mode k : ℕ} {s : Carry} {c : Core} {a b : Bond} → BondCounted mode k s c a → BondCounted mode k s c b → (a.sweeps ≡ b.sweeps) × (a.settled ≡ b.settled)
bond_once {mode} {b = b} P Q =
    let e : Q.core ≡ P.core = ok_inj (sym Q.taken ∙ P.taken) in
    let O = counted_once P.counted
    (subst (λ (x : Core). Counted mode most_sweeps x.rr (eig (gram x) (eye x.rr)) b.sweeps b.settled Q.end) e Q.counted) in
    (O.0, O.1)

pub round_once : {cutting : Cutting} {cs : List Core} {a b : List Bond} → RoundCounted cutting cs a → RoundCounted cutting cs b
    → (k : ℕ) → suc k < length cs → ((get_or a k no_bond).sweeps ≡ (get_or b k no_bond).sweeps) × ((get_or a k no_bond).settled ≡ (get_or b k no_bond).settled)
round_once {cutting} {cs} {b = b} P Q k lt =
    let e : Q.cuts ≡ P.cuts = ok_inj (sym Q.ran ∙ P.ran) in
    bond_once (P.bond k lt) (subst (λ (x : List (Carry × Cut)). BondCounted cutting.mode k (state_at none x k) (core_in cs k) (get_or b k no_bond)) e (Q.bond k lt))
