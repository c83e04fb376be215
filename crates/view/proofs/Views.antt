-- What a view shows, test by test, and that a view of an accepted chain's core shows its entries. Assumes nothing.
use mathlib.Core.Path.{◌≡◌, refl, sym, ap, ◌∙◌}
use Prim.Native.Nat.{ℕ, suc, ◌+◌, ◌-◌, ◌≤◌, ◌<◌, min}
use native.Mathlib.Omega.{arith}
use mathlib.Core.Bool.{Bool, true, false, ◌&&◌}
use mathlib.Core.Logic.{◌⊎◌, ⊎_elim}
use mathlib.Core.List.{List}
use lib.Dec.{ltb}
use lib.Ieee.{Float, nan}
use lib.ListN.{length, drop}
use lib.Seq.{get_or-take, get_or-drop}
use denote.Ref.{Bor}
use Rattle.answers.specs.declared.Refusal.TheVariants.{Zone}
use Rattle.std.specs.Prelude.{Option, Some, None, option_and_then, option_map, option_copied, unwrap_or, slice_range, Ok, Err}
use Rattle.std.specs.Option.{is_some}
use Rattle.std.specs.Result.{result_ok}
use Rattle.answers.specs.Outcome.{Answer, Check, ◌then◌, demand}
use Rattle.answers.proofs.Checks.{demand_yes, demand_no, then_skip}
use Rattle.lists.specs.Slots.{offset, slot}
use Rattle.lists.specs.Floats.{at}
use Rattle.lists.proofs.Tests.{ltb_yes, ltb_no, ltb_is, ltb_not, and_yes}
use Rattle.lists.proofs.Picks.{pick_true, pick_false}
use Rattle.lists.proofs.Slots.{offset_suc, offset_mono}
use Rattle.shape.specs.declared.Shape.{Shape}
use Rattle.shape.specs.Shapes.{left_of, points_of, right_of, chain_ok, core_size, entries_of}
use Rattle.shape.specs.Cores.{place, entry, core_at}
use Rattle.shape.proofs.Places.{place_lt}
use Rattle.shape.specs.Sizes.{SizesWithin}
use Rattle.shape.proofs.Shaped.{fits_sizes}
use Rattle.view.specs.declared.Spot.{Spot}
use Rattle.view.specs.View.{core_spot, spot_of, view_of, seen_at, seen}

no_left : (a b : Bool) → a ≡ false → a && b ≡ false
no_left a b e = ap (λ (x : Bool). x && b) e

no_right : (a b : Bool) → b ≡ false → a && b ≡ false
no_right true b e = e
no_right false b e = refl

-- ---- test by test
module _ (l : List Float) (p : Spot) (il im ir : ℕ) where
  abbrev i : ℕ
  i = p.start + place p.n p.rr il im ir

  outside : ltb il p.rl && (ltb im p.n && (ltb ir p.rr && ltb i (length l))) ≡ false → None ≡ seen_at l p il im ir
  unfolding seen_at
  outside h = pick_false (Some (at l i)) None None _ h refl

  pub outside_left : p.rl ≤ il → None ≡ seen_at l p il im ir
  outside_left h = outside (no_left (ltb il p.rl) _ (ltb_no il p.rl h))

  pub outside_points : p.n ≤ im → None ≡ seen_at l p il im ir
  outside_points h = outside (no_right (ltb il p.rl) _ (no_left (ltb im p.n) _ (ltb_no im p.n h)))

  pub outside_right : p.rr ≤ ir → None ≡ seen_at l p il im ir
  outside_right h = outside (no_right (ltb il p.rl) _ (no_right (ltb im p.n) _ (no_left (ltb ir p.rr) _ (ltb_no ir p.rr h))))

  behind : length l ≤ i → None ≡ seen_at l p il im ir
  behind h = outside (no_right (ltb il p.rl) _ (no_right (ltb im p.n) _ (no_right (ltb ir p.rr) _ (ltb_no i (length l) h))))

  pub outside_chain : length l ≤ p.start → None ≡ seen_at l p il im ir
  outside_chain h = behind (omega arith)

  -- j is the place, cut off at what is left of the chain
  module _ (j : ℕ) (e : j ≡ min (place p.n p.rr il im ir) (length l - p.start)) where
    pub outside_place : length l - p.start ≤ j → None ≡ seen_at l p il im ir
    outside_place h = behind (omega arith)

    pub inside : il < p.rl → im < p.n → ir < p.rr → j < length l - p.start → Some (at l (p.start + j)) ≡ seen_at l p il im ir
    unfolding seen_at
    inside a b c h =
        let q : j ≡ place p.n p.rr il im ir = omega arith in
        pick_true (Some (at l i)) None (Some (at l (p.start + j))) _
        (and_yes _ _ (ltb_yes il p.rl a) (and_yes _ _ (ltb_yes im p.n b) (and_yes _ _ (ltb_yes ir p.rr c) (ltb_yes i (length l) (omega arith)))))
        (ap (λ (x : ℕ). Some (at l (p.start + x))) q)

  -- what is read at place j of the rest of the chain
  pub read_here : (j : ℕ) (rest : List Float) (o : Option (Bor Float)) → il < p.rl → im < p.n → ir < p.rr → rest ≡ slice_range l p.start (length l) → length rest + p.start ≡ length l
      → j ≡ min (place p.n p.rr il im ir) (length rest) → is_some o ≡ ltb j (length rest) → unwrap_or (option_map (λ (x : Bor Float). x.now) o) nan ≡ at rest j → option_copied o ≡ seen_at l p il im ir
  read_here j rest None a b c e long d h g =
      let m : length rest ≡ length l - p.start = omega arith in
      outside_place j (rw m at d) (rw m at (ltb_not j (length rest) (sym h)))
  read_here j rest (Some x) a b c e long d h g =
      let m : length rest ≡ length l - p.start = omega arith in
      let lt : j < length rest = ltb_is j (length rest) (sym h) in
      let z : at rest j ≡ at l (p.start + j) = rw e (get_or-take (length l - p.start) (drop p.start l) j nan (rw m at lt) ∙ get_or-drop p.start l j nan) in
      ap Some (g ∙ z) ∙ inside j (rw m at d) a b c (rw m at lt)

pub ruleset sights = (outside_left, outside_points, outside_right, outside_chain, outside_place, inside)

-- ---- where a core stands
module _ (s : Shape) (k : ℕ) where
  abbrev zoned : Answer Spot
  zoned = demand (ltb k s.d) Zone then Ok (core_spot s k)

  pub spot_refused : (v : Check) → v ≡ chain_ok s → result_ok v ≡ None → None ≡ spot_of s k
  unfolding spot_of
  spot_refused v e f = go (chain_ok s) (ap result_ok (sym e) ∙ f)
    where
      go : (c : Check) → result_ok c ≡ None → None ≡ result_ok (c then zoned)
      go (Ok _) h = cc
      go (Err q) h = refl

  pub spot_beyond : s.d ≤ k → None ≡ spot_of s k
  unfolding spot_of
  spot_beyond l = go (chain_ok s)
    where
      go : (c : Check) → None ≡ result_ok (c then zoned)
      go (Ok _) = sym (ap (λ (c : Check). result_ok (c then Ok (core_spot s k))) (demand_no (ltb k s.d) Zone (ltb_no k s.d l)))
      go (Err q) = refl

  pub spot_is : chain_ok s ≡ Ok tt → k < s.d → spot_of s k ≡ Some (core_spot s k)
  unfolding spot_of
  spot_is e l = ap result_ok (then_skip (chain_ok s) zoned (Ok (core_spot s k)) e (then_skip (demand (ltb k s.d) Zone) _ _ (demand_yes _ Zone (ltb_yes k s.d l)) refl))

  -- v is the check's answer, in code
  module _ (v : Check) (u : Unit {0}) (e : v ≡ chain_ok s) (f : result_ok v ≡ Some u) where
    pub spot_checked : chain_ok s ≡ Ok tt
    spot_checked = sym e ∙ go v f
      where
        go : (c : Check) → result_ok c ≡ Some u → c ≡ Ok tt
        go (Ok _) h = refl
        go (Err q) h = cc

    pub spot_sizes : SizesWithin s
    spot_sizes = fits_sizes s (λ (j : ℕ). true) v e (e ∙ spot_checked)

    pub spot_here : (x : Spot) → k < s.d → x ≡ core_spot s k → Some x ≡ spot_of s k
    spot_here x l d = ap Some d ∙ sym (spot_is spot_checked l)

pub ruleset spots = (spot_refused, spot_beyond, spot_sizes, spot_here)

-- ---- a view of an accepted chain's core shows its entries, and nothing else
module _ (chain : Bor (List Float)) (s : Shape) (k : ℕ) (ok : chain_ok s ≡ Ok tt) (room : entries_of s ≤ length chain.now) (lt : k < s.d) where
  abbrev l : List Float
  l = chain.now

  at_spot : (il im ir : ℕ) → seen (view_of chain s k) il im ir ≡ seen_at l (core_spot s k) il im ir
  at_spot il im ir = ap (option_and_then (λ (x : Spot). seen_at l x il im ir)) (spot_is s k ok lt)

  slot_at : (j : ℕ) → j < core_size s k → at (slot (core_size s) k l) j ≡ at l (offset (core_size s) k + j)
  unfolding slot
  slot_at j h = get_or-take (core_size s k) (drop (offset (core_size s) k) l) j nan h ∙ get_or-drop (offset (core_size s) k) l j nan

  pub view_entry : (il im ir : ℕ) → il < left_of s k → im < points_of s k → ir < right_of s k → seen (view_of chain s k) il im ir ≡ Some (entry (core_at s l k) il im ir)
  unfolding entry core_at core_size
  view_entry il im ir a b c =
      let j = place (points_of s k) (right_of s k) il im ir in
      let h : j < core_size s k = place_lt (left_of s k) (points_of s k) (right_of s k) il im ir a b c in
      let e = offset_suc (core_size s) k in
      let m = offset_mono (core_size s) (suc k) s.d lt in
      at_spot il im ir
      ∙ sym (inside l (core_spot s k) il im ir j (omega arith) a b c (omega arith))
      ∙ ap Some (sym (slot_at j h))

  pub view_outside : (il im ir : ℕ) → (left_of s k ≤ il) ⊎ ((points_of s k ≤ im) ⊎ (right_of s k ≤ ir)) → seen (view_of chain s k) il im ir ≡ None
  view_outside il im ir h =
      let p = core_spot s k in
      at_spot il im ir ∙ sym (⊎_elim (outside_left l p il im ir) (⊎_elim (outside_points l p il im ir) (outside_right l p il im ir)) h)
