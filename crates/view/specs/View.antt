-- What a view of one core shows. Definitions only.
use Rattle.std.specs.Prelude.{ℕ, ◌+◌, ◌&&◌, List, ltb, Float, length, Option, Some, None, option_and_then, Ok}
use Rattle.std.specs.Borrow.{Bor}
use Rattle.answers.specs.declared.Refusal.TheVariants.{Zone}
use Rattle.std.specs.Result.{result_ok}
use Rattle.answers.specs.Outcome.{◌then◌, demand}
use Rattle.lists.specs.Lists.{pick}
use Rattle.lists.specs.Slots.{offset}
use Rattle.lists.specs.Floats.{at}
use Rattle.shape.specs.declared.Shape.{Shape}
use Rattle.shape.specs.Shapes.{left_of, points_of, right_of, chain_ok, core_size}
use Rattle.shape.specs.Cores.{place}
use Rattle.view.specs.declared.Spot.{Spot}
use Rattle.view.specs.declared.CoreView.{CoreView}

abbrev pub core_spot : Shape → ℕ → Spot
core_spot s k = record { start = offset (core_size s) k; rl = left_of s k; n = points_of s k; rr = right_of s k }

-- core k's, if the shape is accepted and has one
unfoldable pub spot_of : Shape → ℕ → Option Spot
spot_of s k = result_ok (chain_ok s then demand (ltb k s.d) Zone then Ok (core_spot s k))

-- the view of core k of a lent chain
abbrev pub view_of : Bor (List Float) → Shape → ℕ → CoreView
view_of chain s k = record { chain = chain; spot = spot_of s k }

-- entry (il, im, ir) of the core that stands at p: the indices lie within the core, the entry within the chain
unfoldable pub seen_at : List Float → Spot → ℕ → ℕ → ℕ → Option Float
seen_at l p il im ir =
    let i = p.start + place p.n p.rr il im ir in
    pick (ltb il p.rl && (ltb im p.n && (ltb ir p.rr && ltb i (length l)))) (Some (at l i)) None

-- a view of no core shows nothing
abbrev pub seen : CoreView → ℕ → ℕ → ℕ → Option Float
seen v il im ir = option_and_then (λ (p : Spot). seen_at v.chain.now p il im ir) v.spot
