-- What it is that a public call's contract allows one end only. Definitions only.
use Rattle.std.specs.Prelude.{◌≡◌, List, Float}
use seplogic.Ra.Ura.{Ura}
use base.Logic.{SProp, emp}
use prog.Memory.{Memory}
use prog.Routine.{Routine}
use types.Logic.{Logic}
use contract.Monad.{Fun, fact}
use contract.Lifetimes.{Lfts}
use denote.Triple.Clauses.{Ended, AtExit, ClausesAt, Clauses}
use borrow.Fn.World.{World, ArgsD, ResD}
use Rattle.cutform.specs.declared.Rounded.{Rounded}
use Rattle.cutform.specs.Call.{Ended as Stepped}

-- the fact that a step and an evolve promise: the result, the chain and scratch are those of c
abbrev pub Leaves : Stepped → Rounded → List Float → List Float → Type 0
Leaves c r chain scratch = (r ≡ c.result) × (chain ≡ c.chain) × (scratch ≡ c.scratch)

-- a call's `requires` and `ensures` as Rattle takes them from its source, at any model of the logic
abbrev pub Contract : Ended → Type 2
Contract T = (M : Type 1) (𝓤 : Ura M) (𝓛 : Logic 𝓤) → (Memory → SProp 𝓤) → (Routine → Fun 𝓤) → Clauses 𝓤 T

module _ (T : Ended) where
  abbrev pub Lifetimes : Type 0
  Lifetimes = Lfts T.signature.lifetimes

  abbrev pub Args : Lifetimes → Type 0
  Args κs = ArgsD T.signature κs

  abbrev pub Result : Lifetimes → Type 0
  Result κs = ResD T.signature κs

  -- a fact about the arguments, the result and the parameters at exit
  abbrev pub Fact : Type 1
  Fact = (κs : Lifetimes) → Args κs → Result κs → AtExit T κs → Type 0

  -- requires nothing, ensures φ
  abbrev pub ensuring : {M : Type 1} (𝓤 : Ura M) (κs : Lifetimes) → (Result κs → AtExit T κs → Type 0) → ClausesAt 𝓤 T κs
  ensuring 𝓤 κs φ = record { ghost = Unit {0}; requires = λ g. emp 𝓤; ensures = λ g r e. fact 𝓤 (φ r e) }

  -- `slices` are those that the call may write, as they are at exit
  pub record OneEnd (c : Contract T) (says : Fact) {A : Type 0} (slices : (κs : Lifetimes) → AtExit T κs → List (List A)) : Type 2 where
    -- the contract asks for nothing, and what it promises is the fact `says`
    pub plain : (w : World) (κs : Lifetimes) (a : Args κs)
        → c w.M w.𝓤 w.𝓛 w.𝓜.mem w.𝓡.run κs a ≡ ensuring w.𝓤 κs (says κs a)
    -- two ends on the same arguments of which that holds are equal: the results, and what stands in the slices
    pub one : (κs : Lifetimes) (a : Args κs) (r r' : Result κs) (e e' : AtExit T κs) → says κs a r e → says κs a r' e'
        → (r ≡ r') × (slices κs e ≡ slices κs e')
