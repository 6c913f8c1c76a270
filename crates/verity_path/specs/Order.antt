-- Which calls a walk and a read of a range make, in which order.
use Rattle.std.specs.Prelude.{◌≡◌, ℕ, zero, suc, List, [], ◌∷◌, ◌++◌, length, map, take, slice_get, Some}
use Rattle.host_traits.specs.declared.calls.Call.{Call}
use Rattle.host_traits.specs.Told.{Exchanges}
use Rattle.host_traits.specs.declared.calls.Said.{Said}
use Rattle.host_traits.specs.declared.calls.Said.TheVariants.{Bytes}
use Rattle.host_traits.specs.Did.{Trace, IsShort}
use Rattle.sha_tree.specs.declared.measure.Measure.{Measure}
use Rattle.sha_tree.specs.Tree.{ancestor, top}
use Rattle.verity_path.specs.Calls.{call_for}
use Rattle.verity_path.specs.declared.walk.Layout.{Layout}

-- the calls of some exchanges
abbrev pub asked_in : Exchanges → List Call
asked_in heard = map (λ x. x.0) heard

-- from a level down to a block, over so many blocks: the call for each page on the way
abbrev pub walk_calls : Layout → ℕ → ℕ → ℕ → List Call
walk_calls layout count block zero = call_for layout count 0 (ancestor block 0) ∷ []
walk_calls layout count block (suc level) =
    call_for layout count (suc level) (ancestor block (suc level)) ∷ walk_calls layout count block level

-- of so many blocks, from one on in rising order, those from the top page down
abbrev pub blocks_calls : Layout → Measure → ℕ → ℕ → List Call
blocks_calls layout m block zero = []
blocks_calls layout m block (suc n) = walk_calls layout m.blocks block (top m.blocks) ++ blocks_calls layout m (suc block) n

-- The calls of a piece of work are the first of these, in this order: those that were answered, and behind them the one that
-- failed, where one did. So none is made twice, and none left out on the way.
pub record IsInOrder (asked : List Call) (t : Trace) : Type 0 where
  pub answered : asked_in t.own ≡ take (length t.own) asked
  pub failed : (call : Call) → t.failed ≡ 1 → t.last_failed ≡ Some call → slice_get asked (length t.own) ≡ Some call

-- this is the last of some exchanges
pub record IsLast (call : Call) (said : Said) (heard : Exchanges) : Type 0 where
  pub before : Exchanges
  pub is : heard ≡ before ++ (call, said) ∷ []

-- no call failed, and the last answer of the work was shorter than asked
pub record IsLastShort (t : Trace) (asked got : ℕ) : Type 0 where
  pub short : IsShort t asked got
  pub last : IsLast short.call (Bytes short.bytes) t.own
