-- A call on a file's bytes that was answered and isn't counted.
use Rattle.std.proofs.Common.{◌≡◌, ℕ, ◌≤◌, ◌∙◌, [], ◌∷◌, ◌++◌, refl, ap, Option}
use Rattle.host_traits.specs.declared.calls.Call.{Call}
use Rattle.host_traits.specs.declared.calls.Said.TheVariants.{Done}
use Rattle.host_traits.specs.Held.{Held}
use Rattle.host_traits.specs.Told.{Told, Exchanges}
use Rattle.host_traits.specs.Did.{trace_of}
use Rattle.host_traits.proofs.Doing.{failed_later, failed_so}
use Rattle.verity_path.specs.declared.walk.WalkFault.{WalkFault}
use Rattle.verity_path.specs.declared.walk.WalkFault.TheVariants as walk
use Rattle.leaf_tree.specs.Outcomes.{Standing, IsTreeBlame}
use Rattle.rw_file.specs.Rows.{IsTreeFault, IsUncounted}

-- the tree's blame, after other calls
module _ (file : ℕ) (F G : Call → Type 0) (wider : (call : Call) → F call → G call) (x y z : Told) (le : x.faults ≤ y.faults) where
  pub fault_of : (stands : Standing) (held : Option Held) (a b : Exchanges) (failed : ℕ) (why : WalkFault) →
      IsTreeBlame file F stands held (trace_of b failed y z) why → IsTreeFault file G b (trace_of (a ++ b) failed x z) why
  fault_of stands held a b failed (walk.Mismatch m) q = (q.0.bytes, q.0.own)
  fault_of stands held a b failed (walk.Short asked got) q =
      (q.0.short.call, q.0.short.bytes, q.0.last, q.0.short.asks, q.0.short.got_is, q.0.short.short)
  fault_of stands held a b failed (walk.Failed faults) q = failed_later G x y z a b failed faults le (failed_so F G _ faults wider q)
  fault_of stands held a b failed walk.Memory q = tt

  fault_later : (rest a b : Exchanges) (failed : ℕ) (why : WalkFault) → IsTreeFault file F rest (trace_of b failed y z) why →
      IsTreeFault file G rest (trace_of (a ++ b) failed x z) why
  fault_later rest a b failed (walk.Mismatch m) q = q
  fault_later rest a b failed (walk.Short asked got) q = q
  fault_later rest a b failed (walk.Failed faults) q = failed_later G x y z a b failed faults le (failed_so F G _ faults wider q)
  fault_later rest a b failed walk.Memory q = tt

  -- the same after other calls, in wider words
  pub uncounted_on : (is_local : Type 0) (call other : Call) (a b : Exchanges) (failed : ℕ) (why : WalkFault) → call ≡ other →
      IsUncounted is_local file F call (trace_of b failed y z) why → IsUncounted is_local file G other (trace_of (a ++ b) failed x z) why
  uncounted_on is_local call other a b failed why same u = record {
    far = u.far;
    before = a ++ u.before;
    rest = u.rest;
    own_is = ap (λ (e : Exchanges). a ++ e) u.own_is ∙ (append_assoc' a u.before ((call, Done) ∷ u.rest)) ∙ ap (λ (c : Call). (a ++ u.before) ++ (c, Done) ∷ u.rest) same;
    later = λ c said i. wider c (u.later c said i);
    fault = fault_later u.rest a b failed why u.fault;
  } where
    append_assoc' : (p q r : Exchanges) → p ++ (q ++ r) ≡ (p ++ q) ++ r
    append_assoc' [] q r = refl
    append_assoc' (e ∷ p) q r = ap (λ (l : Exchanges). e ∷ l) (append_assoc' p q r)
