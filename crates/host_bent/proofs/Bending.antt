-- What a bent host tells of a call.
use Rattle.std.proofs.Common.{◌≡◌, ◌^◌, ◌<◌, ℕ, true, List, refl, sym, subst, inl, inr, arith, Option, Some, None}
use Rattle.std.specs.Prelude.{Result, Ok, Err}
use Rattle.std.proofs.lemmas.Bool.{false≢true}
use Rattle.host_traits.specs.declared.calls.Call.{Call}
use Rattle.host_traits.specs.declared.calls.Said.{Said}
use Rattle.host_traits.specs.declared.host.HostError.{HostError}
use Rattle.host_traits.specs.declared.host.HostError.TheVariants.{Failed, Memory}
use Rattle.host_traits.specs.Told.{Told, Asked, Answered, Refused, Unheard}
use Rattle.host_traits.proofs.Talking.{asked_one, unheard}
use Rattle.host_bent.specs.declared.bends.Bend.{Bend}
use Rattle.host_bent.specs.declared.bends.Bend.TheVariants.{Fail, Number, Bytes, Flip}
use Rattle.host_mem.specs.Mem.{Mem, mem_told, FailsBy, Tells}
use Rattle.host_bent.specs.Bent.{BendCount, IsBent, bend_at, bent_by, count_told, ended, is_flip, said_as}

-- an answer in the words of all calls
asked_as : {T : Type 0} (call : Call) (given : List ℕ) (said : T → Said) (r : Result T HostError) (old new : Told) → Asked call given said r old new → Asked call given (λ s. s) (said_as said r) old new
asked_as call given said (Ok x) old new is = is
asked_as call given said (Err Failed) old new is = is
asked_as call given said (Err Memory) old new is = is

fails_as : {T : Type 0} (call : Call) (given : List ℕ) (said : T → Said) (r : Result T HostError) (h : Mem) → FailsBy call given r h → FailsBy call given (said_as said r) h
fails_as call given said (Ok x) h is = is
fails_as call given said (Err Failed) h is = is
fails_as call given said (Err Memory) h is = is

-- what the count tells after a call
tells : {T : Type 0} (call : Call) (given : List ℕ) (said : T → Said) (r : Result T HostError) (a b : BendCount) → a.faults < 2 ^ 64 → b ≡ ended call (said_as said r) a → Asked call given said r (count_told a) (count_told b)
tells call given said (Ok x) a b small is =
    subst (λ z. Answered call given (said x) (count_told a) (count_told z)) (sym is)
    (asked_one call given (Some (said x)) (count_told a) (count_told (ended call (Ok (said x)) a)) (omega arith) (omega arith) refl refl refl refl refl tt refl refl)
tells call given said (Err Failed) a b small is =
    subst (λ z. Refused call given (count_told a) (count_told z)) (sym is)
    (asked_one call given None (count_told a) (count_told (ended call (Err Failed) a)) (omega (arith, small)) (omega (arith, small)) refl refl refl refl refl tt refl refl)
tells call given said (Err Memory) a b small is =
    subst (λ z. Unheard (count_told a) (count_told z)) (sym is) (unheard (count_told a) refl)

-- the host behind was asked, and its answer was bent
pub is_bent : {T U : Type 0} (most : ℕ) (call : Call) (given : List ℕ) (own_said : U → Said) (said : T → Said) (own : Result U HostError) (r : Result T HostError) (h k : Mem) (a b : BendCount)
    → Tells call given own_said own h k → a.faults < 2 ^ 64 → said_as said r ≡ bent_by most (bend_at a.bends a.calls) (said_as own_said own) → b ≡ ended call (said_as said r) a
    → IsBent most call given said r (record { host = h; count = a }) (record { host = k; count = b })
is_bent most call given own_said said own r h k a b t small bent counted = record {
  told = tells call given said r a b small counted;
  own = said_as own_said own;
  asked = asked_as call given own_said own (mem_told h) (mem_told k) t.asked;
  passed = inl (t.counts, fails_as call given own_said own h t.fails);
  bent = bent;
  counted = counted;
}

flip_keeps : (most : ℕ) (bend : Option Bend) → is_flip bend ≡ true → Err Memory ≡ bent_by most bend (Err Memory)
flip_keeps most None is = absurd (false≢true is)
flip_keeps most (Some Fail) is = absurd (false≢true is)
flip_keeps most (Some (Number n)) is = absurd (false≢true is)
flip_keeps most (Some (Bytes bytes)) is = absurd (false≢true is)
flip_keeps most (Some (Flip place)) is = refl

no_room_tells : (call : Call) (a b : BendCount) → b ≡ ended call (Err Memory) a → Unheard (count_told a) (count_told b)
no_room_tells call a b is = subst (λ z. Unheard (count_told a) (count_told z)) (sym is) (unheard (count_told a) refl)

-- there was no room for the bytes to be flipped
pub no_room_bent : {T : Type 0} (most : ℕ) (call : Call) (given : List ℕ) (said : T → Said) (h : Mem) (a b : BendCount) → is_flip (bend_at a.bends a.calls) ≡ true → b ≡ ended call (Err Memory) a
    → IsBent {T = T} most call given said (Err Memory) (record { host = h; count = a }) (record { host = h; count = b })
no_room_bent most call given said h a b is counted = record { told = no_room_tells call a b counted; own = Err Memory; asked = unheard (mem_told h) refl; passed = inr (refl, is, refl); bent = flip_keeps most (bend_at a.bends a.calls) is; counted = counted }
