-- What a host in memory answers.
use Rattle.std.proofs.Common.{true, false, ◌≡◌, ℕ, ◌+◌, ◌-◌, ◌^◌, ◌<◌, min, List, [], ◌∷◌, refl, ap, sym, ◌∙◌, subst, arith, inl, inr, Some, None}
use Rattle.std.specs.Prelude.{Result, Ok, Err}
use Rattle.host_traits.specs.declared.calls.Call.{Call}
use Rattle.host_traits.specs.declared.calls.Said.{Said}
use Rattle.host_traits.specs.declared.host.HostError.{HostError}
use Rattle.host_traits.specs.declared.host.HostError.TheVariants.{Failed, Memory}
use Rattle.host_traits.specs.Held.{Held, serve}
use Rattle.host_traits.specs.Told.{Asked, Answered, Refused, Unheard}
use Rattle.host_traits.proofs.Talking.{asked_one, unheard}
use Rattle.host_mem.specs.Mem.{Count, Mem, Begins, Ends, Does, FailsBy, IsNumbered, Tells, is_listed, is_none, counted, failed, told_by, mem_held}

-- some number is listed
listed_some : (t : Count) → is_listed t ≡ true → is_none t.failing ≡ true → ⊥
listed_some t listed none = by_list t.failing listed none where
  by_list : (ns : List ℕ) → is_listed (record t { failing = ns }) ≡ true → is_none ns ≡ true → ⊥
  by_list [] e f = cc
  by_list (n ∷ ns) e f = cc

one_failure : (h : Held) (a b : Count) (call : Call) (given : List ℕ) → a.faults < 2 ^ 64 → (is_none a.failing ≡ true → serve h call given ≡ None)
    → b.faults ≡ min (a.faults + 1) (2 ^ 64 - 1) → b.last_failed ≡ Some call → b.failing ≡ a.failing → Refused call given (told_by h a) (told_by h b)
one_failure h a b call given fits may faults last failing =
    asked_one call given None (told_by h a) (told_by h b) (omega (arith, faults, fits)) (omega (arith, faults, fits)) last refl refl (h, refl, (refl, may)) refl tt refl (ap is_none failing)

-- a call whose number is listed
listed : (call : Call) (given : List ℕ) (h : Held) (a b : Count) → Begins call true a b → Refused call given (told_by h a) (told_by h b)
listed call given h a b is =
    subst (λ z. Refused call given (told_by h a) (told_by h z)) (sym is.1) (one_failure h a (failed (counted a) call) call given is.2 (λ none. absurd (listed_some a is.0 none)) refl refl refl)

-- a call that was begun, done and ended
done : {T : Type 0} (call : Call) (given : List ℕ) (said : T → Said) (r : Result T HostError) (h k : Held) (a b c : Count) → Begins call false a b → Does call given said r h k → Ends call r b c
    → Asked call given said r (told_by h a) (told_by k c)
done call given said (Ok x) h k a b c begun does ended =
    subst (λ z. Answered call given (said x) (told_by h a) (told_by k z)) (sym (ended ∙ begun.1))
    (asked_one call given (Some (said x)) (told_by h a) (told_by k (counted a)) (omega arith) (omega arith) refl refl refl (k, refl, does) refl tt refl refl)
done call given said (Err Failed) h k a b c begun does ended =
    let now : c ≡ failed (counted a) call = ended.0 ∙ ap (λ z. failed z call) begun.1 in
    let fits : a.faults < 2 ^ 64 = rw begun.1 at ended.1 in
    subst (λ z. Refused call given (told_by h a) (told_by z c)) (sym does.1)
    (subst (λ z. Refused call given (told_by h a) (told_by h z)) (sym now) (one_failure h a (failed (counted a) call) call given fits (λ none. does.0) refl refl refl))
done call given said (Err Memory) h k a b c begun does ended =
    subst (λ z. Unheard (told_by h a) (told_by z c)) (sym does)
    (subst (λ z. Unheard (told_by h a) (told_by h z)) (sym (ended ∙ begun.1)) (unheard (told_by h a) refl))

fails_done : {T : Type 0} (call : Call) (given : List ℕ) (said : T → Said) (r : Result T HostError) (m : Mem) (k : Held) (b : Count) → Begins call false m.count b → Does call given said r (mem_held m) k → FailsBy call given r m
fails_done call given said (Ok x) m k b begun does = begun.0
fails_done call given said (Err Failed) m k b begun does = inr does.0
fails_done call given said (Err Memory) m k b begun does = begun.0

-- each is counted
listed_counts : (call : Call) (a b : Count) → Begins call true a b → IsNumbered a b
listed_counts call a b begun = subst (IsNumbered a) (sym begun.1) (record { calls = refl; failing = refl })

done_counts : {T : Type 0} (call : Call) (r : Result T HostError) (a b c : Count) → Begins call false a b → Ends call r b c → IsNumbered a c
done_counts call (Ok x) a b c begun ended = subst (IsNumbered a) (sym (ended ∙ begun.1)) (record { calls = refl; failing = refl })
done_counts call (Err Failed) a b c begun ended = subst (IsNumbered a) (sym (ended.0 ∙ ap (λ z. failed z call) begun.1)) (record { calls = refl; failing = refl })
done_counts call (Err Memory) a b c begun ended = subst (IsNumbered a) (sym (ended ∙ begun.1)) (record { calls = refl; failing = refl })

-- all that is told of a call whose number is listed, and of one that was begun, done and ended
pub tells_listed : {T : Type 0} (call : Call) (given : List ℕ) (said : T → Said) (m : Mem) (b : Count) → Begins call true m.count b → Tells call given said (Err Failed) m (record m { count = b })
tells_listed call given said m b begun = record {
  asked = listed call given (mem_held m) m.count b begun;
  fails = inl begun.0;
  counts = listed_counts call m.count b begun;
}

pub tells_done : {T : Type 0} (call : Call) (given : List ℕ) (said : T → Said) (r : Result T HostError) (m k : Mem) (b : Count) → Begins call false m.count b → Does call given said r (mem_held m) (mem_held k) → Ends call r b k.count → Tells call given said r m k
tells_done call given said r m k b begun does ended = record {
  asked = done call given said r (mem_held m) (mem_held k) m.count b k.count begun does ended;
  fails = fails_done call given said r m (mem_held k) b begun does;
  counts = done_counts call r m.count b k.count begun ended;
}
