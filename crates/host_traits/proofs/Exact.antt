-- What the words of told calls exclude: a call after a failed one, a failure untold, another count, a record that isn't used up.
use Rattle.std.proofs.Common.{◌≡◌, ◌<◌, ◌≤◌, ◌+◌, ◌-◌, ◌^◌, ℕ, List, [], ◌∷◌, ◌++◌, length, length-append, Option, Some, None, refl, ap, sym, ◌∙◌, subst, arith}
use Rattle.std.proofs.lemmas.List.{append_cancel_left}
use Rattle.host_traits.specs.declared.calls.Call.{Call}
use Rattle.host_traits.specs.declared.calls.Said.{Said}
use Rattle.host_traits.specs.declared.calls.TapeItem.{TapeItem}
use Rattle.host_traits.specs.Told.{Told, Talked, Made, Calls, Refused, and_more, failures_of, one_failure, ahead_after, behind, taken}
use Rattle.host_traits.specs.Did.{StopsAtFailure, Trace, DidBy}
use Rattle.host_traits.proofs.Talking.{talked_on}

-- two accounts of the same work count as many failures, while the count doesn't stand still
pub same_failures : (a b : Told) (x y : List Made) → Talked a b x → Talked a b y → a.faults + failures_of x < 2 ^ 64 - 1 → failures_of x ≡ failures_of y
same_failures a b x y p q small = omega (arith, p.counted, q.counted, small)

no_calls : (y : List Made) → taken None y ≡ [] → y ≡ []
no_calls [] e = refl
no_calls (n ∷ y) e = absurd cc

heads : (c d : Call × Option Said) (x y : Calls) → c ∷ x ≡ d ∷ y → c ≡ d
heads c d x y e = cc

tails : (c d : Call × Option Said) (x y : Calls) → c ∷ x ≡ d ∷ y → x ≡ y
tails c d x y e = cc

some_calls : (x y : Calls) → Some x ≡ Some y → x ≡ y
some_calls x y e = cc

-- where all calls are told, two accounts have the same calls, and the same came of them
same_calls : (a b : Told) (x y : List Made) (before : Calls) → a.ahead ≡ None → a.made ≡ Some before → Talked a b x → Talked a b y → taken None x ≡ taken None y
same_calls a b x y before free told p q =
    let both : Some (before ++ taken None x) ≡ Some (before ++ taken None y) =
    subst (λ z. and_more z (taken None x) ≡ and_more z (taken None y)) told (subst (λ z. and_more a.made (taken z x) ≡ and_more a.made (taken z y)) free (sym p.made ∙ q.made)) in
    append_cancel_left before (taken None x) (taken None y) (some_calls _ _ both)

-- so that as many failed, and none follows a failed one in either
failed_alike : (x y : List Made) → taken None x ≡ taken None y → failures_of x ≡ failures_of y
failed_alike [] [] e = refl
failed_alike [] (n ∷ y) e = absurd cc
failed_alike (m ∷ x) [] e = absurd cc
failed_alike (m ∷ x) (n ∷ y) e =
    let came : m.came ≡ n.came = ap (λ (c : Call × Option Said). c.1) (heads _ _ _ _ e) in
    omega (arith, ap one_failure came, failed_alike x y (tails _ _ _ _ e))

stops_alike : (x y : List Made) → taken None x ≡ taken None y → StopsAtFailure x → StopsAtFailure y
stops_alike x [] e stops = tt
stops_alike [] (n ∷ y) e stops = absurd cc
stops_alike (m ∷ x) (n ∷ y) e stops =
    let came : m.came ≡ n.came = ap (λ (c : Call × Option Said). c.1) (heads _ _ _ _ e) in
    let rest = tails _ _ _ _ e in
    ((λ none. no_calls y (sym rest ∙ ap (taken None) (stops.0 (came ∙ none)))), stops_alike x y rest stops.1)

goes_on : (x y : List Made) (m : Made) → 0 < failures_of x → StopsAtFailure (x ++ m ∷ y) → ⊥
goes_on [] y m some stops = absurd (omega (arith, some))
goes_on (n ∷ x) y m some stops = last n.came refl (λ more. goes_on x y m more stops.1) where
  last : (came : Option Said) → came ≡ n.came → (0 < failures_of x → ⊥) → ⊥
  last None e rest = absurd (omega (arith, ap length (stops.0 (sym e)), length-append x (m ∷ y)))
  last (Some said) e rest = rest (omega (arith, some, ap one_failure e))

-- work makes no call after one that failed, whatever came of it
no_call_after : (F : Call → List ℕ → Type 0) (most : ℕ) (R : Trace → Type 0) (x y : List Made) (m : Made) (a b c : Told) (before : Calls)
    → a.ahead ≡ None → a.made ≡ Some before → Talked a b x → 0 < failures_of x → Talked b c (m ∷ y) → DidBy F most a c R → ⊥
no_call_after F most R x y m a b c before free told first some then did =
    let same = same_calls a c did.own (x ++ m ∷ y) before free told did.talked (talked_on a b c x (m ∷ y) first then) in
    goes_on x y m some (stops_alike did.own (x ++ m ∷ y) same did.stops)

-- and says of a failed call that it failed
no_failure_hidden : (F : Call → List ℕ → Type 0) (most : ℕ) (R : Trace → Type 0) (x : List Made) (a b : Told) (before : Calls)
    → a.ahead ≡ None → a.made ≡ Some before → Talked a b x → 0 < failures_of x → ((t : Trace) → R t → t.failed ≡ 0) → DidBy F most a b R → ⊥
no_failure_hidden F most R x a b before free told first some none did =
    absurd (omega (arith, none _ did.outcome, failed_alike did.own x (same_calls a b did.own x before free told did.talked first), some))

no_tail : (r : TapeItem) (records : List TapeItem) → Some (r ∷ records) ≡ Some records → ⊥
no_tail r records e = let same : r ∷ records ≡ records = cc in absurd (omega (arith, ap length same))

-- a record at which a call was refused is used up
pub uses_up : (call : Call) (given : List ℕ) (a b : Told) (r : TapeItem) (records : List TapeItem) → a.ahead ≡ Some (r ∷ records) → b.ahead ≡ a.ahead → Refused call given a b → ⊥
uses_up call given a b r records next stays refused =
    no_tail r records (sym next ∙ sym stays ∙ refused.ahead ∙ ap behind next)
