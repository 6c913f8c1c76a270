-- What a recorder adds.
use Rattle.std.proofs.Common.{◌≡◌, ℕ, ◌+◌, List, [], ◌∷◌, ◌++◌, length, refl, ap, sym, ◌∙◌, subst, arith, inr, append_assoc, append-nil, Option, Some, None}
use Rattle.std.specs.Prelude.{Result, Ok, Err}
use Rattle.host_traits.specs.declared.calls.Call.{Call}
use Rattle.host_traits.specs.declared.calls.Said.{Said}
use Rattle.host_traits.specs.declared.calls.Said.TheVariants.{Number as SaidNumber, Bytes as SaidBytes, Done as SaidDone}
use Rattle.host_traits.specs.declared.calls.TapeItem.{TapeItem}
use Rattle.host_traits.specs.declared.calls.TapeItem.TheVariants.{Failed as ItemFailed}
use Rattle.host_traits.specs.declared.host.HostError.{HostError}
use Rattle.host_traits.specs.declared.host.HostError.TheVariants.{Failed, Memory}
use Rattle.host_traits.specs.Told.{Told, Exchanges, Asked, Answered, Refused, Unheard, Talked, made_of, exchange_of, one_failure, failed_by, heard_size}
use Rattle.host_traits.proofs.Talking.{and_more-nil, unheard}
use Rattle.host_rec.specs.Recorded.{Kept, Keeps, Passed, and, item_of, came_by, calls_in, exchange, exchanges, heard_by, failure, failures, last_failed_in, told_with}

pub exchanges-push : (cs : List Call) (is : List TapeItem) (call : Call) (item : TapeItem) → length cs ≡ length is → exchanges (cs ++ call ∷ []) (is ++ item ∷ []) ≡ exchanges cs is ++ exchange call item
exchanges-push [] [] call item even = append-nil (exchange call item)
exchanges-push [] (i ∷ is) call item even = absurd (omega arith)
exchanges-push (c ∷ cs) [] call item even = absurd (omega arith)
exchanges-push (c ∷ cs) (i ∷ is) call item even =
    ap (λ z. exchange c i ++ z) (exchanges-push cs is call item (omega arith)) ∙ sym (append_assoc (exchange c i) (exchanges cs is) (exchange call item))

calls_in-push : (cs : List Call) (is : List TapeItem) (call : Call) (item : TapeItem) → length cs ≡ length is → calls_in (cs ++ call ∷ []) (is ++ item ∷ []) ≡ calls_in cs is ++ (call, came_by item) ∷ []
calls_in-push [] [] call item even = refl
calls_in-push [] (i ∷ is) call item even = absurd (omega arith)
calls_in-push (c ∷ cs) [] call item even = absurd (omega arith)
calls_in-push (c ∷ cs) (i ∷ is) call item even = ap (λ z. (c, came_by i) ∷ z) (calls_in-push cs is call item (omega arith))

came-said : (said : Said) → came_by (item_of said) ≡ Some said
came-said (SaidNumber n) = refl
came-said (SaidBytes bytes) = refl
came-said SaidDone = refl

heard_by-and : (k : Kept) (call : Call) (item : TapeItem) → length k.calls ≡ length k.items → heard_by (and k call item) ≡ heard_by k ++ exchange call item
heard_by-and k call item even = exchanges-push k.calls k.items call item even

pub failures-push : (is : List TapeItem) (item : TapeItem) → failures (is ++ item ∷ []) ≡ failures is + failure item
failures-push [] item = omega arith
failures-push (i ∷ is) item = omega (arith, failures-push is item)

last-push : (before : Option Call) (cs : List Call) (is : List TapeItem) (call : Call) (item : TapeItem) → length cs ≡ length is
    → last_failed_in before (cs ++ call ∷ []) (is ++ item ∷ []) ≡ failed_by (last_failed_in before cs is) call (came_by item)
last-push before [] [] call item even = refl
last-push before [] (i ∷ is) call item even = absurd (omega arith)
last-push before (c ∷ cs) [] call item even = absurd (omega arith)
last-push before (c ∷ cs) (i ∷ is) call item even = last-push (failed_by before c (came_by i)) cs is call item (omega arith)

-- one call, and its record
one_call : (call : Call) (given : List ℕ) (came : Option Said) (a b : Told) (k : Kept) (item : TapeItem) → length k.calls ≡ length k.items → came_by item ≡ came
    → Talked a b (made_of call given came ∷ []) → Talked (told_with a k) (told_with b (and k call item)) (made_of call given came ∷ [])
one_call call given came a b k item even is d =
    let count = failures-push k.items item in
    let one : failure item ≡ one_failure came = ap one_failure is in
    record {
      faults = omega (arith, count);
      counted = omega (arith, count, one);
      last_failed = last-push None k.calls k.items call item even ∙ ap (failed_by (last_failed_in None k.calls k.items) call) is;
      heard = ap Some (heard_by-and k call item even ∙ ap (λ z. heard_by k ++ exchange_of call z) is ∙ ap (λ z. heard_by k ++ z) (sym (append-nil (exchange_of call came))));
      made = ap Some (calls_in-push k.calls k.items call item even ∙ ap (λ z. calls_in k.calls k.items ++ (call, z) ∷ []) is);
      held = d.held;
      ahead = refl;
      plays = (tt, tt);
      scarce = refl;
      honest = d.honest;
    }

no_memory : (a b : Told) (k : Kept) → Unheard a b → Unheard (told_with a k) (told_with b k)
no_memory a b k d = record {
  talked = record {
    faults = omega arith;
    counted = omega arith;
    last_failed = refl;
    heard = and_more-nil (Some (heard_by k));
    made = and_more-nil (Some (calls_in k.calls k.items));
    held = d.talked.held;
    ahead = refl;
    plays = tt;
    scarce = refl;
    honest = d.talked.honest;
  };
  scarce = refl;
}

-- a call that was passed on and kept
pub recorded : {T : Type 0} (call : Call) (given : List ℕ) (said : T → Said) (r : Result T HostError) (a b : Told) (k l : Kept) → length k.calls ≡ length k.items
    → Asked call given said r a b → Keeps call said r k l → Asked call given said r (told_with a k) (told_with b l)
recorded call given said (Ok x) a b k l even d is = subst (λ z. Answered call given (said x) (told_with a k) (told_with b z)) (sym is) (one_call call given (Some (said x)) a b k (item_of (said x)) even (came-said (said x)) d)
recorded call given said (Err Failed) a b k l even d is = subst (λ z. Refused call given (told_with a k) (told_with b z)) (sym is) (one_call call given None a b k ItemFailed even refl d)
recorded call given said (Err Memory) a b k l even d is = subst (λ z. Unheard (told_with a k) (told_with b z)) (sym is) (no_memory a b k d)

-- a call that was not passed on
pub not_recorded : (a : Told) (k : Kept) → Unheard (told_with a k) (told_with a k)
not_recorded a k = unheard (told_with a k) refl

-- one call of the host behind
pub passed_on : {H T : Type 0} (tell : H → Told) (call : Call) (given : List ℕ) (said : T → Said) (r : Result T HostError) (a b : H)
    → Asked call given said r (tell a) (tell b) → Passed tell call given said r a b
passed_on tell call given said (Ok x) a b d = d
passed_on tell call given said (Err Failed) a b d = d
passed_on tell call given said (Err Memory) a b d = inr d

heard_size-append : (a b : Exchanges) → heard_size (a ++ b) ≡ heard_size a + heard_size b
heard_size-append [] b = omega arith
heard_size-append (x ∷ a) b = omega (arith, heard_size-append a b)

pub size-push : (cs : List Call) (is : List TapeItem) (call : Call) (item : TapeItem) → length cs ≡ length is
    → heard_size (exchanges (cs ++ call ∷ []) (is ++ item ∷ [])) ≡ heard_size (exchanges cs is) + heard_size (exchange call item)
size-push cs is call item even = ap heard_size (exchanges-push cs is call item even) ∙ heard_size-append (exchanges cs is) (exchange call item)
