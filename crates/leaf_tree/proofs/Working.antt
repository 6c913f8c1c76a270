-- Work on a writable file, put together.
use Rattle.std.proofs.Common.{◌≡◌, ℕ, ◌+◌, ◌≤◌, List, [], ◌∷◌, ◌++◌, refl, sym, subst, arith}
use Rattle.host_traits.specs.declared.calls.Call.{Call}
use Rattle.host_traits.specs.declared.calls.Said.{Said}
use Rattle.host_traits.specs.Told.{Told, Exchanges, Made, Answered, Refused, Unheard, heard_of, failures_of, kind_of}
use Rattle.host_traits.specs.Did.{IsIn, Each, Trace, trace_of}
use Rattle.host_traits.proofs.Doing.{each_heard, each_both, each_so, stops_on}
use Rattle.host_traits.proofs.Talking.{heard_of-append, failures_of-append, talked_not, talked_on}
use Rattle.leaf_tree.specs.Worked.{Worked, asks_of, one_ask, puts_of, one_put}

asks_of-append : (x y : List Made) → asks_of (x ++ y) ≡ asks_of x + asks_of y
asks_of-append [] y = omega arith
asks_of-append (m ∷ x) y = omega (arith, asks_of-append x y)

puts_of-append : (x y : List Made) → puts_of (x ++ y) ≡ puts_of x + puts_of y
puts_of-append [] y = omega arith
puts_of-append (m ∷ x) y = omega (arith, puts_of-append x y)

-- the calls of what was heard
pub worked_calls : (F : Call → Type 0) (own : List Made) → Each (λ call given. F call) own → (call : Call) (said : Said) →
    IsIn call said (heard_of own) → F call
worked_calls F own each call said i = (each_heard (λ call given. F call) own each call said i).1

pub worked_none : (H : Call → List ℕ → Type 0) (p : ℕ) (F : Call → Type 0) (most : ℕ) (a : Told) (R : Trace → Type 0) → R (trace_of [] 0 a a) →
    Worked H p F most a a R
worked_none H p F most a R r = record { own = []; talked = talked_not a; calls = tt; hands = tt; few_puts = omega arith; few = omega arith; stops = tt; outcome = r }

-- one call, which was answered, failed, or found no memory
pub worked_answered : (H : Call → List ℕ → Type 0) (p : ℕ) (F : Call → Type 0) (call : Call) (given : List ℕ) (said : Said) (most : ℕ) (a b : Told) (R : Trace → Type 0) →
    F call → H call given → one_put call ≤ p → one_ask (kind_of call) ≤ most → Answered call given said a b →
    R (trace_of ((call, said) ∷ []) 0 a b) → Worked H p F most a b R
worked_answered H p F call given said most a b R for hands put le answered r = record { own = _; talked = answered; calls = (for, tt); hands = (hands, tt); few_puts = omega (arith, put); few = omega (arith, le); stops = ((λ e. refl), tt); outcome = r }

pub worked_refused : (H : Call → List ℕ → Type 0) (p : ℕ) (F : Call → Type 0) (call : Call) (given : List ℕ) (most : ℕ) (a b : Told) (R : Trace → Type 0) →
    F call → H call given → one_put call ≤ p → one_ask (kind_of call) ≤ most → Refused call given a b → R (trace_of [] 1 a b) →
    Worked H p F most a b R
worked_refused H p F call given most a b R for hands put le refused r = record { own = _; talked = refused; calls = (for, tt); hands = (hands, tt); few_puts = omega (arith, put); few = omega (arith, le); stops = ((λ e. refl), tt); outcome = r }

pub worked_unheard : (H : Call → List ℕ → Type 0) (p : ℕ) (F : Call → Type 0) (most : ℕ) (a b : Told) (R : Trace → Type 0) → Unheard a b →
    R (trace_of [] 0 a b) → Worked H p F most a b R
worked_unheard H p F most a b R unheard r = record { own = []; talked = unheard.talked; calls = tt; hands = tt; few_puts = omega arith; few = omega arith; stops = tt; outcome = r }

-- the same calls, for wider words
pub worked_as : (H : Call → List ℕ → Type 0) (p : ℕ) (F G : Call → Type 0) (m n : ℕ) (a b : Told) (P R : Trace → Type 0) (d : Worked H p F m a b P) →
    ((call : Call) → F call → G call) → m ≤ n → R (trace_of (heard_of d.own) (failures_of d.own) a b) → Worked H p G n a b R
worked_as H p F G m n a b P R d f le r = record {
  own = d.own;
  talked = d.talked;
  calls = each_so (λ call given. F call) (λ call given. G call) d.own (λ call given p. f call p) d.calls;
  hands = d.hands;
  few_puts = d.few_puts;
  few = omega (arith, d.few, le);
  stops = d.stops;
  outcome = r;
}

pub worked_so : (H : Call → List ℕ → Type 0) (p : ℕ) (F G : Call → Type 0) (m n : ℕ) (a b : Told) (P Q : Trace → Type 0) → Worked H p F m a b P →
    ((call : Call) → F call → G call) → m ≤ n → ((t : Trace) → P t → Q t) → Worked H p G n a b Q
worked_so H p F G m n a b P Q d f le q = worked_as H p F G m n a b P Q d f le (q _ d.outcome)

-- one thing after another, where no call of the first failed
pub worked_then : (H : Call → List ℕ → Type 0) (p q : ℕ) (F : Call → Type 0) (m n : ℕ) (a b c : Told) (P Q R : Trace → Type 0) →
    Worked H p F m a b P → Worked H q F n b c Q
    → ((t : Trace) → P t → t.failed ≡ 0)
    → ((x y : Exchanges) (failed : ℕ) → a.faults ≤ b.faults → P (trace_of x 0 a b) → Q (trace_of y failed b c) → R (trace_of (x ++ y) failed a c)) → Worked H (p + q) F (m + n) a c R
worked_then H p q F m n a b c P Q R d e none r =
    let answered : failures_of d.own ≡ 0 = none _ d.outcome in
    let failed : failures_of (d.own ++ e.own) ≡ failures_of e.own = omega (arith, failures_of-append d.own e.own, answered) in
    record {
      own = d.own ++ e.own;
      talked = talked_on a b c d.own e.own d.talked e.talked;
      calls = each_both (λ call given. F call) d.own e.own d.calls e.calls;
      hands = each_both H d.own e.own d.hands e.hands;
      few_puts = omega (arith, puts_of-append d.own e.own, d.few_puts, e.few_puts);
      few = omega (arith, asks_of-append d.own e.own, d.few, e.few);
      stops = stops_on d.own e.own answered e.stops;
      outcome =
          subst (λ z. R (trace_of z (failures_of (d.own ++ e.own)) a c)) (sym (heard_of-append d.own e.own))
          (subst (λ (k : ℕ). R (trace_of (heard_of d.own ++ heard_of e.own) k a c)) (sym failed)
          (r (heard_of d.own) (heard_of e.own) (failures_of e.own) d.talked.faults
          (subst (λ (k : ℕ). P (trace_of (heard_of d.own) k a b)) answered d.outcome) e.outcome));
    }

both_so : (F : Call → Type 0) (H K : Call → List ℕ → Type 0) (own : List Made) →
    ((call : Call) (given : List ℕ) → F call → H call given → K call given) → Each (λ call given. F call) own → Each H own → Each K own
both_so F H K [] f calls hands = tt
both_so F H K (m ∷ own) f calls hands = (f m.call m.given calls.0 hands.0, both_so F H K own f calls.1 hands.1)

-- what is handed over, in wider words
pub worked_hands : (H K : Call → List ℕ → Type 0) (p : ℕ) (F : Call → Type 0) (m : ℕ) (a b : Told) (P : Trace → Type 0) →
    ((call : Call) (given : List ℕ) → F call → H call given → K call given) → Worked H p F m a b P → Worked K p F m a b P
worked_hands H K p F m a b P f d = record { own = d.own; talked = d.talked; calls = d.calls; hands = both_so F H K d.own f d.calls d.hands; few_puts = d.few_puts; few = d.few; stops = d.stops; outcome = d.outcome }

-- with a larger bound
pub worked_more : (H : Call → List ℕ → Type 0) (p q : ℕ) (F : Call → Type 0) (m : ℕ) (a b : Told) (P : Trace → Type 0) → p ≤ q →
    Worked H p F m a b P → Worked H q F m a b P
worked_more H p q F m a b P le d = record { own = d.own; talked = d.talked; calls = d.calls; hands = d.hands; few_puts = omega (arith, d.few_puts, le); few = d.few; stops = d.stops; outcome = d.outcome }
