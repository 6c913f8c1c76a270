-- The order of calls, of one call and of one piece of work after another.
use Rattle.std.proofs.Common.{◌≡◌, ℕ, zero, suc, ◌+◌, ◌≤◌, ◌∙◌, List, [], ◌∷◌, ◌++◌, length, take, Option, Some, None, refl, ap, sym, subst, append_assoc, arith, inl}
use Rattle.std.specs.Prelude.{slice_get}
use Rattle.std.proofs.lemmas.List.{length-take, length-append, take_all}
use Rattle.host_traits.specs.declared.calls.Call.{Call}
use Rattle.host_traits.specs.declared.calls.Said.{Said}
use Rattle.host_traits.specs.Told.{Told, Made, Talked, Exchanges, heard_of, failures_of}
use Rattle.host_traits.specs.Did.{Trace, trace_of, Did, Each, reads, IsIn}
use Rattle.host_traits.proofs.Doing.{in_right}
use Rattle.verity_path.specs.Order.{asked_in, IsInOrder, IsLast, IsLastShort}

pub asked-append : (u v : Exchanges) → asked_in (u ++ v) ≡ asked_in u ++ asked_in v
asked-append [] v = refl
asked-append (x ∷ u) v = ap (λ (cs : List Call). x.0 ∷ cs) (asked-append u v)

asked-length : (u : Exchanges) → length (asked_in u) ≡ length u
asked-length [] = refl
asked-length (x ∷ u) = ap suc (asked-length u)

take-front : (xs ys : List Call) (n : ℕ) → take (length xs + n) (xs ++ ys) ≡ xs ++ take n ys
take-front [] ys n = let none : 0 + n ≡ n = omega arith in ap (λ (k : ℕ). take k ys) none
take-front (x ∷ xs) ys n =
    let more : suc (length xs) + n ≡ suc (length xs + n) = omega arith in
    ap (λ (k : ℕ). take k (x ∷ (xs ++ ys))) more ∙ ap (λ (cs : List Call). x ∷ cs) (take-front xs ys n)

take-low : (n : ℕ) (xs ys : List Call) → n ≤ length xs → take n (xs ++ ys) ≡ take n xs
take-low zero xs ys le = refl
take-low (suc n) [] ys le = absurd (omega (arith, le))
take-low (suc n) (x ∷ xs) ys le = ap (λ (cs : List Call). x ∷ cs) (take-low n xs ys (omega (arith, le)))

get-front : (xs ys : List Call) (n : ℕ) → slice_get (xs ++ ys) (length xs + n) ≡ slice_get ys n
get-front [] ys n = let none : 0 + n ≡ n = omega arith in ap (slice_get ys) none
get-front (x ∷ xs) ys n =
    let more : suc (length xs) + n ≡ suc (length xs + n) = omega arith in
    ap (slice_get (x ∷ (xs ++ ys))) more ∙ get-front xs ys n

get-more : (xs ys : List Call) (n : ℕ) (call : Call) → slice_get xs n ≡ Some call → slice_get (xs ++ ys) n ≡ Some call
get-more [] ys n call e = absurd cc
get-more (x ∷ xs) ys zero call e = e
get-more (x ∷ xs) ys (suc n) call e = get-more xs ys n call e

-- all of the calls, none of which failed, are in order
pub whole_order : (asked : List Call) (t : Trace) → t.failed ≡ 0 → asked_in t.own ≡ asked → IsInOrder asked t
whole_order asked t none all = record {
  answered =
      let len : length asked ≡ length t.own = ap length (sym all) ∙ asked-length t.own in
      all ∙ sym (take_all (length t.own) asked (omega (arith, len)));
  failed = λ call one last. absurd (omega (arith, none, one));
}

-- where the first part made its calls, and the later part's are in order, the whole's are
pub later_order : (first part rest whole : List Call) (u v : Exchanges) (failed : ℕ) (x y z : Told) → first ++ (part ++ rest) ≡ whole → asked_in u ≡ first
    → IsInOrder part (trace_of v failed y z) → IsInOrder whole (trace_of (u ++ v) failed x z)
later_order first part rest whole u v failed x y z is was order =
    let few : length v ≤ length part =
    omega (arith, ap length order.answered, asked-length v, length-take (length v) part) in
    let count : length first ≡ length u = ap length (sym was) ∙ asked-length u in
    let size : length (u ++ v) ≡ length first + length v = omega (arith, length-append u v, count) in
    record {
      answered =
          asked-append u v ∙ ap (λ (cs : List Call). cs ++ asked_in v) was ∙ ap (λ (cs : List Call). first ++ cs) (order.answered ∙ sym (take-low (length v) part rest few))
          ∙ sym (take-front first (part ++ rest) (length v)) ∙ ap (λ (n : ℕ). take n (first ++ (part ++ rest))) (sym size) ∙ ap (take (length (u ++ v))) is;
      failed = λ call one last.
          ap (λ (cs : List Call). slice_get cs (length (u ++ v))) (sym is) ∙ ap (slice_get (first ++ (part ++ rest))) size ∙ get-front first (part ++ rest) (length v)
          ∙ get-more part rest (length v) call (order.failed call one last);
    }

same_call : (a b : Call) → Some a ≡ Some b → a ≡ b
same_call a b e = cc

-- at most one call, which can be but one, is in order
one_order : (F : Call → Type 0) (call : Call) (x y : Told) (own : List Made) → ((c : Call) → F c → c ≡ call) → Talked x y own → Each (reads F) own → length own ≤ 1
    → IsInOrder (call ∷ []) (trace_of (heard_of own) (failures_of own) x y)
one_order F call x y [] only talked each few = record {
  answered = refl;
  failed = λ c one last. absurd (omega (arith, one));
}
one_order F call x y (m ∷ []) only talked each few = by_came m.came refl where
  by_came : (came : Option Said) → m.came ≡ came → IsInOrder (call ∷ []) (trace_of (heard_of (m ∷ [])) (failures_of (m ∷ [])) x y)
  by_came None is = rw is (record {
    answered = refl;
    failed = λ c one last.
        let said : Some m.call ≡ y.last_failed = sym (talked.last_failed ∙ rw is refl) in
        let same : m.call ≡ c = same_call m.call c (said ∙ last) in
        ap (λ (k : Call). Some k) (sym (only m.call each.0.0) ∙ same);
  })
  by_came (Some said) is = rw is (record {
    answered = ap (λ (k : Call). k ∷ []) (only m.call each.0.0);
    failed = λ c one last. absurd (omega (arith, one));
  })
one_order F call x y (m ∷ k ∷ own) only talked each few = absurd (omega (arith, few))

pub did_in_order : (F : Call → Type 0) (call : Call) (x y : Told) (P : Trace → Type 0) → ((c : Call) → F c → c ≡ call) → Did F 1 x y P
    → Did F 1 x y (λ t. IsInOrder (call ∷ []) t × P t)
did_in_order F call x y P only d = record {
  own = d.own;
  talked = d.talked;
  calls = d.calls;
  few = d.few;
  stops = d.stops;
  outcome = (one_order F call x y d.own only d.talked d.calls d.few, d.outcome);
}

-- ---- the last answer

pub last_in : (call : Call) (said : Said) (heard : Exchanges) → IsLast call said heard → IsIn call said heard
last_in call said heard l =
    subst (IsIn call said) (sym l.is) (in_right call said l.before ((call, said) ∷ []) (inl refl))

-- the last of a later part is the last of the whole
pub last_later : (call : Call) (said : Said) (u v : Exchanges) → IsLast call said v → IsLast call said (u ++ v)
last_later call said u v l = record {
  before = u ++ l.before;
  is = ap (λ (x : Exchanges). u ++ x) l.is ∙ sym (append_assoc u l.before ((call, said) ∷ []));
}

pub last_short_later : (a b c : Told) (u v : Exchanges) (failed asked got : ℕ) → IsLastShort (trace_of v failed b c) asked got
    → IsLastShort (trace_of (u ++ v) failed a c) asked got
last_short_later a b c u v failed asked got s = record {
  short = record {
    failed = s.short.failed;
    call = s.short.call;
    bytes = s.short.bytes;
    own = in_right _ _ u v s.short.own;
    asks = s.short.asks;
    got_is = s.short.got_is;
    short = s.short.short;
  };
  last = last_later s.short.call _ u v s.last;
}
