-- The rows of a get and of a put, from the work that was done for it.
use Rattle.std.proofs.Common.{◌≡◌, ◌∙◌, ℕ, ◌-◌, ◌<◌, ◌≤◌, List, [], length, take, drop, if◌then◌else◌, Bool, true, false, refl, sym, ap, subst, Ok, Err, Option, Some, None, Result, arith}
use Rattle.std.proofs.Math.Seq.{take-length}
use Rattle.std.proofs.lemmas.List.{length-drop}
use Rattle.host_traits.specs.Told.{Told}
use Rattle.host_traits.specs.Did.{Did, DidBy, Trace, reads}
use Rattle.host_traits.proofs.Doing.{did_none}
use Rattle.session_frames.specs.Replies.{Sent, sent_if, sent_code}
use Rattle.instance_image.specs.declared.faults.GetFault.{GetFault}
use Rattle.instance_image.specs.declared.faults.GetFault.TheVariants as gets
use Rattle.instance_image.specs.declared.faults.PutFault.{PutFault}
use Rattle.instance_image.specs.declared.values.Part.{Part}
use Rattle.instance_image.specs.declared.faults.PutFault.TheVariants as puts
use Rattle.instance_image.specs.Records.{Kept, fits, fits_in, fitting, is_large, room_of, find_part}
use Rattle.instance_image.specs.Access.{GetOutcome, IsGetCall, PutOutcome, IsPutting}
use Rattle.instance_image.specs.Promised.{RecordIsGot, PutIsKept}
use Rattle.guest_rules.specs.Machine.{Instance, Setting, State, image_with}
use Rattle.guest_rules.specs.RecordRow.{IsForGet, IsForPut, get_sent, get_cause, put_code, put_cause, nonce_of, with_put, no_image, got, refused, no_entropy, put}
use Rattle.guest_rules.specs.RecordRow as rows
use Rattle.guest_rules.specs.Step.{Stepped}
use Rattle.guest_rules.specs.Faithful.{GetIsServed, PutIsServed}
use Rattle.guest_rules.proofs.Runs.{stepped}
use Rattle.guest_cli.specs.Turns.{framed}
use Rattle.guest_cli.specs.Works.{get_reply}

-- what is sent for a get
pub get_sent_is : (r : Result (List ℕ) GetFault) (served : List ℕ) → sent_if (Some (get_reply r)) served ≡ get_sent r
get_sent_is (Ok text) served = refl
get_sent_is (Err gets.NoRecord) served = refl
get_sent_is (Err (gets.Failed faults)) served = refl
get_sent_is (Err (gets.Short asked came)) served = refl
get_sent_is (Err (gets.Changed sector)) served = refl
get_sent_is (Err (gets.Tag tag)) served = refl
get_sent_is (Err gets.Memory) served = refl

-- what follows the first 16 bytes
pub rest_is : (xs : List ℕ) → take (length xs - 16) (drop 16 xs) ≡ drop 16 xs
rest_is xs = ap (λ n. take n (drop 16 xs)) (sym (length-drop 16 xs)) ∙ take-length (drop 16 xs)

-- ---- whether a text fits

pub fits_err : (r : Result Part PutFault) (why : PutFault) → fits r ≡ Err why → r ≡ Err why
fits_err (Ok p) why e = absurd cc
fits_err (Err x) why e = let same : x ≡ why = cc in ap (λ (w : PutFault). Err w) same

pub fits_ok : (r : Result Part PutFault) (u : Unit {0}) → fits r ≡ Ok u → (p : Part) × (r ≡ Ok p)
fits_ok (Ok p) u e = (p, refl)
fits_ok (Err x) u e = absurd cc

large_cause : (n : ℕ) (p : Part) (b : Bool) (why : PutFault) → (if b then Err (puts.TooLarge n (room_of p)) else Ok p) ≡ Err why → put_cause (Err why) ≡ None
large_cause n p true why e = let same : puts.TooLarge n (room_of p) ≡ why = cc in subst (λ (w : PutFault). put_cause (Err w) ≡ None) same refl
large_cause n p false why e = absurd cc

by_part : (n : ℕ) (o : Option Part) (why : PutFault) → fitting n o ≡ Err why → put_cause (Err why) ≡ None
by_part n None why e = let same : puts.NoRecord ≡ why = cc in subst (λ (w : PutFault). put_cause (Err w) ≡ None) same refl
by_part n (Some p) why e = large_cause n p (is_large n p) why e

-- a text that doesn't fit has no cause
pub no_cause : (parts : List Part) (uuid : List ℕ) (n : ℕ) (why : PutFault) → fits_in parts uuid n ≡ Err why → put_cause (Err why) ≡ None
no_cause parts uuid n why e = by_part n (find_part parts uuid) why e

-- a put leaves an image where it is
pub image_stays : (k : Kept) (uuid text : List ℕ) (now : Kept) (r : Result (Unit {0}) PutFault) (t : Trace) → PutOutcome k uuid text now r t → now ≡ record k { parts = now.parts }
image_stays k uuid text now (Ok u) t w = rw w.1.now_is refl
image_stays k uuid text now (Err puts.NoRecord) t w = rw w.0 refl
image_stays k uuid text now (Err (puts.TooLarge n room)) t w = rw w.0 refl
image_stays k uuid text now (Err puts.Memory) t w = rw w.0 refl
image_stays k uuid text now (Err (puts.Failed faults)) t w = rw w.0 refl

module _ (g : Setting) (a b : Told) (payload : List ℕ) where
  -- ---- gets

  pub get_none : (state : State) → g.image ≡ None → Stepped g state state a a (framed 2 payload) (sent_code 2 2) None
  get_none state none = stepped g state state a a _ _ _ (reads (λ call. ⊥)) 0 (λ t. (t.own ≡ []) × (t.failed ≡ 0)) (did_none _ 0 a _ (refl, refl)) (λ call given no. absurd no.0) (omega arith)
      (λ run own failed none_made. (refl, no_image none (record { own = none_made.0; failed = none_made.1 })))

  pub none_got : (parts : List Part) (uuid : List ℕ) (sent : Sent) (cause : _) → g.image ≡ None → GetIsServed g.image parts uuid a b sent cause
  none_got parts uuid sent cause none = rw none tt

  module _ (state : State) (i : Instance) (there : g.image ≡ Some i) (r : Result (List ℕ) GetFault) (served : List ℕ) where
    for_get : (call : _) (given : List ℕ) → reads (IsGetCall (image_with i state.parts) payload) call given → IsForGet g.image state.parts payload call given
    for_get call given for = subst (λ (o : Option Instance). IsForGet o state.parts payload call given) (sym there) for

    pub get_step : Did (IsGetCall (image_with i state.parts) payload) 1 a b (GetOutcome (image_with i state.parts) i.secret payload r)
        → Stepped g state state a b (framed 2 payload) (sent_if (Some (get_reply r)) served) (get_cause r)
    get_step d = rw (get_sent_is r served) (stepped g state state a b (framed 2 payload) (get_sent r) (get_cause r) _ 1 _ d for_get (omega arith)
        (λ run own failed outcome. (refl, got i r there outcome tt)))

    pub is_got : RecordIsGot (image_with i state.parts) i.secret payload a b r → GetIsServed g.image state.parts payload a b (sent_if (Some (get_reply r)) served) (get_cause r)
    is_got right = subst (λ (o : Option Instance). GetIsServed o state.parts payload a b (sent_if (Some (get_reply r)) served) (get_cause r)) (sym there)
        (record { result = r; sent_is = get_sent_is r served; cause_is = refl; got = right })

  -- ---- puts

  pub put_none : (state : State) → g.image ≡ None → Stepped g state state a a (framed 3 payload) (sent_code 3 2) None
  put_none state none = stepped g state state a a _ _ _ (reads (λ call. ⊥)) 0 (λ t. (t.own ≡ []) × (t.failed ≡ 0)) (did_none _ 0 a _ (refl, refl)) (λ call given no. absurd no.0) (omega arith)
      (λ run own failed none_made. no_image none (record { own = none_made.0; failed = none_made.1 }) refl)

  module _ (uuid text : List ℕ) (uuid_is : uuid ≡ take 16 payload) (text_is : text ≡ drop 16 payload) where
    pub put_refused : (state : State) (i : Instance) (why : PutFault) → g.image ≡ Some i → fits_in state.parts uuid (length text) ≡ Err why
        → Stepped g state state a a (framed 3 payload) (sent_code 3 (put_code (Err why))) None
    put_refused state i why there does = stepped g state state a a _ _ _ (reads (λ call. ⊥)) 0 (λ t. (t.own ≡ []) × (t.failed ≡ 0)) (did_none _ 0 a _ (refl, refl)) (λ call given no. absurd no.0) (omega arith)
        (λ run own failed none_made. refused i why there (rw (uuid_is, text_is) at does) (record { own = none_made.0; failed = none_made.1 }) refl)

    pub put_unsealed : (state : State) (i : Instance) (part : Part) → g.image ≡ Some i → fits_in state.parts uuid (length text) ≡ Ok part → length state.entropy < 12
        → Stepped g state state a a (framed 3 payload) (sent_code 3 200) None
    put_unsealed state i part there does few = stepped g state state a a _ _ _ (reads (λ call. ⊥)) 0 (λ t. (t.own ≡ []) × (t.failed ≡ 0)) (did_none _ 0 a _ (refl, refl)) (λ call given no. absurd no.0) (omega arith)
        (λ run own failed none_made. no_entropy i part there (rw (uuid_is, text_is) at does) few (record { own = none_made.0; failed = none_made.1 }) refl)

    module _ (old new : State) (i : Instance) (there : g.image ≡ Some i) (part : Part) (does : fits_in old.parts uuid (length text) ≡ Ok part) (enough : 12 ≤ length old.entropy) (r : Result (Unit {0}) PutFault) where
      pub put_step : DidBy (IsPutting (image_with i old.parts) i.secret uuid (nonce_of old) text) 1 a b (PutOutcome (image_with i old.parts) uuid text (image_with i new.parts) r)
          → new ≡ with_put old new.parts
          → Stepped g old new a b (framed 3 payload) (sent_code 3 (put_code r)) (put_cause r)
      put_step d is = stepped g old new a b (framed 3 payload) (sent_code 3 (put_code r)) (put_cause r) _ 1 _ (rw (uuid_is, text_is) at d)
          (λ call given for. subst (λ (o : Option Instance). IsForPut o old (take 16 payload) (drop 16 payload) call given) (sym there) for) (omega arith)
          (λ run own failed outcome. rows.put i part r there (rw (uuid_is, text_is) at does) enough outcome is)

      pub is_put : PutIsKept (image_with i old.parts) i.secret uuid (nonce_of old) text a b r
          → PutIsServed g.image old (take 16 payload) (drop 16 payload) a b (sent_code 3 (put_code r)) (put_cause r)
      is_put right = subst (λ (o : Option Instance). PutIsServed o old (take 16 payload) (drop 16 payload) a b (sent_code 3 (put_code r)) (put_cause r)) (sym there)
          (λ p fit some. record { result = r; sent_is = refl; cause_is = refl; kept = rw (uuid_is, text_is) at right })
