-- One call more on a tape.
use Rattle.std.proofs.Common.{length-append, ◌≡◌, ℕ, ◌+◌, ◌-◌, ◌^◌, ◌<◌, ◌≤◌, min, List, [], ◌∷◌, ◌++◌, length, refl, ap, sym, ◌∙◌, append_assoc, append-nil, inl, inr, arith, Option, Some, None}
use Rattle.std.proofs.lemmas.Option.{slice_get_within}
use Rattle.std.specs.Prelude.{slice_get, drop, zero, suc}
use Rattle.std.proofs.lemmas.List.{drop-drop, drop_all}
use Rattle.host_traits.specs.declared.calls.Call.{Call}
use Rattle.host_traits.specs.declared.calls.Said.{Said}
use Rattle.host_traits.specs.declared.calls.TapeItem.{TapeItem}
use Rattle.host_traits.specs.declared.calls.TapeItem.TheVariants.{Bytes, Done, Number, Failed}
use Rattle.host_traits.specs.Told.{Answered, Refused, Exchanges, and_more, behind, taken_one, next_answer, exchange_of, one_failure, answer_of, kind_of, kind_bytes, kind_number, kind_done, heard_size, said_size}
use Rattle.host_traits.proofs.Talking.{asked_one}
use Rattle.host_tape.specs.Played.{Played, IsPlayed, Refuses, tape_told, recited, came_of, failures, last_failure, later_failure, or_else}

some_is : {s r : TapeItem} → Some s ≡ Some r → s ≡ r
some_is e = cc

-- the next call takes the next record
pub recited-next : (calls : List Call) (records : List TapeItem) (call : Call) (r : TapeItem) → slice_get records (length calls) ≡ Some r
    → recited (calls ++ call ∷ []) records ≡ recited calls records ++ exchange_of call (answer_of (kind_of call) r)
recited-next [] [] call r at = cc
recited-next [] (s ∷ records) call r at = rw append-nil (ap (λ x. exchange_of call (answer_of (kind_of call) x)) (some_is at))
recited-next (c ∷ calls) [] call r at = cc
recited-next (c ∷ calls) (s ∷ records) call r at = rw (recited-next calls records call r at) (sym (append_assoc (exchange_of c (answer_of (kind_of c) s)) (recited calls records) (exchange_of call (answer_of (kind_of call) r))))

came_of-next : (calls : List Call) (records : List TapeItem) (call : Call) (r : TapeItem) → slice_get records (length calls) ≡ Some r
    → came_of (calls ++ call ∷ []) records ≡ came_of calls records ++ (call, answer_of (kind_of call) r) ∷ []
came_of-next [] [] call r at = cc
came_of-next [] (s ∷ records) call r at = ap (λ x. (call, answer_of (kind_of call) x) ∷ []) (some_is at)
came_of-next (c ∷ calls) [] call r at = cc
came_of-next (c ∷ calls) (s ∷ records) call r at = ap (λ z. (c, answer_of (kind_of c) s) ∷ z) (came_of-next calls records call r at)

-- the records that are left begin with the next one
pub drop_at : (records : List TapeItem) (n : ℕ) (r : TapeItem) → slice_get records n ≡ Some r → drop n records ≡ r ∷ drop (suc n) records
drop_at [] zero r at = cc
drop_at [] (suc n) r at = cc
drop_at (s ∷ records) zero r at = ap (λ x. x ∷ records) (some_is at)
drop_at (s ∷ records) (suc n) r at = drop_at records n r at

pub failures-next : (calls : List Call) (records : List TapeItem) (call : Call) (r : TapeItem) → slice_get records (length calls) ≡ Some r
    → failures (calls ++ call ∷ []) records ≡ failures calls records + one_failure (answer_of (kind_of call) r)
failures-next [] [] call r at = cc
failures-next [] (s ∷ records) call r at =
    let e = ap (λ x. one_failure (answer_of (kind_of call) x)) (some_is at) in
    omega (arith, e)
failures-next (c ∷ calls) [] call r at = cc
failures-next (c ∷ calls) (s ∷ records) call r at = omega (arith, failures-next calls records call r at)

later-some : (call : Call) (said : Option Said) (c : Call) → later_failure call said (Some c) ≡ Some c
later-some call said c = refl

pub last-refused : (calls : List Call) (records : List TapeItem) (call : Call) (r : TapeItem) → slice_get records (length calls) ≡ Some r
    → answer_of (kind_of call) r ≡ None → last_failure (calls ++ call ∷ []) records ≡ Some call
last-refused [] [] call r at none = cc
last-refused [] (s ∷ records) call r at none = ap (λ x. later_failure call (answer_of (kind_of call) x) None) (some_is at) ∙ ap (λ x. later_failure call x None) none
last-refused (c ∷ calls) [] call r at none = cc
last-refused (c ∷ calls) (s ∷ records) call r at none = ap (later_failure c (answer_of (kind_of c) s)) (last-refused calls records call r at none)

pub last-answered : (calls : List Call) (records : List TapeItem) (call : Call) (r : TapeItem) (said : Said) → slice_get records (length calls) ≡ Some r
    → answer_of (kind_of call) r ≡ Some said → last_failure (calls ++ call ∷ []) records ≡ last_failure calls records
last-answered [] [] call r said at some = cc
last-answered [] (s ∷ records) call r said at some = ap (λ x. later_failure call (answer_of (kind_of call) x) None) (some_is at) ∙ ap (λ x. later_failure call x None) some
last-answered (c ∷ calls) [] call r said at some = cc
last-answered (c ∷ calls) (s ∷ records) call r said at some = ap (later_failure c (answer_of (kind_of c) s)) (last-answered calls records call r said at some)

pub heard_size-append : (a b : Exchanges) → heard_size (a ++ b) ≡ heard_size a + heard_size b
heard_size-append [] b = omega arith
heard_size-append (x ∷ a) b = omega (arith, heard_size-append a b)

-- a call that takes a record keeps the counters
counted-next : (records : List TapeItem) (calls : List Call) (room count size : ℕ) (last : Option Call) (call : Call) (r : TapeItem) (came : Option Said) (count' size' : ℕ) → IsPlayed records calls room count size last
    → slice_get records (length calls) ≡ Some r → answer_of (kind_of call) r ≡ came → count' ≡ count + one_failure came → size' ≡ min (heard_size (recited calls records ++ exchange_of call came)) (2 ^ 64 - 1)
    → IsPlayed records (calls ++ call ∷ []) room count' size' last
counted-next records calls room count size last call r came count' size' p at is failed heard =
    let fails = failures-next calls records call r at ∙ ap (λ x. failures calls records + one_failure x) is in
    let recites = recited-next calls records call r at ∙ ap (λ a. recited calls records ++ exchange_of call a) is in
    record {
      fits = simp length-append (omega (arith, slice_get_within records (length calls) r at));
      early = λ more. p.early (slice_get_within records (length calls) r at);
      spare = p.spare;
      refusals = omega (arith, failed, p.refusals, fails);
      sizes = heard ∙ ap (λ h. min (heard_size h) (2 ^ 64 - 1)) (sym recites);
    }

-- an answer, with its bytes
pub counted-answer : (records : List TapeItem) (calls : List Call) (room count size more : ℕ) (last : Option Call) (call : Call) (r : TapeItem) (said : Said) → IsPlayed records calls room count size last
    → slice_get records (length calls) ≡ Some r → answer_of (kind_of call) r ≡ Some said → more ≡ said_size said → IsPlayed records (calls ++ call ∷ []) room count (min (size + more) (2 ^ 64 - 1)) last
counted-answer records calls room count size more last call r said p at some more_is =
    let total : heard_size (recited calls records ++ (call, said) ∷ []) ≡ heard_size (recited calls records) + said_size said = heard_size-append (recited calls records) ((call, said) ∷ []) ∙ omega arith in
    counted-next records calls room count size last call r (Some said) count (min (size + more) (2 ^ 64 - 1)) p at some (omega arith) (omega (arith, p.sizes, total, more_is))

pub counted-refusal : (records : List TapeItem) (calls : List Call) (room count size : ℕ) (last : Option Call) (call : Call) (r : TapeItem) → IsPlayed records calls room count size last
    → slice_get records (length calls) ≡ Some r → answer_of (kind_of call) r ≡ None → IsPlayed records (calls ++ call ∷ []) room (count + 1) size last
counted-refusal records calls room count size last call r p at none =
    counted-next records calls room count size last call r None (count + 1) size p at none (omega arith) (p.sizes ∙ ap (λ h. min (heard_size h) (2 ^ 64 - 1)) (sym (append-nil (recited calls records))))

-- one record less is ahead
ahead-next : (calls : List Call) (records : List TapeItem) (call : Call) → Some (drop (length (calls ++ call ∷ [])) records) ≡ behind (Some (drop (length calls) records))
ahead-next calls records call = ap (λ n. Some (drop n records)) (length-append calls (call ∷ [])) ∙ ap Some (sym (drop-drop 1 (length calls) records))

-- a call that took a record
module _ (p : Played) (call : Call) (given : List ℕ) (r : TapeItem) (came : Option Said) (at : slice_get p.records (length p.calls) ≡ Some r) (is : answer_of (kind_of call) r ≡ came) where
  made-next : Some (came_of (p.calls ++ call ∷ []) p.records) ≡ and_more (Some (came_of p.calls p.records)) (taken_one (Some (drop (length p.calls) p.records)) call came)
  made-next = ap Some (came_of-next p.calls p.records call r at ∙ ap (λ x. came_of p.calls p.records ++ (call, x) ∷ []) is
      ∙ ap (λ z. came_of p.calls p.records ++ taken_one (Some z) call came) (sym (drop_at p.records (length p.calls) r at)))

  plays-next : came ≡ next_answer (drop (length p.calls) p.records) call
  plays-next = sym is ∙ ap (λ z. next_answer z call) (sym (drop_at p.records (length p.calls) r at))

  heard-next : recited (p.calls ++ call ∷ []) p.records ≡ recited p.calls p.records ++ exchange_of call came
  heard-next = recited-next p.calls p.records call r at ∙ ap (λ x. recited p.calls p.records ++ exchange_of call x) is

  fails-next : failures (p.calls ++ call ∷ []) p.records ≡ failures p.calls p.records + one_failure came
  fails-next = failures-next p.calls p.records call r at ∙ ap (λ x. failures p.calls p.records + one_failure x) is

-- a record that answers
pub played-answer : (p : Played) (call : Call) (given : List ℕ) (r : TapeItem) (said : Said) → slice_get p.records (length p.calls) ≡ Some r
    → answer_of (kind_of call) r ≡ Some said → Answered call given said (tape_told p) (tape_told (record p { calls = p.calls ++ call ∷ [] }))
played-answer p call given r said at some =
    let fails = fails-next p call given r (Some said) at some in
    asked_one call given (Some said) (tape_told p) (tape_told (record p { calls = p.calls ++ call ∷ [] }))
    (omega (arith, fails)) (omega (arith, fails))
    (ap (or_else p.last_late) (last-answered p.calls p.records call r said at some))
    (ap Some (heard-next p call given r (Some said) at some))
    (made-next p call given r (Some said) at some)
    refl (ahead-next p.calls p.records call) (plays-next p call given r (Some said) at some) refl refl

-- a record that refuses, where no call came after the end
pub played-refusal : (p : Played) (call : Call) (given : List ℕ) (r : TapeItem) → p.last_late ≡ None → slice_get p.records (length p.calls) ≡ Some r → answer_of (kind_of call) r ≡ None
    → Refused call given (tape_told p) (tape_told (record p { calls = p.calls ++ call ∷ [] }))
played-refusal p call given r early at none =
    let fails = fails-next p call given r None at none in
    asked_one call given None (tape_told p) (tape_told (record p { calls = p.calls ++ call ∷ [] }))
    (omega (arith, fails)) (omega (arith, fails))
    (ap (λ x. or_else x (last_failure (p.calls ++ call ∷ []) p.records)) early ∙ last-refused p.calls p.records call r at none)
    (ap Some (heard-next p call given r None at none))
    (made-next p call given r None at none)
    refl (ahead-next p.calls p.records call) (plays-next p call given r None at none) refl refl

-- a call after the end
pub played-late : (p : Played) (call : Call) (given : List ℕ) → length p.records ≤ length p.calls
    → Refused call given (tape_told p) (tape_told (record p { late = min (p.late + 1) (2 ^ 64 - 1); last_late = Some call }))
played-late p call given end =
    let none : drop (length p.calls) p.records ≡ [] = drop_all (length p.calls) p.records end in
    asked_one call given None (tape_told p) (tape_told (record p { late = min (p.late + 1) (2 ^ 64 - 1); last_late = Some call }))
    (omega arith) (omega arith) refl (ap Some (sym (append-nil (recited p.calls p.records))))
    (ap Some (sym (append-nil (came_of p.calls p.records)) ∙ ap (λ z. came_of p.calls p.records ++ taken_one (Some z) call None) (sym none)))
    refl (ap Some (none ∙ ap (drop 1) (sym none))) (ap (λ z. next_answer z call) (sym none)) refl refl

-- a refusal is by the next record, while there is one
pub refusing : (p : Played) (call : Call) → length p.calls < length p.records → Refuses p.records (length p.calls) call
    → (r : TapeItem) × (slice_get p.records (length p.calls) ≡ Some r) × (answer_of (kind_of call) r ≡ None)
refusing p call lt (inl end) = absurd (omega arith)
refusing p call lt (inr r) = r

-- only bytes answer a read
pub not_bytes : (most : ℕ) (r : TapeItem) → ((bytes : List ℕ) → r ≡ Bytes bytes → ⊥) → answer_of (kind_bytes most) r ≡ None
not_bytes most (Bytes bytes) not = absurd (not bytes refl)
not_bytes most Done _ = refl
not_bytes most (Number n) _ = refl
not_bytes most Failed _ = refl

pub not_number : (r : TapeItem) → ((n : ℕ) → r ≡ Number n → ⊥) → answer_of kind_number r ≡ None
not_number (Bytes bytes) _ = refl
not_number Done _ = refl
not_number (Number n) not = absurd (not n refl)
not_number Failed _ = refl

-- only a record Done answers what is only done
pub not_done : (r : TapeItem) → (r ≡ Done → ⊥) → answer_of kind_done r ≡ None
not_done (Bytes bytes) _ = refl
not_done Done not = absurd (not refl)
not_done (Number n) _ = refl
not_done Failed _ = refl

one_failure-most : (said : Option Said) → one_failure said ≤ 1
one_failure-most None = omega arith
one_failure-most (Some said) = omega arith

pub failures-most : (calls : List Call) (records : List TapeItem) → failures calls records ≤ length calls
failures-most [] records = omega arith
failures-most (c ∷ calls) [] = omega arith
failures-most (c ∷ calls) (r ∷ records) = omega (arith, failures-most calls records, one_failure-most (answer_of (kind_of c) r))
