-- The table of a disk and the parts in it, step by step.
use Rattle.std.proofs.Common.{◌≡◌, ℕ, zero, suc, ◌<◌, ◌≤◌, ◌∙◌, ◌==◌, drop, get_or, Bool, true, false, List, [], ◌∷◌, ◌++◌, length, Option, Some, None, Result, Ok, Err, refl, ap, sym, subst, inl, inr, arith}
use Rattle.std.specs.Prelude.{IfSome, ◌⊎◌, ◌&&◌, if◌then◌else◌, slice_get}
use Rattle.std.proofs.lemmas.Option.{slice_get_read}
use Rattle.std.specs.List.{All}
use Rattle.std.specs.Str.{bytes_eq}
use Rattle.std.proofs.lemmas.List.Elements.{All-head, All-tail}
use Rattle.mg_base.specs.declared.values.Span.{Span}
use Rattle.host_traits.specs.declared.calls.Call.{Call}
use Rattle.host_traits.specs.declared.calls.Said.TheVariants.{Number, Bytes}
use Rattle.host_traits.specs.Told.{Told, Exchanges}
use Rattle.host_traits.specs.Did.{Did, Trace, trace_of}
use Rattle.host_traits.proofs.Doing.{did_none, did_so, did_then, failed_later, failed_so}
use Rattle.gpt.specs.declared.faults.GptFault.{GptFault}
use Rattle.gpt.specs.declared.faults.GptFault.TheVariants as broken
use Rattle.gpt.specs.declared.values.Entry.{Entry}
use Rattle.gpt.specs.declared.values.Table.{Table}
use Rattle.gpt.specs.Entries.{is_used}
use Rattle.gpt.specs.Rules.{is_sized, gpt_of}
use Rattle.gpt.specs.Names.{part, is_called, span_of, name_units, text_units, IsBounded, UsedIsBounded}
use Rattle.guest_boot.specs.declared.faults.BootCause.{BootCause}
use Rattle.guest_boot.specs.declared.faults.BootCause.TheVariants.{Gpt, NoPart, Apk, File, Image, Get, Put, NoEntropy, MeasureText, Failed, Short, Memory}
use Rattle.guest_boot.specs.Finding.{size_call, head_call, tail_call, IsCall, IsTableCall, HeardEnds, ReadsTable, BreaksTable, TableRefused, TableNext, TableFails, TableOn, TableOutcome, SizeOutcome, IsEnd, EndFails, gpt_cause, table_on, HasTable, HasSoFar, with_table, IsKnown, IsPlaced, PlaceFails, PlaceOutcome, IsLooked, FindFails, FindOutcome, IsSpan}

-- ---- parts are spans

span_bounded : (e : Entry) → IsBounded e → IsSpan (span_of e)
span_bounded e b = record { some = omega arith; end = omega (arith, b.order, b.last) }

called_used : (used named : Bool) → (used && named) ≡ true → used ≡ true
called_used true named e = refl
called_used false named e = e

chosen_span : (b : Bool) (e : Entry) (later : Option Span) → (b ≡ true → IsSpan (span_of e)) → IfSome later IsSpan → IfSome (if b then Some (span_of e) else later) IsSpan
chosen_span true e later now rest = now refl
chosen_span false e later now rest = rest

pub part_is_span : (text : List ℕ) (es : List Entry) → All UsedIsBounded es → IfSome (part text es) IsSpan
unfolding part
part_is_span text [] all = tt
part_is_span text (e ∷ es) all =
    chosen_span (is_called text e) e (part text es)
    (λ called. span_bounded e (All-head UsedIsBounded e es all (called_used (is_used e) (bytes_eq (name_units e.name) (text_units text)) called)))
    (part_is_span text es (All-tail UsedIsBounded e es all))

-- ---- reading a table

module _ (disk : ℕ) where
  size_fails : (why : BootCause) (t : Trace) → SizeOutcome disk (Err why) t → TableFails disk why t
  size_fails (Gpt f) t (none, h) = (none, subst (TableRefused disk t.own) (sym h.why_is) (inl (record { sectors = h.sectors; own_is = h.own_is; sized = h.sized; why_is = refl })))
  size_fails (NoPart name) t h = h
  size_fails (Apk f) t h = h
  size_fails (File f) t h = h
  size_fails (Image f) t h = h
  size_fails (Get f) t h = h
  size_fails (Put f) t h = h
  size_fails (NoEntropy left) t h = h
  size_fails MeasureText t h = h
  size_fails (Failed faults) t h = failed_so (IsCall (size_call disk)) (TableNext disk t.own) t faults (λ call is. inl (h.0, is)) h.1
  size_fails (Short asked got) t h = absurd h
  size_fails Memory t h = (h.0, inl h.1)

  pub no_size : (a b : Told) (why : BootCause) → Did (IsCall (size_call disk)) 1 a b (SizeOutcome disk (Err why)) → Did (IsTableCall disk) 3 a b (TableOutcome disk (Err why))
  no_size a b why d = did_so _ _ 1 3 a b _ _ d (λ call is. inl is) (omega arith) (size_fails why)

  -- the first 40 sectors were heard, after the number of sectors
  abbrev pub Headed : ℕ → List ℕ → Trace → Type 0
  Headed n head t = (t.failed ≡ 0) × (t.own ≡ (size_call disk, Number n) ∷ (head_call disk, Bytes head) ∷ []) × (is_sized n ≡ true) × (length head ≡ 20480)

  abbrev pub Ended : ℕ → List ℕ → List ℕ → Trace → Type 0
  Ended n head tail t = (t.failed ≡ 0) × (t.own ≡ (size_call disk, Number n) ∷ (head_call disk, Bytes head) ∷ (tail_call disk n, Bytes tail) ∷ []) × (is_sized n ≡ true) × (length head ≡ 20480) × (length tail ≡ 20480)

  joined : (x y p q : Exchanges) → x ≡ p → y ≡ q → x ++ y ≡ p ++ q
  joined x y p q e f = rw (e, f) refl

  module _ (n : ℕ) (a b c : Told) where
    head_fails : (why : BootCause) (x y : Exchanges) (failed : ℕ) → a.faults ≤ b.faults → SizeOutcome disk (Ok n) (trace_of x 0 a b) → EndFails (head_call disk) why (trace_of y failed b c)
        → TableFails disk why (trace_of (x ++ y) failed a c)
    head_fails (Gpt f) x y failed le p q = absurd q
    head_fails (NoPart name) x y failed le p q = q
    head_fails (Apk f) x y failed le p q = q
    head_fails (File f) x y failed le p q = q
    head_fails (Image f) x y failed le p q = q
    head_fails (Get f) x y failed le p q = q
    head_fails (Put f) x y failed le p q = q
    head_fails (NoEntropy left) x y failed le p q = q
    head_fails MeasureText x y failed le p q = q
    head_fails (Failed faults) x y failed le p q = failed_so (IsCall (head_call disk)) (TableNext disk (x ++ y)) (trace_of (x ++ y) failed a c) faults
        (λ call is. inr (inl (record { sectors = n; own_is = joined x y _ _ p.1 q.0; sized = p.2 }, is)))
        (failed_later _ a b c x y failed faults le q.1)
    head_fails (Short asked got) x y failed le p q = (q.failed, (q.asked_is, inl (record { sectors = n; head = q.bytes; own_is = joined x y _ _ p.1 q.own_is; sized = p.2; got_is = q.got_is; short = q.short })))
    head_fails Memory x y failed le p (inl none) = (none.0, inr (inl (record { sectors = n; own_is = joined x y _ _ p.1 none.1; sized = p.2 })))
    head_fails Memory x y failed le p (inr (bytes, end)) = (end.0, inr (inr (inl (record { sectors = n; head = bytes; own_is = joined x y _ _ p.1 end.1; sized = p.2; head_len = end.2 }))))

    pub no_head : (why : BootCause) → Did (IsCall (size_call disk)) 1 a b (SizeOutcome disk (Ok n)) → Did (IsCall (head_call disk)) 1 b c (EndFails (head_call disk) why)
        → Did (IsTableCall disk) 3 a c (TableOutcome disk (Err why))
    no_head why d e = did_then (IsTableCall disk) 2 1 a b c _ _ _ (did_so _ _ 1 2 a b _ _ d (λ call is. inl is) (omega arith) (λ t p. p)) (did_so _ _ 1 1 b c _ _ e (λ call is. inr (inl is)) (omega arith) (λ t p. p)) (λ t p. p.0) (head_fails why)

    pub headed : (head : List ℕ) → Did (IsCall (size_call disk)) 1 a b (SizeOutcome disk (Ok n)) → Did (IsCall (head_call disk)) 1 b c (IsEnd (head_call disk) head)
        → Did (IsTableCall disk) 2 a c (Headed n head)
    headed head d e = did_then (IsTableCall disk) 1 1 a b c _ _ _ (did_so _ _ 1 1 a b _ _ d (λ call is. inl is) (omega arith) (λ t p. p)) (did_so _ _ 1 1 b c _ _ e (λ call is. inr (inl is)) (omega arith) (λ t p. p))
        (λ t p. p.0) (λ x y failed le p q. (q.0, joined x y _ _ p.1 q.1, p.2, q.2))

  module _ (n : ℕ) (head : List ℕ) (a b c : Told) where
    tail_fails : (why : BootCause) (x y : Exchanges) (failed : ℕ) → a.faults ≤ b.faults → Headed n head (trace_of x 0 a b) → EndFails (tail_call disk n) why (trace_of y failed b c)
        → TableFails disk why (trace_of (x ++ y) failed a c)
    tail_fails (Gpt f) x y failed le p q = absurd q
    tail_fails (NoPart name) x y failed le p q = q
    tail_fails (Apk f) x y failed le p q = q
    tail_fails (File f) x y failed le p q = q
    tail_fails (Image f) x y failed le p q = q
    tail_fails (Get f) x y failed le p q = q
    tail_fails (Put f) x y failed le p q = q
    tail_fails (NoEntropy left) x y failed le p q = q
    tail_fails MeasureText x y failed le p q = q
    tail_fails (Failed faults) x y failed le p q = failed_so (IsCall (tail_call disk n)) (TableNext disk (x ++ y)) (trace_of (x ++ y) failed a c) faults
        (λ call is. inr (inr (record { sectors = n; head = head; own_is = joined x y _ _ p.1 q.0; sized = p.2; head_len = p.3 }, is)))
        (failed_later _ a b c x y failed faults le q.1)
    tail_fails (Short asked got) x y failed le p q =
        (q.failed, (q.asked_is, inr (record { sectors = n; head = head; tail = q.bytes; own_is = joined x y _ _ p.1 q.own_is; sized = p.2; head_len = p.3; got_is = q.got_is; short = q.short })))
    tail_fails Memory x y failed le p (inl none) = (none.0, inr (inr (inl (record { sectors = n; head = head; own_is = joined x y _ _ p.1 none.1; sized = p.2; head_len = p.3 }))))
    tail_fails Memory x y failed le p (inr (bytes, end)) =
        (end.0, inr (inr (inr (record { sectors = n; head = head; tail = bytes; own_is = joined x y _ _ p.1 end.1; sized = p.2; head_len = p.3; tail_len = end.2 }))))

    for_tail : Did (IsTableCall disk) 2 a b (Headed n head) → (call : Call) → IsCall (tail_call disk n) call → IsTableCall disk call
    for_tail d call is = inr (inr (n, d.outcome.2, is))

    pub no_tail : (why : BootCause) → Did (IsTableCall disk) 2 a b (Headed n head) → Did (IsCall (tail_call disk n)) 1 b c (EndFails (tail_call disk n) why)
        → Did (IsTableCall disk) 3 a c (TableOutcome disk (Err why))
    no_tail why d e = did_then (IsTableCall disk) 2 1 a b c _ _ _ d (did_so _ _ 1 1 b c _ _ e (for_tail d) (omega arith) (λ t p. p)) (λ t p. p.0) (tail_fails why)

    pub ended : (tail : List ℕ) → Did (IsTableCall disk) 2 a b (Headed n head) → Did (IsCall (tail_call disk n)) 1 b c (IsEnd (tail_call disk n) tail)
        → Did (IsTableCall disk) 3 a c (Ended n head tail)
    ended tail d e = did_then (IsTableCall disk) 2 1 a b c _ _ _ d (did_so _ _ 1 1 b c _ _ e (for_tail d) (omega arith) (λ t p. p))
        (λ t p. p.0) (λ x y failed le p q. (q.0, joined x y _ _ p.1 q.1, p.2, p.3, q.2))

  abbrev ends : (n : ℕ) (head tail : List ℕ) (t : Trace) → Ended n head tail t → HeardEnds disk t.own
  ends n head tail t e = record { sectors = n; head = head; tail = tail; own_is = e.1; sized = e.2; head_len = e.3; tail_len = e.4 }

  pub table_read : (n : ℕ) (head tail : List ℕ) (a b : Told) (r : Result Table GptFault) (t : Table) → Did (IsTableCall disk) 3 a b (Ended n head tail)
      → (r ≡ gpt_of head tail n) ⊎ (r ≡ Err broken.Memory) → r ≡ Ok t → Did (IsTableCall disk) 3 a b (TableOutcome disk (Ok (record { disk = disk; table = t })))
  table_read n head tail a b r t d (inl e) ok = did_so _ _ 3 3 a b _ _ d (λ call is. is) (omega arith) (λ u h. (h.0, refl, record { ends = ends n head tail u h; is = sym e ∙ ok }))
  table_read n head tail a b r t d (inr e) ok = absurd (let both : Ok t ≡ Err broken.Memory = sym ok ∙ e in cc)

  refused : (f : GptFault) (u : Trace) → u.failed ≡ 0 → BreaksTable disk u.own f → TableFails disk (gpt_cause f) u
  refused (broken.Size n) u none h = (none, inr h)
  refused broken.Signature u none h = (none, inr h)
  refused (broken.Revision n) u none h = (none, inr h)
  refused (broken.HeaderSize n) u none h = (none, inr h)
  refused (broken.HeaderCrc m n) u none h = (none, inr h)
  refused (broken.EntrySize n) u none h = (none, inr h)
  refused (broken.EntryCount n) u none h = (none, inr h)
  refused broken.Place u none h = (none, inr h)
  refused (broken.ArrayCrc m n) u none h = (none, inr h)
  refused (broken.Range n) u none h = (none, inr h)
  refused (broken.Overlap m n) u none h = (none, inr h)
  refused broken.Memory u none h = (none, inr (inr (inr h.ends)))

  pub table_broken : (n : ℕ) (head tail : List ℕ) (a b : Told) (r : Result Table GptFault) (f : GptFault) → Did (IsTableCall disk) 3 a b (Ended n head tail)
      → (r ≡ gpt_of head tail n) ⊎ (r ≡ Err broken.Memory) → r ≡ Err f → Did (IsTableCall disk) 3 a b (TableOutcome disk (Err (gpt_cause f)))
  table_broken n head tail a b r f d (inl e) is = did_so _ _ 3 3 a b _ _ d (λ call x. x) (omega arith) (λ u h. refused f u h.0 (record { ends = ends n head tail u h; is = sym e ∙ is }))
  table_broken n head tail a b r f d (inr e) is =
      let same : f ≡ broken.Memory = cc in
      did_so _ _ 3 3 a b _ _ d (λ call x. x) (omega arith) (λ u h. subst (λ (z : GptFault). TableFails disk (gpt_cause z) u) (sym same) (h.0, inr (inr (inr (ends n head tail u h)))))

-- ---- the place of a table

-- what stands from a place on
pub drop_at : {A : Type 0} (xs : List A) (i : ℕ) (x : A) → i < length xs → x ≡ get_or xs i x → drop i xs ≡ x ∷ drop (suc i) xs
drop_at [] i x lt is = absurd (omega (arith, lt))
drop_at (y ∷ xs) zero x lt is = ap (λ z. z ∷ xs) (sym is)
drop_at (y ∷ xs) (suc i) x lt is = drop_at xs i x (omega (arith, lt)) is

first_on : (disk : ℕ) (k : TableOn) (ts : List TableOn) → (k.disk == disk) ≡ true → table_on disk (k ∷ ts) ≡ Some k.table
unfolding table_on
first_on disk k ts on = rw on refl

pub known_at : (disk : ℕ) (ts : List TableOn) (i : ℕ) (k : TableOn) → i < length ts → k ≡ get_or ts i k → (k.disk == disk) ≡ true → table_on disk (drop i ts) ≡ table_on disk ts → IsKnown ts disk (Some i)
known_at disk ts i k lt is on e =
    (k, slice_get_read ts (length ts) i k refl lt is, sym e ∙ ap (λ (z : List TableOn). table_on disk z) (drop_at ts i k lt is) ∙ first_on disk k (drop (suc i) ts) on)

pub so_far : (disk : ℕ) (o : Option Table) (own : Exchanges) (t : Table) → HasTable o disk own t → HasSoFar o disk own
so_far disk None own t h = inr (inr (inr h.ends))
so_far disk (Some known) own t h = h.0

last_is : (xs : List TableOn) (k : TableOn) → slice_get (xs ++ k ∷ []) (length xs) ≡ Some k
last_is [] k = refl
last_is (x ∷ xs) k = last_is xs k

module _ (tables : List TableOn) (disk : ℕ) where
  -- a table that was read before
  pub known_before : (place : ℕ) (a : Told) → IsKnown tables disk (Some place) → Did (IsTableCall disk) 3 a a (PlaceOutcome tables disk tables (Ok place))
  known_before place a k = did_none _ 3 a _ (
    refl,
    record {
      table = k.0.table;
      has = subst (λ (o : Option Table). HasTable o disk [] k.0.table) (sym k.2) (refl, refl);
      new_is = ap (λ (o : Option Table). with_table o tables disk k.0.table) (sym k.2);
      known = k.0;
      stands = k.1;
      table_is = refl;
    },
  )

  -- it was not read
  unread : (why : BootCause) (u : Trace) → table_on disk tables ≡ None → TableFails disk why u → PlaceFails tables disk why u
  unread (NoPart name) u is h = (is, h)
  unread Memory u is h = (h.0, subst (λ (o : Option Table). HasSoFar o disk u.own) (sym is) h.1)
  unread (Gpt f) u is h = (is, h)
  unread (Apk f) u is h = (is, h)
  unread (File f) u is h = (is, h)
  unread (Image f) u is h = (is, h)
  unread (Get f) u is h = (is, h)
  unread (Put f) u is h = (is, h)
  unread (NoEntropy left) u is h = (is, h)
  unread MeasureText u is h = (is, h)
  unread (Failed faults) u is h = (is, h)
  unread (Short asked got) u is h = (is, h)

  pub not_read : (a b : Told) (why : BootCause) (new : List TableOn) → table_on disk tables ≡ None → Did (IsTableCall disk) 3 a b (TableOutcome disk (Err why)) → Did (IsTableCall disk) 3 a b (PlaceOutcome tables disk new (Err why))
  not_read a b why new is d = did_so _ _ 3 3 a b _ _ d (λ call x. x) (omega arith) (λ u h. unread why u is h)

  -- it was read now
  added : (k : TableOn) → k.disk ≡ disk → tables ++ k ∷ [] ≡ tables ++ record { disk = disk; table = k.table } ∷ []
  added k e = ap (λ (n : ℕ). tables ++ record { disk = n; table = k.table } ∷ []) e

  placed : (k : TableOn) (new : List TableOn) (place : ℕ) (own : Exchanges) → table_on disk tables ≡ None → new ≡ tables ++ k ∷ [] → place ≡ length tables → k.disk ≡ disk → ReadsTable disk own k.table
      → IsPlaced tables disk own new place
  placed k new place own is e at disk_is read = record {
    table = k.table;
    has = subst (λ (o : Option Table). HasTable o disk own k.table) (sym is) read;
    new_is = e ∙ added k disk_is ∙ ap (λ (o : Option Table). with_table o tables disk k.table) (sym is);
    known = k;
    stands = subst (λ (n : ℕ). slice_get new n ≡ Some k) (sym at) (subst (λ (z : List TableOn). slice_get z (length tables) ≡ Some k) (sym e) (last_is tables k));
    table_is = refl;
  }

  pub read_now : (a b : Told) (k : TableOn) (new : List TableOn) (place : ℕ) → table_on disk tables ≡ None → Did (IsTableCall disk) 3 a b (TableOutcome disk (Ok k)) → new ≡ tables ++ k ∷ [] → place ≡ length tables
      → Did (IsTableCall disk) 3 a b (PlaceOutcome tables disk new (Ok place))
  read_now a b k new place is d e at = did_so _ _ 3 3 a b _ _ d (λ call x. x) (omega arith) (λ u h. (h.0, placed k new place u.own is e at h.1 h.2))

  pub no_room : (k : TableOn) (a b : Told) (new : List TableOn) → table_on disk tables ≡ None → Did (IsTableCall disk) 3 a b (TableOutcome disk (Ok k))
      → Did (IsTableCall disk) 3 a b (PlaceOutcome tables disk new (Err Memory))
  no_room k a b new is d =
      did_so _ _ 3 3 a b _ _ d (λ call x. x) (omega arith) (λ u h. (h.0, subst (λ (o : Option Table). HasSoFar o disk u.own) (sym is) (inr (inr (inr h.2.ends)))))

-- ---- what is looked up in it

same_table : (a b : TableOn) → Some a ≡ Some b → a.table ≡ b.table
same_table a b e = let same : a ≡ b = cc in ap (λ (k : TableOn). k.table) same

module _ {A : Type 0} (tables : List TableOn) (disk : ℕ) (look : Table → Result A (List ℕ)) (new : List TableOn) where
  looked : (place : ℕ) (t : Trace) (r : Result A BootCause) → t.failed ≡ 0 → (p : IsPlaced tables disk t.own new place) → IsLooked (look p.table) r → FindOutcome tables disk look new r t
  looked place t (Ok found) none p e = (none, record { table = p.table; has = p.has; found_is = e; new_is = p.new_is })
  looked place t (Err (NoPart name)) none p e = (none, record { table = p.table; has = p.has; lacks = e })
  looked place t (Err Memory) none p e = (none, so_far disk (table_on disk tables) t.own p.table p.has)
  looked place t (Err (Gpt f)) none p e = absurd e
  looked place t (Err (Apk f)) none p e = absurd e
  looked place t (Err (File f)) none p e = absurd e
  looked place t (Err (Image f)) none p e = absurd e
  looked place t (Err (Get f)) none p e = absurd e
  looked place t (Err (Put f)) none p e = absurd e
  looked place t (Err (NoEntropy left)) none p e = absurd e
  looked place t (Err MeasureText) none p e = absurd e
  looked place t (Err (Failed faults)) none p e = absurd e
  looked place t (Err (Short asked got)) none p e = absurd e

  pub did_look : (a b : Told) (place : ℕ) (k : TableOn) (r : Result A BootCause) → Did (IsTableCall disk) 3 a b (PlaceOutcome tables disk new (Ok place)) → slice_get new place ≡ Some k → IsLooked (look k.table) r
      → Did (IsTableCall disk) 3 a b (FindOutcome tables disk look new r)
  did_look a b place k r d at e = did_so _ _ 3 3 a b _ _ d (λ call x. x) (omega arith) (λ t h.
      looked place t r h.0 h.1 (subst (λ (z : Table). IsLooked (look z) r) (same_table k h.1.known (sym at ∙ h.1.stands) ∙ h.1.table_is) e))

  no_table : (why : BootCause) (t : Trace) → PlaceFails tables disk why t → FindFails tables disk look why t
  no_table (NoPart name) t h = absurd h.1
  no_table Memory t h = h
  no_table (Gpt f) t h = h
  no_table (Apk f) t h = h
  no_table (File f) t h = h
  no_table (Image f) t h = h
  no_table (Get f) t h = h
  no_table (Put f) t h = h
  no_table (NoEntropy left) t h = h
  no_table MeasureText t h = h
  no_table (Failed faults) t h = h
  no_table (Short asked got) t h = h

  pub did_not_look : (a b : Told) (why : BootCause) → Did (IsTableCall disk) 3 a b (PlaceOutcome tables disk new (Err why)) → Did (IsTableCall disk) 3 a b (FindOutcome tables disk look new (Err why))
  did_not_look a b why d = did_so _ _ 3 3 a b _ _ d (λ call x. x) (omega arith) (no_table why)
