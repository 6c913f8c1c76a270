-- Messages, field by field: what is spelled is read, and what is read is spelled.
use Rattle.std.proofs.Common.{◌≡◌, ◌<◌, ◌≤◌, ◌+◌, ◌-◌, ℕ, zero, suc, List, [], ◌∷◌, ◌++◌, length, map, eqb, true, Result, Ok, refl, sym, ap, subst, ◌∙◌, arith, inl, inr, append_assoc, append-nil, length-append}
use Rattle.std.specs.List.{AllByRecursion, flat_map}
use Rattle.std.proofs.lemmas.Bool.{eqb-true, cases_Bool}
use Rattle.composite_spec.specs.declared.kinds.SpecFault.{SpecFault}
use Rattle.composite_spec.specs.declared.wire.Message.TheVariants as messages
use Rattle.composite_spec.specs.Wire.{◌>>=◌, Content, counted, bytes_of, skipped, field}
use Rattle.composite_spec.specs.Said.{Placed}
use Rattle.composite_spec.specs.Reading.{Part, Disk, stated, no_part, no_disk, walk, with_field, part_step, part_of, with_part, with_disk_field, disk_step, disk_of}
use Rattle.composite_spec.specs.Spelling.{Entry, entry_bytes, IsValue, IsEntry, IsMessage, number_in, bytes_in, numbers_of, all_bytes_of, last_or, AreComponents}
use Rattle.composite_spec.proofs.Steps.{bind_ok, done_is, all_front, all_behind}
use Rattle.composite_spec.proofs.Varints.{AreBytes}
use Rattle.composite_spec.proofs.Fields.{field_reads, field_spelled, entry_some}

pub walk_on : {K : Type 0} (step : K → List ℕ → Result (K × List ℕ) SpecFault) (n : ℕ) (k : K) (rest : List ℕ) (r : K × List ℕ) → 0 < length rest → step k rest ≡ Ok r → walk step (suc n) k rest ≡ walk step n r.0 r.1
unfolding walk
walk_on step n k [] r some e = absurd (omega arith)
walk_on {K} step n k (b ∷ bs) r some e = ap (λ (x : Result (K × List ℕ) SpecFault). x >>= λ y. walk step n y.0 y.1) e

walk_none : {K : Type 0} (step : K → List ℕ → Result (K × List ℕ) SpecFault) (n : ℕ) (k : K) → walk step n k [] ≡ Ok k
unfolding walk
walk_none step zero k = refl
walk_none step (suc n) k = refl

joined_bytes : List Entry → List ℕ
joined_bytes fields = flat_map entry_bytes fields

-- ---- what one field states

path_step : (p : Part) (k : ℕ) (v : Content) (ys : List (List ℕ)) → last_or (with_field p k v).path ys ≡ last_or p.path (bytes_in 1 k v ++ ys)
path_step p k (counted n) ys =
    elim (cases_Bool (eqb k 2)) [
      | inl t ↦ rw t refl
      | inr f ↦ elim (cases_Bool (eqb k 3)) [ inl t ↦ rw (f, t) refl | inr g ↦ rw (f, g) refl ]
    ]
path_step p k (bytes_of bytes) ys = elim (cases_Bool (eqb k 1)) [ inl t ↦ rw t refl | inr f ↦ rw f refl ]
path_step p k skipped ys = refl

offset_step : (p : Part) (k : ℕ) (v : Content) (ys : List ℕ) → last_or (with_field p k v).offset ys ≡ last_or p.offset (number_in 2 k v ++ ys)
offset_step p k (counted n) ys =
    elim (cases_Bool (eqb k 2)) [
      | inl t ↦ rw t refl
      | inr f ↦ elim (cases_Bool (eqb k 3)) [ inl t ↦ rw (f, t) refl | inr g ↦ rw (f, g) refl ]
    ]
offset_step p k (bytes_of bytes) ys = elim (cases_Bool (eqb k 1)) [ inl t ↦ rw t refl | inr f ↦ rw f refl ]
offset_step p k skipped ys = refl

capability_step : (p : Part) (k : ℕ) (v : Content) (ys : List ℕ) → last_or (with_field p k v).capability ys ≡ last_or p.capability (number_in 3 k v ++ ys)
capability_step p k (counted n) ys =
    elim (cases_Bool (eqb k 2)) [
      | inl t ↦ rw (eqb-true k 2 t) refl
      | inr f ↦ elim (cases_Bool (eqb k 3)) [ inl t ↦ rw (f, t) refl | inr g ↦ rw (f, g) refl ]
    ]
capability_step p k (bytes_of bytes) ys = elim (cases_Bool (eqb k 1)) [ inl t ↦ rw t refl | inr f ↦ rw f refl ]
capability_step p k skipped ys = refl

part_after : Part → List Entry → Part
part_after p [] = p
part_after p (e ∷ es) = part_after (with_field p e.number e.value) es

-- the part that fields state behind others
record States (p : Part) (fields : List Entry) (q : Part) : Type 0 where
  path : q.path ≡ last_or p.path (all_bytes_of 1 fields)
  offset : q.offset ≡ last_or p.offset (numbers_of 2 fields)
  capability : q.capability ≡ last_or p.capability (numbers_of 3 fields)

after_states : (p : Part) (fields : List Entry) → States p fields (part_after p fields)
unfolding part_after
after_states p [] = record { path = refl; offset = refl; capability = refl }
after_states p (e ∷ es) =
    let h = after_states (with_field p e.number e.value) es in
    record {
      path = h.path ∙ path_step p e.number e.value (all_bytes_of 1 es);
      offset = h.offset ∙ offset_step p e.number e.value (numbers_of 2 es);
      capability = h.capability ∙ capability_step p e.number e.value (numbers_of 3 es);
    }

same_part : (a b : Part) → a.path ≡ b.path → a.offset ≡ b.offset → a.capability ≡ b.capability → a ≡ b
same_part a b path offset capability =
    ap (λ (x : List ℕ). let r : Part = record { path = x; offset = a.offset; capability = a.capability } in r) path
    ∙ ap (λ (x : ℕ). let r : Part = record { path = b.path; offset = x; capability = a.capability } in r) offset
    ∙ ap (λ (x : ℕ). let r : Part = record { path = b.path; offset = b.offset; capability = x } in r) capability

-- ---- a component's message

-- what a component's message states
pub record IsPart (bytes : List ℕ) (p : Part) : Type 0 where
  pub fields : List Entry
  pub is : IsMessage messages.Component fields bytes
  pub path : p.path ≡ last_or [] (all_bytes_of 1 fields)
  pub offset : p.offset ≡ last_or 0 (numbers_of 2 fields)
  pub capability : p.capability ≡ last_or 0 (numbers_of 3 fields)

part_step_reads : (end : ℕ) (p : Part) (e : Entry) (rest : List ℕ) → IsEntry messages.Component e → part_step end p (entry_bytes e ++ rest) ≡ Ok (with_field p e.number e.value, rest)
unfolding part_step
part_step_reads end p e rest h = rw (field_reads messages.Component end e rest h) refl

part_walks : (end most : ℕ) (p : Part) (fields : List Entry) → AllByRecursion (IsEntry messages.Component) fields → length (joined_bytes fields) ≤ most → walk (part_step end) most p (joined_bytes fields) ≡ Ok (part_after p fields)
unfolding joined_bytes part_after
part_walks end most p [] each room = walk_none (part_step end) most p
part_walks end zero p (e ∷ es) each room =
    let some = entry_some messages.Component e each.0 in
    absurd (omega (arith, length-append (entry_bytes e) (joined_bytes es)))
part_walks end (suc n) p (e ∷ es) each room =
    let some = entry_some messages.Component e each.0 in
    let size = length-append (entry_bytes e) (joined_bytes es) in
    walk_on (part_step end) n p (entry_bytes e ++ joined_bytes es) (with_field p e.number e.value, joined_bytes es) (omega arith) (part_step_reads end p e (joined_bytes es) each.0)
    ∙ part_walks end n (with_field p e.number e.value) es each.1 (omega arith)

pub part_reads : (end : ℕ) (bytes : List ℕ) (p : Part) → IsPart bytes p → part_of end bytes ≡ Ok p
unfolding part_of joined_bytes
part_reads end bytes p h =
    let s = after_states no_part h.fields in
    ap (λ (x : List ℕ). walk (part_step end) (length x) no_part x) h.is.joined
    ∙ part_walks end (length (joined_bytes h.fields)) no_part h.fields h.is.each (omega arith)
    ∙ ap (λ (x : Part). let r : Result Part SpecFault = Ok x in r) (same_part (part_after no_part h.fields) p (s.path ∙ sym h.path) (s.offset ∙ sym h.offset) (s.capability ∙ sym h.capability))

record PartFields (p : Part) (text : List ℕ) (q : Part) : Type 0 where
  fields : List Entry
  is : IsMessage messages.Component fields text
  after : part_after p fields ≡ q

part_fields : (end most : ℕ) (p q : Part) (text : List ℕ) → AreBytes text → length text ≤ most → walk (part_step end) most p text ≡ Ok q → PartFields p text q
unfolding walk part_step part_after
part_fields end zero p q [] each room e = record { fields = []; is = record { each = tt; joined = refl }; after = done_is p q e }
part_fields end (suc n) p q [] each room e = record { fields = []; is = record { each = tt; joined = refl }; after = done_is p q e }
part_fields end zero p q (b ∷ bs) each room e = absurd (omega arith)
part_fields end (suc n) p q (b ∷ bs) each room e =
    let a = bind_ok (part_step end p (b ∷ bs)) (λ r. walk (part_step end) n r.0 r.1) (q) e in
    let g = bind_ok (field messages.Component end (b ∷ bs)) (λ f. let r : Result (Part × List ℕ) SpecFault = Ok (with_field p f.number f.value, f.rest) in r) a.0 a.1 in
    let f = field_spelled messages.Component end (b ∷ bs) g.0 each g.1 in
    let made : Part × List ℕ = (with_field p g.0.number g.0.value, g.0.rest) in
    let later : walk (part_step end) n made.0 made.1 ≡ Ok q = subst (λ (x : Part × List ℕ). walk (part_step end) n x.0 x.1 ≡ Ok q) (sym (done_is made a.0 g.2)) a.2 in
    let some = f.some in
    let size : length (b ∷ bs) ≡ length (entry_bytes f.entry) + length g.0.rest = ap length f.joined ∙ length-append (entry_bytes f.entry) g.0.rest in
    let behind : AreBytes g.0.rest = all_behind (λ (x : ℕ). x < 256) (entry_bytes f.entry) g.0.rest (subst AreBytes f.joined each) in
    let h = part_fields end n (with_field p g.0.number g.0.value) q g.0.rest behind (omega arith) later in
    record {
      fields = f.entry ∷ h.fields;
      is = record { each = (f.is, h.is.each); joined = f.joined ∙ ap (λ (x : List ℕ). entry_bytes f.entry ++ x) h.is.joined };
      after = ap (λ (x : ℕ). part_after (with_field p x f.entry.value) h.fields) f.number ∙ ap (λ (x : Content). part_after (with_field p g.0.number x) h.fields) f.value ∙ h.after;
    }

pub part_spelled : (end : ℕ) (bytes : List ℕ) (p : Part) → AreBytes bytes → part_of end bytes ≡ Ok p → IsPart bytes p
unfolding part_of
part_spelled end bytes p each e =
    let h = part_fields end (length bytes) no_part p bytes each (omega arith) e in
    let s = after_states no_part h.fields in
    record {
      fields = h.fields;
      is = h.is;
      path = ap (λ (x : Part). x.path) (sym h.after) ∙ s.path;
      offset = ap (λ (x : Part). x.offset) (sym h.after) ∙ s.offset;
      capability = ap (λ (x : Part). x.capability) (sym h.after) ∙ s.capability;
    }

-- ---- the disk's message

abbrev pub AreParts : List (List ℕ) → List Part → Type 0
AreParts [] [] = Unit {0}
AreParts [] (p ∷ ps) = ⊥
AreParts (bytes ∷ more) [] = ⊥
AreParts (bytes ∷ more) (p ∷ ps) = IsPart bytes p × AreParts more ps

pub components_parts : (texts : List (List ℕ)) (cs : List Placed) → AreComponents texts cs → AreParts texts (map stated cs)
components_parts [] [] h = tt
components_parts [] (c ∷ cs) h = absurd h
components_parts (t ∷ ts) [] h = absurd h
components_parts (t ∷ ts) (c ∷ cs) h = (record { fields = h.0.fields; is = h.0.is; path = h.0.path; offset = h.0.offset; capability = h.0.capability }, components_parts ts cs h.1)

pub parts_components : (texts : List (List ℕ)) (cs : List Placed) → AreParts texts (map stated cs) → AreComponents texts cs
parts_components [] [] h = tt
parts_components [] (c ∷ cs) h = absurd h
parts_components (t ∷ ts) [] h = absurd h
parts_components (t ∷ ts) (c ∷ cs) h = (record { fields = h.0.fields; is = h.0.is; path = h.0.path; offset = h.0.offset; capability = h.0.capability }, parts_components ts cs h.1)

-- a field of the disk read behind `d`, where components from `texts` on are to come
record Takes (d : Disk) (number : ℕ) (value : Content) (texts : List (List ℕ)) (ps : List Part) : Type 0 where
  next : Disk
  left : List Part
  takes : (end : ℕ) → with_disk_field end d number value ≡ Ok next
  are : AreParts texts left
  version : (ys : List ℕ) → last_or next.version ys ≡ last_or d.version (number_in 1 number value ++ ys)
  parts : next.parts ++ left ≡ d.parts ++ ps
  length_is : (ys : List ℕ) → last_or next.length ys ≡ last_or d.length (number_in 3 number value ++ ys)

field_takes : (d : Disk) (number : ℕ) (value : Content) (texts : List (List ℕ)) (ps : List Part) → AreParts (bytes_in 2 number value ++ texts) ps → Takes d number value texts ps
field_takes d number (counted n) texts ps h =
    elim (cases_Bool (eqb number 1)) [
      | inl t ↦ record {
        next = record { version = n; parts = d.parts; length = d.length };
        left = ps;
        takes = λ end. rw t refl;
        are = h;
        version = λ ys. rw t refl;
        parts = refl;
        length_is = λ ys. rw (eqb-true number 1 t) refl;
      }
      | inr f ↦ elim (cases_Bool (eqb number 3)) [
        | inl t ↦ record {
          next = record { version = d.version; parts = d.parts; length = n };
          left = ps;
          takes = λ end. rw (f, t) refl;
          are = h;
          version = λ ys. rw f refl;
          parts = refl;
          length_is = λ ys. rw t refl;
        }
        | inr g ↦ record { next = d; left = ps; takes = λ end. rw (f, g) refl; are = h; version = λ ys. rw f refl; parts = refl; length_is = λ ys. rw g refl }
      ]
    ]
field_takes d number (bytes_of bytes) texts ps h =
    elim (cases_Bool (eqb number 2)) [
      | inl t ↦ part_takes ps (rw t at h) t
      | inr f ↦ record { next = d; left = ps; takes = λ end. rw f refl; are = rw f at h; version = λ ys. refl; parts = refl; length_is = λ ys. refl }
    ]
  where
    part_takes : (ps : List Part) → AreParts (bytes ∷ texts) ps → eqb number 2 ≡ true → Takes d number (bytes_of bytes) texts ps
    part_takes [] h t = absurd h
    part_takes (p ∷ ps) h t = record {
      next = with_part d p;
      left = ps;
      takes = λ end. rw (t, part_reads end bytes p h.0) refl;
      are = h.1;
      version = λ ys. refl;
      parts = append_assoc d.parts (p ∷ []) ps;
      length_is = λ ys. refl;
    }
field_takes d number skipped texts ps h = record { next = d; left = ps; takes = λ end. refl; are = h; version = λ ys. refl; parts = refl; length_is = λ ys. refl }

abbrev disk_stated : Disk → List Entry → List Part → Disk
disk_stated d fields ps = record { version = last_or d.version (numbers_of 1 fields); parts = d.parts ++ ps; length = last_or d.length (numbers_of 3 fields) }

disk_step_reads : (end : ℕ) (d next : Disk) (e : Entry) (rest : List ℕ) → IsEntry messages.Disk e → ((place : ℕ) → with_disk_field place d e.number e.value ≡ Ok next) → disk_step end d (entry_bytes e ++ rest) ≡ Ok (next, rest)
unfolding disk_step
disk_step_reads end d next e rest h takes = rw (field_reads messages.Disk end e rest h, takes (end - length rest)) refl

same_disk : (a b : Disk) → a.version ≡ b.version → a.parts ≡ b.parts → a.length ≡ b.length → a ≡ b
same_disk a b version parts size =
    ap (λ (x : ℕ). let r : Disk = record { version = x; parts = a.parts; length = a.length } in r) version
    ∙ ap (λ (x : List Part). let r : Disk = record { version = b.version; parts = x; length = a.length } in r) parts
    ∙ ap (λ (x : ℕ). let r : Disk = record { version = b.version; parts = b.parts; length = x } in r) size

disk_walks : (end most : ℕ) (d : Disk) (fields : List Entry) (ps : List Part) → AllByRecursion (IsEntry messages.Disk) fields → AreParts (all_bytes_of 2 fields) ps → length (joined_bytes fields) ≤ most
    → walk (disk_step end) most d (joined_bytes fields) ≡ Ok (disk_stated d fields ps)
unfolding joined_bytes
disk_walks end most d [] [] each are room = walk_none (disk_step end) most d ∙ ap (λ (x : List Part). let r : Result Disk SpecFault = Ok (record { version = d.version; parts = x; length = d.length }) in r) (sym (append-nil d.parts))
disk_walks end most d [] (p ∷ ps) each are room = absurd are
disk_walks end zero d (e ∷ es) ps each are room =
    let some = entry_some messages.Disk e each.0 in
    absurd (omega (arith, length-append (entry_bytes e) (joined_bytes es)))
disk_walks end (suc n) d (e ∷ es) ps each are room =
    let some = entry_some messages.Disk e each.0 in
    let size = length-append (entry_bytes e) (joined_bytes es) in
    let t = field_takes d e.number e.value (all_bytes_of 2 es) ps are in
    walk_on (disk_step end) n d (entry_bytes e ++ joined_bytes es) (t.next, joined_bytes es) (omega arith) (disk_step_reads end d t.next e (joined_bytes es) each.0 t.takes)
    ∙ disk_walks end n t.next es t.left each.1 t.are (omega arith)
    ∙ ap (λ (x : Disk). let r : Result Disk SpecFault = Ok x in r) (same_disk (disk_stated t.next es t.left) (disk_stated d (e ∷ es) ps) (t.version (numbers_of 1 es)) t.parts (t.length_is (numbers_of 3 es)))

pub disk_reads : (end : ℕ) (bytes : List ℕ) (fields : List Entry) (ps : List Part) → IsMessage messages.Disk fields bytes → AreParts (all_bytes_of 2 fields) ps
    → disk_of end bytes ≡ Ok (record { version = last_or 0 (numbers_of 1 fields); parts = ps; length = last_or 0 (numbers_of 3 fields) })
unfolding disk_of joined_bytes
disk_reads end bytes fields ps is are =
    ap (λ (x : List ℕ). walk (disk_step end) (length x) no_disk x) is.joined
    ∙ disk_walks end (length (joined_bytes fields)) no_disk fields ps is.each are (omega arith)

-- what one field of the disk stated
record Took (d : Disk) (number : ℕ) (value : Content) (next : Disk) : Type 0 where
  ps : List Part
  are : AreParts (bytes_in 2 number value) ps
  version : (ys : List ℕ) → last_or next.version ys ≡ last_or d.version (number_in 1 number value ++ ys)
  parts : next.parts ≡ d.parts ++ ps
  length_is : (ys : List ℕ) → last_or next.length ys ≡ last_or d.length (number_in 3 number value ++ ys)

abbrev content_bytes : Content → List ℕ
content_bytes (counted n) = []
content_bytes (bytes_of bytes) = bytes
content_bytes skipped = []

field_took : (end : ℕ) (d : Disk) (number : ℕ) (value : Content) (next : Disk) → AreBytes (content_bytes value) → with_disk_field end d number value ≡ Ok next → Took d number value next
field_took end d number (counted n) next each e =
    elim (cases_Bool (eqb number 1)) [
      | inl t ↦
          let made : Disk = record { version = n; parts = d.parts; length = d.length } in
          subst (λ (x : Disk). Took d number (counted n) x) (done_is made next (rw t at e))
          (record { ps = []; are = tt; version = λ ys. rw t refl; parts = sym (append-nil d.parts); length_is = λ ys. rw (eqb-true number 1 t) refl })
      | inr f ↦ elim (cases_Bool (eqb number 3)) [
        | inl t ↦
            let made : Disk = record { version = d.version; parts = d.parts; length = n } in
            subst (λ (x : Disk). Took d number (counted n) x) (done_is made next (rw (f, t) at e))
            (record { ps = []; are = tt; version = λ ys. rw f refl; parts = sym (append-nil d.parts); length_is = λ ys. rw t refl })
        | inr g ↦ subst (λ (x : Disk). Took d number (counted n) x) (done_is d next (rw (f, g) at e)) (record { ps = []; are = tt; version = λ ys. rw f refl; parts = sym (append-nil d.parts); length_is = λ ys. rw g refl })
      ]
    ]
field_took end d number (bytes_of bytes) next each e =
    elim (cases_Bool (eqb number 2)) [
      | inl t ↦
          let step : (part_of end bytes >>= λ p. Ok (with_part d p)) ≡ Ok next = rw t at e in
          let a = bind_ok (part_of end bytes) (λ p. let r : Result Disk SpecFault = Ok (with_part d p) in r) next step in
          subst (λ (x : Disk). Took d number (bytes_of bytes) x) (done_is (with_part d a.0) next a.2)
          (record { ps = a.0 ∷ []; are = rw t (part_spelled end bytes a.0 each a.1, tt); version = λ ys. refl; parts = refl; length_is = λ ys. refl })
      | inr f ↦ subst (λ (x : Disk). Took d number (bytes_of bytes) x) (done_is d next (rw f at e)) (record { ps = []; are = rw f tt; version = λ ys. refl; parts = sym (append-nil d.parts); length_is = λ ys. refl })
    ]
field_took end d number skipped next each e =
    subst (λ (x : Disk). Took d number skipped x) (done_is d next e) (record { ps = []; are = tt; version = λ ys. refl; parts = sym (append-nil d.parts); length_is = λ ys. refl })

value_bytes : (wire : ℕ) (value : Content) (body : List ℕ) → IsValue wire value body → AreBytes body → AreBytes (content_bytes value)
value_bytes wire (counted n) body h each = tt
value_bytes wire (bytes_of bytes) body h each = all_behind (λ (x : ℕ). x < 256) h.1.0 bytes (subst AreBytes h.1.2 each)
value_bytes wire skipped body h each = tt

parts_joined : (ts us : List (List ℕ)) (ps qs : List Part) → AreParts ts ps → AreParts us qs → AreParts (ts ++ us) (ps ++ qs)
parts_joined [] us [] qs g h = h
parts_joined [] us (p ∷ ps) qs g h = absurd g
parts_joined (t ∷ ts) us [] qs g h = absurd g
parts_joined (t ∷ ts) us (p ∷ ps) qs g h = (g.0, parts_joined ts us ps qs g.1 h)

-- what the fields of a disk's message stated
pub record DiskFields (d : Disk) (text : List ℕ) (q : Disk) : Type 0 where
  pub fields : List Entry
  pub is : IsMessage messages.Disk fields text
  pub ps : List Part
  pub are : AreParts (all_bytes_of 2 fields) ps
  pub version : q.version ≡ last_or d.version (numbers_of 1 fields)
  pub parts : q.parts ≡ d.parts ++ ps
  pub length_is : q.length ≡ last_or d.length (numbers_of 3 fields)

no_fields : (d q : Disk) → d ≡ q → DiskFields d [] q
no_fields d q e = subst (λ (x : Disk). DiskFields d [] x) e (record { fields = []; is = record { each = tt; joined = refl }; ps = []; are = tt; version = refl; parts = sym (append-nil d.parts); length_is = refl })

-- a field in front of others
field_before : (d next q : Disk) (e : Entry) (text rest : List ℕ) → IsEntry messages.Disk e → text ≡ entry_bytes e ++ rest → Took d e.number e.value next → DiskFields next rest q → DiskFields d text q
field_before d next q e text rest is joined t h = record {
  fields = e ∷ h.fields;
  is = record { each = (is, h.is.each); joined = joined ∙ ap (λ (x : List ℕ). entry_bytes e ++ x) h.is.joined };
  ps = t.ps ++ h.ps;
  are = parts_joined (bytes_in 2 e.number e.value) (all_bytes_of 2 h.fields) t.ps h.ps t.are h.are;
  version = h.version ∙ t.version (numbers_of 1 h.fields);
  parts = h.parts ∙ ap (λ (x : List Part). x ++ h.ps) t.parts ∙ append_assoc d.parts t.ps h.ps;
  length_is = h.length_is ∙ t.length_is (numbers_of 3 h.fields);
}

disk_fields : (end most : ℕ) (d q : Disk) (text : List ℕ) → AreBytes text → length text ≤ most → walk (disk_step end) most d text ≡ Ok q → DiskFields d text q
unfolding walk disk_step
disk_fields end zero d q [] each room e = no_fields d q (done_is d q e)
disk_fields end (suc n) d q [] each room e = no_fields d q (done_is d q e)
disk_fields end zero d q (b ∷ bs) each room e = absurd (omega arith)
disk_fields end (suc n) d q (b ∷ bs) each room e =
    let a = bind_ok (disk_step end d (b ∷ bs)) (λ r. walk (disk_step end) n r.0 r.1) q e in
    let g = bind_ok (field messages.Disk end (b ∷ bs)) (λ f. with_disk_field (end - length f.rest) d f.number f.value >>= λ next. let r : Result (Disk × List ℕ) SpecFault = Ok (next, f.rest) in r) a.0 a.1 in
    let k = bind_ok (with_disk_field (end - length g.0.rest) d g.0.number g.0.value) (λ next. let r : Result (Disk × List ℕ) SpecFault = Ok (next, g.0.rest) in r) a.0 g.2 in
    let f = field_spelled messages.Disk end (b ∷ bs) g.0 each g.1 in
    let made : Disk × List ℕ = (k.0, g.0.rest) in
    let later : walk (disk_step end) n made.0 made.1 ≡ Ok q = subst (λ (x : Disk × List ℕ). walk (disk_step end) n x.0 x.1 ≡ Ok q) (sym (done_is made a.0 k.2)) a.2 in
    let some = f.some in
    let size : length (b ∷ bs) ≡ length (entry_bytes f.entry) + length g.0.rest = ap length f.joined ∙ length-append (entry_bytes f.entry) g.0.rest in
    let all : AreBytes (entry_bytes f.entry ++ g.0.rest) = subst AreBytes f.joined each in
    let behind : AreBytes g.0.rest = all_behind (λ (x : ℕ). x < 256) (entry_bytes f.entry) g.0.rest all in
    let body : AreBytes f.entry.body = all_behind (λ (x : ℕ). x < 256) f.entry.tag f.entry.body (all_front (λ (x : ℕ). x < 256) (entry_bytes f.entry) g.0.rest all) in
    let states : with_disk_field (end - length g.0.rest) d f.entry.number f.entry.value ≡ Ok k.0 =
    ap (λ (x : ℕ). with_disk_field (end - length g.0.rest) d x f.entry.value) f.number ∙ ap (λ (x : Content). with_disk_field (end - length g.0.rest) d g.0.number x) f.value ∙ k.1 in
    let t = field_took (end - length g.0.rest) d f.entry.number f.entry.value k.0 (value_bytes f.entry.wire f.entry.value f.entry.body f.is.spelled body) states in
    let h = disk_fields end n k.0 q g.0.rest behind (omega arith) later in
    field_before d k.0 q f.entry (b ∷ bs) g.0.rest f.is f.joined t h

pub disk_spelled : (end : ℕ) (bytes : List ℕ) (q : Disk) → AreBytes bytes → disk_of end bytes ≡ Ok q → DiskFields no_disk bytes q
unfolding disk_of
disk_spelled end bytes q each e = disk_fields end (length bytes) no_disk q bytes each (omega arith) e
