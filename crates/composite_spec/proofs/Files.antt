-- Whole files: what is spelled is read, and what is read is spelled.
use Rattle.std.proofs.Common.{◌≡◌, ◌<◌, ◌≤◌, ◌+◌, ◌^◌, ℕ, suc, List, [], ◌∷◌, ◌++◌, length, map, get_or, take, drop, cond, ltb, eqb, true, false, Bool, Option, Some, None, Result, Ok, Err, refl, sym, ap, subst, ◌∙◌, arith}
use Rattle.std.specs.Prelude.{IfOk}
use Rattle.std.specs.List.{AllByRecursion}
use Rattle.std.specs.Str.{bytes_eq}
use Rattle.std.proofs.lemmas.Bool.{lt-ltb, le-ltb, eq-eqb}
use Rattle.std.proofs.lemmas.List.{take_at, drop_at, take-append-drop}
use Rattle.std.proofs.lemmas.Slice.Eq.{bytes_eq-Decides}
use Rattle.composite_spec.specs.declared.kinds.Spec.{Spec}
use Rattle.composite_spec.specs.declared.kinds.SpecFault.{SpecFault}
use Rattle.composite_spec.specs.declared.kinds.SpecFault.TheVariants as faults
use Rattle.composite_spec.specs.Said.{Placed, Composite, IsPath, Follows, Rise, IsLength, IsComposite, offset_of, magic, composite}
use Rattle.composite_spec.specs.Reading.{Part, Disk, Gives, Fails, IsRead, stated, stated_offset, is_path, follows, placed_of, all_placed, is_length, judged, decoded, disk_of}
use Rattle.composite_spec.specs.Spelling.{numbers_of, all_bytes_of, last_or, IsFile}
use Rattle.composite_spec.proofs.Steps.{all_behind}
use Rattle.composite_spec.proofs.Varints.{AreBytes}
use Rattle.composite_spec.proofs.Messages.{AreParts, components_parts, parts_components, disk_reads, disk_spelled}
use Rattle.composite_spec.proofs.Judged.{offsets_same, judged_takes, decoded_states}

-- ---- a description keeps the rules

path_kept : (path : List ℕ) → IsPath path → is_path path ≡ true
unfolding is_path
path_kept path h = rw (lt-ltb 0 (length path) h.some, lt-ltb (length path) 256 h.few, h.text) refl

follows_kept : (before : Option ℕ) (offset : ℕ) → Follows before offset → follows before offset ≡ true
follows_kept None offset h = eq-eqb offset 0 h
follows_kept (Some b) offset h = lt-ltb b offset h

capability_few : (w : Bool) → ltb (cond w 1 0) 2 ≡ true
capability_few true = refl
capability_few false = refl

capability_says : (w : Bool) → eqb (cond w 1 0) 1 ≡ w
capability_says true = refl
capability_says false = refl

placed_kept : (i : ℕ) (before : Option ℕ) (c : Placed) → IsPath c.path → Follows before c.offset → i < 1024 → placed_of i before (stated c) ≡ Ok c
unfolding placed_of
placed_kept i before c path place few = rw (path_kept c.path path, capability_few c.write, follows_kept before c.offset place, lt-ltb i 1024 few, capability_says c.write) refl

all_kept : (i : ℕ) (before : Option ℕ) (cs : List Placed) → AllByRecursion (λ (c : Placed). IsPath c.path) cs → Rise before (map offset_of cs) → i + length cs ≤ 1024 → all_placed i before (map stated cs) ≡ Ok cs
unfolding all_placed
all_kept i before [] paths rise few = refl
all_kept i before (c ∷ cs) paths rise few =
    let first = placed_kept i before c paths.0 rise.0 (omega arith) in
    let later = all_kept (i + 1) (Some c.offset) cs paths.1 rise.1 (omega arith) in
    rw (first, later) refl

length_kept : (n : ℕ) (offsets : List ℕ) → IsLength n offsets → is_length n offsets ≡ true
unfolding is_length
length_kept n offsets h = rw (lt-ltb _ _ h.some, lt-ltb _ _ h.beyond, eq-eqb _ _ h.sectors, le-ltb (2 ^ 40) n h.bound) refl

abbrev disk_said : Composite → Disk
disk_said c = record { version = 2; parts = map stated c.components; length = c.length }

judged_kept : (c : Composite) → IsComposite c → judged (disk_said c) ≡ Ok c
unfolding judged
judged_kept c h =
    let each = all_kept 0 None c.components h.paths h.rise (let few = h.few in omega arith) in
    let long : is_length c.length (map stated_offset (map stated c.components)) ≡ true = rw (offsets_same c.components) (length_kept c.length (map offset_of c.components) h.length_is) in
    rw (each, long) refl

-- ---- what is spelled is read

pub file_reads : (bytes : List ℕ) (c : Composite) → IsFile bytes c → decoded bytes ≡ Ok c
unfolding decoded
file_reads bytes c h =
    let front : take 15 bytes ≡ magic = ap (take 15) h.begins ∙ take_at magic h.message 15 refl in
    let behind : drop 15 bytes ≡ h.message = ap (drop 15) h.begins ∙ drop_at magic h.message 15 refl in
    let made : Disk = record { version = last_or 0 (numbers_of 1 h.fields); parts = map stated c.components; length = last_or 0 (numbers_of 3 h.fields) } in
    let is : made ≡ disk_said c =
    ap (λ (x : ℕ). let r : Disk = record { version = x; parts = map stated c.components; length = last_or 0 (numbers_of 3 h.fields) } in r) h.version
    ∙ ap (λ (x : ℕ). let r : Disk = record { version = 2; parts = map stated c.components; length = x } in r) (sym h.length_is) in
    let states : disk_of (length bytes) h.message ≡ Ok (disk_said c) =
    disk_reads (length bytes) h.message h.fields (map stated c.components) h.is (components_parts (all_bytes_of 2 h.fields) c.components h.components)
    ∙ ap (λ (x : Disk). let r : Result Disk SpecFault = Ok x in r) is in
    rw (front, le-ltb 1048576 (length bytes) h.few, behind, states, judged_kept c h.describes) refl

-- ---- what is read is spelled

same_bytes : (xs ys : List ℕ) → bytes_eq xs ys ≡ true → xs ≡ ys
same_bytes xs ys e = (bytes_eq-Decides xs ys).0 e

pub file_spelled : (bytes : List ℕ) (c : Composite) → AreBytes bytes → decoded bytes ≡ Ok c → IsFile bytes c
file_spelled bytes c each e =
    let s = decoded_states bytes c e in
    let j = judged_takes s.disk c s.judges in
    let parts : bytes ≡ take 15 bytes ++ drop 15 bytes = sym (take-append-drop 15 bytes) in
    let begins : bytes ≡ magic ++ drop 15 bytes = parts ∙ ap (λ (x : List ℕ). x ++ drop 15 bytes) (same_bytes (take 15 bytes) magic s.begins) in
    let behind : AreBytes (drop 15 bytes) = all_behind (λ (b : ℕ). b < 256) (take 15 bytes) (drop 15 bytes) (subst AreBytes parts each) in
    let f = disk_spelled (length bytes) (drop 15 bytes) s.disk behind s.states in
    let are : f.ps ≡ map stated c.components = sym f.parts ∙ ap (λ (d : Disk). d.parts) j.is in
    record {
      message = drop 15 bytes;
      fields = f.fields;
      begins = begins;
      is = f.is;
      few = s.small;
      version = sym f.version ∙ ap (λ (d : Disk). d.version) j.is;
      components = parts_components (all_bytes_of 2 f.fields) c.components (subst (λ (x : List Part). AreParts (all_bytes_of 2 f.fields) x) are f.are);
      length_is = ap (λ (d : Disk). d.length) (sym j.is) ∙ f.length_is;
      describes = j.describes;
    }

-- ---- what a call answered

pub are_bytes : (bytes : List ℕ) → ((i : ℕ) → get_or bytes i 0 < 256) → AreBytes bytes
are_bytes [] h = tt
are_bytes (b ∷ bs) h = (h 0, are_bytes bs (λ i. h (suc i)))

pub answer_found : (bytes : List ℕ) (r : Result Spec SpecFault) → AreBytes bytes → Gives composite r (decoded bytes) → IfOk r (λ s. IsFile bytes (composite s))
answer_found bytes (Ok s) each e = file_spelled bytes (composite s) each e
answer_found bytes (Err f) each e = tt

refused_none : (fault : SpecFault) (read : Result Composite SpecFault) (c : Composite) → Fails fault read → read ≡ Ok c → let answer : Result Spec SpecFault = Err fault in IsRead c answer
refused_none faults.Memory read c h e = tt
refused_none fault read c h e = absurd cc

answer_is : (s : Spec) (c : Composite) (read : Result Composite SpecFault) → read ≡ Ok (composite s) → read ≡ Ok c → composite s ≡ c
answer_is s c read h e = cc

pub answer_only : (bytes : List ℕ) (c : Composite) (r : Result Spec SpecFault) → Gives composite r (decoded bytes) → IsFile bytes c → IsRead c r
answer_only bytes c (Ok s) e h = answer_is s c (decoded bytes) e (file_reads bytes c h)
answer_only bytes c (Err f) e h = refused_none f (decoded bytes) c e (file_reads bytes c h)
