-- The file that is written for a description is in the grammar, and is read again as this description.
use Rattle.std.proofs.Common.{◌≡◌, ◌<◌, ◌≤◌, ◌+◌, ◌-◌, ◌*◌, ◌^◌, ℕ, suc, List, [], ◌∷◌, ◌++◌, length, map, get_or, cond, eqb, true, false, Bool, Option, Some, None, Ok, refl, sym, ap, subst, ◌∙◌, arith, inl, inr, append-nil, length-append, add-zero}
use Rattle.std.specs.List.{AllByRecursion, flat_map}
use Rattle.std.proofs.lemmas.Bool.{cases_Bool, eqb-true, eq-eqb}
use Rattle.std.proofs.lemmas.List.Concat.{flat_map-append}
use Rattle.composite_spec.specs.declared.wire.Message.{Message}
use Rattle.composite_spec.specs.declared.wire.Message.TheVariants as messages
use Rattle.composite_spec.specs.Wire.{counted, bytes_of, allows}
use Rattle.composite_spec.specs.Said.{Placed, Composite, IsPath, Rise, IsComposite, offset_of, capability_of, magic}
use Rattle.composite_spec.specs.Reading.{decoded}
use Rattle.composite_spec.specs.Spelling.{Entry, entry_bytes, IsEntry, number_in, bytes_in, numbers_of, all_bytes_of, last_or, IsComponent, AreComponents, IsFile}
use Rattle.composite_spec.specs.Writing.{varint_bytes, number_field, bytes_field, component_bytes, components_bytes, file_bytes}
use Rattle.composite_spec.proofs.Steps.{all_joined}
use Rattle.composite_spec.proofs.Varints.{varint_few, varint_written}
use Rattle.composite_spec.proofs.Files.{file_reads}

-- ---- fields as they are written

number_entry : ℕ → ℕ → Entry
number_entry number value = record { number = number; wire = 0; value = counted value; tag = varint_bytes (8 * number); body = varint_bytes value }

number_entries : ℕ → ℕ → List Entry
number_entries number value = cond (eqb value 0) [] (number_entry number value ∷ [])

bytes_entry : ℕ → List ℕ → Entry
bytes_entry number bytes = record { number = number; wire = 2; value = bytes_of bytes; tag = varint_bytes (8 * number + 2); body = varint_bytes (length bytes) ++ bytes }

number_joined : (number value : ℕ) → number_field number value ≡ flat_map entry_bytes (number_entries number value)
unfolding number_field number_entries number_entry
number_joined number value =
    elim (cases_Bool (eqb value 0)) [
      | inl t ↦ rw t refl
      | inr f ↦ rw f (sym (append-nil (varint_bytes (8 * number) ++ varint_bytes value)))
    ]

number_is : (message : Message) (number value : ℕ) → number < 16 → value < 2 ^ 64 → allows message number 0 ≡ true → AllByRecursion (IsEntry message) (number_entries number value)
unfolding number_entries number_entry
number_is message number value few bound allowed =
    elim (cases_Bool (eqb value 0)) [
      | inl t ↦ rw t tt
      | inr f ↦ rw f (record { tagged = rw add-zero (varint_written (8 * number) (omega arith)); allowed = allowed; spelled = (refl, varint_written value bound) }, tt)
    ]

bytes_is : (message : Message) (number : ℕ) (bytes : List ℕ) → number < 16 → length bytes < 2 ^ 64 → allows message number 2 ≡ true → IsEntry message (bytes_entry number bytes)
unfolding bytes_entry
bytes_is message number bytes few bound allowed = record {
  tagged = varint_written (8 * number + 2) (omega arith);
  allowed = allowed;
  spelled = (refl, (varint_bytes (length bytes), varint_written (length bytes) bound, refl));
}

bytes_joined : (number : ℕ) (bytes : List ℕ) → bytes_field number bytes ≡ entry_bytes (bytes_entry number bytes)
unfolding bytes_field bytes_entry
bytes_joined number bytes = refl

-- the number that is written is the last one, and no other is there
number_last : (k value : ℕ) (ys : List ℕ) → ys ≡ [] → last_or 0 (numbers_of k (number_entries k value) ++ ys) ≡ value
unfolding number_entries number_entry
number_last k value ys none =
    elim (cases_Bool (eqb value 0)) [
      | inl t ↦ rw (t, none) (sym (eqb-true value 0 t))
      | inr f ↦ rw (f, none, eq-eqb k k refl) refl
    ]

number_apart : (j k value : ℕ) → eqb k j ≡ false → numbers_of j (number_entries k value) ≡ []
unfolding number_entries number_entry
number_apart j k value apart = elim (cases_Bool (eqb value 0)) [ inl t ↦ rw t refl | inr f ↦ rw (f, apart) refl ]

number_no_bytes : (j k value : ℕ) → all_bytes_of j (number_entries k value) ≡ []
unfolding number_entries number_entry
number_no_bytes j k value = elim (cases_Bool (eqb value 0)) [ inl t ↦ rw t refl | inr f ↦ rw f refl ]

numbers_both : (k : ℕ) (xs ys : List Entry) → numbers_of k (xs ++ ys) ≡ numbers_of k xs ++ numbers_of k ys
numbers_both k xs ys = flat_map-append (λ (e : Entry). number_in k e.number e.value) xs ys

all_bytes_both : (k : ℕ) (xs ys : List Entry) → all_bytes_of k (xs ++ ys) ≡ all_bytes_of k xs ++ all_bytes_of k ys
all_bytes_both k xs ys = flat_map-append (λ (e : Entry). bytes_in k e.number e.value) xs ys

joined_both : (xs ys : List Entry) → flat_map entry_bytes (xs ++ ys) ≡ flat_map entry_bytes xs ++ flat_map entry_bytes ys
joined_both xs ys = flat_map-append entry_bytes xs ys

-- ---- a component

capability_bound : (w : Bool) → cond w 1 0 < 2 ^ 64
capability_bound true = omega arith
capability_bound false = omega arith

component_fields : Placed → List Entry
component_fields c = bytes_entry 1 c.path ∷ (number_entries 2 c.offset ++ number_entries 3 (capability_of c))

component_joined : (c : Placed) → component_bytes c ≡ flat_map entry_bytes (component_fields c)
unfolding component_bytes component_fields
component_joined c =
    let numbers : number_field 2 c.offset ++ number_field 3 (capability_of c) ≡ flat_map entry_bytes (number_entries 2 c.offset ++ number_entries 3 (capability_of c)) =
    ap (λ (x : List ℕ). x ++ number_field 3 (capability_of c)) (number_joined 2 c.offset)
    ∙ ap (λ (x : List ℕ). flat_map entry_bytes (number_entries 2 c.offset) ++ x) (number_joined 3 (capability_of c))
    ∙ sym (joined_both (number_entries 2 c.offset) (number_entries 3 (capability_of c))) in
    ap (λ (x : List ℕ). x ++ (number_field 2 c.offset ++ number_field 3 (capability_of c))) (bytes_joined 1 c.path)
    ∙ ap (λ (x : List ℕ). entry_bytes (bytes_entry 1 c.path) ++ x) numbers

component_written : (c : Placed) → length c.path < 256 → c.offset < 2 ^ 64 → IsComponent (component_bytes c) c
unfolding component_fields bytes_entry
component_written c few bound =
    let offset : List Entry = number_entries 2 c.offset in
    let capability : List Entry = number_entries 3 (capability_of c) in
    record {
      fields = component_fields c;
      is = record {
        each = (
          bytes_is messages.Component 1 c.path (omega arith) (omega arith) refl,
          all_joined (IsEntry messages.Component) offset capability (number_is messages.Component 2 c.offset (omega arith) bound refl) (number_is messages.Component 3 (capability_of c) (omega arith) (capability_bound c.write) refl),
        );
        joined = component_joined c;
      };
      path = sym (ap (λ (x : List (List ℕ)). last_or c.path x) (all_bytes_both 1 offset capability ∙ ap (λ (x : List (List ℕ)). x ++ all_bytes_of 1 capability) (number_no_bytes 1 2 c.offset) ∙ number_no_bytes 1 3 (capability_of c)));
      offset = sym (ap (λ (x : List ℕ). last_or 0 x) (numbers_both 2 offset capability) ∙ number_last 2 c.offset (numbers_of 2 capability) (number_apart 2 3 (capability_of c) refl));
      capability = sym (ap (λ (x : List ℕ). last_or 0 x) (numbers_both 3 offset capability ∙ ap (λ (x : List ℕ). x ++ numbers_of 3 capability) (number_apart 3 2 c.offset refl) ∙ sym (append-nil (numbers_of 3 capability))) ∙ number_last 3 (capability_of c) [] refl);
    }

-- ---- a description's offsets, and how many bytes are written

-- each offset is below the length
rise_below : (before : Option ℕ) (cs : List Placed) (n : ℕ) → Rise before (map offset_of cs) → get_or (map offset_of cs) (length (map offset_of cs) - 1) 0 < n → AllByRecursion (λ (c : Placed). c.offset < n) cs
rise_below before [] n rise lt = tt
rise_below before (c ∷ []) n rise lt = (lt, tt)
rise_below before (c ∷ d ∷ cs) n rise lt =
    let count : ℕ = length (map offset_of cs) in
    let here : suc (suc count) - 1 ≡ suc count = omega arith in
    let there : suc count - 1 ≡ count = omega arith in
    let last : get_or (d.offset ∷ map offset_of cs) count 0 < n = subst (λ (i : ℕ). get_or (c.offset ∷ (d.offset ∷ map offset_of cs)) i 0 < n) here lt in
    let later = rise_below (Some c.offset) (d ∷ cs) n rise.1 (subst (λ (i : ℕ). get_or (d.offset ∷ map offset_of cs) i 0 < n) (sym there) last) in
    let less : c.offset < d.offset = rise.1.0 in
    let first : d.offset < n = later.0 in
    (omega arith, later)

pub offsets_below : (c : Composite) → IsComposite c → AllByRecursion (λ (x : Placed). x.offset < c.length) c.components
offsets_below c h = rise_below None c.components c.length h.rise h.length_is.beyond

number_few : (number value : ℕ) → number < 16 → value < 2 ^ 64 → length (number_field number value) ≤ 20
unfolding number_field
number_few number value few bound =
    let tag = varint_few (8 * number) (omega arith) in
    let body = varint_few value bound in
    elim (cases_Bool (eqb value 0)) [
      | inl t ↦ rw t (omega arith)
      | inr f ↦ rw f (omega (arith, length-append (varint_bytes (8 * number)) (varint_bytes value)))
    ]

bytes_few : (number : ℕ) (bytes : List ℕ) → number < 16 → length bytes < 2 ^ 64 → length (bytes_field number bytes) ≤ 20 + length bytes
unfolding bytes_field
bytes_few number bytes few bound =
    let tag = varint_few (8 * number + 2) (omega arith) in
    let size = varint_few (length bytes) bound in
    omega (arith, length-append (varint_bytes (8 * number + 2)) (varint_bytes (length bytes) ++ bytes), length-append (varint_bytes (length bytes)) bytes)

pub component_few : (c : Placed) → length c.path < 256 → c.offset < 2 ^ 64 → length (component_bytes c) ≤ 315
unfolding component_bytes
component_few c few bound =
    let path = bytes_few 1 c.path (omega arith) (omega arith) in
    let offset = number_few 2 c.offset (omega arith) bound in
    let capability = number_few 3 (capability_of c) (omega arith) (capability_bound c.write) in
    omega (arith, length-append (bytes_field 1 c.path) (number_field 2 c.offset ++ number_field 3 (capability_of c)), length-append (number_field 2 c.offset) (number_field 3 (capability_of c)))

components_few : (n : ℕ) (cs : List Placed) → AllByRecursion (λ (c : Placed). IsPath c.path) cs → AllByRecursion (λ (c : Placed). c.offset < n) cs → n < 2 ^ 64 → length (components_bytes cs) ≤ 335 * length cs
components_few n [] paths offsets bound = omega arith
components_few n (c ∷ cs) paths offsets bound =
    let few = paths.0.few in
    let below = offsets.0 in
    let one = component_few c few (omega arith) in
    let sized = bytes_few 2 (component_bytes c) (omega arith) (omega arith) in
    let later = components_few n cs paths.1 offsets.1 bound in
    omega (arith, length-append (bytes_field 2 (component_bytes c)) (components_bytes cs))

pub file_few : (c : Composite) → IsComposite c → length (file_bytes c) ≤ 1048576
unfolding file_bytes
file_few c h =
    let most = h.length_is.bound in
    let count = h.few in
    let version = number_few 1 2 (omega arith) (omega arith) in
    let size = number_few 3 c.length (omega arith) (omega arith) in
    let each = components_few c.length c.components h.paths (offsets_below c h) (omega arith) in
    omega (arith, length-append magic (number_field 1 2 ++ (components_bytes c.components ++ number_field 3 c.length)), length-append (number_field 1 2) (components_bytes c.components ++ number_field 3 c.length), length-append (components_bytes c.components) (number_field 3 c.length))

-- ---- a file

component_entries : List Placed → List Entry
component_entries cs = map (λ (x : Placed). bytes_entry 2 (component_bytes x)) cs

entries_joined : (cs : List Placed) → components_bytes cs ≡ flat_map entry_bytes (component_entries cs)
unfolding component_entries
entries_joined [] = refl
entries_joined (c ∷ cs) =
    ap (λ (x : List ℕ). x ++ components_bytes cs) (bytes_joined 2 (component_bytes c)) ∙ ap (λ (x : List ℕ). entry_bytes (bytes_entry 2 (component_bytes c)) ++ x) (entries_joined cs)

entries_no_numbers : (k : ℕ) (cs : List Placed) → numbers_of k (component_entries cs) ≡ []
unfolding component_entries bytes_entry
entries_no_numbers k [] = refl
entries_no_numbers k (c ∷ cs) = entries_no_numbers k cs

entries_bytes : (cs : List Placed) → all_bytes_of 2 (component_entries cs) ≡ map component_bytes cs
unfolding component_entries bytes_entry
entries_bytes [] = refl
entries_bytes (c ∷ cs) = ap (λ (x : List (List ℕ)). component_bytes c ∷ x) (entries_bytes cs)

entries_are : (n : ℕ) (cs : List Placed) → AllByRecursion (λ (c : Placed). IsPath c.path) cs → AllByRecursion (λ (c : Placed). c.offset < n) cs → n < 2 ^ 64 → AllByRecursion (IsEntry messages.Disk) (component_entries cs)
unfolding component_entries
entries_are n [] paths offsets bound = tt
entries_are n (c ∷ cs) paths offsets bound =
    let few = paths.0.few in
    let below = offsets.0 in
    let one = component_few c few (omega arith) in
    (bytes_is messages.Disk 2 (component_bytes c) (omega arith) (omega arith) refl, entries_are n cs paths.1 offsets.1 bound)

components_are : (n : ℕ) (cs : List Placed) → AllByRecursion (λ (c : Placed). IsPath c.path) cs → AllByRecursion (λ (c : Placed). c.offset < n) cs → n < 2 ^ 64 → AreComponents (map component_bytes cs) cs
components_are n [] paths offsets bound = tt
components_are n (c ∷ cs) paths offsets bound =
    let few = paths.0.few in
    let below = offsets.0 in
    (component_written c few (omega arith), components_are n cs paths.1 offsets.1 bound)

file_fields : Composite → List Entry
file_fields c = number_entries 1 2 ++ (component_entries c.components ++ number_entries 3 c.length)

file_message : Composite → List ℕ
file_message c = number_field 1 2 ++ (components_bytes c.components ++ number_field 3 c.length)

file_joined : (c : Composite) → file_message c ≡ flat_map entry_bytes (file_fields c)
unfolding file_message file_fields
file_joined c =
    let back : components_bytes c.components ++ number_field 3 c.length ≡ flat_map entry_bytes (component_entries c.components ++ number_entries 3 c.length) =
    ap (λ (x : List ℕ). x ++ number_field 3 c.length) (entries_joined c.components)
    ∙ ap (λ (x : List ℕ). flat_map entry_bytes (component_entries c.components) ++ x) (number_joined 3 c.length)
    ∙ sym (joined_both (component_entries c.components) (number_entries 3 c.length)) in
    ap (λ (x : List ℕ). x ++ (components_bytes c.components ++ number_field 3 c.length)) (number_joined 1 2)
    ∙ ap (λ (x : List ℕ). flat_map entry_bytes (number_entries 1 2) ++ x) back
    ∙ sym (joined_both (number_entries 1 2) (component_entries c.components ++ number_entries 3 c.length))

-- the numbers of a file: those in front, none in the components, and those behind
file_numbers : (k : ℕ) (c : Composite) → numbers_of k (file_fields c) ≡ numbers_of k (number_entries 1 2) ++ numbers_of k (number_entries 3 c.length)
unfolding file_fields
file_numbers k c =
    numbers_both k (number_entries 1 2) (component_entries c.components ++ number_entries 3 c.length)
    ∙ ap (λ (x : List ℕ). numbers_of k (number_entries 1 2) ++ x) (numbers_both k (component_entries c.components) (number_entries 3 c.length) ∙ ap (λ (x : List ℕ). x ++ numbers_of k (number_entries 3 c.length)) (entries_no_numbers k c.components))

file_components : (c : Composite) → all_bytes_of 2 (file_fields c) ≡ map component_bytes c.components
unfolding file_fields
file_components c =
    let later : all_bytes_of 2 (component_entries c.components ++ number_entries 3 c.length) ≡ map component_bytes c.components =
    all_bytes_both 2 (component_entries c.components) (number_entries 3 c.length)
    ∙ ap (λ (x : List (List ℕ)). all_bytes_of 2 (component_entries c.components) ++ x) (number_no_bytes 2 3 c.length)
    ∙ append-nil (all_bytes_of 2 (component_entries c.components)) ∙ entries_bytes c.components in
    all_bytes_both 2 (number_entries 1 2) (component_entries c.components ++ number_entries 3 c.length)
    ∙ ap (λ (x : List (List ℕ)). x ++ all_bytes_of 2 (component_entries c.components ++ number_entries 3 c.length)) (number_no_bytes 2 1 2) ∙ later

pub file_written : (c : Composite) → IsComposite c → IsFile (file_bytes c) c
unfolding file_bytes file_message file_fields
file_written c h =
    let most = h.length_is.bound in
    let offsets = offsets_below c h in
    let bound : c.length < 2 ^ 64 = omega arith in
    let disk = IsEntry messages.Disk in
    record {
      message = file_message c;
      fields = file_fields c;
      begins = refl;
      is = record {
        each = all_joined disk (number_entries 1 2) (component_entries c.components ++ number_entries 3 c.length) (number_is messages.Disk 1 2 (omega arith) (omega arith) refl)
            (all_joined disk (component_entries c.components) (number_entries 3 c.length) (entries_are c.length c.components h.paths offsets bound) (number_is messages.Disk 3 c.length (omega arith) bound refl));
        joined = file_joined c;
      };
      few = file_few c h;
      version = ap (λ (x : List ℕ). last_or 0 x) (file_numbers 1 c) ∙ number_last 1 2 (numbers_of 1 (number_entries 3 c.length)) (number_apart 1 3 c.length refl);
      components = subst (λ (x : List (List ℕ)). AreComponents x c.components) (sym (file_components c)) (components_are c.length c.components h.paths offsets bound);
      length_is = sym (ap (λ (x : List ℕ). last_or 0 x) (file_numbers 3 c ∙ ap (λ (x : List ℕ). x ++ numbers_of 3 (number_entries 3 c.length)) (number_apart 3 1 2 refl) ∙ sym (append-nil (numbers_of 3 (number_entries 3 c.length)))) ∙ number_last 3 c.length [] refl);
      describes = h;
    }

pub read_again : (c : Composite) → IsComposite c → decoded (file_bytes c) ≡ Ok c
read_again c h = file_reads (file_bytes c) c (file_written c h)
