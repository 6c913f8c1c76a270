-- The names that are found, and that what stands is sound.
use Rattle.std.proofs.Common.{if◌then◌else◌, ◌≡◌, ◌≤◌, ◌+◌, ℕ, suc, Bool, true, false, List, [], ◌∷◌, ◌++◌, length, Option, Some, None, Ok, refl, sym, ap, ◌∙◌, subst, inl, inr, arith, append_assoc}
use Rattle.std.specs.Prelude.{nat_eq, slice_get, ◌⊎◌, IsSome}
use Rattle.std.specs.List.{AllByRecursion}
use Rattle.std.specs.Option.{option_map}
use Rattle.std.specs.Cmp.Lexicographic.{pointwise}
use Rattle.std.proofs.lemmas.List.{length-append}
use Rattle.mg_base.specs.declared.values.Digest.{Digest}
use Rattle.mg_base.specs.declared.errno.Errno.TheVariants as errno
use Rattle.ro_file.specs.Files.{MeasuredFile}
use Rattle.authfs_dirs.specs.declared.kind.Kind.TheVariants.{ReadOnly, Writable}
use Rattle.authfs_dirs.specs.Names.{Entry, entry, Node, Names, node_at, named, node_named, directory, lookup_check, found as found_in, at_first, planted}
use Rattle.authfs_dirs.specs.Tree.{IsSoundTree}
use Rattle.authfs_dirs.proofs.NameLemmas.{same_name, same_self}
use Rattle.authfs_dirs.proofs.TreeLaws.{stays_sound}
use Rattle.fuse_server.specs.State.{State, WritableFile, writable_at, file_at, empty_file}
use Rattle.fuse_server.specs.Serving.{IsServedKind}
use Rattle.fuse_server.specs.Ties.{pins_of}
use Rattle.fuse_server.proofs.Ties.{tied_at_first}
use Rattle.guest_plan.specs.declared.plan.PlanLine.{PlanLine}
use Rattle.guest_names.specs.Standing.{NamedFile, kind_of, kind_by, file_in, and_files, files_in, read_only, read_count, all_planted, names_at_boot, files_at_boot, writables_at_boot, at_boot}
use Rattle.guest_names.specs.Promises.{IsFileLine, NamesAreFound, IsPlannedName, NoOtherName, BootsSound}
use Rattle.guest_names.specs.Planted.{Differs, AreDifferent, ArePlantable}
use Rattle.guest_names.proofs.Apart.{plan_plantable}
use Rattle.guest_names.proofs.Nodes.{entries_from, root_of, node_of, IsOf, ArePlanted, planted_more, none_planted, planted_from_first, apart_from, may, place_at}
use Rattle.guest_names.proofs.Files.{stands, empties_stand, place_only}
use Rattle.guest_names.proofs.Making.{empty_at_boot}
use Rattle.guest_names.proofs.Stepping.{in_append}

-- ---- names

-- a look-up in the root is one among its entries
look_up : (s : Names) (files : List NamedFile) (name : List ℕ) → ArePlanted s files → lookup_check s.nodes 1 name ≡ found_in (node_named name (entries_from 3 2 files)) errno.Enoent
unfolding lookup_check directory
look_up s files name p = rw p.root refl

found_at : (c n : ℕ) (before after : List NamedFile) (f : NamedFile) → AllByRecursion (λ g. Differs g f) before → node_named f.name (entries_from c n (before ++ f ∷ after)) ≡ Some (length before + n)
found_at c n [] after f all =
    let none : 0 + n ≡ n = omega arith in
    rw (same_self f.name, none) refl
found_at c n (g ∷ before) after f all =
    let place : length before + (n + 1) ≡ suc (length before) + n = omega arith in
    rw all.0.name (found_at (c + 1) (n + 1) before after f all.1 ∙ ap (λ (k : ℕ). Some k) place)

in_lines : (lines before : List PlanLine) (f : NamedFile) → (i : IsFileLine lines before f) → files_in lines ≡ files_in before ++ f ∷ files_in i.after
in_lines lines before f i =
    ap files_in i.lines_are ∙ in_append before (i.line ∷ i.after) ∙ ap (λ (o : Option NamedFile). files_in before ++ and_files o (files_in i.after)) i.file

pub names_found : NamesAreFound
names_found text plan p before f i =
    let after = files_in i.after in
    let cut : files_in plan.lines ≡ files_in before ++ f ∷ after = in_lines plan.lines before f i in
    let apart = apart_from f (files_in before) after (subst AreDifferent cut (plan_plantable text plan p).different) in
    let all : ArePlanted (names_at_boot plan.lines) (files_in before ++ f ∷ after) = subst (ArePlanted (names_at_boot plan.lines)) cut (planted_from_first (files_in plan.lines)) in
    let node = all.nodes (length (files_in before)) f (place_at (files_in before) after f) in (
      look_up (names_at_boot plan.lines) (files_in before ++ f ∷ after) f.name all ∙ ap (λ (o : Option ℕ). found_in o errno.Enoent) (found_at 3 2 (files_in before) after f apart),
      ap (option_map (λ (x : Node). x.kind)) node,
    )

later_name : (l : PlanLine) (lines : List PlanLine) (name : List ℕ) → IsPlannedName lines name → IsPlannedName (l ∷ lines) name
later_name l lines name w = record {
  before = l ∷ w.before;
  file = w.file;
  is = record { line = w.is.line; after = w.is.after; lines_are = ap (λ (ls : List PlanLine). l ∷ ls) w.is.lines_are; file = w.is.file };
  name_is = w.name_is;
}

found_node : (o : Option ℕ) (node : ℕ) → found_in o errno.Enoent ≡ Ok node → o ≡ Some node
found_node None node e = absurd cc
found_node (Some n) node e = cc

first_name : (l : PlanLine) (lines : List PlanLine) (f : NamedFile) (c n node : ℕ) (name : List ℕ) (b : Bool) → file_in l ≡ Some f → pointwise nat_eq name f.name ≡ b
    → (node_named name (entries_from (c + 1) (n + 1) (files_in lines)) ≡ Some node → IsPlannedName lines name)
    → option_map (λ (e : Entry). e.node) (if b then Some (entry c f.name n) else named name (entries_from (c + 1) (n + 1) (files_in lines))) ≡ Some node → IsPlannedName (l ∷ lines) name
first_name l lines f c n node name true file e rest is = record {
  before = [];
  file = f;
  is = record { line = l; after = lines; lines_are = refl; file = file };
  name_is = sym (same_name name f.name e);
}
first_name l lines f c n node name false file e rest is = later_name l lines name (rest is)

by_line : (l : PlanLine) (lines : List PlanLine) (c n node : ℕ) (name : List ℕ) → ((d m : ℕ) → node_named name (entries_from d m (files_in lines)) ≡ Some node → IsPlannedName lines name)
    → (o : Option NamedFile) → file_in l ≡ o → node_named name (entries_from c n (and_files o (files_in lines))) ≡ Some node → IsPlannedName (l ∷ lines) name
by_line l lines c n node name later None e there = later_name l lines name (later c n there)
by_line l lines c n node name later (Some f) e there = first_name l lines f c n node name (pointwise nat_eq name f.name) e refl (later (c + 1) (n + 1)) there

other_name : (lines : List PlanLine) (c n node : ℕ) (name : List ℕ) → node_named name (entries_from c n (files_in lines)) ≡ Some node → IsPlannedName lines name
other_name [] c n node name is = absurd cc
other_name (l ∷ lines) c n node name is = by_line l lines c n node name (λ d m. other_name lines d m node name) (file_in l) refl is

pub no_other : NoOtherName
no_other lines name node is =
    let all = planted_from_first (files_in lines) in
    other_name lines 3 2 node name (found_node _ node (sym (look_up (names_at_boot lines) (files_in lines) name all) ∙ is))

-- ---- the state

some_kind : (s : State) (x y : Node) → x ≡ y → IsServedKind s y.kind → IsServedKind s x.kind
some_kind s x y same served = subst (λ (z : Node). IsServedKind s z.kind) (sym same) served

node_same : (o : Option Node) (x y : Node) → o ≡ Some x → o ≡ Some y → x ≡ y
node_same o x y p q = cc

module _ (lines : List PlanLine) (opened : List MeasuredFile) (p : ArePlantable (files_in lines)) where
  all : ArePlanted (names_at_boot lines) (files_in lines)
  all = planted_from_first (files_in lines)

  file_served : (f : NamedFile) (k : ℕ) (o : Option Digest) → length opened ≡ read_count lines → slice_get (files_in lines) k ≡ Some f → f.digest ≡ o → IsServedKind (at_boot lines opened) (kind_by f.number o)
  file_served f k None len there e = empties_stand [] (files_in lines) k f there e
  file_served f k (Some digest) len there e = let w = place_only (files_in lines) k f digest there e in stands [] (read_only (files_in lines)) opened w.0 f len w.1

  served_by : (n : ℕ) (x : Node) → length opened ≡ read_count lines → node_at (names_at_boot lines) n ≡ Some x → (n ≡ 1) ⊎ IsOf (files_in lines) n x → IsServedKind (at_boot lines opened) x.kind
  served_by n x len is (inl one) =
      let root : x ≡ root_of (files_in lines) = node_same (node_at (names_at_boot lines) 1) x (root_of (files_in lines)) (subst (λ (k : ℕ). node_at (names_at_boot lines) k ≡ Some x) one is) all.root in
      some_kind (at_boot lines opened) x (root_of (files_in lines)) root tt
  served_by n x len is (inr o) = some_kind (at_boot lines opened) x (node_of o.file) o.node (file_served o.file o.place o.file.digest len o.there refl)

  no_pins : (n : ℕ) (o : Option Node) → node_at (names_at_boot lines) n ≡ o → pins_of o ≡ 0
  no_pins n None is = refl
  no_pins n (Some x) is = by (all.only n x is) where
    by : (n ≡ 1) ⊎ IsOf (files_in lines) n x → x.pins ≡ 0
    by (inl one) = ap (λ (z : Node). z.pins) (node_same (node_at (names_at_boot lines) 1) x (root_of (files_in lines)) (subst (λ (k : ℕ). node_at (names_at_boot lines) k ≡ Some x) one is) all.root)
    by (inr o) = ap (λ (z : Node). z.pins) o.node

-- each name is planted where it may be
sound_on : (s : Names) (done files : List NamedFile) → ArePlanted s done → IsSoundTree s → AreDifferent (done ++ files) → length done + length files ≤ 4095 → IsSoundTree (all_planted s files)
sound_on s done [] p is d few = is
sound_on s done (f ∷ files) p is d few =
    let ok = may s f done files p d (omega (arith, few)) in
    sound_on (planted s f.name (kind_of f)) (done ++ f ∷ []) files (planted_more s done f p) (stays_sound.plant s f.name (kind_of f) is ok)
    (subst AreDifferent (sym (append_assoc done (f ∷ []) files)) d) (omega (arith, few, length-append done (f ∷ [])))

pub boots_sound : BootsSound
boots_sound text plan opened p len =
    let q = plan_plantable text plan p in
    record {
      served = λ n x is. served_by plan.lines opened q n x len is ((planted_from_first (files_in plan.lines)).only n x is);
      numbered = λ n f is. ap (λ (x : WritableFile). x.file) (empty_at_boot plan.lines n f is);
      tied = tied_at_first (names_at_boot plan.lines) (files_at_boot plan.lines opened) (writables_at_boot plan.lines) (λ n. no_pins plan.lines opened q n (node_at (names_at_boot plan.lines) n) refl);
      sound = sound_on at_first [] (files_in plan.lines) none_planted stays_sound.first q.different (omega (arith, q.few));
    }
