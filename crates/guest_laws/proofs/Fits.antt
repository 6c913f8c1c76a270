-- The device that an `apk` line makes, where the answers are what is held, and the disk's table is the one that is held.
use Rattle.std.proofs.Common.{◌≡◌, ℕ, ◌+◌, ◌*◌, ◌≤◌, ◌∙◌, min, List, [], ◌∷◌, ◌++◌, length, take, drop, Option, Some, None, Result, Ok, refl, ap, sym, subst, inl, inr, arith}
use Rattle.std.proofs.lemmas.List.{length-drop}
use Rattle.mg_base.specs.declared.values.Span.{Span}
use Rattle.host_traits.specs.declared.calls.Call.{Call}
use Rattle.host_traits.specs.declared.calls.Said.{Said}
use Rattle.host_traits.specs.declared.calls.Said.TheVariants.{Bytes}
use Rattle.host_traits.specs.Held.{Held}
use Rattle.host_traits.specs.Told.{Exchanges}
use Rattle.host_traits.specs.Did.{IsIn}
use Rattle.sha_tree.specs.declared.measure.Measure.{Measure}
use Rattle.sha_tree.specs.Tree.{tree_pages, stored_tree}
use Rattle.sha_tree.specs.Measured.{IsMeasured}
use Rattle.verity_path.specs.declared.device.Device.{Device}
use Rattle.verity_path.specs.declared.walk.Layout.TheVariants.{Parts}
use Rattle.gpt.specs.declared.values.Table.{Table}
use Rattle.idsig_v4.specs.declared.head.Head.{Head}
use Rattle.idsig_v4.specs.declared.head.IdsigFault.{IdsigFault}
use Rattle.idsig_v4.specs.Reading.{head_of}
use Rattle.apk_verity.specs.declared.ApkFault.{ApkFault}
use Rattle.apk_verity.specs.Opening.{Opening, opening, idsig_call, count_of, measure_of, opened}
use Rattle.guest_plan.specs.declared.plan.How.{How}
use Rattle.guest_boot.specs.Finding.{ReadsTable, HasTable, TableOn, table_on, parts_in}
use Rattle.guest_boot.specs.Booting.{Booted, ApkBoots, measure_in}
use Rattle.verity_path.specs.Holding.{HoldsParts}
use Rattle.guest_laws.specs.Fitting.{HoldsTable, HoldsApk, AreTrue}
use Rattle.guest_laws.proofs.Heard.{sectors_served, table_held}
use Rattle.guest_laws.proofs.Heads.{head_read, tree_inside, made}

-- ---- parts of exchanges

pub in_left : (xs ys : Exchanges) (call : Call) (said : Said) → IsIn call said xs → IsIn call said (xs ++ ys)
in_left [] ys call said i = absurd i
in_left (x ∷ xs) ys call said (inl e) = inl e
in_left (x ∷ xs) ys call said (inr i) = inr (in_left xs ys call said i)

in_right : (xs ys : Exchanges) (call : Call) (said : Said) → IsIn call said ys → IsIn call said (xs ++ ys)
in_right [] ys call said i = i
in_right (x ∷ xs) ys call said i = inr (in_right xs ys call said i)

module _ (h : Held) (disk : ℕ) (own xs ys : Exchanges) (cut : own ≡ xs ++ ys) (heard : AreTrue h disk own) where
  whole : AreTrue h disk (xs ++ ys)
  whole = subst (λ (z : Exchanges). AreTrue h disk z) cut heard

  pub true_left : AreTrue h disk xs
  true_left = λ call said i. whole call said (in_left xs ys call said i)

  pub true_right : AreTrue h disk ys
  true_right = λ call said i. whole call said (in_right xs ys call said i)

-- ---- the device

-- the table of the disk, wherever it was read before, is this one
abbrev pub Knows : ℕ → Table → List TableOn → Type 0
Knows disk t tables = (u : Table) → table_on disk tables ≡ Some u → u ≡ t

parts_are : (a b : Span × Span) → ◌≡◌ {A = Result (Span × Span) (List ℕ)} (Ok a) (Ok b) → a ≡ b
parts_are a b e = cc

head_is : (a b : Head) → ◌≡◌ {A = Result Head IdsigFault} (Ok a) (Ok b) → a ≡ b
head_is a b e = cc

measure_is : (a b : Measure) → ◌≡◌ {A = Result Measure ApkFault} (Ok a) (Ok b) → a ≡ b
measure_is a b e = cc

-- a device of this measure stands in parts of the disk, and what is held there is the content and its tree, within a disk of
-- at most 2 ^ 40 sectors
pub record IsHeldAt (h : Held) (disk : ℕ) (it : Device) (m : Measure) (content : List ℕ) : Type 0 where
  pub measure : it.measure ≡ m
  pub first : ℕ
  pub tree : ℕ
  pub layout : it.layout ≡ Parts disk first tree
  pub holds : HoldsParts h disk first tree it.measure content
  pub inside : tree + 4096 * tree_pages it.measure.blocks ≤ length holds.disk.bytes
  pub few : length holds.disk.bytes ≤ 512 * 1099511627776

module _ (h : Held) (disk : ℕ) (on : HoldsTable h disk) where
  pub true_table : (own : Exchanges) (u : Table) → AreTrue h disk own → ReadsTable disk own u → u ≡ on.table
  true_table own u heard r = table_held h disk on.on on.there on.sectors on.table on.whole on.are_bytes on.is_table own heard u r

  pub has_it : (o : Option Table) (own : Exchanges) (u : Table) → ((v : Table) → o ≡ Some v → v ≡ on.table) → AreTrue h disk own → HasTable o disk own u → u ≡ on.table
  has_it None own u known heard has = true_table own u heard has
  has_it (Some v) own u known heard has = has.1 ∙ known v refl

module _ (h : Held) (disk : ℕ) (apk idsig : List ℕ) (how : How) (m : Measure) (content : List ℕ) (holds : HoldsApk h disk apk idsig how m content) where
  pub boots_held : (s new : Booted) (own : Exchanges) (b : ApkBoots s disk apk idsig how own new) → Knows disk holds.on.table s.tables → AreTrue h disk own → IsMeasured b.device.measure content → IsHeldAt h disk b.device m content
  boots_held s new own b known heard measured =
      let f = b.found in
      let table : f.table ≡ holds.on.table = has_it h disk holds.on (table_on disk s.tables) b.first f.table known (true_left h disk own b.first _ b.cut heard) f.has in
      let parts : b.parts ≡ (holds.first, holds.second) = parts_are b.parts _ (sym f.found_is ∙ ap (λ (z : Table). parts_in z apk idsig) table ∙ holds.parts) in
      let o : Opening = opening disk holds.first holds.second (measure_in how) in
      let cut : own ≡ b.first ++ (idsig_call o, Bytes b.bytes) ∷ [] = subst (λ (p : Span × Span). own ≡ b.first ++ (idsig_call (opening disk p.0 p.1 (measure_in how)), Bytes b.bytes) ∷ []) parts b.cut in
      let is : opened o b.bytes ≡ Ok b.device = subst (λ (p : Span × Span). opened (opening disk p.0 p.1 (measure_in how)) b.bytes ≡ Ok b.device) parts b.is in
      let answer = true_right h disk own b.first _ cut heard (idsig_call o) (Bytes b.bytes) (inl refl) refl in
      let seen = sectors_served h disk holds.on.on holds.on.there holds.second.first (count_of o) b.bytes answer in
      let le = seen.0 in
      let from : List ℕ = drop (512 * holds.second.first) holds.on.on.bytes in
      let room : 512 * min holds.second.sectors 136 ≤ length from = omega (arith, le, length-drop (512 * holds.second.first) holds.on.on.bytes) in
      let d = made o b.bytes b.device is in
      let head : d.head ≡ holds.head = head_is d.head holds.head
      (sym d.read ∙ ap (λ (x : List ℕ). head_of x (512 * holds.second.sectors)) seen.1 ∙ head_read from holds.second.sectors holds.head room holds.is_idsig) in
      let measure : b.device.measure ≡ m = measure_is b.device.measure m (sym d.measure ∙ ap (λ (z : Head). measure_of holds.first (measure_in how) z) head ∙ holds.measure) in
      let at : ℕ = 512 * holds.second.first + holds.head.tree_at in
      let len : 4096 * tree_pages m.blocks ≡ holds.head.tree_len = sym (ap (λ (z : Head). z.tree_len) (sym head) ∙ d.tree ∙ ap (λ (z : Measure). 4096 * tree_pages z.blocks) measure) in
      let tree_in = tree_inside from holds.second.sectors holds.head holds.is_idsig in
      let some = tree_in.0 in
      let end = tree_in.1 in
      let same : 4096 * tree_pages m.blocks ≡ 4096 * tree_pages b.device.measure.blocks = ap (λ (z : Measure). 4096 * tree_pages z.blocks) (sym measure) in
      let most = holds.on.is_table.most in
      record {
        measure = measure;
        first = holds.first.first;
        tree = at;
        layout = d.layout ∙ ap (λ (z : Head). Parts disk holds.first.first (512 * holds.second.first + z.tree_at)) head;
        holds = record {
          disk = holds.on.on;
          there = holds.on.there;
          sectors = omega (arith, holds.on.whole);
          whole = measured.size;
          blocks = ap (λ (z : Measure). take (4096 * z.blocks) (drop (512 * holds.first.first) holds.on.on.bytes)) measure ∙ holds.content_is;
          tree = ap (λ (n : ℕ). take n (drop at holds.on.on.bytes)) (sym same ∙ len) ∙ holds.tree ∙ ap (λ (z : Measure). stored_tree content z.salt) (sym measure);
        };
        inside = omega (arith, end, some, same, len, length-drop (512 * holds.second.first) holds.on.on.bytes);
        few = omega (arith, most, holds.on.whole);
      }
