-- The line of an item among the lines that were opened, with what was read before it.
use Rattle.std.proofs.Common.{◌≡◌, ◌⊎◌, ℕ, zero, suc, ◌+◌, ◌∙◌, Bool, true, false, cond, eqb, eqb-true, List, [], ◌∷◌, ◌++◌, length, Option, Some, None, refl, ap, sym, subst, inl, inr, arith}
use Rattle.std.specs.Prelude.{slice_get}
use Rattle.std.proofs.lemmas.List.{length-append}
use Rattle.host_traits.specs.Held.{Held}
use Rattle.host_traits.specs.Told.{Exchanges}
use Rattle.verity_path.specs.declared.device.Device.{Device}
use Rattle.gpt.specs.declared.values.Table.{Table}
use Rattle.instance_image.specs.Records.{Kept}
use Rattle.guest_plan.specs.declared.plan.How.{How}
use Rattle.guest_plan.specs.declared.plan.PlanLine.{PlanLine}
use Rattle.guest_plan.specs.declared.plan.PlanLine.TheVariants as line
use Rattle.guest_boot.specs.Finding.{ReadsTable, HasTable, TableOn, table_on, with_table}
use Rattle.guest_boot.specs.Booting.{Booted, ApkBoots, InstanceLine, InstanceBoots}
use Rattle.guest_laws.specs.Fitting.{AreTrue, item_line}
use Rattle.guest_laws.proofs.Fits.{Knows, true_left, true_right}
use Rattle.guest_laws.proofs.Unrecorded.{PlainLine, PlainBoots}

-- ---- the tables

last : (b : Bool) (u v : Table) → cond {A = Option Table} b (Some u) None ≡ Some v → (b ≡ true) × (u ≡ v)
last true u v e = (refl, cc)
last false u v e = absurd cc

either : (b : Bool) (x y z : Option Table) (v : Table) (Q : Type 0) → (y ≡ Some v → (z ≡ Some v) ⊎ Q) → cond b x y ≡ Some v → (cond b x z ≡ Some v) ⊎ Q
either true x y z v Q f e = inl e
either false x y z v Q f e = f e

-- a table that is known with one more, was known before or is that one
added : (disk : ℕ) (ts : List TableOn) (d : ℕ) (u v : Table) → table_on disk (ts ++ record { disk = d; table = u } ∷ []) ≡ Some v → (table_on disk ts ≡ Some v) ⊎ ((d ≡ disk) × (u ≡ v))
unfolding table_on
added disk [] d u v e = let l = last (eqb d disk) u v e in inr (eqb-true d disk l.0, l.1)
added disk (k ∷ ts) d u v e = either (eqb k.disk disk) (Some k.table) _ _ v ((d ≡ disk) × (u ≡ v)) (added disk ts d u v) e

pub knows_none : (disk : ℕ) (t : Table) → Knows disk t []
unfolding table_on
knows_none disk t u e = absurd cc

module _ (h : Held) (disk : ℕ) (t : Table) (true_table : (own : Exchanges) (u : Table) → AreTrue h disk own → ReadsTable disk own u → u ≡ t) where
  knows_more : (ts : List TableOn) (d : ℕ) (u : Table) → Knows disk t ts → (d ≡ disk → u ≡ t) → Knows disk t (ts ++ record { disk = d; table = u } ∷ [])
  knows_more ts d u known same v e = elim (added disk ts d u v e) [ inl a ↦ known v a | inr b ↦ sym b.1 ∙ same b.0 ]

  knows_with : (o : Option Table) (ts : List TableOn) (d : ℕ) (own : Exchanges) (u : Table) → Knows disk t ts → AreTrue h disk own → HasTable o d own u → Knows disk t (with_table o ts d u)
  knows_with None ts d own u known heard has = knows_more ts d u known (λ e. true_table own u heard (subst (λ (n : ℕ). ReadsTable n own u) e has))
  knows_with (Some v) ts d own u known heard has = known

  pub line_knows : (s mid : Booted) (l : PlanLine) (own : Exchanges) → Knows disk t s.tables → AreTrue h disk own → PlainLine s l own mid → Knows disk t mid.tables
  line_knows s mid (line.Blob file m) own known heard b = subst (λ (z : Booted). Knows disk t z.tables) (sym b.1) known
  line_knows s mid (line.Apk d a i how) own known heard b =
      let f = b.found in
      let k = knows_with (table_on d s.tables) s.tables d b.first f.table known (true_left h disk own b.first _ b.cut heard) f.has in
      subst (λ (z : Booted). Knows disk t z.tables) (sym b.new_is) (subst (λ (z : List TableOn). Knows disk t z) (sym f.new_is) k)
  line_knows s mid (line.File name file digest) own known heard b = subst (λ (z : Booted). Knows disk t z.tables) (sym b.new_is) known
  line_knows s mid (line.Instance d name) own known heard b = subst (λ (z : Booted). Knows disk t z.tables) (sym b.1) known
  line_knows s mid (line.Write name file) own known heard b = absurd b
  line_knows s mid (line.WriteDir name file) own known heard b = subst (λ (z : Booted). Knows disk t z.tables) (sym b.1) known

  -- the tables that were read for the instance line
  pub instance_knows : (i : Option InstanceLine) (salt : Option (List ℕ)) (own : Exchanges) (tables : List TableOn) (image : Option Kept) → InstanceBoots i salt own tables image → AreTrue h disk own → Knows disk t tables
  instance_knows None salt own tables image b heard = subst (λ (z : List TableOn). Knows disk t z) (sym b.1) (knows_none disk t)
  instance_knows (Some i) None own tables image b heard = absurd b
  instance_knows (Some i) (Some salt) own tables image b heard =
      let f = b.2.found in
      let k = knows_with (table_on i.disk []) [] i.disk b.2.first f.table (knows_none disk t) (true_left h disk own b.2.first b.2.rest b.2.cut heard) f.has in
      subst (λ (z : List TableOn). Knows disk t z) (sym f.new_is) k

-- ---- the items

get_left : (xs ys : List Device) (k : ℕ) (x : Device) → slice_get xs k ≡ Some x → slice_get (xs ++ ys) k ≡ Some x
get_left [] ys k x e = absurd cc
get_left (y ∷ xs) ys zero x e = e
get_left (y ∷ xs) ys (suc k) x e = get_left xs ys k x e

pub get_last : (xs : List Device) (d : Device) (n : ℕ) → n ≡ length xs → slice_get (xs ++ d ∷ []) n ≡ Some d
get_last [] d zero e = refl
get_last [] d (suc n) e = absurd (omega (arith, e))
get_last (x ∷ xs) d zero e = absurd (omega (arith, e))
get_last (x ∷ xs) d (suc n) e = get_last xs d n (omega (arith, e))

-- a device stays where it is
line_keeps : (s mid : Booted) (l : PlanLine) (own : Exchanges) (k : ℕ) (it : Device) → PlainLine s l own mid → slice_get s.items k ≡ Some it → slice_get mid.items k ≡ Some it
line_keeps s mid (line.Blob file m) own k it b e = subst (λ (z : Booted). slice_get z.items k ≡ Some it) (sym b.1) (get_left s.items _ k it e)
line_keeps s mid (line.Apk d a i how) own k it b e = subst (λ (z : Booted). slice_get z.items k ≡ Some it) (sym b.new_is) (get_left s.items _ k it e)
line_keeps s mid (line.File name file digest) own k it b e = subst (λ (z : Booted). slice_get z.items k ≡ Some it) (sym b.new_is) e
line_keeps s mid (line.Instance d name) own k it b e = subst (λ (z : Booted). slice_get z.items k ≡ Some it) (sym b.1) e
line_keeps s mid (line.Write name file) own k it b e = absurd b
line_keeps s mid (line.WriteDir name file) own k it b e = subst (λ (z : Booted). slice_get z.items k ≡ Some it) (sym b.1) e

pub keeps : (lines : List PlanLine) (s new : Booted) (own : Exchanges) (k : ℕ) (it : Device) → PlainBoots s lines own new → slice_get s.items k ≡ Some it → slice_get new.items k ≡ Some it
keeps [] s new own k it b e = subst (λ (z : Booted). slice_get z.items k ≡ Some it) (sym b.1) e
keeps (l ∷ lines) s new own k it b e = keeps lines b.2 new b.1 k it b.5 (line_keeps s b.2 l b.0 k it b.4 e)

pub same_line : (a b : PlanLine) → Some a ≡ Some b → a ≡ b
same_line a b e = cc

-- ---- the line

-- the line that made the device at this place, what was read before it, and its own answers, each of which is what is held
pub record AtLine (h : Held) (disk : ℕ) (t : Table) (apk idsig : List ℕ) (how : How) (items : List Device) (n : ℕ) : Type 0 where
  pub old : Booted
  pub new : Booted
  pub own : Exchanges
  pub known : Knows disk t old.tables
  pub heard : AreTrue h disk own
  pub boots : ApkBoots old disk apk idsig how own new
  pub is : slice_get items n ≡ Some boots.device

module _ (h : Held) (disk : ℕ) (t : Table) (true_table : (own : Exchanges) (u : Table) → AreTrue h disk own → ReadsTable disk own u → u ≡ t) (apk idsig : List ℕ) (how : How) where
  here : (lines : List PlanLine) (s mid new : Booted) (first rest : Exchanges) (n : ℕ) → ApkBoots s disk apk idsig how first mid → PlainBoots mid lines rest new → Knows disk t s.tables → AreTrue h disk first
      → n ≡ length s.items → AtLine h disk t apk idsig how new.items n
  here lines s mid new first rest n b more known heard e =
      let made : slice_get mid.items n ≡ Some b.device = subst (λ (z : Booted). slice_get z.items n ≡ Some b.device) (sym b.new_is) (get_last s.items b.device n e) in
      record { old = s; new = mid; own = first; known = known; heard = heard; boots = b; is = keeps lines mid new rest n b.device more made }

  pub at_line : (lines : List PlanLine) (s new : Booted) (own : Exchanges) (k n : ℕ) → PlainBoots s lines own new → Knows disk t s.tables → AreTrue h disk own
      → item_line lines k ≡ Some (line.Apk disk apk idsig how) → n ≡ length s.items + k → AtLine h disk t apk idsig how new.items n
  at_line [] s new own k n b known heard is e = absurd cc
  at_line (line.Blob file m ∷ lines) s new own zero n b known heard is e = absurd cc
  at_line (line.Blob file m ∷ lines) s new own (suc k) n b known heard is e =
      let more : length b.2.items ≡ length s.items + 1 = ap (λ (z : Booted). length z.items) b.4.1 ∙ length-append s.items _ in
      at_line lines b.2 new b.1 k n b.5 (line_knows h disk t true_table s b.2 (line.Blob file m) b.0 known (true_left h disk own b.0 b.1 b.3 heard) b.4) (true_right h disk own b.0 b.1 b.3 heard) is (omega (arith, e, more))
  at_line (line.Apk d a i w ∷ lines) s new own zero n b known heard is e =
      let mine : ApkBoots s disk apk idsig how b.0 b.2 = subst (λ (l : PlanLine). PlainLine s l b.0 b.2) (same_line (line.Apk d a i w) (line.Apk disk apk idsig how) is) b.4 in
      here lines s b.2 new b.0 b.1 n mine b.5 known (true_left h disk own b.0 b.1 b.3 heard) (omega (arith, e))
  at_line (line.Apk d a i w ∷ lines) s new own (suc k) n b known heard is e =
      let more : length b.2.items ≡ length s.items + 1 = ap (λ (z : Booted). length z.items) b.4.new_is ∙ length-append s.items _ in
      at_line lines b.2 new b.1 k n b.5 (line_knows h disk t true_table s b.2 (line.Apk d a i w) b.0 known (true_left h disk own b.0 b.1 b.3 heard) b.4) (true_right h disk own b.0 b.1 b.3 heard) is (omega (arith, e, more))
  at_line (line.File name file digest ∷ lines) s new own k n b known heard is e =
      let more : length b.2.items ≡ length s.items = ap (λ (z : Booted). length z.items) b.4.new_is in
      at_line lines b.2 new b.1 k n b.5 (line_knows h disk t true_table s b.2 (line.File name file digest) b.0 known (true_left h disk own b.0 b.1 b.3 heard) b.4) (true_right h disk own b.0 b.1 b.3 heard) is (omega (arith, e, more))
  at_line (line.Instance d name ∷ lines) s new own k n b known heard is e =
      let more : length b.2.items ≡ length s.items = ap (λ (z : Booted). length z.items) b.4.1 in
      at_line lines b.2 new b.1 k n b.5 (line_knows h disk t true_table s b.2 (line.Instance d name) b.0 known (true_left h disk own b.0 b.1 b.3 heard) b.4) (true_right h disk own b.0 b.1 b.3 heard) is (omega (arith, e, more))
  at_line (line.Write name file ∷ lines) s new own k n b known heard is e = absurd b.4
  at_line (line.WriteDir name file ∷ lines) s new own k n b known heard is e =
      let more : length b.2.items ≡ length s.items = ap (λ (z : Booted). length z.items) b.4.1 in
      at_line lines b.2 new b.1 k n b.5 (line_knows h disk t true_table s b.2 (line.WriteDir name file) b.0 known (true_left h disk own b.0 b.1 b.3 heard) b.4) (true_right h disk own b.0 b.1 b.3 heard) is (omega (arith, e, more))
