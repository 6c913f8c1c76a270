-- What holds of each node, how many nodes there are, and the cookies of a directory, as changes keep them.
use Rattle.std.proofs.Common.{if◌then◌else◌, zero, suc, ◌≡◌, ◌≢◌, ◌≤◌, ◌+◌, ◌-◌, ℕ, Bool, true, false, cond, List, [], ◌∷◌, ◌++◌, length, Option, Some, None, refl, sym, ap, ◌∙◌, subst, arith}
use Rattle.std.specs.Prelude.{nat_eq, is_some}
use Rattle.std.specs.Option.{option_map}
use Rattle.std.specs.Ordering.{nat_cmp}
use Rattle.std.specs.Cmp.{nat_cmp_total}
use Rattle.std.specs.FinMap as table
use Rattle.std.proofs.lemmas.Bool.Decides.{nat_tests}
use Rattle.authfs_dirs.specs.Names.{Entry, entry, Node, NodeMap, is_named, unnamed, lives, put_if, changed, settle_if, settled, with_name, made_in, cleared, reset_node}
use Rattle.authfs_dirs.specs.Tree.{AreRising}
use Rattle.authfs_dirs.proofs.SeenLemmas.{turned}
use Rattle.authfs_dirs.proofs.TreeLemmas.{kept, get_changed, get_settled, own_number, other_number}

-- ---- what holds of each node

abbrev pub Each : (Node → Type 0) → NodeMap → Type 0
Each P m = (n : ℕ) (x : Node) → table.get m n ≡ Some x → P x

map_case : (P : Node → Type 0) (f : Node → Node) (o : Option Node) (x : Node) → ((z : Node) → o ≡ Some z → P z) → ((z : Node) → P z → P (f z)) → option_map f o ≡ Some x → P x
map_case P f None x was keeps e = absurd cc
map_case P f (Some z) x was keeps e = let same : f z ≡ x = cc in subst P same (keeps z (was z refl))

changed_case : (P : Node → Type 0) (m : NodeMap) (n q : ℕ) (f : Node → Node) (x : Node) (b : Bool) → Each P m → ((z : Node) → P z → P (f z)) → cond b (option_map f (table.get m n)) (table.get m q) ≡ Some x → P x
changed_case P m n q f x true was keeps h = map_case P f (table.get m n) x (was n) keeps h
changed_case P m n q f x false was keeps h = was q x h

pub each_changed : (P : Node → Type 0) (m : NodeMap) (n : ℕ) (f : Node → Node) → Each P m → ((z : Node) → P z → P (f z)) → Each P (changed m n f)
each_changed P m n f was keeps q x e = changed_case P m n q f x (nat_eq n q) was keeps (sym (get_changed m n q f) ∙ e)

stays_case : (P : Node → Type 0) (x z : Node) (b : Bool) → P z → (if b then Some z else None) ≡ Some x → P x
stays_case P x z true was h = let same : z ≡ x = cc in subst P same was
stays_case P x z false was h = absurd cc

kept_case : (P : Node → Type 0) (n : ℕ) (o : Option Node) (x : Node) → ((z : Node) → o ≡ Some z → P z) → kept n o ≡ Some x → P x
kept_case P n None x was h = absurd cc
kept_case P n (Some z) x was h = stays_case P x z (lives n z) (was z refl) h

settled_case : (P : Node → Type 0) (m : NodeMap) (n q : ℕ) (x : Node) (b : Bool) → Each P m → cond b (kept n (table.get m n)) (table.get m q) ≡ Some x → P x
settled_case P m n q x true was h = kept_case P n (table.get m n) x (was n) h
settled_case P m n q x false was h = was q x h

pub each_settled : (P : Node → Type 0) (m : NodeMap) (n : ℕ) → Each P m → Each P (settled m n)
each_settled P m n was q x e = settled_case P m n q x (nat_eq n q) was (sym (get_settled m n q) ∙ e)

inserted_case : (P : Node → Type 0) (m : NodeMap) (fresh x : Node) (q : ℕ) (b : Bool) → Each P m → P fresh → cond b (Some fresh) (table.get m q) ≡ Some x → P x
inserted_case P m fresh x q true was new h = let same : fresh ≡ x = cc in subst P same new
inserted_case P m fresh x q false was new h = was q x h

pub each_inserted : (P : Node → Type 0) (m : NodeMap) (n : ℕ) (fresh : Node) → Each P m → P fresh → Each P (table.insert m n fresh)
each_inserted P m n fresh was new q x e = inserted_case P m fresh x q (nat_eq n q) was new (ap (λ b. cond b (Some fresh) (table.get m q)) (sym (turned q n)) ∙ sym (table.get-insert nat_cmp_total m n fresh q) ∙ e)

reset_case : (P : Node → Type 0) (n : ℕ) (o : Option Node) (x : Node) → ((z : Node) → o ≡ Some z → P (cleared z)) → reset_node n o ≡ Some x → P x
reset_case P n None x was h = absurd cc
reset_case P n (Some z) x was h = stays_case P x (cleared z) (lives n (cleared z)) (was z refl) h

pub each_reset : (P : Node → Type 0) (m t : NodeMap) → Each P m → ((z : Node) → P z → P (cleared z)) → ((n : ℕ) → table.get t n ≡ reset_node n (table.get m n)) → Each P t
each_reset P m t was keeps is q x e = reset_case P q (table.get m q) x (λ z h. keeps z (was q z h)) (sym (is q) ∙ e)

-- ---- cookies

lower : (low high next : ℕ) (es : List Entry) → low ≤ high → AreRising high es next → AreRising low es next
lower low high next [] le is = omega arith
lower low high next (e ∷ es) le is = (omega (arith, is.0), is.1)

pub rising_push : (low next : ℕ) (es : List Entry) (name : List ℕ) (n : ℕ) → AreRising low es next → AreRising low (es ++ entry next name n ∷ []) (next + 1)
rising_push low next [] name n is = (is, omega arith)
rising_push low next (e ∷ es) name n is = (is.0, rising_push (e.cookie + 1) next es name n is.1)

rising_by : (b : Bool) (low next : ℕ) (e : Entry) (es fs : List Entry) → AreRising low (e ∷ es) next → AreRising (e.cookie + 1) fs next → AreRising low (if b then es else e ∷ fs) next
rising_by true low next e es fs is rest = lower low (e.cookie + 1) next es (omega (arith, is.0)) is.1
rising_by false low next e es fs is rest = (is.0, rest)

pub rising_unnamed : (low next : ℕ) (name : List ℕ) (es : List Entry) → AreRising low es next → AreRising low (unnamed name es) next
rising_unnamed low next name [] is = is
rising_unnamed low next name (e ∷ es) is = rising_by (is_named name e) low next e es (unnamed name es) is (rising_unnamed (e.cookie + 1) next name es is.1)

-- ---- how many nodes

put_len : (m : NodeMap) (n : ℕ) (f : Node → Node) (o : Option Node) → table.get m n ≡ o → table.len (put_if m n (option_map f o)) ≡ table.len m
put_len m n f None e = refl
put_len m n f (Some x) e = table.len-insert nat_cmp_total m n (f x) ∙ ap (λ o. cond (is_some o) (table.len m) (table.len m + 1)) e

pub len_changed : (m : NodeMap) (n : ℕ) (f : Node → Node) → table.len (changed m n f) ≡ table.len m
len_changed m n f = put_len m n f (table.get m n) refl

less_by : (b : Bool) (a n : ℕ) → a ≡ cond b (n - 1) n → a ≤ n
less_by true a n e = omega arith
less_by false a n e = omega arith

len_removed : (m : NodeMap) (n : ℕ) → table.len (table.remove m n) ≤ table.len m
len_removed m n = less_by (table.contains_key m n) _ _ (table.len-remove nat_cmp_total m n)

settle_len : (m : NodeMap) (n : ℕ) (b : Bool) → table.len (if b then m else table.remove m n) ≤ table.len m
settle_len m n true = omega arith
settle_len m n false = len_removed m n

settle_if_len : (m : NodeMap) (n : ℕ) (o : Option Node) → table.len (settle_if m n o) ≤ table.len m
settle_if_len m n None = omega arith
settle_if_len m n (Some x) = settle_len m n (lives n x)

pub len_settled : (m : NodeMap) (n : ℕ) → table.len (settled m n) ≤ table.len m
len_settled m n = settle_if_len m n (table.get m n)

more_by : (b : Bool) (a n : ℕ) → a ≡ cond b n (n + 1) → a ≤ n + 1
more_by true a n e = omega arith
more_by false a n e = omega arith

pub len_inserted : (m : NodeMap) (n : ℕ) (x : Node) → table.len (table.insert m n x) ≤ table.len m + 1
len_inserted m n x = more_by (table.contains_key m n) _ _ (table.len-insert nat_cmp_total m n x)

pub len_made : (m : NodeMap) (parent n : ℕ) (name : List ℕ) (x : Node) → table.len (made_in m parent name n x) ≤ table.len m + 1
len_made m parent n name x =
    let more = len_inserted (changed m parent (with_name name n)) n x in
    let same = len_changed m parent (with_name name n) in
    omega arith

-- a map that has nothing is empty, and what has an entry has its key
record Holds (m : NodeMap) : Type 0 where
  pub number : ℕ
  pub node : Node
  pub there : table.get m number ≡ Some node

first_by : (es : List (ℕ × Node)) (k : ℕ) → length es ≡ suc k → (m : NodeMap) → table.entries m ≡ es → Holds m
first_by [] k e m is = absurd (omega arith)
first_by (x ∷ xs) k e m is = record {
  number = x.0;
  node = x.1;
  there = table.get-entries m x.0 ∙ ap (table.find nat_cmp x.0) is ∙ ap (λ b. cond b (Some x.1) (table.find nat_cmp x.0 xs)) (turned x.0 x.0 ∙ own_number x.0);
}

first : (m : NodeMap) (k : ℕ) → table.len m ≡ suc k → Holds m
first m k e = first_by (table.entries m) k (sym (table.len-entries m) ∙ e) m refl

some_len : (m : NodeMap) (n : ℕ) (x : Node) → table.get m n ≡ Some x → table.len m ≡ table.len (table.remove m n) + 1
some_len m n x e = by (table.len m) refl (table.len-remove nat_cmp_total m n ∙ ap (λ o. cond (is_some o) (table.len m - 1) (table.len m)) e) where
  none : table.len m ≡ 0 → ⊥
  none zero_is = absurd (let empty : table.get m n ≡ None = ap (λ t. table.get t n) (table.empty_of_len m zero_is) ∙ table.get-empty nat_cmp n in cc)

  by : (k : ℕ) → table.len m ≡ k → table.len (table.remove m n) ≡ table.len m - 1 → table.len m ≡ table.len (table.remove m n) + 1
  by zero is rest = absurd (none is)
  by (suc k) is rest = omega arith

-- what is left without a node
left_by : (m : NodeMap) (n q : ℕ) (x : Node) (b : Bool) → nat_eq n q ≡ b → cond b None (table.get m q) ≡ Some x → (q ≢ n) × (table.get m q ≡ Some x)
left_by m n q x true e h = absurd cc
left_by m n q x false e h = ((λ same. absurd (let own : nat_eq n q ≡ true = grind (arith, nat_tests) in cc)), h)

left : (m : NodeMap) (n q : ℕ) (x : Node) → table.get (table.remove m n) q ≡ Some x → (q ≢ n) × (table.get m q ≡ Some x)
left m n q x e = left_by m n q x (nat_eq n q) refl (ap (λ b. cond b None (table.get m q)) (sym (turned q n)) ∙ sym (table.get-remove nat_cmp_total m n q) ∙ e)

there_still : (m : NodeMap) (n q : ℕ) → q ≢ n → table.get (table.remove m n) q ≡ table.get m q
there_still m n q ne = table.get-remove nat_cmp_total m n q ∙ ap (λ b. cond b None (table.get m q)) (turned q n ∙ other_number n q (λ same. ne (sym same)))

-- numbers from 1 to a last one are at most so many
pub len_numbers : (last : ℕ) (m : NodeMap) → ((n : ℕ) (x : Node) → table.get m n ≡ Some x → (1 ≤ n) × (n ≤ last)) → table.len m ≤ last
len_numbers zero m within = by (table.len m) refl where
  by : (k : ℕ) → table.len m ≡ k → table.len m ≤ 0
  by zero is = omega arith
  by (suc k) is = absurd (let h = first m k is in let w = within h.number h.node h.there in omega (arith, w.0, w.1))
len_numbers (suc last) m within =
    let rest = len_numbers last (table.remove m (suc last)) (λ n x e. let l = left m (suc last) n x e in let w = within n x l.1 in (w.0, omega (arith, w.1, l.0))) in
    less (table.get m (suc last)) refl rest where
      less : (o : Option Node) → table.get m (suc last) ≡ o → table.len (table.remove m (suc last)) ≤ last → table.len m ≤ suc last
      less (Some x) e rest = let one = some_len m (suc last) x e in omega arith
      less None e rest = let same = table.len-remove nat_cmp_total m (suc last) ∙ ap (λ o. cond (is_some o) (table.len m - 1) (table.len m)) e in omega arith

record Had (o : Option Node) : Type 0 where
  pub node : Node
  pub there : o ≡ Some node

-- a map all of whose numbers another has, has no more
fewer_by : (k : ℕ) (m t : NodeMap) → table.len t ≡ k → ((n : ℕ) (x : Node) → table.get t n ≡ Some x → Had (table.get m n)) → table.len t ≤ table.len m
fewer_by zero m t len within = omega arith
fewer_by (suc k) m t len within =
    let h = first t k len in
    let n = h.number in
    let had = within h.number h.node h.there in
    let one = some_len m n had.node had.there in
    let other = some_len t n h.node h.there in
    let shorter : table.len (table.remove t n) ≡ k = omega arith in
    let rest = fewer_by k (table.remove m n) (table.remove t n) shorter (λ q x e. let l = left t n q x e in let w = within q x l.1 in record { node = w.node; there = there_still m n q l.0 ∙ w.there }) in
    omega arith

had_by : (n : ℕ) (o : Option Node) (x : Node) → reset_node n o ≡ Some x → Had o
had_by n None x h = absurd cc
had_by n (Some z) x h = record { node = z; there = refl }

pub len_reset : (m t : NodeMap) → ((n : ℕ) → table.get t n ≡ reset_node n (table.get m n)) → table.len t ≤ table.len m
len_reset m t is = fewer_by (table.len t) m t refl (λ n x e. had_by n (table.get m n) x (sym (is n) ∙ e))
