-- Each call keeps the tree of names sound.
use Rattle.std.proofs.Common.{if◌then◌else◌, ◌≡◌, ◌≢◌, ◌≤◌, ◌+◌, ◌-◌, ℕ, Bool, true, false, not, cond, List, [], ◌∷◌, length, Option, Some, None, refl, sym, ap, ◌∙◌, subst, arith}
use Rattle.std.specs.Prelude.{nat_eq, nat_lt, is_some, IsTrue, Result, Ok, Err, IsOk, ◌==◌, ◌||◌}
use Rattle.std.specs.Option.{option_map}
use Rattle.std.specs.Ordering.{nat_cmp}
use Rattle.std.specs.Cmp.{nat_cmp_total}
use Rattle.std.specs.FinMap as table
use Rattle.std.proofs.lemmas.Bool.Decides.{nat_tests}
use Rattle.mg_base.specs.declared.errno.Errno.{Errno}
use Rattle.mg_base.specs.declared.errno.Errno.TheVariants as errno
use Rattle.authfs_dirs.specs.declared.kind.Kind.{Kind}
use Rattle.authfs_dirs.specs.declared.kind.Kind.TheVariants.{Dir}
use Rattle.authfs_dirs.specs.Names.{Entry, Node, NodeMap, Names, node_at, with_nodes, ◌>>=◌, needs, found, AreAlone, lives, is_dir, host_of, changed, settled, named, named_in, node_named, with_name, without_name, orphan, one_more, with_lookups, with_pins, new_node, made_in, cleared, reset_node, removed_of, removed_from, directory, fits, at_first, may_plant, planted, lookup_check, looked_up, with_room, may_add, added, may_remove, removed, forgotten, pinned, unpinned, IsReset}
use Rattle.authfs_dirs.specs.Tree.{IsChild, AreTree, AreRising, IsSoundTree, StaysSound, FindsChildren}
use Rattle.authfs_dirs.proofs.SeenLemmas.{turned, same_number}
use Rattle.authfs_dirs.proofs.MayLemmas.{passed, found_is, may_add_is, may_plant_is, directory_is, no_name}
use Rattle.authfs_dirs.proofs.TreeLemmas.{At, Thins, Keeps, kept, get_changed, get_settled, own_number, other_number, thins_same, thin, grown, cut, none_named, some_none, the_same}
use Rattle.authfs_dirs.proofs.EachLemmas.{Each, each_changed, each_settled, each_inserted, each_reset, rising_push, rising_unnamed, len_changed, len_settled, len_made, len_inserted, len_numbers, len_reset}

abbrev Live : At → Type 0
Live at = (n : ℕ) (x : Node) → at n ≡ Some x → lives n x ≡ true

abbrev of_map : NodeMap → At
of_map m n = table.get m n

-- ---- a node changed

thins_map : (q : ℕ) (f : Node → Node) (o : Option Node) → ((x : Node) → Keeps x (f x)) → Thins q o (option_map f o)
thins_map q f None keeps = tt
thins_map q f (Some x) keeps = keeps x

changed_by : (m : NodeMap) (n q : ℕ) (f : Node → Node) (b : Bool) → nat_eq n q ≡ b → ((x : Node) → Keeps x (f x)) → Thins q (table.get m q) (cond b (option_map f (table.get m n)) (table.get m q))
changed_by m n q f true e keeps = subst (λ k. Thins q (table.get m q) (option_map f (table.get m k))) (sym (same_number n q e)) (thins_map q f (table.get m q) keeps)
changed_by m n q f false e keeps = thins_same q (table.get m q)

thins_changed : (m : NodeMap) (n : ℕ) (f : Node → Node) → ((x : Node) → Keeps x (f x)) → (q : ℕ) → Thins q (table.get m q) (table.get (changed m n f) q)
thins_changed m n f keeps q = subst (λ o. Thins q (table.get m q) o) (sym (get_changed m n q f)) (changed_by m n q f (nat_eq n q) refl keeps)

live_map : (q : ℕ) (f : Node → Node) (o : Option Node) (x : Node) → ((z : Node) → o ≡ Some z → lives q z ≡ true) → ((z : Node) → lives q z ≡ true → lives q (f z) ≡ true) → option_map f o ≡ Some x → lives q x ≡ true
live_map q f None x was keeps e = absurd cc
live_map q f (Some z) x was keeps e = let same : f z ≡ x = cc in subst (λ (w : Node). lives q w ≡ true) same (keeps z (was z refl))

live_by : (m : NodeMap) (n q : ℕ) (f : Node → Node) (x : Node) (b : Bool) → nat_eq n q ≡ b → Live (of_map m) → ((k : ℕ) (z : Node) → lives k z ≡ true → lives k (f z) ≡ true)
    → cond b (option_map f (table.get m n)) (table.get m q) ≡ Some x → lives q x ≡ true
live_by m n q f x true e was keeps h = subst (λ k. lives k x ≡ true) (same_number n q e) (live_map n f (table.get m n) x (was n) (keeps n) h)
live_by m n q f x false e was keeps h = was q x h

live_changed : (m : NodeMap) (n : ℕ) (f : Node → Node) → Live (of_map m) → ((k : ℕ) (z : Node) → lives k z ≡ true → lives k (f z) ≡ true) → Live (of_map (changed m n f))
live_changed m n f was keeps q x e = live_by m n q f x (nat_eq n q) refl was keeps (sym (get_changed m n q f) ∙ e)

-- ---- a node that goes

none_of_four : (a b c d : Bool) → (a || b || c || d) ≡ false → (a ≡ false) × (b ≡ false)
none_of_four true b c d e = absurd cc
none_of_four false true c d e = absurd cc
none_of_four false false c d e = (refl, refl)

no_parent : (o : Option ℕ) → is_some o ≡ false → o ≡ None
no_parent None e = refl
no_parent (Some p) e = absurd cc

not_one : (q : ℕ) → (q == 1) ≡ false → q ≢ 1
not_one q e same = absurd (let own : (q == 1) ≡ true = grind (arith, nat_tests) in cc)

gone : (q : ℕ) (x : Node) → lives q x ≡ false → (x.parent ≡ None) × (q ≢ 1)
gone q x e =
    let both = none_of_four (q == 1) (is_some x.parent) (nat_lt 0 x.pins) (nat_lt 0 x.lookups) e in
    (no_parent x.parent both.1, not_one q both.0)

kept_by : (q : ℕ) (x : Node) (b : Bool) → lives q x ≡ b → Thins q (Some x) (if b then Some x else None)
kept_by q x true e = (refl, refl, refl)
kept_by q x false e = gone q x e

thins_kept : (q : ℕ) (o : Option Node) → Thins q o (kept q o)
thins_kept q None = tt
thins_kept q (Some x) = kept_by q x (lives q x) refl

settled_by : (m : NodeMap) (n q : ℕ) (b : Bool) → nat_eq n q ≡ b → Thins q (table.get m q) (cond b (kept n (table.get m n)) (table.get m q))
settled_by m n q true e = subst (λ k. Thins q (table.get m q) (kept k (table.get m k))) (sym (same_number n q e)) (thins_kept q (table.get m q))
settled_by m n q false e = thins_same q (table.get m q)

thins_settled : (m : NodeMap) (n q : ℕ) → Thins q (table.get m q) (table.get (settled m n) q)
thins_settled m n q = subst (λ o. Thins q (table.get m q) o) (sym (get_settled m n q)) (settled_by m n q (nat_eq n q) refl)

kept_lives : (q : ℕ) (x z : Node) (b : Bool) → lives q z ≡ b → (if b then Some z else None) ≡ Some x → lives q x ≡ true
kept_lives q x z true e h = let same : z ≡ x = cc in subst (λ (w : Node). lives q w ≡ true) same e
kept_lives q x z false e h = absurd cc

live_kept : (q : ℕ) (x : Node) (o : Option Node) → kept q o ≡ Some x → lives q x ≡ true
live_kept q x None e = absurd cc
live_kept q x (Some z) e = kept_lives q x z (lives q z) refl e

settle_live : (m : NodeMap) (n q : ℕ) (x : Node) (b : Bool) → nat_eq n q ≡ b → (b ≡ false → table.get m q ≡ Some x → lives q x ≡ true) → cond b (kept n (table.get m n)) (table.get m q) ≡ Some x → lives q x ≡ true
settle_live m n q x true e other h = subst (λ k. lives k x ≡ true) (same_number n q e) (live_kept n x (table.get m n) h)
settle_live m n q x false e other h = other refl h

-- where all others live
live_settled : (m : NodeMap) (n : ℕ) → ((q : ℕ) (x : Node) → nat_eq n q ≡ false → table.get m q ≡ Some x → lives q x ≡ true) → Live (of_map (settled m n))
live_settled m n others q x e = settle_live m n q x (nat_eq n q) refl (λ b h. others q x b h) (sym (get_settled m n q) ∙ e)

other_live : (m : NodeMap) (n : ℕ) (f : Node → Node) → Live (of_map m) → (q : ℕ) (x : Node) → nat_eq n q ≡ false → table.get (changed m n f) q ≡ Some x → lives q x ≡ true
other_live m n f was q x ne e = was q x (ap (λ b. cond b (option_map f (table.get m n)) (table.get m q)) (sym ne) ∙ sym (get_changed m n q f) ∙ e)

-- ---- counts

more : (k : ℕ) → nat_lt 0 (one_more k) ≡ true
more k = grind (arith, nat_tests)

last_of_four : (a b c d : Bool) → d ≡ true → (a || b || c || d) ≡ true
last_of_four true b c d e = refl
last_of_four false true c d e = refl
last_of_four false false true d e = refl
last_of_four false false false d e = e

third_of_four : (a b c d : Bool) → c ≡ true → (a || b || c || d) ≡ true
third_of_four true b c d e = refl
third_of_four false true c d e = refl
third_of_four false false true d e = refl
third_of_four false false false d e = absurd cc

second_of_four : (a b c d : Bool) → b ≡ true → (a || b || c || d) ≡ true
second_of_four true b c d e = refl
second_of_four false true c d e = refl
second_of_four false false c d e = absurd cc

lives_placed : (q p : ℕ) (x : Node) → x.parent ≡ Some p → lives q x ≡ true
lives_placed q p x e = second_of_four (q == 1) (is_some x.parent) (nat_lt 0 x.pins) (nat_lt 0 x.lookups) (ap is_some e)

-- ---- the calls

abbrev Rising : Node → Type 0
Rising x = AreRising 3 x.entries x.cookie

same_map : (s : Names) (m : NodeMap) → AreTree (of_map m) s.last → Live (of_map m) → Each Rising m → table.len m ≤ 65536 → IsSoundTree (with_nodes s m)
same_map s m tree live cookies few = record { tree = tree; live = live; cookies = cookies; few = few }

few_changed : (m : NodeMap) (n : ℕ) (f : Node → Node) → table.len m ≤ 65536 → table.len (changed m n f) ≤ 65536
few_changed m n f few = let same = len_changed m n f in omega arith

few_settled : (m : NodeMap) (n : ℕ) → table.len m ≤ 65536 → table.len (settled m n) ≤ 65536
few_settled m n few = let less = len_settled m n in omega arith

sound_lookup : (s : Names) (n : ℕ) → IsSoundTree s → IsSoundTree (looked_up s n)
unfolding looked_up
sound_lookup s n is = same_map s _
    (thin (node_at s) _ s.last is.tree (thins_changed s.nodes n (λ x. with_lookups (one_more x.lookups) x) (λ x. (refl, refl, refl))))
    (live_changed s.nodes n (λ x. with_lookups (one_more x.lookups) x) is.live (λ k z h. last_of_four (k == 1) (is_some z.parent) (nat_lt 0 z.pins) (nat_lt 0 (one_more z.lookups)) (more z.lookups)))
    (each_changed Rising s.nodes n (λ x. with_lookups (one_more x.lookups) x) is.cookies (λ z h. h))
    (few_changed s.nodes n (λ x. with_lookups (one_more x.lookups) x) is.few)

sound_pin : (s : Names) (n : ℕ) → IsSoundTree s → IsSoundTree (pinned s n)
unfolding pinned
sound_pin s n is = same_map s _
    (thin (node_at s) _ s.last is.tree (thins_changed s.nodes n (λ x. with_pins (one_more x.pins) x) (λ x. (refl, refl, refl))))
    (live_changed s.nodes n (λ x. with_pins (one_more x.pins) x) is.live (λ k z h. third_of_four (k == 1) (is_some z.parent) (nat_lt 0 (one_more z.pins)) (nat_lt 0 z.lookups) (more z.pins)))
    (each_changed Rising s.nodes n (λ x. with_pins (one_more x.pins) x) is.cookies (λ z h. h))
    (few_changed s.nodes n (λ x. with_pins (one_more x.pins) x) is.few)

lowered : (s : Names) (n : ℕ) (f : Node → Node) → ((x : Node) → Keeps x (f x)) → ((x : Node) → Rising x → Rising (f x)) → IsSoundTree s → IsSoundTree (with_nodes s (settled (changed s.nodes n f) n))
lowered s n f keeps rising is =
    let between : AreTree (of_map (changed s.nodes n f)) s.last = thin (node_at s) _ s.last is.tree (thins_changed s.nodes n f keeps) in
    same_map s _ (thin (of_map (changed s.nodes n f)) _ s.last between (thins_settled (changed s.nodes n f) n)) (live_settled (changed s.nodes n f) n (other_live s.nodes n f is.live))
    (each_settled Rising (changed s.nodes n f) n (each_changed Rising s.nodes n f is.cookies rising))
    (few_settled (changed s.nodes n f) n (few_changed s.nodes n f is.few))

sound_forget : (s : Names) (n count : ℕ) → IsSoundTree s → IsSoundTree (forgotten s n count)
unfolding forgotten
sound_forget s n count is = lowered s n (λ x. with_lookups (x.lookups - count) x) (λ x. (refl, refl, refl)) (λ x h. h) is

sound_unpin : (s : Names) (n : ℕ) → IsSoundTree s → IsSoundTree (unpinned s n)
unfolding unpinned
sound_unpin s n is = lowered s n (λ x. with_pins (x.pins - 1) x) (λ x. (refl, refl, refl)) (λ x h. h) is

sound_room : (s : Names) (room : Option ℕ) → IsSoundTree s → IsSoundTree (with_room s room)
unfolding with_room
sound_room s room is = record { tree = is.tree; live = is.live; cookies = is.cookies; few = is.few }

reset_by : (q : ℕ) (x : Node) (b : Bool) → lives q (cleared x) ≡ b → Thins q (Some x) (if b then Some (cleared x) else None)
reset_by q x true e = (refl, refl, refl)
reset_by q x false e = gone q (cleared x) e

thins_reset : (q : ℕ) (o : Option Node) → Thins q o (reset_node q o)
thins_reset q None = tt
thins_reset q (Some x) = reset_by q x (lives q (cleared x)) refl

live_reset : (q : ℕ) (x : Node) (o : Option Node) → reset_node q o ≡ Some x → lives q x ≡ true
live_reset q x None e = absurd cc
live_reset q x (Some z) e = kept_lives q x (cleared z) (lives q (cleared z)) refl e

sound_reset : (s t : Names) → IsSoundTree s → IsReset s t → IsSoundTree t
sound_reset s t is so =
    let tree : AreTree (node_at t) s.last = thin (node_at s) (node_at t) s.last is.tree (λ q. subst (λ o. Thins q (node_at s q) o) (sym (so.nodes q)) (thins_reset q (node_at s q))) in
    record {
      tree = subst (λ k. AreTree (node_at t) k) (sym so.last) tree;
      live = λ n x e. live_reset n x (node_at s n) (sym (so.nodes n) ∙ e);
      cookies = each_reset Rising s.nodes t.nodes is.cookies (λ z h. h) so.nodes;
      few = let less = len_reset s.nodes t.nodes so.nodes in let few = is.few in omega arith;
    }

-- ---- a node added

get_made : (m : NodeMap) (parent n q : ℕ) (name : List ℕ) (x : Node) → table.get (made_in m parent name n x) q ≡ cond (nat_eq n q) (Some x) (cond (nat_eq parent q) (option_map (with_name name n) (table.get m parent)) (table.get m q))
get_made m parent n q name x = table.get-insert nat_cmp_total (changed m parent (with_name name n)) n x q ∙ ap (λ b. cond b (Some x) (table.get (changed m parent (with_name name n)) q)) (turned q n) ∙ ap (cond (nat_eq n q) (Some x)) (get_changed m parent q (with_name name n))

turn : {a b : ℕ} → a ≢ b → b ≢ a
turn ne same = ne (sym same)

made_live : (m : NodeMap) (parent n : ℕ) (name : List ℕ) (d fresh : Node) → Live (of_map m) → table.get m parent ≡ Some d → fresh.parent ≡ Some parent → Live (of_map (made_in m parent name n fresh))
made_live m parent n name d fresh was there within q x e = by (nat_eq n q) (nat_eq parent q) refl refl (sym (get_made m parent n q name fresh) ∙ e) where
  by : (b c : Bool) → nat_eq n q ≡ b → nat_eq parent q ≡ c → cond b (Some fresh) (cond c (option_map (with_name name n) (table.get m parent)) (table.get m q)) ≡ Some x → lives q x ≡ true
  by true c f g h = let same : fresh ≡ x = cc in subst (λ (w : Node). lives q w ≡ true) same (lives_placed q parent fresh within)
  by false true f g h =
      let is : Some (with_name name n d) ≡ Some x = sym (ap (option_map (with_name name n)) there) ∙ h in
      let same : with_name name n d ≡ x = cc in
      subst (λ (w : Node). lives q w ≡ true) same (was q d (subst (λ k. table.get m k ≡ Some d) (same_number parent q g) there))
  by false false f g h = was q x h

made_tree : (m : NodeMap) (last parent : ℕ) (name : List ℕ) (d fresh : Node) → AreTree (of_map m) last → table.get m parent ≡ Some d → is_dir d.kind ≡ true → named name d.entries ≡ None
    → (d.parent ≡ None → parent ≢ 1 → ⊥) → fresh.entries ≡ [] → fresh.parent ≡ Some parent → AreTree (of_map (made_in m parent name (last + 1) fresh)) (last + 1)
made_tree m last parent name d fresh is there dir none placed bare within =
    let n = last + 1 in
    let small = is.numbers parent d there in
    let apart : last + 1 ≢ parent = omega (arith, small.1) in
    grown (of_map m) (of_map (made_in m parent name (last + 1) fresh)) last parent name d fresh is there dir none placed bare within
    (get_made m parent n n name fresh ∙ rw (own_number (last + 1)) refl)
    (get_made m parent n parent name fresh ∙ rw (other_number (last + 1) parent apart, own_number parent, there) refl)
    (λ q ne ne'. get_made m parent n q name fresh ∙ rw (other_number (last + 1) q (turn ne), other_number parent q (turn ne')) refl)

made_rising : (m : NodeMap) (parent n : ℕ) (name : List ℕ) (fresh : Node) → Each Rising m → Rising fresh → Each Rising (made_in m parent name n fresh)
made_rising m parent n name fresh was new = each_inserted Rising (changed m parent (with_name name n)) n fresh
    (each_changed Rising m parent (with_name name n) was (λ z h. rising_push 3 z.cookie z.entries name n h)) new

fresh_rising : 3 ≤ 3
fresh_rising = omega arith

below : (a b : ℕ) → nat_lt a b ≡ true → a + 1 ≤ b
below a b e = grind (arith, nat_tests)

sound_plant : (s : Names) (name : List ℕ) (kind : Kind) → IsSoundTree s → IsTrue (may_plant s name) → IsSoundTree (planted s name kind)
unfolding planted
sound_plant s name kind is may =
    let root = is.tree.root in
    let new : is_some (named_in name (Some root.node)) ≡ false = rw root.there at (may_plant_is s name may).0 in
    record {
      tree = made_tree s.nodes s.last 1 name root.node (new_node (Some 1) kind 0) is.tree root.there root.dir (no_name name root.node.entries new) (λ none ne. ne refl) refl refl;
      live = made_live s.nodes 1 (s.last + 1) name root.node (new_node (Some 1) kind 0) is.live root.there refl;
      cookies = made_rising s.nodes 1 (s.last + 1) name (new_node (Some 1) kind 0) is.cookies fresh_rising;
      few =
          let more = len_made s.nodes 1 (s.last + 1) name (new_node (Some 1) kind 0) in
          let numbers = len_numbers s.last s.nodes is.tree.numbers in
          let last = below s.last 65536 (may_plant_is s name may).1 in
          omega arith;
    }

sound_add : (s : Names) (parent : ℕ) (name : List ℕ) (kind : Kind) → IsSoundTree s → IsOk (may_add s parent name) → IsSoundTree (added s parent name kind)
unfolding added
sound_add s parent name kind is ok =
    let may = may_add_is s parent name ok in
    record {
      tree = made_tree s.nodes s.last parent name may.dir (new_node (Some parent) kind 1) is.tree may.there may.kind (no_name name may.dir.entries may.new) (λ none ne. absurd (let h : is_some may.dir.parent ≡ false = ap is_some none in let p = may.placed in cc)) refl refl;
      live = made_live s.nodes parent (s.last + 1) name may.dir (new_node (Some parent) kind 1) is.live may.there refl;
      cookies = made_rising s.nodes parent (s.last + 1) name (new_node (Some parent) kind 1) is.cookies fresh_rising;
      few =
          let more = len_made s.nodes parent (s.last + 1) name (new_node (Some parent) kind 1) in
          let room = below (table.len s.nodes) 65536 may.few in
          omega arith;
    }

-- ---- a name taken away

record Entered (name : List ℕ) (es : List Entry) (n : ℕ) : Type 0 where
  pub entry : Entry
  pub found : named name es ≡ Some entry
  pub node_is : entry.node ≡ n

entered : (name : List ℕ) (es : List Entry) (n : ℕ) → node_named name es ≡ Some n → Entered name es n
entered name es n e = by (named name es) refl e where
  by : (o : Option Entry) → named name es ≡ o → option_map (λ (x : Entry). x.node) o ≡ Some n → Entered name es n
  by None here h = absurd cc
  by (Some x) here h = record { entry = x; found = here; node_is = cc }

empty_by : (es : List Entry) → (length es == 0) ≡ true → es ≡ []
empty_by [] e = refl
empty_by (x ∷ es) e = absurd (let same : length (x ∷ es) ≡ 0 = grind (arith, nat_tests) in omega arith)

no_entries : (dir : Bool) (x : Node) → IsOk (fits dir x) → (is_dir x.kind ≡ false → x.entries ≡ []) → x.entries ≡ []
unfolding fits
no_entries true x ok files =
    let p = passed (needs (is_dir x.kind) errno.Enotdir) _ ok in
    empty_by x.entries (is_ok_needs (length x.entries == 0) errno.Enotempty p.rest) where
      is_ok_needs : (b : Bool) (e : Errno) → IsOk (needs b e) → b ≡ true
      is_ok_needs true e ok = refl
      is_ok_needs false e ok = absurd cc
no_entries false x ok files = files (is_ok_not (is_dir x.kind) ok) where
  is_ok_not : (b : Bool) → IsOk (needs (not b) errno.Eisdir) → b ≡ false
  is_ok_not true ok = absurd cc
  is_ok_not false ok = refl

record MayRemove (m : NodeMap) (parent : ℕ) (name : List ℕ) (dir : Bool) : Type 0 where
  pub holder : Node
  pub there : table.get m parent ≡ Some holder
  pub node : ℕ
  pub found : node_named name holder.entries ≡ Some node
  pub child : Node
  pub its : table.get m node ≡ Some child
  pub fits_it : IsOk (fits dir child)

may_remove_is : (m : NodeMap) (parent : ℕ) (name : List ℕ) (dir : Bool) → IsOk (may_remove m parent name dir) → MayRemove m parent name dir
unfolding may_remove
may_remove_is m parent name dir ok =
    let d = passed (directory m parent) _ ok in
    let h = passed (found (host_of d.value.kind) errno.Eacces) _ d.rest in
    let n = passed (found (node_named name d.value.entries) errno.Enoent) _ h.rest in
    let x = passed (found (table.get m n.value) errno.Enoent) _ n.rest in
    let f = passed (fits dir x.value) _ x.rest in
    record {
      holder = d.value;
      there = directory_is m parent d.value d.is;
      node = n.value;
      found = found_is (node_named name d.value.entries) errno.Enoent n.value n.is;
      child = x.value;
      its = found_is (table.get m n.value) errno.Enoent x.value x.is;
      fits_it = rw f.is refl;
    }

removed_is : (m : NodeMap) (parent : ℕ) (name : List ℕ) (d : Node) (n : ℕ) → table.get m parent ≡ Some d → node_named name d.entries ≡ Some n → removed_from m parent name ≡ settled (changed (changed m parent (without_name name)) n orphan) n
removed_is m parent name d n there is = ap (λ o. removed_of m parent name (named_in name o)) there ∙ ap (removed_of m parent name) is

get_cut : (m : NodeMap) (parent n q : ℕ) (name : List ℕ) → table.get (changed (changed m parent (without_name name)) n orphan) q
    ≡ cond (nat_eq n q) (option_map orphan (cond (nat_eq parent n) (option_map (without_name name) (table.get m parent)) (table.get m n))) (cond (nat_eq parent q) (option_map (without_name name) (table.get m parent)) (table.get m q))
get_cut m parent n q name =
    get_changed (changed m parent (without_name name)) n q orphan
    ∙ ap (λ o. cond (nat_eq n q) (option_map orphan o) (table.get (changed m parent (without_name name)) q)) (get_changed m parent n (without_name name))
    ∙ ap (λ o. cond (nat_eq n q) (option_map orphan (cond (nat_eq parent n) (option_map (without_name name) (table.get m parent)) (table.get m n))) o) (get_changed m parent q (without_name name))

sound_remove : (s : Names) (parent : ℕ) (name : List ℕ) (dir : Bool) → IsSoundTree s → IsOk (may_remove s.nodes parent name dir) → IsSoundTree (removed s parent name)
unfolding removed
sound_remove s parent name dir is ok =
    let m = s.nodes in
    let may = may_remove_is s.nodes parent name dir ok in
    let e = entered name may.holder.entries may.node may.found in
    let n = may.node in
    let bare : may.child.entries ≡ [] = no_entries dir may.child may.fits_it (is.tree.files may.node may.child may.its) in
    let k : IsChild (node_at s) may.node parent = subst (λ c. IsChild (node_at s) c parent) e.node_is (is.tree.children parent may.holder name e.entry may.there e.found) in
    let within : may.child.parent ≡ Some parent = ap (λ (z : Node). z.parent) (the_same (node_at s may.node) may.child k.node may.its k.there) ∙ k.within in
    let u = is.tree.parents may.node may.child parent may.its within in
    let apart : parent ≢ may.node = omega (arith, u.below) in
    let after = changed (changed m parent (without_name name)) n orphan in
    let tree : AreTree (of_map after) s.last = cut (of_map m) (of_map after) s.last parent n name may.holder may.child e.entry is.tree may.there e.found e.node_is may.its bare
    (get_cut m parent n n name ∙ rw (own_number may.node, other_number parent may.node apart, may.its) refl)
    (get_cut m parent n parent name ∙ rw (other_number may.node parent (turn apart), own_number parent, may.there) refl)
    (λ q ne ne'. get_cut m parent n q name ∙ rw (other_number may.node q (turn ne), other_number parent q (turn ne')) refl) in
    let live : Live (of_map (changed m parent (without_name name))) = live_changed m parent (without_name name) is.live (λ k z h. h) in
    let sound : IsSoundTree (with_nodes s (settled after n)) = same_map s _ (thin (of_map after) _ s.last tree (thins_settled after n)) (live_settled after n (other_live (changed m parent (without_name name)) n orphan live))
    (each_settled Rising after n (each_changed Rising (changed m parent (without_name name)) n orphan (each_changed Rising m parent (without_name name) is.cookies (λ z h. rising_unnamed 3 z.cookie name z.entries h)) (λ z h. h)))
    (few_settled after n (few_changed (changed m parent (without_name name)) n orphan (few_changed m parent (without_name name) is.few))) in
    subst (λ t. IsSoundTree (with_nodes s t)) (sym (removed_is m parent name may.holder n may.there may.found)) sound

-- ---- the root alone

abbrev the_root : Node
the_root = new_node None (Dir None) 0

record First (q : ℕ) (x : Node) : Type 0 where
  pub number : q ≡ 1
  pub node : the_root ≡ x

get_first : (q : ℕ) → node_at at_first q ≡ cond (nat_eq 1 q) (Some the_root) None
unfolding at_first
get_first q = table.get-insert nat_cmp_total (table.empty {K = ℕ} {X = Node} {R = nat_cmp}) 1 the_root q ∙ ap (λ b. cond b (Some the_root) (table.get (table.empty {K = ℕ} {X = Node} {R = nat_cmp}) q)) (turned q 1) ∙ ap (cond (nat_eq 1 q) (Some the_root)) (table.get-empty nat_cmp q)

only_root : (q : ℕ) (x : Node) → node_at at_first q ≡ Some x → First q x
only_root q x e = by (nat_eq 1 q) refl (sym (get_first q) ∙ e) where
  by : (b : Bool) → nat_eq 1 q ≡ b → cond b (Some the_root) None ≡ Some x → First q x
  by true f h = record { number = sym (same_number 1 q f); node = cc }
  by false f h = absurd cc

first_number : (n : ℕ) → n ≡ 1 → (1 ≤ n) × (n ≤ at_first.last)
unfolding at_first
first_number n e = (omega arith, omega arith)

first_few : table.len at_first.nodes ≤ 65536
unfolding at_first
first_few = let one = len_inserted (table.empty {K = ℕ} {X = Node} {R = nat_cmp}) 1 the_root in let none = table.len-empty nat_cmp Node in omega arith

sound_first : IsSoundTree at_first
sound_first = record {
  tree = record {
    root = record { node = the_root; there = get_first 1; dir = refl; top = refl };
    numbers = λ n x e. let f = only_root n x e in first_number n f.number;
    children = λ n x name e at there. let f = only_root n x at in absurd (none_named name x.entries e (ap (λ (z : Node). z.entries) (sym f.node)) there);
    alone = λ n x e. let f = only_root n x e in subst (λ (z : Node). AreAlone z.entries) f.node tt;
    once = λ n x a b e f at first second same. let r = only_root n x at in absurd (none_named a x.entries e (ap (λ (z : Node). z.entries) (sym r.node)) first);
    parents = λ n x p e has. let f = only_root n x e in absurd (some_none x.parent p has (ap (λ (z : Node). z.parent) (sym f.node)));
    files = λ n x e no. let f = only_root n x e in ap (λ (z : Node). z.entries) (sym f.node);
    nameless = λ n x e top ne. let f = only_root n x e in ap (λ (z : Node). z.entries) (sym f.node);
  };
  live = λ n x e. let f = only_root n x e in subst (λ (z : Node). lives n z ≡ true) f.node (subst (λ k. lives k the_root ≡ true) (sym f.number) refl);
  cookies = λ n x e. let f = only_root n x e in subst Rising f.node fresh_rising;
  few = first_few;
}

pub stays_sound : StaysSound
stays_sound = record {
  first = sound_first;
  plant = sound_plant;
  lookup = sound_lookup;
  room = sound_room;
  add = sound_add;
  remove = sound_remove;
  forget = sound_forget;
  pin = sound_pin;
  unpin = sound_unpin;
  reset = sound_reset;
}

record PassedOk {A B : Type 0} (r : Result A Errno) (f : A → Result B Errno) (b : B) : Type 0 where
  pub value : A
  pub is : r ≡ Ok value
  pub rest : f value ≡ Ok b

passed_ok : {A B : Type 0} (r : Result A Errno) (f : A → Result B Errno) (b : B) → (r >>= f) ≡ Ok b → PassedOk r f b
passed_ok (Ok x) f b e = record { value = x; is = refl; rest = e }
passed_ok (Err x) f b e = absurd cc

pub finds_children : FindsChildren
unfolding lookup_check
finds_children s parent node name is e =
    let d = passed_ok (directory s.nodes parent) _ node e in
    let n = found_is (node_named name d.value.entries) errno.Enoent node d.rest in
    let entry = entered name d.value.entries node n in
    subst (λ k. IsChild (node_at s) k parent) entry.node_is (is.tree.children parent d.value name entry.entry (directory_is s.nodes parent d.value d.is) entry.found)
