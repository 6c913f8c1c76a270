-- What each change does to the tree of names.
use Rattle.std.proofs.Common.{if◌then◌else◌, ◌≡◌, ◌≢◌, ◌≤◌, ◌+◌, ℕ, Bool, true, false, cond, List, [], ◌∷◌, Option, Some, None, refl, sym, ap, ◌∙◌, subst, arith}
use Rattle.std.specs.Prelude.{nat_eq}
use Rattle.std.specs.Option.{option_map}
use Rattle.std.specs.Cmp.{nat_cmp_total}
use Rattle.std.specs.Cmp.Lexicographic.{pointwise}
use Rattle.std.specs.FinMap as table
use Rattle.std.proofs.lemmas.Bool.Decides.{nat_tests}
use Rattle.authfs_dirs.specs.Names.{Entry, entry, Node, NodeMap, AreAlone, lives, is_dir, put_if, changed, settle_if, settled, named, with_name, without_name, orphan}
use Rattle.authfs_dirs.specs.Tree.{IsRoot, IsChild, NamesIt, AreTree}
use Rattle.authfs_dirs.proofs.SeenLemmas.{turned, same_number}
use Rattle.authfs_dirs.proofs.NameLemmas.{same_name, same_self, named-push, named-unnamed, alone-push, alone-unnamed}

abbrev pub At : Type 0
At = ℕ → Option Node

-- ---- what the map has after a change

same_at : (m : NodeMap) (n q : ℕ) (o : Option Node) (b : Bool) → nat_eq n q ≡ b → table.get m n ≡ o → table.get m q ≡ cond b o (table.get m q)
same_at m n q o true e is = subst (λ k. table.get m k ≡ o) (same_number n q e) is
same_at m n q o false e is = refl

put_at : (m : NodeMap) (n q : ℕ) (f : Node → Node) (o : Option Node) → table.get m n ≡ o → table.get (put_if m n (option_map f o)) q ≡ cond (nat_eq n q) (option_map f o) (table.get m q)
put_at m n q f None e = same_at m n q None (nat_eq n q) refl e
put_at m n q f (Some x) e = table.get-insert nat_cmp_total m n (f x) q ∙ ap (λ b. cond b (Some (f x)) (table.get m q)) (turned q n)

pub get_changed : (m : NodeMap) (n q : ℕ) (f : Node → Node) → table.get (changed m n f) q ≡ cond (nat_eq n q) (option_map f (table.get m n)) (table.get m q)
get_changed m n q f = put_at m n q f (table.get m n) refl

abbrev pub kept : ℕ → Option Node → Option Node
kept n None = None
kept n (Some x) = if lives n x then Some x else None

settle_by : (m : NodeMap) (n q : ℕ) (x : Node) (b : Bool) → table.get m n ≡ Some x → table.get (if b then m else table.remove m n) q ≡ cond (nat_eq n q) (if b then Some x else None) (table.get m q)
settle_by m n q x true e = same_at m n q (Some x) (nat_eq n q) refl e
settle_by m n q x false e = table.get-remove nat_cmp_total m n q ∙ ap (λ b. cond b None (table.get m q)) (turned q n)

settle_at : (m : NodeMap) (n q : ℕ) (o : Option Node) → table.get m n ≡ o → table.get (settle_if m n o) q ≡ cond (nat_eq n q) (kept n o) (table.get m q)
settle_at m n q None e = same_at m n q None (nat_eq n q) refl e
settle_at m n q (Some x) e = settle_by m n q x (lives n x) e

pub get_settled : (m : NodeMap) (n q : ℕ) → table.get (settled m n) q ≡ cond (nat_eq n q) (kept n (table.get m n)) (table.get m q)
get_settled m n q = settle_at m n q (table.get m n) refl

pub own_number : (n : ℕ) → nat_eq n n ≡ true
own_number n = grind (arith, nat_tests)

pub other_number : (n q : ℕ) → n ≢ q → nat_eq n q ≡ false
other_number n q ne = grind (arith, nat_tests)

-- ---- nodes that keep their place, and nodes without a name that go

abbrev pub Keeps : Node → Node → Type 0
Keeps x y = (y.kind ≡ x.kind) × (y.parent ≡ x.parent) × (y.entries ≡ x.entries)

abbrev pub Thins : ℕ → Option Node → Option Node → Type 0
Thins q None None = Unit {0}
Thins q None (Some y) = ⊥
Thins q (Some x) None = (x.parent ≡ None) × (q ≢ 1)
Thins q (Some x) (Some y) = Keeps x y

record Came (o : Option Node) (y : Node) : Type 0 where
  pub node : Node
  pub was : o ≡ Some node
  pub kind : y.kind ≡ node.kind
  pub parent : y.parent ≡ node.parent
  pub entries : y.entries ≡ node.entries

came : (q : ℕ) (o p : Option Node) (y : Node) → Thins q o p → p ≡ Some y → Came o y
came q None None y t e = absurd cc
came q None (Some z) y t e = absurd t
came q (Some x) None y t e = absurd cc
came q (Some x) (Some z) y t e =
    let same : z ≡ y = cc in
    let k : Keeps x y = subst (λ (w : Node). Keeps x w) same t in
    record { node = x; was = refl; kind = k.0; parent = k.1; entries = k.2 }

record Stays (o : Option Node) (x : Node) : Type 0 where
  pub node : Node
  pub is : o ≡ Some node
  pub kind : node.kind ≡ x.kind
  pub parent : node.parent ≡ x.parent
  pub entries : node.entries ≡ x.entries

stays : (q : ℕ) (o p : Option Node) (x : Node) → Thins q o p → o ≡ Some x → (x.parent ≡ None → q ≢ 1 → ⊥) → Stays p x
stays q None p x t e why = absurd cc
stays q (Some z) None x t e why =
    let same : z ≡ x = cc in
    absurd (why (subst (λ (w : Node). w.parent ≡ None) same t.0) t.1)
stays q (Some z) (Some y) x t e why =
    let same : z ≡ x = cc in
    let k : Keeps x y = subst (λ (w : Node). Keeps w y) same t in
    record { node = y; is = refl; kind = k.0; parent = k.1; entries = k.2 }

pub none_named : (name : List ℕ) (es : List Entry) (e : Entry) → es ≡ [] → named name es ≡ Some e → ⊥
none_named name [] e empty found = absurd cc
none_named name (x ∷ es) e empty found = absurd cc

pub some_none : {A : Type 0} (o : Option A) (a : A) → o ≡ Some a → o ≡ None → ⊥
some_none None a some none = absurd cc
some_none (Some b) a some none = absurd cc

pub thin : (at next : At) (last : ℕ) → AreTree at last → ((q : ℕ) → Thins q (at q) (next q)) → AreTree next last
thin at next last is t = record {
  root =
      let s = stays 1 (at 1) (next 1) is.root.node (t 1) is.root.there (λ none ne. ne refl) in
      record { node = s.node; there = s.is; dir = rw s.kind is.root.dir; top = s.parent ∙ is.root.top };
  numbers = λ n x e. let c = came n (at n) (next n) x (t n) e in is.numbers n c.node c.was;
  children = λ n x name e there found.
      let c = came n (at n) (next n) x (t n) there in
      let k = is.children n c.node name e c.was (rw c.entries at found) in
      let s = stays e.node (at e.node) (next e.node) k.node (t e.node) k.there (λ none ne. some_none k.node.parent n k.within none) in
      record { node = s.node; there = s.is; within = s.parent ∙ k.within };
  alone = λ n x there. let c = came n (at n) (next n) x (t n) there in rw c.entries (is.alone n c.node c.was);
  once = λ n x a b e f there first second same.
      let c = came n (at n) (next n) x (t n) there in
      is.once n c.node a b e f c.was (rw c.entries at first) (rw c.entries at second) same;
  parents = λ n x p there within.
      let c = came n (at n) (next n) x (t n) there in
      let u = is.parents n c.node p c.was (sym c.parent ∙ within) in
      let s = stays p (at p) (next p) u.dir (t p) u.there (λ none ne. none_named u.name u.dir.entries u.entry (is.nameless p u.dir u.there none ne) u.found) in
      record { dir = s.node; there = s.is; is_directory = rw s.kind u.is_directory; name = u.name; entry = u.entry; found = rw s.entries u.found; node_is = u.node_is; below = u.below };
  files = λ n x there no. let c = came n (at n) (next n) x (t n) there in c.entries ∙ is.files n c.node c.was (ap is_dir (sym c.kind) ∙ no);
  nameless = λ n x there none ne. let c = came n (at n) (next n) x (t n) there in c.entries ∙ is.nameless n c.node c.was (sym c.parent ∙ none) ne;
}

pub thins_same : (q : ℕ) (o : Option Node) → Thins q o o
thins_same q None = tt
thins_same q (Some x) = (refl, refl, refl)

-- ---- one of three nodes

pub which : {P : Type 0} (q a b : ℕ) → (q ≡ a → P) → (q ≢ a → q ≡ b → P) → (q ≢ a → q ≢ b → P) → P
which {P = P} q a b first second other = by (nat_eq q a) (nat_eq q b) refl refl where
  apart : (k : ℕ) → nat_eq q k ≡ false → q ≢ k
  apart k e same = absurd (let own : nat_eq q k ≡ true = grind (arith, nat_tests) in cc)

  by : (c d : Bool) → nat_eq q a ≡ c → nat_eq q b ≡ d → P
  by true d e f = first (same_number q a e)
  by false true e f = second (apart a e) (same_number q b f)
  by false false e f = other (apart a e) (apart b f)

pub the_same : (o : Option Node) (x y : Node) → o ≡ Some x → o ≡ Some y → x ≡ y
the_same o x y e f = let g : Some x ≡ Some y = sym e ∙ f in cc

pub by_name : {P : Type 0} (b : Bool) (x e : Entry) (o : Option Entry) → cond b (Some x) o ≡ Some e → (b ≡ true → x ≡ e → P) → (b ≡ false → o ≡ Some e → P) → P
by_name true x e o found first other = first refl cc
by_name false x e o found first other = other refl found

-- ---- a node added

module _ (at next : At) (last parent : ℕ) (name : List ℕ) (d fresh : Node) (is : AreTree at last) (there : at parent ≡ Some d) (dir : is_dir d.kind ≡ true) (none : named name d.entries ≡ None)
    (placed : d.parent ≡ None → parent ≢ 1 → ⊥) (bare : fresh.entries ≡ []) (within : fresh.parent ≡ Some parent)
    (at_new : next (last + 1) ≡ Some fresh) (at_parent : next parent ≡ Some (with_name name (last + 1) d)) (at_others : (q : ℕ) → q ≢ last + 1 → q ≢ parent → next q ≡ at q) where
  abbrev grown_entry : Entry
  grown_entry = entry d.cookie name (last + 1)

  -- what a node that is there was
  case : {P : Type 0} (q : ℕ) (y : Node) → next q ≡ Some y → (q ≡ last + 1 → fresh ≡ y → P) → (q ≡ parent → with_name name (last + 1) d ≡ y → P) → (at q ≡ Some y → P) → P
  case q y e new old other = which q (last + 1) parent
      (λ same. new same (the_same (next (last + 1)) fresh y at_new (subst (λ k. next k ≡ Some y) same e)))
      (λ ne same. old same (the_same (next parent) (with_name name (last + 1) d) y at_parent (subst (λ k. next k ≡ Some y) same e)))
      (λ ne ne'. other (sym (at_others q ne ne') ∙ e))

  old_number : (q : ℕ) (y : Node) → at q ≡ Some y → q ≢ last + 1
  old_number q y e same = absurd (let k = is.numbers q y e in omega (arith, k.1))

  grown_child : (c n : ℕ) → IsChild at c n → IsChild next c n
  grown_child c n k = which c (last + 1) parent
      (λ same. absurd (old_number c k.node k.there same))
      (λ ne same.
      let x : d ≡ k.node = the_same (at parent) d k.node there (subst (λ q. at q ≡ Some k.node) same k.there) in
      record { node = with_name name (last + 1) d; there = subst (λ q. next q ≡ Some (with_name name (last + 1) d)) (sym same) at_parent; within = ap (λ (y : Node). y.parent) x ∙ k.within })
      (λ ne ne'. record { node = k.node; there = at_others c ne ne' ∙ k.there; within = k.within })

  pushed : (a : List ℕ) → named a (with_name name (last + 1) d).entries ≡ cond (pointwise nat_eq name a) (Some grown_entry) (named a d.entries)
  pushed a = named-push a d.entries grown_entry none

  still_named : (a : List ℕ) (e : Entry) → named a d.entries ≡ Some e → named a (with_name name (last + 1) d).entries ≡ Some e
  still_named a e found = pushed a ∙ by (pointwise nat_eq name a) refl where
    by : (b : Bool) → pointwise nat_eq name a ≡ b → cond b (Some grown_entry) (named a d.entries) ≡ Some e
    by true same = absurd (some_none (named a d.entries) e found (subst (λ k. named k d.entries ≡ None) (same_name name a same) none))
    by false same = found

  grown_names : (p c : ℕ) → NamesIt at p c → NamesIt next p c
  grown_names p c u = which p (last + 1) parent
      (λ same. absurd (old_number p u.dir u.there same))
      (λ ne same.
      let x : d ≡ u.dir = the_same (at parent) d u.dir there (subst (λ q. at q ≡ Some u.dir) same u.there) in
      record { dir = with_name name (last + 1) d; there = subst (λ q. next q ≡ Some (with_name name (last + 1) d)) (sym same) at_parent; is_directory = dir; name = u.name; entry = u.entry; found = still_named u.name u.entry (subst (λ (y : Node). named u.name y.entries ≡ Some u.entry) (sym x) u.found); node_is = u.node_is; below = u.below })
      (λ ne ne'. record { dir = u.dir; there = at_others p ne ne' ∙ u.there; is_directory = u.is_directory; name = u.name; entry = u.entry; found = u.found; node_is = u.node_is; below = u.below })

  own_found : named name (with_name name (last + 1) d).entries ≡ Some grown_entry
  own_found = pushed name ∙ ap (λ b. cond b (Some grown_entry) (named name d.entries)) (same_self name)

  parent_small : parent ≤ last
  parent_small = let k = is.numbers parent d there in k.1

  child_small : (a : List ℕ) (e : Entry) → named a d.entries ≡ Some e → e.node ≢ last + 1
  child_small a e found = let k = is.children parent d a e there found in old_number e.node k.node k.there

  grown_children : (n : ℕ) (x : Node) (a : List ℕ) (e : Entry) → next n ≡ Some x → named a x.entries ≡ Some e → IsChild next e.node n
  grown_children n x a e e' found = case n x e'
      (λ same y. absurd (none_named a x.entries e (ap (λ (z : Node). z.entries) (sym y) ∙ bare) found))
      (λ same y. by_name (pointwise nat_eq name a) grown_entry e (named a d.entries) (sym (pushed a) ∙ subst (λ (z : Node). named a z.entries ≡ Some e) (sym y) found)
      (λ b g. record { node = fresh; there = subst (λ (z : Entry). next z.node ≡ Some fresh) g at_new; within = within ∙ ap Some (sym same) })
      (λ b old. subst (λ k. IsChild next e.node k) (sym same) (grown_child e.node parent (is.children parent d a e there old))))
      (λ was. grown_child e.node n (is.children n x a e was found))

  grown_once : (n : ℕ) (x : Node) (a b : List ℕ) (e f : Entry) → next n ≡ Some x → named a x.entries ≡ Some e → named b x.entries ≡ Some f → e.node ≡ f.node → a ≡ b
  grown_once n x a b e f e' first second same = case n x e'
      (λ here y. absurd (none_named a x.entries e (ap (λ (z : Node). z.entries) (sym y) ∙ bare) first))
      (λ here y. by_name (pointwise nat_eq name a) grown_entry e (named a d.entries) (sym (pushed a) ∙ subst (λ (z : Node). named a z.entries ≡ Some e) (sym y) first)
      (λ p g. by_name (pointwise nat_eq name b) grown_entry f (named b d.entries) (sym (pushed b) ∙ subst (λ (z : Node). named b z.entries ≡ Some f) (sym y) second)
      (λ q h. sym (same_name name a p) ∙ same_name name b q)
      (λ q old. absurd (child_small b f old (sym same ∙ ap (λ (z : Entry). z.node) (sym g)))))
      (λ p old. by_name (pointwise nat_eq name b) grown_entry f (named b d.entries) (sym (pushed b) ∙ subst (λ (z : Node). named b z.entries ≡ Some f) (sym y) second)
      (λ q h. absurd (child_small a e old (same ∙ ap (λ (z : Entry). z.node) (sym h))))
      (λ q old'. is.once parent d a b e f there old old' same)))
      (λ was. is.once n x a b e f was first second same)

  pub grown : AreTree next (last + 1)
  grown = record {
    root = which {P = IsRoot next} 1 (last + 1) parent
        (λ same. absurd (old_number 1 is.root.node is.root.there same))
        (λ ne same.
        let x : d ≡ is.root.node = the_same (at parent) d is.root.node there (subst (λ q. at q ≡ Some is.root.node) same is.root.there) in
        record { node = with_name name (last + 1) d; there = subst (λ q. next q ≡ Some (with_name name (last + 1) d)) (sym same) at_parent; dir = dir; top = ap (λ (y : Node). y.parent) x ∙ is.root.top })
        (λ ne ne'. record { node = is.root.node; there = at_others 1 ne ne' ∙ is.root.there; dir = is.root.dir; top = is.root.top });
    numbers = λ n x e. case n x e (λ same y. (omega arith, omega arith)) (λ same y. let k = is.numbers parent d there in (omega (arith, k.0), omega (arith, k.1))) (λ was. let k = is.numbers n x was in (k.0, omega (arith, k.1)));
    children = grown_children;
    alone = λ n x e. case n x e (λ same y. subst (λ (z : Node). AreAlone z.entries) y (rw bare tt)) (λ same y. subst (λ (z : Node). AreAlone z.entries) y (alone-push d.entries grown_entry (is.alone parent d there) none)) (λ was. is.alone n x was);
    once = grown_once;
    parents = λ n x p e has. case n x e
        (λ same y.
        let p_is : parent ≡ p = (let h : Some parent ≡ Some p = sym within ∙ ap (λ (z : Node). z.parent) y ∙ has in cc) in
        record { dir = with_name name (last + 1) d; there = subst (λ q. next q ≡ Some (with_name name (last + 1) d)) p_is at_parent; is_directory = dir; name = name; entry = grown_entry; found = own_found; node_is = sym same; below = let small = parent_small in omega arith })
        (λ same y. subst (λ k. NamesIt next p k) (sym same) (grown_names p parent (is.parents parent d p there (ap (λ (z : Node). z.parent) y ∙ has))))
        (λ was. grown_names p n (is.parents n x p was has));
    files = λ n x e no. case n x e (λ same y. ap (λ (z : Node). z.entries) (sym y) ∙ bare) (λ same y. absurd (let k : is_dir x.kind ≡ true = subst (λ (z : Node). is_dir z.kind ≡ true) y dir in cc)) (λ was. is.files n x was no);
    nameless = λ n x e top ne. case n x e
        (λ same y. absurd (some_none fresh.parent parent within (ap (λ (z : Node). z.parent) y ∙ top)))
        (λ same y. absurd (placed (ap (λ (z : Node). z.parent) y ∙ top) (λ one. ne (same ∙ one))))
        (λ was. is.nameless n x was top ne);
  }

-- ---- a name taken away, and its node without one

module _ (at next : At) (last parent n : ℕ) (name : List ℕ) (d y : Node) (e : Entry) (is : AreTree at last) (there : at parent ≡ Some d) (found : named name d.entries ≡ Some e) (node_is : e.node ≡ n)
    (its : at n ≡ Some y) (bare : y.entries ≡ [])
    (at_child : next n ≡ Some (orphan y)) (at_parent : next parent ≡ Some (without_name name d)) (at_others : (q : ℕ) → q ≢ n → q ≢ parent → next q ≡ at q) where
  child_is : IsChild at n parent
  child_is = subst (λ k. IsChild at k parent) node_is (is.children parent d name e there found)

  within_it : y.parent ≡ Some parent
  within_it = ap (λ (z : Node). z.parent) (the_same (at n) y child_is.node its child_is.there) ∙ child_is.within

  parent_is : NamesIt at parent n
  parent_is = is.parents n y parent its within_it

  cut_case : {P : Type 0} (q : ℕ) (x : Node) → next q ≡ Some x → (q ≡ n → orphan y ≡ x → P) → (q ≢ n → q ≡ parent → without_name name d ≡ x → P) → (q ≢ n → q ≢ parent → at q ≡ Some x → P) → P
  cut_case q x e' child old other = which q n parent
      (λ same. child same (the_same (next n) (orphan y) x at_child (subst (λ k. next k ≡ Some x) same e')))
      (λ ne same. old ne same (the_same (next parent) (without_name name d) x at_parent (subst (λ k. next k ≡ Some x) same e')))
      (λ ne ne'. other ne ne' (sym (at_others q ne ne') ∙ e'))

  cut_child : (c p : ℕ) → c ≢ n → IsChild at c p → IsChild next c p
  cut_child c p ne k = which c n parent
      (λ same. absurd (ne same))
      (λ ne' same.
      let x : d ≡ k.node = the_same (at parent) d k.node there (subst (λ q. at q ≡ Some k.node) same k.there) in
      record { node = without_name name d; there = subst (λ q. next q ≡ Some (without_name name d)) (sym same) at_parent; within = ap (λ (z : Node). z.parent) x ∙ k.within })
      (λ ne' ne''. record { node = k.node; there = at_others c ne' ne'' ∙ k.there; within = k.within })

  left : (a : List ℕ) → named a (without_name name d).entries ≡ cond (pointwise nat_eq name a) None (named a d.entries)
  left a = named-unnamed a name d.entries (is.alone parent d there)

  was_named : (a : List ℕ) (f : Entry) → named a (without_name name d).entries ≡ Some f → (pointwise nat_eq name a ≡ false) × (named a d.entries ≡ Some f)
  was_named a f here = by (pointwise nat_eq name a) refl (sym (left a) ∙ here) where
    by : (b : Bool) → pointwise nat_eq name a ≡ b → cond b None (named a d.entries) ≡ Some f → (pointwise nat_eq name a ≡ false) × (named a d.entries ≡ Some f)
    by true same h = absurd cc
    by false same h = (same, h)

  not_it : (a : List ℕ) (f : Entry) → pointwise nat_eq name a ≡ false → named a d.entries ≡ Some f → f.node ≢ n
  not_it a f other here same = absurd (
      let names : name ≡ a = is.once parent d name a e f there found here (node_is ∙ sym same) in
      let own : pointwise nat_eq name a ≡ true = subst (λ k. pointwise nat_eq name k ≡ true) names (same_self name) in
      cc)

  cut_names : (p c : ℕ) → c ≢ n → p ≢ n → NamesIt at p c → NamesIt next p c
  cut_names p c other ne u = which p n parent
      (λ same. absurd (ne same))
      (λ ne' same.
      let x : d ≡ u.dir = the_same (at parent) d u.dir there (subst (λ q. at q ≡ Some u.dir) same u.there) in
      let old : named u.name d.entries ≡ Some u.entry = subst (λ (z : Node). named u.name z.entries ≡ Some u.entry) (sym x) u.found in
      record { dir = without_name name d; there = subst (λ q. next q ≡ Some (without_name name d)) (sym same) at_parent; is_directory = ap (λ (z : Node). is_dir z.kind) x ∙ u.is_directory; name = u.name; entry = u.entry; found = still u.name u.entry old (λ node. other (sym u.node_is ∙ node)); node_is = u.node_is; below = u.below })
      (λ ne' ne''. record { dir = u.dir; there = at_others p ne' ne'' ∙ u.there; is_directory = u.is_directory; name = u.name; entry = u.entry; found = u.found; node_is = u.node_is; below = u.below }) where
        by : (a : List ℕ) (f : Entry) (b : Bool) → pointwise nat_eq name a ≡ b → named a d.entries ≡ Some f → f.node ≢ n → cond b None (named a d.entries) ≡ Some f
        by a f true same old ne' =
            let one : Some f ≡ Some e = sym old ∙ subst (λ k. named k d.entries ≡ Some e) (same_name name a same) found in
            let same_entry : f ≡ e = cc in
            absurd (ne' (ap (λ (z : Entry). z.node) same_entry ∙ node_is))
        by a f false same old ne' = old

        still : (a : List ℕ) (f : Entry) → named a d.entries ≡ Some f → f.node ≢ n → named a (without_name name d).entries ≡ Some f
        still a f old ne' = left a ∙ by a f (pointwise nat_eq name a) refl old ne'

  -- the node has no names, so no other node is in it
  not_in : (c : ℕ) → NamesIt at n c → ⊥
  not_in c u = none_named u.name u.dir.entries u.entry (ap (λ (z : Node). z.entries) (the_same (at n) u.dir y u.there its) ∙ bare) u.found

  apart_from : (c p : ℕ) → NamesIt at p c → p ≢ n
  apart_from c p u same = absurd (not_in c (subst (λ k. NamesIt at k c) same u))

  parent_apart : parent ≢ n
  parent_apart = apart_from n parent parent_is

  one_apart : 1 ≢ n
  one_apart same = absurd (some_none y.parent parent within_it (ap (λ (z : Node). z.parent) (the_same (at n) y is.root.node its (subst (λ k. at k ≡ Some is.root.node) same is.root.there)) ∙ is.root.top))

  other_child : (c p : ℕ) → p ≢ parent → IsChild at c p → c ≢ n
  other_child c p ne k same = absurd (ne (
      let x : y ≡ k.node = the_same (at n) y k.node its (subst (λ q. at q ≡ Some k.node) same k.there) in
      let h : Some p ≡ Some parent = sym k.within ∙ ap (λ (z : Node). z.parent) (sym x) ∙ within_it in cc))

  cut_children : (q : ℕ) (x : Node) (a : List ℕ) (f : Entry) → next q ≡ Some x → named a x.entries ≡ Some f → IsChild next f.node q
  cut_children q x a f e' here = cut_case q x e'
      (λ same z. absurd (none_named a x.entries f (ap (λ (w : Node). w.entries) (sym z) ∙ bare) here))
      (λ ne same z.
      let was = was_named a f (subst (λ (w : Node). named a w.entries ≡ Some f) (sym z) here) in
      subst (λ k. IsChild next f.node k) (sym same) (cut_child f.node parent (not_it a f was.0 was.1) (is.children parent d a f there was.1)))
      (λ ne ne' was. let k = is.children q x a f was here in cut_child f.node q (other_child f.node q ne' k) k)

  cut_once : (q : ℕ) (x : Node) (a b : List ℕ) (f g : Entry) → next q ≡ Some x → named a x.entries ≡ Some f → named b x.entries ≡ Some g → f.node ≡ g.node → a ≡ b
  cut_once q x a b f g e' first second same = cut_case q x e'
      (λ here z. absurd (none_named a x.entries f (ap (λ (w : Node). w.entries) (sym z) ∙ bare) first))
      (λ ne here z.
      let one = was_named a f (subst (λ (w : Node). named a w.entries ≡ Some f) (sym z) first) in
      let two = was_named b g (subst (λ (w : Node). named b w.entries ≡ Some g) (sym z) second) in
      is.once parent d a b f g there one.1 two.1 same)
      (λ ne ne' was. is.once q x a b f g was first second same)

  pub cut : AreTree next last
  cut = record {
    root = which {P = IsRoot next} 1 n parent
        (λ same. absurd (one_apart same))
        (λ ne same.
        let x : d ≡ is.root.node = the_same (at parent) d is.root.node there (subst (λ q. at q ≡ Some is.root.node) same is.root.there) in
        record { node = without_name name d; there = subst (λ q. next q ≡ Some (without_name name d)) (sym same) at_parent; dir = ap (λ (z : Node). is_dir z.kind) x ∙ is.root.dir; top = ap (λ (z : Node). z.parent) x ∙ is.root.top })
        (λ ne ne'. record { node = is.root.node; there = at_others 1 ne ne' ∙ is.root.there; dir = is.root.dir; top = is.root.top });
    numbers = λ q x e'. cut_case q x e' (λ same z. subst (λ k. (1 ≤ k) × (k ≤ last)) (sym same) (is.numbers n y its)) (λ ne same z. subst (λ k. (1 ≤ k) × (k ≤ last)) (sym same) (is.numbers parent d there)) (λ ne ne' was. is.numbers q x was);
    children = cut_children;
    alone = λ q x e'. cut_case q x e' (λ same z. subst (λ (w : Node). AreAlone w.entries) z (is.alone n y its)) (λ ne same z. subst (λ (w : Node). AreAlone w.entries) z (alone-unnamed name d.entries (is.alone parent d there))) (λ ne ne' was. is.alone q x was);
    once = cut_once;
    parents = λ q x p e' has. cut_case q x e'
        (λ same z. absurd (some_none x.parent p has (ap (λ (w : Node). w.parent) (sym z))))
        (λ ne same z.
        let u = is.parents parent d p there (ap (λ (w : Node). w.parent) z ∙ has) in
        subst (λ k. NamesIt next p k) (sym same) (cut_names p parent parent_apart (apart_from parent p u) u))
        (λ ne ne' was. let u = is.parents q x p was has in cut_names p q ne (apart_from q p u) u);
    files = λ q x e' no. cut_case q x e'
        (λ same z. ap (λ (w : Node). w.entries) (sym z) ∙ bare)
        (λ ne same z. absurd (
        let yes : is_dir d.kind ≡ true = ap (λ (w : Node). is_dir w.kind) (the_same (at parent) d parent_is.dir there parent_is.there) ∙ parent_is.is_directory in
        let k : is_dir x.kind ≡ true = subst (λ (w : Node). is_dir w.kind ≡ true) z yes in cc))
        (λ ne ne' was. is.files q x was no);
    nameless = λ q x e' top ne. cut_case q x e'
        (λ same z. ap (λ (w : Node). w.entries) (sym z) ∙ bare)
        (λ ne' same z. absurd (none_named name d.entries e (is.nameless parent d there (ap (λ (w : Node). w.parent) z ∙ top) (λ one. ne (same ∙ one))) found))
        (λ ne' ne'' was. is.nameless q x was top ne);
  }
