-- The names and nodes after some files were planted.
use Rattle.std.proofs.Common.{◌≡◌, ◌<◌, ◌≤◌, ◌+◌, ℕ, zero, suc, Bool, true, false, cond, List, [], ◌∷◌, ◌++◌, length, Some, None, refl, sym, ap, ◌∙◌, subst, inl, inr, arith, append_assoc, append-nil}
use Rattle.std.specs.Prelude.{nat_eq, nat_lt, IsTrue, slice_get, ◌⊎◌}
use Rattle.std.specs.List.{AllByRecursion}
use Rattle.std.specs.Option.{option_map}
use Rattle.std.specs.Ordering.{nat_cmp}
use Rattle.std.specs.Cmp.{nat_cmp_total}
use Rattle.std.specs.FinMap as table
use Rattle.std.proofs.lemmas.List.{length-append}
use Rattle.std.proofs.lemmas.Bool.Decides.{nat_tests}
use Rattle.authfs_dirs.specs.declared.kind.Kind.{Kind}
use Rattle.authfs_dirs.specs.declared.kind.Kind.TheVariants.{Dir}
use Rattle.authfs_dirs.specs.Names.{Entry, entry, Node, Names, node_at, named, named_in, new_node, with_name, changed, at_first, may_plant, planted}
use Rattle.authfs_dirs.proofs.SeenLemmas.{turned, same_number}
use Rattle.authfs_dirs.proofs.TreeLemmas.{get_changed}
use Rattle.guest_names.specs.Standing.{NamedFile, kind_of, all_planted}
use Rattle.guest_names.specs.Planted.{Differs, AreDifferent}

-- the entries of files, from a cookie and a node on
abbrev pub entries_from : ℕ → ℕ → List NamedFile → List Entry
entries_from c n [] = []
entries_from c n (f ∷ files) = entry c f.name n ∷ entries_from (c + 1) (n + 1) files

abbrev pub root_of : List NamedFile → Node
root_of files = record { kind = Dir None; lookups = 0; pins = 0; parent = None; entries = entries_from 3 2 files; cookie = length files + 3 }

abbrev pub node_of : NamedFile → Node
node_of f = new_node (Some 1) (kind_of f) 0

-- a node of one of the files
pub record IsOf (files : List NamedFile) (n : ℕ) (x : Node) : Type 0 where
  pub place : ℕ
  pub file : NamedFile
  pub there : slice_get files place ≡ Some file
  pub number : n ≡ place + 2
  pub node : x ≡ node_of file

-- these files were planted, and nothing else
pub record ArePlanted (s : Names) (files : List NamedFile) : Type 0 where
  pub last : s.last ≡ length files + 1
  pub root : node_at s 1 ≡ Some (root_of files)
  pub nodes : (k : ℕ) (f : NamedFile) → slice_get files k ≡ Some f → node_at s (k + 2) ≡ Some (node_of f)
  pub only : (n : ℕ) (x : Node) → node_at s n ≡ Some x → (n ≡ 1) ⊎ IsOf files n x

-- ---- what the map has after a name was planted

get_planted : (s : Names) (name : List ℕ) (kind : Kind) (q : ℕ) → node_at (planted s name kind) q
    ≡ cond (nat_eq (s.last + 1) q) (Some (new_node (Some 1) kind 0)) (cond (nat_eq 1 q) (option_map (with_name name (s.last + 1)) (node_at s 1)) (node_at s q))
unfolding planted
get_planted s name kind q =
    table.get-insert nat_cmp_total (changed s.nodes 1 (with_name name (s.last + 1))) (s.last + 1) (new_node (Some 1) kind 0) q
    ∙ rw (turned q (s.last + 1), get_changed s.nodes 1 q (with_name name (s.last + 1))) refl

last_planted : (s : Names) (name : List ℕ) (kind : Kind) → (planted s name kind).last ≡ s.last + 1
unfolding planted
last_planted s name kind = refl

entries_push : (c n : ℕ) (files : List NamedFile) (f : NamedFile) → entries_from c n (files ++ f ∷ []) ≡ entries_from c n files ++ entry (length files + c) f.name (length files + n) ∷ []
entries_push c n [] f =
    let cookie : 0 + c ≡ c = omega arith in
    let node : 0 + n ≡ n = omega arith in
    rw (cookie, node) refl
entries_push c n (g ∷ files) f =
    let cookie : length files + (c + 1) ≡ suc (length files) + c = omega arith in
    let node : length files + (n + 1) ≡ suc (length files) + n = omega arith in
    ap (λ (es : List Entry). entry c g.name n ∷ es) (entries_push (c + 1) (n + 1) files f ∙ rw (cookie, node) refl)

root_push : (files : List NamedFile) (f : NamedFile) (n : ℕ) → n ≡ length files + 2 → with_name f.name n (root_of files) ≡ root_of (files ++ f ∷ [])
root_push files f n is =
    let more : length files + 3 + 1 ≡ length (files ++ f ∷ []) + 3 = omega (arith, length-append files (f ∷ [])) in
    rw (is, sym (entries_push 3 2 files f), more) refl

-- a place among files and one more
place_by : (files : List NamedFile) (f g : NamedFile) (k : ℕ) → slice_get (files ++ f ∷ []) k ≡ Some g → (slice_get files k ≡ Some g) ⊎ ((k ≡ length files) × (g ≡ f))
place_by [] f g zero e = inr (refl, cc)
place_by [] f g (suc k) e = absurd cc
place_by (x ∷ files) f g zero e = inl e
place_by (x ∷ files) f g (suc k) e = elim (place_by files f g k e) [
  | inl old ↦ inl old
  | inr new ↦ inr (ap suc new.0, new.1)
]

place_left : (files rest : List NamedFile) (g : NamedFile) (k : ℕ) → slice_get files k ≡ Some g → slice_get (files ++ rest) k ≡ Some g
place_left [] rest g k e = absurd cc
place_left (x ∷ files) rest g zero e = e
place_left (x ∷ files) rest g (suc k) e = place_left files rest g k e

place_within : (files : List NamedFile) (g : NamedFile) (k : ℕ) → slice_get files k ≡ Some g → k < length files
place_within [] g k e = absurd cc
place_within (x ∷ files) g zero e = omega arith
place_within (x ∷ files) g (suc k) e = let h = place_within files g k e in omega arith

pub place_at : (files rest : List NamedFile) (f : NamedFile) → slice_get (files ++ f ∷ rest) (length files) ≡ Some f
place_at [] rest f = refl
place_at (x ∷ files) rest f = place_at files rest f

module _ (s : Names) (files : List NamedFile) (f : NamedFile) (p : ArePlanted s files) where
  abbrev new : Names
  new = planted s f.name (kind_of f)

  at_number : (q : ℕ) (b c : Bool) → nat_eq (s.last + 1) q ≡ b → nat_eq 1 q ≡ c → node_at new q ≡ cond b (Some (node_of f)) (cond c (option_map (with_name f.name (s.last + 1)) (node_at s 1)) (node_at s q))
  at_number q b c e d = get_planted s f.name (kind_of f) q ∙ rw (e, d) refl

  new_root : node_at new 1 ≡ Some (root_of (files ++ f ∷ []))
  new_root =
      let off : nat_eq (s.last + 1) 1 ≡ false = grind (arith, nat_tests, p.last) in
      at_number 1 false true off refl ∙ ap (option_map (with_name f.name (s.last + 1))) p.root ∙ ap (λ (x : Node). Some x) (root_push files f (s.last + 1) (omega (arith, p.last)))

  new_nodes : (k : ℕ) (g : NamedFile) → (slice_get files k ≡ Some g) ⊎ ((k ≡ length files) × (g ≡ f)) → node_at new (k + 2) ≡ Some (node_of g)
  new_nodes k g (inl old) =
      let within = place_within files g k old in
      let off : nat_eq (s.last + 1) (k + 2) ≡ false = grind (arith, nat_tests, p.last, within) in
      let other : nat_eq 1 (k + 2) ≡ false = grind (arith, nat_tests) in
      at_number (k + 2) false false off other ∙ p.nodes k g old
  new_nodes k g (inr last) =
      let on : nat_eq (s.last + 1) (k + 2) ≡ true = grind (arith, nat_tests, p.last, last.0) in
      at_number (k + 2) true (nat_eq 1 (k + 2)) on refl ∙ ap (λ (h : NamedFile). Some (node_of h)) (sym last.1)

  older : (n : ℕ) (x : Node) → (n ≡ 1) ⊎ IsOf files n x → (n ≡ 1) ⊎ IsOf (files ++ f ∷ []) n x
  older n x (inl one) = inl one
  older n x (inr o) = inr (record { place = o.place; file = o.file; there = place_left files (f ∷ []) o.file o.place o.there; number = o.number; node = o.node })

  only_by : (n : ℕ) (x : Node) (b c : Bool) → nat_eq (s.last + 1) n ≡ b → nat_eq 1 n ≡ c → node_at new n ≡ Some x → (n ≡ 1) ⊎ IsOf (files ++ f ∷ []) n x
  only_by n x true c e d is =
      let same : node_of f ≡ x = let seen = at_number n true c e d in cc in
      let number : n ≡ length files + 2 = let own = same_number (s.last + 1) n e in omega (arith, p.last) in
      inr (record { place = length files; file = f; there = place_at files [] f; number = number; node = sym same })
  only_by n x false true e d is = inl (sym (same_number 1 n d))
  only_by n x false false e d is = older n x (p.only n x (sym (at_number n false false e d) ∙ is))

  pub planted_more : ArePlanted (planted s f.name (kind_of f)) (files ++ f ∷ [])
  planted_more = record {
    last = last_planted s f.name (kind_of f) ∙ omega (arith, p.last, length-append files (f ∷ []));
    root = new_root;
    nodes = λ k g e. new_nodes k g (place_by files f g k e);
    only = λ n x e. only_by n x (nat_eq (s.last + 1) n) (nat_eq 1 n) refl refl e;
  }

at_first_at : (q : ℕ) → node_at at_first q ≡ cond (nat_eq 1 q) (Some (new_node None (Dir None) 0)) None
unfolding at_first
at_first_at q = table.get-insert nat_cmp_total (table.empty {K = ℕ} {X = Node} {R = nat_cmp}) 1 (new_node None (Dir None) 0) q ∙ ap (λ b. cond b (Some (new_node None (Dir None) 0)) (table.get (table.empty {K = ℕ} {X = Node} {R = nat_cmp}) q)) (turned q 1) ∙ ap (cond (nat_eq 1 q) (Some (new_node None (Dir None) 0))) (table.get-empty nat_cmp q)

first_only : (n : ℕ) (x : Node) (b : Bool) → nat_eq 1 n ≡ b → cond b (Some (new_node None (Dir None) 0)) None ≡ Some x → (n ≡ 1) ⊎ IsOf [] n x
first_only n x true e is = inl (sym (same_number 1 n e))
first_only n x false e is = absurd cc

first_last : at_first.last ≡ 1
unfolding at_first
first_last = refl

pub none_planted : ArePlanted at_first []
none_planted = record {
  last = first_last;
  root = at_first_at 1;
  nodes = λ k f e. absurd cc;
  only = λ n x e. first_only n x (nat_eq 1 n) refl (sym (at_first_at n) ∙ e);
}

-- one after another
pub planted_all : (s : Names) (done files : List NamedFile) → ArePlanted s done → ArePlanted (all_planted s files) (done ++ files)
planted_all s done [] p = subst (ArePlanted s) (sym (append-nil done)) p
planted_all s done (f ∷ files) p =
    subst (ArePlanted (all_planted (planted s f.name (kind_of f)) files)) (append_assoc done (f ∷ []) files)
    (planted_all (planted s f.name (kind_of f)) (done ++ f ∷ []) files (planted_more s done f p))

pub planted_from_first : (files : List NamedFile) → ArePlanted (all_planted at_first files) files
planted_from_first files = planted_all at_first [] files none_planted

-- ---- a name that no file has may be planted

pub apart_from : (f : NamedFile) (before after : List NamedFile) → AreDifferent (before ++ f ∷ after) → AllByRecursion (λ g. Differs g f) before
apart_from f [] after d = tt
apart_from f (g ∷ before) after d = (one before after d.0, apart_from f before after d.1) where
  one : (before after : List NamedFile) → AllByRecursion (Differs g) (before ++ f ∷ after) → Differs g f
  one [] after all = all.0
  one (h ∷ before) after all = one before after all.1

pub not_named : (c n : ℕ) (f : NamedFile) (files : List NamedFile) → AllByRecursion (λ g. Differs g f) files → named f.name (entries_from c n files) ≡ None
not_named c n f [] all = refl
not_named c n f (g ∷ files) all = rw all.0.name (not_named (c + 1) (n + 1) f files all.1)

pub may : (s : Names) (f : NamedFile) (before after : List NamedFile) → ArePlanted s before → AreDifferent (before ++ f ∷ after) → length before ≤ 4095 → IsTrue (may_plant s f.name)
unfolding may_plant
may s f before after p d few =
    let none : named_in f.name (node_at s 1) ≡ None = ap (named_in f.name) p.root ∙ ap (option_map (λ (e : Entry). e.node)) (not_named 3 2 f before (apart_from f before after d)) in
    let low : nat_lt s.last 65536 ≡ true = grind (arith, nat_tests, p.last, few) in
    rw (none, low) refl
