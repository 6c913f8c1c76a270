-- Names of the root lead where they led, and the files stay.
use Rattle.std.proofs.Common.{◌≡◌, ◌∙◌, ◌+◌, ◌-◌, if◌then◌else◌, ℕ, Bool, true, false, cond, List, [], ◌∷◌, ◌++◌, length, map, append_assoc, Option, Some, None, Result, Ok, Err, refl, sym, ap, subst, arith}
use Rattle.std.specs.Prelude.{◌==◌, ◌||◌, is_some, nat_eq, nat_lt, slice_get}
use Rattle.std.specs.Option.{option_map}
use Rattle.std.specs.FinMap as table
use Rattle.std.proofs.lemmas.Bool.Decides.{nat_tests}
use Rattle.std.proofs.lemmas.List.{length-append}
use Rattle.mg_base.specs.declared.errno.Errno.{Errno}
use Rattle.mg_base.specs.declared.errno.Errno.TheVariants.{Enoent}
use Rattle.session_frames.specs.Replies.{Sent}
use Rattle.verity_path.specs.declared.device.Cause.{Cause}
use Rattle.authfs_dirs.specs.declared.kind.Kind.{Kind}
use Rattle.authfs_dirs.specs.Names.{Entry, Node, NodeMap, Names, node_at, kind_at, changed, settled, lives, is_dir, directory, found, node_named, one_more, with_lookups, with_pins, looked_up, forgotten, pinned, unpinned, cleared, reset_node, IsReset, lookup_check}
use Rattle.authfs_dirs.specs.Dirents.{Dirent, dirent, kind_number, dot, dot_dot, dirents, above, whole, listing}
use Rattle.authfs_dirs.specs.Tree.{IsRoot, IsChild}
use Rattle.authfs_dirs.proofs.TreeLemmas.{get_changed, get_settled, kept}
use Rattle.authfs_dirs.proofs.TreeLaws.{finds_children}
use Rattle.fuse_codec.specs.Message.{Message, Bad}
use Rattle.fuse_codec.specs.Reply as reply
use Rattle.fuse_codec.specs.Reply.{Answer}
use Rattle.fuse_server.specs.State.{State as Fuse}
use Rattle.fuse_server.specs.Effects.{Change, nothing, rewrites, initialises, counts, forgets, forgets_all, opens, closes, destroys, change_of, Changed, Next, UnlessRefused, counted, all_forgotten}
use Rattle.guest_boot.specs.Booting.{means_of}
use Rattle.mg_base.specs.declared.values.Digest.{Digest}
use Rattle.guest_names.specs.Standing.{NamedFile, kind_by, files_in, file_count, names_at_boot}
use Rattle.guest_names.specs.Promises.{StandsSound}
use Rattle.guest_names.proofs.Making.{counted as files_counted}
use Rattle.guest_names.proofs.Nodes.{entries_from, root_of, node_of, ArePlanted, planted_from_first, place_at}
use Rattle.guest_names.proofs.Sound.{names_found, no_other, boots_sound}
use Rattle.instance_image.specs.Sealings.{Sealing}
use Rattle.guest_rules.specs.Machine.{Setting, State, World, Moment, moment, Turn, Request, message_of, read_of, get_of, put_of, request_of}
use Rattle.guest_rules.specs.MessageRow.{Heard}
use Rattle.guest_rules.specs.Step.{Row}
use Rattle.guest_rules.specs.Run.{Run}
use Rattle.guest_rules.proofs.Standing.{files_kept, put_keeps}
use Rattle.guest_cli.specs.Booted.{first_state}
use Rattle.guest_laws.specs.Naming.{NamesStay, file_dirents}

-- ---- the root and what has a name

-- what a node is and where it stands are the same, and so are its names
record IsSame (x y : Node) : Type 0 where
  pub kind : y.kind ≡ x.kind
  pub parent : y.parent ≡ x.parent
  pub entries : y.entries ≡ x.entries

-- the root, or a node with a name
abbrev stands : ℕ → Node → Bool
stands n x = (n == 1) || is_some x.parent

-- each such node stays
Keeps : NodeMap → NodeMap → Type 0
Keeps m k = (n : ℕ) (x : Node) → table.get m n ≡ Some x → stands n x ≡ true → (y : Node) × (table.get k n ≡ Some y) × IsSame x y

same_all : (x : Node) → IsSame x x
same_all x = record { kind = refl; parent = refl; entries = refl }

keeps_all : (m : NodeMap) → Keeps m m
unfolding Keeps
keeps_all m n x at still = (x, at, same_all x)

same_stands : (n : ℕ) (x y : Node) → IsSame x y → stands n x ≡ true → stands n y ≡ true
same_stands n x y same still = ap (λ (p : Option ℕ). (n == 1) || is_some p) same.parent ∙ still

same_on : (x y z : Node) → IsSame x y → IsSame y z → IsSame x z
same_on x y z a b = record { kind = b.kind ∙ a.kind; parent = b.parent ∙ a.parent; entries = b.entries ∙ a.entries }

keeps_on : (a b c : NodeMap) → Keeps a b → Keeps b c → Keeps a c
unfolding Keeps
keeps_on a b c f g n x at still =
    let y = f n x at still in
    let z = g n y.0 y.1 (same_stands n x y.0 y.2 still) in
    (z.0, z.1, same_on x y.0 z.0 y.2 z.2)

number_is : (n q : ℕ) → nat_eq n q ≡ true → n ≡ q
number_is n q e = grind (arith, nat_tests)

changed_by : (m : NodeMap) (n q : ℕ) (f : Node → Node) (x : Node) (b : Bool) → ((x : Node) → IsSame x (f x)) → nat_eq n q ≡ b → table.get m q ≡ Some x
    → (y : Node) × (cond b (option_map f (table.get m n)) (table.get m q) ≡ Some y) × IsSame x y
changed_by m n q f x true same e at = (f x, ap (option_map f) (subst (λ k. table.get m k ≡ Some x) (sym (number_is n q e)) at), same x)
changed_by m n q f x false same e at = (x, at, same_all x)

keeps_changed : (m : NodeMap) (n : ℕ) (f : Node → Node) → ((x : Node) → IsSame x (f x)) → Keeps m (changed m n f)
unfolding Keeps
keeps_changed m n f same q x at still =
    let y = changed_by m n q f x (nat_eq n q) same refl at in
    (y.0, get_changed m n q f ∙ y.1, y.2)

either : (a b c d : Bool) → (a || b) ≡ true → (a || b || c || d) ≡ true
either true b c d e = refl
either false true c d e = refl
either false false c d e = absurd cc

lives_on : (n : ℕ) (x : Node) → stands n x ≡ true → lives n x ≡ true
lives_on n x still = either (n == 1) (is_some x.parent) (nat_lt 0 x.pins) (nat_lt 0 x.lookups) still

stays_if : (b : Bool) (x : Node) → b ≡ true → (if b then Some x else None) ≡ Some x
stays_if true x e = refl
stays_if false x e = absurd cc

settled_by : (m : NodeMap) (n q : ℕ) (x : Node) (b : Bool) → nat_eq n q ≡ b → table.get m q ≡ Some x → stands q x ≡ true → cond b (kept n (table.get m n)) (table.get m q) ≡ Some x
settled_by m n q x true e at still =
    let is = number_is n q e in
    ap (kept n) (subst (λ k. table.get m k ≡ Some x) (sym is) at) ∙ stays_if (lives n x) x (lives_on n x (subst (λ k. stands k x ≡ true) (sym is) still))
settled_by m n q x false e at still = at

keeps_settled : (m : NodeMap) (n : ℕ) → Keeps m (settled m n)
unfolding Keeps
keeps_settled m n q x at still = (x, get_settled m n q ∙ settled_by m n q x (nat_eq n q) refl at still, same_all x)

-- ---- each change of the names

keeps_looked : (names : Names) (n : ℕ) → Keeps names.nodes (looked_up names n).nodes
unfolding looked_up
keeps_looked names n = keeps_changed names.nodes n (λ x. with_lookups (one_more x.lookups) x) (λ x. record { kind = refl; parent = refl; entries = refl })

keeps_forgotten : (names : Names) (n count : ℕ) → Keeps names.nodes (forgotten names n count).nodes
unfolding forgotten
keeps_forgotten names n count =
    keeps_on _ _ _ (keeps_changed names.nodes n (λ x. with_lookups (x.lookups - count) x) (λ x. record { kind = refl; parent = refl; entries = refl })) (keeps_settled _ n)

keeps_pinned : (names : Names) (n : ℕ) → Keeps names.nodes (pinned names n).nodes
unfolding pinned
keeps_pinned names n = keeps_changed names.nodes n (λ x. with_pins (one_more x.pins) x) (λ x. record { kind = refl; parent = refl; entries = refl })

keeps_unpinned : (names : Names) (n : ℕ) → Keeps names.nodes (unpinned names n).nodes
unfolding unpinned
keeps_unpinned names n =
    keeps_on _ _ _ (keeps_changed names.nodes n (λ x. with_pins (x.pins - 1) x) (λ x. record { kind = refl; parent = refl; entries = refl })) (keeps_settled _ n)

keeps_reset : (old new : Names) → IsReset old new → Keeps old.nodes new.nodes
unfolding Keeps
keeps_reset old new reset n x at still = (
  cleared x,
  reset.nodes n ∙ ap (λ o. reset_node n o) at ∙ stays_if (lives n (cleared x)) (cleared x) (lives_on n (cleared x) still),
  record { kind = refl; parent = refl; entries = refl },
)

keeps_pairs : (names : Names) (pairs : List (ℕ × ℕ)) → Keeps names.nodes (all_forgotten names pairs).nodes
keeps_pairs names [] = keeps_all names.nodes
keeps_pairs names (p ∷ pairs) = keeps_on _ _ _ (keeps_forgotten names p.0 p.1) (keeps_pairs (forgotten names p.0 p.1) pairs)

-- ---- each message

abbrev KeepsNames : Fuse → Fuse → Type 0
KeepsNames s new = Keeps s.names.nodes new.names.nodes

keeps_if : (s t new : Fuse) (b : Bool) → new ≡ (if b then t else s) → KeepsNames s t → KeepsNames s new
keeps_if s t new true e k = rw e k
keeps_if s t new false e k = rw e (keeps_all s.names.nodes)

keeps_counted : (s new : Fuse) (r : Result ℕ Errno) → new ≡ counted s r → KeepsNames s new
keeps_counted s new (Ok node) e = rw e (keeps_looked s.names node)
keeps_counted s new (Err x) e = rw e (keeps_all s.names.nodes)

module _ (s new : Fuse) where
  same_state : new ≡ s → KeepsNames s new
  same_state e = rw e (keeps_all s.names.nodes)

  unless : (E : Type 0) (a : Answer) → UnlessRefused s new E a → (E → KeepsNames s new) → KeepsNames s new
  unless E (reply.refused e) u f = same_state u
  unless E reply.silent u f = f u
  unless E reply.empty u f = f u
  unless E (reply.entry x) u f = f u
  unless E (reply.attributes x) u f = f u
  unless E (reply.opened h) u f = f u
  unless E (reply.created x h) u f = f u
  unless E (reply.written n) u f = f u
  unless E reply.statfs_out u f = f u
  unless E (reply.inited x) u f = f u
  unless E (reply.bytes_out bytes) u f = f u

  changed_keeps : (node : ℕ) (change : Change) (a : Answer) → Changed s node change a new → KeepsNames s new
  changed_keeps node nothing a u = same_state u
  changed_keeps node rewrites a u = rw u (keeps_all s.names.nodes)
  changed_keeps node (initialises major) a u = unless _ a u (λ e. rw e (keeps_all s.names.nodes))
  changed_keeps node (counts name) a u = unless _ a u (keeps_counted s new (lookup_check s.names.nodes node name))
  changed_keeps node (forgets n) a u = unless _ a u (λ e. keeps_if s _ new s.ready e (keeps_forgotten s.names node n))
  changed_keeps node (forgets_all pairs) a u = unless _ a u (λ e. keeps_if s _ new s.ready e (keeps_pairs s.names pairs))
  changed_keeps node opens a u = unless _ a u (λ e. rw e (keeps_pinned s.names node))
  changed_keeps node (closes fh) a u = unless _ a u (λ e. rw e (keeps_unpinned s.names node))
  changed_keeps node destroys a u = unless _ a u (λ d. keeps_reset s.names new.names d.names)

  next_keeps : (m : Result Message Bad) (a : Answer) → Next s m a new → KeepsNames s new
  next_keeps (Ok m) a u = changed_keeps m.node (change_of m.asked) a u
  next_keeps (Err bad) a u = same_state u

-- ---- a run

row_keeps : (g : Setting) (world : World) (run : List Sealing) (h : Heard) (request : Request) (old new : State) (sent : Sent) (cause : Option Cause) → Row g world run h request old new sent cause
    → KeepsNames old.fuse new.fuse
row_keeps g world run h (message_of m) old new sent cause row = next_keeps old.fuse new.fuse m row.2.answer row.2.next
row_keeps g world run h (read_of r) old new sent cause row = same_state old.fuse new.fuse (ap (λ (s : State). s.fuse) row.0)
row_keeps g world run h (get_of uuid) old new sent cause row = same_state old.fuse new.fuse (ap (λ (s : State). s.fuse) row.0)
row_keeps g world run h (put_of uuid text) old new sent cause row = same_state old.fuse new.fuse (put_keeps g.image h.trace uuid text old new sent cause row)

module _ (g : Setting) (world : World) where
  run_keeps : (old : Moment) (turns : List Turn) (new : Moment) → Run g world old turns new → KeepsNames old.state.fuse new.state.fuse
  run_keeps old [] new r = same_state old.state.fuse new.state.fuse (ap (λ (m : Moment). m.state.fuse) (sym r))
  run_keeps old (t ∷ turns) new r =
      keeps_on _ _ _ (row_keeps g world old.sealings _ (request_of t.frame) old.state r.0.state t.sent t.cause r.2.row) (run_keeps r.0 turns new r.3)

  run_files : (old : Moment) (turns : List Turn) (new : Moment) → Run g world old turns new → new.state.fuse.files ≡ old.state.fuse.files
  run_files old [] new r = ap (λ (m : Moment). m.state.fuse.files) (sym r)
  run_files old (t ∷ turns) new r = run_files r.0 turns new r.3 ∙ files_kept g world old.sealings _ (request_of t.frame) old.state r.0.state t.sent t.cause r.2.row

-- ---- what is found

looks : (m : NodeMap) (x : Node) (name : List ℕ) → table.get m 1 ≡ Some x → is_dir x.kind ≡ true → lookup_check m 1 name ≡ found (node_named name x.entries) Enoent
unfolding lookup_check directory
looks m x name at dir = rw (at, dir) refl

abbrev node_kind : Option Node → Option Kind
node_kind o = option_map (λ (x : Node). x.kind) o

named_stands : (n : ℕ) (x : Node) (p : ℕ) → x.parent ≡ Some p → stands n x ≡ true
named_stands n x p within = ap (λ (o : Option ℕ). (n == 1) || is_some o) within ∙ last (n == 1) where
  last : (b : Bool) → (b || true) ≡ true
  last true = refl
  last false = refl

module _ (s new : Fuse) (root : IsRoot (node_at s.names)) (keeps : KeepsNames s new) where
  -- each name of the root leads where it led
  name_kept : (name : List ℕ) → lookup_check new.names.nodes 1 name ≡ lookup_check s.names.nodes 1 name
  unfolding Keeps
  name_kept name =
      let y = keeps 1 root.node root.there refl in
      looks new.names.nodes y.0 name y.1 (ap is_dir y.2.kind ∙ root.dir) ∙ ap (λ (es : List Entry). found (node_named name es) Enoent) y.2.entries
      ∙ sym (looks s.names.nodes root.node name root.there root.dir)

  -- a node with a name is what it was
  kind_kept : (n p : ℕ) → IsChild (node_at s.names) n p → kind_at new.names n ≡ kind_at s.names n
  unfolding Keeps
  kind_kept n p child =
      let y = keeps n child.node child.there (named_stands n child.node p child.within) in
      ap node_kind y.1 ∙ ap (λ (k : Kind). Some k) y.2.kind ∙ sym (ap node_kind child.there)

-- ---- what is listed

abbrev type_of : Kind → ℕ
type_of kind = if is_dir kind then 4 else 8

no_dir : (number : ℕ) (o : Option Digest) → type_of (kind_by number o) ≡ 8
no_dir number None = refl
no_dir number (Some digest) = refl

module _ (s new : Fuse) (files : List NamedFile) (planted : ArePlanted s.names files) (keeps : KeepsNames s new) where
  -- a name is still that of a file
  file_kind : (k : ℕ) (f : NamedFile) → slice_get files k ≡ Some f → kind_number (table.get new.names.nodes (k + 2)) ≡ 8
  unfolding Keeps
  file_kind k f at =
      let y = keeps (k + 2) (node_of f) (planted.nodes k f at) (named_stands (k + 2) (node_of f) 1 refl) in
      ap kind_number y.1 ∙ ap type_of y.2.kind ∙ no_dir f.number f.digest

  entries_listed : (before after : List NamedFile) (c n : ℕ) → files ≡ before ++ after → n ≡ length before + 2 → map (dirent new.names.nodes) (entries_from c n after) ≡ file_dirents c n after
  entries_listed before [] c n cut is = refl
  entries_listed before (f ∷ after) c n cut is =
      let at : slice_get files (length before) ≡ Some f = subst (λ (fs : List NamedFile). slice_get fs (length before) ≡ Some f) (sym cut) (place_at before after f) in
      let kind : kind_number (table.get new.names.nodes n) ≡ 8 = subst (λ (k : ℕ). kind_number (table.get new.names.nodes k) ≡ 8) (sym is) (file_kind (length before) f at) in
      let rest = entries_listed (before ++ f ∷ []) after (c + 1) (n + 1) (cut ∙ sym (append_assoc before (f ∷ []) after)) (omega (arith, is, length-append before (f ∷ []))) in
      rw (kind, rest) refl

  root_listed : (cookie size : ℕ) → listing new.names.nodes 1 cookie size ≡ whole size (above cookie (dot 1 ∷ dot_dot 1 None ∷ file_dirents 3 2 files))
  unfolding Keeps listing dirents
  root_listed cookie size =
      let y = keeps 1 (root_of files) planted.root refl in
      rw (y.1, y.2.parent, y.2.entries, entries_listed [] files 3 2 refl refl) refl

pub names_stay : NamesStay
names_stay text plan own o entropy g world told heard sealings turns new spelled boot run = record {
  names = λ before f is.
      let at_first = names_found text plan spelled before f is in
      let child = finds_children names 1 (file_count before + 2) f.name sound.sound at_first.0 in
      (name_kept first now sound.sound.tree.root keeps f.name ∙ at_first.0, kind_kept first now sound.sound.tree.root keeps (file_count before + 2) 1 child ∙ at_first.1);
  others = λ name node is. no_other plan.lines name node (sym (name_kept first now sound.sound.tree.root keeps name) ∙ is);
  listed = root_listed first now (files_in plan.lines) (planted_from_first (files_in plan.lines)) keeps;
  files = run_files g world start turns new run;
} where
  start : Moment
  start = moment (first_state plan o) told heard sealings

  first : Fuse
  first = start.state.fuse

  now : Fuse
  now = new.state.fuse

  names : Names
  names = names_at_boot plan.lines

  sound : StandsSound first
  sound = boots_sound text plan o.files spelled (files_counted (means_of plan entropy) plan.lines own _ boot.boots)

  keeps : KeepsNames first now
  keeps = run_keeps g world start turns new run
