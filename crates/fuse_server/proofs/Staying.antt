-- The kinds of nodes stay what they are, the files behind them stay there, and writable files stay at their numbers.
use Rattle.std.proofs.Common.{◌≡◌, ◌∙◌, ◌-◌, ◌⊎◌, inl, inr, if◌then◌else◌, ℕ, Bool, true, false, cond, List, [], ◌∷◌, Option, Some, None, IsSome, Result, Ok, Err, refl, sym, ap, subst}
use Rattle.std.proofs.Common.{arith}
use Rattle.std.proofs.lemmas.Grind.{common_steps}
use Rattle.std.specs.Option.{option_map}
use Rattle.std.specs.Ordering.{nat_cmp, eq_by_cmp}
use Rattle.std.specs.Cmp.{nat_cmp_total}
use Rattle.std.specs.FinMap as map
use Rattle.std.specs.BTreeMap.{is_at}
use Rattle.mg_base.specs.declared.errno.Errno.{Errno}
use Rattle.verity_path.specs.declared.device.Cause.{Cause}
use Rattle.authfs_dirs.specs.declared.kind.Kind.{Kind}
use Rattle.authfs_dirs.specs.declared.kind.Kind.TheVariants.{Dir, ReadOnly, Writable}
use Rattle.authfs_dirs.specs.Names.{Node, NodeMap, Names, node_at, put_if, changed, settled, settle_if, lives, one_more, with_lookups, with_pins, looked_up, forgotten, pinned, unpinned, cleared, reset_node, IsReset, lookup_check}
use Rattle.fuse_codec.specs.Reply as reply
use Rattle.fuse_codec.specs.Reply.{Answer}
use Rattle.fuse_server.specs.State.{State, WritableFile, Writables, writable_at, replaced}
use Rattle.fuse_server.specs.Aims.{Aim, says, makes, reads, loads, writes, cuts, syncs}
use Rattle.fuse_server.specs.FileRows.{Around}
use Rattle.fuse_server.specs.Rows.{FuseRow}
use Rattle.fuse_server.proofs.Keeping.{OfFiles, all_of}
use Rattle.fuse_server.specs.Effects.{Change, nothing, rewrites, initialises, counts, forgets, forgets_all, opens, closes, destroys, change_of, Changed, UnlessRefused, IsDestroyed, with_names, with_writables, counted, all_forgotten, with_handle, without_handle, initialised}
use Rattle.fuse_server.specs.Serving.{IsServedKind, AreServed, AreNumbered, ServedStay, NumbersStay}

-- each node of the one is a node of the other, of the same kind
Keeps : NodeMap → NodeMap → Type 0
Keeps m k = (n : ℕ) (x : Node) → map.get k n ≡ Some x → (y : Node) × (map.get m n ≡ Some y) × (x.kind ≡ y.kind)

keeps_all : (m : NodeMap) → Keeps m m
unfolding Keeps
keeps_all m n x e = (x, e, refl)

keeps_on : (a b c : NodeMap) → Keeps a b → Keeps b c → Keeps a c
unfolding Keeps
keeps_on a b c f g n x e = let y = g n x e in let z = f n y.0 y.1 in (z.0, z.1, y.2 ∙ z.2)

same_some : (x y : Node) → ◌≡◌ {A = Option Node} (Some x) (Some y) → x ≡ y
same_some x y e = cc

put_by : (m : NodeMap) (n : ℕ) (f : Node → Node) (y : Node) → ((x : Node) → (f x).kind ≡ x.kind) → map.get m n ≡ Some y
    → (q : ℕ) (x : Node) (b : Bool) → eq_by_cmp nat_cmp q n ≡ b → cond b (Some (f y)) (map.get m q) ≡ Some x → (z : Node) × (map.get m q ≡ Some z) × (x.kind ≡ z.kind)
put_by m n f y same there q x true q_is e = (y, ap (map.get m) (at q n q_is) ∙ there, sym (ap (λ (v : Node). v.kind) (same_some (f y) x e)) ∙ same y) where
  at : (q n : ℕ) → eq_by_cmp nat_cmp q n ≡ true → q ≡ n
  at q n e = grind (arith, common_steps, e)
put_by m n f y same there q x false q_is e = (x, e, refl)

keeps_put : (m : NodeMap) (n : ℕ) (f : Node → Node) → ((x : Node) → (f x).kind ≡ x.kind) → (o : Option Node) → map.get m n ≡ o → Keeps m (put_if m n (option_map f o))
unfolding Keeps
keeps_put m n f same None there q x e = (x, e, refl)
keeps_put m n f same (Some y) there q x e = put_by m n f y same there q x (eq_by_cmp nat_cmp q n) refl (sym (map.get-insert nat_cmp_total m n (f y) q) ∙ e)

keeps_changed : (m : NodeMap) (n : ℕ) (f : Node → Node) → ((x : Node) → (f x).kind ≡ x.kind) → Keeps m (changed m n f)
keeps_changed m n f same = keeps_put m n f same (map.get m n) refl

removed_by : (m : NodeMap) (q : ℕ) (x : Node) (b : Bool) → cond b None (map.get m q) ≡ Some x → (z : Node) × (map.get m q ≡ Some z) × (x.kind ≡ z.kind)
removed_by m q x true e = absurd cc
removed_by m q x false e = (x, e, refl)

keeps_remove : (m : NodeMap) (n : ℕ) → Keeps m (map.remove m n)
unfolding Keeps
keeps_remove m n q x e = removed_by m q x (eq_by_cmp nat_cmp q n) (sym (map.get-remove nat_cmp_total m n q) ∙ e)

keeps_settled : (m : NodeMap) (n : ℕ) → Keeps m (settled m n)
keeps_settled m n = by (map.get m n) where
  live_or : (b : Bool) → Keeps m (if b then m else map.remove m n)
  live_or true = keeps_all m
  live_or false = keeps_remove m n

  by : (o : Option Node) → Keeps m (settle_if m n o)
  by None = keeps_all m
  by (Some x) = live_or (lives n x)

keeps_looked : (names : Names) (n : ℕ) → Keeps names.nodes (looked_up names n).nodes
unfolding looked_up
keeps_looked names n = keeps_changed names.nodes n (λ x. with_lookups (one_more x.lookups) x) (λ x. refl)

keeps_forgotten : (names : Names) (n count : ℕ) → Keeps names.nodes (forgotten names n count).nodes
unfolding forgotten
keeps_forgotten names n count = keeps_on _ _ _ (keeps_changed names.nodes n (λ x. with_lookups (x.lookups - count) x) (λ x. refl)) (keeps_settled _ n)

keeps_pinned : (names : Names) (n : ℕ) → Keeps names.nodes (pinned names n).nodes
unfolding pinned
keeps_pinned names n = keeps_changed names.nodes n (λ x. with_pins (one_more x.pins) x) (λ x. refl)

keeps_unpinned : (names : Names) (n : ℕ) → Keeps names.nodes (unpinned names n).nodes
unfolding unpinned
keeps_unpinned names n = keeps_on _ _ _ (keeps_changed names.nodes n (λ x. with_pins (x.pins - 1) x) (λ x. refl)) (keeps_settled _ n)

keeps_reset : (old new : Names) → IsReset old new → Keeps old.nodes new.nodes
unfolding Keeps
keeps_reset old new w n x e = by (node_at old n) refl (sym (w.nodes n) ∙ e) where
  live_or : (y : Node) (b : Bool) → node_at old n ≡ Some y → (if b then Some (cleared y) else None) ≡ Some x → (z : Node) × (node_at old n ≡ Some z) × (x.kind ≡ z.kind)
  live_or y true there e = (y, there, sym (ap (λ (v : Node). v.kind) (same_some (cleared y) x e)))
  live_or y false there e = absurd cc

  by : (o : Option Node) → node_at old n ≡ o → reset_node n o ≡ Some x → (z : Node) × (node_at old n ≡ Some z) × (x.kind ≡ z.kind)
  by None there e = absurd cc
  by (Some y) there e = live_or y (lives n (cleared y)) there e

same_kind : (s t : State) → t.files ≡ s.files → t.writables ≡ s.writables → (kind : Kind) → IsServedKind s kind → IsServedKind t kind
same_kind s t files writables (Dir None) w = tt
same_kind s t files writables (Dir (Some host)) w = absurd w
same_kind s t files writables (ReadOnly n) w = rw files w
same_kind s t files writables (Writable n) w = rw writables w

served_by : (s t : State) → Keeps s.names.nodes t.names.nodes → ((kind : Kind) → IsServedKind s kind → IsServedKind t kind) → AreServed s → AreServed t
unfolding Keeps
served_by s t keeps kinds served n x e = let y = keeps n x e in subst (IsServedKind t) (sym y.2) (kinds y.0.kind (served n y.0 y.1))

named : (s : State) (names : Names) → Keeps s.names.nodes names.nodes → AreServed s → AreServed (with_names s names)
named s names keeps w = served_by s (with_names s names) keeps (same_kind s (with_names s names) refl refl) w

forgotten_all : (s : State) (pairs : List (ℕ × ℕ)) → AreServed s → AreServed (with_names s (all_forgotten s.names pairs))
forgotten_all s [] w = w
forgotten_all s (p ∷ pairs) w = forgotten_all (with_names s (forgotten s.names p.0 p.1)) pairs (named s (forgotten s.names p.0 p.1) (keeps_forgotten s.names p.0 p.1) w)

-- the same state
stays : (s new : State) → new ≡ s → AreServed s → AreServed new
stays s new e w = subst AreServed (sym e) w

unless : (s new : State) (E : Type 0) (a : Answer) → UnlessRefused s new E a → (E → AreServed s → AreServed new) → AreServed s → AreServed new
unless s new E (reply.refused e) u f w = stays s new u w
unless s new E reply.silent u f w = f u w
unless s new E reply.empty u f w = f u w
unless s new E (reply.entry x) u f w = f u w
unless s new E (reply.attributes x) u f w = f u w
unless s new E (reply.opened h) u f w = f u w
unless s new E (reply.created x h) u f w = f u w
unless s new E (reply.written n) u f w = f u w
unless s new E reply.statfs_out u f w = f u w
unless s new E (reply.inited x) u f w = f u w
unless s new E (reply.bytes_out bytes) u f w = f u w

looked : (s : State) (r : Result ℕ Errno) → AreServed s → AreServed (counted s r)
looked s (Ok node) w = named s (looked_up s.names node) (keeps_looked s.names node) w
looked s (Err x) w = w

names_if : (s t : State) (b : Bool) → (AreServed s → AreServed t) → AreServed s → AreServed (if b then t else s)
names_if s t true f w = f w
names_if s t false f w = w

opened_stays : (s : State) (node : ℕ) → AreServed s → AreServed (with_handle s node)
opened_stays s node w = served_by s (with_handle s node) (keeps_pinned s.names node) (same_kind s (with_handle s node) refl refl) w

released_stays : (s : State) (node fh : ℕ) → AreServed s → AreServed (without_handle s node fh)
released_stays s node fh w = served_by s (without_handle s node fh) (keeps_unpinned s.names node) (same_kind s (without_handle s node fh) refl refl) w

init_stays : (s : State) (major : ℕ) → AreServed s → AreServed (initialised s major)
init_stays s major w = served_by s (initialised s major) (keeps_all s.names.nodes) (same_kind s (initialised s major) refl refl) w

destroyed_stays : (s new : State) → IsDestroyed s new → AreServed s → AreServed new
destroyed_stays s new d w = served_by s new (keeps_reset s.names new.names d.names) (same_kind s new d.files d.writables) w

-- ---- what becomes of the writable files

-- one of them is another now, of the same number at the host
record IsPut (s : State) (a : Around) : Type 0 where
  pub number : ℕ
  pub old : WritableFile
  pub new : WritableFile
  pub there : writable_at s.writables number ≡ Some old
  pub file_is : new.file ≡ old.file
  pub files : a.new ≡ replaced number new a.old

moves : (s : State) (r : Result Aim Errno) (a : Around) (answer : Answer) (c : Option Cause) → OfFiles s r → FuseRow r a answer c → (a.new ≡ a.old) ⊎ IsPut s a
moves s (Err e) a answer c of w = inl w.0
moves s (Ok (says x)) a answer c of w = inl w.0
moves s (Ok (makes x)) a answer c of w = inl w.0
moves s (Ok (reads f offset size)) a answer c of w = inl w.0
moves s (Ok (loads n f offset size)) a answer c of w = inr (record { number = n; old = f; new = w.new; there = of; file_is = w.replaced.file_is; files = w.replaced.files })
moves s (Ok (writes n f offset bytes)) a answer c of w = inr (record { number = n; old = f; new = w.new; there = of.0; file_is = w.replaced.file_is; files = w.replaced.files })
moves s (Ok (cuts n f node size)) a answer c of w = inr (record { number = n; old = f; new = w.new; there = of.0; file_is = w.replaced.file_is; files = w.replaced.files })
moves s (Ok (syncs n f)) a answer c of w = inr (record { number = n; old = f; new = w.new; there = of; file_is = w.replaced.file_is; files = w.replaced.files })

some_by : (b d : Bool) (k n : ℕ) (v w : WritableFile) (q : ℕ) (es fs : Writables) → is_at (nat_cmp q) k ≡ d → (IsSome (writable_at es q) → IsSome (writable_at fs q)) → IsSome (writable_at ((k, v) ∷ es) q)
    → IsSome (writable_at (cond b ((k, w) ∷ es) ((k, v) ∷ fs)) q)
some_by true true k n v w q es fs hit rest there = rw hit refl
some_by true false k n v w q es fs hit rest there = rw hit (rw hit at there)
some_by false true k n v w q es fs hit rest there = rw hit refl
some_by false false k n v w q es fs hit rest there = rw hit (rest (rw hit at there))

some_put : (n q : ℕ) (w : WritableFile) (es : Writables) → IsSome (writable_at es q) → IsSome (writable_at (replaced n w es) q)
some_put n q w [] there = there
some_put n q w (e ∷ es) there = some_by (is_at (nat_cmp n) e.0) (is_at (nat_cmp q) e.0) e.0 n e.1 w q es (replaced n w es) refl (some_put n q w es) there

kind_put : (s t : State) → t.files ≡ s.files → (n : ℕ) (w : WritableFile) → t.writables ≡ replaced n w s.writables → (kind : Kind) → IsServedKind s kind → IsServedKind t kind
kind_put s t files n w puts (Dir None) k = tt
kind_put s t files n w puts (Dir (Some host)) k = absurd k
kind_put s t files n w puts (ReadOnly file) k = rw files k
kind_put s t files n w puts (Writable file) k = rw puts (some_put n file w s.writables k)

rewritten : (s : State) (a : Around) (files : Writables) → a.old ≡ s.writables → a.new ≡ files → (a.new ≡ a.old) ⊎ IsPut s a → AreServed s → AreServed (with_writables s files)
rewritten s a files old new (inl same) w = served_by s (with_writables s files) (keeps_all s.names.nodes) (same_kind s (with_writables s files) refl (sym new ∙ same ∙ old)) w
rewritten s a files old new (inr p) w = served_by s (with_writables s files) (keeps_all s.names.nodes) (kind_put s (with_writables s files) refl p.number p.new (sym new ∙ p.files ∙ ap (replaced p.number p.new) old)) w

-- ---- each answer

changed_stays : (s : State) (node : ℕ) (change : Change) (a : Answer) (new : State) → (new ≡ with_writables s new.writables → AreServed s → AreServed new) → Changed s node change a new → AreServed s → AreServed new
changed_stays s node nothing a new step u w = stays s new u w
changed_stays s node rewrites a new step u w = step u w
changed_stays s node (initialises major) a new step u w = unless s new _ a u (λ e v. stays _ new e (init_stays s major v)) w
changed_stays s node (counts name) a new step u w = unless s new _ a u (λ e v. stays _ new e (looked s (lookup_check s.names.nodes node name) v)) w
changed_stays s node (forgets n) a new step u w = unless s new _ a u (λ e v. stays _ new e (names_if s _ s.ready (named s (forgotten s.names node n) (keeps_forgotten s.names node n)) v)) w
changed_stays s node (forgets_all pairs) a new step u w = unless s new _ a u (λ e v. stays _ new e (names_if s _ s.ready (forgotten_all s pairs) v)) w
changed_stays s node opens a new step u w = unless s new _ a u (λ e v. stays _ new e (opened_stays s node v)) w
changed_stays s node (closes fh) a new step u w = unless s new _ a u (λ e v. stays _ new e (released_stays s node fh v)) w
changed_stays s node destroys a new step u w = unless s new _ a u (destroyed_stays s new) w

pub served_stay : ServedStay
served_stay s (Ok m) a answer c new is w = changed_stays s m.node (change_of m.asked) answer new (λ e v. stays _ new e (rewritten s a new.writables is.old_is is.new_is (moves s _ a answer c (all_of s (Ok m)) is.row) v)) is.next w
served_stay s (Err bad) a answer c new is w = stays s new is.next w

-- ---- the numbers of writable files

at_is : (q n : ℕ) → is_at (nat_cmp q) n ≡ true → q ≡ n
at_is q n e = grind (arith, common_steps, e)

found_is : (v f : WritableFile) → ◌≡◌ {A = Option WritableFile} (Some v) (Some f) → v ≡ f
found_is v f e = cc

place_by : (b d : Bool) (k n q : ℕ) (v w f : WritableFile) (es fs : Writables) → is_at (nat_cmp n) k ≡ b → is_at (nat_cmp q) k ≡ d → (writable_at fs q ≡ Some f → (w ≡ f) × (q ≡ n) ⊎ (writable_at es q ≡ Some f))
    → writable_at (cond b ((k, w) ∷ es) ((k, v) ∷ fs)) q ≡ Some f → (w ≡ f) × (q ≡ n) ⊎ (writable_at ((k, v) ∷ es) q ≡ Some f)
place_by true true k n q v w f es fs hit here rest e = inl (found_is w f (rw here at e), at_is q k here ∙ sym (at_is n k hit))
place_by true false k n q v w f es fs hit here rest e = inr (rw here (rw here at e))
place_by false true k n q v w f es fs hit here rest e = inr (rw here (rw here at e))
place_by false false k n q v w f es fs hit here rest e = rw here (rest (rw here at e))

place_is : (n q : ℕ) (w f : WritableFile) (es : Writables) → writable_at (replaced n w es) q ≡ Some f → (w ≡ f) × (q ≡ n) ⊎ (writable_at es q ≡ Some f)
place_is n q w f [] e = inr e
place_is n q w f (x ∷ es) e = place_by (is_at (nat_cmp n) x.0) (is_at (nat_cmp q) x.0) x.0 n q x.1 w f es (replaced n w es) refl refl (place_is n q w f es) e

numbered_put : (n : ℕ) (old w : WritableFile) (es : Writables) → writable_at es n ≡ Some old → w.file ≡ old.file → AreNumbered es → AreNumbered (replaced n w es)
numbered_put n old w es there same numbered q f e = by (place_is n q w f es e) where
  by : (w ≡ f) × (q ≡ n) ⊎ (writable_at es q ≡ Some f) → f.file ≡ q
  by (inl is) = sym (ap (λ (v : WritableFile). v.file) is.0) ∙ same ∙ numbered n old there ∙ sym is.1
  by (inr was) = numbered q f was

numbered_on : (s : State) (a : Around) (files : Writables) → a.old ≡ s.writables → a.new ≡ files → (a.new ≡ a.old) ⊎ IsPut s a → AreNumbered s.writables → AreNumbered files
numbered_on s a files old new (inl same) w = subst AreNumbered (sym old ∙ sym same ∙ new) w
numbered_on s a files old new (inr p) w = subst AreNumbered (sym (sym new ∙ p.files ∙ ap (replaced p.number p.new) old)) (numbered_put p.number p.old p.new s.writables p.there p.file_is w)

pub numbers_stay : NumbersStay
numbers_stay s m a answer c new is w = numbered_on s a new.writables is.old_is is.new_is (moves s _ a answer c (all_of s m) is.row) w
