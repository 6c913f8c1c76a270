-- Each answer keeps open handles and the nodes' counts of them together.
use Rattle.std.proofs.Common.{◌≡◌, ◌∙◌, ◌+◌, ◌-◌, ◌≤◌, if◌then◌else◌, ℕ, Bool, true, false, cond, List, [], ◌∷◌, ◌++◌, length, Option, Some, None, Result, Ok, Err, refl, sym, ap, subst, arith}
use Rattle.std.proofs.lemmas.Grind.{common_steps}
use Rattle.std.proofs.lemmas.Bool.Decides.{nat_tests}
use Rattle.std.specs.Prelude.{nat_eq, nat_lt, is_some, IsOk, ◌==◌, ◌||◌, ◌&&◌, ◌^◌}
use Rattle.std.specs.Option.{option_map}
use Rattle.std.specs.Ordering.{nat_cmp, eq_by_cmp}
use Rattle.std.specs.Cmp.{nat_cmp_total}
use Rattle.std.specs.FinMap as map
use Rattle.mg_base.specs.declared.errno.Errno.{Errno}
use Rattle.mg_base.specs.declared.errno.Errno.TheVariants.{Enoent, Enotdir, Eacces, Ebadf, Enospc, Eproto}
use Rattle.verity_path.specs.declared.device.Cause.{Cause}
use Rattle.authfs_dirs.specs.Names.{Node, NodeMap, Names, ◌>>=◌, needs, found, node_at, put_if, changed, settled, settle_if, lives, one_more, with_lookups, with_pins, looked_up, forgotten, pinned, unpinned, cleared, reset_node, IsReset, lookup_check, is_dir}
use Rattle.authfs_files.specs.Open.{AreRising, node_of, is_of, holds, may_open, closed}
use Rattle.fuse_codec.specs.Message.{Asked, init, lookup, forget, batch_forget, interrupt, getattr, setattr, opening, opendir, read, write, flush, fsync, release, releasedir, readdir, create, mkdir, unlink, rmdir, statfs, destroy}
use Rattle.fuse_codec.specs.Reply as reply
use Rattle.fuse_codec.specs.Reply.{Answer}
use Rattle.fuse_server.specs.State.{State, as_file, live, live_file, live_dir, held}
use Rattle.fuse_server.specs.Aims.{Aim, may_be_opened, open_aim, opendir_aim, handled_aim, releasedir_aim, ready_aim, message_aim}
use Rattle.fuse_server.specs.Effects.{Becomes, UnlessRefused, IsDestroyed, with_names, with_writables, counted, all_forgotten, with_handle, without_handle, initialised}
use Rattle.fuse_server.specs.FileRows.{Around}
use Rattle.fuse_server.specs.Rows.{FuseRow}
use Rattle.fuse_server.specs.Ties.{handles_of, pins_of, AreTied, TiedAtFirst, TiesStay}

-- ---- what nodes count

abbrev pins_at : NodeMap → ℕ → ℕ
pins_at m q = pins_of (map.get m q)

key_is : (q n : ℕ) → eq_by_cmp nat_cmp q n ≡ nat_eq q n
key_is q n = grind (arith, common_steps)

eq_of : (a b : ℕ) → nat_eq a b ≡ true → a ≡ b
eq_of a b e = grind (arith, nat_tests)

put_at : (m : NodeMap) (n q : ℕ) (f : Node → Node) (o : Option Node) → map.get m n ≡ o → map.get (put_if m n (option_map f o)) q ≡ cond (nat_eq q n) (option_map f o) (map.get m q)
put_at m n q f None e = none_by (nat_eq q n) refl where
  none_by : (b : Bool) → nat_eq q n ≡ b → map.get m q ≡ cond b None (map.get m q)
  none_by true same = subst (λ k. map.get m k ≡ None) (sym (eq_of q n same)) e
  none_by false same = refl
put_at m n q f (Some x) e = map.get-insert nat_cmp_total m n (f x) q ∙ ap (λ b. cond b (Some (f x)) (map.get m q)) (key_is q n)

pins_changed : (m : NodeMap) (n q : ℕ) (f : Node → Node) → pins_at (changed m n f) q ≡ pins_of (cond (nat_eq q n) (option_map f (map.get m n)) (map.get m q))
pins_changed m n q f = ap pins_of (put_at m n q f (map.get m n) refl)

map_pins : (f : Node → Node) → ((x : Node) → (f x).pins ≡ x.pins) → (o : Option Node) → pins_of (option_map f o) ≡ pins_of o
map_pins f same None = refl
map_pins f same (Some x) = same x

pins_kept : (m : NodeMap) (n q : ℕ) (f : Node → Node) → ((x : Node) → (f x).pins ≡ x.pins) → pins_at (changed m n f) q ≡ pins_at m q
pins_kept m n q f same = pins_changed m n q f ∙ by (nat_eq q n) refl where
  by : (b : Bool) → nat_eq q n ≡ b → pins_of (cond b (option_map f (map.get m n)) (map.get m q)) ≡ pins_at m q
  by true e = map_pins f same (map.get m n) ∙ ap (pins_at m) (sym (eq_of q n e))
  by false e = refl

third : (a b c d : Bool) → (a || b || c || d) ≡ false → c ≡ false
third true b c d e = absurd cc
third false true c d e = absurd cc
third false false true d e = absurd cc
third false false false d e = refl

zero_of : (k : ℕ) → nat_lt 0 k ≡ false → k ≡ 0
zero_of k e = grind (arith, nat_tests)

no_pins : (n : ℕ) (x : Node) → lives n x ≡ false → x.pins ≡ 0
no_pins n x e = zero_of x.pins (third (n == 1) (is_some x.parent) (nat_lt 0 x.pins) (nat_lt 0 x.lookups) e)

gone_by : (m : NodeMap) (n q : ℕ) (x : Node) (b : Bool) → map.get m n ≡ Some x → x.pins ≡ 0 → nat_eq q n ≡ b → pins_of (cond b None (map.get m q)) ≡ pins_at m q
gone_by m n q x true there none same = sym (ap (pins_at m) (eq_of q n same) ∙ ap pins_of there ∙ none)
gone_by m n q x false there none same = refl

live_by : (m : NodeMap) (n q : ℕ) (x : Node) (b : Bool) → map.get m n ≡ Some x → lives n x ≡ b → pins_at (if b then m else map.remove m n) q ≡ pins_at m q
live_by m n q x true there e = refl
live_by m n q x false there e = ap pins_of (map.get-remove nat_cmp_total m n q ∙ ap (λ b. cond b None (map.get m q)) (key_is q n)) ∙ gone_by m n q x (nat_eq q n) there (no_pins n x e) refl

settle_by : (m : NodeMap) (n q : ℕ) (o : Option Node) → map.get m n ≡ o → pins_at (settle_if m n o) q ≡ pins_at m q
settle_by m n q None e = refl
settle_by m n q (Some x) e = live_by m n q x (lives n x) e refl

pins_settled : (m : NodeMap) (n q : ℕ) → pins_at (settled m n) q ≡ pins_at m q
pins_settled m n q = settle_by m n q (map.get m n) refl

pins_looked : (names : Names) (n q : ℕ) → pins_at (looked_up names n).nodes q ≡ pins_at names.nodes q
unfolding looked_up
pins_looked names n q = pins_kept names.nodes n q (λ x. with_lookups (one_more x.lookups) x) (λ x. refl)

pins_forgotten : (names : Names) (n count q : ℕ) → pins_at (forgotten names n count).nodes q ≡ pins_at names.nodes q
unfolding forgotten
pins_forgotten names n count q = pins_settled _ n q ∙ pins_kept names.nodes n q (λ x. with_lookups (x.lookups - count) x) (λ x. refl)

all_pins : (names : Names) (pairs : List (ℕ × ℕ)) (q : ℕ) → pins_at (all_forgotten names pairs).nodes q ≡ pins_at names.nodes q
all_pins names [] q = refl
all_pins names (p ∷ pairs) q = all_pins (forgotten names p.0 p.1) pairs q ∙ pins_forgotten names p.0 p.1 q

cleared_by : (n : ℕ) (x : Node) (b : Bool) → pins_of (if b then Some (cleared x) else None) ≡ 0
cleared_by n x true = refl
cleared_by n x false = refl

reset_by : (n : ℕ) (o : Option Node) → pins_of (reset_node n o) ≡ 0
reset_by n None = refl
reset_by n (Some x) = cleared_by n x (lives n (cleared x))

pins_reset : (old new : Names) → IsReset old new → (q : ℕ) → pins_of (node_at new q) ≡ 0
pins_reset old new is q = ap pins_of (is.nodes q) ∙ reset_by q (node_at old q)

-- ---- handles

abbrev Opened : Type 0
Opened = List (ℕ × ℕ)

handles_few : (q : ℕ) (es : Opened) → handles_of q es ≤ length es
handles_few q [] = omega arith
handles_few q (e ∷ es) = by (nat_eq q e.1) (handles_few q es) where
  by : (b : Bool) → handles_of q es ≤ length es → (if b then handles_of q es + 1 else handles_of q es) ≤ length (e ∷ es)
  by true le = omega arith
  by false le = omega arith

swap : (b c : Bool) (k : ℕ) → (if b then (if c then k + 1 else k) + 1 else (if c then k + 1 else k)) ≡ (if c then (if b then k + 1 else k) + 1 else (if b then k + 1 else k))
swap true true k = refl
swap true false k = refl
swap false true k = refl
swap false false k = refl

handles_push : (q h n : ℕ) (es : Opened) → handles_of q (es ++ (h, n) ∷ []) ≡ (if nat_eq q n then handles_of q es + 1 else handles_of q es)
handles_push q h n [] = refl
handles_push q h n (e ∷ es) = ap (λ k. if nat_eq q e.1 then k + 1 else k) (handles_push q h n es) ∙ swap (nat_eq q e.1) (nat_eq q n) (handles_of q es)

closed_by : (b : Bool) (q n : ℕ) (e : ℕ × ℕ) (es fs : Opened) (o : Option ℕ) → (if b then Some e.1 else o) ≡ Some n → (o ≡ Some n → handles_of q es ≡ (if nat_eq q n then handles_of q fs + 1 else handles_of q fs))
    → handles_of q (e ∷ es) ≡ (if nat_eq q n then handles_of q (if b then es else e ∷ fs) + 1 else handles_of q (if b then es else e ∷ fs))
closed_by true q n e es fs o is rest = let same : e.1 ≡ n = cc in ap (λ k. if nat_eq q k then handles_of q es + 1 else handles_of q es) same
closed_by false q n e es fs o is rest = ap (λ k. if nat_eq q e.1 then k + 1 else k) (rest is) ∙ swap (nat_eq q e.1) (nat_eq q n) (handles_of q fs)

handles_closed : (q h n : ℕ) (es : Opened) → node_of h es ≡ Some n → handles_of q es ≡ (if nat_eq q n then handles_of q (closed h es) + 1 else handles_of q (closed h es))
handles_closed q h n [] is = absurd cc
handles_closed q h n (e ∷ es) is = closed_by (nat_eq h e.0) q n e es (closed h es) (node_of h es) is (handles_closed q h n es)

rising_push : (low given n : ℕ) (es : Opened) → AreRising low es given → AreRising low (es ++ (given + 1, n) ∷ []) (given + 1)
rising_push low given n [] is = (is, omega arith)
rising_push low given n (e ∷ es) is = (is.0, rising_push (e.0 + 1) given n es is.1)

lower : (low high given : ℕ) (es : Opened) → low ≤ high → AreRising high es given → AreRising low es given
lower low high given [] le is = omega arith
lower low high given (e ∷ es) le is = (omega (arith, is.0), is.1)

cut_by : (b : Bool) (low given : ℕ) (e : ℕ × ℕ) (es fs : Opened) → AreRising low (e ∷ es) given → AreRising (e.0 + 1) fs given → AreRising low (if b then es else e ∷ fs) given
cut_by true low given e es fs is rest = lower low (e.0 + 1) given es (omega (arith, is.0)) is.1
cut_by false low given e es fs is rest = (is.0, rest)

rising_closed : (low given h : ℕ) (es : Opened) → AreRising low es given → AreRising low (closed h es) given
rising_closed low given h [] is = is
rising_closed low given h (e ∷ es) is = cut_by (nat_eq h e.0) low given e es (closed h es) is (rising_closed (e.0 + 1) given h es is.1)

short_by : (b : Bool) (e : ℕ × ℕ) (es fs : Opened) → length fs ≤ length es → length (if b then es else e ∷ fs) ≤ length (e ∷ es)
short_by true e es fs le = omega arith
short_by false e es fs le = omega arith

length_closed : (h : ℕ) (es : Opened) → length (closed h es) ≤ length es
length_closed h [] = omega arith
length_closed h (e ∷ es) = short_by (nat_eq h e.0) e es (closed h es) (length_closed h es)

length_push : (es : Opened) (e : ℕ × ℕ) → length (es ++ e ∷ []) ≡ length es + 1
length_push [] e = refl
length_push (x ∷ es) e = let rest = length_push es e in omega arith

-- ---- what a message that isn't refused has passed

record Passed {A B : Type 0} (r : Result A Errno) (f : A → Result B Errno) : Type 0 where
  pub value : A
  pub is : r ≡ Ok value
  pub rest : IsOk (f value)

passed : {A B : Type 0} (r : Result A Errno) (f : A → Result B Errno) → IsOk (r >>= f) → Passed r f
passed (Ok x) f ok = record { value = x; is = refl; rest = ok }
passed (Err e) f ok = absurd cc

needed : (b : Bool) (e : Errno) (u : Unit {0}) → needs b e ≡ Ok u → b ≡ true
needed true e u is = refl
needed false e u is = absurd cc

record Lives (s : State) (node : ℕ) : Type 0 where
  pub it : Node
  pub there : node_at s.names node ≡ Some it

lives_by : (s : State) (node : ℕ) (o : Option Node) → node_at s.names node ≡ o → IsOk (found (option_map (λ (x : Node). x.kind) o) Enoent) → Lives s node
lives_by s node None e ok = absurd cc
lives_by s node (Some x) e ok = record { it = x; there = e }

ok_of : {A : Type 0} (r : Result A Errno) (x : A) → r ≡ Ok x → IsOk r
ok_of (Ok y) x e = refl
ok_of (Err y) x e = absurd cc

live_of : (s : State) (node : ℕ) → IsOk (live_file s node) → Lives s node
live_of s node ok = let p = passed (live s node) (λ kind. as_file s kind) ok in lives_by s node (node_at s.names node) refl (ok_of (live s node) p.value p.is)

dir_of : (s : State) (node : ℕ) → IsOk (live_dir s node) → Lives s node
dir_of s node ok = let p = passed (live s node) (λ kind. needs (is_dir kind) Enotdir) ok in lives_by s node (node_at s.names node) refl (ok_of (live s node) p.value p.is)

record MayOpen (s : State) (node : ℕ) : Type 0 where
  pub lives : Lives s node
  pub few : length s.open_handles + 1 ≤ 4096

first_of : (a b : Bool) → (a && b) ≡ true → a ≡ true
first_of true b e = refl
first_of false b e = absurd cc

less : (a b : ℕ) → nat_lt a b ≡ true → a + 1 ≤ b
less a b e = grind (arith, nat_tests)

few_of : (es : Opened) (given : ℕ) → may_open es given ≡ true → length es + 1 ≤ 4096
unfolding may_open
few_of es given e = less (length es) 4096 (first_of (nat_lt (length es) 4096) (nat_lt given (2 ^ 64 - 1)) e)

opens : (s : State) (node flags : ℕ) → IsOk (message_aim s node (opening flags)) → MayOpen s node
unfolding message_aim ready_aim open_aim
opens s node flags ok =
    let r = passed (needs s.ready Eproto) _ ok in
    let f = passed (live_file s node) _ r.rest in
    let w = passed (needs (may_be_opened f.value flags) Eacces) _ f.rest in
    let m = passed (needs (may_open s.open_handles s.given) Enospc) _ w.rest in
    record { lives = live_of s node (ok_of (live_file s node) f.value f.is); few = few_of s.open_handles s.given (needed (may_open s.open_handles s.given) Enospc m.value m.is) }

opens_dir : (s : State) (node : ℕ) → IsOk (message_aim s node opendir) → MayOpen s node
unfolding message_aim ready_aim opendir_aim
opens_dir s node ok =
    let r = passed (needs s.ready Eproto) _ ok in
    let d = passed (live_dir s node) _ r.rest in
    let m = passed (needs (may_open s.open_handles s.given) Enospc) _ d.rest in
    record { lives = dir_of s node (ok_of (live_dir s node) d.value d.is); few = few_of s.open_handles s.given (needed (may_open s.open_handles s.given) Enospc m.value m.is) }

node_is : (o : Option ℕ) (node : ℕ) → is_of o node ≡ true → o ≡ Some node
node_is None node e = absurd cc
node_is (Some n) node e = ap Some (eq_of n node e)

holds_it : (es : Opened) (fh node : ℕ) → holds es fh node ≡ true → node_of fh es ≡ Some node
unfolding holds
holds_it es fh node e = node_is (node_of fh es) node e

releases : (s : State) (node fh : ℕ) → IsOk (message_aim s node (release fh)) → node_of fh s.open_handles ≡ Some node
unfolding message_aim ready_aim handled_aim
releases s node fh ok =
    let r = passed (needs s.ready Eproto) _ ok in
    let f = passed (live_file s node) _ r.rest in
    let h = passed (held s fh node) _ f.rest in
    holds_it s.open_handles fh node (needed (holds s.open_handles fh node) Ebadf h.value h.is)

releases_dir : (s : State) (node fh : ℕ) → IsOk (message_aim s node (releasedir fh)) → node_of fh s.open_handles ≡ Some node
unfolding message_aim ready_aim releasedir_aim
releases_dir s node fh ok =
    let r = passed (needs s.ready Eproto) _ ok in
    let d = passed (live_dir s node) _ r.rest in
    let h = passed (held s fh node) _ d.rest in
    holds_it s.open_handles fh node (needed (holds s.open_handles fh node) Ebadf h.value h.is)

-- ---- each answer

abbrev IsRefused : Answer → Type 0
IsRefused (reply.refused e) = Unit {0}
IsRefused other = ⊥

answered : (r : Result Aim Errno) (t : Around) (a : Answer) (c : Option Cause) → FuseRow r t a c → (IsRefused a → ⊥) → IsOk r
answered (Ok aim) t a c row not_refused = refl
answered (Err e) t a c row not_refused = absurd (not_refused (subst IsRefused (sym row.1.answer_is) tt))

unless : (s new : State) (E : Type 0) (a : Answer) → AreTied s → UnlessRefused s new E a → ((IsRefused a → ⊥) → E → AreTied new) → AreTied new
unless s new E (reply.refused e) w u f = subst AreTied (sym u) w
unless s new E reply.silent w u f = f (λ x. x) u
unless s new E reply.empty w u f = f (λ x. x) u
unless s new E (reply.entry x) w u f = f (λ x. x) u
unless s new E (reply.attributes x) w u f = f (λ x. x) u
unless s new E (reply.opened h) w u f = f (λ x. x) u
unless s new E (reply.created x h) w u f = f (λ x. x) u
unless s new E (reply.written n) w u f = f (λ x. x) u
unless s new E reply.statfs_out w u f = f (λ x. x) u
unless s new E (reply.inited x) w u f = f (λ x. x) u
unless s new E (reply.bytes_out bytes) w u f = f (λ x. x) u

same : (s new : State) → new ≡ s → AreTied s → AreTied new
same s new e w = subst AreTied (sym e) w

tied_files : (s new : State) → new ≡ with_writables s new.writables → AreTied s → AreTied new
tied_files s new e w = subst AreTied (sym e) (record { rising = w.rising; few = w.few; pins = w.pins })

tied_names : (s : State) (names : Names) → ((q : ℕ) → pins_at names.nodes q ≡ pins_at s.names.nodes q) → AreTied s → AreTied (with_names s names)
tied_names s names kept w = record { rising = w.rising; few = w.few; pins = λ q. kept q ∙ w.pins q }

tied_looked : (s : State) (r : Result ℕ Errno) → AreTied s → AreTied (counted s r)
tied_looked s (Ok node) w = tied_names s (looked_up s.names node) (pins_looked s.names node) w
tied_looked s (Err e) w = w

tied_if : (s t : State) (b : Bool) → AreTied s → AreTied t → AreTied (if b then t else s)
tied_if s t true w v = v
tied_if s t false w v = w

tied_init : (s : State) (major : ℕ) → AreTied s → AreTied (initialised s major)
tied_init s major w = record { rising = w.rising; few = w.few; pins = w.pins }

one : (k : ℕ) → k ≤ 4096 → one_more k ≡ k + 1
one k le = grind (arith, nat_tests)

tied_opened : (s : State) (node : ℕ) → MayOpen s node → AreTied s → AreTied (with_handle s node)
unfolding pinned
tied_opened s node may w = record {
  rising = rising_push 1 s.given node s.open_handles w.rising;
  few = let len = length_push s.open_handles (s.given + 1, node) in let room = may.few in omega arith;
  pins = λ q. pins_changed s.names.nodes node q (λ x. with_pins (one_more x.pins) x) ∙ by q (nat_eq q node) refl ∙ sym (handles_push q (s.given + 1) node s.open_handles);
} where
  few_pins : may.lives.it.pins ≤ 4096
  few_pins = let own : may.lives.it.pins ≡ handles_of node s.open_handles = sym (ap pins_of may.lives.there) ∙ w.pins node in let all = handles_few node s.open_handles in let few = w.few in omega arith

  by : (q : ℕ) (b : Bool) → nat_eq q node ≡ b → pins_of (cond b (option_map (λ (x : Node). with_pins (one_more x.pins) x) (node_at s.names node)) (node_at s.names q)) ≡ (if b then handles_of q s.open_handles + 1 else handles_of q s.open_handles)
  by q true e = ap (λ o. pins_of (option_map (λ (x : Node). with_pins (one_more x.pins) x) o)) may.lives.there ∙ one may.lives.it.pins few_pins ∙ ap (λ k. k + 1) (sym (ap pins_of may.lives.there) ∙ w.pins node ∙ ap (λ k. handles_of k s.open_handles) (sym (eq_of q node e)))
  by q false e = w.pins q

minus_by : (b : Bool) (p k : ℕ) → p ≡ (if b then k + 1 else k) → (if b then p - 1 else p) ≡ k
minus_by true p k e = omega arith
minus_by false p k e = e

map_less : (o : Option Node) → pins_of (option_map (λ (x : Node). with_pins (x.pins - 1) x) o) ≡ pins_of o - 1
map_less None = refl
map_less (Some x) = refl

tied_released : (s : State) (node fh : ℕ) → node_of fh s.open_handles ≡ Some node → AreTied s → AreTied (without_handle s node fh)
unfolding unpinned
tied_released s node fh is w = record {
  rising = rising_closed 1 s.given fh s.open_handles w.rising;
  few = let less = length_closed fh s.open_handles in let few = w.few in omega arith;
  pins = λ q. pins_settled _ node q ∙ pins_changed s.names.nodes node q (λ x. with_pins (x.pins - 1) x) ∙ by q (nat_eq q node) refl ∙ minus_by (nat_eq q node) (pins_at s.names.nodes q) (handles_of q (closed fh s.open_handles)) (w.pins q ∙ handles_closed q fh node s.open_handles is);
} where
  by : (q : ℕ) (b : Bool) → nat_eq q node ≡ b → pins_of (cond b (option_map (λ (x : Node). with_pins (x.pins - 1) x) (node_at s.names node)) (node_at s.names q)) ≡ (if b then pins_at s.names.nodes q - 1 else pins_at s.names.nodes q)
  by q true e = map_less (node_at s.names node) ∙ ap (λ k. pins_at s.names.nodes k - 1) (sym (eq_of q node e))
  by q false e = refl

tied_destroyed : (s new : State) → IsDestroyed s new → AreTied new
tied_destroyed s new d = record {
  rising = rw d.handles (omega arith);
  few = rw d.handles (omega arith);
  pins = λ q. pins_reset s.names new.names d.names q ∙ sym (ap (handles_of q) d.handles);
}

becomes : (s : State) (node : ℕ) (asked : Asked) (t : Around) (a : Answer) (c : Option Cause) (new : State) → AreTied s → FuseRow (message_aim s node asked) t a c → Becomes s node asked a new → AreTied new
becomes s node (init i j k l) t a c new w row u = unless s new _ a w u (λ n e. same _ new e (tied_init s i w))
becomes s node (lookup name) t a c new w row u = unless s new _ a w u (λ n e. same _ new e (tied_looked s (lookup_check s.names.nodes node name) w))
becomes s node (forget k) t a c new w row u = unless s new _ a w u (λ n e. same _ new e (tied_if s _ s.ready w (tied_names s (forgotten s.names node k) (pins_forgotten s.names node k) w)))
becomes s node (batch_forget pairs) t a c new w row u = unless s new _ a w u (λ n e. same _ new e (tied_if s _ s.ready w (tied_names s (all_forgotten s.names pairs) (all_pins s.names pairs) w)))
becomes s node interrupt t a c new w row u = same s new u w
becomes s node getattr t a c new w row u = same s new u w
becomes s node (setattr valid size) t a c new w row u = tied_files s new u w
becomes s node (opening flags) t a c new w row u = unless s new _ a w u (λ n e. same _ new e (tied_opened s node (opens s node flags (answered _ t a c row n)) w))
becomes s node opendir t a c new w row u = unless s new _ a w u (λ n e. same _ new e (tied_opened s node (opens_dir s node (answered _ t a c row n)) w))
becomes s node (read fh offset size) t a c new w row u = tied_files s new u w
becomes s node (write fh offset bytes) t a c new w row u = tied_files s new u w
becomes s node (flush fh) t a c new w row u = same s new u w
becomes s node (fsync fh) t a c new w row u = tied_files s new u w
becomes s node (release fh) t a c new w row u = unless s new _ a w u (λ n e. same _ new e (tied_released s node fh (releases s node fh (answered _ t a c row n)) w))
becomes s node (releasedir fh) t a c new w row u = unless s new _ a w u (λ n e. same _ new e (tied_released s node fh (releases_dir s node fh (answered _ t a c row n)) w))
becomes s node (readdir fh offset size) t a c new w row u = same s new u w
becomes s node (create name) t a c new w row u = same s new u w
becomes s node (mkdir name) t a c new w row u = same s new u w
becomes s node (unlink name) t a c new w row u = same s new u w
becomes s node (rmdir name) t a c new w row u = same s new u w
becomes s node statfs t a c new w row u = same s new u w
becomes s node destroy t a c new w row u = unless s new _ a w u (λ n e. tied_destroyed s new e)

pub ties_stay : TiesStay
ties_stay s (Ok m) a answer c new w is = becomes s m.node m.asked a answer c new w is.row is.next
ties_stay s (Err bad) a answer c new w is = same s new is.next w

pub tied_at_first : TiedAtFirst
tied_at_first names files writables none = record { rising = omega arith; few = omega arith; pins = none }
