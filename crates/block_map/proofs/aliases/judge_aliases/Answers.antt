use Rattle.std.proofs.Common.{◌≡◌, ◌+◌, ℕ, List, Some, None, sym, ap, subst, ◌∙◌, arith}
use Rattle.std.specs.BTreeMap.{BTreeMap}
use Rattle.std.specs.Borrow.{Bor}
use Rattle.std.specs.Map.{update}
use Rattle.std.specs.Str.{bytes_eq}
use Rattle.std.proofs.lemmas.Map.Text.{btree_map_updates_str}
use Rattle.composite_spec.specs.Said.{Composite, composite}
use Rattle.block_map.specs.Disk.{path_at}
use Rattle.block_map.proofs.Components.{same_count}
use Rattle.block_map.proofs.Firsts.{IsFirst, found, Knows, known_kept, known_new, clear_new, clear_kept, alias_pair}
use Rattle.block_map.proofs.aliases.judge_aliases.Goals as goal
use Rattle.block_map.proofs.aliases.judge_aliases.Goals.{in-Some+else-one_writable, in-None+in_ok-insert-in-None}

pub one_writable-requires : goal.one_writable-requires
one_writable-requires c =
    let s : Composite = composite c.args.spec.now in
    let b : ℕ = c.loop-b.b in
    let here : found c.loop-b.firsts (path_at s b) ≡ Some c.in-Some.a = ap (found c.loop-b.firsts) (sym c.path_at-path.ensures) ∙ sym c.get.ensures.value ∙ sym c.copied.ensures ∙ c.in-Some.is in
    let first : IsFirst s b (path_at s b) (Some c.in-Some.a) = subst (IsFirst s b (path_at s b)) here (c.loop-b.invariant.knows (path_at s b)) in
    let count = same_count c.args.spec.now.components.items in
    record { first = omega (arith, first.0); second = omega arith }

pub returns-then-one_writable : goal.returns-then-one_writable
returns-then-one_writable c =
    let s : Composite = composite c.args.spec.now in
    let b : ℕ = c.loop-b.b in
    let here : found c.loop-b.firsts (path_at s b) ≡ Some c.in-Some.a = ap (found c.loop-b.firsts) (sym c.path_at-path.ensures) ∙ sym c.get.ensures.value ∙ sym c.copied.ensures ∙ c.in-Some.is in
    let first : IsFirst s b (path_at s b) (Some c.in-Some.a) = subst (IsFirst s b (path_at s b)) here (c.loop-b.invariant.knows (path_at s b)) in
    let pair = alias_pair s b c.in-Some.a first (sym c.one_writable.ensures ∙ c.if-one_writable.true) in
    let count = same_count c.args.spec.now.components.items in
    (first.0, omega arith, pair.pair, c.loop-b.invariant.clear, pair.least)

pub loop-b-preserved : goal.loop-b-preserved
loop-b-preserved c =
    let s : Composite = composite c.args.spec.now in
    let b : ℕ = c.loop-b.b in
    let m : BTreeMap (Bor (List ℕ)) ℕ = c.loop-b.firsts in
    let looked : found m (path_at s b) ≡ c.copied.result = ap (found m) (sym c.path_at-path.ensures) ∙ sym c.get.ensures.value ∙ sym c.copied.ensures in
    elim c.match-copied.branch [
      | in-Some+else-one_writable w ↦
          let here : found m (path_at s b) ≡ Some w.in-Some.a = looked ∙ w.in-Some.is in
          let first : IsFirst s b (path_at s b) (Some w.in-Some.a) = subst (IsFirst s b (path_at s b)) here (c.loop-b.invariant.knows (path_at s b)) in
          let knows : Knows s (b + 1) m = known_kept s b w.in-Some.a m c.loop-b.invariant.knows here in
          record {
            clear = clear_kept s b w.in-Some.a c.loop-b.invariant.clear first (sym w.one_writable.ensures ∙ w.if-one_writable.false);
            knows = subst (Knows s (b + 1)) (sym w.firsts-is) knows;
          }
      | in-None+in_ok-insert-in-None w ↦
          let here : found m (path_at s b) ≡ None = looked ∙ w.in-None.is in
          let none : IsFirst s b (path_at s b) None = subst (IsFirst s b (path_at s b)) here (c.loop-b.invariant.knows (path_at s b)) in
          let n : BTreeMap (Bor (List ℕ)) ℕ = w.insert.new.self in
          let put : (q : List ℕ) → found n q ≡ update bytes_eq (found m) (path_at s b) (Some b) q =
          subst (λ (p : List ℕ). (q : List ℕ) → found n q ≡ update bytes_eq (found m) p (Some b) q) c.path_at-path.ensures
          (btree_map_updates_str c.path_at-path.result.now m n (Some b) w.in_ok-insert-in-None.ensures.updates) in
          record {
            clear = clear_new s b c.loop-b.invariant.clear none;
            knows = subst (Knows s (b + 1)) (sym w.firsts-is) (known_new s b m n c.loop-b.invariant.knows here put);
          }
    ]
