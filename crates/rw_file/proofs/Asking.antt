-- A call for the bytes that the file has in a block.
use Rattle.std.proofs.Common.{◌≡◌, ℕ, ◌-◌, ◌*◌, ◌<◌, ◌≤◌, ◌∙◌, List, [], ◌∷◌, length, min, Ok, Err, refl, ap, sym, subst, inl, arith, take, drop}
use Rattle.std.proofs.lemmas.List.{length-take, length-drop}
use Rattle.host_traits.specs.declared.calls.Call.{Call}
use Rattle.host_traits.specs.declared.calls.Call.TheVariants.{FileRead}
use Rattle.host_traits.specs.declared.calls.Said.{Said}
use Rattle.host_traits.specs.declared.calls.Said.TheVariants.{Bytes}
use Rattle.host_traits.specs.Told.{Told, Answered, Refused, Unheard, Kind, kind_of, kind_bytes, kind_number, kind_done}
use Rattle.host_traits.proofs.Doing.{is_failed}
use Rattle.leaf_tree.specs.Worked.{one_ask, one_put}
use Rattle.leaf_tree.proofs.Working.{worked_answered, worked_refused, worked_unheard}
use Rattle.host_traits.specs.Did.{Trace, trace_of, IsFailed}
use Rattle.leaf_tree.specs.Worked.{Worked, HandsPage}
use Rattle.verity_path.specs.declared.walk.WalkFault.TheVariants as walk
use Rattle.rw_file.specs.Calls.{block_read}
use Rattle.rw_file.specs.Steps.{IsThis, AskOutcome}
use Rattle.rw_file.proofs.Ordered.{tried_last}
use Rattle.rw_file.proofs.Holding.{held_by, held_refused, held_unheard, still_read, still_same, read_bytes}

-- one exchange
pub once : (call : Call) (said : Said) (x y : Told) (given : List ℕ) → Answered call given said x y → HandsPage call given → one_put call ≤ 0 →
    (most : ℕ) → 1 ≤ most → (R : Trace → Type 0) → R (trace_of ((call, said) ∷ []) 0 x y) → Worked HandsPage 0 (IsThis call) most x y R
once call said x y given a hands put most le R r = worked_answered _ _ (IsThis call) call given said most x y R refl hands put (omega (arith, le, one_at_most (kind_of call))) a r where
  one_at_most : (kind : Kind) → one_ask kind ≤ 1
  one_at_most (kind_bytes n) = omega arith
  one_at_most kind_number = omega arith
  one_at_most kind_done = omega arith

module _ (file size i want : ℕ) (want_is : want ≡ min (size - 4096 * i) 4096) (x y : Told) where
  same : FileRead file (4096 * i) want ≡ block_read file size i
  same = ap (λ (n : ℕ). FileRead file (4096 * i) n) want_is

  module _ (raw : List ℕ) (a : Answered (FileRead file (4096 * i) want) [] (Bytes raw) x y) where
    answered : Answered (block_read file size i) [] (Bytes raw) x y
    answered = subst (λ (call : Call). Answered call [] (Bytes raw) x y) same a

    long_enough : (c : List ℕ) → size ≡ length c → raw ≡ take want (drop (4096 * i) c) → length raw < want → ⊥
    long_enough c size_is is few = omega (arith, ap length is, length-take want (drop (4096 * i) c), length-drop (4096 * i) c, want_is, size_is, few)

    pub ask_short : (got : ℕ) → got ≡ length raw → got < want →
        Worked HandsPage 0 (IsThis (block_read file size i)) 1 x y (AskOutcome file size i x.held y.held raw (Err (walk.Short want got)))
    ask_short got is few = once (block_read file size i) (Bytes raw) x y [] answered refl (omega arith) 1 (omega arith) _ (
      still_read file (4096 * i) want [] (Bytes raw) x.held y.held (held_by (FileRead file (4096 * i) want) [] (Bytes raw) x y a),
      (
        record {
          short = record { failed = refl; call = block_read file size i; bytes = raw; own = inl refl; asks = ap kind_bytes (sym want_is); got_is = is; short = few };
          last = record { before = []; is = refl };
        },
        λ c size_is held. long_enough c size_is (read_bytes file (4096 * i) want [] raw x.held y.held (held_by (FileRead file (4096 * i) want) [] (Bytes raw) x y a) c held) (omega (arith, is, few)),
      ),
      record { rest = []; order = refl; few = omega arith },
    )

    pub ask_ok : length raw ≤ want → want ≤ length raw → (u : Unit {0}) →
        Worked HandsPage 0 (IsThis (block_read file size i)) 1 x y (AskOutcome file size i x.held y.held raw (Ok u))
    ask_ok most least u = once (block_read file size i) (Bytes raw) x y [] answered refl (omega arith) 1 (omega arith) _ (record {
      failed = refl;
      own_is = refl;
      count = omega (arith, want_is, most, least);
      still = still_read file (4096 * i) want [] (Bytes raw) x.held y.held (held_by (FileRead file (4096 * i) want) [] (Bytes raw) x y a);
      bytes = λ c held. read_bytes file (4096 * i) want [] raw x.held y.held (held_by (FileRead file (4096 * i) want) [] (Bytes raw) x y a) c held ∙ ap (λ (n : ℕ). take n (drop (4096 * i) c)) want_is;
    })

  pub ask_failed : (raw : List ℕ) (faults : ℕ) → Refused (FileRead file (4096 * i) want) [] x y → faults ≡ y.faults →
      Worked HandsPage 0 (IsThis (block_read file size i)) 1 x y (AskOutcome file size i x.held y.held raw (Err (walk.Failed faults)))
  ask_failed raw faults r is =
      let refused : Refused (block_read file size i) [] x y = subst (λ (call : Call). Refused call [] x y) same r in
      worked_refused _ _ (IsThis (block_read file size i)) (block_read file size i) [] 1 x y _ refl refl (omega arith) (omega arith) refused
      (still_same file x.held y.held (held_refused (block_read file size i) [] x y refused), blame refused, tried_last (block_read file size i) refl (trace_of [] 1 x y) faults (blame refused) refl) where
        blame : Refused (block_read file size i) [] x y → IsFailed (IsThis (block_read file size i)) (trace_of [] 1 x y) faults
        blame refused = is_failed (IsThis (block_read file size i)) (block_read file size i) [] x y [] faults refl refused is

  pub ask_memory : (raw : List ℕ) → Unheard x y →
      Worked HandsPage 0 (IsThis (block_read file size i)) 1 x y (AskOutcome file size i x.held y.held raw (Err walk.Memory))
  ask_memory raw u = worked_unheard _ _ (IsThis (block_read file size i)) 1 x y _ u (still_same file x.held y.held (held_unheard x y u), record { failed = refl; scarce = u.scarce }, record { rest = block_read file size i ∷ []; order = refl; few = omega arith })
